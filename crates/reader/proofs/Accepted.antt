-- The reader's promise: a case that is not refused starts a state in range, with empty buffers, registers and positions 0 and flags clear.
use Prim.Native.Nat.{ℕ, ◌<◌}
use mathlib.Core.Bool.{Bool, true, false}
use mathlib.Core.Path.{◌≡◌, refl, ap}
use mathlib.Core.List.{List}
use native.Mathlib.Omega.{arith}
use lib.ListN.{get_or-replicate}
use borrow.Author.Tests.{eqb-true, eqb-false}
use Rattle.reader.specs.Reading.{Judged, Part, Reading}
use Rattle.reader.specs.declared.state.State.{State}
use Rattle.reader.specs.Limits.{THREADS}
use Rattle.reader.specs.Bytes.{byte}
use Rattle.reader.specs.State.{no_queue, outside_queue, queue_of, fresh_of}
use Rattle.reader.specs.Rules.{pick}
use Rattle.reader.specs.Range.{CellIn, ProgramIn, InRange, Shaped, Started, WellFormed}
use Rattle.reader.specs.Case.{fine, after, front_judged, sizes_judged, sized_of, cells_of, programs_of, scheduled_of, refused_of, read_of}
use Rattle.reader.proofs.Kept.{Kept, kept_all, kept_threads, kept_cells, cells_kept, programs_kept}
use Rattle.reader.proofs.Parts.{Sizes, sizes_fine, first_part}
use Rattle.reader.proofs.CellRange.{cells_in}
use Rattle.reader.proofs.ProgramRange.{programs_in}
use Rattle.reader.proofs.ScheduleRange.{schedule_right}

chosen_fine : (j : Judged) (r : Reading) (t : Bool) → fine j ≡ t → (pick t r (refused_of j)).number ≡ 0 → (j.number ≡ 0) × (pick t r (refused_of j) ≡ r)
unfolding refused_of
chosen_fine j r true z e = (eqb-true _ _ z, refl)
chosen_fine j r false z e = absurd (eqb-false _ _ z e)

-- what holds of the reading that comes after a part, where the part is fine
through : (P : Reading → Type 0) (j : Judged) (r : Reading) → (j.number ≡ 0 → r.number ≡ 0 → P r) → (after j r).number ≡ 0 → P (after j r)
through P j r k e = let f = chosen_fine j r (fine j) refl e in rw f.1 (k f.0 (rw f.1 at e))

module _ (s : List ℕ) (m : State) (k : Kept (sized_of s) m) where
  same_queues : m.queues ≡ fresh_of.queues
  same_queues = ap (λ (x : State). x.queues) k.frame

  same_positions : m.positions ≡ fresh_of.positions
  same_positions = ap (λ (x : State). x.positions) k.frame

  start_started : Started m
  start_started = record { queues = same_queues; registers = ap (λ (x : State). x.registers) k.frame; positions = same_positions; dirty = ap (λ (x : State). x.dirty) k.frame }

  empty : (t : ℕ) → t < THREADS → queue_of m t ≡ no_queue
  empty t h = rw same_queues (get_or-replicate THREADS t no_queue outside_queue h)

  start_shaped : Shaped m
  start_shaped =
      let g = start_started in
      record {
        positions = rw g.positions;
        counts = k.counts;
        queues = rw g.queues;
        entries = λ t h. rw (empty t h);
        code = k.code;
        registers = rw g.registers;
        memory = k.memory;
        dirty = rw g.dirty;
        owners = k.owners;
        sharing = k.sharing;
      }

  module _ (z : Sizes s) (cells : (c : ℕ) → c < byte s 4 → CellIn m c) (programs : (t : ℕ) → t < byte s 3 → ProgramIn m t) where
    start_in : InRange m
    start_in =
        let kt : m.threads ≡ byte s 3 = kept_threads k in
        let kc : m.cells ≡ byte s 4 = kept_cells k in
        let kd : m.depth ≡ byte s 5 = ap (λ (x : State). x.depth) k.frame in
        let bt = z.threads.most in
        record {
          some_threads = rw kt z.threads.least;
          threads = rw kt z.threads.most;
          some_cells = rw kc z.cells.least;
          cells = rw kc z.cells.most;
          some_depth = rw kd z.depth.least;
          depth = rw kd z.depth.most;
          cell = λ c h. cells c (rw kc at h);
          program = λ t h. programs t (rw kt at h);
          queue = λ t h. let e = empty t (omega arith) in record { few = rw e (omega arith); exists = λ i l. absurd (none i (rw e at l)) };
          position = λ t h. rw (same_positions, get_or-replicate {A = ℕ} THREADS t 0 0 (omega arith)) (omega arith);
        }
      where
        none : (i : ℕ) → i < 0 → ⊥
        none i l = omega arith

-- the cells stay as they were read while the programs are read
cells_stay : {m n : State} → (n.threads ≡ m.threads) → (n.owners ≡ m.owners) × (n.sharing ≡ m.sharing) → (c : ℕ) → CellIn m c → CellIn n c
cells_stay t (a, b) c h = record { owner = rw (a, t) h.owner; sharing = rw b h.sharing; unowned = rw (a, b) h.unowned }

module _ (s : List ℕ) where
  scheduled_right : (a : Part) → Shaped a.state → InRange a.state → Started a.state → (scheduled_of s a).number ≡ 0 → WellFormed s (scheduled_of s a)
  unfolding scheduled_of
  scheduled_right a f g h = through (WellFormed s) _ _ (λ z e. record { shaped = f; in_range = g; started = h; schedule = schedule_right s a.state.threads a.judged.place z })

  -- what was read of the cells and the programs, where neither is refused
  parts_right : Sizes s → (cells_of s (first_part s)).judged.number ≡ 0 → (programs_of s (cells_of s (first_part s))).judged.number ≡ 0 → Shaped (programs_of s (cells_of s (first_part s))).state × InRange (programs_of s (cells_of s (first_part s))).state × Started (programs_of s (cells_of s (first_part s))).state
  parts_right z zc za =
      let o = sized_of s in
      let c = cells_of s (first_part s) in
      let m = (programs_of s c).state in
      let k = cells_kept s o (first_part s) (kept_all o) in
      let t : c.state.threads ≡ byte s 3 = kept_threads k in
      let g = cells_in o (refl, refl) s (first_part s) z.cells.most (kept_all o) zc in
      let b = z.threads.most in
      let p = programs_in c.state (k.counts, k.code) s c (omega arith) (record { kept = kept_all c.state; table = (refl, refl); program = λ u h. absurd (omega arith) }) za in
      let l = programs_kept s o c k in
      (start_shaped s m l, start_in s m l z (λ i h. cells_stay (kept_threads p.kept) p.table i (g.cell i h)) (λ u h. p.program u (rw t h)), start_started s m l)

  pub accepted : (read_of s).number ≡ 0 → WellFormed s (read_of s)
  unfolding read_of
  accepted =
      let c = cells_of s (first_part s) in
      let a = programs_of s c in
      through (WellFormed s) (front_judged s) _ (λ zf.
      through (WellFormed s) (sizes_judged s) _ (λ zs.
      through (WellFormed s) c.judged _ (λ zc.
      through (WellFormed s) a.judged _ (λ za.
      let r = parts_right (sizes_fine s zs) zc za in
      scheduled_right a r.0 r.1 r.2))))
