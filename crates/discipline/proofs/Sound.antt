-- What a run keeps of its states: in range, every array as long as its type says.
use Prim.Native.Nat.{ℕ, ◌<◌, ◌≤◌}
use mathlib.Core.Path.{◌≡◌, refl}
use native.Mathlib.Omega.{arith}
use native.Mathlib.Decide.{ℕ_discrete}
use lib.ListN.{length-set}
use Rattle.reader.specs.declared.state.Instruction.{Instruction}
use Rattle.reader.specs.declared.state.State.{State}
use Rattle.reader.specs.State.{queue_of, position_of, count_of}
use Rattle.reader.specs.Drain.{drained_of}
use Rattle.reader.specs.Range.{CellIn}
use Rattle.machine.specs.declared.action.Action.{Action}
use Rattle.machine.specs.Action.{action_of, current_of, next_of}
use Rattle.machine.specs.Effect.{cell_of, blocked_of, took_of}
use Rattle.machine.specs.Step.{next_effect}
use Rattle.machine.proofs.Ten.{ten}
use Rattle.machine.proofs.Take.{row_below, row_few, current_in, current_cell}
use Rattle.machine.proofs.Kept.{in_drained}
use Rattle.machine.proofs.InRange.{took_in, next_goes}
use Rattle.machine.proofs.Shape.{shaped_drained, shaped_took}
use Rattle.discipline.specs.declared.table.Held.{Held}
use Rattle.discipline.specs.Table.{held_of, acquired, released, flagged, holding_of}
use Rattle.discipline.specs.Marks.{stored_of, marks_of}
use Rattle.discipline.specs.Run.{Runnable}
use Rattle.discipline.specs.Step.{next_held, next_marks}
use Rattle.discipline.proofs.Holding.{owner_same, sharing_same, owner_other, sharing_other}

-- what may be held of a cell
record HeldIn (threads : ℕ) (h : Held) : Type 0 where
  owner : h.owner ≤ threads
  sharing : h.sharing ≤ 1
  unowned : h.owner ≡ 0 → h.sharing ≡ 1

module _ {m : State} (g : Runnable m) (t : ℕ) (i : Instruction) (b : cell_of i < m.cells) {h : Held} (k : HeldIn m.threads h) where
  new_cell : CellIn (holding_of m t i h) (cell_of i)
  unfolding holding_of
  new_cell =
      let n = g.in_range.cells in
      let o = owner_same m t i h g.shaped (omega arith) in
      let d = sharing_same m t i h g.shaped (omega arith) in
      record { owner = rw o k.owner; sharing = rw d k.sharing; unowned = rw (o, d) k.unowned }

  old_cell : (c : ℕ) → (c ≡ cell_of i → ⊥) → CellIn m c → CellIn (holding_of m t i h) c
  unfolding holding_of
  old_cell c ne x =
      let o = owner_other m t i h c ne in
      let d = sharing_other m t i h c ne in
      record { owner = rw o x.owner; sharing = rw d x.sharing; unowned = rw (o, d) x.unowned }

  any_cell : (c : ℕ) → c < m.cells → CellIn (holding_of m t i h) c
  any_cell c l = go (ℕ_discrete c (cell_of i))
    where
      go : Dec (c ≡ cell_of i) → CellIn (holding_of m t i h) c
      go (yes e) = rw e new_cell
      go (no ne) = old_cell c ne (g.in_range.cell c l)

  holding_sound : Runnable (holding_of m t i h)
  unfolding holding_of
  holding_sound =
      let r = g.in_range in
      let s = g.shaped in
      record {
        in_range = record {
          some_threads = r.some_threads;
          threads = r.threads;
          some_cells = r.some_cells;
          cells = r.cells;
          some_depth = r.some_depth;
          depth = r.depth;
          cell = any_cell;
          program = λ u l. let x = r.program u l in record { few = x.few; right = x.right };
          queue = λ u l. let x = r.queue u l in record { few = x.few; exists = x.exists };
          position = r.position;
        };
        shaped = record {
          positions = s.positions;
          counts = s.counts;
          queues = s.queues;
          entries = s.entries;
          code = s.code;
          registers = s.registers;
          memory = s.memory;
          dirty = simp length-set s.dirty;
          owners = simp length-set s.owners;
          sharing = simp length-set s.sharing;
        };
      }

-- what an action leaves held
module _ {threads : ℕ} (h : Held) where
  marks_flagged : (f : ℕ) → HeldIn threads h → HeldIn threads (flagged h f)
  marks_flagged f k = record { owner = k.owner; sharing = k.sharing; unowned = k.unowned }

  marks_stored : (t : ℕ) → HeldIn threads h → HeldIn threads (stored_of h t)
  unfolding stored_of
  marks_stored t k = marks_flagged (stored_of h t).dirty k

  marks_acquired : {t mark : ℕ} → t < threads → mark ≤ 1 → HeldIn threads (acquired h t mark)
  marks_acquired l m = record { owner = omega arith; sharing = m; unowned = λ z. absurd (omega arith) }

  marks_released : HeldIn threads (released h)
  marks_released = record { owner = omega arith; sharing = omega arith; unowned = λ z. refl }

module _ {s : State} (g : Runnable s) {t : ℕ} (h : t < s.threads) where
  pub drained_sound : ((queue_of s t).count ≡ 0 → ⊥) → Runnable (drained_of s t)
  drained_sound n =
      let f = row_few g.in_range h in
      record { in_range = in_drained g.in_range h (omega arith); shaped = shaped_drained g.shaped (row_below g.in_range h) (omega arith) f }

  module _ (l : position_of s t < count_of s t) where
    held_in : HeldIn s.threads (next_held s t)
    unfolding held_of
    held_in = let c = g.in_range.cell (cell_of (current_of s t)) (current_cell g.in_range h l) in record { owner = c.owner; sharing = c.sharing; unowned = c.unowned }

    marks_in : HeldIn s.threads (next_marks s t)
    unfolding action_of marks_of
    marks_in =
        let c = current_in g.in_range h l in
        let x = next_held s t in
        let k = held_in in
        rw (next_goes s t l)
        (ten (λ (n : ℕ) (a : Action). HeldIn s.threads (marks_of x t a)) _ _ _ _ _ _ _ _ _ _
        k (marks_stored x t k) (marks_stored x t k) (marks_flagged x 0 k) (marks_flagged x 0 k) (marks_acquired x h (omega arith)) (marks_acquired x h (omega arith)) (marks_released x) k k
        (current_of s t).operation c.known c.last)

    pub took_sound : blocked_of s.depth (queue_of s t) (next_of s t) ≡ 0 → Runnable (holding_of (took_of s t (current_of s t) (next_effect s t)) t (current_of s t) (next_marks s t))
    unfolding took_of
    took_sound z =
        let m : Runnable (took_of s t (current_of s t) (next_effect s t)) = record { in_range = took_in g.in_range h l z; shaped = shaped_took g.shaped (row_below g.in_range h) (current_of s t) (next_effect s t) } in
        holding_sound m t (current_of s t) (current_cell g.in_range h l) marks_in
