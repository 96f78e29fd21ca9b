-- The test is the reader's promise: it holds of a state in range, and of no other.
use Prim.Native.Nat.{ℕ, ◌+◌, ◌≤◌, ◌<◌}
use mathlib.Core.Bool.{true}
use mathlib.Core.Path.{◌≡◌}
use native.Mathlib.Omega.{arith}
use native.Mathlib.Decide.{ℕ_discrete}
use lib.Dec.{leb, ltb}
use borrow.Author.Tests.{leb-true, ltb-true, le-leb, lt-ltb}
use Rattle.std.proofs.lemmas.Bool.{and_parts, and_from}
use Rattle.reader.specs.declared.state.State.{State}
use Rattle.reader.specs.Limits.{THREADS, CELLS, DEPTH}
use Rattle.reader.specs.State.{queue_of, count_of, owner_of, sharing_of}
use Rattle.reader.specs.Rules.{within, cell_bytes, cell_wrong}
use Rattle.reader.specs.Range.{CellIn, ProgramIn, QueueIn, InRange}
use Rattle.reader.proofs.Tests.{within_true}
use Rattle.reader.proofs.Instructions.{checked}
use Rattle.stepping.specs.Range.{all_below, pending_fits, queue_fits, sizes_fit, cell_fits, instruction_fits, program_fits, position_fits, thread_fits, in_range_of}
use Rattle.stepping.proofs.Tests.{true_within}
use Rattle.stepping.proofs.All.{all_true, true_all}

-- the limits that the other tests rely on
pub record SizesIn (s : State) : Type 0 where
  pub threads : (1 ≤ s.threads) × (s.threads ≤ THREADS)
  pub cells : (1 ≤ s.cells) × (s.cells ≤ CELLS)
  pub depth : (1 ≤ s.depth) × (s.depth ≤ DEPTH)

module _ (s : State) where
  pub sizes_in : sizes_fit s ≡ true → SizesIn s
  unfolding sizes_fit
  sizes_in e =
      let a = and_parts (within 1 THREADS s.threads) _ e in
      let b = and_parts (within 1 CELLS s.cells) _ a.1 in
      record { threads = within_true _ _ _ a.0; cells = within_true _ _ _ b.0; depth = within_true _ _ _ b.1 }

  in_sizes : InRange s → sizes_fit s ≡ true
  unfolding sizes_fit
  in_sizes g = and_from _ _ (true_within g.some_threads g.threads) (and_from _ _ (true_within g.some_cells g.cells) (true_within g.some_depth g.depth))

  cell_in : (c : ℕ) → cell_fits s c ≡ true → CellIn s c
  unfolding cell_wrong
  cell_in c e =
      let o = checked (leb (owner_of s c) s.threads) 4 _ cell_bytes (omega arith) (leb-true _ _ e) in
      let h = checked (leb (sharing_of s c) 1) 5 _ cell_bytes (omega arith) o.1 in
      let u = checked (ltb 0 (owner_of s c + sharing_of s c)) 5 cell_bytes cell_bytes (omega arith) h.1 in
      let m : sharing_of s c ≤ 1 = leb-true _ _ h.0 in
      let n : 0 < owner_of s c + sharing_of s c = ltb-true _ _ u.0 in
      record { owner = leb-true _ _ o.0; sharing = m; unowned = λ z. omega arith }

  in_cell : (c : ℕ) → CellIn s c → cell_fits s c ≡ true
  unfolding cell_wrong
  in_cell c x = rw (le-leb _ _ x.owner, le-leb _ _ x.sharing, lt-ltb 0 _ (some (ℕ_discrete (owner_of s c) 0)))
    where
      some : Dec (owner_of s c ≡ 0) → 0 < owner_of s c + sharing_of s c
      some (yes z) = let m = x.unowned z in omega arith
      some (no n) = omega arith

  program_in : (t : ℕ) → program_fits s t ≡ true → ProgramIn s t
  unfolding program_fits
  program_in t e = let b = and_parts _ _ e in record { few = leb-true _ _ b.0; right = λ k h. leb-true _ _ (all_true (instruction_fits s t) (count_of s t) b.1 k h) }

  in_program : (t : ℕ) → ProgramIn s t → program_fits s t ≡ true
  unfolding program_fits
  in_program t x = and_from _ _ (le-leb _ _ x.few) (true_all (instruction_fits s t) (count_of s t) (λ k h. le-leb _ _ (x.right k h)))

  queue_in : (t : ℕ) → queue_fits s.cells s.depth (queue_of s t) ≡ true → QueueIn s t
  unfolding queue_fits
  queue_in t e = let b = and_parts _ _ e in record { few = leb-true _ _ b.0; exists = λ k h. ltb-true _ _ (all_true (pending_fits s.cells (queue_of s t)) (queue_of s t).count b.1 k h) }

  in_queue : (t : ℕ) → QueueIn s t → queue_fits s.cells s.depth (queue_of s t) ≡ true
  unfolding queue_fits
  in_queue t x = and_from _ _ (le-leb _ _ x.few) (true_all (pending_fits s.cells (queue_of s t)) (queue_of s t).count (λ k h. lt-ltb _ _ (x.exists k h)))

  -- what the test of a thread says
  record ThreadIn (t : ℕ) : Type 0 where
    program : ProgramIn s t
    queue : QueueIn s t
    position : position_fits s t ≡ true

  thread_in : (t : ℕ) → thread_fits s t ≡ true → ThreadIn t
  unfolding thread_fits
  thread_in t e =
      let a = and_parts (program_fits s t) _ e in
      let b = and_parts (queue_fits s.cells s.depth (queue_of s t)) _ a.1 in
      record { program = program_in t a.0; queue = queue_in t b.0; position = b.1 }

  pub range_in : in_range_of s ≡ true → InRange s
  unfolding in_range_of
  range_in e =
      let a = and_parts (sizes_fit s) _ e in
      let b = and_parts (all_below (cell_fits s) s.cells) _ a.1 in
      let z = sizes_in a.0 in
      let t : (t : ℕ) → t < s.threads → ThreadIn t = λ t h. thread_in t (all_true (thread_fits s) s.threads b.1 t h) in
      record {
        some_threads = z.threads.0;
        threads = z.threads.1;
        some_cells = z.cells.0;
        cells = z.cells.1;
        some_depth = z.depth.0;
        depth = z.depth.1;
        cell = λ c h. cell_in c (all_true (cell_fits s) s.cells b.0 c h);
        program = λ u h. (t u h).program;
        queue = λ u h. (t u h).queue;
        position = λ u h. leb-true _ _ (t u h).position;
      }

  pub in_range : InRange s → in_range_of s ≡ true
  unfolding in_range_of thread_fits
  in_range g =
      and_from _ _ (in_sizes g)
      (and_from _ _ (true_all (cell_fits s) s.cells (λ c h. in_cell c (g.cell c h)))
      (true_all (thread_fits s) s.threads (λ t h. and_from _ _ (in_program t (g.program t h)) (and_from _ _ (in_queue t (g.queue t h)) (le-leb _ _ (g.position t h))))))
