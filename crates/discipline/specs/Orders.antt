-- Some runs and their orders, with one proved claim: the order itself, and what the one-memory machine gives that follows it.
use Rattle.std.specs.Prelude.{ℕ, List, [], ◌∷◌, map, ◌≡◌, refl, take, ℤ, pos, negsuc}
use Rattle.reader.specs.declared.state.Queue.{Queue}
use Rattle.reader.specs.Operations.{uses_of}
use Rattle.reader.specs.Bytes.{value_at, cell_at, instruction_at}
use Rattle.reader.specs.Rules.{within, cell_wrong, fits_of, bound_of, cell_fits, register_fits, value_fits, instruction_wrong, item_fits}
use Rattle.reader.specs.Queue.{shifted}
use Rattle.reader.specs.Drain.{drained_of}
use Rattle.reader.specs.Case.{verdict_of, field, each, front_judged, count_judged, sizes_judged, cell_judged, cell_into, cells_of, instruction_judged, instruction_into, instructions_of, program_into, programs_of, item_judged, items_judged, item_count_judged, schedule_judged, refused_of, scheduled_of, read_of}
use Rattle.machine.specs.Integer.{wrapped}
use Rattle.machine.specs.Buffer.{newest_of}
use Rattle.machine.specs.Action.{action_of, next_of}
use Rattle.machine.specs.Effect.{seen_of, guard, blocked_of, effect_of, took_of}
use Rattle.machine.specs.Run.{unless, run_of, values_of}
use Rattle.machine.specs.Step.{take_step, drain_step}
use Rattle.discipline.specs.Table.{held_of, holding_of}
use Rattle.discipline.specs.Elsewhere.{holds_of, elsewhere_of}
use Rattle.discipline.specs.Rules.{load_breaks, store_breaks, acquire_breaks, release_breaks, broken_of}
use Rattle.discipline.specs.Marks.{stored_of, marks_of}
use Rattle.discipline.specs.Step.{checked_take, checked_of}
use Rattle.machine.specs.Plain.{at_once, ended_of, plain_step, plain_of}
use Rattle.discipline.specs.Bytes.{word, minus_forty, cell, free, LOAD, STORE, FENCE, SWAP, ACQUIRE, RELEASE, case_of}
use Rattle.discipline.specs.Order.{plan_of, order_from, order_of}
use Rattle.discipline.specs.OneMemory.{path_of, reads_of, alone_of, start_of, items_of, end_of}
use Rattle.discipline.specs.Check.{ran_of}

-- a case of two threads, its order, what each thread's LOADs and COMPARE-SWAPs read along it, and the memory at its end
pub record Ordered : Type 0 where
  pub case : List ℕ
  pub order : List ℕ
  pub first : List ℤ
  pub second : List ℤ
  pub memory : List ℤ

abbrev ordered : List ℕ → List ℕ → List ℤ → List ℤ → List ℤ → Ordered
ordered case order first second memory = record { case = case; order = order; first = first; second = second; memory = memory }

pub orders : List Ordered
orders =
    -- R2: each store waits in its buffer, and is carried out when it drains
    ordered (case_of 2 (free ∷ free ∷ []) ((STORE 0 (word 1) ∷ FENCE ∷ LOAD 1 ∷ []) ∷ (STORE 1 (word 1) ∷ FENCE ∷ LOAD 0 ∷ []) ∷ []) (1 ∷ 2 ∷ 17 ∷ 18 ∷ 1 ∷ 2 ∷ 1 ∷ 2 ∷ []))
    (1 ∷ 2 ∷ 1 ∷ 2 ∷ 1 ∷ 2 ∷ []) (pos 1 ∷ []) (pos 1 ∷ []) (pos 1 ∷ pos 1 ∷ [])
    -- not the schedule's own order: thread 1 stores and loads, thread 2 still reads 0, and only then the store drains
    ∷ ordered (case_of 2 (free ∷ cell 5 1 0 ∷ []) ((STORE 0 (word 1) ∷ LOAD 1 ∷ FENCE ∷ []) ∷ (LOAD 0 ∷ []) ∷ []) (1 ∷ 1 ∷ 2 ∷ 17 ∷ 1 ∷ []))
    (2 ∷ 1 ∷ 1 ∷ 1 ∷ []) (pos 5 ∷ []) (pos 0 ∷ []) (pos 1 ∷ pos 5 ∷ [])
    -- a store to an own local cell is carried out at its issue; one behind a store that waits, waits too
    ∷ ordered (case_of 3 (cell 5 1 0 ∷ free ∷ []) ((STORE 0 (word 7) ∷ STORE 1 (word 8) ∷ STORE 0 (word 9) ∷ LOAD 0 ∷ FENCE ∷ []) ∷ (LOAD 1 ∷ LOAD 1 ∷ []) ∷ []) (1 ∷ 1 ∷ 1 ∷ 1 ∷ 2 ∷ 17 ∷ 17 ∷ 2 ∷ 17 ∷ 1 ∷ []))
    (1 ∷ 2 ∷ 1 ∷ 2 ∷ 1 ∷ 1 ∷ 1 ∷ []) (pos 9 ∷ []) (pos 0 ∷ pos 8 ∷ []) (pos 9 ∷ pos 8 ∷ [])
    -- minus forty handed over: thread 2 reads the mark too early, and takes it by COMPARE-SWAP once the cell is its own
    ∷ ordered (case_of 2 (cell 0 1 0 ∷ free ∷ []) ((STORE 1 (word 1) ∷ STORE 0 minus_forty ∷ FENCE ∷ RELEASE 0 ∷ []) ∷ (LOAD 1 ∷ ACQUIRE 0 ∷ LOAD 0 ∷ SWAP 1 (word 2) ∷ []) ∷ []) (1 ∷ 1 ∷ 2 ∷ 17 ∷ 17 ∷ 1 ∷ 1 ∷ 2 ∷ 2 ∷ 2 ∷ []))
    (2 ∷ 1 ∷ 1 ∷ 1 ∷ 1 ∷ 2 ∷ 2 ∷ 2 ∷ []) [] (pos 0 ∷ negsuc 39 ∷ pos 1 ∷ []) (negsuc 39 ∷ pos 1 ∷ [])
    ∷ []

pub computed : Ordered → Ordered
computed r =
    let s = start_of r.case in
    let o = order_of s (items_of r.case) in
    ordered r.case o (reads_of plain_of 0 s o (values_of plain_of s o)) (reads_of plain_of 1 s o (values_of plain_of s o)) (take s.cells (alone_of s o).state.memory)

-- the runs themselves: every item taken, and nothing left in a buffer
abbrev number : Ordered → ℕ
number r = (ran_of r.case (read_of r.case)).number

abbrev pending_at_end : Ordered → List ℕ
pending_at_end r = map (λ (q : Queue). q.count) (end_of r.case).queues

abbrev none : List ℕ
none = 0 ∷ 0 ∷ 0 ∷ 0 ∷ []

pub record AsOrdered : Type 0 where
  pub orders_computed : map computed orders ≡ orders
  pub orders_taken : map number orders ≡ none
  pub orders_drained : map pending_at_end orders ≡ none ∷ none ∷ none ∷ none ∷ []

pub as_ordered : AsOrdered
unfolding orders computed at_once ended_of plain_step plan_of order_from path_of reads_of uses_of value_at cell_at instruction_at within cell_wrong fits_of bound_of cell_fits register_fits value_fits instruction_wrong item_fits verdict_of field each front_judged count_judged sizes_judged cell_judged cell_into cells_of instruction_judged instruction_into instructions_of program_into programs_of item_judged items_judged item_count_judged schedule_judged refused_of scheduled_of read_of shifted drained_of wrapped newest_of action_of next_of seen_of guard blocked_of effect_of took_of unless run_of values_of take_step drain_step held_of holding_of holds_of elsewhere_of load_breaks store_breaks acquire_breaks release_breaks broken_of stored_of marks_of checked_take checked_of
as_ordered = record { orders_computed = refl; orders_taken = refl; orders_drained = refl }
