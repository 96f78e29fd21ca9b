-- R1 to R12 of the description, as one list with one proved claim that the definitions yield them.
use Rattle.std.specs.Prelude.{ℕ, List, [], ◌∷◌, ◌++◌, map, ◌≡◌, refl, length, drop, replicate, ℤ, pos, negsuc}
use Rattle.reader.specs.Operations.{uses_of}
use Rattle.reader.specs.Bytes.{value_at, cell_at, instruction_at}
use Rattle.reader.specs.Rules.{within, cell_wrong, fits_of, bound_of, cell_fits, register_fits, value_fits, instruction_wrong, item_fits}
use Rattle.reader.specs.Queue.{shifted}
use Rattle.reader.specs.Drain.{drained_of}
use Rattle.reader.specs.State.{register_of}
use Rattle.reader.specs.Samples.{r1}
use Rattle.reader.specs.Case.{verdict_of, field, each, front_judged, count_judged, sizes_judged, cell_judged, cell_into, cells_of, instruction_judged, instruction_into, instructions_of, program_into, programs_of, item_judged, items_judged, item_count_judged, schedule_judged, refused_of, scheduled_of, read_of}
use Rattle.machine.specs.Integer.{wrapped}
use Rattle.machine.specs.Buffer.{newest_of}
use Rattle.machine.specs.Action.{action_of, next_of}
use Rattle.machine.specs.Effect.{seen_of, guard, blocked_of, effect_of, took_of}
use Rattle.machine.specs.Run.{unless, run_of, values_of}
use Rattle.machine.specs.Step.{take_step, drain_step}
use Rattle.discipline.specs.declared.check.Answer.{Answer}
use Rattle.discipline.specs.Table.{held_of, holding_of}
use Rattle.discipline.specs.Elsewhere.{holds_of, elsewhere_of}
use Rattle.discipline.specs.Rules.{load_breaks, store_breaks, acquire_breaks, release_breaks, broken_of}
use Rattle.discipline.specs.Marks.{stored_of, marks_of}
use Rattle.discipline.specs.Step.{checked_take, checked_of}
use Rattle.discipline.specs.Bytes.{word, minus_forty, largest, cell, free, LOAD, STORE, FENCE, ACQUIRE, RELEASE, BRANCH, ADD, case_of}
use Rattle.discipline.specs.Check.{answer, ran_of, judged_by, answer_of, values_after, memory_after}

-- a case, its answer, its values and its memory
pub record Run : Type 0 where
  pub case : List ℕ
  pub answered : Answer
  pub values : List ℤ
  pub memory : List ℤ

abbrev run : List ℕ → ℕ → ℕ → ℕ → List ℤ → List ℤ → Run
run case number place thread values memory = record { case = case; answered = answer number place thread; values = values; memory = memory }

abbrev none : List ℤ
none = []

abbrev zeros : ℕ → List ℤ
zeros n = replicate n (pos 0)

abbrev storing : List (List (List ℕ))
storing = (STORE 0 (word 1) ∷ LOAD 1 ∷ []) ∷ (STORE 1 (word 1) ∷ LOAD 0 ∷ []) ∷ []

pub runs : List Run
runs =
    -- R1, whole bytes of the description
    run r1 31 1 1 (zeros 1) (zeros 2)
    -- R2: R1's programs with a FENCE before each load
    ∷ run (case_of 2 (free ∷ free ∷ []) ((STORE 0 (word 1) ∷ FENCE ∷ LOAD 1 ∷ []) ∷ (STORE 1 (word 1) ∷ FENCE ∷ LOAD 0 ∷ []) ∷ []) (1 ∷ 2 ∷ 17 ∷ 18 ∷ 1 ∷ 2 ∷ 1 ∷ 2 ∷ [])) 0 8 0 (zeros 6 ++ (pos 1 ∷ pos 1 ∷ [])) (pos 1 ∷ pos 1 ∷ [])
    -- R3: cell 0 local to thread 1, value 5; minus forty comes back signed
    ∷ run (case_of 2 (cell 5 1 0 ∷ []) ((STORE 0 minus_forty ∷ LOAD 0 ∷ []) ∷ []) (1 ∷ 1 ∷ 17 ∷ [])) 0 3 0 (pos 0 ∷ negsuc 39 ∷ pos 0 ∷ []) (negsuc 39 ∷ [])
    -- R4: the newest pending store is forwarded
    ∷ run (case_of 2 (cell 5 1 0 ∷ []) ((STORE 0 (word 7) ∷ STORE 0 (word 9) ∷ LOAD 0 ∷ []) ∷ []) (1 ∷ 1 ∷ 1 ∷ [])) 0 3 0 (pos 0 ∷ pos 0 ∷ pos 9 ∷ []) (pos 5 ∷ [])
    -- R5: two stores at depth 1
    ∷ run (case_of 1 (free ∷ []) ((STORE 0 (word 1) ∷ STORE 0 (word 2) ∷ []) ∷ []) (1 ∷ 1 ∷ [])) 22 1 1 (zeros 1) (zeros 1)
    -- R6: own shared cells set the flag too
    ∷ run (case_of 2 (cell 0 1 1 ∷ cell 0 2 1 ∷ []) storing (1 ∷ 1 ∷ [])) 31 1 1 (zeros 1) (zeros 2)
    -- R7: load of another's local cell
    ∷ run (case_of 2 (cell 0 2 0 ∷ []) ((LOAD 0 ∷ []) ∷ [] ∷ []) (1 ∷ [])) 30 0 1 none (zeros 1)
    -- R8: thread 2 stores to cell 0, thread 1 acquires it; then with item 18 between
    ∷ run (case_of 2 (free ∷ []) ((ACQUIRE 0 ∷ []) ∷ (STORE 0 (word 1) ∷ []) ∷ []) (2 ∷ 1 ∷ [])) 34 1 1 (zeros 1) (zeros 1)
    ∷ run (case_of 2 (free ∷ []) ((ACQUIRE 0 ∷ []) ∷ (STORE 0 (word 1) ∷ []) ∷ []) (2 ∷ 18 ∷ 1 ∷ [])) 0 3 0 (zeros 3) (pos 1 ∷ [])
    -- R9: store to an own cell, then RELEASE of it; then RELEASE of an unowned cell instead
    ∷ run (case_of 2 (cell 0 1 0 ∷ []) ((STORE 0 (word 1) ∷ RELEASE 0 ∷ []) ∷ []) (1 ∷ 1 ∷ [])) 36 1 1 (zeros 1) (zeros 1)
    ∷ run (case_of 2 (cell 0 1 0 ∷ free ∷ []) ((STORE 0 (word 1) ∷ RELEASE 1 ∷ []) ∷ []) (1 ∷ 1 ∷ [])) 35 1 1 (zeros 1) (zeros 2)
    -- R10: STORE, drain, LOAD of the same unowned cell
    ∷ run (case_of 2 (free ∷ []) ((STORE 0 (word 1) ∷ LOAD 0 ∷ []) ∷ []) (1 ∷ 17 ∷ 1 ∷ [])) 31 2 1 (zeros 2) (pos 1 ∷ [])
    -- R11: ADD 2147483647, ADD 1
    ∷ run (case_of 2 (free ∷ []) ((ADD largest ∷ ADD (word 1) ∷ []) ∷ []) (1 ∷ 1 ∷ [])) 0 2 0 (zeros 2) (zeros 1)
    -- R12: ADD minus forty, BRANCH on minus forty to the end, with a LOAD behind it
    ∷ run (case_of 2 (free ∷ []) ((ADD minus_forty ∷ BRANCH 3 minus_forty ∷ LOAD 0 ∷ []) ∷ []) (1 ∷ 1 ∷ 1 ∷ [])) 20 2 1 (zeros 2) (zeros 1)
    ∷ []

-- lent lists, longer than any run here needs
abbrev lent : ℕ → List ℤ
lent n = replicate n (pos 7)

pub yields : Run → Run
yields r = record { case = r.case; answered = answer_of r.case (lent 9) (lent 3); values = values_after r.case (lent 9) (lent 3); memory = memory_after r.case (lent 9) (lent 3) }

-- "Later elements of both stay."
pub expected : Run → Run
expected r = record { case = r.case; answered = r.answered; values = r.values ++ drop (length r.values) (lent 9); memory = r.memory ++ drop (length r.memory) (lent 3) }

pub r11 : List ℕ
r11 = case_of 2 (free ∷ []) ((ADD largest ∷ ADD (word 1) ∷ []) ∷ []) (1 ∷ 1 ∷ [])

pub record AsDescribed : Type 0 where
  pub runs_yield : map yields runs ≡ map expected runs
  -- R11: the register is -2147483648
  pub wraps : register_of (ran_of r11 (read_of r11)).state 0 0 ≡ negsuc 2147483647

pub as_described : AsDescribed
unfolding r1 runs yields expected r11 uses_of value_at cell_at instruction_at within cell_wrong fits_of bound_of cell_fits register_fits value_fits instruction_wrong item_fits verdict_of field each front_judged count_judged sizes_judged cell_judged cell_into cells_of instruction_judged instruction_into instructions_of program_into programs_of item_judged items_judged item_count_judged schedule_judged refused_of scheduled_of read_of shifted drained_of wrapped newest_of action_of next_of seen_of guard blocked_of effect_of took_of unless run_of values_of take_step drain_step held_of holding_of holds_of elsewhere_of load_breaks store_breaks acquire_breaks release_breaks broken_of stored_of marks_of checked_take checked_of judged_by answer_of values_after memory_after
as_described = record { runs_yield = refl; wraps = refl }
