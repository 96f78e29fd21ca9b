-- Why the machine does not take an item: the description's number of each reason.
use Rattle.std.specs.Prelude.{ℕ, Result, Ok, Err, Option, Some, None, ℤ}
use Rattle.reader.specs.declared.state.State.{State}
use Rattle.machine.specs.declared.hurdle.Hurdle.{Hurdle}
use Rattle.machine.specs.declared.hurdle.Hurdle.TheVariants.{AtEnd, Waits, Full, Empty}
use Rattle.machine.specs.declared.run.Ended.{Ended}
use Rattle.machine.specs.Run.{Outcome, Ran, taken_of, refused_of}

abbrev pub number_of : Hurdle → ℕ
-- "the thread's program is at its end"
number_of AtEnd = 20
-- "FENCE or COMPARE-SWAP with pending stores"
number_of Waits = 21
-- "STORE with depth already reached"
number_of Full = 22
-- "drain of an empty buffer"
number_of Empty = 23

-- What the code answers, read as the definitions have it: reasons by their numbers, which are never 0.
module _ {R : Type 0} (number : R → ℕ) where
  -- of a test: its number, or 0
  abbrev pub test_of : Result (Unit {0}) R → ℕ
  test_of (Ok done) = 0
  test_of (Err reason) = number reason

  -- of a step that has left a state: what it read, or why it was not taken
  abbrev pub outcome_of : State → Result ℤ R → Outcome
  outcome_of s (Ok value) = taken_of s value
  outcome_of s (Err reason) = refused_of s (number reason)

  abbrev pub stop_of : Option R → ℕ
  stop_of None = 0
  stop_of (Some reason) = number reason

  -- of a run that has left a state
  abbrev pub ran_of : State → Ended R → Ran
  ran_of s r = record { state = s; place = r.place; number = stop_of r.stopped }
