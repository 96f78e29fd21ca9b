-- Stepping through a schedule, as a debugger does it: item by item on one lent state, until a number is not 0. What it has then seen.
use Rattle.std.specs.Prelude.{ℕ, ◌+◌, ◌-◌, List, [], ◌∷◌, ◌≡◌, eqb, leb, ℤ, pos, get_or}
use Rattle.reader.specs.declared.state.State.{State}
use Rattle.reader.specs.State.{register_of}
use Rattle.reader.specs.Rules.{pick}
use Rattle.reader.specs.Case.{read_of}
use Rattle.machine.specs.Action.{current_of, next_of}
use Rattle.machine.specs.Run.{run_of, values_of}
use Rattle.discipline.specs.declared.check.Answer.{Answer}
use Rattle.discipline.specs.Check.{answer, thread_of, schedule_of}
use Rattle.discipline.specs.OneMemory.{reads}
use Rattle.discipline.specs.Step.{checked_of}
use Rattle.stepping.specs.declared.step.After.{After}
use Rattle.stepping.specs.Step.{stepped_of}

-- "what a LOAD or COMPARE-SWAP read, 0 for other items": an answer does not hold it, but the instruction's register does once the item is taken. So it is
-- seen in the states before and after.
unfoldable pub shown_of : State → ℕ → State → ℤ
shown_of before x after =
    let t = x - 1 in
    pick (leb 17 x) (pos 0) (pick (reads (next_of before t)) (register_of after t (current_of before t).register) (pos 0))

-- the state and the answer at the end, and a value for each item taken; the places of the single answers are added up
pub record Followed : Type 0 where
  pub state : State
  pub answer : Answer
  pub values : List ℤ

-- a step that was taken, before the rest
abbrev pub ahead : After → ℤ → Followed → Followed
ahead r value f = record { state = f.state; answer = answer f.answer.number (r.answer.place + f.answer.place) f.answer.thread; values = value ∷ f.values }

unfoldable pub follow : State → List ℕ → Followed
follow s [] = record { state = s; answer = answer 0 0 0; values = [] }
follow s (x ∷ xs) =
    let r = stepped_of s x in
    pick (eqb r.answer.number 0)
    (ahead r (shown_of s x r.state) (follow r.state xs))
    (record { state = r.state; answer = r.answer; values = [] })

-- from bytes: the state that a case starts, and the items at its end
abbrev pub follow_case : List ℕ → Followed
follow_case case = follow (read_of case).state (schedule_of case (read_of case))

-- what was seen is what the run of the same items gives: state and with it memory, number, place, thread and values
pub record AsRun (s : State) (xs : List ℕ) (f : Followed) : Type 0 where
  pub state : f.state ≡ (run_of checked_of s 0 xs).state
  pub number : f.answer.number ≡ (run_of checked_of s 0 xs).number
  pub place : f.answer.place ≡ (run_of checked_of s 0 xs).place
  pub thread : f.answer.thread ≡ pick (eqb f.answer.number 0) 0 (thread_of (get_or xs f.answer.place 0))
  pub values : f.values ≡ values_of checked_of s xs
