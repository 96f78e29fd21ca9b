-- The stepping call: what it answers and what it leaves of the lent state, for every state whatsoever and every item byte.
use Rattle.std.specs.Prelude.{ℕ, Result, Ok, Err, Bool, ◌≡◌, eqb}
use Rattle.reader.specs.declared.state.State.{State}
use Rattle.reader.specs.Rules.{pick, item_fits}
use Rattle.discipline.specs.declared.check.Answer.{Answer}
use Rattle.discipline.specs.Check.{answer, thread_of}
use Rattle.discipline.specs.Step.{checked_of}
use Rattle.discipline.specs.Reason.{number_of}
use Rattle.stepping.specs.declared.step.After.{After}
use Rattle.stepping.specs.declared.step.Refusal.{Refusal}
use Rattle.stepping.specs.declared.step.Refusal.TheVariants.{OutOfRange, NoItem, Stopped}
use Rattle.stepping.specs.Range.{in_range_of}
use Rattle.machine.specs.Run.{Outcome}

-- "unless its number is 0, the state keeps every value"
abbrev pub kept_of : State → ℕ → After
kept_of s number = record { answer = answer number 0 0; state = s }

-- refuses with the number where the test fails
abbrev pub need : Bool → ℕ → State → After → After
need ok number s rest = pick ok rest (kept_of s number)

-- "Its place is 0, or 1 when the item was taken; its thread is 0 with 0, 8 and 10."
unfoldable pub answered_of : ℕ → ℕ → Answer
answered_of number x = pick (eqb number 0) (answer 0 1 0) (answer number 0 (thread_of x))

abbrev pub carried_of : Outcome → ℕ → After
carried_of o x = record { answer = answered_of o.number x; state = o.state }

-- "It checks 10, then 8, then as above"
unfoldable pub stepped_of : State → ℕ → After
stepped_of s x =
    need (in_range_of s) 10 s
    (need (item_fits s.threads x) 8 s
    (carried_of (checked_of s x) x))

-- the answer to an item: it was taken, or why it was not
abbrev pub answer_to : ℕ → Result (Unit {0}) Refusal → Answer
answer_to x (Ok done) = answered_of 0 x
answer_to x (Err OutOfRange) = answer 10 0 0
answer_to x (Err NoItem) = answer 8 0 0
answer_to x (Err (Stopped reason)) = answered_of (number_of reason) x

-- what a call on a lent state gives, and leaves of it
pub record Steps (s : State) (x : ℕ) (r : Answer) (s' : State) : Type 0 where
  pub answered : r ≡ (stepped_of s x).answer
  pub left : s' ≡ (stepped_of s x).state
