-- What a check of a whole case answers, and what it leaves in the two lent lists, for every byte string whatsoever.
use Rattle.std.specs.Prelude.{ℕ, Result, Ok, Err, ◌+◌, ◌-◌, Bool, ◌||◌, ◌≡◌, List, ◌++◌, length, take, drop, eqb, leb, ltb, ℤ}
use Rattle.reader.specs.Reading.{Reading}
use Rattle.reader.specs.Bytes.{byte}
use Rattle.reader.specs.Rules.{pick}
use Rattle.reader.specs.Case.{read_of}
use Rattle.machine.specs.Run.{Ran, run_of, values_of}
use Rattle.reader.specs.Refusal.{number_of}
use Rattle.discipline.specs.declared.check.Answer.{Answer}
use Rattle.discipline.specs.declared.check.NotRun.{NotRun}
use Rattle.discipline.specs.declared.check.NotRun.TheVariants.{Malformed, ListTooShort}
use Rattle.discipline.specs.Step.{checked_of}

-- "An answer is a number, a place and a thread."
abbrev pub answer : ℕ → ℕ → ℕ → Answer
answer number place thread = record { place = place; number = number; thread = thread }

-- why a case is not run: what is wrong with it, or a list that is too short
abbrev pub not_run_of : NotRun → Answer
not_run_of (Malformed refusal) = answer (number_of refusal.fault) refusal.place 0
not_run_of ListTooShort = answer 9 0 0

abbrev pub told_of : Result Answer NotRun → Answer
told_of (Ok a) = a
told_of (Err why) = not_run_of why

-- the thread that an item is about: 1 to 4, or 17 to 20
abbrev pub thread_of : ℕ → ℕ
thread_of x = pick (leb 17 x) (x - 16) x

-- a case that was read
module _ (case : List ℕ) (r : Reading) where
  -- the schedule stands at the end of the case
  abbrev pub schedule_of : List ℕ
  schedule_of = drop r.start case

  abbrev pub ran_of : Ran
  ran_of = run_of checked_of r.state 0 schedule_of

  -- "The thread is the stopped item's, and 0 for answer 0."
  abbrev pub stopped_thread : ℕ → ℕ → ℕ
  stopped_thread number place = pick (eqb number 0) 0 (thread_of (byte case (r.start + place)))

  -- "value list shorter than the schedule, or memory list shorter than the cells"
  abbrev pub too_short : List ℤ → List ℤ → Bool
  too_short values memory = ltb (length values) r.items || ltb (length memory) r.state.cells

module _ (case : List ℕ) (values memory : List ℤ) where
  -- what comes of a case: its refusal, or 9, or the run
  unfoldable pub judged_by : {A : Type 0} → (Reading → A) → A → (Reading → A) → A
  judged_by refused nine run =
      let r = read_of case in
      pick (eqb r.number 0) (pick (too_short case r values memory) nine (run r)) (refused r)

  -- "For 1 to 9 the thread is 0"; "For 0 and from 20 up the place is the number of items taken."
  unfoldable pub answer_of : Answer
  answer_of = judged_by (λ (r : Reading). answer r.number r.place 0) (answer 9 0 0) (λ (r : Reading). answer (ran_of case r).number (ran_of case r).place (stopped_thread case r (ran_of case r).number (ran_of case r).place))

  -- "The value list has an element for each item taken: what a LOAD or COMPARE-SWAP read, 0 for other items." "Later elements of both stay."
  unfoldable pub values_after : List ℤ
  values_after = judged_by (λ (r : Reading). values) values (λ (r : Reading). values_of checked_of r.state (schedule_of case r) ++ drop (ran_of case r).place values)

  -- "The memory list begins with the cells' memory, pending stores not counted."
  unfoldable pub memory_after : List ℤ
  memory_after = judged_by (λ (r : Reading). memory) memory (λ (r : Reading). take r.state.cells (ran_of case r).state.memory ++ drop r.state.cells memory)

-- what a check of a case gives, and leaves in the lent lists
pub record Checks (case : List ℕ) (vs ms : List ℤ) (r : Answer) (vs' ms' : List ℤ) : Type 0 where
  pub answered : r ≡ answer_of case vs ms
  pub values : vs' ≡ values_after case vs ms
  pub memory : ms' ≡ memory_after case vs ms
