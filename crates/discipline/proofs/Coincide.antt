-- Two results that a contract allows for one input are the same.
use Prim.Native.Nat.{ℕ}
use mathlib.Core.Path.{◌≡◌, sym, ◌∙◌}
use mathlib.Core.List.{List}
use lib.IntN.{ℤ}
use Rattle.std.specs.Prelude.{Result}
use Rattle.reader.specs.declared.Case.{Case}
use Rattle.reader.specs.declared.refusal.Refusal.{Refusal}
use Rattle.reader.specs.declared.state.State.{State}
use Rattle.reader.specs.Reading.{Reading}
use Rattle.reader.specs.Case.{read_of}
use Rattle.reader.specs.Refusal.{reading_of}
use Rattle.reader.proofs.Told.{reading_same}
use Rattle.machine.specs.declared.run.Ended.{Ended}
use Rattle.machine.specs.Run.{Outcome, Ran, Answers}
use Rattle.machine.specs.Hurdle.{outcome_of, ran_of}
use Rattle.machine.proofs.Told.{step_coincides, run_coincides}
use Rattle.discipline.specs.declared.breach.Reason.{Reason}
use Rattle.discipline.specs.declared.check.Answer.{Answer}
use Rattle.discipline.specs.Check.{Checks}
use Rattle.discipline.specs.Reason.{number_of}
use Rattle.discipline.specs.Step.{checked_of}
use Rattle.discipline.proofs.Reasons.{reason_tells}

-- a contract that names its result: every function whose `ensures` is `r ≡ ..`
pub same : {A : Type 0} {a x y : A} → x ≡ a → y ≡ a → x ≡ y
same p q = p ∙ sym q

-- the reading of a case, as the code answers it
pub read_coincides : (case : List ℕ) {r r' : Result Case Refusal} → reading_of r ≡ read_of case → reading_of r' ≡ read_of case → r ≡ r'
read_coincides case p q = reading_same (same p q)

-- and as the definitions speak of it
pub reading_coincides : (case : List ℕ) {r r' : Reading} → r ≡ read_of case → r' ≡ read_of case → r ≡ r'
reading_coincides case = same

-- a run, on any machine
pub ran_coincides : (step : State → ℕ → Outcome) (m : State) (xs : List ℕ) (vs : List ℤ) {r r' : Ran} {ws ws' : List ℤ} → Answers step m xs vs r ws → Answers step m xs vs r' ws' → (r ≡ r') × (ws ≡ ws')
ran_coincides step m xs vs a b = let e = same a.ran b.ran in (e, a.wrote ∙ rw e (sym b.wrote))

-- the checked run and the checked step, as the code answers them: the state that is left, how the run ended or what the step brought, and the list
pub checked_run_coincides : (m : State) (xs : List ℕ) (vs : List ℤ) {s s' : State} {r r' : Ended Reason} {ws ws' : List ℤ} → Answers checked_of m xs vs (ran_of number_of s r) ws → Answers checked_of m xs vs (ran_of number_of s' r') ws' → (s ≡ s') × (r ≡ r') × (ws ≡ ws')
checked_run_coincides m xs vs = run_coincides reason_tells checked_of m xs vs

pub checked_step_coincides : (m : State) (x : ℕ) {s s' : State} {r r' : Result ℤ Reason} → outcome_of number_of s r ≡ checked_of m x → outcome_of number_of s' r' ≡ checked_of m x → (s ≡ s') × (r ≡ r')
checked_step_coincides m x = step_coincides reason_tells (checked_of m x)

-- the check of a case: answer and both lists
pub check_coincides : (case : List ℕ) (vs ms : List ℤ) {r r' : Answer} {ws ws' ns ns' : List ℤ} → Checks case vs ms r ws ns → Checks case vs ms r' ws' ns' → (r ≡ r') × (ws ≡ ws') × (ns ≡ ns')
check_coincides case vs ms a b = (same a.answered b.answered, same a.values b.values, same a.memory b.memory)
