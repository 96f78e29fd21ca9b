-- Two results that the stepping call's contract allows for one state and one item are the same: the answer, and the whole state.
use Prim.Native.Nat.{ℕ}
use mathlib.Core.Path.{◌≡◌}
use Rattle.reader.specs.declared.state.State.{State}
use Rattle.discipline.specs.declared.check.Answer.{Answer}
use Rattle.discipline.proofs.Coincide.{same}
use Rattle.stepping.specs.declared.step.After.{After}
use Rattle.stepping.specs.Step.{stepped_of, Steps}

-- by value
pub stepped_coincides : (s : State) (x : ℕ) {r r' : After} → r ≡ stepped_of s x → r' ≡ stepped_of s x → r ≡ r'
stepped_coincides s x = same

-- on a lent state
pub step_coincides : (s : State) (x : ℕ) {r r' : Answer} {m m' : State} → Steps s x r m → Steps s x r' m' → (r ≡ r') × (m ≡ m')
step_coincides s x a b = (same a.answered b.answered, same a.left b.left)
