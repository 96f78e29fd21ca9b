-- What a run of the one-memory machine keeps of its states, and what a thread at its end leaves.
use Rattle.std.proofs.Common.{◌≡◌, ℕ, zero, suc, ◌-◌, refl, arith}
use Rattle.reader.specs.declared.state.State.{State}
use Rattle.machine.specs.Run.{Outcome, unless}
use Rattle.machine.specs.Plain.{IsThread, ended_of, plain_step, plain_of}
use Rattle.machine.specs.Action.{next_of}
use Rattle.machine.proofs.InRange.{plain_step_in, plain_threads}

pub plain_keeps : (s : State) (x y : ℕ) → IsThread s x → IsThread s y → (plain_of s x).number ≡ 0 → IsThread (plain_of s x).state y
plain_keeps s x y a b e =
    let l = a.least in
    let m = a.most in
    let r = plain_threads s (x - 1) in
    let i = b.most in
    record { in_range = plain_step_in a.in_range (omega arith); least = b.least; most = omega arith }

-- an item that is refused leaves the state
pub unless_stays : (n : ℕ) (s : State) (o : Outcome) → o.number ≡ 0 → ((unless n s o).number ≡ 0 → ⊥) → (unless n s o).state ≡ s
unfolding unless
unless_stays zero s o z h = absurd (h z)
unless_stays (suc n) s o z h = refl

pub plain_stays : (s : State) (x : ℕ) → ((plain_of s x).number ≡ 0 → ⊥) → (plain_of s x).state ≡ s
unfolding plain_step
plain_stays s x h = unless_stays (ended_of (next_of s (x - 1))) s _ refl h
