-- The next instruction of a thread on the one-memory machine, as the code carries it out.
use Rattle.std.proofs.Common.{◌≡◌, ℕ, ◌<◌, ◌≤◌, true, sym, refl}
use Rattle.std.proofs.lemmas.Bool.{false≢true}
use Rattle.reader.specs.declared.state.Queue.{Queue}
use Rattle.reader.specs.declared.state.State.{State}
use Rattle.reader.specs.State.{no_queue, position_of, count_of}
use Rattle.reader.specs.Range.{InRange}
use Rattle.machine.specs.declared.hurdle.Hurdle.{Hurdle}
use Rattle.machine.specs.declared.step.Next.{Next}
use Rattle.machine.specs.Hurdle.{number_of}
use Rattle.machine.specs.Step.{IsNext, IsEnded}
use Rattle.machine.specs.declared.effect.Effect.{Effect}
use Rattle.machine.specs.Action.{next_of}
use Rattle.machine.specs.Effect.{effect_of, took_of, pushes}
use Rattle.machine.specs.Run.{refused_of, taken_of, unless}
use Rattle.machine.specs.Plain.{at_once, ended_of, plain_step}
use Rattle.machine.proofs.Take.{unless_zero, current_in, next_end, next_action}
use Rattle.machine.proofs.Ten.{known_goes}

pub plain_end : (s : State) (t : ℕ) → count_of s t ≤ position_of s t → refused_of s 20 ≡ plain_step s t
unfolding plain_step ended_of unless
plain_end s t h = rw (next_end s t h)

-- nothing is put into a buffer
pub at_once_puts : (e : Effect) {f : Effect} → f ≡ at_once e → pushes f ≡ true → ⊥
unfolding at_once
at_once_puts e q b = false≢true (rw q at b)

pub plain_ended : {s : State} {t : ℕ} {h : Hurdle} → IsEnded s t h → refused_of s (number_of h) ≡ plain_step s t
unfolding plain_step ended_of unless
plain_ended e = rw (e.hurdle, e.ended) refl

module _ {s : State} (g : InRange s) {t : ℕ} (h : t < s.threads) where
  pub goes_on : position_of s t < count_of s t → ended_of (next_of s t) ≡ 0
  goes_on l = rw (← next_action s t l) (known_goes (current_in g h l) _ _)

  module _ {n : Next} (x : IsNext s t n) where
    pub plain_step_lem : {q : Queue} {e f : Effect} {m : State} → q ≡ no_queue → e ≡ effect_of n.seen q n.action → f ≡ at_once e → m ≡ took_of s t n.instruction f → taken_of m f.value ≡ plain_step s t
    unfolding plain_step
    plain_step_lem eq ee ef em = rw (em, ef, ee, eq, x.found) (sym (unless_zero s _ (goes_on x.goes)))
