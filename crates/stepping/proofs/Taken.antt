-- What an item that is taken leaves: a state that can be stepped on, and what it read in the instruction's register.
use Prim.Native.Nat.{ℕ, ◌+◌, ◌-◌, ◌<◌, ◌≤◌}
use mathlib.Core.Bool.{true}
use mathlib.Core.Path.{◌≡◌, refl, sym, ap, ◌∙◌}
use native.Mathlib.Omega.{arith}
use lib.IntN.{pos}
use borrow.Author.Tests.{le-leb, lt-leb}
use Rattle.reader.specs.declared.state.State.{State}
use Rattle.reader.specs.State.{position_of, count_of, register_of}
use Rattle.reader.specs.Rules.{pick, item_fits}
use Rattle.machine.specs.declared.effect.Seen.{Seen}
use Rattle.reader.specs.declared.state.Queue.{Queue}
use Rattle.machine.specs.declared.action.Action.{Action}
use Rattle.machine.specs.declared.action.Action.TheVariants.{Read, Store, Fence, Swap, Acquire, Release, Silent, End}
use Rattle.machine.specs.Action.{current_of, next_of}
use Rattle.machine.specs.Effect.{effect_of, took_of}
use Rattle.machine.specs.Step.{next_effect}
use Rattle.machine.proofs.Take.{current_in, row_below, by_kind}
use Rattle.machine.proofs.Frame.{took_register}
use Rattle.discipline.specs.Table.{holding_of}
use Rattle.discipline.specs.Run.{Runnable}
use Rattle.discipline.specs.Step.{next_marks, checked_of}
use Rattle.discipline.proofs.Outcomes.{drain_taken, instruction_taken}
use Rattle.discipline.proofs.Keeps.{taken_goes, checked_keeps}
use Rattle.discipline.specs.OneMemory.{reads}
use Rattle.stepping.specs.Follow.{shown_of}
use Rattle.machine.specs.Run.{Outcome}

-- what the register of an instruction holds once it is taken, where it reads: the value
shown_effect : (v : Seen) (q : Queue) (a : Action) → pick (reads a) (effect_of v q a).content (pos 0) ≡ (effect_of v q a).value
unfolding effect_of
shown_effect v q (Read c) = refl
shown_effect v q (Store c x) = refl
shown_effect v q Fence = refl
shown_effect v q (Swap c old x) = refl
shown_effect v q (Acquire c mark) = refl
shown_effect v q (Release c) = refl
shown_effect v q (Silent n x) = refl
shown_effect v q End = refl

shown_took : {s : State} (g : Runnable s) {t : ℕ} (h : t < s.threads) (l : position_of s t < count_of s t) →
    pick (reads (next_of s t)) (register_of (holding_of (took_of s t (current_of s t) (next_effect s t)) t (current_of s t) (next_marks s t)) t (current_of s t).register) (pos 0) ≡ (next_effect s t).value
unfolding holding_of
shown_took {s} g {t} h l =
    let c = current_in g.in_range h l in
    rw (took_register g.shaped (row_below g.in_range h) (current_of s t) (next_effect s t) c.register) (shown_effect _ _ (next_of s t))

-- what an item that is taken leaves
pub record Leaves (s : State) (x : ℕ) (o : Outcome) : Type 0 where
  pub runnable : Runnable o.state
  pub threads : o.state.threads ≡ s.threads
  pub shown : shown_of s x o.state ≡ o.value

-- by the kind of the item
shown_drain : (s m : State) (x : ℕ) → 17 ≤ x → shown_of s x m ≡ pos 0
unfolding shown_of
shown_drain s m x h = rw (le-leb 17 x h)

shown_take : (s m : State) (t : ℕ) → t < 16 → shown_of s (1 + t) m ≡ pick (reads (next_of s t)) (register_of m t (current_of s t).register) (pos 0)
unfolding shown_of
shown_take s m t h =
    let b : 1 + t < 17 = omega arith in
    let e : 1 + t - 1 ≡ t = omega arith in
    rw (lt-leb 17 (1 + t) b, e) refl

module _ {s : State} (g : Runnable s) where
  drain_shows : (t : ℕ) → (checked_of s (17 + t)).number ≡ 0 → shown_of s (17 + t) (checked_of s (17 + t)).state ≡ (checked_of s (17 + t)).value
  drain_shows t z = shown_drain s (checked_of s (17 + t)).state (17 + t) (omega arith) ∙ sym (ap (λ (o : Outcome). o.value) (drain_taken s t z))

  take_shows : {t : ℕ} → t < s.threads → (checked_of s (1 + t)).number ≡ 0 → shown_of s (1 + t) (checked_of s (1 + t)).state ≡ (checked_of s (1 + t)).value
  take_shows {t} h z =
      let n = g.in_range.threads in
      let b : t < 16 = omega arith in
      rw (instruction_taken s t b z) (shown_take s _ t b ∙ shown_took g h (taken_goes s t b z))

  shows : (x : ℕ) → item_fits s.threads x ≡ true → (checked_of s x).number ≡ 0 → shown_of s x (checked_of s x).state ≡ (checked_of s x).value
  shows = by_kind s.threads g.in_range.threads (λ x. (checked_of s x).number ≡ 0 → shown_of s x (checked_of s x).state ≡ (checked_of s x).value) (λ t h z. drain_shows t z) (λ t h z. take_shows h z)

  pub leaves : (x : ℕ) → item_fits s.threads x ≡ true → (checked_of s x).number ≡ 0 → Leaves s x (checked_of s x)
  leaves x f z = let k = checked_keeps g x f z in record { runnable = k.runnable; threads = k.threads; shown = shows x f z }
