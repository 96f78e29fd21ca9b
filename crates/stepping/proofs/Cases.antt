-- The three ways that the stepping call goes, and the two of its answer. All else about the call is proved from these.
use Prim.Native.Nat.{ℕ}
use mathlib.Core.Bool.{Bool, true, false}
use mathlib.Core.Path.{◌≡◌, refl, sym, subst}
use borrow.Author.Tests.{eq-eqb, ne_eqb}
use Rattle.reader.specs.declared.state.State.{State}
use Rattle.reader.specs.Rules.{item_fits}
use Rattle.discipline.specs.Check.{answer, thread_of}
use Rattle.discipline.specs.Step.{checked_of}
use Rattle.stepping.specs.declared.step.After.{After}
use Rattle.stepping.specs.Range.{in_range_of}
use Rattle.stepping.specs.Step.{kept_of, answered_of, carried_of, stepped_of}

module _ (number x : ℕ) where
  pub answered_taken : number ≡ 0 → answered_of number x ≡ answer 0 1 0
  unfolding answered_of
  answered_taken z = rw (eq-eqb _ _ z)

  pub answered_stopped : (number ≡ 0 → ⊥) → answered_of number x ≡ answer number 0 (thread_of x)
  unfolding answered_of
  answered_stopped n = rw (ne_eqb _ _ n)

module _ (s : State) (x : ℕ) where
  pub stepped_out : in_range_of s ≡ false → stepped_of s x ≡ kept_of s 10
  unfolding stepped_of
  stepped_out e = rw e

  module _ (e : in_range_of s ≡ true) where
    pub stepped_no_item : item_fits s.threads x ≡ false → stepped_of s x ≡ kept_of s 8
    unfolding stepped_of
    stepped_no_item f = rw (e, f)

    pub stepped_carried : item_fits s.threads x ≡ true → stepped_of s x ≡ carried_of (checked_of s x) x
    unfolding stepped_of
    stepped_carried f = rw (e, f)

  -- what holds of each way holds of the call
  module _ (P : After → Type 0) (out : in_range_of s ≡ false → P (kept_of s 10)) (no_item : in_range_of s ≡ true → item_fits s.threads x ≡ false → P (kept_of s 8)) (carried : in_range_of s ≡ true → item_fits s.threads x ≡ true → P (carried_of (checked_of s x) x)) where
    pub stepped_cases : P (stepped_of s x)
    stepped_cases = go (in_range_of s) (item_fits s.threads x) refl refl
      where
        go : (b c : Bool) → in_range_of s ≡ b → item_fits s.threads x ≡ c → P (stepped_of s x)
        go false c e f = subst P (sym (stepped_out e)) (out e)
        go true false e f = subst P (sym (stepped_no_item e f)) (no_item e f)
        go true true e f = subst P (sym (stepped_carried e f)) (carried e f)
