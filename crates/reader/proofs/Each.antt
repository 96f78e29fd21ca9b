-- A run of fields: one turn at a time, what is left of it gives the same answer; and what each turn that is fine keeps, a run that is fine keeps.
use Prim.Native.Nat.{ℕ, zero, suc, ◌+◌, ◌-◌, ◌<◌, ◌≤◌}
use mathlib.Core.Bool.{Bool, true, false}
use mathlib.Core.Path.{◌≡◌, refl, sym, ◌∙◌}
use native.Mathlib.Omega.{arith}
use native.Mathlib.Numerals.{add-one}
use borrow.Author.Tests.{eq-eqb, ne_eqb, eqb-true, eqb-false}
use Rattle.reader.specs.Reading.{Judged}
use Rattle.reader.specs.Case.{fine, go_on, each}

-- i of the n turns were taken, from a₀ to a
pub record Going {A : Type 0} (judged : A → Judged) (f : ℕ → A → A) (n : ℕ) (a₀ : A) (i : ℕ) (a : A) : Type 0 where
  pub below : i ≤ n
  pub same : each judged f 0 n a₀ ≡ each judged f i (n - i) a

module _ {A : Type 0} (judged : A → Judged) (f : ℕ → A → A) where
  on : (i n : ℕ) (a : A) → (judged (f i a)).number ≡ 0 → each judged f i (suc n) a ≡ each judged f (suc i) n (f i a)
  unfolding each
  on i n a e = rw (eq-eqb _ _ e)

  off : (i n : ℕ) (a : A) → ((judged (f i a)).number ≡ 0 → ⊥) → each judged f i (suc n) a ≡ f i a
  unfolding each
  off i n a e = rw (ne_eqb _ _ e)

module _ {A : Type 0} {judged : A → Judged} {f : ℕ → A → A} where
  module _ {n : ℕ} {a₀ a : A} {i : ℕ} (g : Going judged f n a₀ i a) where
    module _ {b : A} (e : b ≡ f i a) (h : i < n) where
      more : n - i ≡ suc (n - (i + 1))
      more = omega arith

      pub turn : (judged b).number ≡ 0 → Going judged f n a₀ (i + 1) b
      turn z = record { below = omega arith; same = g.same ∙ rw (more, on judged f i (n - (i + 1)) a (rw e at z), e, add-one) }

      pub stopped : ((judged b).number ≡ 0 → ⊥) → b ≡ each judged f 0 n a₀
      stopped z = sym (g.same ∙ rw (more, off judged f i (n - (i + 1)) a (rw e at z), e))

    pub ended : n ≤ i → a ≡ each judged f 0 n a₀
    unfolding each
    ended h = let e : n - i ≡ 0 = omega arith in sym (g.same ∙ rw e)

-- for a loop over fields: a turn of it, a field that is refused, and its end
pub ruleset turns = (turn, stopped, ended)

module _ {A : Type 0} (judged : A → Judged) where
  pub turned : (Q : A → Type 0) (t : Bool) (rest : A → A) (b : A) → fine (judged b) ≡ t → ((judged b).number ≡ 0 → (judged (rest b)).number ≡ 0 → Q (rest b)) → (judged (go_on t rest b)).number ≡ 0 → Q (go_on t rest b)
  turned Q true rest b z k e = k (eqb-true _ _ z) e
  turned Q false rest b z k e = absurd (eqb-false _ _ z e)

  module _ (f : ℕ → A → A) (P : ℕ → A → Type 0) (m : ℕ) (keep : (i : ℕ) (a : A) → i < m → P i a → (judged (f i a)).number ≡ 0 → P (suc i) (f i a)) where
    pub each_fine : (i n : ℕ) (a : A) → i + n ≡ m → P i a → (judged (each judged f i n a)).number ≡ 0 → P m (each judged f i n a)
    unfolding each
    each_fine i zero a q p e = let z : i ≡ m = omega arith in rw z at p
    each_fine i (suc n) a q p e =
        turned (P m) (fine (judged (f i a))) (each judged f (suc i) n) (f i a) refl (λ z. each_fine (suc i) n (f i a) (omega arith) (keep i a (omega arith) p z)) e
