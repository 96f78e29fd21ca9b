-- Total maps on numbers, and their update at a point: how the proof of point 3 sees memory, table and threads.
use mathlib.Core.Path.{◌≡◌, refl, sym, ◌∙◌, subst, fun_ext}
use mathlib.Core.Logic.{◌≢◌}
use mathlib.Core.Bool.{Bool, true, false, cond}
use mathlib.Core.List.{List}
use Prim.Native.Nat.{ℕ, ◌<◌}
use lib.ListN.{length, get_or, set}
use lib.Seq.{get_or-set_same, get_or-set_other}
use lib.Dec.{eqb}
use borrow.Author.Tests.{eqb-true, eqb-false, eq-eqb, ne_eqb}

module _ {A : Type 0} where
  unfoldable pub upd : (ℕ → A) → ℕ → A → ℕ → A
  upd f i x j = cond (eqb i j) x (f j)

  pub upd_same : (f : ℕ → A) (i : ℕ) (x : A) → upd f i x i ≡ x
  unfolding upd
  upd_same f i x = rw (eq-eqb i i refl)

  pub upd_other : (f : ℕ → A) (i : ℕ) (x : A) (j : ℕ) → j ≢ i → upd f i x j ≡ f j
  unfolding upd
  upd_other f i x j h = rw (ne_eqb i j (λ e. h (sym e)))

-- either the point itself or another
pub at_or : {P : ℕ → Type 0} (i : ℕ) → P i → ((j : ℕ) → j ≢ i → P j) → (j : ℕ) → P j
at_or {P} i p h j = go (eqb i j) refl
  where
    go : (b : Bool) → eqb i j ≡ b → P j
    go true e = subst P (eqb-true i j e) p
    go false e = h j (λ q. eqb-false i j e (sym q))

-- an update with what is there changes nothing
pub upd_id : {A : Type 0} (f : ℕ → A) (i : ℕ) {x : A} → f i ≡ x → upd f i x ≡ f
upd_id f i {x} e = fun_ext (at_or {P = λ j. upd f i x j ≡ f j} i (upd_same f i x ∙ sym e) (upd_other f i x))

-- a list as a map, and a store into it
pub set_upd : {A : Type 0} (xs : List A) (i : ℕ) (x d : A) → i < length xs → ◌≡◌ {A = ℕ → A} (λ j. get_or (set xs i x) j d) (upd (λ j. get_or xs j d) i x)
set_upd xs i x d h =
    fun_ext (at_or {P = λ j. get_or (set xs i x) j d ≡ upd (λ k. get_or xs k d) i x j} i
    (get_or-set_same xs i x d h ∙ sym (upd_same (λ k. get_or xs k d) i x))
    (λ j n. get_or-set_other xs i j x d n ∙ sym (upd_other (λ k. get_or xs k d) i x j n)))
