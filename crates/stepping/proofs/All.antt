-- A test of every number below a bound: what it says of each, and that the library's `all` answers it.
use Prim.Native.Nat.{ℕ, zero, suc, ◌+◌, ◌<◌, ◌≤◌}
use mathlib.Core.Bool.{Bool, true, false, ◌&&◌}
use mathlib.Core.List.{List}
use mathlib.Core.Path.{◌≡◌, refl, sym, ap, ◌∙◌}
use native.Mathlib.Omega.{arith}
use native.Mathlib.Numerals.{unary_clauses}
use native.Mathlib.Decide.{ℕ_discrete}
use lib.ListN.{length, take, get_or}
use denote.Ref.{Bor}
use denote.Param.Members.{Mut}
use Rattle.std.specs.declared.ops.Range.{Range}
use Rattle.std.specs.declared.slice.Iter.{Iter}
use Rattle.std.specs.Fn.{Called}
use Rattle.std.specs.Iterator.{ChecksAll}
use Rattle.std.specs.Slice.Iter.{iter_rest}
use Rattle.std.specs.List.{list_all, range_with_len}
use Rattle.std.proofs.iter.Yields.{fronts, nat_range_steps}
use Rattle.std.proofs.lemmas.Iterator.{YieldsList-from_range, YieldsList-from_slice}
use Rattle.std.proofs.lemmas.Iterator.Search.{all_from_yields_List}
use Rattle.std.proofs.lemmas.List.{take_all, length-take}
use Rattle.std.proofs.lemmas.List.Folds.{list_all_more}
use Rattle.std.proofs.lemmas.List.FromFn.{length-range_with_len, get_or-range_with_len}
use Rattle.std.proofs.lemmas.Bool.{false≢true}
use Rattle.reader.specs.Rules.{pick}
use Rattle.stepping.specs.Range.{all_below}

module _ (test : ℕ → Bool) where
  pick_true : (a b : Bool) → pick a b false ≡ true → (a ≡ true) × (b ≡ true)
  pick_true true b e = (refl, e)
  pick_true false b e = absurd (false≢true e)

  pub all_true : (n : ℕ) → all_below test n ≡ true → (k : ℕ) → k < n → test k ≡ true
  unfolding all_below
  all_true zero e k h = absurd (omega arith)
  all_true (suc n) e k h = let b = pick_true (test n) (all_below test n) e in go b.0 (all_true n b.1) (ℕ_discrete k n)
    where
      go : test n ≡ true → ((i : ℕ) → i < n → test i ≡ true) → Dec (k ≡ n) → test k ≡ true
      go x y (yes z) = rw z x
      go x y (no z) = y k (omega arith)

  pub true_all : (n : ℕ) → ((k : ℕ) → k < n → test k ≡ true) → all_below test n ≡ true
  unfolding all_below
  true_all zero h = refl
  true_all (suc n) h = rw (h n (omega arith)) (true_all n (λ k l. h k (omega arith)))

-- The library's `all` goes from the first on. Of a list whose element k passes `p` as k passes `test`, it answers what `all_below` says.
module _ {B : Type 0} (p : B → Bool) (xs : List B) (d : B) where
  fronts_below : (test : ℕ → Bool) (n : ℕ) → n ≤ length xs → ((k : ℕ) → k < n → p (get_or xs k d) ≡ test k) → list_all p (take n xs) ≡ all_below test n
  unfolding all_below
  fronts_below test zero l h = refl
  fronts_below test (suc n) l h =
      let e : list_all p (take (n + 1) xs) ≡ (list_all p (take n xs) && p (get_or xs n d)) = list_all_more p xs n d (omega arith) in
      simp unary_clauses at e ∙ turned (list_all p (take n xs)) (p (get_or xs n d)) ∙ rw (h n (omega arith), fronts_below test n (omega arith) (λ k s. h k (omega arith)))
    where
      turned : (a b : Bool) → (a && b) ≡ pick b a false
      turned true true = refl
      turned true false = refl
      turned false true = refl
      turned false false = refl

module _ {F : Type 0} {f : F} {r : Bool} where
  -- over the numbers below n
  pub below_from_range : {g : Mut F (ℕ × Unit {0}) Bool} (test : ℕ → Bool) (n : ℕ) {u : Range ℕ} → ChecksAll nat_range_steps g (record { start = 0; end = n }) f r u
      → ((k : ℕ) (b : Bool) (q : F) → Called g f (k, tt) b q → (q ≡ f) × (b ≡ test k)) → r ≡ all_below test n
  below_from_range test n {u} a c =
      let e : length (range_with_len 0 n) ≡ n = length-range_with_len 0 n in
      all_from_yields_List test u f r a (YieldsList-from_range 0 n n refl (omega arith)) c ∙ ap (list_all test) (sym (take_all n _ (omega arith)))
      ∙ fronts_below test (range_with_len 0 n) 0 test n (omega arith) (λ k h. let i : get_or (range_with_len 0 n) k 0 ≡ k = omega (arith, get_or-range_with_len 0 n k 0 h) in ap test i)

  -- over the first n elements of a list
  pub below_from_front : {B : Type 0} {g : Mut F (Bor B × Unit {0}) Bool} (p : B → Bool) (d : B) (n : ℕ) {s u : Iter B} (xs : List B) → ChecksAll fronts g s f r u
      → iter_rest s ≡ take n xs → length (take n xs) ≡ n → ((x : Bor B) (b : Bool) (q : F) → Called g f (x, tt) b q → (q ≡ f) × (b ≡ p x.now)) → r ≡ all_below (λ k. p (get_or xs k d)) n
  below_from_front p d n {u = u} xs a e l c = all_from_yields_List p u f r a (YieldsList-from_slice (take n xs) e) c ∙ fronts_below p xs d (λ k. p (get_or xs k d)) n (omega (arith, length-take n xs)) (λ k h. refl)
