-- The searches of rule 34, as the code makes them: a row's from its newest store back, and over the rows in any order.
use Rattle.std.proofs.Common.{◌≡◌, ◌∙◌, ap, ℕ, zero, suc, ◌+◌, ◌<◌, ◌≤◌, Bool, true, false, ◌||◌, eqb, List, length, get_or, take, sym, refl, arith, length-take}
use Rattle.std.specs.Prelude.{cond, Some, option_map, is_some, reverse}
use Rattle.std.specs.List.{find, list_any, range_with_len}
use native.Mathlib.Numerals.{unary_clauses}
use denote.Param.Members.{Mut}
use Rattle.std.specs.declared.ops.Range.{Range}
use Rattle.std.specs.Fn.{Called}
use Rattle.std.specs.Iterator.{ChecksAny}
use Rattle.std.proofs.iter.Yields.{nat_range_steps}
use Rattle.std.proofs.lemmas.Iterator.{YieldsList-from_range}
use Rattle.std.proofs.lemmas.Iterator.Search.{any_from_yields_List}
use Rattle.std.proofs.lemmas.List.{take_all}
use Rattle.std.proofs.lemmas.List.Folds.{list_any_more}
use Rattle.std.proofs.lemmas.List.FromFn.{length-range_with_len, get_or-range_with_len}
use Rattle.reader.specs.declared.state.Pending.{Pending}
use Rattle.reader.specs.declared.state.Queue.{Queue}
use Rattle.reader.specs.State.{no_pending}
use Rattle.reader.specs.Queue.{pending}
use Rattle.reader.specs.Rules.{pick}
use Rattle.machine.specs.Buffer.{newest_in}
use Rattle.machine.proofs.Newest.{newest_step}
use Rattle.discipline.specs.Elsewhere.{holds_of, holds, pends_with, elsewhere_of}

holds_slice : (es : List Pending) (c n : ℕ) → n ≤ length es → is_some (newest_in (take n es) c) ≡ holds_of es n c
unfolding holds_of
holds_slice es c zero h = refl
holds_slice es c (suc n) h = rw (newest_step es c n h) (one (eqb (get_or es n no_pending).cell c) (holds_slice es c n (omega arith)))
  where
    one : (b : Bool) → is_some (newest_in (take n es) c) ≡ holds_of es n c → is_some (option_map (λ (e : Pending). e.value) (cond b (Some (get_or es n no_pending)) (find (λ (e : Pending). eqb e.cell c) (reverse (take n es))))) ≡ pick b true (holds_of es n c)
    one true i = refl
    one false i = i

-- a row holds a store to a cell where there is a newest one
pub holds_newest : (q : Queue) (c : ℕ) → length (pending q) ≡ q.count → holds q c ≡ is_some (newest_in (pending q) c)
holds_newest q c h = let l = length-take q.count q.entries in sym (holds_slice q.entries c q.count (omega arith))

-- the rows, from the first on
module _ (qs : List Queue) (t c : ℕ) where
  rows_below : (xs : List ℕ) (n : ℕ) → n ≤ length xs → ((k : ℕ) → k < n → get_or xs k 0 ≡ k) → list_any (pends_with qs t c) (take n xs) ≡ elsewhere_of qs n t c
  unfolding elsewhere_of
  rows_below xs zero l h = refl
  rows_below xs (suc n) l h =
      let e : list_any (pends_with qs t c) (take (n + 1) xs) ≡ (list_any (pends_with qs t c) (take n xs) || pends_with qs t c (get_or xs n 0)) = list_any_more (pends_with qs t c) xs n 0 (omega arith) in
      simp unary_clauses at e ∙ turned (list_any (pends_with qs t c) (take n xs)) (pends_with qs t c (get_or xs n 0)) ∙ rw (h n (omega arith), rows_below xs n (omega arith) (λ k s. h k (omega arith)))
    where
      turned : (a b : Bool) → (a || b) ≡ pick b true a
      turned true true = refl
      turned true false = refl
      turned false true = refl
      turned false false = refl

  -- what the library's `any` answers
  pub elsewhere_from_range : {F : Type 0} {f : F} {r : Bool} {g : Mut F (ℕ × Unit {0}) Bool} (n : ℕ) {u : Range ℕ} → ChecksAny nat_range_steps g (record { start = 0; end = n }) f r u
      → ((k : ℕ) (b : Bool) (q : F) → Called g f (k, tt) b q → (q ≡ f) × (b ≡ pends_with qs t c k)) → r ≡ elsewhere_of qs n t c
  elsewhere_from_range {f = f} {r} n {u} a s =
      let e : length (range_with_len 0 n) ≡ n = length-range_with_len 0 n in
      any_from_yields_List (pends_with qs t c) u f r a (YieldsList-from_range 0 n n refl (omega arith)) s ∙ ap (list_any (pends_with qs t c)) (sym (take_all n _ (omega arith)))
      ∙ rows_below (range_with_len 0 n) n (omega arith) (λ k h. omega (arith, get_or-range_with_len 0 n k 0 h))
