-- The search of the pending stores as a slice, from the newest back, is the search of the row.
use Rattle.std.proofs.Common.{◌≡◌, ℕ, zero, suc, ◌≤◌, Bool, true, false, eqb, List, [], ◌∷◌, length, get_or, take, ℤ, refl, sym, ap, ◌∙◌, arith, take-suc, length-take}
use Rattle.std.specs.Prelude.{cond, Some, reverse, option_map, unwrap_or}
use Rattle.std.specs.List.{find}
use Rattle.std.proofs.lemmas.List.{reverse-append}
use Rattle.reader.specs.declared.state.Pending.{Pending}
use Rattle.reader.specs.declared.state.Queue.{Queue}
use Rattle.reader.specs.State.{no_pending}
use Rattle.reader.specs.Queue.{pending}
use Rattle.reader.specs.Rules.{pick}
use Rattle.machine.specs.Buffer.{newest_in, newest_of, forwarded}

module _ (es : List Pending) (c n : ℕ) (h : suc n ≤ length es) where
  pub newest_step : newest_in (take (suc n) es) c ≡ option_map (λ (e : Pending). e.value) (cond (eqb (get_or es n no_pending).cell c) (Some (get_or es n no_pending)) (find (λ (e : Pending). eqb e.cell c) (reverse (take n es))))
  newest_step =
      let x = get_or es n no_pending in
      ap (λ (l : List Pending). newest_in l c) (take-suc es n no_pending (omega arith))
      ∙ ap (λ (l : List Pending). option_map (λ (e : Pending). e.value) (find (λ (e : Pending). eqb e.cell c) l)) (reverse-append (take n es) (x ∷ []))

newest_slice : (es : List Pending) (c n : ℕ) (d : ℤ) → n ≤ length es → unwrap_or (newest_in (take n es) c) d ≡ newest_of es n c d
unfolding newest_of
newest_slice es c zero d h = refl
newest_slice es c (suc n) d h = rw (newest_step es c n h) (one (eqb (get_or es n no_pending).cell c) (newest_slice es c n d (omega arith)))
  where
    one : (b : Bool) → unwrap_or (newest_in (take n es) c) d ≡ newest_of es n c d → unwrap_or (option_map (λ (e : Pending). e.value) (cond b (Some (get_or es n no_pending)) (find (λ (e : Pending). eqb e.cell c) (reverse (take n es))))) d ≡ pick b (get_or es n no_pending).value (newest_of es n c d)
    one true i = refl
    one false i = i

-- a value forwarded is the newest one's, or else the word in memory
pub forwarded_newest : (q : Queue) (c : ℕ) (word : ℤ) → length (pending q) ≡ q.count → forwarded q c word ≡ unwrap_or (newest_in (pending q) c) word
forwarded_newest q c word h = let l = length-take q.count q.entries in sym (newest_slice q.entries c q.count word (omega arith))
