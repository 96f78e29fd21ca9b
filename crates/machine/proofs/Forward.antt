-- Forwarding is memory after the own buffer has drained into it: once over the depth and the cell.
use Rattle.std.proofs.Common.{◌≡◌, ℕ, zero, suc, ◌<◌, ◌≤◌, Bool, true, false, eqb, List, [], ◌∷◌, ◌++◌, length, get_or, take, set, ℤ, pos, sym, refl, ap, ◌∙◌, arith, length-set, get_or-set_other, take-suc, get_or-set_same, eqb-true}
use borrow.Author.Tests.{eqb-false}
use Rattle.reader.specs.declared.state.Pending.{Pending}
use Rattle.reader.specs.declared.state.Queue.{Queue}
use Rattle.reader.specs.State.{no_pending}
use Rattle.reader.specs.Queue.{pending}
use Rattle.reader.specs.Rules.{pick}
use Rattle.machine.specs.Buffer.{newest_of, forwarded}
use Rattle.machine.specs.Forward.{settled}

pub settled_append : (q r : List Pending) (m : List ℤ) → settled (q ++ r) m ≡ settled r (settled q m)
unfolding settled
settled_append [] r m = refl
settled_append (e ∷ q) r m = settled_append q r (set m e.cell e.value)

pub length_settled : (q : List Pending) (m : List ℤ) → length (settled q m) ≡ length m
unfolding settled
length_settled [] m = refl
length_settled (e ∷ q) m = length_settled q (set m e.cell e.value) ∙ length-set m e.cell e.value

module _ (es : List Pending) (m : List ℤ) (c : ℕ) (there : c < length m) where
  newest_settled : (n : ℕ) → n ≤ length es → get_or (settled (take n es) m) c (pos 0) ≡ newest_of es n c (get_or m c (pos 0))
  unfolding newest_of settled
  newest_settled zero h = refl
  newest_settled (suc n) h =
      let x = get_or es n no_pending in
      let r = settled (take n es) m in
      let e : settled (take (suc n) es) m ≡ set r x.cell x.value = ap (λ (q : List Pending). settled q m) (take-suc es n no_pending (omega arith)) ∙ settled_append (take n es) (x ∷ []) m in
      let l : length r ≡ length m = length_settled (take n es) m in
      rw e (one (eqb x.cell c) refl (newest_settled n (omega arith)) l)
    where
      one : (b : Bool) → eqb (get_or es n no_pending).cell c ≡ b → get_or (settled (take n es) m) c (pos 0) ≡ newest_of es n c (get_or m c (pos 0)) → length (settled (take n es) m) ≡ length m → get_or (set (settled (take n es) m) (get_or es n no_pending).cell (get_or es n no_pending).value) c (pos 0) ≡ pick b (get_or es n no_pending).value (newest_of es n c (get_or m c (pos 0)))
      one true b i l = let z : (get_or es n no_pending).cell ≡ c = eqb-true _ _ b in rw z (get_or-set_same (settled (take n es) m) c (get_or es n no_pending).value (pos 0) (omega arith))
      one false b i l = get_or-set_other (settled (take n es) m) (get_or es n no_pending).cell c (get_or es n no_pending).value (pos 0) (λ z. eqb-false _ _ b (sym z)) ∙ i

pub forwarded_settled : (q : Queue) (m : List ℤ) (c : ℕ) → c < length m → q.count ≤ length q.entries → forwarded q c (get_or m c (pos 0)) ≡ get_or (settled (pending q) m) c (pos 0)
forwarded_settled q m c there h = sym (newest_settled q.entries m c there q.count h)
