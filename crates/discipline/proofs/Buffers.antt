-- A row's searches, said of the list of its pending stores: once over the depth.
use Prim.Native.Nat.{ℕ, zero, suc, ◌<◌, ◌≤◌}
use mathlib.Core.Bool.{Bool, true, false, not, ◌&&◌, ◌||◌, true≢false}
use mathlib.Core.Logic.{◌≢◌}
use mathlib.Core.Path.{◌≡◌, refl, sym, ◌∙◌, ap}
use mathlib.Core.List.{List, [], ◌∷◌, ◌++◌}
use native.Mathlib.Omega.{arith}
use native.Mathlib.Decide.{ℕ_discrete}
use lib.ListN.{length, get_or, take, drop}
use lib.Seq.{take-suc}
use lib.Dec.{eqb}
use lib.IntN.{ℤ}
use borrow.Author.Tests.{eqb-true, eqb-false, ne_eqb}
use Rattle.reader.specs.declared.state.Pending.{Pending}
use Rattle.reader.specs.declared.state.Queue.{Queue}
use Rattle.reader.specs.State.{no_pending, outside_queue}
use Rattle.reader.specs.Queue.{pending}
use Rattle.reader.specs.Rules.{pick}
use Rattle.machine.specs.Buffer.{newest_of, forwarded}
use Rattle.discipline.specs.Elsewhere.{holds_of, holds, elsewhere_of}
use Rattle.discipline.proofs.Maps.{upd, upd_same, upd_other}
use Rattle.discipline.proofs.Abstract.{drained, pends}
use Rattle.discipline.proofs.Waiting.{drained_snoc}

-- the first pending store, and those behind it
pub oldest_first : (n : ℕ) (es : List Pending) → 0 < n → 0 < length es → take n es ≡ get_or es 0 no_pending ∷ drop 1 (take n es)
oldest_first zero es h l = absurd (omega arith)
oldest_first (suc n) [] h l = absurd (omega arith)
oldest_first (suc n) (e ∷ es) h l = refl

-- forwarding sees memory after the own stores have drained
module _ (es : List Pending) (m : ℕ → ℤ) (c : ℕ) where
  newest_drained : (n : ℕ) → n ≤ length es → drained (take n es) m c ≡ newest_of es n c (m c)
  unfolding newest_of
  newest_drained zero h = refl
  newest_drained (suc n) h =
      ap (λ (q : List Pending). drained q m c) (take-suc es n no_pending (omega arith))
      ∙ ap (λ (f : ℕ → ℤ). f c) (drained_snoc (take n es) (get_or es n no_pending) m)
      ∙ by (eqb (get_or es n no_pending).cell c) refl (newest_drained n (omega arith))
    where
      by : (b : Bool) → eqb (get_or es n no_pending).cell c ≡ b → drained (take n es) m c ≡ newest_of es n c (m c) →
          upd (drained (take n es) m) (get_or es n no_pending).cell (get_or es n no_pending).value c ≡ pick b (get_or es n no_pending).value (newest_of es n c (m c))
      by true e k = let z : (get_or es n no_pending).cell ≡ c = eqb-true _ _ e in rw z (upd_same (drained (take n es) m) c (get_or es n no_pending).value)
      by false e k = upd_other (drained (take n es) m) (get_or es n no_pending).cell (get_or es n no_pending).value c (λ z. eqb-false _ _ e (sym z)) ∙ k

pub forwarded_drained : (q : Queue) (m : ℕ → ℤ) (c : ℕ) → q.count ≤ length q.entries → drained (pending q) m c ≡ forwarded q c (m c)
forwarded_drained q m c h = newest_drained q.entries m c q.count h

-- no store to a cell among the first n entries
pends_snoc_none : (q : List Pending) (e : Pending) (c : ℕ) → pends q c ≡ false → eqb e.cell c ≡ false → pends (q ++ e ∷ []) c ≡ false
pends_snoc_none [] e c h k = rw k
pends_snoc_none (x ∷ q) e c h k = by (eqb x.cell c) h (λ z. pends_snoc_none q e c z k)
  where
    by : (b : Bool) → b || pends q c ≡ false → (pends q c ≡ false → pends (q ++ e ∷ []) c ≡ false) → b || pends (q ++ e ∷ []) c ≡ false
    by true z f = absurd (true≢false z)
    by false z f = f z

holds_none : (es : List Pending) (c n : ℕ) → n ≤ length es → holds_of es n c ≡ false → pends (take n es) c ≡ false
unfolding holds_of
holds_none es c zero h z = refl
holds_none es c (suc n) h z =
    ap (λ (q : List Pending). pends q c) (take-suc es n no_pending (omega arith)) ∙ by (eqb (get_or es n no_pending).cell c) refl z (holds_none es c n (omega arith))
  where
    by : (b : Bool) → eqb (get_or es n no_pending).cell c ≡ b → pick b true (holds_of es n c) ≡ false → (holds_of es n c ≡ false → pends (take n es) c ≡ false) → pends (take n es ++ get_or es n no_pending ∷ []) c ≡ false
    by true e z f = absurd (true≢false z)
    by false e z f = pends_snoc_none (take n es) (get_or es n no_pending) c (f z) e

-- nor in any row but t
module _ (qs : List Queue) (t c : ℕ) where
  row_none : (n : ℕ) → elsewhere_of qs n t c ≡ false → (j : ℕ) → j < n → j ≢ t → holds (get_or qs j outside_queue) c ≡ false
  unfolding elsewhere_of
  row_none zero z j h ne = absurd (omega arith)
  row_none (suc n) z j h ne = by (not (eqb n t) && holds (get_or qs n outside_queue) c) refl z (ℕ_discrete j n) (λ k l. row_none n k j l ne)
    where
      here : not (eqb j t) && holds (get_or qs j outside_queue) c ≡ false → holds (get_or qs j outside_queue) c ≡ false
      here k = rw (ne_eqb j t ne) at k

      by : (b : Bool) → not (eqb n t) && holds (get_or qs n outside_queue) c ≡ b → pick b true (elsewhere_of qs n t c) ≡ false → Dec (j ≡ n) → (elsewhere_of qs n t c ≡ false → j < n → holds (get_or qs j outside_queue) c ≡ false) → holds (get_or qs j outside_queue) c ≡ false
      by true e z d f = absurd (true≢false z)
      by false e z (yes q) f = here (rw q e)
      by false e z (no k) f = f z (omega arith)

  pub nowhere_else : (n : ℕ) → elsewhere_of qs n t c ≡ false → (j : ℕ) → j < n → j ≢ t → (get_or qs j outside_queue).count ≤ length (get_or qs j outside_queue).entries → pends (pending (get_or qs j outside_queue)) c ≡ false
  nowhere_else n z j h ne l = holds_none (get_or qs j outside_queue).entries c (get_or qs j outside_queue).count l (row_none n z j h ne)
