-- Laws of a field: how the code comes to its verdict, and what a field that is not refused holds.
use Prim.Native.Nat.{ℕ, suc, ◌+◌, ◌-◌, ◌≤◌, ◌<◌}
use mathlib.Core.Bool.{Bool, true, false}
use mathlib.Core.Path.{◌≡◌, refl}
use mathlib.Core.List.{List}
use native.Mathlib.Omega.{arith}
use lib.Dec.{leb}
use lib.ListN.{length}
use borrow.Author.Tests.{le-leb, lt-leb, leb-true, eq-eqb, eqb-true, eqb-false}
use Rattle.reader.specs.Reading.{Judged}
use Rattle.reader.specs.Rules.{pick}
use Rattle.reader.specs.Case.{refuse, next, fine, and_then, need, verdict_of, field, whole}

-- l bytes are left from p on, and r is a verdict
module _ (s : List ℕ) (n number p wrong : ℕ) {l : ℕ} {r : Judged} (e : l ≡ length s - p) where
  pub field_short : l < n → r ≡ refuse 5 p → r ≡ field s n number p wrong
  unfolding field
  field_short h f = let k = rw e at h in rw (f, lt-leb _ _ k)

  pub field_whole : n ≤ l → {w : ℕ} → w ≡ wrong → r ≡ verdict_of n number p w → r ≡ field s n number p wrong
  unfolding field
  field_whole h z f = let k = rw e at h in rw (f, z, le-leb _ _ k)

-- what a judged field brings, where it is fine
pub pick_fine : {A : Type 0} (j : Judged) (new old : A) → j.number ≡ 0 → pick (fine j) new old ≡ new
pick_fine j new old e = rw (eq-eqb _ _ e)

-- no number that refuses is 0
pub refuses : (n : ℕ) → suc n ≡ 0 → ⊥
refuses n e = omega arith

pub need_fine : (ok : Bool) (n p : ℕ) (j : Judged) → (n ≡ 0 → ⊥) → (need ok n p j).number ≡ 0 → (ok ≡ true) × (j.number ≡ 0)
need_fine true n p j h e = (refl, e)
need_fine false n p j h e = absurd (h e)

pub then_fine : (j k : Judged) → (and_then j k).number ≡ 0 → (j.number ≡ 0) × (k.number ≡ 0)
then_fine j k e = go (fine j) refl e
  where
    go : (t : Bool) → fine j ≡ t → (pick t k j).number ≡ 0 → (j.number ≡ 0) × (k.number ≡ 0)
    go true q e = (eqb-true _ _ q, e)
    go false q e = absurd (eqb-false _ _ q e)

pub whole_fine : (ok : Bool) (n : ℕ) → 0 < n → n ≤ whole ok n → ok ≡ true
whole_fine true n h k = refl
whole_fine false n h k = absurd (omega arith)

module _ (s : List ℕ) (n k p w : ℕ) (nz : k ≡ 0 → ⊥) (e : (field s n k p w).number ≡ 0) where
  parts : (leb n (length s - p) ≡ true) × (leb n w ≡ true)
  unfolding field verdict_of
  parts =
      let a = need_fine (leb n (length s - p)) 5 p (need (leb n w) k (p + w) (next (p + n))) (refuses 4) e in
      (a.0, (need_fine (leb n w) k (p + w) (next (p + n)) nz a.1).0)

  pub field_there : n ≤ length s - p
  field_there = leb-true _ _ parts.0

  pub field_right : n ≤ w
  field_right = leb-true _ _ parts.1

  pub field_next : (field s n k p w).place ≡ p + n
  unfolding field verdict_of
  field_next = rw (parts.0, parts.1)
