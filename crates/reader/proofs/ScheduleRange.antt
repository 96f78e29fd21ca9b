-- A schedule that was read without a refusal ends the case, and every item of it is one.
use Prim.Native.Nat.{ℕ, suc, ◌+◌, ◌≤◌, ◌<◌}
use mathlib.Core.Bool.{true}
use mathlib.Core.Path.{◌≡◌}
use mathlib.Core.List.{List}
use native.Mathlib.Omega.{arith}
use native.Mathlib.Decide.{ℕ_discrete}
use lib.Dec.{leb}
use lib.ListN.{length}
use borrow.Author.Tests.{leb-true}
use Rattle.reader.specs.Reading.{Judged}
use Rattle.reader.specs.Limits.{ITEMS}
use Rattle.reader.specs.Bytes.{byte, pair_at}
use Rattle.reader.specs.Rules.{item_fits}
use Rattle.reader.specs.Range.{Scheduled}
use Rattle.reader.specs.Case.{next, and_then, whole, itself, item_judged, items_judged, end_judged, item_count_judged, schedule_judged}
use Rattle.reader.proofs.Each.{each_fine}
use Rattle.reader.proofs.Fields.{refuses, need_fine, then_fine, whole_fine, field_there, field_right, field_next}
use Rattle.reader.proofs.Counts.{item_count_there}

module _ (s : List ℕ) (threads p : ℕ) where
  -- i items from p on were read
  record Items (i : ℕ) (j : Judged) : Type 0 where
    place : j.place ≡ p + i
    within : p + i ≤ length s
    item : (k : ℕ) → k < i → item_fits threads (byte s (p + k)) ≡ true

  item_right : (i : ℕ) (j : Judged) → Items i j → (item_judged s threads i j).number ≡ 0 → Items (suc i) (item_judged s threads i j)
  unfolding item_judged
  item_right i j g e =
      let w = whole (item_fits threads (byte s j.place)) 1 in
      let t = field_there s 1 8 j.place w (refuses 7) e in
      let n = field_next s 1 8 j.place w (refuses 7) e in
      let f = whole_fine (item_fits threads (byte s j.place)) 1 (omega arith) (field_right s 1 8 j.place w (refuses 7) e) in
      let q = g.place in
      record { place = omega arith; within = omega arith; item = λ k r. one (rw q at f) k r (ℕ_discrete k i) }
    where
      one : item_fits threads (byte s (p + i)) ≡ true → (k : ℕ) → k < suc i → Dec (k ≡ i) → item_fits threads (byte s (p + k)) ≡ true
      one f k r (yes z) = rw z f
      one f k r (no z) = g.item k (omega arith)

  items_right : (n : ℕ) → p ≤ length s → (items_judged s threads n p).number ≡ 0 → Items n (items_judged s threads n p)
  unfolding items_judged
  items_right n h e =
      each_fine itself (item_judged s threads) Items n (λ i j l. item_right i j) 0 n (next p) (omega arith)
      (record { place = omega arith; within = omega arith; item = λ k r. absurd (omega arith) }) e

item_count_few : (s : List ℕ) (p : ℕ) → (item_count_judged s p).number ≡ 0 → pair_at s p ≤ ITEMS
unfolding item_count_judged
item_count_few s p e =
    let w = whole (leb (pair_at s p) ITEMS) 2 in
    leb-true _ _ (whole_fine (leb (pair_at s p) ITEMS) 2 (omega arith) (field_right s 2 4 p w (refuses 3) e))

pub schedule_right : (s : List ℕ) (threads p : ℕ) → (schedule_judged s threads p).number ≡ 0 → Scheduled s threads (p + 2) (pair_at s p)
unfolding schedule_judged
schedule_right s threads p e =
    let j = items_judged s threads (pair_at s p) (p + 2) in
    let a = then_fine (item_count_judged s p) (and_then j (end_judged s j)) e in
    let t = item_count_there s p a.0 in
    let b = then_fine j (end_judged s j) a.1 in
    let g = items_right s threads (p + 2) (pair_at s p) (omega arith) b.0 in
    let l : length s ≤ j.place = leb-true _ _ (need_fine (leb (length s) j.place) 5 j.place j (refuses 4) b.1).0 in
    let q = g.place in
    let u = g.within in
    record { few = item_count_few s p a.0; ends = omega arith; item = g.item }
