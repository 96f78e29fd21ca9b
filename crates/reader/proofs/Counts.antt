-- What a count that is fine holds.
use Prim.Native.Nat.{ℕ, ◌+◌, ◌≤◌, ◌<◌}
use mathlib.Core.Path.{◌≡◌}
use mathlib.Core.List.{List}
use native.Mathlib.Omega.{arith}
use lib.Dec.{leb}
use lib.ListN.{length}
use Rattle.reader.specs.Bytes.{byte, pair_at}
use Rattle.reader.specs.Rules.{within}
use Rattle.reader.specs.Limits.{ITEMS}
use Rattle.reader.specs.Case.{whole, count_judged, item_count_judged}
use Rattle.reader.proofs.Fields.{refuses, whole_fine, field_there, field_right}
use Rattle.reader.proofs.Tests.{within_true}

module _ (s : List ℕ) where
  -- a count of one byte that is fine
  pub record Counted (low high p : ℕ) : Type 0 where
    pub there : p < length s
    pub least : low ≤ byte s p
    pub most : byte s p ≤ high

  pub count_fine : (low high p : ℕ) → (count_judged s low high p).number ≡ 0 → Counted low high p
  unfolding count_judged
  count_fine low high p e =
      let w = whole (within low high (byte s p)) 1 in
      let t = field_there s 1 4 p w (refuses 3) e in
      let b = within_true low high (byte s p) (whole_fine (within low high (byte s p)) 1 (omega arith) (field_right s 1 4 p w (refuses 3) e)) in
      record { there = omega arith; least = b.0; most = b.1 }

  pub item_count_there : (p : ℕ) → (item_count_judged s p).number ≡ 0 → p + 2 ≤ length s
  unfolding item_count_judged
  item_count_there p e = let h = field_there s 2 4 p (whole (leb (pair_at s p) ITEMS) 2) (refuses 3) e in omega arith
