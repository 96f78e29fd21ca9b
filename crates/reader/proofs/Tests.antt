-- What the tests of the reader's code say, as the definitions say it.
use Prim.Native.Nat.{ℕ, ◌≤◌}
use mathlib.Core.Bool.{true}
use mathlib.Core.Path.{◌≡◌}
use lib.Dec.{leb}
use borrow.Author.Tests.{leb-true}
use Rattle.std.proofs.lemmas.Bool.{and_parts}
use Rattle.reader.specs.Rules.{within}

pub within_true : (low high x : ℕ) → within low high x ≡ true → (low ≤ x) × (x ≤ high)
unfolding within
within_true low high x e = let b = and_parts (leb low x) (leb x high) e in (leb-true _ _ b.0, leb-true _ _ b.1)
