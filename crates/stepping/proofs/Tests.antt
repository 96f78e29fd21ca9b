-- What makes a test of two bounds hold.
use Prim.Native.Nat.{ℕ, ◌≤◌}
use mathlib.Core.Bool.{true}
use mathlib.Core.Path.{◌≡◌}
use borrow.Author.Tests.{le-leb}
use Rattle.std.proofs.lemmas.Bool.{and_from}
use Rattle.reader.specs.Rules.{within}

pub true_within : {low high x : ℕ} → low ≤ x → x ≤ high → within low high x ≡ true
unfolding within
true_within h k = and_from _ _ (le-leb _ _ h) (le-leb _ _ k)
