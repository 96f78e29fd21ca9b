-- The smallest number's text.
use Rattle.std.proofs.Common.{◌≡◌, ◌∙◌, refl, [], ◌∷◌, negsuc}
use Rattle.std.specs.Fmt.{digits}
use Rattle.std.proofs.Math.Facts.{sfits_lit}
use Rattle.report.specs.Text.{signed}
use Rattle.report.proofs.Decimal.{signed_is_decimal}

-- "-2147483648"
pub smallest : signed (negsuc 2147483647) ≡ 45 ∷ 50 ∷ 49 ∷ 52 ∷ 55 ∷ 52 ∷ 56 ∷ 51 ∷ 54 ∷ 52 ∷ 56 ∷ []
unfolding digits
smallest = signed_is_decimal (negsuc 2147483647) (sfits_lit tt) ∙ refl
