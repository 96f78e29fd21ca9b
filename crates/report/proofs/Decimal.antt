-- The digits are those that the library writes.
use Rattle.std.proofs.Common.{ℕ, suc, ◌+◌, ◌%◌, ◌^◌, ◌<◌, ◌≡◌, ◌∙◌, List, [], ◌∷◌, ◌++◌, ℤ, pos, negsuc, FitsSigned, w32, decimal, ap, arith}
use Rattle.std.specs.Fmt.{signed_decimal}
use Rattle.std.proofs.lemmas.Fmt.{decimal_by_steps}
use Rattle.report.specs.Text.{minus, natural, signed}
use Rattle.report.proofs.Digits.{natural_one, natural_more}

pub natural_is_decimal : (n : ℕ) → n < 2 ^ 64 → natural n ≡ decimal n
natural_is_decimal n h = decimal_by_steps (λ n digits. natural n ≡ digits) natural_one (λ n tenth l e. natural_more n l ∙ ap (λ (s : List ℕ). s ++ ((48 + n % 10) ∷ [])) e) n h

pub signed_is_decimal : (x : ℤ) → FitsSigned w32 x → signed x ≡ signed_decimal x
unfolding signed
signed_is_decimal (pos n) f = let h = f.sfits in natural_is_decimal n (omega arith)
signed_is_decimal (negsuc n) f = let h = f.sfits in ap (λ (s : List ℕ). minus ∷ s) (natural_is_decimal (suc n) (omega arith))
