-- Signed numbers at 32 bits: the sum modulo 2^32, in the library's words and the definition's, and that two are equal exactly where their bits are.
use Rattle.std.proofs.Common.{◌≡◌, ℕ, suc, ◌+◌, ◌-◌, ◌%◌, ◌<◌, ◌≤◌, Bool, true, false, cond, ltb, ltb-true, ltb-false, ℤ, pos, negsuc, ◌+ℤ◌, SFits, of_z, eq-eqb, ne_eqb, add_comm, refl, ap, arith, w32}
use Rattle.std.specs.Int.{int_wrap}
use Rattle.machine.specs.Integer.{mod_z, wrapped, eq_z}

-- what the library's sum leaves of a number at 32 bits is the number modulo 2 ^ 32
pub wrap_is : (z : ℤ) → int_wrap w32 z ≡ wrapped z
unfolding int_wrap wrapped
wrap_is (pos n) = refl
wrap_is (negsuc n) = refl

sub_mod : (a b : ℕ) (t : Bool) → ltb a b ≡ t → a < 2147483648 → b ≤ 2147483648 → (a + (4294967296 - b)) % 4294967296 ≡ mod_z (cond t (negsuc (b - suc a)) (pos (a - b))) 4294967296
sub_mod a b true e h k = let l : a < b = ltb-true a b e in omega arith
sub_mod a b false e h k = let l : b ≤ a = ltb-false a b e in omega arith

-- the sum of the bits, modulo 2 ^ 32, is the sum modulo 2 ^ 32
pub sum_mod : (x y : ℤ) → SFits w32 x → SFits w32 y → (of_z w32 x + of_z w32 y) % 4294967296 ≡ mod_z (x +ℤ y) 4294967296
sum_mod (pos a) (pos b) f g = refl
sum_mod (pos a) (negsuc b) f g = let h = f.sfits in let k = g.sfits in sub_mod a (suc b) (ltb a (suc b)) refl (omega arith) (omega arith)
sum_mod (negsuc a) (pos b) f g = let h = f.sfits in let k = g.sfits in rw add_comm (sub_mod b (suc a) (ltb b (suc a)) refl (omega arith) (omega arith))
sum_mod (negsuc a) (negsuc b) f g = let h = f.sfits in let k = g.sfits in omega arith

-- two numbers are the same exactly where their bits are
pub eq_z_true : (x y : ℤ) → SFits w32 x → SFits w32 y → of_z w32 x ≡ of_z w32 y → eq_z x y ≡ true
eq_z_true (pos a) (pos b) f g e = eq-eqb a b e
eq_z_true (pos a) (negsuc b) f g e = let h = f.sfits in let k = g.sfits in absurd (omega arith)
eq_z_true (negsuc a) (pos b) f g e = let h = f.sfits in let k = g.sfits in absurd (omega arith)
eq_z_true (negsuc a) (negsuc b) f g e = let h = f.sfits in let k = g.sfits in eq-eqb a b (omega arith)

pub eq_z_false : (x y : ℤ) → (of_z w32 x ≡ of_z w32 y → ⊥) → eq_z x y ≡ false
eq_z_false (pos a) (pos b) n = ne_eqb a b n
eq_z_false (pos a) (negsuc b) n = refl
eq_z_false (negsuc a) (pos b) n = refl
eq_z_false (negsuc a) (negsuc b) n = ne_eqb a b (λ e. n (ap (λ (k : ℕ). 4294967296 - suc k) e))
