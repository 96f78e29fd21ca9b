-- Signed 32-bit numbers: comparing, and "the sum wraps modulo 2^32 into the signed range".
use Rattle.std.specs.Prelude.{ℕ, ◌-◌, ◌%◌, ◌^◌, Bool, false, ℤ, pos, negsuc, ◌+ℤ◌, ◌==◌}
use Rattle.reader.specs.Bytes.{signed_of}

-- whether two numbers are the same
abbrev pub eq_z : ℤ → ℤ → Bool
eq_z (pos a) (pos b) = a == b
eq_z (pos a) (negsuc b) = false
eq_z (negsuc a) (pos b) = false
eq_z (negsuc a) (negsuc b) = a == b

-- z modulo m, from 0 to m - 1
abbrev pub mod_z : ℤ → ℕ → ℕ
mod_z (pos n) m = n % m
mod_z (negsuc n) m = m - 1 - n % m

-- z modulo 2^32, taken into the signed range
unfoldable pub wrapped : ℤ → ℤ
wrapped z = signed_of (mod_z z (2 ^ 32))

-- the exact formula of ADD
abbrev pub sum_of : ℤ → ℤ → ℤ
sum_of x y = wrapped (x +ℤ y)
