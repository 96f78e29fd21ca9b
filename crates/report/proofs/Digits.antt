-- The digits of a number: those of its tenth, and the last one.
use Prim.Native.Nat.{ℕ, zero, suc, ◌*◌, ◌/◌, ◌%◌, ◌≤◌, ◌<◌}
use mathlib.Core.Bool.{Bool, true, false}
use mathlib.Core.Path.{◌≡◌, refl, sym, ◌∙◌}
use mathlib.Core.List.{[], ◌∷◌, ◌++◌}
use native.Mathlib.Omega.{arith}
use lib.Dec.{ltb}
use lib.ListN.{length, length-append}
use borrow.Author.Tests.{lt-ltb, le-ltb, ltb-true, ltb-false}
use Rattle.report.specs.Text.{digit, spelled, natural}

one_digit : (bound n : ℕ) → n < 10 → spelled bound n ≡ digit n ∷ []
unfolding spelled
one_digit zero n h = refl
one_digit (suc bound) n h = rw (lt-ltb n 10 h)

more_digits : (bound n : ℕ) → 10 ≤ n → spelled (suc bound) n ≡ spelled bound (n / 10) ++ (digit (n % 10) ∷ [])
unfolding spelled
more_digits bound n h = rw (le-ltb n 10 h)

more_same : (b c n : ℕ) (t : Bool) → ltb n 10 ≡ t → (10 ≤ n → spelled b (n / 10) ≡ spelled c (n / 10)) → spelled (suc b) n ≡ spelled (suc c) n
more_same b c n true e same = let h = ltb-true n 10 e in one_digit (suc b) n h ∙ sym (one_digit (suc c) n h)
more_same b c n false e same = let h = ltb-false n 10 e in more_digits b n h ∙ rw (same h) (sym (more_digits c n h))

-- any bound that is not below the number gives the same digits
same_digits : (b c n : ℕ) → n ≤ b → n ≤ c → spelled b n ≡ spelled c n
same_digits zero c n h k = let l : n < 10 = omega arith in one_digit zero n l ∙ sym (one_digit c n l)
same_digits (suc b) zero n h k = let l : n < 10 = omega arith in one_digit (suc b) n l ∙ sym (one_digit zero n l)
same_digits (suc b) (suc c) n h k = more_same b c n (ltb n 10) refl (λ l. same_digits b c (n / 10) (omega arith) (omega arith))

pub natural_one : (n : ℕ) → n < 10 → natural n ≡ digit n ∷ []
unfolding natural
natural_one n h = one_digit n n h

pub natural_more : (n : ℕ) → 10 ≤ n → natural n ≡ natural (n / 10) ++ (digit (n % 10) ∷ [])
unfolding natural
natural_more zero h = absurd (omega arith)
natural_more (suc m) h = more_digits m (suc m) h ∙ rw (same_digits m (suc m / 10) (suc m / 10) (omega arith) (omega arith))

-- 10 to the power of k + 1
abbrev pub tens : ℕ → ℕ
tens zero = 10
tens (suc k) = tens k * 10

more_length : (k n : ℕ) (t : Bool) → ltb n 10 ≡ t → (10 ≤ n → length (natural (n / 10)) ≤ k) → length (natural n) ≤ suc k
more_length k n true e tenth = rw (natural_one n (ltb-true n 10 e)) (omega arith)
more_length k n false e tenth =
    let h = ltb-false n 10 e in
    let l = tenth h in
    rw (natural_more n h, length-append) (omega arith)

pub natural_length : (k n : ℕ) → n < tens k → length (natural n) ≤ suc k
natural_length zero n h = rw (natural_one n h) (omega arith)
natural_length (suc k) n h = more_length (suc k) n (ltb n 10) refl (λ l. natural_length k (n / 10) (omega arith))
