-- How many bytes the parts of a report take at most.
use Rattle.std.proofs.Common.{ℕ, suc, ◌+◌, ◌≤◌, ℤ, pos, negsuc, length, Fits, FitsSigned, w32, w64, arith, length-append}
use Rattle.report.specs.Text.{signed, named, answer_line}
use Rattle.report.specs.Room.{ANSWER_BYTES, ITEM_BYTES}
use Rattle.report.proofs.Digits.{natural_length}

-- a number and the blank in front of it
pub signed_length : (x : ℤ) → FitsSigned w32 x → length (signed x) + 1 ≤ ITEM_BYTES
unfolding signed
signed_length (pos n) f = let h = f.sfits in omega (arith, natural_length 9 n (omega arith))
signed_length (negsuc n) f = let h = f.sfits in omega (arith, natural_length 9 (suc n) (omega arith))

pub answer_length : {number place thread : ℕ} → Fits w32 number → Fits w64 place → Fits w32 thread → length (answer_line number place thread) ≤ ANSWER_BYTES
unfolding answer_line named
answer_length {number} {place} {thread} f g h =
    let i = f.fits in
    let j = g.fits in
    let k = h.fits in
    let l = natural_length 9 number (omega arith) in
    let m = natural_length 19 place (omega arith) in
    let n = natural_length 9 thread (omega arith) in
    simp length-append (omega arith)
