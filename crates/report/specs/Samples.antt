-- Texts that the definitions give: small numbers, and R1's three lines.
use Rattle.std.specs.Prelude.{◌≡◌, refl, [], ◌∷◌, ◌++◌, pos, negsuc}
use Rattle.report.specs.Text.{spelled, natural, signed, item, texts, line, named, answer_line, lists, report}

-- "0", "9", "10", "1024"
pub naturals : (natural 0 ≡ 48 ∷ []) × (natural 9 ≡ 57 ∷ []) × (natural 10 ≡ 49 ∷ 48 ∷ []) × (natural 1024 ≡ 49 ∷ 48 ∷ 50 ∷ 52 ∷ [])
unfolding natural spelled
naturals = (refl, refl, refl, refl)

-- "-1", "-40"; the smallest number is in proofs/Smallest.antt, since it takes too many steps to compute
pub negatives : (signed (negsuc 0) ≡ 45 ∷ 49 ∷ []) × (signed (negsuc 39) ≡ 45 ∷ 52 ∷ 48 ∷ [])
unfolding signed natural spelled
negatives = (refl, refl)

-- "answer 31 at 1 thread 1", "values 0" and "memory 0 0": the lists are longer than what is written of them
pub r1 : report 31 1 1 2 (pos 0 ∷ pos 7 ∷ []) (pos 0 ∷ pos 0 ∷ pos 7 ∷ []) ≡
    (97 ∷ 110 ∷ 115 ∷ 119 ∷ 101 ∷ 114 ∷ 32 ∷ 51 ∷ 49 ∷ 32 ∷ 97 ∷ 116 ∷ 32 ∷ 49 ∷ 32 ∷ 116 ∷ 104 ∷ 114 ∷ 101 ∷ 97 ∷ 100 ∷ 32 ∷ 49 ∷ 10 ∷ []) ++
    ((118 ∷ 97 ∷ 108 ∷ 117 ∷ 101 ∷ 115 ∷ 32 ∷ 48 ∷ 10 ∷ []) ++
    (109 ∷ 101 ∷ 109 ∷ 111 ∷ 114 ∷ 121 ∷ 32 ∷ 48 ∷ 32 ∷ 48 ∷ 10 ∷ []))
unfolding report lists answer_line named line texts item signed natural spelled
r1 = refl

-- a refusal has one line: "answer 3 at 1 thread 0"
pub refused : report 3 1 0 2 (pos 7 ∷ []) (pos 7 ∷ []) ≡ 97 ∷ 110 ∷ 115 ∷ 119 ∷ 101 ∷ 114 ∷ 32 ∷ 51 ∷ 32 ∷ 97 ∷ 116 ∷ 32 ∷ 49 ∷ 32 ∷ 116 ∷ 104 ∷ 114 ∷ 101 ∷ 97 ∷ 100 ∷ 32 ∷ 48 ∷ 10 ∷ []
unfolding report answer_line named natural spelled
refused = refl
