-- The text of a report, as the bytes of its ASCII characters. "prints `answer N at P thread T`; for 0 and from 20 up also a line `values`
-- with the elements written and a line `memory`, each number after one blank."
use Rattle.std.specs.Prelude.{ℕ, zero, suc, ◌+◌, ◌/◌, ◌%◌, Bool, true, false, ◌||◌, List, [], ◌∷◌, ◌++◌, eqb, leb, ltb, ℤ, pos, negsuc, take}

abbrev pub pick : {A : Type 0} → Bool → A → A → A
pick true a b = a
pick false a b = b

abbrev pub blank : ℕ
blank = 32

abbrev pub minus : ℕ
minus = 45

abbrev pub newline : ℕ
newline = 10

-- the character of a digit
abbrev pub digit : ℕ → ℕ
digit d = 48 + d

-- the decimal digits of n, the most significant first and no zero in front; the first number bounds how many follow the first one
unfoldable pub spelled : ℕ → ℕ → List ℕ
spelled zero n = digit n ∷ []
spelled (suc bound) n = pick (ltb n 10) (digit n ∷ []) (spelled bound (n / 10) ++ (digit (n % 10) ∷ []))

-- behind its first digit a number n has at most n more
unfoldable pub natural : ℕ → List ℕ
natural n = spelled n n

-- `negsuc k` is -(k + 1)
unfoldable pub signed : ℤ → List ℕ
signed (pos k) = natural k
signed (negsuc k) = minus ∷ natural (suc k)

-- "each number after one blank"
unfoldable pub item : ℤ → List ℕ
item x = blank ∷ signed x

-- the texts of a list's elements, one behind the other
unfoldable pub texts : {A : Type 0} → (A → List ℕ) → List A → List ℕ
texts f [] = []
texts f (x ∷ xs) = f x ++ texts f xs

abbrev pub items : List ℤ → List ℕ
items = texts item

-- a word and numbers: "With nothing taken the line is `values` alone."
unfoldable pub line : List ℕ → List ℤ → List ℕ
line word xs = word ++ (items xs ++ (newline ∷ []))

-- "answer "
abbrev pub ANSWER : List ℕ
ANSWER = 97 ∷ 110 ∷ 115 ∷ 119 ∷ 101 ∷ 114 ∷ 32 ∷ []

-- " at "
abbrev pub AT : List ℕ
AT = 32 ∷ 97 ∷ 116 ∷ 32 ∷ []

-- " thread "
abbrev pub THREAD : List ℕ
THREAD = 32 ∷ 116 ∷ 104 ∷ 114 ∷ 101 ∷ 97 ∷ 100 ∷ 32 ∷ []

-- "values"
abbrev pub VALUES : List ℕ
VALUES = 118 ∷ 97 ∷ 108 ∷ 117 ∷ 101 ∷ 115 ∷ []

-- "memory"
abbrev pub MEMORY : List ℕ
MEMORY = 109 ∷ 101 ∷ 109 ∷ 111 ∷ 114 ∷ 121 ∷ []

-- a word and a number behind it
unfoldable pub named : List ℕ → ℕ → List ℕ
named word n = word ++ natural n

-- "`answer N at P thread T`"
unfoldable pub answer_line : ℕ → ℕ → ℕ → List ℕ
answer_line number place thread = named ANSWER number ++ (named AT place ++ (named THREAD thread ++ (newline ∷ [])))

-- "for 0 and from 20 up": the case ran
abbrev pub has_run : ℕ → Bool
has_run number = eqb number 0 || leb 20 number

-- the lines of the two lists: "the elements written", as many as the place says, and the memory of each cell
unfoldable pub lists : ℕ → ℕ → List ℤ → List ℤ → List ℕ
lists place cells values memory = line VALUES (take place values) ++ line MEMORY (take cells memory)

-- the whole output
unfoldable pub report : ℕ → ℕ → ℕ → ℕ → List ℤ → List ℤ → List ℕ
report number place thread cells values memory = answer_line number place thread ++ pick (has_run number) (lists place cells values memory) []
