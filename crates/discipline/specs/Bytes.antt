-- The bytes of a case, from its parts, as the samples here are written.
use Rattle.std.specs.Prelude.{ℕ, ◌+◌, ◌/◌, ◌%◌, List, [], ◌∷◌, ◌++◌, length}

abbrev pub word : ℕ → List ℕ
word n = 0 ∷ 0 ∷ 0 ∷ n ∷ []

abbrev pub minus_forty : List ℕ
minus_forty = 255 ∷ 255 ∷ 255 ∷ 216 ∷ []

abbrev pub largest : List ℕ
largest = 127 ∷ 255 ∷ 255 ∷ 255 ∷ []

abbrev pub cell : ℕ → ℕ → ℕ → List ℕ
cell value owner sharing = word value ++ (owner ∷ sharing ∷ [])

-- "cells start unowned, shared and 0 unless said"
abbrev pub free : List ℕ
free = cell 0 0 1

abbrev pub instruction : ℕ → ℕ → ℕ → List ℕ → List ℕ
instruction operation c register value = operation ∷ c ∷ register ∷ value

abbrev pub LOAD : ℕ → List ℕ
LOAD c = instruction 1 c 0 (word 0)

abbrev pub STORE : ℕ → List ℕ → List ℕ
STORE c value = instruction 2 c 0 value

abbrev pub FENCE : List ℕ
FENCE = instruction 4 0 0 (word 0)

abbrev pub SWAP : ℕ → List ℕ → List ℕ
SWAP c value = instruction 5 c 0 value

abbrev pub ACQUIRE : ℕ → List ℕ
ACQUIRE c = instruction 6 c 0 (word 0)

abbrev pub RELEASE : ℕ → List ℕ
RELEASE c = instruction 8 c 0 (word 0)

abbrev pub BRANCH : ℕ → List ℕ → List ℕ
BRANCH target value = instruction 9 target 0 value

abbrev pub ADD : List ℕ → List ℕ
ADD value = instruction 10 0 0 value

abbrev pub joined : List (List ℕ) → List ℕ
joined [] = []
joined (x ∷ xs) = x ++ joined xs

abbrev pub count : {A : Type 0} → List A → ℕ
count xs = length xs

abbrev pub programs : List (List (List ℕ)) → List ℕ
programs [] = []
programs (p ∷ ps) = (count p ∷ joined p) ++ programs ps

abbrev pub framed : List ℕ → List ℕ
framed body = let n = length body + 3 in 1 ∷ n / 256 ∷ n % 256 ∷ body

-- depth, cells, one program for each thread, schedule
abbrev pub case_of : ℕ → List (List ℕ) → List (List (List ℕ)) → List ℕ → List ℕ
case_of depth cells ps schedule =
    framed ((count ps ∷ count cells ∷ depth ∷ []) ++ joined cells ++ programs ps ++ (count schedule / 256 ∷ count schedule % 256 ∷ schedule))
