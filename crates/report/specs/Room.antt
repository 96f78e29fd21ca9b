-- How many bytes the parts of a report take at most. A definition cannot read a constant of the code, so the three numbers of src/lib.rt stand
-- here again; the proof of a program that sizes its buffer by those fails where they are smaller.
use Rattle.std.specs.Prelude.{ℕ, ◌+◌, ◌*◌, List, ℤ, length}

-- "answer ", " at ", " thread " and a newline are 20 bytes; two numbers of 32 bits have 10 digits each at most, one of 64 bits has 20
abbrev pub ANSWER_BYTES : ℕ
ANSWER_BYTES = 60

-- a word of 6 bytes and a newline
abbrev pub WORD_BYTES : ℕ
WORD_BYTES = 7

-- a blank, a minus sign and 10 digits
abbrev pub ITEM_BYTES : ℕ
ITEM_BYTES = 12

abbrev pub items_room : List ℤ → ℕ
items_room xs = ITEM_BYTES * length xs

abbrev pub line_room : List ℕ → List ℤ → ℕ
line_room word xs = length word + items_room xs + 1

abbrev pub lists_room : List ℤ → List ℤ → ℕ
lists_room values memory = (WORD_BYTES + items_room values) + (WORD_BYTES + items_room memory)

abbrev pub report_room : List ℤ → List ℤ → ℕ
report_room values memory = ANSWER_BYTES + lists_room values memory
