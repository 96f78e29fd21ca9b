-- What stands at a place of a case. "All numbers are big-endian, signed ones in two's complement."
use Rattle.std.specs.Prelude.{ℕ, ◌+◌, ◌*◌, List, get_or, ℤ}
use Rattle.std.proofs.Common.{to_z}
use Rattle.std.specs.Int.{w32}
use Rattle.reader.specs.declared.bytes.Cell.{Cell}
use Rattle.reader.specs.declared.state.Instruction.{Instruction}

abbrev pub byte : List ℕ → ℕ → ℕ
byte s at = get_or s at 0

abbrev pub pair_at : List ℕ → ℕ → ℕ
pair_at s at = byte s at * 256 + byte s (at + 1)

abbrev pub word_of : ℕ → ℕ → ℕ → ℕ → ℕ
word_of a b c d = a * 16777216 + b * 65536 + c * 256 + d

-- a word is the number whose two's complement it is: itself below 2^31, and from there on 2^32 less
abbrev pub signed_of : ℕ → ℤ
signed_of word = to_z w32 word

unfoldable pub value_at : List ℕ → ℕ → ℤ
value_at s at = signed_of (word_of (byte s at) (byte s (at + 1)) (byte s (at + 2)) (byte s (at + 3)))

-- "for each cell 6 bytes: value (4), owner (0 nobody, else a thread), sharing (1 shared, 0 local)"
unfoldable pub cell_at : List ℕ → ℕ → Cell
cell_at s at = record { value = value_at s at; owner = byte s (at + 4); sharing = byte s (at + 5) }

-- "7 bytes an instruction: operation, cell, register, value (4)"
unfoldable pub instruction_at : List ℕ → ℕ → Instruction
instruction_at s at = record { value = value_at s (at + 3); operation = byte s at; cell = byte s (at + 1); register = byte s (at + 2) }
