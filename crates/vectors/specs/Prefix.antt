-- A bundle: many cases in one file, each behind its length in four bytes, big-endian.
use Rattle.std.specs.Prelude.{ℕ, min, List}
use Rattle.reader.specs.Bytes.{byte, word_of}

abbrev pub length_of : List ℕ → ℕ
length_of head = word_of (byte head 0) (byte head 1) (byte head 2) (byte head 3)

-- "The program judges the first 65,536 bytes"
abbrev pub seen_of : ℕ → ℕ
seen_of length = min length 65536
