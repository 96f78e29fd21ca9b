-- The limits, under the names that the state type gives them in src/state.rt. A definition cannot read a constant of the code, so the numbers
-- stand here again; the proof of `State::fresh` and of the schedule's count fails where the two differ.
use Rattle.std.specs.Prelude.{ℕ}

-- "Threads 1 to 4, numbered from 1."
abbrev pub THREADS : ℕ
THREADS = 4

-- "Cells 1 to 32, numbered from 0."
abbrev pub CELLS : ℕ
CELLS = 32

-- "Registers 4 for each thread, numbered from 0."
abbrev pub REGISTERS : ℕ
REGISTERS = 4

-- "Buffer depth 1 to 8."
abbrev pub DEPTH : ℕ
DEPTH = 8

-- "Instructions 0 to 32 for each thread."
abbrev pub INSTRUCTIONS : ℕ
INSTRUCTIONS = 32

-- "Schedule 0 to 1,024 items."
abbrev pub ITEMS : ℕ
ITEMS = 1024
