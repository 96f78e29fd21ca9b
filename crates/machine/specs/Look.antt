-- What the code may look up: the row of a thread, and the cell and the register of an instruction.
use Rattle.std.specs.Prelude.{ℕ, ◌<◌}
use Rattle.reader.specs.declared.state.Instruction.{Instruction}
use Rattle.reader.specs.Limits.{THREADS, CELLS, REGISTERS}
use Rattle.machine.specs.Effect.{cell_of}

pub record Lookable (t : ℕ) (i : Instruction) : Type 0 where
  pub thread : t < THREADS
  pub cell : cell_of i < CELLS
  pub register : i.register < REGISTERS
