-- The state's parts by name, the state with one part changed, and the fresh state.
use Rattle.std.specs.Prelude.{ℕ, ◌+◌, ◌*◌, List, [], get_or, replicate, ℤ, pos}
use Rattle.reader.specs.declared.state.Pending.{Pending}
use Rattle.reader.specs.declared.state.Queue.{Queue}
use Rattle.reader.specs.declared.state.Instruction.{Instruction}
use Rattle.reader.specs.declared.state.State.{State}
use Rattle.reader.specs.Limits.{THREADS, CELLS, REGISTERS, DEPTH, INSTRUCTIONS}

-- what stands in a place that nothing was put into
abbrev pub no_pending : Pending
no_pending = record { value = pos 0; cell = 0 }

abbrev pub no_instruction : Instruction
no_instruction = record { value = pos 0; operation = 0; cell = 0; register = 0 }

abbrev pub no_queue : Queue
no_queue = record { entries = replicate DEPTH no_pending; count = 0 }

-- what the logic reads past the end of an array of queues
abbrev pub outside_queue : Queue
outside_queue = record { entries = []; count = 0 }

-- the row of thread t + 1 in each array
abbrev pub queue_of : State → ℕ → Queue
queue_of s t = get_or s.queues t outside_queue

abbrev pub position_of : State → ℕ → ℕ
position_of s t = get_or s.positions t 0

abbrev pub count_of : State → ℕ → ℕ
count_of s t = get_or s.counts t 0

abbrev pub dirty_of : State → ℕ → ℕ
dirty_of s t = get_or s.dirty t 0

abbrev pub code_place : ℕ → ℕ → ℕ
code_place t k = t * INSTRUCTIONS + k

abbrev pub instruction_of : State → ℕ → ℕ → Instruction
instruction_of s t k = get_or s.code (code_place t k) no_instruction

abbrev pub register_place : ℕ → ℕ → ℕ
register_place t r = t * REGISTERS + r

abbrev pub register_of : State → ℕ → ℕ → ℤ
register_of s t r = get_or s.registers (register_place t r) (pos 0)

abbrev pub memory_of : State → ℕ → ℤ
memory_of s c = get_or s.memory c (pos 0)

abbrev pub owner_of : State → ℕ → ℕ
owner_of s c = get_or s.owners c 0

abbrev pub sharing_of : State → ℕ → ℕ
sharing_of s c = get_or s.sharing c 0

-- the state with one part changed
module _ (s : State) where
  abbrev pub with_sizes : ℕ → ℕ → ℕ → State
  with_sizes threads cells depth = record { threads = threads; cells = cells; depth = depth; positions = s.positions; counts = s.counts; queues = s.queues; code = s.code; registers = s.registers; memory = s.memory; dirty = s.dirty; owners = s.owners; sharing = s.sharing }

  abbrev pub with_counts : List ℕ → State
  with_counts x = record { threads = s.threads; cells = s.cells; depth = s.depth; positions = s.positions; counts = x; queues = s.queues; code = s.code; registers = s.registers; memory = s.memory; dirty = s.dirty; owners = s.owners; sharing = s.sharing }

  abbrev pub with_queues : List Queue → State
  with_queues x = record { threads = s.threads; cells = s.cells; depth = s.depth; positions = s.positions; counts = s.counts; queues = x; code = s.code; registers = s.registers; memory = s.memory; dirty = s.dirty; owners = s.owners; sharing = s.sharing }

  abbrev pub with_code : List Instruction → State
  with_code x = record { threads = s.threads; cells = s.cells; depth = s.depth; positions = s.positions; counts = s.counts; queues = s.queues; code = x; registers = s.registers; memory = s.memory; dirty = s.dirty; owners = s.owners; sharing = s.sharing }

  abbrev pub with_memory : List ℤ → State
  with_memory x = record { threads = s.threads; cells = s.cells; depth = s.depth; positions = s.positions; counts = s.counts; queues = s.queues; code = s.code; registers = s.registers; memory = x; dirty = s.dirty; owners = s.owners; sharing = s.sharing }

  abbrev pub with_table : List ℕ → List ℕ → State
  with_table owners sharing = record { threads = s.threads; cells = s.cells; depth = s.depth; positions = s.positions; counts = s.counts; queues = s.queues; code = s.code; registers = s.registers; memory = s.memory; dirty = s.dirty; owners = owners; sharing = sharing }

-- "At the start buffers are empty, registers 0, positions 0, every thread's dirty flag clear." Sizes, cells and programs are read into it.
abbrev pub fresh_of : State
fresh_of = record {
  threads = 1;
  cells = 1;
  depth = 1;
  positions = replicate THREADS 0;
  counts = replicate THREADS 0;
  queues = replicate THREADS no_queue;
  code = replicate (THREADS * INSTRUCTIONS) no_instruction;
  registers = replicate (THREADS * REGISTERS) (pos 0);
  memory = replicate CELLS (pos 0);
  dirty = replicate THREADS 0;
  owners = replicate CELLS 0;
  sharing = replicate CELLS 0;
}
