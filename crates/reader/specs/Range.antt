-- The reader's promise to the layers above: what a state in range is, and what a case that is not refused gives.
use Rattle.std.specs.Prelude.{ℕ, ◌+◌, ◌*◌, ◌≤◌, ◌<◌, true, ◌≡◌, List, length, get_or}
use Rattle.reader.specs.declared.state.State.{State}
use Rattle.reader.specs.Reading.{Reading}
use Rattle.reader.specs.Limits.{THREADS, CELLS, REGISTERS, DEPTH, INSTRUCTIONS, ITEMS}
use Rattle.reader.specs.State.{no_pending, queue_of, position_of, count_of, instruction_of, owner_of, sharing_of, fresh_of}
use Rattle.reader.specs.Rules.{instruction_bytes, instruction_wrong, item_fits}
use Rattle.reader.specs.Bytes.{byte}

-- "owner at most threads, unowned cells shared"; a sharing mark is one that a case could hold
pub record CellIn (s : State) (c : ℕ) : Type 0 where
  pub owner : owner_of s c ≤ s.threads
  pub sharing : sharing_of s c ≤ 1
  pub unowned : owner_of s c ≡ 0 → sharing_of s c ≡ 1

-- "every instruction as a case could hold it"
pub record ProgramIn (s : State) (t : ℕ) : Type 0 where
  pub few : count_of s t ≤ INSTRUCTIONS
  pub right : (k : ℕ) → k < count_of s t → instruction_bytes ≤ instruction_wrong s.cells (count_of s t) (instruction_of s t k)

-- "pending counts at most depth, pending cells existing"
pub record QueueIn (s : State) (t : ℕ) : Type 0 where
  pub few : (queue_of s t).count ≤ s.depth
  pub exists : (k : ℕ) → k < (queue_of s t).count → (get_or (queue_of s t).entries k no_pending).cell < s.cells

-- "In range means: the limits above, pending counts at most depth, pending cells existing, owner at most threads, unowned cells shared,
-- positions at most the instruction count, every instruction as a case could hold it."
pub record InRange (s : State) : Type 0 where
  pub some_threads : 1 ≤ s.threads
  pub threads : s.threads ≤ THREADS
  pub some_cells : 1 ≤ s.cells
  pub cells : s.cells ≤ CELLS
  pub some_depth : 1 ≤ s.depth
  pub depth : s.depth ≤ DEPTH
  pub cell : (c : ℕ) → c < s.cells → CellIn s c
  pub program : (t : ℕ) → t < s.threads → ProgramIn s t
  pub queue : (t : ℕ) → t < s.threads → QueueIn s t
  pub position : (t : ℕ) → t < s.threads → position_of s t ≤ count_of s t

-- Every array has the length that its type gives it. The code's states are so by their type; a definition's have to be shown so.
pub record Shaped (s : State) : Type 0 where
  pub positions : length s.positions ≡ THREADS
  pub counts : length s.counts ≡ THREADS
  pub queues : length s.queues ≡ THREADS
  pub entries : (t : ℕ) → t < THREADS → length (queue_of s t).entries ≡ DEPTH
  pub code : length s.code ≡ THREADS * INSTRUCTIONS
  pub registers : length s.registers ≡ THREADS * REGISTERS
  pub memory : length s.memory ≡ CELLS
  pub dirty : length s.dirty ≡ THREADS
  pub owners : length s.owners ≡ CELLS
  pub sharing : length s.sharing ≡ CELLS

-- "At the start buffers are empty, registers 0, positions 0, every thread's dirty flag clear."
pub record Started (s : State) : Type 0 where
  pub queues : s.queues ≡ fresh_of.queues
  pub registers : s.registers ≡ fresh_of.registers
  pub positions : s.positions ≡ fresh_of.positions
  pub dirty : s.dirty ≡ fresh_of.dirty

-- the schedule stands at the end of a case, and every item is one
pub record Scheduled (case : List ℕ) (threads start items : ℕ) : Type 0 where
  pub few : items ≤ ITEMS
  pub ends : start + items ≡ length case
  pub item : (k : ℕ) → k < items → item_fits threads (byte case (start + k)) ≡ true

-- what a reading that is not refused promises
pub record WellFormed (case : List ℕ) (r : Reading) : Type 0 where
  pub shaped : Shaped r.state
  pub in_range : InRange r.state
  pub started : Started r.state
  pub schedule : Scheduled case r.state.threads r.start r.items
