-- "Places beyond the counts are neither judged nor changed": what a state holds within its counts, and what stands beyond them.
use Rattle.std.specs.Prelude.{ℕ, ◌*◌, ◌≤◌, ◌<◌, ◌≡◌, get_or, pos}
use Rattle.reader.specs.declared.state.Pending.{Pending}
use Rattle.reader.specs.declared.state.State.{State}
use Rattle.reader.specs.Limits.{REGISTERS}
use Rattle.reader.specs.State.{no_pending, queue_of, position_of, count_of, dirty_of, instruction_of, register_of, memory_of, owner_of, sharing_of}

abbrev pub entry_of : State → ℕ → ℕ → Pending
entry_of s t k = get_or (queue_of s t).entries k no_pending

-- two states that are the same within the counts, in all that an answer may look at; beyond them they may differ in anything
pub record Alike (s m : State) : Type 0 where
  pub threads : m.threads ≡ s.threads
  pub cells : m.cells ≡ s.cells
  pub depth : m.depth ≡ s.depth
  pub owner : (c : ℕ) → c < s.cells → owner_of m c ≡ owner_of s c
  pub sharing : (c : ℕ) → c < s.cells → sharing_of m c ≡ sharing_of s c
  pub count : (t : ℕ) → t < s.threads → count_of m t ≡ count_of s t
  pub position : (t : ℕ) → t < s.threads → position_of m t ≡ position_of s t
  pub instruction : (t k : ℕ) → t < s.threads → k < count_of s t → instruction_of m t k ≡ instruction_of s t k
  pub pends : (t : ℕ) → t < s.threads → (queue_of m t).count ≡ (queue_of s t).count
  pub entry : (t k : ℕ) → t < s.threads → k < (queue_of s t).count → entry_of m t k ≡ entry_of s t k
  pub register : (t r : ℕ) → t < s.threads → r < REGISTERS → register_of m t r ≡ register_of s t r
  pub flag : (t : ℕ) → t < s.threads → dirty_of m t ≡ dirty_of s t

-- what a call leaves as it was: sizes and programs whole, rows from `threads` on, cells from `cells` on, and entries that no count covers, before or after
pub record Untouched (s m : State) : Type 0 where
  pub threads : m.threads ≡ s.threads
  pub cells : m.cells ≡ s.cells
  pub depth : m.depth ≡ s.depth
  pub counts : m.counts ≡ s.counts
  pub code : m.code ≡ s.code
  pub position : (t : ℕ) → s.threads ≤ t → position_of m t ≡ position_of s t
  pub queue : (t : ℕ) → s.threads ≤ t → queue_of m t ≡ queue_of s t
  pub entry : (k t : ℕ) → (queue_of s t).count ≤ k → (queue_of m t).count ≤ k → entry_of m t k ≡ entry_of s t k
  pub flag : (t : ℕ) → s.threads ≤ t → dirty_of m t ≡ dirty_of s t
  pub register : (r : ℕ) → s.threads * REGISTERS ≤ r → get_or m.registers r (pos 0) ≡ get_or s.registers r (pos 0)
  pub word : (c : ℕ) → s.cells ≤ c → memory_of m c ≡ memory_of s c
  pub owner : (c : ℕ) → s.cells ≤ c → owner_of m c ≡ owner_of s c
  pub sharing : (c : ℕ) → s.cells ≤ c → sharing_of m c ≡ sharing_of s c
