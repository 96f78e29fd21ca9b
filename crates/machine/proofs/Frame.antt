-- What a step of one thread does to its own row, and that it leaves the rows of the others. Once over the thread number.
use Rattle.std.proofs.Common.{◌≡◌, ℕ, ◌<◌, ◌≤◌, drop, pos, refl, arith, get_or-set_other, get_or-set_same}
use Rattle.reader.specs.declared.state.Instruction.{Instruction}
use Rattle.reader.specs.declared.state.State.{State}
use Rattle.reader.specs.Limits.{THREADS, CELLS, REGISTERS, DEPTH}
use Rattle.reader.specs.State.{outside_queue, queue_of, position_of, register_place, register_of, memory_of}
use Rattle.reader.specs.Queue.{pending, popped_of}
use Rattle.reader.specs.Drain.{oldest_of, drained_of}
use Rattle.reader.specs.Range.{Shaped}
use Rattle.reader.proofs.Row.{pending_popped}
use Rattle.machine.specs.declared.effect.Effect.{Effect}
use Rattle.machine.specs.Buffer.{after_of}
use Rattle.machine.specs.Effect.{took_of, pushes, pushed_value}

-- the rows of another thread
module _ (s : State) (t u : ℕ) (ne : u ≡ t → ⊥) where
  module _ (i : Instruction) (e : Effect) where
    pub took_queue_other : queue_of (took_of s t i e) u ≡ queue_of s u
    unfolding took_of
    took_queue_other = get_or-set_other s.queues t u _ outside_queue ne

    pub took_position_other : position_of (took_of s t i e) u ≡ position_of s u
    unfolding took_of
    took_position_other = get_or-set_other s.positions t u e.next 0 ne

    pub took_register_other : (r : ℕ) → r < REGISTERS → i.register < REGISTERS → register_of (took_of s t i e) u r ≡ register_of s u r
    unfolding took_of
    took_register_other r a b = get_or-set_other s.registers (register_place t i.register) (register_place u r) e.content (pos 0) (λ q. ne (omega arith))

  pub drained_queue_other : queue_of (drained_of s t) u ≡ queue_of s u
  unfolding drained_of
  drained_queue_other = get_or-set_other s.queues t u _ outside_queue ne

-- a drain leaves every position and register
module _ (s : State) (t : ℕ) where
  pub drained_positions : (drained_of s t).positions ≡ s.positions
  unfolding drained_of
  drained_positions = refl

  pub drained_registers : (drained_of s t).registers ≡ s.registers
  unfolding drained_of
  drained_registers = refl

-- the own row, and memory
module _ {s : State} (g : Shaped s) {t : ℕ} (h : t < THREADS) where
  pub drained_queue : queue_of (drained_of s t) t ≡ popped_of (queue_of s t)
  unfolding drained_of
  drained_queue = let l = g.queues in get_or-set_same s.queues t (popped_of (queue_of s t)) outside_queue (omega arith)

  -- the oldest pending store leaves the buffer
  pub drained_pending : 0 < (queue_of s t).count → (queue_of s t).count ≤ DEPTH → pending (queue_of (drained_of s t) t) ≡ drop 1 (pending (queue_of s t))
  drained_pending some few = let l = g.entries t h in rw drained_queue (pending_popped (queue_of s t) some (omega arith))

  -- and stands in memory
  pub drained_memory_same : (oldest_of s t).cell < CELLS → memory_of (drained_of s t) (oldest_of s t).cell ≡ (oldest_of s t).value
  unfolding drained_of
  drained_memory_same k = let l = g.memory in get_or-set_same s.memory (oldest_of s t).cell (oldest_of s t).value (pos 0) (omega arith)

  pub drained_memory_other : (c : ℕ) → (c ≡ (oldest_of s t).cell → ⊥) → memory_of (drained_of s t) c ≡ memory_of s c
  unfolding drained_of
  drained_memory_other c ne = get_or-set_other s.memory (oldest_of s t).cell c (oldest_of s t).value (pos 0) ne

  pub took_queue : (i : Instruction) (e : Effect) → queue_of (took_of s t i e) t ≡ after_of (queue_of s t) (pushes e) (record { value = pushed_value e; cell = i.cell })
  unfolding took_of
  took_queue i e = let l = g.queues in get_or-set_same s.queues t _ outside_queue (omega arith)

  pub took_position : (i : Instruction) (e : Effect) → position_of (took_of s t i e) t ≡ e.next
  unfolding took_of
  took_position i e = let l = g.positions in get_or-set_same s.positions t e.next 0 (omega arith)

  pub took_register : (i : Instruction) (e : Effect) → i.register < REGISTERS → register_of (took_of s t i e) t i.register ≡ e.content
  unfolding took_of
  took_register i e r = let l = g.registers in get_or-set_same s.registers (register_place t i.register) e.content (pos 0) (omega arith)
