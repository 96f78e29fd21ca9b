-- Draining: the one move that needs no instruction.
use Rattle.std.specs.Prelude.{ℕ, ◌<◌, ◌≤◌, set, get_or}
use Rattle.reader.specs.declared.state.Pending.{Pending}
use Rattle.reader.specs.declared.state.State.{State}
use Rattle.reader.specs.Limits.{THREADS, CELLS, DEPTH}
use Rattle.reader.specs.State.{no_pending, queue_of, with_queues, with_memory}
use Rattle.reader.specs.Queue.{popped_of}

-- the oldest pending store of row t
abbrev pub oldest_of : State → ℕ → Pending
oldest_of s t = get_or (queue_of s t).entries 0 no_pending

-- "Draining moves the oldest pending store into memory."
unfoldable pub drained_of : State → ℕ → State
drained_of s t =
    with_queues
    (with_memory s (set s.memory (oldest_of s t).cell (oldest_of s t).value))
    (set s.queues t (popped_of (queue_of s t)))

-- row t has a pending store, and that store a cell
pub record Drainable (s : State) (t : ℕ) : Type 0 where
  pub thread : t < THREADS
  pub some : 0 < (queue_of s t).count
  pub few : (queue_of s t).count ≤ DEPTH
  pub cell : (oldest_of s t).cell < CELLS
