-- The ownership table and the dirty flag, as the rules look at them: what is held of the cell that an instruction is about. The rules ask
-- for nothing else of the table; a step alone puts the lists back.
use Rattle.std.specs.Prelude.{ℕ, ◌+◌, Bool, ◌&&◌, not, List, get_or, set, eqb}
use Rattle.reader.specs.declared.state.Instruction.{Instruction}
use Rattle.reader.specs.declared.state.State.{State}
use Rattle.machine.specs.Action.{LOCAL, SHARED}
use Rattle.machine.specs.Effect.{cell_of}
use Rattle.discipline.specs.declared.table.Held.{Held}

-- the owner and the sharing mark of the cell of instruction i, and the flag of row t
unfoldable pub held_of : List ℕ → List ℕ → List ℕ → ℕ → Instruction → Held
held_of owners sharing dirty t i = record { dirty = get_or dirty t 0; owner = get_or owners (cell_of i) 0; sharing = get_or sharing (cell_of i) 0 }

abbrev pub held_in : State → ℕ → Instruction → Held
held_in s t i = held_of s.owners s.sharing s.dirty t i

module _ (h : Held) where
  -- "0 nobody, else a thread"; row t is thread t + 1
  abbrev pub owned : Bool
  owned = not (eqb h.owner 0)

  abbrev pub owns : ℕ → Bool
  owns t = eqb h.owner (t + 1)

  -- another thread owns the cell
  abbrev pub others : ℕ → Bool
  others t = owned && not (owns t)

  abbrev pub is_local : Bool
  is_local = eqb h.sharing LOCAL

  abbrev pub is_dirty : Bool
  is_dirty = not (eqb h.dirty 0)

  -- "The thread becomes owner; the cell becomes local (6) or stays shared (7)."
  abbrev pub acquired : ℕ → ℕ → Held
  acquired t mark = record { dirty = h.dirty; owner = t + 1; sharing = mark }

  -- "The cell becomes unowned and shared."
  abbrev pub released : Held
  released = record { dirty = h.dirty; owner = 0; sharing = SHARED }

  abbrev pub flagged : ℕ → Held
  flagged flag = record { dirty = flag; owner = h.owner; sharing = h.sharing }

-- the lists with another flag of row t, another owner and another sharing mark of cell c
abbrev pub flags_with : List ℕ → ℕ → ℕ → List ℕ
flags_with dirty t flag = set dirty t flag

abbrev pub owners_with : List ℕ → ℕ → ℕ → List ℕ
owners_with owners c owner = set owners c owner

abbrev pub sharing_with : List ℕ → ℕ → ℕ → List ℕ
sharing_with sharing c mark = set sharing c mark

-- the state that holds so much of the cell of instruction i and of the flag of row t
unfoldable pub holding_of : State → ℕ → Instruction → Held → State
holding_of s t i h = record {
  threads = s.threads;
  cells = s.cells;
  depth = s.depth;
  positions = s.positions;
  counts = s.counts;
  queues = s.queues;
  code = s.code;
  registers = s.registers;
  memory = s.memory;
  dirty = flags_with s.dirty t h.dirty;
  owners = owners_with s.owners (cell_of i) h.owner;
  sharing = sharing_with s.sharing (cell_of i) h.sharing;
}
