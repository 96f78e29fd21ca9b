-- What an action finds, and what it then does to its thread's register and position, to memory and to its buffer.
use Rattle.std.specs.Prelude.{ℕ, ◌+◌, None, Some, Bool, true, false, not, is_some, unwrap_or, ℤ, pos, ◌==◌, nat_le, slice_set}
use Rattle.reader.specs.declared.state.Queue.{Queue}
use Rattle.reader.specs.declared.state.Instruction.{Instruction}
use Rattle.reader.specs.declared.state.State.{State}
use Rattle.reader.specs.State.{queue_of, position_of, register_place, register_of, memory_of}
use Rattle.reader.specs.Rules.{pick, BRANCH}
use Rattle.machine.specs.declared.effect.Seen.{Seen}
use Rattle.machine.specs.declared.effect.Effect.{Effect}
use Rattle.machine.specs.Integer.{eq_z}
use Rattle.machine.specs.Buffer.{forwarded, after_of}
use Rattle.machine.specs.declared.action.Action.{Action}
use Rattle.machine.specs.declared.action.Action.TheVariants.{Read, Store, Fence, Swap, Acquire, Release, Silent, End}

-- the cell that an instruction is about; a BRANCH has its target in that place
abbrev pub cell_of : Instruction → ℕ
cell_of i = pick (i.operation == BRANCH) 0 i.cell

-- the position, the content of the instruction's register and the word in memory of its cell
unfoldable pub seen_of : State → ℕ → Instruction → Seen
seen_of s t i = record { at = position_of s t; content = register_of s t i.register; word = memory_of s (cell_of i) }

-- a number that refuses where the test holds, else what the rest says
unfoldable pub guard : Bool → ℕ → ℕ → ℕ
guard true number rest = number
guard false number rest = rest

abbrev pub pends : Queue → Bool
pends q = not (q.count == 0)

-- "the thread's program is at its end"; "FENCE or COMPARE-SWAP with pending stores"; "STORE with depth already reached"
unfoldable pub blocked_of : ℕ → Queue → Action → ℕ
blocked_of depth q (Read c) = 0
blocked_of depth q (Store c x) = guard (nat_le depth q.count) 22 0
blocked_of depth q Fence = guard (pends q) 21 0
blocked_of depth q (Swap c old x) = guard (pends q) 21 0
blocked_of depth q (Acquire c mark) = 0
blocked_of depth q (Release c) = 0
blocked_of depth q (Silent n x) = 0
blocked_of depth q End = 20

-- whether an effect puts something into the buffer, and what
abbrev pub pushes : Effect → Bool
pushes e = is_some e.pushed

abbrev pub pushed_value : Effect → ℤ
pushed_value e = unwrap_or e.pushed (pos 0)

module _ (v : Seen) where
  -- one that only moves on
  abbrev pub quiet_of : Effect
  quiet_of = record { next = v.at + 1; value = pos 0; content = v.content; word = v.word; pushed = None }

  -- a value read, which the register gets, and the word that then stands in memory
  abbrev pub reads_of : ℤ → ℤ → Effect
  reads_of x word = record { next = v.at + 1; value = x; content = x; word = word; pushed = None }

  unfoldable pub effect_of : Queue → Action → Effect
  -- "LOAD puts into the register the newest pending store to that cell in the thread's own buffer, or else the memory's value."
  effect_of q (Read c) = reads_of (forwarded q c v.word) v.word
  -- "STORE appends to the own buffer."
  effect_of q (Store c x) = record { next = v.at + 1; value = pos 0; content = v.content; word = v.word; pushed = Some x }
  -- "FENCE, with the own buffer empty, changes no value."
  effect_of q Fence = quiet_of
  -- "COMPARE-SWAP, with the own buffer empty, reads memory; if that equals the register's old content, the value is stored straight to memory;
  -- the register then gets what was read, either way."
  effect_of q (Swap c old x) = reads_of v.word (pick (eq_z v.word old) x v.word)
  effect_of q (Acquire c mark) = quiet_of
  effect_of q (Release c) = quiet_of
  effect_of q (Silent n x) = record { next = n; value = pos 0; content = x; word = v.word; pushed = None }
  effect_of q End = quiet_of

-- the state after instruction i of row t with an effect
unfoldable pub took_of : State → ℕ → Instruction → Effect → State
took_of s t i e = record {
  threads = s.threads;
  cells = s.cells;
  depth = s.depth;
  positions = slice_set s.positions t e.next;
  counts = s.counts;
  queues = slice_set s.queues t (after_of (queue_of s t) (pushes e) (record { value = pushed_value e; cell = i.cell }));
  code = s.code;
  registers = slice_set s.registers (register_place t i.register) e.content;
  memory = slice_set s.memory (cell_of i) e.word;
  dirty = s.dirty;
  owners = s.owners;
  sharing = s.sharing;
}
