-- The states of the definitions as the machines of Abstract see them: a thread's row, position and registers, with a log of what it did, are its
-- local state; and its program, said once for both machines.
use Prim.Native.Nat.{ℕ, suc, ◌+◌}
use mathlib.Core.Bool.{not}
use mathlib.Core.List.{List, [], ◌∷◌, ◌++◌}
use lib.ListN.{get_or}
use lib.Dec.{eqb, ltb}
use lib.IntN.{ℤ, pos}
use Rattle.reader.specs.declared.state.Instruction.{Instruction}
use Rattle.reader.specs.declared.state.State.{State}
use Rattle.reader.specs.Limits.{REGISTERS}
use Rattle.reader.specs.State.{no_instruction, code_place, queue_of, position_of, dirty_of, register_of, memory_of, owner_of, sharing_of}
use Rattle.reader.specs.Queue.{pending}
use Rattle.reader.specs.Rules.{pick}
use Rattle.machine.specs.Integer.{eq_z}
use Rattle.machine.specs.declared.action.Action.{Action}
use Rattle.machine.specs.declared.action.Action.TheVariants.{Read, Store, Fence, Swap, Acquire, Release, Silent, End}
use Rattle.machine.specs.Action.{action_of, LOCAL, mark_of}
use Rattle.discipline.specs.OneMemory.{reads}
use Rattle.discipline.proofs.Maps.{upd}
use Rattle.discipline.proofs.Abstract.{Act, stays, loads, stores, fences, swaps, acquires, releases, Table, Thread, Machine, Plain}

-- what a thread did: the positions of its instructions and the values that it read, in turn; and how often it was refused
pub record Log : Type 0 where
  pub path : List ℕ
  pub values : List ℤ
  pub over : ℕ

pub record Local : Type 0 where
  pub row : ℕ
  pub at : ℕ
  pub registers : ℕ → ℤ
  pub log : Log

-- the log after an instruction at a position that was taken, or that was refused
abbrev pub noted : Log → ℕ → Action → ℤ → Log
noted g at a v = record { path = g.path ++ at ∷ []; values = pick (reads a) (g.values ++ v ∷ []) g.values; over = g.over }

abbrev pub overrun : Log → Log
overrun g = record { path = g.path; values = g.values; over = suc g.over }

-- a thread that carries out an action: where it goes, what its register r gets, what it read
abbrev pub went : Local → Action → ℕ → ℕ → ℤ → ℤ → Local
went l a next r x v = record { row = l.row; at = next; registers = upd l.registers r x; log = noted l.log l.at a v }

-- an action of a thread whose instruction names register r; one at its end would be refused
abbrev pub acted : Local → ℕ → Action → Act Local
acted l r (Read c) = loads c (λ v. went l (Read c) (l.at + 1) r v v)
acted l r (Store c x) = stores c x (went l (Store c x) (l.at + 1) r (l.registers r) (pos 0))
acted l r Fence = fences (went l Fence (l.at + 1) r (l.registers r) (pos 0))
acted l r (Swap c old x) = swaps c (λ v. pick (eq_z v old) x v) (λ v. went l (Swap c old x) (l.at + 1) r v v)
acted l r (Acquire c mark) = acquires c (eqb (mark_of mark) LOCAL) (went l (Acquire c mark) (l.at + 1) r (l.registers r) (pos 0))
acted l r (Release c) = releases c (went l (Release c) (l.at + 1) r (l.registers r) (pos 0))
acted l r (Silent n x) = stays (went l (Silent n x) n r x (pos 0))
acted l r End = stays (record { row = l.row; at = l.at; registers = l.registers; log = overrun l.log })

-- the program of every row
module _ (code : List Instruction) (counts : List ℕ) where
  abbrev pub instruction_at : Local → Instruction
  instruction_at l = get_or code (code_place l.row l.at) no_instruction

  abbrev pub action_at : Local → Action
  action_at l = pick (ltb l.at (get_or counts l.row 0)) (action_of (instruction_at l) l.at (l.registers (instruction_at l).register)) End

  unfoldable pub program : Local → Act Local
  program l = acted l (instruction_at l).register (action_at l)

module _ (s : State) where
  abbrev pub registers_of : ℕ → ℕ → ℤ
  registers_of t r = pick (ltb r REGISTERS) (register_of s t r) (pos 0)

  abbrev pub local_of : ℕ → Log → Local
  local_of t g = record { row = t; at = position_of s t; registers = registers_of t; log = g }

  abbrev pub memory_map : ℕ → ℤ
  memory_map c = memory_of s c

  abbrev pub table_map : Table
  table_map = record { owner = λ c. owner_of s c; mark = λ c. eqb (sharing_of s c) LOCAL }

  -- rows beyond the threads are no threads, so nothing pends there
  abbrev pub thread_of : (ℕ → Log) → ℕ → Thread Local
  thread_of logs t = record { loc = local_of t (logs t); queue = pick (ltb t s.threads) (pending (queue_of s t)) []; dirty = not (eqb (dirty_of s t) 0) }

  abbrev pub view : (ℕ → Log) → Machine Local
  view logs = record { mem = memory_map; table = table_map; threads = thread_of logs }

  abbrev pub plain_view : (ℕ → Log) → Plain Local
  plain_view logs = record { mem = memory_map; locs = λ t. local_of t (logs t) }
