-- What an instruction is, said once for the machine with buffers and the one-memory machine. Position, branch, sum and the two kinds of STORE
-- are settled here.
use Rattle.std.specs.Prelude.{ℕ, ◌+◌, [], ◌∷◌, ℤ, nat_lt, slice_index_or}
use Rattle.reader.specs.declared.state.Instruction.{Instruction}
use Rattle.reader.specs.declared.state.State.{State}
use Rattle.reader.specs.State.{position_of, count_of, instruction_of, register_of}
use Rattle.reader.specs.Rules.{pick}
use Rattle.machine.specs.declared.action.Action.{Action}
use Rattle.machine.specs.declared.action.Sharing.{Sharing}
use Rattle.machine.specs.declared.action.Sharing.TheVariants.{Local, Shared}
use Rattle.machine.specs.declared.action.Action.TheVariants.{Read, Store, Fence, Swap, Acquire, Release, Silent, End}
use Rattle.machine.specs.Integer.{eq_z, sum_of}

-- "(1 shared, 0 local)"
abbrev pub SHARED : ℕ
SHARED = 1

abbrev pub LOCAL : ℕ
LOCAL = 0

abbrev pub mark_of : Sharing → ℕ
mark_of Local = LOCAL
mark_of Shared = SHARED

-- an instruction at a position, whose register holds x: its row of the table of operations; 0 is no operation
unfoldable pub action_of : Instruction → ℕ → ℤ → Action
action_of i at x =
    slice_index_or
    (End
    ∷ Read i.cell
    ∷ Store i.cell i.value
    ∷ Store i.cell x
    ∷ Fence
    ∷ Swap i.cell x i.value
    ∷ Acquire i.cell Local
    ∷ Acquire i.cell Shared
    ∷ Release i.cell
    ∷ Silent (pick (eq_z x i.value) i.cell (at + 1)) x
    ∷ Silent (at + 1) (sum_of x i.value)
    ∷ [])
    i.operation End

-- the instruction that row t is at, and what it is
abbrev pub current_of : State → ℕ → Instruction
current_of s t = instruction_of s t (position_of s t)

unfoldable pub next_of : State → ℕ → Action
next_of s t = pick (nat_lt (position_of s t) (count_of s t)) (action_of (current_of s t) (position_of s t) (register_of s t (current_of s t).register)) End
