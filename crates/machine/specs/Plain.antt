-- The one-memory machine: the same actions on a state whose buffers are not used. An order names threads, from 1 on.
use Rattle.std.specs.Prelude.{ℕ, None, ◌-◌, ◌<◌, ◌≤◌, List, length, slice_index}
use Rattle.reader.specs.declared.state.State.{State}
use Rattle.reader.specs.State.{no_queue}
use Rattle.reader.specs.Range.{InRange}
use Rattle.reader.specs.Rules.{pick}
use Rattle.machine.specs.declared.effect.Effect.{Effect}
use Rattle.machine.specs.declared.action.Action.{Action}
use Rattle.machine.specs.declared.action.Action.TheVariants.{Read, Store, Fence, Swap, Acquire, Release, Silent, End}
use Rattle.machine.specs.Action.{current_of, next_of}
use Rattle.machine.specs.Effect.{pushes, pushed_value, seen_of, effect_of, took_of}
use Rattle.machine.specs.Run.{Outcome, taken_of, unless}

-- "In the one-memory machine a STORE writes memory at once"
unfoldable pub at_once : Effect → Effect
at_once e = record { next = e.next; value = e.value; content = e.content; word = pick (pushes e) (pushed_value e) e.word; pushed = None }

-- "and FENCE, ACQUIRE and RELEASE only advance": nothing is held back but at the end of a program
unfoldable pub ended_of : Action → ℕ
ended_of (Read c) = 0
ended_of (Store c x) = 0
ended_of Fence = 0
ended_of (Swap c old x) = 0
ended_of (Acquire c mark) = 0
ended_of (Release c) = 0
ended_of (Silent n x) = 0
ended_of End = 20

-- what the next instruction of row t does: it finds no pending store
abbrev pub plain_effect : State → ℕ → Effect
plain_effect s t = at_once (effect_of (seen_of s t (current_of s t)) no_queue (next_of s t))

-- one step of row t
unfoldable pub plain_step : State → ℕ → Outcome
plain_step s t = unless (ended_of (next_of s t)) s (taken_of (took_of s t (current_of s t) (plain_effect s t)) (plain_effect s t).value)

-- one step of a thread
abbrev pub plain_of : State → ℕ → Outcome
plain_of s thread = plain_step s (thread - 1)

-- an order of threads: each is one of the state's
pub record Threads (threads : ℕ) (order : List ℕ) : Type 0 where
  pub least : (k : ℕ) → k < length order → 1 ≤ slice_index order k
  pub most : (k : ℕ) → k < length order → slice_index order k ≤ threads

-- a thread that may step: one of the threads of a state in range
pub record IsThread (s : State) (thread : ℕ) : Type 0 where
  pub in_range : InRange s
  pub least : 1 ≤ thread
  pub most : thread ≤ s.threads
