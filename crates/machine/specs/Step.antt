-- The machine with buffers, without any rule of ownership: what an item does, or what holds it back.
use Rattle.std.specs.Prelude.{ℕ, ◌-◌, ◌<◌, ◌≡◌, pos, ◌==◌, nat_le}
use Rattle.reader.specs.declared.state.State.{State}
use Rattle.reader.specs.State.{queue_of, position_of, count_of}
use Rattle.reader.specs.Range.{InRange}
use Rattle.reader.specs.Drain.{drained_of}
use Rattle.reader.specs.Rules.{pick}
use Rattle.machine.specs.declared.effect.Effect.{Effect}
use Rattle.machine.specs.declared.hurdle.Hurdle.{Hurdle}
use Rattle.machine.specs.declared.hurdle.Hurdle.TheVariants.{AtEnd}
use Rattle.machine.specs.declared.step.Next.{Next}
use Rattle.machine.specs.declared.action.Action.TheVariants.{End}
use Rattle.machine.specs.Action.{current_of, next_of}
use Rattle.machine.specs.Effect.{seen_of, guard, blocked_of, effect_of, took_of}
use Rattle.machine.specs.Run.{Outcome, taken_of, unless}

-- what the next instruction of row t does
abbrev pub next_effect : State → ℕ → Effect
next_effect s t = effect_of (seen_of s t (current_of s t)) (queue_of s t) (next_of s t)

-- "1 to 4, that thread carries out its next instruction"
unfoldable pub take_step : State → ℕ → Outcome
take_step s t =
    unless (blocked_of s.depth (queue_of s t) (next_of s t)) s
    (taken_of (took_of s t (current_of s t) (next_effect s t)) (next_effect s t).value)

-- "17 to 20, the oldest pending store of thread 1 to 4 drains"; "drain of an empty buffer"
unfoldable pub drain_step : State → ℕ → Outcome
drain_step s t = unless (guard ((queue_of s t).count == 0) 23 0) s (taken_of (drained_of s t) (pos 0))

-- one item; row t is thread t + 1
unfoldable pub step_of : State → ℕ → Outcome
step_of s x = pick (nat_le 17 x) (drain_step s (x - 17)) (take_step s (x - 1))

-- the instruction that row t is at, what it finds, and what it is
abbrev pub next_in : State → ℕ → Next
next_in s t = record { instruction = current_of s t; seen = seen_of s t (current_of s t); action = next_of s t }

-- the code's look at row t: its program goes on, or is at its end
pub record IsNext (s : State) (t : ℕ) (n : Next) : Type 0 where
  pub found : n ≡ next_in s t
  pub goes : position_of s t < count_of s t

pub record IsEnded (s : State) (t : ℕ) (h : Hurdle) : Type 0 where
  pub hurdle : h ≡ AtEnd
  pub ended : next_of s t ≡ End

-- row t may go on
pub record Ready (s : State) (t : ℕ) (n : Next) : Type 0 where
  pub in_range : InRange s
  pub thread : t < s.threads
  pub next : IsNext s t n
  pub free : blocked_of s.depth (queue_of s t) n.action ≡ 0
