-- One item of a run: a drain, or the next instruction of a thread, as the definition has it.
use Prim.Native.Nat.{ℕ, ◌-◌, ◌<◌, ◌≤◌}
use mathlib.Core.Path.{◌≡◌, refl}
use lib.IntN.{pos}
use borrow.Author.Tests.{le-leb, lt-leb, eq-eqb, ne_eqb}
use Rattle.reader.specs.declared.state.State.{State}
use Rattle.reader.specs.State.{queue_of}
use Rattle.reader.specs.Drain.{drained_of}
use Rattle.machine.specs.Effect.{guard}
use Rattle.machine.specs.Run.{refused_of, taken_of, unless}
use Rattle.machine.specs.Step.{drain_step}
use Rattle.discipline.specs.Step.{checked_take, checked_of}

-- a drain item
module _ (s : State) {x t : ℕ} (h : 17 ≤ x) (e : t ≡ x - 17) where
  pub empty_drain : (queue_of s t).count ≡ 0 → refused_of s 23 ≡ checked_of s x
  unfolding checked_of drain_step guard unless
  empty_drain z = rw (le-leb 17 x h, ← e, eq-eqb _ 0 z)

  pub taken_drain : ((queue_of s t).count ≡ 0 → ⊥) → taken_of (drained_of s t) (pos 0) ≡ checked_of s x
  unfolding checked_of drain_step guard unless
  taken_drain n = rw (le-leb 17 x h, ← e, ne_eqb _ 0 n)

pub drain_item : (s : State) {x t : ℕ} → 17 ≤ x → t ≡ x - 17 → drain_step s t ≡ checked_of s x
unfolding checked_of
drain_item s {x} h e = rw (le-leb 17 x h, e) refl

-- an item of a thread's next instruction
pub take_item : (s : State) {x t : ℕ} → x < 17 → t ≡ x - 1 → checked_take s t ≡ checked_of s x
unfolding checked_of
take_item s {x} h e = rw (lt-leb 17 x h, e)
