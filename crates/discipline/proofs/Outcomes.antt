-- The states that an item which is taken leads to.
use Prim.Native.Nat.{ℕ, ◌+◌, ◌<◌}
use mathlib.Core.Path.{◌≡◌, sym, ap, ◌∙◌}
use native.Mathlib.Omega.{arith}
use lib.IntN.{pos}
use Rattle.reader.specs.declared.state.State.{State}
use Rattle.reader.specs.State.{queue_of}
use Rattle.reader.specs.Drain.{drained_of}
use Rattle.machine.specs.Action.{current_of, next_of}
use Rattle.machine.specs.Effect.{blocked_of, took_of}
use Rattle.machine.specs.Run.{Outcome, taken_of}
use Rattle.machine.specs.Step.{next_effect}
use Rattle.discipline.specs.Table.{holding_of}
use Rattle.discipline.specs.Step.{next_broken, next_marks, checked_take, checked_of}
use Rattle.discipline.proofs.Decided.{judged_first, both_checked}
use Rattle.discipline.proofs.Turns.{empty_drain, taken_drain, take_item}
use Rattle.discipline.proofs.Meaning.{take_number}

-- a buffer drains only where a store pends
pub pending_there : (s : State) (u : ℕ) → (checked_of s (17 + u)).number ≡ 0 → (queue_of s u).count ≡ 0 → ⊥
pending_there s u z e = let n = ap (λ (o : Outcome). o.number) (empty_drain s {x = 17 + u} (omega arith) (omega arith) e) in absurd (omega arith)

pub drain_taken : (s : State) (u : ℕ) → (checked_of s (17 + u)).number ≡ 0 → checked_of s (17 + u) ≡ taken_of (drained_of s u) (pos 0)
drain_taken s u z = sym (taken_drain s {x = 17 + u} (omega arith) (omega arith) (pending_there s u z))

-- neither the machine nor a rule holds it back
pub neither : (s : State) (u : ℕ) → u < 16 → (checked_of s (1 + u)).number ≡ 0 → (blocked_of s.depth (queue_of s u) (next_of s u) ≡ 0) × (next_broken s u ≡ 0)
neither s u l z =
    let e = take_item s {x = 1 + u} {t = u} (omega arith) (omega arith) in
    let n : (checked_take s u).number ≡ 0 = rw e z in
    judged_first (blocked_of s.depth (queue_of s u) (next_of s u)) (next_broken s u) (sym (take_number s u) ∙ n)

pub instruction_taken : (s : State) (u : ℕ) → u < 16 → (checked_of s (1 + u)).number ≡ 0 → checked_of s (1 + u) ≡ taken_of (holding_of (took_of s u (current_of s u) (next_effect s u)) u (current_of s u) (next_marks s u)) (next_effect s u).value
instruction_taken s u l z =
    let e = take_item s {x = 1 + u} {t = u} (omega arith) (omega arith) in
    let j = neither s u l z in
    sym e ∙ both_checked s u j.0 j.1
