-- "A waiting FENCE has no other hurdle: after as many drains of its thread as there are stores pending, at most 8, it is taken, with taken items of
-- other threads in between making no difference."
use Prim.Native.Nat.{ℕ, suc, ◌+◌, ◌<◌, ◌≤◌}
use mathlib.Core.Path.{◌≡◌, sym, ap, ◌∙◌}
use native.Mathlib.Omega.{arith}
use lib.ListN.{length, get_or, set, length-set}
use lib.Seq.{get_or-set_same, get_or-set_other}
use Rattle.reader.specs.declared.state.State.{State}
use Rattle.reader.specs.Limits.{DEPTH}
use Rattle.reader.specs.State.{outside_queue, queue_of, position_of}
use Rattle.reader.specs.Queue.{popped_of}
use Rattle.reader.specs.Drain.{drained_of}
use Rattle.machine.specs.declared.action.Action.TheVariants.{Fence}
use Rattle.machine.specs.Action.{action_of, current_of, next_of}
use Rattle.machine.specs.Effect.{guard, blocked_of, took_of}
use Rattle.machine.specs.Step.{next_effect}
use Rattle.machine.proofs.InRange.{next_goes}
use Rattle.machine.proofs.Take.{row_few}
use Rattle.machine.proofs.Frame.{took_queue_other, drained_queue_other}
use Rattle.discipline.specs.Table.{holding_of}
use Rattle.discipline.specs.Rules.{broken_of}
use Rattle.discipline.specs.Run.{Runnable}
use Rattle.discipline.specs.Step.{next_marks, checked_of}
use Rattle.discipline.specs.Fence.{AtFence, Waits, now, own_drain, other_takes, other_drains}
use Rattle.discipline.proofs.Turns.{take_item}
use Rattle.discipline.proofs.Meaning.{judged_as, take_number}
use Rattle.discipline.proofs.Outcomes.{drain_taken, instruction_taken}
use Rattle.machine.specs.Run.{Outcome}

-- row t waits at a FENCE with n stores pending
record Waiting (t n : ℕ) (s : State) : Type 0 where
  at : AtFence s t
  count : (queue_of s t).count ≡ n
  row : t < length s.queues

module _ {t : ℕ} where
  waits_own : {s : State} {n : ℕ} → Waiting t (suc n) s → Waiting t n (drained_of s t)
  unfolding drained_of
  waits_own {s} w =
      let e = w.count in
      let r : get_or (set s.queues t (popped_of (queue_of s t))) t outside_queue ≡ popped_of (queue_of s t) = get_or-set_same s.queues t (popped_of (queue_of s t)) outside_queue w.row in
      record { at = record { goes = w.at.goes; fence = w.at.fence }; count = rw r (omega arith); row = simp length-set w.row }

  module _ {s : State} {n u : ℕ} (ne : t ≡ u → ⊥) (w : Waiting t n s) where
    waits_drained : Waiting t n (drained_of s u)
    unfolding drained_of
    waits_drained = record {
      at = record { goes = w.at.goes; fence = w.at.fence };
      count = rw (drained_queue_other s u t ne) w.count;
      row = simp length-set w.row;
    }

    waits_took : Waiting t n (holding_of (took_of s u (current_of s u) (next_effect s u)) u (current_of s u) (next_marks s u))
    unfolding holding_of took_of
    waits_took =
        let i = current_of s u in
        let e = next_effect s u in
        let p : get_or (set s.positions u e.next) t 0 ≡ position_of s t = get_or-set_other s.positions u t e.next 0 ne in
        record {
          at = record { goes = rw p w.at.goes; fence = rw p w.at.fence };
          count = rw (took_queue_other s u t ne i e) w.count;
          row = simp length-set w.row;
        }

  waits : {s m : State} {n : ℕ} → Waiting t n s → Waits t s n m → Waiting t 0 m
  waits w now = w
  waits {s} w (own_drain z r) = waits (rw (drain_taken s t z) (waits_own w)) r
  waits {s} w (other_takes u l ne z r) = waits (rw (instruction_taken s u l z) (waits_took ne w)) r
  waits {s} w (other_drains u ne z r) = waits (rw (drain_taken s u z) (waits_drained ne w)) r

  -- a FENCE with an empty buffer is taken
  fence_next : {s : State} → AtFence s t → next_of s t ≡ Fence
  unfolding action_of
  fence_next {s} a = let e = a.fence in next_goes s t a.goes ∙ rw e

  fence_taken : {s : State} → t < 16 → Waiting t 0 s → (checked_of s (1 + t)).number ≡ 0
  unfolding blocked_of broken_of guard
  fence_taken {s} l w =
      let f = fence_next w.at in
      let c = w.count in
      let j : judged_as s t (next_of s t) ≡ 0 = rw (f, c) in
      sym (ap (λ (o : Outcome). o.number) (take_item s {x = 1 + t} {t = t} (omega arith) (omega arith))) ∙ take_number s t ∙ j

  -- the theorem
  pub fence_waits_only : {s m : State} {n : ℕ} → Runnable s → t < s.threads → AtFence s t → (queue_of s t).count ≡ n → (n ≤ DEPTH) × (Waits t s n m → (checked_of m (1 + t)).number ≡ 0)
  fence_waits_only {s} g h a c =
      let f = row_few g.in_range h in
      let k = g.in_range.threads in
      let q = g.shaped.queues in
      (omega arith, λ r. fence_taken (omega arith) (waits (record { at = a; count = c; row = omega arith }) r))
