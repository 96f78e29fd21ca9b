-- Places beyond the counts are not judged: states that are the same within them get the same answer, whatever the item.
use Prim.Native.Nat.{ℕ, zero, suc, ◌-◌, ◌≤◌, ◌<◌}
use mathlib.Core.Bool.{Bool, true, false}
use mathlib.Core.Path.{◌≡◌, refl, sym, ap, ◌∙◌}
use mathlib.Core.List.{List}
use native.Mathlib.Omega.{arith}
use lib.Dec.{eqb, leb}
use lib.ListN.{get_or}
use lib.IntN.{pos}
use borrow.Author.Tests.{leb-true, leb-false}
use Rattle.reader.specs.declared.state.Pending.{Pending}
use Rattle.reader.specs.declared.state.Queue.{Queue}
use Rattle.reader.specs.declared.state.State.{State}
use Rattle.reader.specs.State.{no_pending, outside_queue, queue_of, position_of, count_of}
use Rattle.reader.specs.Drain.{drained_of}
use Rattle.reader.specs.Rules.{pick, item_fits}
use Rattle.reader.specs.Range.{InRange}
use Rattle.machine.specs.declared.action.Action.{Action}
use Rattle.machine.specs.declared.action.Action.TheVariants.{Read, Store, Fence, Swap, Acquire, Release, Silent, End}
use Rattle.machine.specs.Action.{current_of, next_of}
use Rattle.machine.specs.Effect.{guard, blocked_of}
use Rattle.machine.specs.Run.{taken_of, unless}
use Rattle.machine.specs.Step.{drain_step}
use Rattle.machine.proofs.Take.{current_in, current_cell, next_end, drain_row, take_row}
use Rattle.machine.proofs.InRange.{at_end_or, next_goes}
use Rattle.discipline.specs.declared.table.Held.{Held}
use Rattle.discipline.specs.Table.{held_of}
use Rattle.discipline.specs.Elsewhere.{holds_of, holds, elsewhere_of}
use Rattle.discipline.specs.Rules.{release_breaks, broken_of}
use Rattle.discipline.specs.Step.{next_held, next_elsewhere, checked_take, checked_of}
use Rattle.discipline.proofs.Meaning.{judged_as, take_number}
use Rattle.stepping.specs.declared.step.After.{After}
use Rattle.stepping.specs.Step.{answered_of, stepped_of}
use Rattle.stepping.specs.Beyond.{Alike}
use Rattle.stepping.proofs.Exact.{range_in}
use Rattle.stepping.proofs.Cases.{stepped_out, stepped_no_item, stepped_carried, stepped_cases}
use Rattle.stepping.proofs.Judged.{not_judged}

-- two rows with the same pending stores hold stores to the same cells
holds_alike : (es fs : List Pending) (n c : ℕ) → ((k : ℕ) → k < n → get_or fs k no_pending ≡ get_or es k no_pending) → holds_of fs n c ≡ holds_of es n c
unfolding holds_of
holds_alike es fs zero c h = refl
holds_alike es fs (suc n) c h = rw (h n (omega arith), holds_alike es fs n c (λ k l. h k (omega arith)))

-- and so have other threads
elsewhere_alike : (qs rs : List Queue) (n t c : ℕ) → ((u : ℕ) → u < n → holds (get_or rs u outside_queue) c ≡ holds (get_or qs u outside_queue) c) → elsewhere_of rs n t c ≡ elsewhere_of qs n t c
unfolding elsewhere_of
elsewhere_alike qs rs zero t c h = refl
elsewhere_alike qs rs (suc n) t c h = rw (h n (omega arith), elsewhere_alike qs rs n t c (λ u l. h u (omega arith)))

-- machine and rules look at how many stores pend in the own buffer, and at nothing else of it
blocked_alike : (depth : ℕ) (q r : Queue) (a : Action) → r.count ≡ q.count → blocked_of depth r a ≡ blocked_of depth q a
unfolding blocked_of
blocked_alike depth q r (Read c) e = refl
blocked_alike depth q r (Store c x) e = rw e
blocked_alike depth q r Fence e = rw e
blocked_alike depth q r (Swap c old x) e = rw e
blocked_alike depth q r (Acquire c mark) e = refl
blocked_alike depth q r (Release c) e = refl
blocked_alike depth q r (Silent n x) e = refl
blocked_alike depth q r End e = refl

broken_alike : (t : ℕ) (h : Held) (q r : Queue) (b : Bool) (a : Action) → r.count ≡ q.count → broken_of t h r b a ≡ broken_of t h q b a
unfolding broken_of release_breaks
broken_alike t h q r b (Read c) e = refl
broken_alike t h q r b (Store c x) e = refl
broken_alike t h q r b Fence e = refl
broken_alike t h q r b (Swap c old x) e = refl
broken_alike t h q r b (Acquire c mark) e = refl
broken_alike t h q r b (Release c) e = rw e
broken_alike t h q r b (Silent n x) e = refl
broken_alike t h q r b End e = refl

module _ {s m : State} (a : Alike s m) (g : InRange s) {t : ℕ} (h : t < s.threads) where
  -- a program that goes on
  module _ (l : position_of s t < count_of s t) where
    current_alike : current_of m t ≡ current_of s t
    current_alike = rw (a.position t h) (a.instruction t (position_of s t) h l)

    goes_alike : position_of m t < count_of m t
    goes_alike = rw (a.position t h, a.count t h) l

    next_alike : next_of m t ≡ next_of s t
    next_alike = next_goes m t goes_alike ∙ rw (current_alike, a.position t h, a.register t _ h (current_in g h l).register) (sym (next_goes s t l))

    held_alike : next_held m t ≡ next_held s t
    unfolding held_of
    held_alike = let c = current_cell g h l in rw (current_alike, a.flag t h, a.owner _ c, a.sharing _ c)

    pending_alike : (u : ℕ) → u < s.threads → holds (queue_of m u) (current_of s t).cell ≡ holds (queue_of s u) (current_of s t).cell
    pending_alike u b = rw (a.pends u b) (holds_alike (queue_of s u).entries (queue_of m u).entries (queue_of s u).count (current_of s t).cell (λ k d. a.entry u k b d))

    search_alike : next_elsewhere m t ≡ next_elsewhere s t
    search_alike = rw (current_alike, a.threads) (elsewhere_alike s.queues m.queues s.threads t (current_of s t).cell pending_alike)

    goes_number : judged_as m t (next_of m t) ≡ judged_as s t (next_of s t)
    goes_number = rw (next_alike, held_alike, search_alike, a.depth, blocked_alike s.depth (queue_of s t) (queue_of m t) (next_of s t) (a.pends t h), broken_alike t (next_held s t) (queue_of s t) (queue_of m t) (next_elsewhere s t) (next_of s t) (a.pends t h))

  -- a program at its end
  end_number : count_of s t ≤ position_of s t → judged_as m t (next_of m t) ≡ judged_as s t (next_of s t)
  unfolding blocked_of broken_of
  end_number l = rw (next_end s t l, next_end m t (rw (a.position t h, a.count t h) l))

  take_alike : (checked_take m t).number ≡ (checked_take s t).number
  take_alike = take_number m t ∙ at_end_or s t goes_number end_number ∙ sym (take_number s t)

  drain_alike : (drain_step m t).number ≡ (drain_step s t).number
  unfolding drain_step unless
  drain_alike = rw (a.pends t h) (unless_number (guard (eqb (queue_of s t).count 0) 23 0))
    where
      unless_number : (n : ℕ) → (unless n m (taken_of (drained_of m t) (pos 0))).number ≡ (unless n s (taken_of (drained_of s t) (pos 0))).number
      unless_number zero = refl
      unless_number (suc n) = refl

module _ {s m : State} (a : Alike s m) (x : ℕ) where
  number_alike : InRange s → item_fits s.threads x ≡ true → (checked_of m x).number ≡ (checked_of s x).number
  unfolding checked_of
  number_alike g f = go (leb 17 x) refl
    where
      go : (b : Bool) → leb 17 x ≡ b → (pick b (drain_step m (x - 17)) (checked_take m (x - 1))).number ≡ (pick b (drain_step s (x - 17)) (checked_take s (x - 1))).number
      go true e = drain_alike a g (drain_row s.threads x f (leb-true _ _ e) g.threads)
      go false e = take_alike a g (take_row s.threads x f (leb-false _ _ e)).1

  pub answer_alike : (stepped_of m x).answer ≡ (stepped_of s x).answer
  answer_alike =
      let i = not_judged a in
      let j : item_fits m.threads x ≡ item_fits s.threads x = ap (λ (n : ℕ). item_fits n x) a.threads in
      stepped_cases s x (λ (r : After). (stepped_of m x).answer ≡ r.answer)
      (λ e. ap (λ (r : After). r.answer) (stepped_out m x (i ∙ e)))
      (λ e f. ap (λ (r : After). r.answer) (stepped_no_item m x (i ∙ e) (j ∙ f)))
      (λ e f. ap (λ (r : After). r.answer) (stepped_carried m x (i ∙ e) (j ∙ f)) ∙ ap (λ (n : ℕ). answered_of n x) (number_alike (range_in s e) f))
