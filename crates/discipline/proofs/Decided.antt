-- What holds the next instruction of a thread back, or what it then does, is the checked step of the definition.
use Prim.Native.Nat.{ℕ, zero, suc}
use mathlib.Core.Path.{◌≡◌, refl, sym, ◌∙◌}
use native.Mathlib.Omega.{arith}
use borrow.Author.Tests.{ne_eqb}
use Rattle.reader.specs.declared.state.State.{State}
use Rattle.reader.specs.State.{queue_of}
use Rattle.reader.specs.Range.{InRange}
use Rattle.machine.specs.declared.step.Next.{Next}
use Rattle.machine.specs.Action.{current_of, next_of}
use Rattle.machine.specs.Effect.{blocked_of, took_of}
use Rattle.machine.specs.Run.{refused_of, taken_of}
use Rattle.machine.specs.Step.{IsNext, next_effect, take_step}
use Rattle.machine.proofs.Take.{unless_zero, unless_not, row_few}
use lib.IntN.{ℤ}
use Rattle.discipline.specs.Table.{held_in, holding_of}
use Rattle.discipline.specs.Elsewhere.{Rows, elsewhere_of}
use Rattle.discipline.specs.Rules.{broken_of}
use Rattle.discipline.specs.Marks.{marks_of}
use Rattle.discipline.specs.Step.{judged_of, next_broken, next_marks, checked_take}

-- the rows of a state in range hold no more than there is room for
pub rows_in : {s : State} → InRange s → Rows s.queues s.threads
rows_in g = record { few_threads = g.threads; few = λ t h. row_few g h }

-- what the machine answers, by its number
module _ (s : State) (t : ℕ) where
  taken_machine : blocked_of s.depth (queue_of s t) (next_of s t) ≡ 0 → take_step s t ≡ taken_of (took_of s t (current_of s t) (next_effect s t)) (next_effect s t).value
  unfolding take_step
  taken_machine z = unless_zero s _ z

  broken_checked : blocked_of s.depth (queue_of s t) (next_of s t) ≡ 0 → (next_broken s t ≡ 0 → ⊥) → refused_of s (next_broken s t) ≡ checked_take s t
  unfolding checked_take
  broken_checked z n = rw (taken_machine z) (sym (unless_zero s _ refl ∙ unless_not _ s _ n))

  -- an instruction that nothing holds back
  pub both_checked : blocked_of s.depth (queue_of s t) (next_of s t) ≡ 0 → next_broken s t ≡ 0 → checked_take s t ≡ taken_of (holding_of (took_of s t (current_of s t) (next_effect s t)) t (current_of s t) (next_marks s t)) (next_effect s t).value
  unfolding checked_take
  both_checked z n = rw (taken_machine z) (unless_zero s _ refl ∙ unless_zero s _ n)

pub judged_first : (a b : ℕ) → judged_of a b ≡ 0 → (a ≡ 0) × (b ≡ 0)
judged_first zero b e = (refl, e)
judged_first (suc a) b e = let z = rw (ne_eqb (suc a) 0 (λ q. omega arith)) at e in absurd (omega arith)

-- what the machine holds back is held back
pub held_checked : (s : State) (t : ℕ) {n : ℕ} → refused_of s n ≡ take_step s t → (n ≡ 0 → ⊥) → refused_of s n ≡ checked_take s t
unfolding checked_take
held_checked s t {n} e z = rw (← e) (sym (unless_not n s _ z))

-- row t is at next
module _ {s : State} {t : ℕ} {next : Next} (x : IsNext s t next) (free : blocked_of s.depth (queue_of s t) next.action ≡ 0) where
  free_next : blocked_of s.depth (queue_of s t) (next_of s t) ≡ 0
  free_next = rw x.found at free

  module _ {n : ℕ} (e : n ≡ broken_of t (held_in s t next.instruction) (queue_of s t) (elsewhere_of s.queues s.threads t next.instruction.cell) next.action) where
    broken_next : n ≡ next_broken s t
    broken_next = e ∙ rw x.found refl

    -- a rule that it breaks stops it
    pub breaks_checked : (n ≡ 0 → ⊥) → refused_of s n ≡ checked_take s t
    breaks_checked z = rw broken_next (broken_checked s t free_next (rw broken_next at z))

    -- one that breaks none is taken, as the machine takes it, and then marked
    pub marked_checked : n ≡ 0 → {m o : State} {value : ℤ} → taken_of m value ≡ take_step s t → o ≡ holding_of m t next.instruction (marks_of (held_in s t next.instruction) t next.action) → taken_of o value ≡ checked_take s t
    unfolding checked_take
    marked_checked z em eo =
        let y : next_broken s t ≡ 0 = sym broken_next ∙ z in
        rw (eo, x.found, ← em) (sym (unless_zero s _ refl ∙ unless_zero s _ y))
