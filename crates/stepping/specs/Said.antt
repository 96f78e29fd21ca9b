-- What the description says of the stepping call, sentence by sentence, apart from the definition that computes its answer.
use Rattle.std.specs.Prelude.{ℕ, true, false, ◌≡◌}
use Rattle.reader.specs.declared.state.State.{State}
use Rattle.reader.specs.Rules.{item_fits}
use Rattle.reader.specs.Range.{InRange}
use Rattle.discipline.specs.Check.{thread_of}
use Rattle.discipline.specs.Meaning.{Stops, Least}
use Rattle.discipline.specs.Step.{checked_of}
use Rattle.stepping.specs.declared.step.After.{After}

pub record Said (s : State) (x : ℕ) (r : After) : Type 0 where
  -- "It checks 10": where the state is out of range, and nowhere else
  pub out_of_range : (InRange s → ⊥) → r.answer.number ≡ 10
  pub ten : r.answer.number ≡ 10 → InRange s → ⊥
  -- "then 8": where the byte is no item of the state's threads
  pub no_item : InRange s → item_fits s.threads x ≡ false → r.answer.number ≡ 8
  pub eight : r.answer.number ≡ 8 → InRange s × (item_fits s.threads x ≡ false)
  -- "then as above": the smallest number that stands against the item, and 0 where none does
  pub as_above : InRange s → item_fits s.threads x ≡ true → r.answer.number ≡ (checked_of s x).number
  pub least : InRange s → item_fits s.threads x ≡ true → (r.answer.number ≡ 0 → ⊥) → Least s x r.answer.number
  pub unopposed : r.answer.number ≡ 0 → (n : ℕ) → Stops s x n → ⊥
  -- "unless its number is 0, the state keeps every value"
  pub keeps : (r.answer.number ≡ 0 → ⊥) → r.state ≡ s
  pub steps : r.answer.number ≡ 0 → r.state ≡ (checked_of s x).state
  -- "Its place is 0, or 1 when the item was taken"
  pub taken : r.answer.number ≡ 0 → r.answer.place ≡ 1
  pub refused : (r.answer.number ≡ 0 → ⊥) → r.answer.place ≡ 0
  -- "its thread is 0 with 0, 8 and 10", and else the item's
  pub nobody_0 : r.answer.number ≡ 0 → r.answer.thread ≡ 0
  pub nobody_8 : r.answer.number ≡ 8 → r.answer.thread ≡ 0
  pub nobody_10 : r.answer.number ≡ 10 → r.answer.thread ≡ 0
  pub stopped : (r.answer.number ≡ 0 → ⊥) → (r.answer.number ≡ 8 → ⊥) → (r.answer.number ≡ 10 → ⊥) → r.answer.thread ≡ thread_of x
