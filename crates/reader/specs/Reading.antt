-- What the definitions of a case speak of: the verdict on a field, by the numbers of the description, and what was read.
use Rattle.std.specs.Prelude.{ℕ}
use Rattle.reader.specs.declared.state.State.{State}

-- a refusal with its place; or number 0, and the place where the next field begins
pub record Judged : Type 0 where
  pub place : ℕ
  pub number : ℕ

-- what was read so far: the verdict on the last field, and the state as far as it is filled
pub record Part : Type 0 where
  pub judged : Judged
  pub state : State

-- a case that was read: the number and the place of a refusal; or number 0, the state that the case starts, and where its schedule stands
pub record Reading : Type 0 where
  pub number : ℕ
  pub place : ℕ
  pub state : State
  pub start : ℕ
  pub items : ℕ
