-- "A waiting FENCE has no other hurdle": what may happen while it waits.
use Rattle.std.specs.Prelude.{ℕ, suc, ◌+◌, ◌<◌, ◌≡◌}
use Rattle.reader.specs.declared.state.State.{State}
use Rattle.reader.specs.State.{position_of, count_of}
use Rattle.machine.specs.Action.{current_of}
use Rattle.discipline.specs.Step.{checked_of}

abbrev pub FENCE : ℕ
FENCE = 4

-- the next instruction of row t is a FENCE
pub record AtFence (s : State) (t : ℕ) : Type 0 where
  pub goes : position_of s t < count_of s t
  pub fence : (current_of s t).operation ≡ FENCE

-- items taken, in any order: n drains of row t, and any items of other rows in between
pub data Waits (t : ℕ) : State → ℕ → State → Type 0 where
  now : {s : State} → Waits t s 0 s
  own_drain : {s m : State} {n : ℕ} → (checked_of s (17 + t)).number ≡ 0 → Waits t (checked_of s (17 + t)).state n m → Waits t s (suc n) m
  other_takes : {s m : State} {n : ℕ} (u : ℕ) → u < 16 → (t ≡ u → ⊥) → (checked_of s (1 + u)).number ≡ 0 → Waits t (checked_of s (1 + u)).state n m → Waits t s n m
  other_drains : {s m : State} {n : ℕ} (u : ℕ) → (t ≡ u → ⊥) → (checked_of s (17 + u)).number ≡ 0 → Waits t (checked_of s (17 + u)).state n m → Waits t s n m
