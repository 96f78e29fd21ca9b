-- What a run asks of its start: a state in range whose arrays have their lengths, and items that are right for it.
use Rattle.std.specs.Prelude.{ℕ, ◌<◌, true, ◌≡◌, List, length, get_or}
use Rattle.reader.specs.declared.state.State.{State}
use Rattle.reader.specs.Rules.{item_fits}
use Rattle.reader.specs.Range.{InRange, Shaped}

pub record Runnable (s : State) : Type 0 where
  pub in_range : InRange s
  pub shaped : Shaped s

abbrev pub Items : ℕ → List ℕ → Type 0
Items threads items = (k : ℕ) → k < length items → item_fits threads (get_or items k 0) ≡ true

-- an item that may be given to a state
pub record IsItem (s : State) (item : ℕ) : Type 0 where
  pub runnable : Runnable s
  pub fits : item_fits s.threads item ≡ true
