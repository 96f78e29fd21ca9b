-- A run of items on any machine that steps: until the first item that is not taken. Every machine of this product runs by this definition.
use Rattle.std.specs.Prelude.{◌≡◌, ◌<◌, length, slice_index, ℕ, zero, suc, List, [], ◌∷◌, ◌++◌, drop, ℤ, pos, ◌==◌}
use Rattle.reader.specs.declared.state.State.{State}
use Rattle.reader.specs.Rules.{pick}

-- a step: the next state and what was read; or the number that holds the item back, and the state as it was
pub record Outcome : Type 0 where
  pub state : State
  pub number : ℕ
  pub value : ℤ

-- a run: how many items were taken, the state then, and the number of the item that was not, or 0
pub record Ran : Type 0 where
  pub state : State
  pub place : ℕ
  pub number : ℕ

-- an item that is not taken: its number, and the state as it was
abbrev pub refused_of : State → ℕ → Outcome
refused_of s number = record { state = s; number = number; value = pos 0 }

-- an item that is taken: the next state, and what a LOAD or COMPARE-SWAP read, else 0
abbrev pub taken_of : State → ℤ → Outcome
taken_of s value = record { state = s; number = 0; value = value }

-- a number that is not 0 refuses
unfoldable pub unless : ℕ → State → Outcome → Outcome
unless zero s o = o
unless (suc n) s o = refused_of s (suc n)

module _ (step : State → ℕ → Outcome) where
  -- the items from a state on, of which k were taken before: the first number that refuses, how many items were taken, and the state then
  unfoldable pub run_of : State → ℕ → List ℕ → Ran
  run_of s k [] = record { state = s; place = k; number = 0 }
  run_of s k (x ∷ xs) =
      pick ((step s x).number == 0)
      (run_of (step s x).state (suc k) xs)
      (record { state = s; place = k; number = (step s x).number })

  -- one value for each item taken
  unfoldable pub values_of : State → List ℕ → List ℤ
  values_of s [] = []
  values_of s (x ∷ xs) = pick ((step s x).number == 0) ((step s x).value ∷ values_of (step s x).state xs) []

-- what a run answers, and what it leaves in the lent list: a value for each item taken, and behind them what was there
pub record Answers (step : State → ℕ → Outcome) (m₀ : State) (xs : List ℕ) (vs₀ : List ℤ) (r : Ran) (vs : List ℤ) : Type 0 where
  pub ran : r ≡ run_of step m₀ 0 xs
  pub wrote : vs ≡ values_of step m₀ xs ++ drop r.place vs₀

-- every item of a list may be given to a state
abbrev pub AllTake : (State → ℕ → Type 0) → State → List ℕ → Type 0
AllTake Takes s xs = (k : ℕ) → k < length xs → Takes s (slice_index xs k)
