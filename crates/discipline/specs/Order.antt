-- Point 3's order: which thread the one-memory machine lets step, and when, computed along the run of the machine with buffers.
--
-- Beside each thread's pending stores stands a count for each. 0: the one-memory machine has carried the store out already. n > 0: when this
-- store drains, the one-memory machine makes n steps of the thread, the store itself and the n - 1 instructions behind it.
use Rattle.std.specs.Prelude.{ℕ, zero, suc, ◌+◌, ◌-◌, Bool, true, false, List, [], ◌∷◌, ◌++◌, get_or, set, replicate, eqb, leb}
use Rattle.reader.specs.declared.state.State.{State}
use Rattle.reader.specs.Limits.{THREADS}
use Rattle.reader.specs.Rules.{pick}
use Rattle.machine.specs.declared.action.Action.{Action}
use Rattle.machine.specs.declared.action.Action.TheVariants.{Read, Store, Fence, Swap, Acquire, Release, Silent, End}
use Rattle.machine.specs.Action.{next_of}
use Rattle.discipline.specs.Table.{is_dirty}
use Rattle.discipline.specs.Step.{next_marks, checked_of}

-- the counts after an item, and how many steps the one-memory machine makes at it
pub record Plan : Type 0 where
  pub counts : List ℕ
  pub steps : ℕ

-- whether a store waits
abbrev pub busy : List ℕ → Bool
busy [] = false
busy (zero ∷ k) = busy k
busy (suc n ∷ k) = true

-- one more instruction behind the newest store
abbrev pub bump : List ℕ → List ℕ
bump [] = []
bump (n ∷ []) = suc n ∷ []
bump (n ∷ n' ∷ k) = n ∷ bump (n' ∷ k)

-- an instruction that is no store waits behind a store that waits; else it is carried out now
abbrev pub quiet : Bool → List ℕ → Plan
quiet true k = record { counts = bump k; steps = 0 }
quiet false k = record { counts = k; steps = 1 }

-- a store waits where the flag is set after it; else it is carried out now
abbrev pub stored : Bool → List ℕ → Plan
stored true k = record { counts = k ++ 1 ∷ []; steps = 0 }
stored false k = record { counts = k ++ 0 ∷ []; steps = 1 }

-- a drain carries out what waits for its store
abbrev pub drains : List ℕ → Plan
drains [] = record { counts = []; steps = 0 }
drains (n ∷ k) = record { counts = k; steps = n }

-- an action that is taken, with the flag after it
abbrev pub plan_by : Action → Bool → List ℕ → Plan
plan_by (Read c) flag k = quiet (busy k) k
plan_by (Store c x) flag k = stored flag k
plan_by Fence flag k = quiet (busy k) k
plan_by (Swap c old x) flag k = quiet (busy k) k
plan_by (Acquire c mark) flag k = quiet (busy k) k
plan_by (Release c) flag k = quiet (busy k) k
plan_by (Silent n x) flag k = quiet (busy k) k
plan_by End flag k = quiet (busy k) k

-- the row of an item, and what is planned at it where the row's counts are k
abbrev pub row_of : ℕ → ℕ
row_of x = pick (leb 17 x) (x - 17) (x - 1)

unfoldable pub plan_of : State → ℕ → List ℕ → Plan
plan_of s x k = pick (leb 17 x) (drains k) (plan_by (next_of s (x - 1)) (is_dirty (next_marks s (x - 1))) k)

abbrev pub counts_of : List (List ℕ) → ℕ → List ℕ
counts_of counts t = get_or counts t []

abbrev pub no_counts : List (List ℕ)
no_counts = replicate THREADS []

-- the order of the items taken from a state on, as thread numbers
unfoldable pub order_from : State → List (List ℕ) → List ℕ → List ℕ
order_from s counts [] = []
order_from s counts (x ∷ xs) =
    let p = plan_of s x (counts_of counts (row_of x)) in
    pick (eqb (checked_of s x).number 0)
    (replicate p.steps (row_of x + 1) ++ order_from (checked_of s x).state (set counts (row_of x) p.counts) xs)
    []

-- from a state with empty buffers
abbrev pub order_of : State → List ℕ → List ℕ
order_of s xs = order_from s no_counts xs
