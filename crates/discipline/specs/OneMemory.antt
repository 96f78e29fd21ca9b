-- Point 3: "Take a well-formed case whose whole schedule is accepted and whose store buffers are empty at the end. Then some order of the
-- instructions carried out, keeping each thread's own order, makes a machine with one memory and no buffers, started alike, give every thread's
-- loads and compare-swaps the same values in turn, and end with the same memory, registers and program positions."
use Rattle.std.specs.Prelude.{ℕ, ◌+◌, ◌<◌, Bool, true, false, ◌&&◌, ◌≡◌, List, [], ◌∷◌, take, eqb, ℤ}
use Rattle.reader.specs.declared.state.State.{State}
use Rattle.reader.specs.Limits.{THREADS}
use Rattle.reader.specs.State.{queue_of, position_of}
use Rattle.reader.specs.Rules.{pick}
use Rattle.reader.specs.Case.{read_of}
use Rattle.machine.specs.declared.action.Action.{Action}
use Rattle.machine.specs.declared.action.Action.TheVariants.{Read, Store, Fence, Swap, Acquire, Release, Silent, End}
use Rattle.machine.specs.Action.{next_of}
use Rattle.machine.specs.Run.{Outcome, Ran, run_of, values_of}
use Rattle.machine.specs.Plain.{plain_of}
use Rattle.discipline.specs.Step.{checked_of}
use Rattle.discipline.specs.declared.check.Answer.{Answer}
use Rattle.discipline.specs.Check.{schedule_of, ran_of, Checks}
use Rattle.discipline.specs.Order.{order_of}

-- whether an item lets row t carry out its next instruction: on both machines the item is then the thread's number
abbrev pub carries : ℕ → ℕ → Bool
carries t x = eqb x (t + 1)

-- how often a list of items lets row t do so
abbrev pub times_of : ℕ → List ℕ → ℕ
times_of t [] = 0
times_of t (x ∷ xs) = pick (carries t x) 1 0 + times_of t xs

-- "what a LOAD or COMPARE-SWAP read"
abbrev pub reads : Action → Bool
reads (Read c) = true
reads (Store c x) = false
reads Fence = false
reads (Swap c old x) = true
reads (Acquire c mark) = false
reads (Release c) = false
reads (Silent n x) = false
reads End = false

-- items that a machine takes one after the other, from a state
module _ (step : State → ℕ → Outcome) where
  -- the positions of the instructions that row t carries out, in turn
  unfoldable pub path_of : ℕ → State → List ℕ → List ℕ
  path_of t s [] = []
  path_of t s (x ∷ xs) = pick (carries t x) (position_of s t ∷ path_of t (step s x).state xs) (path_of t (step s x).state xs)

  -- of a list with a value for each item, those that the LOADs and COMPARE-SWAPs of row t read, in turn
  unfoldable pub reads_of : ℕ → State → List ℕ → List ℤ → List ℤ
  reads_of t s [] vs = []
  reads_of t s (x ∷ xs) [] = []
  reads_of t s (x ∷ xs) (v ∷ vs) = pick (carries t x && reads (next_of s t)) (v ∷ reads_of t (step s x).state xs vs) (reads_of t (step s x).state xs vs)

-- the one-memory machine along an order, from a state
abbrev pub alone_of : State → List ℕ → Ran
alone_of s order = run_of plain_of s 0 order

-- a run from s by the items xs, which wrote the values vs and ended in m, and the one-memory machine, started alike and following an order
pub record Alike (s : State) (xs : List ℕ) (vs : List ℤ) (m : State) (order : List ℕ) : Type 0 where
  -- the order names each thread as often as it carried out an instruction, and each of its steps can be made
  pub each : (t : ℕ) → t < THREADS → times_of t order ≡ times_of t xs
  pub taken : (alone_of s order).number ≡ 0
  -- "keeping each thread's own order"
  pub in_order : (t : ℕ) → t < THREADS → path_of plain_of t s order ≡ path_of checked_of t s xs
  -- "give every thread's loads and compare-swaps the same values in turn"
  pub values : (t : ℕ) → t < THREADS → reads_of plain_of t s order (values_of plain_of s order) ≡ reads_of checked_of t s xs vs
  -- "and end with the same memory, registers and program positions"
  pub memory : (alone_of s order).state.memory ≡ m.memory
  pub registers : (alone_of s order).state.registers ≡ m.registers
  pub positions : (alone_of s order).state.positions ≡ m.positions

-- "whose store buffers are empty at the end"
abbrev pub Emptied : State → Type 0
Emptied s = (t : ℕ) → t < s.threads → (queue_of s t).count ≡ 0

-- a case that was read: where it starts, its items, and where its run ends
module _ (case : List ℕ) where
  abbrev pub start_of : State
  start_of = (read_of case).state

  abbrev pub items_of : List ℕ
  items_of = schedule_of case (read_of case)

  abbrev pub end_of : State
  end_of = (ran_of case (read_of case)).state

  -- values and memory: the lent lists as the check left them
  pub record OneMemory (values memory : List ℤ) (order : List ℕ) : Type 0 where
    pub alike : Alike start_of items_of values end_of order
    pub listed : take start_of.cells (alone_of start_of order).state.memory ≡ take start_of.cells memory

-- the theorem: whatever a check of any byte string gave and left in the lent lists, if it gave 0 and the buffers are empty at the end, then the
-- one-memory machine that follows the order does the same
abbrev pub PointThree : Type 0
PointThree =
    (case : List ℕ) (vs ms vs' ms' : List ℤ) (r : Answer) → Checks case vs ms r vs' ms' → r.number ≡ 0 → Emptied (end_of case) →
    OneMemory case vs' ms' (order_of (start_of case) (items_of case))

-- the same in the user's words: there is some order
abbrev pub SomeOrder : Type 0
SomeOrder =
    (case : List ℕ) (vs ms vs' ms' : List ℤ) (r : Answer) → Checks case vs ms r vs' ms' → r.number ≡ 0 → Emptied (end_of case) →
    (order : List ℕ) × OneMemory case vs' ms' order
