-- What an answer means: which reasons stand against an item, and that a run takes items one after the other. These read the description's table of
-- numbers once more, line by line, apart from the definitions that compute the number.
use Rattle.std.specs.Prelude.{ℕ, ◌-◌, ◌≤◌, ◌<◌, true, false, ◌≡◌, List, [], ◌∷◌, leb, ℤ}
use Rattle.reader.specs.declared.state.State.{State}
use Rattle.reader.specs.State.{queue_of}
use Rattle.machine.specs.declared.action.Action.{Action}
use Rattle.machine.specs.declared.action.Sharing.{Sharing}
use Rattle.machine.specs.declared.action.Action.TheVariants.{Read, Store, Fence, Swap, Acquire, Release, End}
use Rattle.machine.specs.Action.{next_of}
use Rattle.machine.specs.Effect.{pends}
use Rattle.discipline.specs.Table.{owned, owns, others, is_local, is_dirty}
use Rattle.discipline.specs.Step.{next_held, next_elsewhere, checked_of}

-- the reasons against an action of row t
module _ (s : State) (t : ℕ) where
  pub data Against : Action → ℕ → Type 0 where
    -- "the thread's program is at its end"
    at_end : Against End 20
    -- "FENCE or COMPARE-SWAP with pending stores"
    fence_waits : pends (queue_of s t) ≡ true → Against Fence 21
    swap_waits : {c : ℕ} {old x : ℤ} → pends (queue_of s t) ≡ true → Against (Swap c old x) 21
    -- "STORE with depth already reached"
    buffer_full : {c : ℕ} {x : ℤ} → leb s.depth (queue_of s t).count ≡ true → Against (Store c x) 22
    -- "load of another's local cell"
    load_local : {c : ℕ} → owns (next_held s t) t ≡ false → is_local (next_held s t) ≡ true → Against (Read c) 30
    -- "load of a shared cell not one's own, dirty flag set"
    load_dirty : {c : ℕ} → owns (next_held s t) t ≡ false → is_local (next_held s t) ≡ false → is_dirty (next_held s t) ≡ true → Against (Read c) 31
    -- "store or COMPARE-SWAP to another's cell"
    store_others : {c : ℕ} {x : ℤ} → others (next_held s t) t ≡ true → Against (Store c x) 32
    swap_others : {c : ℕ} {old x : ℤ} → others (next_held s t) t ≡ true → Against (Swap c old x) 32
    -- "ACQUIRE of an owned cell, one's own too"
    acquire_owned : {c : ℕ} {mark : Sharing} → owned (next_held s t) ≡ true → Against (Acquire c mark) 33
    -- "ACQUIRE with a store to it pending elsewhere"
    acquire_pending : {c : ℕ} {mark : Sharing} → next_elsewhere s t ≡ true → Against (Acquire c mark) 34
    -- "RELEASE of a cell not one's own"
    release_others : {c : ℕ} → owns (next_held s t) t ≡ false → Against (Release c) 35
    -- "RELEASE with pending stores"
    release_waits : {c : ℕ} → pends (queue_of s t) ≡ true → Against (Release c) 36

-- the reasons against an item
pub data Stops (s : State) (x : ℕ) : ℕ → Type 0 where
  stops_take : {n : ℕ} → x < 17 → Against s (x - 1) (next_of s (x - 1)) n → Stops s x n
  -- "drain of an empty buffer"
  stops_drain : 17 ≤ x → (queue_of s (x - 17)).count ≡ 0 → Stops s x 23

-- n is the smallest number that stands against an item
pub record Least (s : State) (x n : ℕ) : Type 0 where
  pub stands : Stops s x n
  pub smallest : (m : ℕ) → Stops s x m → n ≤ m

-- all items of a list are taken, from one state to another
pub data Taken : State → List ℕ → State → Type 0 where
  none : {s : State} → Taken s [] s
  more : {s m : State} {x : ℕ} {xs : List ℕ} → (checked_of s x).number ≡ 0 → Taken (checked_of s x).state xs m → Taken s (x ∷ xs) m
