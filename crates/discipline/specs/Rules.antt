-- The discipline: which rule an action breaks. "a smaller number before a larger one"
use Rattle.std.specs.Prelude.{ℕ, Bool, ◌&&◌, not}
use Rattle.reader.specs.declared.state.Queue.{Queue}
use Rattle.machine.specs.declared.action.Action.{Action}
use Rattle.machine.specs.declared.action.Action.TheVariants.{Read, Store, Fence, Swap, Acquire, Release, Silent, End}
use Rattle.machine.specs.Effect.{guard, pends}
use Rattle.discipline.specs.declared.table.Held.{Held}
use Rattle.discipline.specs.Table.{owned, owns, others, is_local, is_dirty}

-- an action of row t, of whose cell so much is held
module _ (t : ℕ) (h : Held) where
  -- "a cell the thread owns, always; another cell only if it is shared and the thread's dirty flag is clear"
  unfoldable pub load_breaks : ℕ
  load_breaks = guard (not (owns h t) && is_local h) 30 (guard (not (owns h t) && (not (is_local h) && is_dirty h)) 31 0)

  -- "Store and COMPARE-SWAP (whether or not it writes): a cell that no other thread owns."
  unfoldable pub store_breaks : ℕ
  store_breaks = guard (others h t) 32 0

  -- "a cell with no owner and with no pending store in another thread's buffer"
  unfoldable pub acquire_breaks : Bool → ℕ
  acquire_breaks elsewhere = guard (owned h) 33 (guard elsewhere 34 0)

  -- "an own cell, with the own buffer empty"
  unfoldable pub release_breaks : Queue → ℕ
  release_breaks q = guard (not (owns h t)) 35 (guard (pends q) 36 0)

  -- with buffer q; elsewhere says whether a store to the cell pends with another thread
  unfoldable pub broken_of : Queue → Bool → Action → ℕ
  broken_of q elsewhere (Read c) = load_breaks
  broken_of q elsewhere (Store c x) = store_breaks
  broken_of q elsewhere Fence = 0
  broken_of q elsewhere (Swap c old x) = store_breaks
  broken_of q elsewhere (Acquire c mark) = acquire_breaks elsewhere
  broken_of q elsewhere (Release c) = release_breaks q
  broken_of q elsewhere (Silent n x) = 0
  broken_of q elsewhere End = 0
