-- What an action does to the dirty flag and to the ownership table.
use Rattle.std.specs.Prelude.{ℕ, ◌&&◌}
use Rattle.reader.specs.Rules.{pick}
use Rattle.machine.specs.declared.action.Action.{Action}
use Rattle.machine.specs.declared.action.Action.TheVariants.{Read, Store, Fence, Swap, Acquire, Release, Silent, End}
use Rattle.machine.specs.Action.{mark_of}
use Rattle.discipline.specs.declared.table.Held.{Held}
use Rattle.discipline.specs.Table.{owns, is_local, acquired, released, flagged}

-- "A STORE to any cell but one that the thread owns and that is local sets the dirty flag."
unfoldable pub stored_of : Held → ℕ → Held
stored_of h t = flagged h (pick (owns h t && is_local h) h.dirty 1)

-- what is then held; "FENCE and COMPARE-SWAP clear it. Draining does not."
unfoldable pub marks_of : Held → ℕ → Action → Held
marks_of h t (Read c) = h
marks_of h t (Store c x) = stored_of h t
marks_of h t Fence = flagged h 0
marks_of h t (Swap c old x) = flagged h 0
marks_of h t (Acquire c mark) = acquired h t (mark_of mark)
marks_of h t (Release c) = released h
marks_of h t (Silent n x) = h
marks_of h t End = h
