-- A queue row: an array of entries, with a count beside it. What the row stands for is `pending`, and laws about a row speak of that list.
use Rattle.std.specs.Prelude.{ℕ, ◌+◌, ◌-◌, List, ◌∷◌, ◌++◌, take, drop, set}
use Rattle.reader.specs.declared.state.Pending.{Pending}
use Rattle.reader.specs.declared.state.Queue.{Queue}
use Rattle.reader.specs.State.{no_pending}

-- the pending stores, oldest first
abbrev pub pending : Queue → List Pending
pending q = take q.count q.entries

-- the first n + 1 entries without their first, a zero entry in the vacated place, and what stood behind
unfoldable pub shifted : List Pending → ℕ → List Pending
shifted es n = take n (drop 1 es) ++ (no_pending ∷ drop (n + 1) es)

-- "a drain moves the later stores up and zeroes the vacated place"
abbrev pub popped_of : Queue → Queue
popped_of q = record { entries = shifted q.entries (q.count - 1); count = q.count - 1 }

-- "STORE appends to the own buffer."
abbrev pub pushed_of : Queue → Pending → Queue
pushed_of q e = record { entries = set q.entries q.count e; count = q.count + 1 }
