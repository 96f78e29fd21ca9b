-- In range, as a test that computes: what the stepping call asks of a state before it does anything. That it is the reader's promise `InRange`, no
-- more and no less, is proved in proofs/Exact.antt. "Places beyond the counts are neither judged nor changed": nothing here looks at them.
use Rattle.std.specs.Prelude.{ℕ, zero, suc, Bool, true, false, ◌&&◌, leb, ltb, get_or}
use Rattle.reader.specs.declared.state.Queue.{Queue}
use Rattle.reader.specs.declared.state.State.{State}
use Rattle.reader.specs.Limits.{THREADS, CELLS, DEPTH, INSTRUCTIONS}
use Rattle.reader.specs.State.{no_pending, queue_of, position_of, count_of, instruction_of, owner_of, sharing_of}
use Rattle.reader.specs.Rules.{pick, within, cell_bytes, cell_wrong, instruction_bytes, instruction_wrong}

-- whether every number below n passes a test, from the last back
unfoldable pub all_below : (ℕ → Bool) → ℕ → Bool
all_below test zero = true
all_below test (suc n) = pick (test n) (all_below test n) false

-- "pending cells existing"
abbrev pub pending_fits : ℕ → Queue → ℕ → Bool
pending_fits cells q k = ltb (get_or q.entries k no_pending).cell cells

-- "pending counts at most depth"
unfoldable pub queue_fits : ℕ → ℕ → Queue → Bool
queue_fits cells depth q = leb q.count depth && all_below (pending_fits cells q) q.count

module _ (s : State) where
  -- "the limits above"
  unfoldable pub sizes_fit : Bool
  sizes_fit = within 1 THREADS s.threads && (within 1 CELLS s.cells && within 1 DEPTH s.depth)

  -- "owner at most threads, unowned cells shared"; a sharing mark is one that a case could hold
  abbrev pub cell_fits : ℕ → Bool
  cell_fits c = leb cell_bytes (cell_wrong s.threads (owner_of s c) (sharing_of s c))

  -- "every instruction as a case could hold it"
  abbrev pub instruction_fits : ℕ → ℕ → Bool
  instruction_fits t k = leb instruction_bytes (instruction_wrong s.cells (count_of s t) (instruction_of s t k))

  unfoldable pub program_fits : ℕ → Bool
  program_fits t = leb (count_of s t) INSTRUCTIONS && all_below (instruction_fits t) (count_of s t)

  -- "positions at most the instruction count"
  abbrev pub position_fits : ℕ → Bool
  position_fits t = leb (position_of s t) (count_of s t)

  unfoldable pub thread_fits : ℕ → Bool
  thread_fits t = program_fits t && (queue_fits s.cells s.depth (queue_of s t) && position_fits t)

  -- "In range means: the limits above, pending counts at most depth, pending cells existing, owner at most threads, unowned cells shared,
  -- positions at most the instruction count, every instruction as a case could hold it."
  unfoldable pub in_range_of : Bool
  in_range_of = sizes_fit && (all_below cell_fits s.cells && all_below thread_fits s.threads)
