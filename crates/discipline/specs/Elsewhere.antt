-- Pending stores in the buffers of other threads.
use Rattle.std.specs.Prelude.{ℕ, zero, suc, ◌≤◌, ◌<◌, Bool, true, false, ◌&&◌, not, List, get_or, eqb}
use Rattle.reader.specs.declared.state.Pending.{Pending}
use Rattle.reader.specs.declared.state.Queue.{Queue}
use Rattle.reader.specs.State.{no_pending, outside_queue}
use Rattle.reader.specs.Limits.{THREADS, DEPTH}
use Rattle.reader.specs.Rules.{pick}

-- whether one of the first n entries is to cell c
unfoldable pub holds_of : List Pending → ℕ → ℕ → Bool
holds_of es zero c = false
holds_of es (suc n) c = pick (eqb (get_or es n no_pending).cell c) true (holds_of es n c)

abbrev pub holds : Queue → ℕ → Bool
holds q c = holds_of q.entries q.count c

-- whether a store to c pends with row u, which is not row t
abbrev pub pends_with : List Queue → ℕ → ℕ → ℕ → Bool
pends_with qs t c u = not (eqb u t) && holds (get_or qs u outside_queue) c

-- whether a store to c pends with one of the first n rows, but for row t
unfoldable pub elsewhere_of : List Queue → ℕ → ℕ → ℕ → Bool
elsewhere_of qs zero t c = false
elsewhere_of qs (suc n) t c = pick (pends_with qs t c n) true (elsewhere_of qs n t c)

-- rows that can be searched
pub record Rows (qs : List Queue) (threads : ℕ) : Type 0 where
  pub few_threads : threads ≤ THREADS
  pub few : (t : ℕ) → t < threads → (get_or qs t outside_queue).count ≤ DEPTH
