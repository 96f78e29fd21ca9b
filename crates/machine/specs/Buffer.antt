-- Looking into a buffer, on its row as it stands: from the newest pending store back.
use Rattle.std.specs.Prelude.{ℕ, zero, suc, Bool, List, Option, option_map, ℤ, ◌==◌, slice_index_or, reverse}
use Rattle.std.specs.List.{find}
use Rattle.reader.specs.declared.state.Pending.{Pending}
use Rattle.reader.specs.declared.state.Queue.{Queue}
use Rattle.reader.specs.State.{no_pending}
use Rattle.reader.specs.Queue.{pushed_of}
use Rattle.reader.specs.Rules.{pick}

-- the value of the newest of these stores that is to cell c
abbrev pub newest_in : List Pending → ℕ → Option ℤ
newest_in es c = option_map (λ (e : Pending). e.value) (find (λ (e : Pending). e.cell == c) (reverse es))

-- the newest of the first n entries that is to cell c, or else d
unfoldable pub newest_of : List Pending → ℕ → ℕ → ℤ → ℤ
newest_of es zero c d = d
newest_of es (suc n) c d = pick ((slice_index_or es n no_pending).cell == c) (slice_index_or es n no_pending).value (newest_of es n c d)

-- "the newest pending store to that cell in the thread's own buffer, or else the memory's value"
abbrev pub forwarded : Queue → ℕ → ℤ → ℤ
forwarded q c word = newest_of q.entries q.count c word

-- the row after an instruction: with one more entry where it stores
abbrev pub after_of : Queue → Bool → Pending → Queue
after_of q pushes e = pick pushes (pushed_of q e) q
