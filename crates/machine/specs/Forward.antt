-- Memory once the stores of a buffer have drained into it, oldest first: what a thread with that buffer sees.
use Rattle.std.specs.Prelude.{List, [], ◌∷◌, ℤ, slice_set}
use Rattle.reader.specs.declared.state.Pending.{Pending}

unfoldable pub settled : List Pending → List ℤ → List ℤ
settled [] m = m
settled (e ∷ q) m = settled q (slice_set m e.cell e.value)
