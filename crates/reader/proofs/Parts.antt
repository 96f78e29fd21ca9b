-- What the sizes of a case hold where they are fine, and what its cells are read into.
use Prim.Native.Nat.{ℕ}
use mathlib.Core.Path.{◌≡◌}
use mathlib.Core.List.{List}
use Rattle.reader.specs.Reading.{Part}
use Rattle.reader.specs.Limits.{THREADS, CELLS, DEPTH}
use Rattle.reader.specs.Case.{next, and_then, count_judged, sizes_judged, sized_of}
use Rattle.reader.proofs.Fields.{then_fine}
use Rattle.reader.proofs.Counts.{Counted, count_fine}

pub record Sizes (s : List ℕ) : Type 0 where
  pub threads : Counted s 1 THREADS 3
  pub cells : Counted s 1 CELLS 4
  pub depth : Counted s 1 DEPTH 5

pub sizes_fine : (s : List ℕ) → (sizes_judged s).number ≡ 0 → Sizes s
unfolding sizes_judged
sizes_fine s e =
    let a = then_fine (count_judged s 1 THREADS 3) (and_then (count_judged s 1 CELLS 4) (count_judged s 1 DEPTH 5)) e in
    let b = then_fine (count_judged s 1 CELLS 4) (count_judged s 1 DEPTH 5) a.1 in
    record { threads = count_fine s 1 THREADS 3 a.0; cells = count_fine s 1 CELLS 4 b.0; depth = count_fine s 1 DEPTH 5 b.1 }

abbrev pub first_part : List ℕ → Part
first_part s = record { judged = next 6; state = sized_of s }
