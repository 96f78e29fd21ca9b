-- No fault has the number of a field that is fine.
use mathlib.Core.Path.{◌≡◌}
use native.Mathlib.Omega.{arith}
use Rattle.reader.specs.declared.refusal.Fault.{Fault}
use Rattle.reader.specs.declared.refusal.Fault.TheVariants.{Short, Version, Length, Count, Missing, Cell, Instruction, Item}
use Rattle.reader.specs.declared.refusal.Refusal.{Refusal}
use Rattle.reader.specs.Refusal.{number_of, refusal_of}

some_number : (f : Fault) → number_of f ≡ 0 → ⊥
some_number Short e = omega arith
some_number Version e = omega arith
some_number Length e = omega arith
some_number Count e = omega arith
some_number Missing e = omega arith
some_number Cell e = omega arith
some_number Instruction e = omega arith
some_number Item e = omega arith

pub refused : (d : Refusal) → (refusal_of d).number ≡ 0 → ⊥
refused d e = some_number d.fault e
