-- The code's answers, as the records that the definitions of a case speak of.
use Rattle.std.specs.Prelude.{ℕ, Result, Ok, Err}
use Rattle.reader.specs.declared.refusal.Fault.{Fault}
use Rattle.reader.specs.declared.refusal.Fault.TheVariants.{Short, Version, Length, Count, Missing, Cell, Instruction, Item}
use Rattle.reader.specs.declared.refusal.Refusal.{Refusal}
use Rattle.reader.specs.declared.state.State.{State}
use Rattle.reader.specs.declared.Case.{Case}
use Rattle.reader.specs.Reading.{Judged, Part, Reading}
use Rattle.reader.specs.Case.{refuse, next, refused_of}

-- the number that an answer gives a fault
abbrev pub number_of : Fault → ℕ
number_of Short = 1
number_of Version = 2
number_of Length = 3
number_of Count = 4
number_of Missing = 5
number_of Cell = 6
number_of Instruction = 7
number_of Item = 8

abbrev pub refusal_of : Refusal → Judged
refusal_of r = refuse (number_of r.fault) r.place

-- a field, by where the next one begins
abbrev pub judged_of : Result ℕ Refusal → Judged
judged_of (Ok p) = next p
judged_of (Err r) = refusal_of r

-- fields that were read into a state
abbrev pub part_of : Result ℕ Refusal → State → Part
part_of r m = record { judged = judged_of r; state = m }

-- a state, and the place where the next field begins
abbrev pub part_at : ℕ → State → Part
part_at p m = record { judged = next p; state = m }

-- a whole case
abbrev pub reading_of : Result Case Refusal → Reading
reading_of (Ok c) = record { number = 0; place = 0; state = c.state; start = c.start; items = c.items }
reading_of (Err r) = refused_of (refusal_of r)
