-- The record of a reading tells what was answered: whether the case was read, and what was read, or what is wrong with it, and where.
use Rattle.std.proofs.Common.{◌≡◌, ◌∙◌, ℕ, [], ◌∷◌, get_or, eqb, refl, sym, ap}
use Rattle.std.specs.Prelude.{Result, Ok, Err}
use Rattle.reader.specs.declared.Case.{Case}
use Rattle.reader.specs.declared.refusal.Fault.{Fault}
use Rattle.reader.specs.declared.refusal.Fault.TheVariants.{Short, Version, Length, Count, Missing, Cell, Instruction, Item}
use Rattle.reader.specs.declared.refusal.Refusal.{Refusal}
use Rattle.reader.specs.Rules.{pick}
use Rattle.reader.specs.Reading.{Reading}
use Rattle.reader.specs.Case.{refuse, refused_of}
use Rattle.reader.specs.Refusal.{number_of, reading_of}

-- the fault of a number; of one that no fault has, the first
fault_of : ℕ → Fault
fault_of n = get_or (Short ∷ Short ∷ Version ∷ Length ∷ Count ∷ Missing ∷ Cell ∷ Instruction ∷ Item ∷ []) n Short

-- what was answered, where this is its record
told : Reading → Result Case Refusal
told r = pick (eqb r.number 0) (Ok (record { state = r.state; start = r.start; items = r.items })) (Err (record { fault = fault_of r.number; place = r.place }))

told_fault : (f : Fault) (p : ℕ) → told (refused_of (refuse (number_of f) p)) ≡ Err (record { fault = f; place = p })
unfolding told fault_of refused_of
told_fault Short p = refl
told_fault Version p = refl
told_fault Length p = refl
told_fault Count p = refl
told_fault Missing p = refl
told_fault Cell p = refl
told_fault Instruction p = refl
told_fault Item p = refl

told_reading : (r : Result Case Refusal) → told (reading_of r) ≡ r
unfolding told
told_reading (Ok c) = refl
told_reading (Err d) = told_fault d.fault d.place

pub reading_same : {r r' : Result Case Refusal} → reading_of r ≡ reading_of r' → r ≡ r'
reading_same {r} {r'} e = sym (told_reading r) ∙ ap told e ∙ told_reading r'
