-- What an instruction that a case could hold has: what the layers above ask of it, and "An unused field must be zero" over the whole table.
use Prim.Native.Nat.{ℕ, ◌≤◌, ◌<◌}
use mathlib.Core.Bool.{Bool, true, false}
use mathlib.Core.Path.{◌≡◌, refl}
use native.Mathlib.Omega.{arith}
use lib.Dec.{eqb, ltb}
use lib.IntN.{ℤ, pos, negsuc}
use borrow.Author.Tests.{ltb-true, eqb-true, eq-eqb, ne_eqb}
use Rattle.std.proofs.lemmas.Bool.{false≢true}
use Rattle.reader.specs.declared.state.Instruction.{Instruction}
use Rattle.reader.specs.Limits.{REGISTERS}
use Rattle.reader.specs.Operations.{OPERATIONS, CELL, REGISTER, VALUE, uses_of}
use Rattle.reader.specs.Rules.{pick, check, within, fits_of, BRANCH, bound_of, is_zero, cell_fits, register_fits, value_fits, instruction_bytes, instruction_wrong}
use Rattle.reader.proofs.Tests.{within_true}

pub record InstructionIn (cells count : ℕ) (i : Instruction) : Type 0 where
  pub known : 1 ≤ i.operation
  pub last : i.operation ≤ OPERATIONS
  pub cell : (i.operation ≡ BRANCH → ⊥) → i.cell < cells
  pub target : i.operation ≡ BRANCH → i.cell ≤ count
  pub register : i.register < REGISTERS
  pub zero_cell : uses_of i.operation CELL ≡ 0 → i.cell ≡ 0
  pub zero_register : uses_of i.operation REGISTER ≡ 0 → i.register ≡ 0
  pub zero_value : uses_of i.operation VALUE ≡ 0 → i.value ≡ pos 0

pub checked : (ok : Bool) (k rest n : ℕ) → k < n → n ≤ check ok k rest → (ok ≡ true) × (n ≤ rest)
checked true k rest n h e = (refl, e)
checked false k rest n h e = absurd (omega arith)

module _ (used bound x : ℕ) (e : fits_of used bound x ≡ true) where
  fits_zero : used ≡ 0 → x ≡ 0
  unfolding fits_of
  fits_zero u = eqb-true _ _ (rw (eq-eqb _ _ u) at e)

  fits_below : 0 < bound → x < bound
  unfolding fits_of
  fits_below h = go (eqb used 0) e
    where
      go : (t : Bool) → pick t (eqb x 0) (ltb x bound) ≡ true → x < bound
      go true e = let z : x ≡ 0 = eqb-true _ _ e in omega arith
      go false e = ltb-true _ _ e

zero_value_lem : (x : ℤ) → is_zero x ≡ true → x ≡ pos 0
zero_value_lem (pos n) e = let z : n ≡ 0 = eqb-true _ _ e in rw z
zero_value_lem (negsuc n) e = absurd (false≢true e)

module _ (cells count : ℕ) (i : Instruction) (some : 1 ≤ cells) (e : instruction_bytes ≤ instruction_wrong cells count i) where
  record Fits : Type 0 where
    operation : within 1 OPERATIONS i.operation ≡ true
    cell : cell_fits cells count i ≡ true
    register : register_fits i ≡ true
    value : value_fits i ≡ true

  fits : Fits
  unfolding instruction_wrong
  fits =
      let o = checked (within 1 OPERATIONS i.operation) 0 _ instruction_bytes (omega arith) e in
      let c = checked (cell_fits cells count i) 1 _ instruction_bytes (omega arith) o.1 in
      let r = checked (register_fits i) 2 _ instruction_bytes (omega arith) c.1 in
      let v = checked (value_fits i) 3 instruction_bytes instruction_bytes (omega arith) r.1 in
      record { operation = o.0; cell = c.0; register = r.0; value = v.0 }

  pub instruction_in : InstructionIn cells count i
  unfolding cell_fits register_fits value_fits bound_of
  instruction_in =
      let f = fits in
      let o = within_true 1 OPERATIONS i.operation f.operation in
      record {
        known = o.0;
        last = o.1;
        cell = λ n. let c = rw (ne_eqb _ _ n) at f.cell in fits_below _ _ _ c some;
        target = λ n. let c = rw (eq-eqb _ _ n) at f.cell in let h = fits_below _ _ _ c (omega arith) in omega arith;
        register = fits_below _ _ _ f.register (omega arith);
        zero_cell = fits_zero _ _ _ f.cell;
        zero_register = fits_zero _ _ _ f.register;
        zero_value = λ u. zero_value_lem i.value (rw (eq-eqb _ _ u) at f.value);
      }
