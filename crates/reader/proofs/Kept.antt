-- What reading cells and programs leaves as it was, whether or not a field is refused.
use Prim.Native.Nat.{ℕ, zero, suc}
use mathlib.Core.Bool.{Bool, true, false}
use mathlib.Core.Path.{◌≡◌, refl, ap}
use mathlib.Core.List.{List, []}
use lib.ListN.{length, length-set}
use Rattle.reader.specs.Reading.{Judged, Part}
use Rattle.reader.specs.declared.bytes.Cell.{Cell}
use Rattle.reader.specs.declared.state.Instruction.{Instruction}
use Rattle.reader.specs.declared.state.State.{State}
use Rattle.reader.specs.Rules.{pick}
use Rattle.reader.specs.Bytes.{byte, cell_at, instruction_at}
use Rattle.reader.specs.Limits.{INSTRUCTIONS}
use Rattle.reader.specs.Case.{fine, filled, go_on, each, part_judged, count_judged, cell_judged, with_cell, cell_into, cells_of, instruction_judged, with_instruction, instruction_into, instructions_of, with_count, program_into, programs_of}

-- all of a state but what cells and programs are read into
abbrev frame_of : State → State
frame_of m = record { threads = m.threads; cells = m.cells; depth = m.depth; positions = m.positions; counts = []; queues = m.queues; code = []; registers = m.registers; memory = []; dirty = m.dirty; owners = []; sharing = [] }

-- m is o with cells and programs read into it
pub record Kept (o m : State) : Type 0 where
  pub frame : frame_of m ≡ frame_of o
  pub memory : length m.memory ≡ length o.memory
  pub owners : length m.owners ≡ length o.owners
  pub sharing : length m.sharing ≡ length o.sharing
  pub counts : length m.counts ≡ length o.counts
  pub code : length m.code ≡ length o.code

pub kept_all : (o : State) → Kept o o
kept_all o = record { frame = refl; memory = refl; owners = refl; sharing = refl; counts = refl; code = refl }

module _ {o m : State} (k : Kept o m) where
  pub kept_threads : m.threads ≡ o.threads
  kept_threads = ap (λ (x : State). x.threads) k.frame

  pub kept_cells : m.cells ≡ o.cells
  kept_cells = ap (λ (x : State). x.cells) k.frame

  pub kept_cell : (c : ℕ) (x : Cell) → Kept o (with_cell m c x)
  kept_cell c x = record { frame = k.frame; memory = simp length-set k.memory; owners = simp length-set k.owners; sharing = simp length-set k.sharing; counts = k.counts; code = k.code }

  pub kept_count : (t n : ℕ) → Kept o (with_count m t n)
  kept_count t n = record { frame = k.frame; memory = k.memory; owners = k.owners; sharing = k.sharing; counts = simp length-set k.counts; code = k.code }

  pub kept_instruction : (t i : ℕ) (x : Instruction) → Kept o (with_instruction m t i x)
  kept_instruction t i x = record { frame = k.frame; memory = k.memory; owners = k.owners; sharing = k.sharing; counts = k.counts; code = simp length-set k.code }

pick_all : {A : Type 0} (P : A → Type 0) (t : Bool) (a b : A) → P a → P b → P (pick t a b)
pick_all P true a b p q = p
pick_all P false a b p q = q

go_on_all : {A : Type 0} (P : A → Type 0) (t : Bool) (f : A → A) (a : A) → ((b : A) → P b → P (f b)) → P a → P (go_on t f a)
go_on_all P true f a h p = h a p
go_on_all P false f a h p = p

module _ {A : Type 0} (judged : A → Judged) (f : ℕ → A → A) (P : A → Type 0) (keep : (i : ℕ) (a : A) → P a → P (f i a)) where
  each_all : (i n : ℕ) (a : A) → P a → P (each judged f i n a)
  unfolding each
  each_all i zero a p = p
  each_all i (suc n) a p = go_on_all P (fine (judged (f i a))) (each judged f (suc i) n) (f i a) (λ b q. each_all (suc i) n b q) (keep i a p)

module _ (s : List ℕ) (o : State) where
  abbrev KeptPart : Part → Type 0
  KeptPart a = Kept o a.state

  cell_kept : (c : ℕ) (a : Part) → KeptPart a → KeptPart (cell_into s c a)
  unfolding cell_into
  cell_kept c a k = pick_all (Kept o) (fine (cell_judged s a.state.threads a.judged.place)) _ _ (kept_cell k c (cell_at s a.judged.place)) k

  pub cells_kept : (a : Part) → KeptPart a → KeptPart (cells_of s a)
  unfolding cells_of
  cells_kept a k = each_all part_judged (cell_into s) KeptPart cell_kept 0 a.state.cells a k

  instruction_kept : (t count i : ℕ) (a : Part) → KeptPart a → KeptPart (instruction_into s t count i a)
  unfolding instruction_into
  instruction_kept t count i a k = pick_all (Kept o) (fine (instruction_judged s a.state.cells count a.judged.place)) _ _ (kept_instruction k t i (instruction_at s a.judged.place)) k

  instructions_kept : (t count : ℕ) (a : Part) → KeptPart a → KeptPart (instructions_of s t count a)
  unfolding instructions_of
  instructions_kept t count a k = each_all part_judged (instruction_into s t count) KeptPart (instruction_kept t count) 0 count a k

  program_kept : (t : ℕ) (a : Part) → KeptPart a → KeptPart (program_into s t a)
  unfolding program_into
  program_kept t a k =
      let p = a.judged.place in
      let j = count_judged s 0 INSTRUCTIONS p in
      go_on_all KeptPart (fine j) (instructions_of s t (byte s p)) (filled j (with_count a.state t (byte s p)) a.state) (instructions_kept t (byte s p))
      (pick_all (Kept o) (fine j) _ _ (kept_count k t (byte s p)) k)

  pub programs_kept : (a : Part) → KeptPart a → KeptPart (programs_of s a)
  unfolding programs_of
  programs_kept a k = each_all part_judged (program_into s) KeptPart program_kept 0 a.state.threads a k
