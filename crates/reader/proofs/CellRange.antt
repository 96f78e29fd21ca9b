-- Cells that were read without a refusal are in range.
use Prim.Native.Nat.{ℕ, suc, ◌+◌, ◌≤◌, ◌<◌}
use mathlib.Core.Path.{◌≡◌}
use mathlib.Core.List.{List}
use native.Mathlib.Omega.{arith}
use native.Mathlib.Decide.{ℕ_discrete}
use lib.Dec.{leb, ltb}
use lib.ListN.{length, get_or, set}
use lib.Seq.{get_or-set_same, get_or-set_other}
use borrow.Author.Tests.{leb-true, ltb-true}
use Rattle.reader.specs.declared.bytes.Cell.{Cell}
use Rattle.reader.specs.declared.state.State.{State}
use Rattle.reader.specs.Reading.{Part}
use Rattle.reader.specs.Limits.{CELLS}
use Rattle.reader.specs.Bytes.{cell_at}
use Rattle.reader.specs.Rules.{cell_bytes, cell_wrong}
use Rattle.reader.specs.Range.{CellIn}
use Rattle.reader.specs.Case.{part_judged, cell_judged, with_cell, cell_into, cells_of}
use Rattle.reader.proofs.Each.{each_fine}
use Rattle.reader.proofs.Fields.{refuses, field_right, pick_fine}
use Rattle.reader.proofs.Instructions.{checked}
use Rattle.reader.proofs.Kept.{Kept, kept_cell}

-- what a cell record that is not wrong holds
record CellRight (threads : ℕ) (x : Cell) : Type 0 where
  owner : x.owner ≤ threads
  sharing : x.sharing ≤ 1
  unowned : x.owner ≡ 0 → x.sharing ≡ 1

cell_right : (threads : ℕ) (x : Cell) → cell_bytes ≤ cell_wrong threads x.owner x.sharing → CellRight threads x
unfolding cell_wrong
cell_right threads x e =
    let o = checked (leb x.owner threads) 4 _ cell_bytes (omega arith) e in
    let h = checked (leb x.sharing 1) 5 _ cell_bytes (omega arith) o.1 in
    let u = checked (ltb 0 (x.owner + x.sharing)) 5 cell_bytes cell_bytes (omega arith) h.1 in
    let s : x.sharing ≤ 1 = leb-true _ _ h.0 in
    let t : 0 < x.owner + x.sharing = ltb-true _ _ u.0 in
    record { owner = leb-true _ _ o.0; sharing = s; unowned = λ z. omega arith }

-- the first n cells of a state with room for them are in range
pub record CellsIn (o : State) (n : ℕ) (m : State) : Type 0 where
  pub kept : Kept o m
  pub cell : (c : ℕ) → c < n → CellIn m c

module _ (o : State) (room : (length o.owners ≡ CELLS) × (length o.sharing ≡ CELLS)) where
  module _ {m : State} {i : ℕ} (below : i < CELLS) (g : CellsIn o i m) (x : Cell) (right : CellRight m.threads x) where
    new : CellIn (with_cell m i x) i
    new =
        let ko = g.kept.owners in
        let ks = g.kept.sharing in
        let a : get_or (set m.owners i x.owner) i 0 ≡ x.owner = get_or-set_same m.owners i x.owner 0 (omega arith) in
        let b : get_or (set m.sharing i x.sharing) i 0 ≡ x.sharing = get_or-set_same m.sharing i x.sharing 0 (omega arith) in
        record { owner = rw a right.owner; sharing = rw b right.sharing; unowned = rw (a, b) right.unowned }

    old : (c : ℕ) → (c ≡ i → ⊥) → CellIn m c → CellIn (with_cell m i x) c
    old c ne h =
        let a : get_or (set m.owners i x.owner) c 0 ≡ get_or m.owners c 0 = get_or-set_other m.owners i c x.owner 0 ne in
        let b : get_or (set m.sharing i x.sharing) c 0 ≡ get_or m.sharing c 0 = get_or-set_other m.sharing i c x.sharing 0 ne in
        record { owner = rw a h.owner; sharing = rw b h.sharing; unowned = rw (a, b) h.unowned }

    cells_in_set : CellsIn o (suc i) (with_cell m i x)
    cells_in_set = record { kept = kept_cell g.kept i x; cell = λ c h. one c h (ℕ_discrete c i) }
      where
        one : (c : ℕ) → c < suc i → Dec (c ≡ i) → CellIn (with_cell m i x) c
        one c h (yes e) = rw e new
        one c h (no ne) = old c ne (g.cell c (omega arith))

  abbrev PartIn : ℕ → Part → Type 0
  PartIn i a = CellsIn o i a.state

  cell_in : (s : List ℕ) (i : ℕ) (a : Part) → i < CELLS → PartIn i a → (cell_into s i a).judged.number ≡ 0 → PartIn (suc i) (cell_into s i a)
  unfolding cell_into cell_judged
  cell_in s i a h g e =
      let p = a.judged.place in
      let x = cell_at s p in
      let w = cell_wrong a.state.threads x.owner x.sharing in
      rw (pick_fine (cell_judged s a.state.threads p) (with_cell a.state i x) a.state e)
      (cells_in_set h g x (cell_right a.state.threads x (field_right s cell_bytes 6 p w (refuses 5) e)))

  pub cells_in : (s : List ℕ) (a : Part) → a.state.cells ≤ CELLS → Kept o a.state → (cells_of s a).judged.number ≡ 0 → CellsIn o a.state.cells (cells_of s a).state
  unfolding cells_of
  cells_in s a h k e =
      each_fine part_judged (cell_into s) PartIn a.state.cells (λ i b l. cell_in s i b (omega arith)) 0 a.state.cells a (omega arith)
      (record { kept = k; cell = λ c l. absurd (omega arith) }) e
