-- The laws of the ownership table and the flag: what is read back after a change, of the same cell or row and of any other. Whoever
-- speaks of the table after a step cites these, and not how the lists are kept.
use Prim.Native.Nat.{ℕ, ◌<◌}
use mathlib.Core.Path.{◌≡◌, refl}
use native.Mathlib.Omega.{arith}
use lib.Seq.{get_or-set_same, get_or-set_other}
use Rattle.reader.specs.declared.state.Instruction.{Instruction}
use Rattle.reader.specs.declared.state.State.{State}
use Rattle.reader.specs.Limits.{THREADS, CELLS}
use Rattle.reader.specs.State.{dirty_of, owner_of, sharing_of}
use Rattle.reader.specs.Range.{Shaped}
use Rattle.machine.specs.Effect.{cell_of}
use Rattle.discipline.specs.declared.table.Held.{Held}
use Rattle.discipline.specs.Table.{held_of, held_in, holding_of}

-- what is held of an instruction is its cell's owner and mark and its row's flag
pub held_parts : (s : State) (t : ℕ) (i : Instruction) → held_in s t i ≡ record { dirty = dirty_of s t; owner = owner_of s (cell_of i); sharing = sharing_of s (cell_of i) }
unfolding held_of
held_parts s t i = refl

module _ (s : State) (t : ℕ) (i : Instruction) (h : Held) where
  -- another cell keeps owner and mark, another row its flag
  pub owner_other : (c : ℕ) → (c ≡ cell_of i → ⊥) → owner_of (holding_of s t i h) c ≡ owner_of s c
  unfolding holding_of
  owner_other c ne = get_or-set_other s.owners (cell_of i) c h.owner 0 ne

  pub sharing_other : (c : ℕ) → (c ≡ cell_of i → ⊥) → sharing_of (holding_of s t i h) c ≡ sharing_of s c
  unfolding holding_of
  sharing_other c ne = get_or-set_other s.sharing (cell_of i) c h.sharing 0 ne

  pub flag_other : (u : ℕ) → (u ≡ t → ⊥) → dirty_of (holding_of s t i h) u ≡ dirty_of s u
  unfolding holding_of
  flag_other u ne = get_or-set_other s.dirty t u h.dirty 0 ne

  -- the cell and the row get what is put there
  module _ (g : Shaped s) where
    pub owner_same : cell_of i < CELLS → owner_of (holding_of s t i h) (cell_of i) ≡ h.owner
    unfolding holding_of
    owner_same l = get_or-set_same s.owners (cell_of i) h.owner 0 (omega (arith, g.owners))

    pub sharing_same : cell_of i < CELLS → sharing_of (holding_of s t i h) (cell_of i) ≡ h.sharing
    unfolding holding_of
    sharing_same l = get_or-set_same s.sharing (cell_of i) h.sharing 0 (omega (arith, g.sharing))

    pub flag_same : t < THREADS → dirty_of (holding_of s t i h) t ≡ h.dirty
    unfolding holding_of
    flag_same l = get_or-set_same s.dirty t h.dirty 0 (omega (arith, g.dirty))

    -- so the rules then see what was put
    pub held_same : t < THREADS → cell_of i < CELLS → held_in (holding_of s t i h) t i ≡ h
    held_same lt lc = rw (held_parts (holding_of s t i h) t i, flag_same lt, owner_same lc, sharing_same lc) refl
