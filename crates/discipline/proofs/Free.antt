-- What holds of an action that a rule does not stop: each rule as point 3 rests on it.
use Prim.Native.Nat.{ℕ, suc, ◌+◌, ◌<◌}
use mathlib.Core.Bool.{Bool, true, false, not, ◌&&◌, ◌||◌, true≢false}
use mathlib.Core.Path.{◌≡◌, refl, ap, ◌∙◌, sym}
use mathlib.Core.List.{[]}
use native.Mathlib.Nat.{suc-ne-zero}
use native.Mathlib.Omega.{arith}
use native.Mathlib.Numerals.{add-one}
use lib.ListN.{take}
use lib.Dec.{eqb, leb}
use borrow.Author.Tests.{eqb-true, leb-false}
use Rattle.reader.specs.declared.state.Queue.{Queue}
use Rattle.reader.specs.Queue.{pending}
use Rattle.machine.specs.Effect.{guard, pends}
use Rattle.discipline.specs.declared.table.Held.{Held}
use Rattle.discipline.specs.Table.{owns, is_local, is_dirty}
use Rattle.discipline.specs.Rules.{load_breaks, store_breaks, acquire_breaks, release_breaks}
use Rattle.discipline.specs.Marks.{stored_of}
use Rattle.discipline.proofs.Abstract.{Open}

-- a buffer that must be empty: 21
no_stores : (q : Queue) → pends q ≡ false → pending q ≡ []
no_stores q h = go (eqb q.count 0) refl h
  where
    go : (b : Bool) → eqb q.count 0 ≡ b → not b ≡ false → pending q ≡ []
    go true e z = ap (λ (n : ℕ). take n q.entries) (eqb-true q.count 0 e)
    go false e z = absurd (true≢false z)

pub waits_free : (q : Queue) → guard (pends q) 21 0 ≡ 0 → pending q ≡ []
unfolding guard
waits_free q z = go (pends q) refl z
  where
    go : (b : Bool) → pends q ≡ b → guard b 21 0 ≡ 0 → pending q ≡ []
    go true e z = absurd (omega arith)
    go false e z = no_stores q e

-- room for a store: 22
pub room_free : (depth : ℕ) (q : Queue) → guard (leb depth q.count) 22 0 ≡ 0 → q.count < depth
unfolding guard
room_free depth q z = go (leb depth q.count) refl z
  where
    go : (b : Bool) → leb depth q.count ≡ b → guard b 22 0 ≡ 0 → q.count < depth
    go true e z = absurd (omega arith)
    go false e z = leb-false depth q.count e

module _ (t : ℕ) (h : Held) where
  own_is : owns h t ≡ true → h.owner ≡ suc t
  own_is e = eqb-true h.owner (t + 1) e ∙ add-one t

  -- the number of each rule that is broken
  load_30 : owns h t ≡ false → is_local h ≡ true → load_breaks t h ≡ 30
  unfolding load_breaks guard
  load_30 a b = rw (a, b)

  load_31 : owns h t ≡ false → is_local h ≡ false → is_dirty h ≡ true → load_breaks t h ≡ 31
  unfolding load_breaks guard
  load_31 a b d = simp (a, b, d)

  store_32 : eqb h.owner 0 ≡ false → owns h t ≡ false → store_breaks t h ≡ 32
  unfolding store_breaks guard
  store_32 a b = simp (a, b)

  acquire_33 : (elsewhere : Bool) → eqb h.owner 0 ≡ false → acquire_breaks t h elsewhere ≡ 33
  unfolding acquire_breaks guard
  acquire_33 elsewhere a = simp a

  acquire_34 : eqb h.owner 0 ≡ true → acquire_breaks t h true ≡ 34
  unfolding acquire_breaks guard
  acquire_34 a = simp a

  release_35 : (q : Queue) → owns h t ≡ false → release_breaks t h q ≡ 35
  unfolding release_breaks guard
  release_35 q a = simp a

  release_36 : (q : Queue) → owns h t ≡ true → pends q ≡ true → release_breaks t h q ≡ 36
  unfolding release_breaks guard
  release_36 q a b = simp (a, b)

  -- a LOAD: of an own cell, or of a shared one with a clear flag
  pub data Loadable : Type 0 where
    of_own : h.owner ≡ suc t → Loadable
    of_shared : is_local h ≡ false → is_dirty h ≡ false → Loadable

  pub load_free : load_breaks t h ≡ 0 → Loadable
  load_free z = go (owns h t) refl (is_local h) refl (is_dirty h) refl
    where
      go : (a : Bool) → owns h t ≡ a → (b : Bool) → is_local h ≡ b → (d : Bool) → is_dirty h ≡ d → Loadable
      go true ea b eb d ed = of_own (own_is ea)
      go false ea true eb d ed = absurd (omega (arith, load_30 ea eb, z))
      go false ea false eb true ed = absurd (omega (arith, load_31 ea eb ed, z))
      go false ea false eb false ed = of_shared eb ed

  -- a STORE and a COMPARE-SWAP: of a cell that no other thread owns
  pub store_free : store_breaks t h ≡ 0 → Open t h.owner
  store_free z j e = go (eqb h.owner 0) refl (owns h t) refl
    where
      go : (a : Bool) → eqb h.owner 0 ≡ a → (b : Bool) → owns h t ≡ b → j ≡ t
      go true ea b eb = absurd (suc-ne-zero j (sym e ∙ eqb-true h.owner 0 ea))
      go false ea true eb = let o = eqb-true h.owner (t + 1) eb in omega arith
      go false ea false eb = absurd (omega (arith, store_32 ea eb, z))

  -- an ACQUIRE: of a cell that nobody owns, with no store to it elsewhere
  pub acquire_free : (elsewhere : Bool) → acquire_breaks t h elsewhere ≡ 0 → (h.owner ≡ 0) × (elsewhere ≡ false)
  acquire_free elsewhere z = go (eqb h.owner 0) refl elsewhere z
    where
      go : (a : Bool) → eqb h.owner 0 ≡ a → (b : Bool) → acquire_breaks t h b ≡ 0 → (h.owner ≡ 0) × (b ≡ false)
      go true ea true z = absurd (omega (arith, acquire_34 ea, z))
      go true ea false z = (eqb-true h.owner 0 ea, refl)
      go false ea b z = absurd (omega (arith, acquire_33 b ea, z))

  -- a RELEASE: of an own cell, with an empty buffer
  pub release_free : (q : Queue) → release_breaks t h q ≡ 0 → (h.owner ≡ suc t) × (pending q ≡ [])
  release_free q z = go (owns h t) refl (pends q) refl
    where
      go : (a : Bool) → owns h t ≡ a → (b : Bool) → pends q ≡ b → (h.owner ≡ suc t) × (pending q ≡ [])
      go true ea true eb = absurd (omega (arith, release_36 q ea eb, z))
      go true ea false eb = (own_is ea, no_stores q eb)
      go false ea b eb = absurd (omega (arith, release_35 q ea, z))

  -- the flag after a STORE: clear only if it was, and the cell is own and local
  clear : owns h t ≡ true → is_local h ≡ true → not (eqb (stored_of h t).dirty 0) ≡ is_dirty h
  unfolding stored_of
  clear a b = simp (a, b)

  own_shared : owns h t ≡ true → is_local h ≡ false → not (eqb (stored_of h t).dirty 0) ≡ true
  unfolding stored_of
  own_shared a b = simp (a, b)

  not_own : owns h t ≡ false → not (eqb (stored_of h t).dirty 0) ≡ true
  unfolding stored_of
  not_own a = simp a

  pub flag_stored : not (eqb (stored_of h t).dirty 0) ≡ (is_dirty h || not (owns h t && is_local h))
  flag_stored = go (owns h t) refl (is_local h) refl
    where
      or_false : (b : Bool) → b ≡ (b || false)
      or_false true = refl
      or_false false = refl

      or_true : (b : Bool) → true ≡ (b || true)
      or_true true = refl
      or_true false = refl

      go : (a : Bool) → owns h t ≡ a → (b : Bool) → is_local h ≡ b → not (eqb (stored_of h t).dirty 0) ≡ (is_dirty h || not (a && b))
      go true ea true eb = clear ea eb ∙ or_false (is_dirty h)
      go true ea false eb = own_shared ea eb ∙ or_true (is_dirty h)
      go false ea b eb = not_own ea ∙ or_true (is_dirty h)
