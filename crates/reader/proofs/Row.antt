-- Laws of a queue row over any depth: what a push and a pop do to the pending stores that the row stands for.
use Prim.Native.Nat.{ℕ, ◌+◌, ◌-◌, ◌<◌, ◌≤◌}
use mathlib.Core.Path.{◌≡◌, sym, ap, ◌∙◌}
use mathlib.Core.List.{[], ◌∷◌, ◌++◌}
use native.Mathlib.Omega.{arith}
use native.Mathlib.Numerals.{add-one}
use lib.ListN.{length, take, drop, length-take, length-drop, length-set, length-append}
use lib.Seq.{take_at, take-suc-set}
use Rattle.std.proofs.lemmas.List.{drop-take}
use Rattle.reader.specs.declared.state.Pending.{Pending}
use Rattle.reader.specs.declared.state.Queue.{Queue}
use Rattle.reader.specs.State.{no_pending}
use Rattle.reader.specs.Queue.{pending, shifted, popped_of, pushed_of}

-- the count of a row is the number of its pending stores
pub length_pending : (q : Queue) → q.count ≤ length q.entries → length (pending q) ≡ q.count
length_pending q h = simp length-take (omega arith)

module _ (q : Queue) where
  module _ (some : 0 < q.count) (few : q.count ≤ length q.entries) where
    moved : length (take (q.count - 1) (drop 1 q.entries)) ≡ q.count - 1
    moved = simp (length-take, length-drop) (omega arith)

    pub pending_popped : pending (popped_of q) ≡ drop 1 (pending q)
    unfolding shifted
    pending_popped =
        let n = q.count - 1 in
        let e : 1 + n ≡ q.count = omega arith in
        take_at (take n (drop 1 q.entries)) (no_pending ∷ drop (n + 1) q.entries) n moved
        ∙ sym (drop-take 1 n q.entries)
        ∙ ap (λ (i : ℕ). drop 1 (take i q.entries)) e

    pub length_popped : length (popped_of q).entries ≡ length q.entries
    unfolding shifted
    length_popped = simp (length-append, length-take, length-drop) (omega arith)

  pub pending_pushed : (e : Pending) → q.count < length q.entries → pending (pushed_of q e) ≡ pending q ++ (e ∷ [])
  pending_pushed e h = rw add-one (take-suc-set q.entries q.count e h)

  pub length_pushed : (e : Pending) → length (pushed_of q e).entries ≡ length q.entries
  length_pushed e = simp length-set
