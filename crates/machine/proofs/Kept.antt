-- A step keeps a state in range, and every array as long as it was.
use Rattle.std.proofs.Common.{◌≡◌, ℕ, zero, suc, ◌+◌, ◌-◌, ◌<◌, ◌≤◌, Bool, true, false, List, [], ◌∷◌, ◌++◌, get_or, take, drop, set, refl, add-one, arith}
use Rattle.reader.specs.declared.state.Pending.{Pending}
use Rattle.reader.specs.declared.state.Queue.{Queue}
use Rattle.reader.specs.declared.state.Instruction.{Instruction}
use Rattle.reader.specs.declared.state.State.{State}
use Rattle.reader.specs.State.{no_pending, outside_queue, queue_of, count_of}
use Rattle.reader.specs.Queue.{shifted, popped_of}
use Rattle.reader.specs.Drain.{drained_of}
use Rattle.reader.specs.Range.{InRange}
use Rattle.machine.specs.declared.effect.Effect.{Effect}
use Rattle.machine.specs.Buffer.{after_of}
use Rattle.machine.specs.Effect.{took_of, pushes, pushed_value}

-- what holds of every element, by its place, holds after a store that it holds of
module _ {A : Type 0} (d : A) where
  pub all_set : (P : ℕ → A → Type 0) (xs : List A) (j : ℕ) (v : A) → ((i : ℕ) → P i (get_or xs i d)) → P j v → (i : ℕ) → P i (get_or (set xs j v) i d)
  all_set P [] j v h p i = h i
  all_set P (x ∷ xs) zero v h p zero = p
  all_set P (x ∷ xs) zero v h p (suc i) = h (suc i)
  all_set P (x ∷ xs) (suc j) v h p zero = h 0
  all_set P (x ∷ xs) (suc j) v h p (suc i) = all_set (λ (n : ℕ) (a : A). P (suc n) a) xs j v (λ n. h (suc n)) p i

  -- the same where the old element at that place is not known to have it
  pub all_set_new : (P : ℕ → A → Type 0) (xs : List A) (j : ℕ) (v : A) → ((i : ℕ) → P i d) → ((i : ℕ) → (i ≡ j → ⊥) → P i (get_or xs i d)) → P j v → (i : ℕ) → P i (get_or (set xs j v) i d)
  all_set_new P [] j v q h p i = q i
  all_set_new P (x ∷ xs) zero v q h p zero = p
  all_set_new P (x ∷ xs) zero v q h p (suc i) = h (suc i) (λ e. omega arith)
  all_set_new P (x ∷ xs) (suc j) v q h p zero = h 0 (λ e. omega arith)
  all_set_new P (x ∷ xs) (suc j) v q h p (suc i) = all_set_new (λ (n : ℕ) (a : A). P (suc n) a) xs j v (λ n. q (suc n)) (λ n ne. h (suc n) (λ e. ne (omega arith))) p i

-- a row whose pending stores are at most so many, each to a cell
pub record RowIn (cells depth : ℕ) (q : Queue) : Type 0 where
  pub few : q.count ≤ depth
  pub exists : (k : ℕ) → k < q.count → (get_or q.entries k no_pending).cell < cells

module _ {cells : ℕ} (some : 0 < cells) where
  moved : (xs : List Pending) (n : ℕ) → ((i : ℕ) → i < n → (get_or xs i no_pending).cell < cells) → (i : ℕ) → i < n → (get_or (take n xs ++ (no_pending ∷ drop n xs)) i no_pending).cell < cells
  moved xs zero h i l = absurd (omega arith)
  moved [] (suc n) h zero l = some
  moved [] (suc n) h (suc i) l = some
  moved (x ∷ xs) (suc n) h zero l = h 0 l
  moved (x ∷ xs) (suc n) h (suc i) l = moved xs n (λ j k. h (suc j) (omega arith)) i (omega arith)

  none_there : (m i : ℕ) → (get_or (no_pending ∷ drop m []) i no_pending).cell < cells
  none_there m zero = some
  none_there zero (suc i) = some
  none_there (suc m) (suc i) = some

  shifted_there : (es : List Pending) (n : ℕ) → ((i : ℕ) → i < n + 1 → (get_or es i no_pending).cell < cells) → (i : ℕ) → i < n → (get_or (shifted es n) i no_pending).cell < cells
  unfolding shifted
  shifted_there [] zero h i l = absurd (omega arith)
  shifted_there [] (suc n) h i l = none_there (suc n + 1) i
  shifted_there (x ∷ xs) n h i l = rw add-one (moved xs n (λ j k. h (suc j) (omega arith)) i l)

  module _ {depth : ℕ} {q : Queue} (r : RowIn cells depth q) where
    pub row_popped : 0 < q.count → RowIn cells depth (popped_of q)
    row_popped h = let f = r.few in record { few = omega arith; exists = shifted_there q.entries (q.count - 1) (λ i l. r.exists i (omega arith)) }

    pub row_after : (b : Bool) (e : Pending) → (b ≡ true → q.count < depth) → (b ≡ true → e.cell < cells) → RowIn cells depth (after_of q b e)
    row_after false e h l = r
    row_after true e h l =
        let f = h refl in
        record { few = omega arith; exists = all_set_new no_pending (λ (n : ℕ) (a : Pending). n < q.count + 1 → a.cell < cells) q.entries q.count e (λ i k. some) (λ i ne k. r.exists i (omega arith)) (λ k. l refl) }

module _ {s : State} (g : InRange s) {t : ℕ} (h : t < s.threads) where
  some_cells_lem : 0 < s.cells
  some_cells_lem = let k = g.some_cells in omega arith

  rows : (u : ℕ) → u < s.threads → RowIn s.cells s.depth (queue_of s u)
  rows u l = let q = g.queue u l in record { few = q.few; exists = q.exists }

  -- the rows of a state of the same sizes with row t set
  row_set : (q : Queue) → RowIn s.cells s.depth q → (u : ℕ) → u < s.threads → RowIn s.cells s.depth (get_or (set s.queues t q) u outside_queue)
  row_set q r = all_set outside_queue (λ (u : ℕ) (x : Queue). u < s.threads → RowIn s.cells s.depth x) s.queues t q rows (λ k. r)

  pub in_drained : 0 < (queue_of s t).count → InRange (drained_of s t)
  unfolding drained_of
  in_drained l =
      let r = row_set (popped_of (queue_of s t)) (row_popped some_cells_lem (rows t h) l) in
      record {
        some_threads = g.some_threads;
        threads = g.threads;
        some_cells = g.some_cells;
        cells = g.cells;
        some_depth = g.some_depth;
        depth = g.depth;
        cell = λ c k. let x = g.cell c k in record { owner = x.owner; sharing = x.sharing; unowned = x.unowned };
        program = λ u k. let x = g.program u k in record { few = x.few; right = x.right };
        queue = λ u k. let x = r u k in record { few = x.few; exists = x.exists };
        position = g.position;
      }

  module _ (i : Instruction) (e : Effect) (goes : e.next ≤ count_of s t) (room : pushes e ≡ true → (queue_of s t).count < s.depth) (there : pushes e ≡ true → i.cell < s.cells) where
    pub in_took : InRange (took_of s t i e)
    unfolding took_of
    in_took =
        let r = row_set (after_of (queue_of s t) (pushes e) (record { value = pushed_value e; cell = i.cell })) (row_after some_cells_lem (rows t h) (pushes e) (record { value = pushed_value e; cell = i.cell }) room there) in
        record {
          some_threads = g.some_threads;
          threads = g.threads;
          some_cells = g.some_cells;
          cells = g.cells;
          some_depth = g.some_depth;
          depth = g.depth;
          cell = λ c k. let x = g.cell c k in record { owner = x.owner; sharing = x.sharing; unowned = x.unowned };
          program = λ u k. let x = g.program u k in record { few = x.few; right = x.right };
          queue = λ u k. let x = r u k in record { few = x.few; exists = x.exists };
          position = all_set 0 (λ (u : ℕ) (p : ℕ). u < s.threads → p ≤ count_of s u) s.positions t e.next g.position (λ k. goes);
        }
