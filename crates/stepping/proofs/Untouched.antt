-- Places beyond the counts are not changed: whatever a call answers, it leaves them as they were.
use Prim.Native.Nat.{ℕ, zero, suc, ◌+◌, ◌-◌, ◌≤◌, ◌<◌}
use mathlib.Core.Bool.{Bool, true, false}
use mathlib.Core.Path.{◌≡◌, refl}
use mathlib.Core.List.{List, [], ◌∷◌, ◌++◌}
use native.Mathlib.Omega.{arith}
use native.Mathlib.Numerals.{add-one}
use lib.Dec.{eqb}
use lib.ListN.{length, take, drop, get_or, set}
use lib.Seq.{get_or-set_other}
use lib.IntN.{pos}
use borrow.Author.Tests.{eqb-true, eqb-false}
use Rattle.reader.specs.declared.state.Pending.{Pending}
use Rattle.reader.specs.declared.state.Queue.{Queue}
use Rattle.reader.specs.declared.state.Instruction.{Instruction}
use Rattle.reader.specs.declared.state.State.{State}
use Rattle.reader.specs.Limits.{REGISTERS}
use Rattle.reader.specs.State.{no_pending, outside_queue, queue_of, register_place}
use Rattle.reader.specs.Queue.{shifted, popped_of}
use Rattle.reader.specs.Drain.{oldest_of, drained_of}
use Rattle.reader.specs.Rules.{item_fits}
use Rattle.reader.specs.Range.{Shaped}
use Rattle.machine.specs.declared.effect.Effect.{Effect}
use Rattle.machine.specs.Action.{current_of}
use Rattle.machine.specs.Buffer.{after_of}
use Rattle.machine.specs.Effect.{cell_of, took_of, pushes}
use Rattle.machine.specs.Step.{next_effect}
use Rattle.machine.proofs.Kept.{all_set}
use Rattle.machine.proofs.Take.{by_kind, current_in, current_cell, row_below, row_few}
use Rattle.discipline.specs.declared.table.Held.{Held}
use Rattle.discipline.specs.Table.{holding_of}
use Rattle.discipline.specs.Run.{Runnable}
use Rattle.discipline.specs.Step.{next_marks, checked_of}
use Rattle.discipline.proofs.One.{stays_checked}
use Rattle.stepping.specs.declared.step.After.{After}
use Rattle.stepping.specs.Step.{stepped_of}
use Rattle.stepping.specs.Beyond.{entry_of, Untouched}
use Rattle.stepping.proofs.Exact.{range_in}
use Rattle.stepping.proofs.Cases.{stepped_cases}
use Rattle.discipline.proofs.Outcomes.{pending_there, drain_taken, instruction_taken}
use Rattle.discipline.proofs.Keeps.{taken_goes}

same : (s : State) → Untouched s s
same s = record {
  threads = refl;
  cells = refl;
  depth = refl;
  counts = refl;
  code = refl;
  position = λ t h. refl;
  queue = λ t h. refl;
  entry = λ k t h l. refl;
  flag = λ t h. refl;
  register = λ r h. refl;
  word = λ c h. refl;
  owner = λ c h. refl;
  sharing = λ c h. refl;
}

-- a row without its oldest entry, behind the vacated place
moved_beyond : (xs : List Pending) (n k : ℕ) → n ≤ length xs → n ≤ k → get_or (take n xs ++ (no_pending ∷ drop n xs)) (suc k) no_pending ≡ get_or xs k no_pending
moved_beyond xs zero k h l = refl
moved_beyond [] (suc n) k h l = absurd (omega arith)
moved_beyond (x ∷ xs) (suc n) zero h l = absurd (omega arith)
moved_beyond (x ∷ xs) (suc n) (suc k) h l = moved_beyond xs n k (omega arith) (omega arith)

popped_beyond : (es : List Pending) (n k : ℕ) → n < length es → n < k → get_or (shifted es n) k no_pending ≡ get_or es k no_pending
unfolding shifted
popped_beyond [] n k h l = absurd (omega arith)
popped_beyond (x ∷ xs) n zero h l = absurd (omega arith)
popped_beyond (x ∷ xs) n (suc k) h l = rw add-one (moved_beyond xs n k (omega arith) (omega arith))

-- a row after an instruction, behind what it may have pushed
after_beyond : (q : Queue) (b : Bool) (e : Pending) (k : ℕ) → q.count ≤ k → (after_of q b e).count ≤ k → get_or (after_of q b e).entries k no_pending ≡ get_or q.entries k no_pending
after_beyond q false e k h l = refl
after_beyond q true e k h l = get_or-set_other q.entries q.count k e no_pending (λ z. omega arith)

-- the entries of all rows, where one row is set
rows_beyond : (s : State) (t : ℕ) (q : Queue) (k : ℕ) → ((queue_of s t).count ≤ k → q.count ≤ k → get_or q.entries k no_pending ≡ entry_of s t k) → (u : ℕ) → (queue_of s u).count ≤ k → (get_or (set s.queues t q) u outside_queue).count ≤ k → get_or (get_or (set s.queues t q) u outside_queue).entries k no_pending ≡ entry_of s u k
rows_beyond s t q k h = all_set outside_queue (λ (u : ℕ) (x : Queue). (queue_of s u).count ≤ k → x.count ≤ k → get_or x.entries k no_pending ≡ entry_of s u k) s.queues t q (λ u a b. refl) h

module _ {s : State} (g : Runnable s) {t : ℕ} (h : t < s.threads) where
  drained_untouched : ((queue_of s t).count ≡ 0 → ⊥) → Untouched s (drained_of s t)
  unfolding drained_of
  drained_untouched n =
      let c = (g.in_range.queue t h).exists 0 (omega arith) in
      let few = row_few g.in_range h in
      let long = g.shaped.entries t (row_below g.in_range h) in
      record {
        threads = refl;
        cells = refl;
        depth = refl;
        counts = refl;
        code = refl;
        position = λ u l. refl;
        queue = λ u l. get_or-set_other s.queues t u (popped_of (queue_of s t)) outside_queue (λ z. omega arith);
        entry = λ k. rows_beyond s t (popped_of (queue_of s t)) k (λ a b. popped_beyond (queue_of s t).entries ((queue_of s t).count - 1) k (omega arith) (omega arith));
        flag = λ u l. refl;
        register = λ r l. refl;
        word = λ d l. get_or-set_other s.memory (oldest_of s t).cell d (oldest_of s t).value (pos 0) (λ z. omega arith);
        owner = λ d l. refl;
        sharing = λ d l. refl;
      }

  took_untouched : (i : Instruction) (e : Effect) (m : Held) → cell_of i < s.cells → i.register < REGISTERS → Untouched s (holding_of (took_of s t i e) t i m)
  unfolding holding_of took_of
  took_untouched i e m c r = record {
    threads = refl;
    cells = refl;
    depth = refl;
    counts = refl;
    code = refl;
    position = λ u l. get_or-set_other s.positions t u e.next 0 (λ z. omega arith);
    queue = λ u l. get_or-set_other s.queues t u _ outside_queue (λ z. omega arith);
    entry = λ k. rows_beyond s t _ k (after_beyond (queue_of s t) (pushes e) _ k);
    flag = λ u l. get_or-set_other s.dirty t u m.dirty 0 (λ z. omega arith);
    register = λ p l. get_or-set_other s.registers (register_place t i.register) p e.content (pos 0) (λ z. omega arith);
    word = λ d l. get_or-set_other s.memory (cell_of i) d e.word (pos 0) (λ z. omega arith);
    owner = λ d l. get_or-set_other s.owners (cell_of i) d m.owner 0 (λ z. omega arith);
    sharing = λ d l. get_or-set_other s.sharing (cell_of i) d m.sharing 0 (λ z. omega arith);
  }

module _ {s : State} (g : Runnable s) where
  drain_untouched : {t : ℕ} → t < s.threads → (checked_of s (17 + t)).number ≡ 0 → Untouched s (checked_of s (17 + t)).state
  drain_untouched {t} h z = rw (drain_taken s t z) (drained_untouched g h (pending_there s t z))

  take_untouched : {t : ℕ} → t < s.threads → (checked_of s (1 + t)).number ≡ 0 → Untouched s (checked_of s (1 + t)).state
  take_untouched {t} h z =
      let n = g.in_range.threads in
      let b : t < 16 = omega arith in
      let l = taken_goes s t b z in
      rw (instruction_taken s t b z)
      (took_untouched g h (current_of s t) (next_effect s t) (next_marks s t) (current_cell g.in_range h l) (current_in g.in_range h l).register)

  taken_untouched : (x : ℕ) → item_fits s.threads x ≡ true → (checked_of s x).number ≡ 0 → Untouched s (checked_of s x).state
  taken_untouched = by_kind s.threads g.in_range.threads (λ x. (checked_of s x).number ≡ 0 → Untouched s (checked_of s x).state) (λ t h z. drain_untouched h z) (λ t h z. take_untouched h z)

  checked_untouched : (x : ℕ) → item_fits s.threads x ≡ true → Untouched s (checked_of s x).state
  checked_untouched x f = go (eqb (checked_of s x).number 0) refl
    where
      go : (b : Bool) → eqb (checked_of s x).number 0 ≡ b → Untouched s (checked_of s x).state
      go true e = taken_untouched x f (eqb-true _ _ e)
      go false e = rw ((stays_checked s x).stays (eqb-false _ _ e)) (same s)

-- of every state that has the shape of its type, in range or not, and every byte
pub untouched : (s : State) → Shaped s → (x : ℕ) → Untouched s (stepped_of s x).state
untouched s p x =
    stepped_cases s x (λ (r : After). Untouched s r.state)
    (λ e. same s)
    (λ e f. same s)
    (λ e f. checked_untouched (record { in_range = range_in s e; shaped = p }) x f)
