-- What a step of the definitions does to the view of a state: to one thread, to memory, to the table.
use Prim.Native.Nat.{ℕ, ◌<◌, ◌≤◌}
use mathlib.Core.Bool.{Bool, true, false, not}
use mathlib.Core.Logic.{◌≢◌}
use mathlib.Core.Path.{◌≡◌, refl, sym, ◌∙◌, ap, fun_ext}
use mathlib.Core.List.{List, []}
use native.Mathlib.Omega.{arith}
use lib.ListN.{drop}
use lib.Seq.{get_or-set_other}
use lib.Dec.{eqb, ltb}
use lib.IntN.{ℤ, pos}
use borrow.Author.Tests.{lt-ltb, ltb-true}
use Rattle.reader.specs.declared.state.Pending.{Pending}
use Rattle.reader.specs.declared.state.Queue.{Queue}
use Rattle.reader.specs.declared.state.Instruction.{Instruction}
use Rattle.reader.specs.declared.state.State.{State}
use Rattle.reader.specs.Limits.{THREADS, CELLS, REGISTERS, DEPTH}
use Rattle.reader.specs.State.{queue_of, dirty_of, register_of, register_place, owner_of, sharing_of}
use Rattle.reader.specs.Queue.{pending}
use Rattle.reader.specs.Drain.{oldest_of, drained_of}
use Rattle.reader.specs.Rules.{pick}
use Rattle.reader.specs.Range.{Shaped}
use Rattle.machine.specs.declared.effect.Effect.{Effect}
use Rattle.machine.specs.Action.{LOCAL}
use Rattle.machine.specs.Buffer.{after_of}
use Rattle.machine.specs.Effect.{cell_of, took_of, pushes, pushed_value}
use Rattle.machine.proofs.Frame.{took_queue_other, took_position_other, took_register_other, drained_queue_other, drained_pending, took_queue, took_position, took_register}
use Rattle.discipline.specs.declared.table.Held.{Held}
use Rattle.discipline.specs.Table.{holding_of}
use Rattle.machine.proofs.Shape.{shaped_took}
use Rattle.discipline.proofs.Holding.{owner_same, owner_other, sharing_same, sharing_other, flag_same, flag_other}
use Rattle.discipline.proofs.Maps.{upd, upd_same, upd_other, at_or, set_upd}
use Rattle.discipline.proofs.Abstract.{Thread, Table, Machine, thread, enter, with_thread}
use Rattle.discipline.proofs.View.{Log, Local, local_of, registers_of, memory_map, table_map, thread_of, view}

-- equal parts make equal wholes
local_same : {row at at' : ℕ} {f f' : ℕ → ℤ} {g : Log} → at ≡ at' → f ≡ f' → ◌≡◌ {A = Local} (record { row = row; at = at; registers = f; log = g }) (record { row = row; at = at'; registers = f'; log = g })
local_same {row} {at' = at'} {f = f} {g = g} p q = ap (λ (x : ℕ). record { row = row; at = x; registers = f; log = g }) p ∙ ap (λ (x : ℕ → ℤ). record { row = row; at = at'; registers = x; log = g }) q

pub thread_same : {l l' : Local} {q q' : List Pending} {d d' : Bool} → l ≡ l' → q ≡ q' → d ≡ d' → thread l q d ≡ thread l' q' d'
thread_same {l' = l'} {q = q} {q' = q'} {d = d} a b c = ap (λ x. thread x q d) a ∙ ap (λ x. thread l' x d) b ∙ ap (λ x. thread l' q' x) c

pub machine_same : {m m' : ℕ → ℤ} {T T' : Table} {f f' : ℕ → Thread Local} → m ≡ m' → T ≡ T' → f ≡ f' → ◌≡◌ {A = Machine Local} (record { mem = m; table = T; threads = f }) (record { mem = m'; table = T'; threads = f' })
machine_same {m' = m'} {T = T} {T' = T'} {f = f} a b c = ap (λ x. record { mem = x; table = T; threads = f }) a ∙ ap (λ x. record { mem = m'; table = x; threads = f }) b ∙ ap (λ x. record { mem = m'; table = T'; threads = x }) c

-- an instruction i of row t with an effect e
module _ {s : State} (g : Shaped s) {t : ℕ} (h : t < THREADS) (i : Instruction) (e : Effect) where
  pub memory_took : cell_of i < CELLS → memory_map (took_of s t i e) ≡ upd (memory_map s) (cell_of i) e.word
  unfolding took_of
  memory_took l = set_upd s.memory (cell_of i) e.word (pos 0) (omega (arith, g.memory))

  -- the other registers of the row
  kept : (k : ℕ) → k ≢ i.register → register_of (took_of s t i e) t k ≡ register_of s t k
  unfolding took_of
  kept k n = get_or-set_other s.registers (register_place t i.register) (register_place t k) e.content (pos 0) (λ q. n (omega arith))

  module _ (r : i.register < REGISTERS) where
    registers_took : registers_of (took_of s t i e) t ≡ upd (registers_of s t) i.register e.content
    registers_took = fun_ext (at_or {P = λ k. registers_of (took_of s t i e) t k ≡ upd (registers_of s t) i.register e.content k} i.register same other)
      where
        same : registers_of (took_of s t i e) t i.register ≡ upd (registers_of s t) i.register e.content i.register
        same = rw (lt-ltb i.register REGISTERS r) (took_register g h i e r ∙ sym (upd_same (registers_of s t) i.register e.content))

        by : (k : ℕ) (b : Bool) → ltb k REGISTERS ≡ b → k ≢ i.register → pick b (register_of (took_of s t i e) t k) (pos 0) ≡ pick b (register_of s t k) (pos 0)
        by k true q n = kept k n
        by k false q n = refl

        other : (k : ℕ) → k ≢ i.register → registers_of (took_of s t i e) t k ≡ upd (registers_of s t) i.register e.content k
        other k n = by k (ltb k REGISTERS) refl n ∙ sym (upd_other (registers_of s t) i.register e.content k n)

    pub local_took : (x : Log) → local_of (took_of s t i e) t x ≡ record { row = t; at = e.next; registers = upd (registers_of s t) i.register e.content; log = x }
    local_took x = local_same (took_position g h i e) registers_took

    pub local_other : (u : ℕ) → u ≢ t → (x : Log) → local_of (took_of s t i e) u x ≡ local_of s u x
    local_other u n x = local_same (took_position_other s t u n i e) (fun_ext (λ k. by k (ltb k REGISTERS) refl))
      where
        by : (k : ℕ) (b : Bool) → ltb k REGISTERS ≡ b → pick b (register_of (took_of s t i e) u k) (pos 0) ≡ pick b (register_of s u k) (pos 0)
        by k true q = took_register_other s t u n i e k (ltb-true _ _ q) r
        by k false q = refl

    -- and what is then held of its cell and its flag
    module _ (x : Held) (there : t < s.threads) (logs : ℕ → Log) (log : Log) where
      abbrev after : State
      after = holding_of (took_of s t i e) t i x

      abbrev now : Thread Local
      now = thread (record { row = t; at = e.next; registers = upd (registers_of s t) i.register e.content; log = log }) (pending (after_of (queue_of s t) (pushes e) (record { value = pushed_value e; cell = i.cell }))) (not (eqb x.dirty 0))

      flag_now : dirty_of after t ≡ x.dirty
      flag_now = flag_same (took_of s t i e) t i x (shaped_took g h i e) h

      own_queue : pick (ltb t after.threads) (pending (queue_of after t)) [] ≡ pending (after_of (queue_of s t) (pushes e) (record { value = pushed_value e; cell = i.cell }))
      unfolding holding_of took_of
      own_queue = rw (lt-ltb t s.threads there) (ap pending (took_queue g h i e))

      own_local : local_of after t (upd logs t log t) ≡ record { row = t; at = e.next; registers = upd (registers_of s t) i.register e.content; log = log }
      unfolding holding_of
      own_local = ap (λ (y : Log). local_of (took_of s t i e) t y) (upd_same logs t log) ∙ local_took log

      own_thread : thread_of after (upd logs t log) t ≡ now
      own_thread = thread_same own_local own_queue (ap (λ (n : ℕ). not (eqb n 0)) flag_now)

      module _ (u : ℕ) (n : u ≢ t) where
        other_queue : pick (ltb u after.threads) (pending (queue_of after u)) [] ≡ pick (ltb u s.threads) (pending (queue_of s u)) []
        unfolding holding_of took_of
        other_queue = ap (λ (q : Queue). pick (ltb u s.threads) (pending q) []) (took_queue_other s t u n i e)

        other_local : local_of after u (upd logs t log u) ≡ local_of s u (logs u)
        unfolding holding_of
        other_local = ap (λ (y : Log). local_of (took_of s t i e) u y) (upd_other logs t log u n) ∙ local_other u n (logs u)

        other_flag : dirty_of after u ≡ dirty_of s u
        unfolding took_of
        other_flag = flag_other (took_of s t i e) t i x u n

        other_thread : thread_of after (upd logs t log) u ≡ thread_of s logs u
        other_thread = thread_same other_local other_queue (ap (λ (k : ℕ). not (eqb k 0)) other_flag)

      threads_now : thread_of after (upd logs t log) ≡ upd (thread_of s logs) t now
      threads_now = fun_ext (at_or {P = λ u. thread_of after (upd logs t log) u ≡ upd (thread_of s logs) t now u} t
          (own_thread ∙ sym (upd_same (thread_of s logs) t now))
          (λ u n. other_thread u n ∙ sym (upd_other (thread_of s logs) t now u n)))

      module _ (l : cell_of i < CELLS) where
        owners_now : ◌≡◌ {A = ℕ → ℕ} (λ c. owner_of after c) (upd (λ c. owner_of s c) (cell_of i) x.owner)
        unfolding took_of
        owners_now = fun_ext (at_or {P = λ c. owner_of after c ≡ upd (λ k. owner_of s k) (cell_of i) x.owner c} (cell_of i)
            (owner_same (took_of s t i e) t i x (shaped_took g h i e) l ∙ sym (upd_same (λ k. owner_of s k) (cell_of i) x.owner))
            (λ c n. owner_other (took_of s t i e) t i x c n ∙ sym (upd_other (λ k. owner_of s k) (cell_of i) x.owner c n)))

        marks_now : ◌≡◌ {A = ℕ → Bool} (λ c. eqb (sharing_of after c) LOCAL) (upd (λ c. eqb (sharing_of s c) LOCAL) (cell_of i) (eqb x.sharing LOCAL))
        unfolding took_of
        marks_now = fun_ext (at_or {P = λ c. eqb (sharing_of after c) LOCAL ≡ upd (λ k. eqb (sharing_of s k) LOCAL) (cell_of i) (eqb x.sharing LOCAL) c} (cell_of i)
            (ap (λ (m : ℕ). eqb m LOCAL) (sharing_same (took_of s t i e) t i x (shaped_took g h i e) l) ∙ sym (upd_same (λ k. eqb (sharing_of s k) LOCAL) (cell_of i) (eqb x.sharing LOCAL)))
            (λ c n. ap (λ (m : ℕ). eqb m LOCAL) (sharing_other (took_of s t i e) t i x c n) ∙ sym (upd_other (λ k. eqb (sharing_of s k) LOCAL) (cell_of i) (eqb x.sharing LOCAL) c n)))

        table_now : table_map after ≡ enter (table_map s) (cell_of i) x.owner (eqb x.sharing LOCAL)
        table_now = ap (λ (f : ℕ → ℕ). record { owner = f; mark = λ c. eqb (sharing_of after c) LOCAL }) owners_now ∙ ap (λ (f : ℕ → Bool). record { owner = upd (λ c. owner_of s c) (cell_of i) x.owner; mark = f }) marks_now

        memory_now : memory_map after ≡ upd (memory_map s) (cell_of i) e.word
        unfolding holding_of
        memory_now = memory_took l

        pub view_took : view after (upd logs t log) ≡ with_thread (view s logs) t now.loc now.queue now.dirty (enter (table_map s) (cell_of i) x.owner (eqb x.sharing LOCAL)) (upd (memory_map s) (cell_of i) e.word)
        view_took = machine_same memory_now table_now threads_now

-- the oldest pending store of row t drains
module _ {s : State} (g : Shaped s) {t : ℕ} (h : t < THREADS) (there : t < s.threads) (some : 0 < (queue_of s t).count) (few : (queue_of s t).count ≤ DEPTH) (l : (oldest_of s t).cell < CELLS) (logs : ℕ → Log) where
  abbrev left : Thread Local
  left = thread (local_of s t (logs t)) (drop 1 (pending (queue_of s t))) (not (eqb (dirty_of s t) 0))

  drained_own : thread_of (drained_of s t) logs t ≡ left
  unfolding drained_of
  drained_own = thread_same refl (rw (lt-ltb t s.threads there) (drained_pending g h some few)) refl

  drained_other : (u : ℕ) → u ≢ t → thread_of (drained_of s t) logs u ≡ thread_of s logs u
  unfolding drained_of
  drained_other u n = thread_same refl (ap (λ (q : Queue). pick (ltb u s.threads) (pending q) []) (drained_queue_other s t u n)) refl

  drained_map : memory_map (drained_of s t) ≡ upd (memory_map s) (oldest_of s t).cell (oldest_of s t).value
  unfolding drained_of
  drained_map = set_upd s.memory (oldest_of s t).cell (oldest_of s t).value (pos 0) (omega (arith, g.memory))

  drained_table : table_map (drained_of s t) ≡ table_map s
  unfolding drained_of
  drained_table = refl

  pub view_drained : view (drained_of s t) logs ≡ with_thread (view s logs) t left.loc left.queue left.dirty (table_map s) (upd (memory_map s) (oldest_of s t).cell (oldest_of s t).value)
  view_drained = machine_same drained_map drained_table (fun_ext (at_or {P = λ u. thread_of (drained_of s t) logs u ≡ upd (thread_of s logs) t left u} t
      (drained_own ∙ sym (upd_same (thread_of s logs) t left))
      (λ u n. drained_other u n ∙ sym (upd_other (thread_of s logs) t left u n))))
