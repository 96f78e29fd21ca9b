-- The machine with buffers under the discipline, as the definitions have it, takes what the machine of Abstract takes. The rules come in here, as the
-- reasons that do not stand against an item that is taken.
use Prim.Native.Nat.{ℕ, suc, ◌+◌, ◌<◌, ◌≤◌}
use mathlib.Core.Bool.{Bool, true, false, not}
use mathlib.Core.Logic.{◌≢◌}
use mathlib.Core.Path.{◌≡◌, refl, sym, ◌∙◌, ap, subst}
use mathlib.Core.List.{List, [], ◌∷◌, ◌++◌}
use native.Mathlib.Omega.{arith}
use native.Mathlib.Numerals.{add-one}
use lib.ListN.{length, drop}
use lib.Dec.{eqb, ltb}
use lib.IntN.{ℤ, pos}
use borrow.Author.Tests.{lt-ltb, ltb-true}
use Rattle.reader.specs.declared.state.Pending.{Pending}
use Rattle.reader.specs.declared.state.Queue.{Queue}
use Rattle.reader.specs.declared.state.Instruction.{Instruction}
use Rattle.reader.specs.declared.state.State.{State}
use Rattle.reader.specs.Limits.{REGISTERS}
use Rattle.reader.specs.State.{queue_of, position_of, count_of, register_of, memory_of, owner_of, sharing_of}
use Rattle.reader.specs.Queue.{pending, pushed_of}
use Rattle.reader.specs.Drain.{oldest_of}
use Rattle.reader.specs.Rules.{pick, BRANCH}
use Rattle.reader.specs.Range.{InRange}
use Rattle.reader.proofs.Row.{pending_pushed}
use Rattle.machine.specs.declared.effect.Effect.{Effect}
use Rattle.machine.specs.Integer.{eq_z}
use Rattle.machine.specs.Buffer.{forwarded, after_of}
use Rattle.machine.specs.declared.action.Action.{Action}
use Rattle.machine.specs.declared.action.Action.TheVariants.{Read, Store, Fence, Swap, Acquire, Release, Silent, End}
use Rattle.machine.specs.Action.{LOCAL, mark_of, action_of, current_of, next_of}
use Rattle.machine.specs.Effect.{cell_of, seen_of, blocked_of, effect_of, took_of, pushes, pushed_value}
use Rattle.machine.specs.Run.{taken_of}
use Rattle.machine.specs.Step.{next_effect}
use Rattle.machine.proofs.Ten.{ten}
use Rattle.machine.proofs.Take.{row_below, row_few, row_drainable, current_in, current_cell}
use Rattle.machine.proofs.InRange.{next_goes}
use Rattle.discipline.specs.declared.table.Held.{Held}
use Rattle.discipline.specs.Table.{held_of, is_dirty, holding_of}
use Rattle.discipline.specs.Marks.{stored_of, marks_of}
use Rattle.discipline.specs.Run.{Runnable}
use Rattle.discipline.specs.Step.{next_held, next_elsewhere, next_marks, checked_of}
use Rattle.discipline.specs.Rules.{broken_of}
use Rattle.discipline.specs.Order.{stored, plan_by}
use Rattle.discipline.proofs.Outcomes.{pending_there, neither, drain_taken, instruction_taken}
use Rattle.discipline.proofs.Free.{waits_free, room_free, Loadable, of_own, of_shared, load_free, store_free, acquire_free, release_free, flag_stored}
use Rattle.discipline.proofs.Maps.{upd, upd_id}
use Rattle.discipline.proofs.Abstract.{Table, Machine, enter, with_thread, drained, pends, dirtied, plan, Readable, own, shared, Takes, t_silent, t_load, t_store, t_fence, t_swap, t_acquire, t_release, Drains, t_drain}
use Rattle.discipline.proofs.View.{Log, Local, noted, went, acted, program, registers_of, local_of, memory_map, table_map, view}
use Rattle.discipline.proofs.Viewed.{view_took, view_drained}
use Rattle.discipline.proofs.Buffers.{oldest_first, forwarded_drained, nowhere_else}

-- the cell that an action names is its instruction's: c as the machine looks it up, b as the instruction holds it
abbrev pub About : Action → ℕ → ℕ → Type 0
About (Read n) c b = n ≡ c
About (Store n x) c b = (n ≡ c) × (n ≡ b)
About Fence c b = Unit {0}
About (Swap n old x) c b = n ≡ c
About (Acquire n mark) c b = (n ≡ c) × (n ≡ b)
About (Release n) c b = n ≡ c
About (Silent n x) c b = Unit {0}
About End c b = Unit {0}

pub about : {s : State} (g : InRange s) {t : ℕ} (h : t < s.threads) (l : position_of s t < count_of s t) → About (next_of s t) (cell_of (current_of s t)) (current_of s t).cell
unfolding action_of
about {s} g {t} h l =
    let i = current_of s t in
    let k = current_in g h l in
    rw (next_goes s t l)
    (ten (λ (n : ℕ) (a : Action). About a (pick (eqb n BRANCH) 0 i.cell) i.cell) _ _ _ _ _ _ _ _ _ _
    refl (refl, refl) (refl, refl) tt refl (refl, refl) (refl, refl) refl tt tt
    i.operation k.known k.last)

with_same : (W : Machine Local) (t : ℕ) {l l' : Local} {q q' : List Pending} {d d' : Bool} {T T' : Table} {m m' : ℕ → ℤ} →
    l ≡ l' → q ≡ q' → d ≡ d' → T ≡ T' → m ≡ m' → with_thread W t l q d T m ≡ with_thread W t l' q' d' T' m'
with_same W t {l' = l'} {q = q} {q' = q'} {d = d} {d' = d'} {T = T} {T' = T'} {m = m} a b c e f =
    ap (λ x. with_thread W t x q d T m) a ∙ ap (λ x. with_thread W t l' x d T m) b ∙ ap (λ x. with_thread W t l' q' x T m) c
    ∙ ap (λ x. with_thread W t l' q' d' x m) e ∙ ap (λ x. with_thread W t l' q' d' T' x) f

-- the next instruction of row t, where its program goes on
module _ {s : State} (g : Runnable s) {t : ℕ} (h : t < s.threads) (l : position_of s t < count_of s t) where
  abbrev i : Instruction
  i = current_of s t

  abbrev c : ℕ
  c = cell_of i

  abbrev r : ℕ
  r = i.register

  register_there : registers_of s t r ≡ register_of s t r
  register_there = let k = current_in g.in_range h l in rw (lt-ltb r REGISTERS k.register)

  pub program_next : (x : Log) → program s.code s.counts (local_of s t x) ≡ acted (local_of s t x) r (next_of s t)
  unfolding program next_of
  program_next x = rw (lt-ltb (position_of s t) (count_of s t) l, register_there) refl

  module _ (logs : ℕ → Log) where
    abbrev W : Machine Local
    W = view s logs

    abbrev lo : Local
    lo = local_of s t (logs t)

    abbrev q : Queue
    q = queue_of s t

    queue_there : (W.threads t).queue ≡ pending q
    queue_there = rw (lt-ltb t s.threads h)

    -- what an action leaves as it was
    pub same_memory : upd (memory_map s) c (memory_of s c) ≡ memory_map s
    same_memory = upd_id (memory_map s) c refl

    same_table : enter (table_map s) c (owner_of s c) (eqb (sharing_of s c) LOCAL) ≡ table_map s
    same_table =
        ap (λ (f : ℕ → ℕ). record { owner = f; mark = upd (table_map s).mark c (eqb (sharing_of s c) LOCAL) }) (upd_id (table_map s).owner c refl)
        ∙ ap (λ (f : ℕ → Bool). record { owner = (table_map s).owner; mark = f }) (upd_id (table_map s).mark c refl)

    -- a store leaves owner and mark
    stored_table : enter (table_map s) c (stored_of (next_held s t) t).owner (eqb (stored_of (next_held s t) t).sharing LOCAL) ≡ table_map s
    unfolding stored_of held_of
    stored_table = same_table

    abbrev eff : Action → Effect
    eff a = effect_of (seen_of s t i) q a

    abbrev mk : Action → Held
    mk a = marks_of (next_held s t) t a

    abbrev result : Action → Machine Local
    result a =
        with_thread W t (record { row = t; at = (eff a).next; registers = upd (registers_of s t) r (eff a).content; log = noted (logs t) (position_of s t) a (eff a).value })
        (pending (after_of q (pushes (eff a)) (record { value = pushed_value (eff a); cell = i.cell }))) (not (eqb (mk a).dirty 0))
        (enter (table_map s) c (mk a).owner (eqb (mk a).sharing LOCAL)) (upd (memory_map s) c (eff a).word)

    -- a thread that only moves on, by an action a
    pub moved_on : (a : Action) (n : ℕ) → went lo a n r (registers_of s t r) (pos 0) ≡ went lo a n r (register_of s t r) (pos 0)
    moved_on a n = ap (λ (x : ℤ). went lo a n r x (pos 0)) register_there

    readable : (n : ℕ) → n ≡ c → Loadable t (next_held s t) → Readable W t n
    unfolding held_of
    readable n e (of_own o) = rw e (own o)
    readable n e (of_shared p d) = rw e (shared p d)

    few_entries : q.count ≤ length q.entries
    few_entries =
        let f = row_few g.in_range h in
        let n = g.shaped.entries t (row_below g.in_range h) in
        omega arith

    -- what a LOAD sees
    seen_by : (n : ℕ) → n ≡ c → drained (W.threads t).queue (memory_map s) n ≡ forwarded q n (memory_of s c)
    seen_by n e = ap (λ (y : List Pending). drained y (memory_map s) n) queue_there ∙ forwarded_drained q (memory_map s) n few_entries ∙ ap (λ (k : ℕ). forwarded q n (memory_of s k)) e

    pushed_on : {n : ℕ} (x : ℤ) → n ≡ i.cell → q.count < s.depth → (W.threads t).queue ++ record { value = x; cell = n } ∷ [] ≡ pending (pushed_of q (record { value = x; cell = i.cell }))
    pushed_on {n} x e f =
        let d = g.in_range.depth in
        let m = g.shaped.entries t (row_below g.in_range h) in
        rw (queue_there, e) (sym (pending_pushed q (record { value = x; cell = i.cell }) (omega arith)))

    flag_set : (n : ℕ) → n ≡ c → dirtied W t n (W.threads t).dirty ≡ is_dirty (stored_of (next_held s t) t)
    unfolding held_of
    flag_set n e = sym (flag_stored t (next_held s t) ∙ rw (e, add-one) refl)

    nowhere : (n : ℕ) → n ≡ i.cell → next_elsewhere s t ≡ false → (j : ℕ) → j ≢ t → pends (W.threads j).queue n ≡ false
    nowhere n e k j ne = go (ltb j s.threads) refl
      where
        go : (b : Bool) → ltb j s.threads ≡ b → pends (pick b (pending (queue_of s j)) []) n ≡ false
        go true z =
            let u = ltb-true j s.threads z in
            let f = row_few g.in_range u in
            let m = g.shaped.entries j (row_below g.in_range u) in
            nowhere_else s.queues t n s.threads (rw e k) j u ne (omega arith)
        go false z = refl

    takes : (a : Action) → About a c i.cell → blocked_of s.depth q a ≡ 0 → broken_of t (next_held s t) q (next_elsewhere s t) a ≡ 0 → Takes W t (acted lo r a) (result a)
    unfolding effect_of marks_of seen_of held_of blocked_of broken_of
    takes (Read n) e y z =
        subst (Takes W t (acted lo r (Read n)))
        (with_same W t (ap (λ (x : ℤ). went lo (Read n) (position_of s t + 1) r x x) (seen_by n e)) queue_there refl (sym same_table) (sym same_memory))
        (t_load (readable n e (load_free t (next_held s t) z)))
    takes (Store n x) e y z =
        subst (Takes W t (acted lo r (Store n x)))
        (with_same W t (moved_on (Store n x) (position_of s t + 1)) (pushed_on x e.1 (room_free s.depth q y)) (flag_set n e.0) (sym stored_table) (sym same_memory))
        (t_store (rw e.0 (store_free t (next_held s t) z)))
    takes Fence e y z =
        subst (Takes W t (acted lo r Fence))
        (with_same W t (moved_on Fence (position_of s t + 1)) queue_there refl (sym same_table) (sym same_memory))
        (t_fence (queue_there ∙ waits_free q y))
    takes (Swap n old x) e y z =
        subst (Takes W t (acted lo r (Swap n old x)))
        (with_same W t (ap (λ (k : ℕ). went lo (Swap n old x) (position_of s t + 1) r (memory_of s k) (memory_of s k)) e) queue_there refl (sym same_table)
        (ap (λ (k : ℕ). upd (memory_map s) k (pick (eq_z (memory_of s k) old) x (memory_of s k))) e))
        (t_swap (queue_there ∙ waits_free q y) (rw e (store_free t (next_held s t) z)))
    takes (Acquire n mark) e y z =
        let f = acquire_free t (next_held s t) (next_elsewhere s t) z in
        subst (Takes W t (acted lo r (Acquire n mark)))
        (with_same W t (moved_on (Acquire n mark) (position_of s t + 1)) queue_there refl (ap (λ (k : ℕ). enter (table_map s) k (suc t) (eqb (mark_of mark) LOCAL)) e.0 ∙ ap (λ (o : ℕ). enter (table_map s) c o (eqb (mark_of mark) LOCAL)) (sym (add-one t))) (sym same_memory))
        (t_acquire (rw e.0 f.0) (nowhere n e.1 f.1))
    takes (Release n) e y z =
        let f = release_free t (next_held s t) q z in
        subst (Takes W t (acted lo r (Release n)))
        (with_same W t (moved_on (Release n) (position_of s t + 1)) queue_there refl (ap (λ (k : ℕ). enter (table_map s) k 0 false) e) (sym same_memory))
        (t_release (rw e f.0) (queue_there ∙ f.1))
    takes (Silent n x) e y z =
        subst (Takes W t (acted lo r (Silent n x))) (with_same W t refl queue_there refl (sym same_table) (sym same_memory)) t_silent
    takes End e y z = absurd (omega arith)

    -- what is planned at it goes by the flag after it
    pub plan_same : (a : Action) → About a c i.cell → (k : List ℕ) → plan (acted lo r a) (λ n. dirtied W t n (W.threads t).dirty) k ≡ plan_by a (is_dirty (mk a)) k
    unfolding marks_of
    plan_same (Read n) e k = refl
    plan_same (Store n x) e k = ap (λ (b : Bool). stored b k) (flag_set n e.0)
    plan_same Fence e k = refl
    plan_same (Swap n old x) e k = refl
    plan_same (Acquire n mark) e k = refl
    plan_same (Release n) e k = refl
    plan_same (Silent n x) e k = refl
    plan_same End e k = refl

    pub instruction_takes : (checked_of s (1 + t)).number ≡ 0 → Takes W t (program s.code s.counts lo) (view (checked_of s (1 + t)).state (upd logs t (noted (logs t) (position_of s t) (next_of s t) (checked_of s (1 + t)).value)))
    instruction_takes z =
        let u = g.in_range.threads in
        let b = g.in_range.cells in
        let n = neither s t (omega arith) z in
        let k = current_in g.in_range h l in
        let w = current_cell g.in_range h l in
        let e : checked_of s (1 + t) ≡ taken_of (holding_of (took_of s t i (next_effect s t)) t i (next_marks s t)) (next_effect s t).value = instruction_taken s t (omega arith) z in
        let v = view_took g.shaped (row_below g.in_range h) i (next_effect s t) k.register (next_marks s t) h logs (noted (logs t) (position_of s t) (next_of s t) (next_effect s t).value) (omega arith) in
        rw (program_next (logs t), e) (subst (Takes W t (acted lo r (next_of s t))) (sym v) (takes (next_of s t) (about g.in_range h l) n.0 n.1))

-- the oldest pending store drains
module _ {s : State} (g : Runnable s) {t : ℕ} (h : t < s.threads) (logs : ℕ → Log) where
  pub drain_drains : (checked_of s (17 + t)).number ≡ 0 → Drains (view s logs) t (view (checked_of s (17 + t)).state logs)
  drain_drains z =
      let d = row_drainable g.in_range h (pending_there s t z) in
      let n = g.shaped.entries t d.thread in
      let v = view_drained g.shaped d.thread h d.some d.few d.cell logs in
      let e : pick (ltb t s.threads) (pending (queue_of s t)) [] ≡ oldest_of s t ∷ drop 1 (pending (queue_of s t)) = rw (lt-ltb t s.threads h) (oldest_first (queue_of s t).count (queue_of s t).entries d.some (omega arith)) in
      rw (drain_taken s t z) (subst (Drains (view s logs) t) (sym v) (t_drain (oldest_of s t) (drop 1 (pending (queue_of s t))) e))
