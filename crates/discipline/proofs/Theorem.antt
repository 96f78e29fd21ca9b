-- Point 3 from the bytes of a case and the answer of its check.
use Prim.Native.Nat.{ℕ, zero, suc}
use mathlib.Core.Bool.{Bool, true, false}
use mathlib.Core.Path.{◌≡◌, refl, sym, ◌∙◌, ap}
use mathlib.Core.List.{List, ◌++◌}
use native.Mathlib.Omega.{arith}
use lib.ListN.{get_or, take, drop, replicate, length-take}
use lib.Seq.{take_at}
use lib.Dec.{eqb}
use lib.IntN.{ℤ}
use borrow.Author.Tests.{eqb-true, eqb-false}
use Rattle.reader.specs.Reading.{Reading}
use Rattle.reader.specs.Limits.{THREADS}
use Rattle.reader.specs.State.{no_queue, outside_queue}
use Rattle.reader.specs.Case.{read_of}
use Rattle.reader.specs.Rules.{pick}
use Rattle.reader.specs.Range.{WellFormed}
use Rattle.reader.proofs.Accepted.{accepted}
use Rattle.machine.specs.Run.{values_of}
use Rattle.discipline.specs.declared.check.Answer.{Answer}
use Rattle.discipline.specs.Step.{checked_of}
use Rattle.discipline.specs.Check.{answer, ran_of, schedule_of, stopped_thread, too_short, judged_by, answer_of, values_after, memory_after, Checks}
use Rattle.discipline.specs.Order.{order_of}
use Rattle.discipline.specs.OneMemory.{Emptied, start_of, items_of, end_of, PointThree, SomeOrder}
use Rattle.discipline.proofs.Checked.{runnable_read, schedule_items}
use Rattle.discipline.proofs.Point3.{alike, ended_runnable}

-- what the answer 0 of a check says: the case was read, the lists were long enough, and the run took every item
record Whole (case : List ℕ) (vs ms vs' ms' : List ℤ) : Type 0 where
  well_formed : (read_of case).number ≡ 0
  ran : (ran_of case (read_of case)).number ≡ 0
  values : vs' ≡ values_of checked_of (start_of case) (items_of case) ++ drop (ran_of case (read_of case)).place vs
  memory : ms' ≡ take (start_of case).cells (end_of case).memory ++ drop (start_of case).cells ms

whole : (case : List ℕ) (vs ms vs' ms' : List ℤ) (r : Answer) → Checks case vs ms r vs' ms' → r.number ≡ 0 → Whole case vs ms vs' ms'
unfolding answer_of values_after memory_after judged_by
whole case vs ms vs' ms' r c z =
    go (eqb (read_of case).number 0) refl (too_short case (read_of case) vs ms) (sym (ap (λ (x : Answer). x.number) c.answered) ∙ z) c.values c.memory
  where
    q : Reading
    q = read_of case

    go : (b : Bool) → eqb q.number 0 ≡ b → (d : Bool) →
        (pick b (pick d (answer 9 0 0) (answer (ran_of case q).number (ran_of case q).place (stopped_thread case q (ran_of case q).number (ran_of case q).place))) (answer q.number q.place 0)).number ≡ 0 →
        vs' ≡ pick b (pick d vs (values_of checked_of q.state (schedule_of case q) ++ drop (ran_of case q).place vs)) vs →
        ms' ≡ pick b (pick d ms (take q.state.cells (ran_of case q).state.memory ++ drop q.state.cells ms)) ms → Whole case vs ms vs' ms'
    go true e true n v m = absurd (omega arith)
    go true e false n v m = record { well_formed = eqb-true _ _ e; ran = n; values = v; memory = m }
    go false e d n v m = absurd (eqb-false _ _ e n)

-- a case starts with empty buffers
no_queue_lem : (n t : ℕ) → (get_or (replicate n no_queue) t outside_queue).count ≡ 0
no_queue_lem zero t = refl
no_queue_lem (suc n) zero = refl
no_queue_lem (suc n) (suc t) = no_queue_lem n t

starts_empty : {case : List ℕ} {r : Reading} → WellFormed case r → Emptied r.state
starts_empty w t h = rw w.started.queues (no_queue_lem THREADS t)

pub point_3 : PointThree
point_3 case vs ms vs' ms' r c z b =
    let h = whole case vs ms vs' ms' r c z in
    let w = accepted case h.well_formed in
    let g = runnable_read w in
    let f = schedule_items w in
    let a = starts_empty w in
    let x = alike g (items_of case) f a h.ran b (drop (ran_of case (read_of case)).place vs) in
    let l = (ended_runnable g (items_of case) f a h.ran b).shaped.memory in
    let n = w.in_range.cells in
    record {
      alike = rw h.values x;
      listed = rw (x.memory, h.memory) (sym (take_at (take (start_of case).cells (end_of case).memory) (drop (start_of case).cells ms) (start_of case).cells (simp length-take (omega arith))));
    }

pub some_order : SomeOrder
some_order case vs ms vs' ms' r c z b = (order_of (start_of case) (items_of case), point_3 case vs ms vs' ms' r c z b)
