-- The check of a whole case: each way out of the code is what the definition says.
use Prim.Native.Nat.{ℕ, ◌+◌, ◌-◌, ◌<◌, ◌≤◌}
use mathlib.Core.Bool.{true, false}
use mathlib.Core.Path.{◌≡◌, refl, ap, ◌∙◌}
use mathlib.Core.List.{List, ◌++◌}
use native.Mathlib.Omega.{arith}
use lib.ListN.{length, take, drop, length-drop}
use lib.Seq.{take_all, get_or-drop}
use lib.Dec.{eqb}
use lib.IntN.{ℤ}
use borrow.Author.Tests.{eq-eqb, ne_eqb, lt-ltb, le-ltb}
use Rattle.reader.specs.Reading.{Reading}
use Rattle.reader.specs.Bytes.{byte}
use Rattle.reader.specs.Rules.{pick}
use Rattle.reader.specs.Case.{read_of}
use Rattle.reader.specs.Range.{WellFormed}
use Rattle.reader.proofs.Accepted.{accepted}
use Rattle.std.specs.Prelude.{Some, None}
use Rattle.reader.specs.declared.state.State.{State}
use Rattle.machine.specs.declared.run.Ended.{Ended}
use Rattle.machine.specs.Hurdle.{stop_of, ran_of}
use Rattle.machine.specs.Run.{Ran, Answers}
use Rattle.machine.proofs.Runs.{ran_within, stop_within}
use Rattle.discipline.specs.declared.breach.Reason.{Reason}
use Rattle.discipline.specs.Reason.{number_of}
use Rattle.discipline.proofs.Reasons.{reason_nonzero}
use Rattle.discipline.specs.declared.check.Answer.{Answer}
use Rattle.discipline.specs.Run.{Runnable, Items}
use Rattle.discipline.specs.Step.{checked_of}
use Rattle.discipline.specs.Check.{answer, thread_of, schedule_of, too_short, judged_by, answer_of, values_after, memory_after, Checks}

-- what a reading that is not refused promises
pub read_right : (case : List ℕ) {r : Reading} → r ≡ read_of case → r.number ≡ 0 → WellFormed case r
read_right case e z = rw e (accepted case (rw e at z))

-- the part of a slice from a place on, as the code lends it
pub part_same : (case : List ℕ) (start : ℕ) → take (length case - start) (drop start case) ≡ drop start case
part_same case start = take_all (length case - start) (drop start case) (simp length-drop (omega arith))

module _ {case : List ℕ} {r : Reading} (w : WellFormed case r) where
  pub start_within : r.start ≤ length case
  start_within = let e = w.schedule.ends in omega arith

  schedule_length : length (schedule_of case r) ≡ r.items
  schedule_length = let e = w.schedule.ends in simp length-drop (omega arith)

  pub runnable_read : Runnable r.state
  runnable_read = record { in_range = w.in_range; shaped = w.shaped }

  -- the items are right
  pub schedule_items : Items r.state.threads (schedule_of case r)
  schedule_items k b = let l = schedule_length in rw (get_or-drop r.start case k 0) (w.schedule.item k (omega arith))

  -- and there is a value for each
  pub items_read : {xs : List ℕ} → xs ≡ schedule_of case r → (values : List ℤ) → r.items ≤ length values → Items r.state.threads xs × (length xs ≤ length values)
  items_read e values h =
      let l = schedule_length in
      rw e (schedule_items, omega arith)

  -- a run ends no further on than the case does
  pub place_within : {xs : List ℕ} → xs ≡ schedule_of case r → {vs vs' : List ℤ} {q : Ran} → Answers checked_of r.state xs vs q vs' → r.start + q.place ≤ length case
  place_within {xs} ex a =
      let e = w.schedule.ends in
      let l : length xs ≡ r.items = rw ex schedule_length in
      let p = ran_within checked_of r.state 0 xs in
      let q = ap (λ (x : Ran). x.place) a.ran in
      omega arith

  -- the item that stops the run is in the case
  pub stop_there : {xs : List ℕ} → xs ≡ schedule_of case r → {vs vs' : List ℤ} {q : Ran} → Answers checked_of r.state xs vs q vs' → (q.number ≡ 0 → ⊥) → r.start + q.place < length case
  stop_there {xs} ex {q = q} a n =
      let e = w.schedule.ends in
      let l : length xs ≡ r.items = rw ex schedule_length in
      let p = stop_within checked_of r.state 0 xs (λ z. n (ap (λ (x : Ran). x.number) a.ran ∙ z)) in
      let q = ap (λ (x : Ran). x.place) a.ran in
      omega arith

module _ (case : List ℕ) (vs ms : List ℤ) {r : Reading} (er : r ≡ read_of case) where
  -- what comes of the case, by what was read
  module _ {A : Type 0} (refused : Reading → A) (nine : A) (run : Reading → A) where
    is_refused : (r.number ≡ 0 → ⊥) → refused r ≡ judged_by case vs ms refused nine run
    unfolding judged_by
    is_refused n = let m = rw er at n in rw (er, ne_eqb _ _ m)

    module _ (z : r.number ≡ 0) where
      is_nine : too_short case r vs ms ≡ true → nine ≡ judged_by case vs ms refused nine run
      unfolding judged_by
      is_nine t = let y = rw er at z in let u = rw er at t in rw (eq-eqb _ _ y, u)

      is_run : too_short case r vs ms ≡ false → run r ≡ judged_by case vs ms refused nine run
      unfolding judged_by
      is_run t = let y = rw er at z in let u = rw er at t in rw (er, eq-eqb _ _ y, u)

  pub checks_refused : (r.number ≡ 0 → ⊥) → Checks case vs ms (answer r.number r.place 0) vs ms
  unfolding answer_of values_after memory_after
  checks_refused n = record { answered = is_refused _ _ _ n; values = is_refused _ _ _ n; memory = is_refused _ _ _ n }

  module _ (z : r.number ≡ 0) where
    short : too_short case r vs ms ≡ true → {a : Answer} → a ≡ answer 9 0 0 → Checks case vs ms a vs ms
    unfolding answer_of values_after memory_after
    short t e = record { answered = e ∙ is_nine _ _ _ z t; values = is_nine _ _ _ z t; memory = is_nine _ _ _ z t }

    pub checks_short_values : length vs < r.items → {a : Answer} → a ≡ answer 9 0 0 → Checks case vs ms a vs ms
    checks_short_values h = short (rw (lt-ltb _ _ h))

    module _ (h : r.items ≤ length vs) where
      pub checks_short_memory : length ms < r.state.cells → {a : Answer} → a ≡ answer 9 0 0 → Checks case vs ms a vs ms
      checks_short_memory k = short (rw (le-ltb _ _ h, lt-ltb _ _ k))

      pub checks_ran : r.state.cells ≤ length ms → {xs : List ℕ} → xs ≡ schedule_of case r → {q : Ran} {vs' ms' : List ℤ} → Answers checked_of r.state xs vs q vs' → ms' ≡ take r.state.cells q.state.memory ++ drop r.state.cells ms → {thread : ℕ} → thread ≡ pick (eqb q.number 0) 0 (thread_of (byte case (r.start + q.place))) → Checks case vs ms (answer q.number q.place thread) vs' ms'
      unfolding answer_of values_after memory_after
      checks_ran k ex a em et =
          let t : too_short case r vs ms ≡ false = rw (le-ltb _ _ h, le-ltb _ _ k) in
          record {
            answered = rw (et, a.ran, ex) (is_run _ _ _ z t);
            values = a.wrote ∙ rw (a.ran, ex) (is_run _ _ _ z t);
            memory = em ∙ rw (a.ran, ex) (is_run _ _ _ z t);
          }

      -- what the code answers where all items were taken, and where a reason stopped one
      module _ (k : r.state.cells ≤ length ms) {xs : List ℕ} (ex : xs ≡ schedule_of case r) {m : State} {e : Ended Reason} {vs' ms' : List ℤ} (a : Answers checked_of r.state xs vs (ran_of number_of m e) vs') (em : ms' ≡ take r.state.cells m.memory ++ drop r.state.cells ms) where
        pub checks_whole : e.stopped ≡ None → Checks case vs ms (answer 0 e.place 0) vs' ms'
        checks_whole n =
            let z : stop_of number_of e.stopped ≡ 0 = rw n refl in
            rw z at (checks_ran k ex a em {thread = 0} (rw z refl))

        pub checks_stopped : {reason : Reason} → e.stopped ≡ Some reason → {thread : ℕ} → thread ≡ thread_of (byte case (r.start + e.place)) → Checks case vs ms (answer (number_of reason) e.place thread) vs' ms'
        checks_stopped {reason} n {thread} et =
            let z : stop_of number_of e.stopped ≡ number_of reason = rw n refl in
            rw z at (checks_ran k ex a em {thread = thread} (et ∙ rw (z, ne_eqb _ 0 (reason_nonzero reason)) refl))
