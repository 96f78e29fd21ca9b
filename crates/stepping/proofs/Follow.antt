-- Stepping through a schedule is the run of it, from every state in range and for all items that are right for it.
use Prim.Native.Nat.{ℕ, suc, ◌+◌}
use mathlib.Core.Bool.{Bool, true, false}
use mathlib.Core.Path.{◌≡◌, refl, ap, ◌∙◌}
use mathlib.Core.List.{List, [], ◌∷◌}
use native.Mathlib.Omega.{arith}
use lib.Dec.{eqb}
use lib.IntN.{ℤ}
use borrow.Author.Tests.{eqb-true, eqb-false}
use Rattle.reader.specs.declared.state.State.{State}
use Rattle.reader.specs.Rules.{pick, item_fits}
use Rattle.machine.specs.Run.{Outcome, Ran, run_of, values_of}
use Rattle.discipline.specs.Check.{answer, thread_of}
use Rattle.discipline.specs.Run.{Runnable, Items}
use Rattle.discipline.specs.Step.{checked_of}
use Rattle.discipline.proofs.One.{stays_checked}
use Rattle.stepping.specs.Step.{carried_of, stepped_of}
use Rattle.stepping.specs.Follow.{shown_of, Followed, follow, AsRun}
use Rattle.stepping.proofs.Exact.{in_range}
use Rattle.stepping.proofs.Cases.{answered_taken, answered_stopped, stepped_carried}
use Rattle.stepping.proofs.Taken.{Leaves, leaves}

-- a run that has taken one item more before it begins has taken one more when it ends
abbrev later : Ran → Ran
later r = record { state = r.state; place = suc r.place; number = r.number }

ran_later : (step : State → ℕ → Outcome) (m : State) (k : ℕ) (xs : List ℕ) → run_of step m (suc k) xs ≡ later (run_of step m k xs)
unfolding run_of
ran_later step m k [] = refl
ran_later step m k (x ∷ xs) = go (eqb (step m x).number 0) (ran_later step (step m x).state (suc k) xs)
  where
    go : (b : Bool) → run_of step (step m x).state (suc (suc k)) xs ≡ later (run_of step (step m x).state (suc k) xs) → pick b (run_of step (step m x).state (suc (suc k)) xs) (record { state = m; place = suc k; number = (step m x).number }) ≡ later (pick b (run_of step (step m x).state (suc k) xs) (record { state = m; place = k; number = (step m x).number }))
    go true h = h
    go false h = refl

one_more : (n : ℕ) → 1 + n ≡ suc n
one_more n = omega arith

-- in range and with an item that fits, the call does what a run does
stepped_checked : {s : State} (g : Runnable s) (x : ℕ) → item_fits s.threads x ≡ true → stepped_of s x ≡ carried_of (checked_of s x) x
stepped_checked {s} g x f = stepped_carried s x (in_range s g.in_range) f

module _ (s : State) (x : ℕ) (xs : List ℕ) (es : stepped_of s x ≡ carried_of (checked_of s x) x) where
  module _ (e : eqb (checked_of s x).number 0 ≡ true) where
    follow_taken : (f : Followed) → f ≡ follow (checked_of s x).state xs → follow s (x ∷ xs) ≡ record { state = f.state; answer = answer f.answer.number (suc f.answer.place) f.answer.thread; values = shown_of s x (checked_of s x).state ∷ f.values }
    unfolding follow
    follow_taken f ef = rw (es, answered_taken _ x (eqb-true _ _ e), ← ef, one_more f.answer.place)

    run_taken : run_of checked_of s 0 (x ∷ xs) ≡ later (run_of checked_of (checked_of s x).state 0 xs)
    unfolding run_of
    run_taken = rw e (ran_later checked_of (checked_of s x).state 0 xs)

    values_taken : values_of checked_of s (x ∷ xs) ≡ (checked_of s x).value ∷ values_of checked_of (checked_of s x).state xs
    unfolding values_of
    values_taken = rw e

    taken : shown_of s x (checked_of s x).state ≡ (checked_of s x).value → AsRun (checked_of s x).state xs (follow (checked_of s x).state xs) → AsRun s (x ∷ xs) (follow s (x ∷ xs))
    taken v a =
        rw (follow_taken _ refl)
        (record {
          state = a.state ∙ rw run_taken;
          number = a.number ∙ rw run_taken;
          place = ap suc a.place ∙ rw run_taken;
          thread = a.thread;
          values = rw (v, values_taken) (ap (λ (vs : List ℤ). (checked_of s x).value ∷ vs) a.values);
        })

  module _ (e : eqb (checked_of s x).number 0 ≡ false) where
    follow_stopped : follow s (x ∷ xs) ≡ record { state = s; answer = answer (checked_of s x).number 0 (thread_of x); values = [] }
    unfolding follow
    follow_stopped =
        let n = eqb-false _ _ e in
        let k : (checked_of s x).state ≡ s = ap (λ (o : Outcome). o.state) ((stays_checked s x).stays n) in
        rw (es, answered_stopped _ x n, e, k)

    stopped : AsRun s (x ∷ xs) (follow s (x ∷ xs))
    unfolding run_of values_of
    stopped = rw follow_stopped (record { state = rw e; number = rw e; place = rw e; thread = rw e; values = rw e })

pub followed : (xs : List ℕ) {s : State} → Runnable s → Items s.threads xs → AsRun s xs (follow s xs)
unfolding follow run_of values_of
followed [] g h = record { state = refl; number = refl; place = refl; thread = refl; values = refl }
followed (x ∷ xs) {s} g h =
    let f = h 0 (omega arith) in
    go (eqb (checked_of s x).number 0) refl f (stepped_checked g x f)
    (λ l. followed xs l.runnable (λ k b. rw l.threads (h (suc k) (omega arith))))
  where
    go : (b : Bool) → eqb (checked_of s x).number 0 ≡ b → item_fits s.threads x ≡ true → stepped_of s x ≡ carried_of (checked_of s x) x → (Leaves s x (checked_of s x) → AsRun (checked_of s x).state xs (follow (checked_of s x).state xs)) → AsRun s (x ∷ xs) (follow s (x ∷ xs))
    go true e f es r = let l = leaves g x f (eqb-true _ _ e) in taken s x xs es e l.shown (r l)
    go false e f es r = stopped s x xs es e
