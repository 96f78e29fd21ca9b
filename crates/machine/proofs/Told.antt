-- The number of a reason tells the reason, so the record of an answer tells what was answered: of a test, of a step, of a run.
use Rattle.std.proofs.Common.{◌≡◌, ◌∙◌, ℕ, ℤ, List, ◌-◌, [], ◌∷◌, get_or, refl, sym, ap}
use Rattle.std.specs.Prelude.{Result, Ok, Err, Option, Some, None}
use Rattle.reader.specs.declared.state.State.{State}
use Rattle.machine.specs.declared.hurdle.Hurdle.{Hurdle}
use Rattle.machine.specs.declared.hurdle.Hurdle.TheVariants.{AtEnd, Waits, Full, Empty}
use Rattle.machine.specs.declared.run.Ended.{Ended}
use Rattle.machine.specs.Run.{Outcome, Ran, Answers}
use Rattle.machine.specs.Hurdle.{number_of, test_of, outcome_of, stop_of, ran_of}
use Rattle.machine.proofs.Take.{hurdle_nonzero}

-- no reason has the number of an item that is taken, and no two have the same
pub record Tells {R : Type 0} (number : R → ℕ) : Type 0 where
  pub back : ℕ → R
  pub backs : (reason : R) → back (number reason) ≡ reason
  pub refuses : (reason : R) → number reason ≡ 0 → ⊥

module _ {R : Type 0} {number : R → ℕ} (w : Tells number) where
  pub reason_same : {a b : R} → number a ≡ number b → a ≡ b
  reason_same {a} {b} e = sym (w.backs a) ∙ ap w.back e ∙ w.backs b

  pub stop_same : (a b : Option R) → stop_of number a ≡ stop_of number b → a ≡ b
  stop_same None None e = refl
  stop_same None (Some b) e = absurd (w.refuses b (sym e))
  stop_same (Some a) None e = absurd (w.refuses a e)
  stop_same (Some a) (Some b) e = ap (λ (r : R). Some r) (reason_same e)

  pub test_same : (a b : Result (Unit {0}) R) → test_of number a ≡ test_of number b → a ≡ b
  test_same (Ok _) (Ok _) e = refl
  test_same (Ok _) (Err b) e = absurd (w.refuses b (sym e))
  test_same (Err a) (Ok _) e = absurd (w.refuses a e)
  test_same (Err a) (Err b) e = ap (λ (r : R). Err r) (reason_same e)

  read_same : (m m' : State) (a b : Result ℤ R) → outcome_of number m a ≡ outcome_of number m' b → a ≡ b
  read_same m m' (Ok x) (Ok y) e = ap (λ (o : Outcome). Ok o.value) e
  read_same m m' (Ok x) (Err b) e = absurd (w.refuses b (sym (ap (λ (o : Outcome). o.number) e)))
  read_same m m' (Err a) (Ok y) e = absurd (w.refuses a (ap (λ (o : Outcome). o.number) e))
  read_same m m' (Err a) (Err b) e = ap (λ (r : R). Err r) (reason_same (ap (λ (o : Outcome). o.number) e))

  state_same : (m m' : State) (a b : Result ℤ R) → outcome_of number m a ≡ outcome_of number m' b → m ≡ m'
  state_same m m' (Ok x) (Ok y) e = ap (λ (o : Outcome). o.state) e
  state_same m m' (Ok x) (Err b) e = ap (λ (o : Outcome). o.state) e
  state_same m m' (Err a) (Ok y) e = ap (λ (o : Outcome). o.state) e
  state_same m m' (Err a) (Err b) e = ap (λ (o : Outcome). o.state) e

  -- two answers of a step that its clause allows are the same: the state that is left, and what was read or why it was not taken
  pub step_coincides : (o : Outcome) {m m' : State} {a b : Result ℤ R} → outcome_of number m a ≡ o → outcome_of number m' b ≡ o → (m ≡ m') × (a ≡ b)
  step_coincides o {m} {m'} {a} {b} p q = let e = p ∙ sym q in (state_same m m' a b e, read_same m m' a b e)

  ended_same : (m m' : State) (a b : Ended R) → ran_of number m a ≡ ran_of number m' b → a ≡ b
  ended_same m m' a b e =
      let p : a.place ≡ b.place = ap (λ (r : Ran). r.place) e in
      let s : a.stopped ≡ b.stopped = stop_same a.stopped b.stopped (ap (λ (r : Ran). r.number) e) in
      ap (λ (k : ℕ). record { place = k; stopped = a.stopped }) p ∙ ap (λ (o : Option R). record { place = b.place; stopped = o }) s

  -- two answers of a run that its clause allows are the same: the state that is left, how it ended, and the list
  pub run_coincides : (step : State → ℕ → Outcome) (m : State) (xs : List ℕ) (vs : List ℤ) {s s' : State} {a b : Ended R} {ws ws' : List ℤ} → Answers step m xs vs (ran_of number s a) ws → Answers step m xs vs (ran_of number s' b) ws' → (s ≡ s') × (a ≡ b) × (ws ≡ ws')
  run_coincides step m xs vs {s} {s'} {a} {b} p q =
      let e = p.ran ∙ sym q.ran in
      let k = ap (λ (r : Ran). r.place) e in
      (ap (λ (r : Ran). r.state) e, ended_same s s' a b e, p.wrote ∙ rw k (sym q.wrote))

-- the hurdle of a number; of one that no hurdle has, the first
unfoldable pub hurdle_of : ℕ → Hurdle
hurdle_of n = get_or (AtEnd ∷ Waits ∷ Full ∷ Empty ∷ []) (n - 20) AtEnd

hurdle_back : (h : Hurdle) → hurdle_of (number_of h) ≡ h
unfolding hurdle_of
hurdle_back AtEnd = refl
hurdle_back Waits = refl
hurdle_back Full = refl
hurdle_back Empty = refl

pub hurdle_tells : Tells number_of
hurdle_tells = record { back = hurdle_of; backs = hurdle_back; refuses = hurdle_nonzero }
