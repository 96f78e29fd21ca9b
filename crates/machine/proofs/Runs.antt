-- A run of items, one at a time, on any machine that steps: what is left of it gives the same answer. P is what the machine asks of its states.
use Rattle.std.proofs.Common.{◌≡◌, ℕ, suc, ◌+◌, ◌<◌, ◌≤◌, Bool, true, false, eqb, List, [], ◌∷◌, ◌++◌, length, get_or, take, drop, set, ℤ, sym, refl, ap, ◌∙◌, append-nil, add-one, arith, length-set, take-append-drop, drop_of_length-le, drop-cons, drop-drop, take-suc-set, drop-set-lt, eq-eqb, ne_eqb}
use lib.Seq.{append_snoc}
use Rattle.reader.specs.declared.state.State.{State}
use Rattle.reader.specs.Rules.{pick}
use Rattle.machine.specs.Run.{Outcome, run_of, values_of, Answers}

-- k items were taken: the rest of the run from here has the answer, and the values so far stand in front
pub record Going (step : State → ℕ → Outcome) (P : State → Type 0) (m₀ : State) (xs : List ℕ) (vs₀ : List ℤ) (m : State) (k : ℕ) (vs : List ℤ) : Type 0 where
  pub below : k ≤ length xs
  pub ran : run_of step m₀ 0 xs ≡ run_of step m k (drop k xs)
  pub wrote : values_of step m₀ xs ≡ take k vs ++ values_of step m (drop k xs)
  pub kept : drop k vs ≡ drop k vs₀
  pub long : length vs ≡ length vs₀
  pub good : P m

module _ (step : State → ℕ → Outcome) where
  module _ (m : State) (k : ℕ) (xs : List ℕ) (o : Outcome) (e : o ≡ step m (get_or xs k 0)) (h : k < length xs) where
    ran_one : run_of step m k (drop k xs) ≡ pick (eqb o.number 0) (run_of step o.state (k + 1) (drop (k + 1) xs)) (record { state = m; place = k; number = o.number })
    unfolding run_of
    ran_one = rw (e, add-one, drop-cons xs k 0 h)

    wrote_one : values_of step m (drop k xs) ≡ pick (eqb o.number 0) (o.value ∷ values_of step o.state (drop (k + 1) xs)) []
    unfolding values_of
    wrote_one = rw (e, add-one, drop-cons xs k 0 h)

  split : (m₀ : State) (xs : List ℕ) (k : ℕ) (vs vs₀ w : List ℤ) → values_of step m₀ xs ≡ take k vs ++ w → w ≡ [] → drop k vs ≡ drop k vs₀ → vs ≡ values_of step m₀ xs ++ drop k vs₀
  split m₀ xs k vs vs₀ w p q r = rw (p, q, append-nil, ← r) (sym (take-append-drop k vs))

  -- no more items are taken than there are
  pub ran_within : (m : State) (k : ℕ) (xs : List ℕ) → (run_of step m k xs).place ≤ k + length xs
  unfolding run_of
  ran_within m k [] = omega arith
  ran_within m k (x ∷ xs) = go (eqb (step m x).number 0) (ran_within (step m x).state (suc k) xs)
    where
      go : (b : Bool) → (run_of step (step m x).state (suc k) xs).place ≤ suc k + length xs → (pick b (run_of step (step m x).state (suc k) xs) (record { state = m; place = k; number = (step m x).number })).place ≤ k + suc (length xs)
      go true h = omega arith
      go false h = omega arith

  -- an item that stops a run is one of them
  pub stop_within : (m : State) (k : ℕ) (xs : List ℕ) → ((run_of step m k xs).number ≡ 0 → ⊥) → (run_of step m k xs).place < k + length xs
  unfolding run_of
  stop_within m k [] n = absurd (n refl)
  stop_within m k (x ∷ xs) n = go (eqb (step m x).number 0) (stop_within (step m x).state (suc k) xs) n
    where
      go : (b : Bool) → (((run_of step (step m x).state (suc k) xs).number ≡ 0 → ⊥) → (run_of step (step m x).state (suc k) xs).place < suc k + length xs) → ((pick b (run_of step (step m x).state (suc k) xs) (record { state = m; place = k; number = (step m x).number })).number ≡ 0 → ⊥) → (pick b (run_of step (step m x).state (suc k) xs) (record { state = m; place = k; number = (step m x).number })).place < k + suc (length xs)
      go true h z = let l = h z in omega arith
      go false h z = omega arith

  module _ {P : State → Type 0} where
    pub start : (m : State) (xs : List ℕ) (vs : List ℤ) → P m → Going step P m xs vs m 0 vs
    start m xs vs p = record { below = omega arith; ran = refl; wrote = refl; kept = refl; long = refl; good = p }

    module _ {m₀ : State} {xs : List ℕ} {vs₀ : List ℤ} {m : State} {k : ℕ} {vs : List ℤ} (g : Going step P m₀ xs vs₀ m k vs) where
      module _ (o : Outcome) (e : o ≡ step m (get_or xs k 0)) (h : k < length xs) where
        pub turn : length xs ≤ length vs₀ → o.number ≡ 0 → P o.state → Going step P m₀ xs vs₀ o.state (k + 1) (set vs k o.value)
        turn f n p =
            let l = g.long in
            let i : k < length vs = omega arith in
            let d : k < k + 1 = omega arith in
            record {
              below = omega arith;
              ran = g.ran ∙ ran_one m k xs o e h ∙ rw (eq-eqb o.number 0 n);
              wrote = g.wrote ∙ ap (λ (w : List ℤ). take k vs ++ w) (wrote_one m k xs o e h) ∙ rw (eq-eqb o.number 0 n, add-one, take-suc-set vs k o.value i, append_snoc);
              kept = drop-set-lt (k + 1) vs k o.value d ∙ sym (drop-drop 1 k vs) ∙ ap (drop 1) g.kept ∙ drop-drop 1 k vs₀;
              long = length-set vs k o.value ∙ g.long;
              good = p;
            }

        pub stopped : (o.number ≡ 0 → ⊥) → Answers step m₀ xs vs₀ (record { state = m; place = k; number = o.number }) vs
        stopped n = record {
          ran = sym (g.ran ∙ ran_one m k xs o e h ∙ rw (ne_eqb o.number 0 n));
          wrote = split m₀ xs k vs vs₀ (values_of step m (drop k xs)) g.wrote (wrote_one m k xs o e h ∙ rw (ne_eqb o.number 0 n)) g.kept;
        }

      pub ended : length xs ≤ k → Answers step m₀ xs vs₀ (record { state = m; place = k; number = 0 }) vs
      unfolding run_of values_of
      ended h =
          let e : drop k xs ≡ [] = drop_of_length-le xs h in
          record { ran = sym (g.ran ∙ rw e); wrote = split m₀ xs k vs vs₀ (values_of step m (drop k xs)) g.wrote (rw e) g.kept }
