-- What the threads did in a run of any machine that steps: a log for each row, kept along the items.
use Prim.Native.Nat.{ℕ, suc, ◌+◌, ◌-◌, ◌<◌, ◌≤◌}
use mathlib.Core.Bool.{Bool, true, false, ◌&&◌}
use mathlib.Core.Path.{◌≡◌, refl, sym, ◌∙◌, ap}
use mathlib.Core.List.{List, [], ◌∷◌, ◌++◌, append-nil}
use native.Mathlib.Omega.{arith}
use native.Mathlib.Decide.{ℕ_discrete}
use lib.Dec.{eqb, leb}
use lib.IntN.{ℤ}
use lib.Seq.{append_snoc}
use borrow.Author.Tests.{eqb-true, eq-eqb, ne_eqb, leb-true, lt-leb}
use Rattle.reader.specs.declared.state.State.{State}
use Rattle.reader.specs.State.{position_of}
use Rattle.reader.specs.Rules.{pick}
use Rattle.machine.specs.declared.action.Action.{Action}
use Rattle.machine.specs.Action.{next_of}
use Rattle.machine.specs.Run.{Outcome, Ran, run_of, values_of}
use Rattle.discipline.specs.OneMemory.{carries, reads, path_of, reads_of}
use Rattle.discipline.proofs.Maps.{upd, upd_same, upd_other, at_or}
use Rattle.discipline.proofs.View.{Log, noted, overrun}

-- items that name a row
abbrev pub Named : List ℕ → Type 0
Named [] = Unit {0}
Named (x ∷ xs) = (1 ≤ x) × Named xs

-- items that are instructions
abbrev pub Below : List ℕ → Type 0
Below [] = Unit {0}
Below (x ∷ xs) = (x < 17) × Below xs

module _ (step : State → ℕ → Outcome) where
  -- a row's log after its item, and all logs after any item
  abbrev pub log_after : State → ℕ → Log → Log
  log_after s x g = pick (eqb (step s x).number 0) (noted g (position_of s (x - 1)) (next_of s (x - 1)) (step s x).value) (overrun g)

  abbrev pub logs_after : State → ℕ → (ℕ → Log) → ℕ → Log
  logs_after s x logs = pick (leb 17 x) logs (upd logs (x - 1) (log_after s x (logs (x - 1))))

  abbrev pub logs_of : State → List ℕ → (ℕ → Log) → ℕ → Log
  logs_of s [] logs = logs
  logs_of s (x ∷ xs) logs = logs_of (step s x).state xs (logs_after s x logs)

  -- the state after all items, whether they were taken or not
  abbrev pub last_of : State → List ℕ → State
  last_of s [] = s
  last_of s (x ∷ xs) = last_of (step s x).state xs

  pub last_append : (xs ys : List ℕ) (s : State) → last_of s (xs ++ ys) ≡ last_of (last_of s xs) ys
  last_append [] ys s = refl
  last_append (x ∷ xs) ys s = last_append xs ys (step s x).state

  pub logs_append : (xs ys : List ℕ) (s : State) (logs : ℕ → Log) → logs_of s (xs ++ ys) logs ≡ logs_of (last_of s xs) ys (logs_of s xs logs)
  logs_append [] ys s logs = refl
  logs_append (x ∷ xs) ys s logs = logs_append xs ys (step s x).state (logs_after s x logs)

  -- a run that takes its first item, and then the others
  pub first_taken : (s : State) (k x : ℕ) (xs : List ℕ) → (run_of step s k (x ∷ xs)).number ≡ 0 → (step s x).number ≡ 0
  unfolding run_of
  first_taken s k x xs z = go (eqb (step s x).number 0) refl z
    where
      go : (b : Bool) → eqb (step s x).number 0 ≡ b → (pick b (run_of step (step s x).state (suc k) xs) (record { state = s; place = k; number = (step s x).number })).number ≡ 0 → (step s x).number ≡ 0
      go true e z = eqb-true _ _ e
      go false e z = z

  pub then_run : (s : State) (k x : ℕ) (xs : List ℕ) → (step s x).number ≡ 0 → run_of step s k (x ∷ xs) ≡ run_of step (step s x).state (suc k) xs
  unfolding run_of
  then_run s k x xs z = rw (eq-eqb _ 0 z)

  then_values : (s : State) (x : ℕ) (xs : List ℕ) → (step s x).number ≡ 0 → values_of step s (x ∷ xs) ≡ (step s x).value ∷ values_of step (step s x).state xs
  unfolding values_of
  then_values s x xs z = rw (eq-eqb _ 0 z)

  pub run_last : (s : State) (k : ℕ) (xs : List ℕ) → (run_of step s k xs).number ≡ 0 → (run_of step s k xs).state ≡ last_of s xs
  unfolding run_of
  run_last s k [] z = refl
  run_last s k (x ∷ xs) z =
      let n = first_taken s k x xs z in
      let e = then_run s k x xs n in
      ap (λ (r : Ran). r.state) e ∙ run_last (step s x).state (suc k) xs (sym (ap (λ (r : Ran). r.number) e) ∙ z)

  -- the log of row t after an item that was taken
  log_one : (s : State) (x : ℕ) (logs : ℕ → Log) (t : ℕ) → t < 16 → 1 ≤ x → (step s x).number ≡ 0 →
      logs_after s x logs t ≡ pick (carries t x) (noted (logs t) (position_of s t) (next_of s t) (step s x).value) (logs t)
  log_one s x logs t h o z = by (leb 17 x) refl
    where
      here : x ≡ t + 1 → upd logs (x - 1) (log_after s x (logs (x - 1))) t ≡ pick (carries t x) (noted (logs t) (position_of s t) (next_of s t) (step s x).value) (logs t)
      here e = let q : x - 1 ≡ t = omega arith in rw (q, eq-eqb x (t + 1) e, eq-eqb (step s x).number 0 z) (upd_same logs t _)

      there : (x ≡ t + 1 → ⊥) → upd logs (x - 1) (log_after s x (logs (x - 1))) t ≡ pick (carries t x) (noted (logs t) (position_of s t) (next_of s t) (step s x).value) (logs t)
      there n = rw (ne_eqb x (t + 1) n) (upd_other logs (x - 1) _ t (λ q. n (omega arith)))

      go : Dec (x ≡ t + 1) → upd logs (x - 1) (log_after s x (logs (x - 1))) t ≡ pick (carries t x) (noted (logs t) (position_of s t) (next_of s t) (step s x).value) (logs t)
      go (yes e) = here e
      go (no n) = there n

      by : (b : Bool) → leb 17 x ≡ b → pick b logs (upd logs (x - 1) (log_after s x (logs (x - 1)))) t ≡ pick (carries t x) (noted (logs t) (position_of s t) (next_of s t) (step s x).value) (logs t)
      by true e = let l = leb-true 17 x e in rw (ne_eqb x (t + 1) (λ q. omega arith))
      by false e = go (ℕ_discrete x (t + 1))

  -- a log that goes on by what a row did
  abbrev pub extended : Log → List ℕ → List ℤ → Log
  extended g path values = record { path = g.path ++ path; values = g.values ++ values; over = g.over }

  extend_one : (b : Bool) (g : Log) (at : ℕ) (a : Action) (v : ℤ) (path : List ℕ) (values : List ℤ) →
      extended (pick b (noted g at a v) g) path values ≡ extended g (pick b (at ∷ path) path) (pick (b && reads a) (v ∷ values) values)
  extend_one false g at a v path values = refl
  extend_one true g at a v path values = by (reads a)
    where
      by : (c : Bool) → extended (record { path = g.path ++ at ∷ []; values = pick c (g.values ++ v ∷ []) g.values; over = g.over }) path values ≡ extended g (at ∷ path) (pick c (v ∷ values) values)
      by true = rw (append_snoc g.path at path, append_snoc g.values v values) refl
      by false = rw (append_snoc g.path at path) refl

  -- the logs of a run that takes all items are the paths and the values read
  pub log_run : (s : State) (k : ℕ) (xs : List ℕ) (ws : List ℤ) (logs : ℕ → Log) (t : ℕ) → t < 16 → Named xs → (run_of step s k xs).number ≡ 0 →
      logs_of s xs logs t ≡ extended (logs t) (path_of step t s xs) (reads_of step t s xs (values_of step s xs ++ ws))
  unfolding path_of reads_of values_of
  log_run s k [] ws logs t h o z = rw (append-nil (logs t).path, append-nil (logs t).values) refl
  log_run s k (x ∷ xs) ws logs t h o z =
      let n = first_taken s k x xs z in
      let e = then_run s k x xs n in
      log_run (step s x).state (suc k) xs ws (logs_after s x logs) t h o.1 (sym (ap (λ (r : Ran). r.number) e) ∙ z)
      ∙ rw (log_one s x logs t h o.0 n, eq-eqb (step s x).number 0 n) (extend_one (carries t x) (logs t) (position_of s t) (next_of s t) (step s x).value _ _)

  -- refusals are counted, and never taken back
  kept_one : (s : State) (x : ℕ) (logs : ℕ → Log) (t : ℕ) → (logs_after s x logs t).over ≡ 0 → (logs t).over ≡ 0
  kept_one s x logs t = by (leb 17 x)
    where
      one : (b : Bool) (g : Log) → (pick b (noted g (position_of s (x - 1)) (next_of s (x - 1)) (step s x).value) (overrun g)).over ≡ 0 → g.over ≡ 0
      one true g z = z
      one false g z = absurd (omega arith)

      at : (u : ℕ) → (upd logs (x - 1) (log_after s x (logs (x - 1))) u).over ≡ 0 → (logs u).over ≡ 0
      at = at_or {P = λ u. (upd logs (x - 1) (log_after s x (logs (x - 1))) u).over ≡ 0 → (logs u).over ≡ 0} (x - 1)
          (λ z. one (eqb (step s x).number 0) (logs (x - 1)) (rw (upd_same logs (x - 1) (log_after s x (logs (x - 1)))) at z))
          (λ u n z. rw (upd_other logs (x - 1) (log_after s x (logs (x - 1))) u n) at z)

      by : (b : Bool) → (pick b logs (upd logs (x - 1) (log_after s x (logs (x - 1)))) t).over ≡ 0 → (logs t).over ≡ 0
      by true z = z
      by false z = at t z

  kept_all : (s : State) (xs : List ℕ) (logs : ℕ → Log) (t : ℕ) → (logs_of s xs logs t).over ≡ 0 → (logs t).over ≡ 0
  kept_all s [] logs t z = z
  kept_all s (x ∷ xs) logs t z = kept_one s x logs t (kept_all (step s x).state xs (logs_after s x logs) t z)

  -- so a run of instructions without any refusal takes them all
  pub none_over : (s : State) (k : ℕ) (xs : List ℕ) (logs : ℕ → Log) → Below xs → ((t : ℕ) → t < 16 → (logs_of s xs logs t).over ≡ 0) → (run_of step s k xs).number ≡ 0
  unfolding run_of
  none_over s k [] logs b z = refl
  none_over s k (x ∷ xs) logs b z =
      let n = taken (kept_all (step s x).state xs (logs_after s x logs) (x - 1) (z (x - 1) (omega (arith, b.0)))) in
      ap (λ (r : Ran). r.number) (then_run s k x xs n) ∙ none_over (step s x).state (suc k) xs (logs_after s x logs) b.1 z
    where
      was : (c : Bool) → eqb (step s x).number 0 ≡ c → (pick c (noted (logs (x - 1)) (position_of s (x - 1)) (next_of s (x - 1)) (step s x).value) (overrun (logs (x - 1)))).over ≡ 0 → (step s x).number ≡ 0
      was true e z = eqb-true _ _ e
      was false e z = absurd (omega arith)

      taken : (logs_after s x logs (x - 1)).over ≡ 0 → (step s x).number ≡ 0
      taken q = was (eqb (step s x).number 0) refl (rw (lt-leb 17 x b.0, upd_same logs (x - 1) (log_after s x (logs (x - 1)))) at q)
