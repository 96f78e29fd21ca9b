-- A number is given for the smallest reason that stands against an item, and none is given where no reason stands.
use Prim.Native.Nat.{ℕ, zero, suc, ◌+◌, ◌-◌, ◌≤◌, ◌<◌}
use mathlib.Core.Bool.{Bool, true, false, not, ◌&&◌}
use mathlib.Core.Path.{◌≡◌, refl, ap, ◌∙◌}
use mathlib.Core.List.{List, [], ◌∷◌}
use native.Mathlib.Omega.{arith}
use lib.ListN.{length, take, get_or}
use lib.Dec.{eqb, leb}
use lib.IntN.{ℤ}
use borrow.Author.Tests.{not-true, eqb-true, eqb-false, leb-true, leb-false, eq-eqb, ne_eqb}
use Rattle.std.proofs.lemmas.Bool.{and_parts, false≢true}
use Rattle.reader.specs.declared.state.State.{State}
use Rattle.reader.specs.State.{queue_of}
use Rattle.reader.specs.Rules.{pick}
use Rattle.machine.specs.declared.action.Action.{Action}
use Rattle.machine.specs.declared.action.Sharing.{Sharing}
use Rattle.machine.specs.declared.action.Action.TheVariants.{Read, Store, Fence, Swap, Acquire, Release, Silent, End}
use Rattle.machine.specs.Action.{next_of}
use Rattle.machine.specs.Effect.{guard, pends, blocked_of}
use Rattle.machine.specs.Run.{Outcome, Ran, unless, run_of}
use Rattle.machine.specs.Step.{take_step, drain_step}
use Rattle.discipline.specs.Table.{owned, owns, others, is_local, is_dirty}
use Rattle.discipline.specs.Rules.{load_breaks, store_breaks, acquire_breaks, release_breaks, broken_of}
use Rattle.discipline.specs.Step.{judged_of, next_held, next_elsewhere, next_broken, checked_take, checked_of}
use Rattle.discipline.specs.Meaning.{Against, at_end, fence_waits, swap_waits, buffer_full, load_local, load_dirty, store_others, swap_others, acquire_owned, acquire_pending, release_others, release_waits, Stops, stops_take, stops_drain, Least, Taken, none, more}

-- a number and what it says of a relation: the smallest that stands, or 0 and none does
pub record Judges (R : ℕ → Type 0) (n : ℕ) : Type 0 where
  pub stands : (n ≡ 0 → ⊥) → R n
  pub smallest : (m : ℕ) → R m → (n ≡ 0 → ⊥) × (n ≤ m)

never : {R : ℕ → Type 0} → ((m : ℕ) → R m → ⊥) → Judges R 0
never h = record { stands = λ z. absurd (z refl); smallest = λ m r. absurd (h m r) }

-- one reason, or two of which the first has the smaller number
one : {R : ℕ → Type 0} (b : Bool) (n : ℕ) → 0 < n → (b ≡ true → R n) → ((m : ℕ) → R m → (b ≡ true) × (m ≡ n)) → Judges R (guard b n 0)
unfolding guard
one true n l h k = record { stands = λ z. h refl; smallest = λ m r. (λ z. omega arith, let e = (k m r).1 in omega arith) }
one false n l h k = record { stands = λ z. absurd (z refl); smallest = λ m r. absurd (false≢true (k m r).0) }

-- what the machine says comes first
judged_guard : (b : Bool) (n m : ℕ) → 0 < n → judged_of (guard b n 0) m ≡ guard b n m
unfolding guard
judged_guard true n m l = rw (ne_eqb n 0 (λ z. omega arith))
judged_guard false n m l = refl

data Either (b d : Bool) (n k m : ℕ) : Type 0 where
  first : b ≡ true → m ≡ n → Either b d n k m
  second : d ≡ true → m ≡ k → Either b d n k m

two : {R : ℕ → Type 0} (b d : Bool) (n k : ℕ) → 0 < n → n < k → (b ≡ true → R n) → (d ≡ true → R k) → ((m : ℕ) → R m → Either b d n k m) → Judges R (guard b n (guard d k 0))
unfolding guard
two true d n k l o h g e = record { stands = λ z. h refl; smallest = λ m r. (λ z. omega arith, low (e m r)) }
  where
    low : {m : ℕ} → Either true d n k m → n ≤ m
    low (first b q) = omega arith
    low (second b q) = omega arith
two false true n k l o h g e = record { stands = λ z. g refl; smallest = λ m r. (λ z. omega arith, low (e m r)) }
  where
    low : {m : ℕ} → Either false true n k m → k ≤ m
    low (first b q) = absurd (false≢true b)
    low (second b q) = omega arith
two false false n k l o h g e = record { stands = λ z. absurd (z refl); smallest = λ m r. absurd (none (e m r)) }
  where
    none : {m : ℕ} → Either false false n k m → ⊥
    none (first b q) = false≢true b
    none (second b q) = false≢true b

module _ (s : State) (t : ℕ) where
  abbrev pub judged_as : Action → ℕ
  judged_as a = judged_of (blocked_of s.depth (queue_of s t) a) (broken_of t (next_held s t) (queue_of s t) (next_elsewhere s t) a)

  read_cases : {c : ℕ} (m : ℕ) → Against s t (Read c) m → Either (not (owns (next_held s t) t) && is_local (next_held s t)) (not (owns (next_held s t) t) && (not (is_local (next_held s t)) && is_dirty (next_held s t))) 30 31 m
  read_cases m (load_local o l) = first (rw (o, l)) refl
  read_cases m (load_dirty o l d) = second (rw (o, l, d)) refl

  store_cases : {c : ℕ} {x : ℤ} (m : ℕ) → Against s t (Store c x) m → Either (leb s.depth (queue_of s t).count) (others (next_held s t) t) 22 32 m
  store_cases m (buffer_full h) = first h refl
  store_cases m (store_others h) = second h refl

  fence_cases : (m : ℕ) → Against s t Fence m → (pends (queue_of s t) ≡ true) × (m ≡ 21)
  fence_cases m (fence_waits h) = (h, refl)

  swap_cases : {c : ℕ} {old x : ℤ} (m : ℕ) → Against s t (Swap c old x) m → Either (pends (queue_of s t)) (others (next_held s t) t) 21 32 m
  swap_cases m (swap_waits h) = first h refl
  swap_cases m (swap_others h) = second h refl

  acquire_cases : {c : ℕ} {mark : Sharing} (m : ℕ) → Against s t (Acquire c mark) m → Either (owned (next_held s t)) (next_elsewhere s t) 33 34 m
  acquire_cases m (acquire_owned h) = first h refl
  acquire_cases m (acquire_pending h) = second h refl

  release_cases : {c : ℕ} (m : ℕ) → Against s t (Release c) m → Either (not (owns (next_held s t) t)) (pends (queue_of s t)) 35 36 m
  release_cases m (release_others h) = first (rw h) refl
  release_cases m (release_waits h) = second h refl

  silent_cases : {n : ℕ} {x : ℤ} (m : ℕ) → Against s t (Silent n x) m → ⊥
  silent_cases m = elim [ ]

  end_cases : (m : ℕ) → Against s t End m → m ≡ 20
  end_cases m at_end = refl

  judges : (a : Action) → Judges (Against s t a) (judged_as a)
  unfolding blocked_of broken_of load_breaks store_breaks acquire_breaks release_breaks
  judges (Read c) =
      two _ _ 30 31 (omega arith) (omega arith)
      (λ e. let b = and_parts _ _ e in load_local (not-true _ b.0) b.1) (λ e. let b = and_parts _ _ e in let d = and_parts _ _ b.1 in load_dirty (not-true _ b.0) (not-true _ d.0) d.1) read_cases
  judges (Store c x) = rw (judged_guard (leb s.depth (queue_of s t).count) 22 (guard (others (next_held s t) t) 32 0) (omega arith)) (two _ _ 22 32 (omega arith) (omega arith) buffer_full store_others store_cases)
  judges Fence = rw (judged_guard (pends (queue_of s t)) 21 0 (omega arith)) (one _ 21 (omega arith) fence_waits fence_cases)
  judges (Swap c old x) = rw (judged_guard (pends (queue_of s t)) 21 (guard (others (next_held s t) t) 32 0) (omega arith)) (two _ _ 21 32 (omega arith) (omega arith) swap_waits swap_others swap_cases)
  judges (Acquire c mark) = two _ _ 33 34 (omega arith) (omega arith) acquire_owned acquire_pending acquire_cases
  judges (Release c) = two _ _ 35 36 (omega arith) (omega arith) (λ e. release_others (not-true _ e)) release_waits release_cases
  judges (Silent n x) = never silent_cases
  judges End = record { stands = λ z. at_end; smallest = λ m r. (λ z. omega arith, let e = end_cases m r in omega arith) }

-- the number of a step is what is judged
module _ (s : State) where
  unless_number : (n : ℕ) (o : Outcome) → (unless n s o).number ≡ judged_of n o.number
  unfolding unless
  unless_number zero o = refl
  unless_number (suc n) o = rw (ne_eqb (suc n) 0 (λ z. omega arith))

  judged_zero : (n : ℕ) → judged_of n 0 ≡ n
  judged_zero zero = refl
  judged_zero (suc n) = rw (ne_eqb (suc n) 0 (λ z. omega arith))

  machine_number : (t : ℕ) → (take_step s t).number ≡ blocked_of s.depth (queue_of s t) (next_of s t)
  unfolding take_step
  machine_number t = unless_number _ _ ∙ judged_zero _

  pub take_number : (t : ℕ) → (checked_take s t).number ≡ judged_as s t (next_of s t)
  unfolding checked_take
  take_number t = unless_number (take_step s t).number _ ∙ rw (machine_number t) (ap (judged_of (blocked_of s.depth (queue_of s t) (next_of s t))) (unless_number (next_broken s t) _ ∙ judged_zero _))

  drain_number : (t : ℕ) → (drain_step s t).number ≡ guard (eqb (queue_of s t).count 0) 23 0
  unfolding drain_step
  drain_number t = unless_number _ _ ∙ judged_zero _

module _ (s : State) (x : ℕ) where
  drain_cases : 17 ≤ x → (m : ℕ) → Stops s x m → (eqb (queue_of s (x - 17)).count 0 ≡ true) × (m ≡ 23)
  drain_cases l m (stops_take h a) = absurd (omega arith)
  drain_cases l m (stops_drain h e) = (eq-eqb _ _ e, refl)

  take_cases : x < 17 → (m : ℕ) → Stops s x m → Against s (x - 1) (next_of s (x - 1)) m
  take_cases l m (stops_take h a) = a
  take_cases l m (stops_drain h e) = absurd (omega arith)

  step_judges : Judges (Stops s x) (checked_of s x).number
  unfolding checked_of
  step_judges = go (leb 17 x) refl
    where
      go : (b : Bool) → leb 17 x ≡ b → Judges (Stops s x) (pick b (drain_step s (x - 17)) (checked_take s (x - 1))).number
      go true h =
          let l = leb-true _ _ h in
          rw (drain_number s (x - 17)) (one _ 23 (omega arith) (λ e. stops_drain l (eqb-true _ _ e)) (drain_cases l))
      go false h =
          let l = leb-false _ _ h in
          let j = judges s (x - 1) (next_of s (x - 1)) in
          rw (take_number s (x - 1)) (record { stands = λ z. stops_take l (j.stands z); smallest = λ m r. j.smallest m (take_cases l m r) })

  -- an item that is stopped is stopped for the smallest reason that stands against it
  pub stopped_least : ((checked_of s x).number ≡ 0 → ⊥) → Least s x (checked_of s x).number
  stopped_least n = record { stands = step_judges.stands n; smallest = λ m r. (step_judges.smallest m r).1 }

  -- no item is stopped otherwise
  pub taken_if_nothing : ((m : ℕ) → Stops s x m → ⊥) → (checked_of s x).number ≡ 0
  taken_if_nothing h = go (checked_of s x).number refl
    where
      go : (n : ℕ) → (checked_of s x).number ≡ n → n ≡ 0
      go zero e = refl
      go (suc n) e = absurd (h _ (step_judges.stands (λ z. omega arith)))

  pub nothing_if_taken : (checked_of s x).number ≡ 0 → (m : ℕ) → Stops s x m → ⊥
  nothing_if_taken z m r = (step_judges.smallest m r).0 z

-- the two ways that a run goes at its first item
module _ (s : State) (k x : ℕ) (xs : List ℕ) where
  abbrev onward : Ran
  onward = run_of checked_of (checked_of s x).state (suc k) xs

  abbrev halted : Ran
  halted = record { state = s; place = k; number = (checked_of s x).number }

-- an answer 0 means that every item was taken
pub ran_taken : (s : State) (k : ℕ) (xs : List ℕ) → (run_of checked_of s k xs).number ≡ 0 → Taken s xs (run_of checked_of s k xs).state × ((run_of checked_of s k xs).place ≡ k + length xs)
unfolding run_of
ran_taken s k [] e = (none, omega arith)
ran_taken s k (x ∷ xs) e = go (eqb (checked_of s x).number 0) refl (λ z. ran_taken (checked_of s x).state (suc k) xs z) e
  where
    go : (b : Bool) → eqb (checked_of s x).number 0 ≡ b → ((onward s k x xs).number ≡ 0 → Taken (checked_of s x).state xs (onward s k x xs).state × ((onward s k x xs).place ≡ suc k + length xs)) → (pick b (onward s k x xs) (halted s k x xs)).number ≡ 0 → Taken s (x ∷ xs) (pick b (onward s k x xs) (halted s k x xs)).state × ((pick b (onward s k x xs) (halted s k x xs)).place ≡ k + suc (length xs))
    go true q h e = let r = h e in (more (eqb-true _ _ q) r.0, let p = r.1 in omega arith)
    go false q h e = absurd (eqb-false _ _ q e)

-- any other number means that the items before the place were taken, and that the item there is stopped for that reason and no smaller one
pub record Halts (s : State) (k : ℕ) (xs : List ℕ) (r : Ran) : Type 0 where
  pub after : ℕ
  pub place : r.place ≡ k + after
  pub there : after < length xs
  pub before : Taken s (take after xs) r.state
  pub least : Least r.state (get_or xs after 0) r.number

pub ran_halts : (s : State) (k : ℕ) (xs : List ℕ) → ((run_of checked_of s k xs).number ≡ 0 → ⊥) → Halts s k xs (run_of checked_of s k xs)
unfolding run_of
ran_halts s k [] n = absurd (n refl)
ran_halts s k (x ∷ xs) n = go (eqb (checked_of s x).number 0) refl (λ z. ran_halts (checked_of s x).state (suc k) xs z) n
  where
    go : (b : Bool) → eqb (checked_of s x).number 0 ≡ b → (((onward s k x xs).number ≡ 0 → ⊥) → Halts (checked_of s x).state (suc k) xs (onward s k x xs)) → ((pick b (onward s k x xs) (halted s k x xs)).number ≡ 0 → ⊥) → Halts s k (x ∷ xs) (pick b (onward s k x xs) (halted s k x xs))
    go true q h n =
        let r = h n in
        let p = r.place in
        let l = r.there in
        record { after = suc r.after; place = omega arith; there = omega arith; before = more (eqb-true _ _ q) r.before; least = r.least }
    go false q h n = record { after = 0; place = omega arith; there = omega arith; before = none; least = stopped_least s x n }
