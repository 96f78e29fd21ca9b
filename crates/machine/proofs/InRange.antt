-- In range is kept by every item, on both machines, and so are the sizes.
use Rattle.std.proofs.Common.{◌≡◌, ℕ, zero, suc, ◌-◌, ◌<◌, ◌≤◌, Bool, true, false, eqb, ltb, leb, refl, subst, arith, ltb-false, ltb-true, lt-ltb, leb-false, leb-true}
use Rattle.std.proofs.lemmas.Bool.{false≢true}
use Rattle.reader.specs.declared.state.State.{State}
use Rattle.reader.specs.State.{no_queue, queue_of, position_of, count_of, register_of}
use Rattle.reader.specs.Rules.{pick, item_fits}
use Rattle.reader.specs.Drain.{drained_of}
use Rattle.reader.specs.Range.{InRange}
use Rattle.machine.specs.Action.{action_of, current_of, next_of}
use Rattle.machine.specs.Effect.{seen_of, guard, blocked_of, effect_of, took_of}
use Rattle.machine.specs.Run.{Outcome, unless}
use Rattle.machine.specs.Step.{next_effect, take_step, drain_step, step_of}
use Rattle.machine.specs.Plain.{at_once, ended_of, plain_effect, plain_step}
use Rattle.machine.proofs.Take.{current_in, end_step, drain_row, take_row, room}
use Rattle.machine.proofs.PlainTake.{plain_end}
use Rattle.machine.proofs.Ten.{effect_goes, effect_there}
use Rattle.machine.proofs.Kept.{in_drained, in_took}

-- what a step that is refused keeps, and one that is taken brings
pub unless_all : (P : State → Type 0) (n : ℕ) (s : State) (o : Outcome) → P s → (n ≡ 0 → P o.state) → P (unless n s o).state
unfolding unless
unless_all P zero s o p q = q refl
unless_all P (suc n) s o p q = p

-- by the test whether a program goes on
pub at_end_or : {P : Type 0} (s : State) (t : ℕ) → (position_of s t < count_of s t → P) → (count_of s t ≤ position_of s t → P) → P
at_end_or {P} s t p q = go (ltb (position_of s t) (count_of s t)) refl
  where
    go : (b : Bool) → ltb (position_of s t) (count_of s t) ≡ b → P
    go true e = p (ltb-true _ _ e)
    go false e = q (ltb-false _ _ e)

-- the action of a program that goes on
pub next_goes : (s : State) (t : ℕ) → position_of s t < count_of s t → next_of s t ≡ action_of (current_of s t) (position_of s t) (register_of s t (current_of s t).register)
unfolding next_of
next_goes s t l = rw (lt-ltb _ _ l)

module _ {s : State} (g : InRange s) {t : ℕ} (h : t < s.threads) where
  module _ (l : position_of s t < count_of s t) where
    pub took_in : blocked_of s.depth (queue_of s t) (next_of s t) ≡ 0 → InRange (took_of s t (current_of s t) (next_effect s t))
    unfolding seen_of
    took_in z =
        let c = current_in g h l in
        let v = seen_of s t (current_of s t) in
        let q = queue_of s t in
        let e = next_goes s t l in
        let n = rw e at z in
        rw e
        (in_took g h (current_of s t) (effect_of v q (action_of (current_of s t) (position_of s t) (register_of s t (current_of s t).register)))
        (effect_goes c _ _ v q l refl) (λ b. room v s.depth q _ n b) (effect_there c _ _ v q))

    pub plain_in : InRange (took_of s t (current_of s t) (plain_effect s t))
    unfolding seen_of at_once
    plain_in =
        let c = current_in g h l in
        let e = next_goes s t l in
        in_took g h (current_of s t) (plain_effect s t) (rw e (effect_goes c _ _ (seen_of s t (current_of s t)) no_queue l refl)) (λ b. absurd (false≢true b)) (λ b. absurd (false≢true b))

  take_goes : position_of s t < count_of s t → InRange (take_step s t).state
  unfolding take_step
  take_goes l = unless_all InRange _ s _ g (λ z. took_in l z)

  pub take_in : InRange (take_step s t).state
  take_in = at_end_or s t take_goes (λ l. subst (λ (o : Outcome). InRange o.state) (end_step s t l) g)

  plain_goes : position_of s t < count_of s t → InRange (plain_step s t).state
  unfolding plain_step
  plain_goes l = unless_all InRange _ s _ g (λ z. plain_in l)

  pub plain_step_in : InRange (plain_step s t).state
  plain_step_in = at_end_or s t plain_goes (λ l. subst (λ (o : Outcome). InRange o.state) (plain_end s t l) g)

  pub drain_in : InRange (drain_step s t).state
  unfolding drain_step guard
  drain_in = unless_all InRange _ s _ g (λ z. in_drained g h (some (queue_of s t).count z))
    where
      some : (n : ℕ) → guard (eqb n 0) 23 0 ≡ 0 → 0 < n
      some zero z = absurd (omega arith)
      some (suc n) z = omega arith

-- an item that is right for a state in range
pub step_in : {s : State} (x : ℕ) → InRange s → item_fits s.threads x ≡ true → InRange (step_of s x).state
unfolding step_of
step_in {s} x g e = go (leb 17 x) refl
  where
    go : (b : Bool) → leb 17 x ≡ b → InRange (pick b (drain_step s (x - 17)) (take_step s (x - 1))).state
    go true h = drain_in g (drain_row s.threads x e (leb-true _ _ h) g.threads)
    go false h = take_in g (take_row s.threads x e (leb-false _ _ h)).1

-- the sizes never change
pub plain_threads : (s : State) (t : ℕ) → (plain_step s t).state.threads ≡ s.threads
unfolding plain_step took_of
plain_threads s t = unless_all (λ (m : State). m.threads ≡ s.threads) (ended_of (next_of s t)) s _ refl (λ z. refl)

pub step_threads : (s : State) (x : ℕ) → (step_of s x).state.threads ≡ s.threads
unfolding step_of take_step drain_step took_of drained_of
step_threads s x = go (leb 17 x)
  where
    go : (b : Bool) → (pick b (drain_step s (x - 17)) (take_step s (x - 1))).state.threads ≡ s.threads
    go true = unless_all (λ (m : State). m.threads ≡ s.threads) (guard (eqb (queue_of s (x - 17)).count 0) 23 0) s _ refl (λ z. refl)
    go false = unless_all (λ (m : State). m.threads ≡ s.threads) (blocked_of s.depth (queue_of s (x - 1)) (next_of s (x - 1))) s _ refl (λ z. refl)
