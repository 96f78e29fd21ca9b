-- A run of one item is a step of it, and a step that is stopped answers with its number and does nothing else.
use Prim.Native.Nat.{ℕ, zero, suc}
use mathlib.Core.Bool.{Bool, true, false}
use mathlib.Core.Path.{◌≡◌, refl, sym}
use mathlib.Core.List.{List, [], ◌∷◌, ◌++◌}
use native.Mathlib.Omega.{arith}
use lib.ListN.{get_or, drop}
use lib.Dec.{eqb, leb}
use lib.IntN.{ℤ, pos}
use borrow.Author.Tests.{eqb-true, eqb-false}
use Rattle.reader.specs.declared.state.State.{State}
use Rattle.reader.specs.Rules.{pick, item_fits}
use Rattle.machine.specs.Run.{Outcome, Ran, refused_of, taken_of, unless, run_of, values_of, Answers}
use Rattle.machine.specs.Step.{drain_step}
use Rattle.discipline.specs.Run.{Items}
use Rattle.discipline.specs.Step.{checked_take, checked_of}

pub one_right : (threads x : ℕ) → item_fits threads x ≡ true → Items threads (x ∷ [])
one_right threads x e zero h = e
one_right threads x e (suc k) h = absurd (omega arith)

-- an item that is stopped reads nothing and leaves the state
pub record Stays (s : State) (o : Outcome) : Type 0 where
  pub stays : (o.number ≡ 0 → ⊥) → o ≡ refused_of s o.number

stays_taken : (s m : State) (v : ℤ) → Stays s (taken_of m v)
stays_taken s m v = record { stays = λ n. absurd (n refl) }

stays_unless : (n : ℕ) (s : State) (o : Outcome) → Stays s o → Stays s (unless n s o)
unfolding unless
stays_unless zero s o h = h
stays_unless (suc n) s o h = record { stays = λ z. refl }

stays_pick : (b : Bool) (s : State) (o p : Outcome) → Stays s o → Stays s p → Stays s (pick b o p)
stays_pick true s o p h k = h
stays_pick false s o p h k = k

pub stays_checked : (s : State) (x : ℕ) → Stays s (checked_of s x)
unfolding checked_of drain_step checked_take
stays_checked s x = stays_pick (leb 17 x) s _ _ (stays_unless _ s _ (stays_taken s _ _)) (stays_unless _ s _ (stays_unless _ s _ (stays_taken s _ _)))

by_number : (s : State) (o : Outcome) → Stays s o → (b : Bool) → eqb o.number 0 ≡ b → (r : Ran) (out : List ℤ) → r ≡ pick b (record { state = o.state; place = 1; number = 0 }) (record { state = s; place = 0; number = o.number }) → out ≡ pick b (o.value ∷ []) [] ++ drop r.place (pos 0 ∷ []) → record { state = r.state; number = r.number; value = get_or out 0 (pos 0) } ≡ o
by_number s o k true e r out p q = let n = eqb-true o.number 0 e in rw (q, p, ← n)
by_number s o k false e r out p q = let d = k.stays (eqb-false o.number 0 e) in rw (q, p) (sym d)

pub alone : (s : State) (x : ℕ) {r : Ran} {out : List ℤ} → Answers checked_of s (x ∷ []) (pos 0 ∷ []) r out → record { state = r.state; number = r.number; value = get_or out 0 (pos 0) } ≡ checked_of s x
unfolding run_of values_of
alone s x {r} {out} a = by_number s (checked_of s x) (stays_checked s x) _ refl r out a.ran a.wrote
