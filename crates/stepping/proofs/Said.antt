-- The definition of the stepping call says what the description says, for every state and every byte.
use Prim.Native.Nat.{ℕ, ◌≤◌}
use mathlib.Core.Bool.{Bool, true, false}
use mathlib.Core.Path.{◌≡◌, refl, sym, ap, ◌∙◌}
use native.Mathlib.Omega.{arith}
use lib.Dec.{eqb}
use borrow.Author.Tests.{eqb-true, eqb-false}
use Rattle.std.proofs.lemmas.Bool.{false≢true}
use Rattle.reader.specs.declared.state.State.{State}
use Rattle.reader.specs.Rules.{item_fits}
use Rattle.reader.specs.Range.{InRange}
use Rattle.machine.specs.declared.action.Action.{Action}
use Rattle.discipline.specs.Check.{answer, thread_of}
use Rattle.discipline.specs.Meaning.{Against, at_end, fence_waits, swap_waits, buffer_full, load_local, load_dirty, store_others, swap_others, acquire_owned, acquire_pending, release_others, release_waits, Stops, stops_take, stops_drain}
use Rattle.discipline.specs.Step.{checked_of}
use Rattle.discipline.proofs.One.{stays_checked}
use Rattle.discipline.proofs.Meaning.{stopped_least, nothing_if_taken}
use Rattle.stepping.specs.Step.{kept_of, carried_of, stepped_of}
use Rattle.stepping.specs.Said.{Said}
use Rattle.stepping.proofs.Exact.{range_in, in_range}
use Rattle.stepping.proofs.Cases.{answered_taken, answered_stopped, stepped_cases}
use Rattle.machine.specs.Run.{Outcome}

-- no reason against an item has a number below 20, so 8 and 10 are never its number
against_high : {s : State} {t : ℕ} (a : Action) (n : ℕ) → Against s t a n → 20 ≤ n
against_high a n at_end = omega arith
against_high a n (fence_waits e) = omega arith
against_high a n (swap_waits e) = omega arith
against_high a n (buffer_full e) = omega arith
against_high a n (load_local e f) = omega arith
against_high a n (load_dirty e f g) = omega arith
against_high a n (store_others e) = omega arith
against_high a n (swap_others e) = omega arith
against_high a n (acquire_owned e) = omega arith
against_high a n (acquire_pending e) = omega arith
against_high a n (release_others e) = omega arith
against_high a n (release_waits e) = omega arith

stops_high : {s : State} {x : ℕ} (n : ℕ) → Stops s x n → 20 ≤ n
stops_high n (stops_take h a) = against_high _ n a
stops_high n (stops_drain h e) = omega arith

module _ (s : State) (x : ℕ) where
  -- 10
  said_out : (InRange s → ⊥) → Said s x (kept_of s 10)
  said_out o = record {
    out_of_range = λ n. refl;
    ten = λ e. o;
    no_item = λ g f. absurd (o g);
    eight = λ e. absurd (omega arith);
    as_above = λ g f. absurd (o g);
    least = λ g f n. absurd (o g);
    unopposed = λ e. absurd (omega arith);
    keeps = λ n. refl;
    steps = λ e. absurd (omega arith);
    taken = λ e. absurd (omega arith);
    refused = λ n. refl;
    nobody_0 = λ e. refl;
    nobody_8 = λ e. refl;
    nobody_10 = λ e. refl;
    stopped = λ a b c. absurd (c refl);
  }

  module _ (g : InRange s) where
    -- 8
    said_no_item : item_fits s.threads x ≡ false → Said s x (kept_of s 8)
    said_no_item f = record {
      out_of_range = λ n. absurd (n g);
      ten = λ e. absurd (omega arith);
      no_item = λ h k. refl;
      eight = λ e. (g, f);
      as_above = λ h k. absurd (false≢true (sym f ∙ k));
      least = λ h k n. absurd (false≢true (sym f ∙ k));
      unopposed = λ e. absurd (omega arith);
      keeps = λ n. refl;
      steps = λ e. absurd (omega arith);
      taken = λ e. absurd (omega arith);
      refused = λ n. refl;
      nobody_0 = λ e. refl;
      nobody_8 = λ e. refl;
      nobody_10 = λ e. refl;
      stopped = λ a b c. absurd (b refl);
    }

    module _ (f : item_fits s.threads x ≡ true) where
      -- an item that is taken
      said_taken : (checked_of s x).number ≡ 0 → Said s x (record { answer = answer 0 1 0; state = (checked_of s x).state })
      said_taken z = record {
        out_of_range = λ n. absurd (n g);
        ten = λ e. absurd (omega arith);
        no_item = λ h k. absurd (false≢true (sym k ∙ f));
        eight = λ e. absurd (omega arith);
        as_above = λ h k. sym z;
        least = λ h k n. absurd (n refl);
        unopposed = λ e. nothing_if_taken s x z;
        keeps = λ n. absurd (n refl);
        steps = λ e. refl;
        taken = λ e. refl;
        refused = λ n. absurd (n refl);
        nobody_0 = λ e. refl;
        nobody_8 = λ e. refl;
        nobody_10 = λ e. refl;
        stopped = λ a b c. absurd (a refl);
      }

      -- an item that is stopped
      said_stopped : ((checked_of s x).number ≡ 0 → ⊥) → Said s x (record { answer = answer (checked_of s x).number 0 (thread_of x); state = (checked_of s x).state })
      said_stopped n =
          let l = stopped_least s x n in
          let high : 20 ≤ (checked_of s x).number = stops_high _ l.stands in
          record {
            out_of_range = λ o. absurd (o g);
            ten = λ e. absurd (omega arith);
            no_item = λ h k. absurd (false≢true (sym k ∙ f));
            eight = λ e. absurd (omega arith);
            as_above = λ h k. refl;
            least = λ h k m. l;
            unopposed = λ e. absurd (n e);
            keeps = λ m. ap (λ (o : Outcome). o.state) ((stays_checked s x).stays n);
            steps = λ e. absurd (n e);
            taken = λ e. absurd (n e);
            refused = λ m. refl;
            nobody_0 = λ e. absurd (n e);
            nobody_8 = λ e. absurd (omega arith);
            nobody_10 = λ e. absurd (omega arith);
            stopped = λ a b c. refl;
          }

      said_carried : Said s x (carried_of (checked_of s x) x)
      said_carried = go (eqb (checked_of s x).number 0) refl
        where
          go : (b : Bool) → eqb (checked_of s x).number 0 ≡ b → Said s x (carried_of (checked_of s x) x)
          go true e = let z = eqb-true _ _ e in rw (answered_taken (checked_of s x).number x z) (said_taken z)
          go false e = let n = eqb-false _ _ e in rw (answered_stopped (checked_of s x).number x n) (said_stopped n)

  pub said : Said s x (stepped_of s x)
  said =
      stepped_cases s x (Said s x)
      (λ e. said_out (λ g. false≢true (sym e ∙ in_range s g)))
      (λ e f. said_no_item (range_in s e) f)
      (λ e f. said_carried (range_in s e) f)
