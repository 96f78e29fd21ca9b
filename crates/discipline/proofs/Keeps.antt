-- What an item that is taken keeps: a state that can be run on, with the same programs and as many threads.
use Prim.Native.Nat.{ℕ, ◌+◌, ◌<◌}
use mathlib.Core.Bool.{true}
use mathlib.Core.Path.{◌≡◌, refl, ◌∙◌}
use native.Mathlib.Omega.{arith}
use Rattle.reader.specs.declared.state.State.{State}
use Rattle.reader.specs.State.{position_of, count_of}
use Rattle.reader.specs.Rules.{item_fits}
use Rattle.reader.specs.Drain.{drained_of}
use Rattle.machine.specs.Effect.{blocked_of, took_of}
use Rattle.machine.proofs.Take.{next_end, by_kind}
use Rattle.machine.proofs.InRange.{at_end_or}
use Rattle.discipline.specs.Table.{holding_of}
use Rattle.discipline.specs.Run.{Runnable, IsItem}
use Rattle.discipline.specs.Step.{checked_of}
use Rattle.discipline.proofs.Sound.{drained_sound, took_sound}
use Rattle.discipline.proofs.Outcomes.{pending_there, drain_taken, neither, instruction_taken}

pub record Keeps (s m : State) : Type 0 where
  pub runnable : Runnable m
  pub code : m.code ≡ s.code
  pub counts : m.counts ≡ s.counts
  pub threads : m.threads ≡ s.threads

pub keeps_same : {s : State} → Runnable s → Keeps s s
keeps_same g = record { runnable = g; code = refl; counts = refl; threads = refl }

pub keeps_on : {s m o : State} → Keeps s m → Keeps m o → Keeps s o
keeps_on a b = record { runnable = b.runnable; code = b.code ∙ a.code; counts = b.counts ∙ a.counts; threads = b.threads ∙ a.threads }

-- a program goes on where its instruction is taken
pub taken_goes : (s : State) (t : ℕ) → t < 16 → (checked_of s (1 + t)).number ≡ 0 → position_of s t < count_of s t
unfolding blocked_of
taken_goes s t h z = at_end_or s t (λ k. k) (λ k. let e = rw (next_end s t k) at (neither s t h z).0 in absurd (omega arith))

module _ {s : State} (g : Runnable s) where
  drain_keeps : {t : ℕ} → t < s.threads → (checked_of s (17 + t)).number ≡ 0 → Keeps s (checked_of s (17 + t)).state
  unfolding drained_of
  drain_keeps {t} h z = rw (drain_taken s t z) (record { runnable = drained_sound g h (pending_there s t z); code = refl; counts = refl; threads = refl })

  take_keeps : {t : ℕ} → t < s.threads → (checked_of s (1 + t)).number ≡ 0 → Keeps s (checked_of s (1 + t)).state
  unfolding holding_of took_of
  take_keeps {t} h z =
      let n = g.in_range.threads in
      let b : t < 16 = omega arith in
      rw (instruction_taken s t b z) (record { runnable = took_sound g h (taken_goes s t b z) (neither s t b z).0; code = refl; counts = refl; threads = refl })

  pub checked_keeps : (x : ℕ) → item_fits s.threads x ≡ true → (checked_of s x).number ≡ 0 → Keeps s (checked_of s x).state
  checked_keeps = by_kind s.threads g.in_range.threads (λ x. (checked_of s x).number ≡ 0 → Keeps s (checked_of s x).state) (λ t h z. drain_keeps h z) (λ t h z. take_keeps h z)

-- an item that is right stays one
pub item_keeps : (s : State) (x y : ℕ) → IsItem s x → IsItem s y → (checked_of s x).number ≡ 0 → IsItem (checked_of s x).state y
item_keeps s x y a b z = let k = checked_keeps a.runnable x a.fits z in record { runnable = k.runnable; fits = rw k.threads b.fits }
