-- The number of a reason is never that of an item that is taken, and tells the reason.
use Rattle.std.proofs.Common.{◌≡◌, ℕ, ◌-◌, [], ◌∷◌, get_or, ltb, refl, arith}
use Rattle.reader.specs.Rules.{pick}
use Rattle.machine.specs.declared.hurdle.Hurdle.{Hurdle}
use Rattle.machine.specs.declared.hurdle.Hurdle.TheVariants.{AtEnd, Waits, Full, Empty}
use Rattle.machine.proofs.Take.{hurdle_nonzero}
use Rattle.machine.proofs.Told.{Tells, hurdle_of}
use Rattle.discipline.specs.declared.breach.Breach.{Breach}
use Rattle.discipline.specs.declared.breach.Breach.TheVariants.{LoadOfLocal, LoadWhileDirty, StoreToOthers, AcquireOfOwned, AcquireWhilePending, ReleaseOfOthers, ReleaseWhilePending}
use Rattle.discipline.specs.declared.breach.Reason.{Reason}
use Rattle.discipline.specs.declared.breach.Reason.TheVariants.{Blocked, Broken}
use Rattle.discipline.specs.Reason.{breach_number, number_of}

pub breach_nonzero : (b : Breach) → breach_number b ≡ 0 → ⊥
breach_nonzero LoadOfLocal e = omega arith
breach_nonzero LoadWhileDirty e = omega arith
breach_nonzero StoreToOthers e = omega arith
breach_nonzero AcquireOfOwned e = omega arith
breach_nonzero AcquireWhilePending e = omega arith
breach_nonzero ReleaseOfOthers e = omega arith
breach_nonzero ReleaseWhilePending e = omega arith

pub reason_nonzero : (r : Reason) → number_of r ≡ 0 → ⊥
reason_nonzero (Blocked hurdle) e = hurdle_nonzero hurdle e
reason_nonzero (Broken breach) e = breach_nonzero breach e

-- the rule of a number; of one that no rule has, the first
breach_of : ℕ → Breach
breach_of n = get_or (LoadOfLocal ∷ LoadWhileDirty ∷ StoreToOthers ∷ AcquireOfOwned ∷ AcquireWhilePending ∷ ReleaseOfOthers ∷ ReleaseWhilePending ∷ []) (n - 30) LoadOfLocal

breach_back : (b : Breach) → breach_of (breach_number b) ≡ b
unfolding breach_of
breach_back LoadOfLocal = refl
breach_back LoadWhileDirty = refl
breach_back StoreToOthers = refl
breach_back AcquireOfOwned = refl
breach_back AcquireWhilePending = refl
breach_back ReleaseOfOthers = refl
breach_back ReleaseWhilePending = refl

pub breach_tells : Tells breach_number
breach_tells = record { back = breach_of; backs = breach_back; refuses = breach_nonzero }

-- the machine's numbers are below 30
reason_of : ℕ → Reason
reason_of n = pick (ltb n 30) (Blocked (hurdle_of n)) (Broken (breach_of n))

reason_back : (r : Reason) → reason_of (number_of r) ≡ r
unfolding reason_of breach_of hurdle_of
reason_back (Blocked AtEnd) = refl
reason_back (Blocked Waits) = refl
reason_back (Blocked Full) = refl
reason_back (Blocked Empty) = refl
reason_back (Broken LoadOfLocal) = refl
reason_back (Broken LoadWhileDirty) = refl
reason_back (Broken StoreToOthers) = refl
reason_back (Broken AcquireOfOwned) = refl
reason_back (Broken AcquireWhilePending) = refl
reason_back (Broken ReleaseOfOthers) = refl
reason_back (Broken ReleaseWhilePending) = refl

pub reason_tells : Tells number_of
reason_tells = record { back = reason_of; backs = reason_back; refuses = reason_nonzero }
