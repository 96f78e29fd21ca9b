-- The description's number of each rule and of each reason.
use Rattle.std.specs.Prelude.{ℕ}
use Rattle.machine.specs.Hurdle.{number_of as hurdle_number}
use Rattle.discipline.specs.declared.breach.Breach.{Breach}
use Rattle.discipline.specs.declared.breach.Breach.TheVariants.{LoadOfLocal, LoadWhileDirty, StoreToOthers, AcquireOfOwned, AcquireWhilePending, ReleaseOfOthers, ReleaseWhilePending}
use Rattle.discipline.specs.declared.breach.Reason.{Reason}
use Rattle.discipline.specs.declared.breach.Reason.TheVariants.{Blocked, Broken}

abbrev pub breach_number : Breach → ℕ
-- "load of another's local cell"
breach_number LoadOfLocal = 30
-- "load of a shared cell not one's own, dirty flag set"
breach_number LoadWhileDirty = 31
-- "store or COMPARE-SWAP to another's cell"
breach_number StoreToOthers = 32
-- "ACQUIRE of an owned cell, one's own too"
breach_number AcquireOfOwned = 33
-- "ACQUIRE with a store to it pending elsewhere"
breach_number AcquireWhilePending = 34
-- "RELEASE of a cell not one's own"
breach_number ReleaseOfOthers = 35
-- "RELEASE with pending stores"
breach_number ReleaseWhilePending = 36

abbrev pub number_of : Reason → ℕ
number_of (Blocked hurdle) = hurdle_number hurdle
number_of (Broken breach) = breach_number breach
