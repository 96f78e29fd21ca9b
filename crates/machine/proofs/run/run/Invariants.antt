-- Each turn is one step; the values so far stand in front, and every item may still be given.
use Rattle.machine.specs.Run.{AllTake}
use Rattle.machine.proofs.Runs.{Going}
use Rattle.machine.proofs.run.run.Given as goal

abbrev pub invariant-loop-k : goal.invariant-loop-k
invariant-loop-k g l = Going g.M.Machine.step (λ m. AllTake g.M.Machine.Takes m l.items) l.initial.s l.items l.initial.values l.s l.k l.values
