-- Each turn takes one program.
use Rattle.reader.specs.Case.{part_judged, program_into}
use Rattle.reader.specs.Refusal.{part_at}
use Rattle.reader.proofs.Each.{Going}
use Rattle.reader.proofs.programs.read.Given as goal

abbrev pub invariant-loop-t : goal.invariant-loop-t
invariant-loop-t l = Going part_judged (program_into l.case) l.t-end (part_at l.initial.at l.initial.state) l.t (part_at l.at l.state)
