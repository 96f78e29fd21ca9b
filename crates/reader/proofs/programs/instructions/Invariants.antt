-- Each turn takes one instruction.
use Rattle.reader.specs.Case.{part_judged, instruction_into}
use Rattle.reader.specs.Refusal.{part_at}
use Rattle.reader.proofs.Each.{Going}
use Rattle.reader.proofs.programs.instructions.Given as goal

abbrev pub invariant-loop-k : goal.invariant-loop-k
invariant-loop-k l = Going part_judged (instruction_into l.case l.t l.count) l.count (part_at l.initial.at l.initial.state) l.k (part_at l.at l.state)
