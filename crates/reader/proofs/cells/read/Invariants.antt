-- Each turn takes one cell record.
use Rattle.std.proofs.Common.{◌≡◌}
use Rattle.reader.specs.Case.{part_judged, cell_into}
use Rattle.reader.specs.Refusal.{part_at}
use Rattle.reader.proofs.Each.{Going}
use Rattle.reader.proofs.cells.read.Given as goal

abbrev pub invariant-loop-c : goal.invariant-loop-c
invariant-loop-c l =
    Going part_judged (cell_into l.case) l.c-end (part_at l.initial.at l.initial.state) l.c (part_at l.at l.state)
    × (l.state.threads ≡ l.initial.state.threads)
