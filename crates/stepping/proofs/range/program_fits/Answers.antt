use Rattle.std.proofs.Common.{rules}
use borrow.Author.Tests.{le-leb}
use Rattle.stepping.specs.Range.{instruction_fits, program_fits}
use Rattle.stepping.proofs.All.{below_from_range}
use Rattle.stepping.proofs.range.program_fits.Goals as goal

pub returns-then-count-le-INSTRUCTIONS : goal.returns-then-count-le-INSTRUCTIONS
unfolding program_fits
returns-then-count-le-INSTRUCTIONS c =
    rw (le-leb _ _ c.if-count-le-INSTRUCTIONS.true) (below_from_range (instruction_fits c.args.s.now c.args.t) _ c.all.ensures.ran (λ k b q e. search rules))
