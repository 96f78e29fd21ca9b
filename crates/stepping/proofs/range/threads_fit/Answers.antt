use Rattle.std.proofs.Common.{rules}
use Rattle.stepping.specs.Range.{thread_fits}
use Rattle.stepping.proofs.All.{below_from_range}
use Rattle.stepping.proofs.range.threads_fit.Goals as goal

pub returns : goal.returns
returns c = below_from_range (thread_fits c.args.s.now) _ c.all.ensures.ran (λ k b q e. search rules)
