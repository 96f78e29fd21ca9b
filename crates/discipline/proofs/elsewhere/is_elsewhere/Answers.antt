use Rattle.std.proofs.Common.{rules}
use Rattle.discipline.proofs.Searches.{elsewhere_from_range}
use Rattle.discipline.proofs.elsewhere.is_elsewhere.Goals as goal

pub returns : goal.returns
returns c = elsewhere_from_range c.args.s.now.queues c.args.t c.args.cell c.args.s.now.threads c.any.ensures.ran (λ k b q e. search rules)
