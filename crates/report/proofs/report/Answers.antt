use Rattle.std.proofs.Common.{rules}
use Rattle.report.proofs.Parts.{fronted}
use Rattle.report.proofs.report.Goals as goal

pub returns : goal.returns
returns c = fronted c.new-page.ensures.empty c.new-page.ensures.kept c.requires c.report.ensures c.len.ensures (search rules)
