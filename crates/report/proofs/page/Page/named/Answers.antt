use Rattle.report.specs.Text.{named}
use Rattle.report.proofs.Parts.{both}
use Rattle.report.proofs.page.Page.named.Goals as goal

pub returns : goal.returns
unfolding named
returns c = both c.text.ensures c.natural.ensures
