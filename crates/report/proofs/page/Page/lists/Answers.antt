use Rattle.std.proofs.Common.{arith}
use Rattle.report.specs.Text.{lists}
use Rattle.report.proofs.Parts.{both, same_size}
use Rattle.report.proofs.page.Page.lists.Goals as goal

pub line-requires-2 : goal.line-requires-2
line-requires-2 c = let n = same_size c.line.ensures.puts in record { leaves = omega arith }

pub returns : goal.returns
unfolding lists
returns c = record { puts = rw (← c.first.ensures.value, ← c.first-2.ensures.value) (both c.line.ensures.puts c.line-2.ensures.puts); within = omega arith }
