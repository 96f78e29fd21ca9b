use Rattle.report.proofs.Turns.{PutFirst}
use Rattle.report.proofs.page.Page.line.Given as goal

-- the word and the numbers so far are put
abbrev pub invariant-loop-number : goal.invariant-loop-number
invariant-loop-number l = PutFirst l.word l.numbers l.number-index l.fn.self l.self
