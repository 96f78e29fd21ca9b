-- Each turn judges one item.
use Rattle.reader.specs.Case.{next, itself, item_judged}
use Rattle.reader.proofs.Each.{Going}
use Rattle.reader.proofs.schedule.items.Given as goal

abbrev pub invariant-loop : goal.invariant-loop
invariant-loop l = Going itself (item_judged l.case l.threads) l.n (next l.initial.at) l.counter (next l.at)
