-- Three words with their numbers, and a newline.
use Rattle.report.specs.Text.{answer_line}
use Rattle.report.proofs.Parts.{both, first_fits, next_fits}
use Rattle.report.proofs.page.Page.answer.Goals as goal

pub named-requires : goal.named-requires
unfolding answer_line
named-requires c = first_fits _ _ _ (rw (← c.from.ensures) at c.requires)

pub named-requires-2 : goal.named-requires-2
unfolding answer_line
named-requires-2 c = first_fits _ _ _ (next_fits _ _ _ _ (rw (← c.from.ensures) at c.requires) c.named.ensures)

pub named-requires-3 : goal.named-requires-3
unfolding answer_line
named-requires-3 c =
    let f = rw (← c.from.ensures, ← c.from-2.ensures) at c.requires in
    first_fits _ _ _ (next_fits _ _ _ _ (next_fits _ _ _ _ f c.named.ensures) c.named-2.ensures)

pub text-requires : goal.text-requires
unfolding answer_line
text-requires c =
    let f = rw (← c.from.ensures, ← c.from-2.ensures) at c.requires in
    next_fits _ _ _ _ (next_fits _ _ _ _ (next_fits _ _ _ _ f c.named.ensures) c.named-2.ensures) c.named-3.ensures

pub returns : goal.returns
unfolding answer_line
returns c = rw (← c.from.ensures, ← c.from-2.ensures) (both c.named.ensures (both c.named-2.ensures (both c.named-3.ensures c.text.ensures)))
