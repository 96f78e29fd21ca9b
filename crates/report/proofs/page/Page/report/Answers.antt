-- The line of the answer takes its share of the room at most, and the lists the rest.
use Rattle.std.proofs.Common.{sym, ◌∙◌}
use Rattle.report.proofs.Whole.{answer_fits, lists_fit, with_lists, answer_alone}
use Rattle.report.proofs.page.Page.report.Goals as goal

pub answer-requires : goal.answer-requires
answer-requires c = answer_fits c.ranges.number c.ranges.place c.ranges.thread c.args.values.now c.args.memory.now c.requires

pub lists-requires : goal.lists-requires
lists-requires c = lists_fit c.ranges.number c.ranges.place c.ranges.thread c.args.values.now c.args.memory.now c.requires c.answer.ensures

pub returns-then-has_run : goal.returns-then-has_run
returns-then-has_run c =
    with_lists c.ranges.number c.ranges.place c.ranges.thread c.args.values.now c.args.memory.now c.requires c.answer.ensures c.args.cells (sym c.has_run.ensures ∙ c.if-has_run.true) c.lists.ensures

pub returns-else-has_run : goal.returns-else-has_run
returns-else-has_run c =
    answer_alone c.ranges.number c.ranges.place c.ranges.thread c.args.values.now c.args.memory.now c.requires c.answer.ensures c.args.cells (sym c.has_run.ensures ∙ c.if-has_run.false)
