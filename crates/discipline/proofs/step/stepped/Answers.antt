use Rattle.std.proofs.Common.{rules, ◌≡◌, ◌∙◌, w32, to_z, of_z}
use Rattle.std.proofs.lemmas.Result.{err_from_is_err_and}
use Rattle.machine.proofs.Take.{is_take, is_drain, take_there, drain_there}
use Rattle.discipline.proofs.Turns.{drain_item, take_item}
use Rattle.discipline.proofs.step.stepped.Goals as goal

pub take-requires : goal.take-requires
take-requires c = (c.requires.0, take_there c.args.item c.in-Take.t c.args.s.now.threads c.requires.1 c.requires.0.in_range.threads c.in-Take.ensures)

pub drain-requires : goal.drain-requires
drain-requires c = (c.requires.0.in_range, drain_there c.args.item c.in-Drain.t c.args.s.now.threads c.requires.1 c.requires.0.in_range.threads c.in-Drain.ensures)

pub returns-in_err-drain-in-Drain : goal.returns-in_err-drain-in-Drain
returns-in_err-drain-in-Drain c =
    let p = err_from_is_err_and c.from_residual.result c.from_residual.ensures.1 in
    let i = is_drain c.args.item c.in-Drain.t c.in-Drain.ensures in
    rw (p.1, p.2) (c.in_err-drain-in-Drain.ensures ∙ drain_item c.args.s.now i.0 i.1)

pub returns-in-Take : goal.returns-in-Take
returns-in-Take c =
    let i = is_take c.args.item c.in-Take.t c.in-Take.ensures in
    c.take.ensures ∙ take_item c.args.s.now i.0 i.1

pub returns-in_ok-drain-in-Drain : goal.returns-in_ok-drain-in-Drain
returns-in_ok-drain-in-Drain c =
    let i = is_drain c.args.item c.in-Drain.t c.in-Drain.ensures in
    let w : to_z w32 (of_z w32 c.in_ok-drain-in-Drain.field-0) ≡ c.in_ok-drain-in-Drain.field-0 = search rules in
    rw w (c.in_ok-drain-in-Drain.ensures ∙ drain_item c.args.s.now i.0 i.1)
