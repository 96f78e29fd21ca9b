use Rattle.std.proofs.Common.{rules, ◌≡◌, ◌≤◌, arith, w32, to_z, of_z}
use Rattle.std.proofs.lemmas.Result.{err_from_is_err_and}
use Rattle.reader.specs.Limits.{DEPTH}
use Rattle.machine.proofs.Take.{found_position, found_lookable}
use Rattle.machine.proofs.PlainTake.{at_once_puts, plain_ended, plain_step_lem}
use Rattle.machine.proofs.plain.stepped.Goals as goal

pub returns-in_err-next : goal.returns-in_err-next
returns-in_err-next c =
    let p = err_from_is_err_and c.from_residual.result c.from_residual.ensures.1 in
    rw (p.1, p.2) (plain_ended c.in_err-next.ensures.ended)

pub change-requires : goal.change-requires
change-requires c =
    let f : c.empty.result.count ≤ DEPTH = rw c.empty.ensures (omega arith) in
    (found_position c.requires.0 c.requires.1 c.in_ok-next.ensures.next, f)

pub apply-requires : goal.apply-requires
apply-requires c = (found_lookable c.requires.0 c.requires.1 c.in_ok-next.ensures.next, λ b. absurd (at_once_puts c.change.result c.at_once-e.ensures b))

pub returns : goal.returns
returns c =
    let w : to_z w32 (of_z w32 c.at_once-e.result.value) ≡ c.at_once-e.result.value = search rules in
    rw w (plain_step_lem c.requires.0 c.requires.1 c.in_ok-next.ensures.next c.empty.ensures c.change.ensures c.at_once-e.ensures c.apply.ensures)
