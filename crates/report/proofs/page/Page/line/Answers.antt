use mir.Facts.{to_z-of_z}
use Rattle.std.proofs.Common.{get_or, pos, w32, FitsSigned, rules, append-nil, arith}
use Rattle.report.specs.Text.{texts}
use Rattle.report.proofs.Turns.{byte_fits, number_fits, turn, ended}
use Rattle.report.proofs.page.Page.line.Goals as goal

pub loop-number-init : goal.loop-number-init
unfolding texts
loop-number-init c = let e = c.text.ensures.ends in record { puts = rw append-nil c.text.ensures; within = omega arith }

pub text-requires-in-loop-number : goal.text-requires-in-loop-number
text-requires-in-loop-number c = byte_fits _ _ _ _ _ c.loop-number.invariant 32 (omega arith) c.requires

pub signed-requires : goal.signed-requires
signed-requires c =
    let f : FitsSigned w32 (get_or c.args.numbers.now c.loop-number.number-index (pos 0)) = search rules in
    rw (to_z-of_z f) (number_fits _ _ _ _ _ c.loop-number.invariant (omega arith) _ c.text-in-loop-number.ensures f c.requires)

pub loop-number-preserved : goal.loop-number-preserved
loop-number-preserved c =
    let f : FitsSigned w32 (get_or c.args.numbers.now c.loop-number.number-index (pos 0)) = search rules in
    turn _ _ _ _ _ c.loop-number.invariant (omega arith) _ c.text-in-loop-number.ensures f _ (rw (to_z-of_z f) at c.signed.ensures)

pub text-requires-2 : goal.text-requires-2
text-requires-2 c = byte_fits _ _ _ _ _ c.loop-number.invariant 10 (omega arith) c.requires

pub returns : goal.returns
returns c = ended _ _ _ _ _ c.loop-number.invariant (omega arith) c.requires _ c.text-2.ensures
