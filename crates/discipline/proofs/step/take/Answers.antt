-- Each way out gives the checked step: the machine's hurdle, the rule that is broken, and what is taken and marked.
use Rattle.std.proofs.Common.{rules, ◌≡◌, sym, ◌∙◌, refl, w32, to_z, of_z}
use Rattle.std.proofs.lemmas.Result.{err_from_is_err_and}
use Rattle.machine.proofs.Take.{found_lookable, ended_step, held_step, hurdle_nonzero}
use Rattle.discipline.proofs.Decided.{held_checked, breaks_checked, marked_checked}
use Rattle.discipline.proofs.Reasons.{breach_nonzero}
use Rattle.discipline.proofs.step.take.Goals as goal

pub returns-in_err-next : goal.returns-in_err-next
returns-in_err-next c =
    let p = err_from_is_err_and c.from_residual.result c.from_residual.ensures.1 in
    rw (p.1, p.2) (held_checked c.args.s.now c.args.t (ended_step c.in_err-next.ensures.ended) (hurdle_nonzero _))

pub returns-in_err-allowed : goal.returns-in_err-allowed
returns-in_err-allowed c =
    let p = err_from_is_err_and c.from_residual-in_err-allowed.result c.from_residual-in_err-allowed.ensures.1 in
    rw (p.1, p.2) (held_checked c.args.s.now c.args.t (held_step c.in_ok-next.ensures.next _ c.in_err-allowed.ensures) (hurdle_nonzero _))

pub of-held-requires : goal.of-held-requires
of-held-requires c = let l = found_lookable c.requires.0.in_range c.requires.1 c.in_ok-next.ensures.next in (l.thread, l.cell)

pub returns-in_err-allowed-2 : goal.returns-in_err-allowed-2
returns-in_err-allowed-2 c =
    let p = err_from_is_err_and c.from_residual-in_err-allowed-2.result c.from_residual-in_err-allowed-2.ensures.1 in
    rw (p.1, p.2) (breaks_checked c.in_ok-next.ensures.next (sym c.in_ok-allowed.ensures) (rw c.of-held.ensures at c.in_err-allowed-2.ensures) (breach_nonzero _))

pub put-requires : goal.put-requires
put-requires c = let l = found_lookable c.requires.0.in_range c.requires.1 c.in_ok-next.ensures.next in (l.thread, l.cell)

pub returns : goal.returns
returns c =
    let w : to_z w32 (of_z w32 c.carry_out-value.result) ≡ c.carry_out-value.result = search rules in
    rw w
    (marked_checked c.in_ok-next.ensures.next (sym c.in_ok-allowed.ensures) (rw c.of-held.ensures at c.in_ok-allowed-2.ensures) refl
    c.carry_out-value.ensures
    (c.put.ensures ∙ rw (c.marked.ensures, c.of-held.ensures) refl))
