-- The laws of Checked, one for each way out.
use Rattle.std.proofs.Common.{refl, arith}
use Rattle.std.proofs.lemmas.Result.{err_from_is_err_and}
use Rattle.reader.specs.Case.{refused_of}
use Rattle.reader.proofs.Refused.{refused}
use Rattle.discipline.proofs.Checked.{read_right, part_same, start_within, stop_there, runnable_read, items_read, checks_refused, checks_short_values, checks_short_memory, checks_whole, checks_stopped}
use Rattle.discipline.proofs.Reasons.{reason_nonzero}
use Rattle.discipline.proofs.check.judged.Goals as goal
use Rattle.discipline.proofs.check.judged.Goals.{then-values-read-via-then-values-read, then-values-read-via-else-values-read+then-memory-cells}

pub returns-in_err-read : goal.returns-in_err-read
unfolding refused_of
returns-in_err-read c =
    let p = err_from_is_err_and c.from_residual.result c.from_residual.ensures.1 in
    rw (p.1, p.2) (checks_refused _ _ _ c.in_err-read.ensures (refused c.in_err-read.field-0.0))

pub returns-then-values-read : goal.returns-then-values-read
returns-then-values-read c =
    elim c.then-values-read.branch [
      | then-values-read-via-then-values-read w ↦ checks_short_values _ _ _ c.in_ok-read.ensures refl w.if-values-read.true refl
      | then-values-read-via-else-values-read+then-memory-cells w ↦ checks_short_memory _ _ _ c.in_ok-read.ensures refl w.if-values-read.false w.if-memory-cells.true refl
    ]

pub slice_bounds-ran-count : goal.slice_bounds-ran-count
slice_bounds-ran-count c = start_within (read_right _ c.in_ok-read.ensures refl)

pub slice_bounds-ran-start : goal.slice_bounds-ran-start
slice_bounds-ran-start c = start_within (read_right _ c.in_ok-read.ensures refl)

pub ran-ended-requires : goal.ran-ended-requires
ran-ended-requires c =
    let w = read_right _ c.in_ok-read.ensures refl in
    (runnable_read w, items_read w (part_same c.args.case.now c.in_ok-read.read.start) c.args.values.now c.if-values-read.false)

pub shared_ref_as_front-copy_from_slice : goal.shared_ref_as_front-copy_from_slice
shared_ref_as_front-copy_from_slice c = (read_right _ c.in_ok-read.ensures refl).in_range.cells

pub overflow_add-read : goal.overflow_add-read
overflow_add-read c =
    let w = read_right _ c.in_ok-read.ensures refl in
    let h = stop_there w (part_same c.args.case.now c.in_ok-read.read.start) c.ran-ended.ensures (rw c.in-Some.is (reason_nonzero c.in-Some.reason)) in
    omega arith

pub bounds-case-read : goal.bounds-case-read
bounds-case-read c =
    let w = read_right _ c.in_ok-read.ensures refl in
    stop_there w (part_same c.args.case.now c.in_ok-read.read.start) c.ran-ended.ensures (rw c.in-Some.is (reason_nonzero c.in-Some.reason))

pub returns-in-None : goal.returns-in-None
returns-in-None c = rw c.of.ensures (checks_whole _ _ _ c.in_ok-read.ensures refl c.if-values-read.false c.if-memory-cells.false (part_same c.args.case.now c.in_ok-read.read.start) c.ran-ended.ensures (rw c.copy_from_slice.ensures.after refl) c.in-None.is)

pub returns-in-Some : goal.returns-in-Some
returns-in-Some c = rw c.stopped.ensures (checks_stopped _ _ _ c.in_ok-read.ensures refl c.if-values-read.false c.if-memory-cells.false (part_same c.args.case.now c.in_ok-read.read.start) c.ran-ended.ensures (rw c.copy_from_slice.ensures.after refl) c.in-Some.is refl)
