-- Each way out gives what the definition says: 10, 8, the reason, and the item that is taken.
use Rattle.std.proofs.Common.{◌≡◌, true, false, sym, refl, ◌∙◌}
use Rattle.std.proofs.lemmas.Result.{err_from_is_err_and}
use Rattle.reader.specs.Rules.{item_fits}
use Rattle.stepping.specs.Range.{in_range_of}
use Rattle.stepping.specs.Step.{stepped_of}
use Rattle.stepping.proofs.Exact.{range_in}
use Rattle.stepping.proofs.step.take.Goals as goal

pub returns-then-not-is_in_range : goal.returns-then-not-is_in_range
unfolding stepped_of
returns-then-not-is_in_range c =
    let r : in_range_of c.args.s.now ≡ false = sym c.is_in_range.ensures ∙ c.if-not-is_in_range.true in
    rw r refl

pub returns-then-not-item_fits : goal.returns-then-not-item_fits
unfolding stepped_of
returns-then-not-item_fits c =
    let r : in_range_of c.args.s.now ≡ true = sym c.is_in_range.ensures ∙ c.if-not-is_in_range.false in
    let f : item_fits c.args.s.now.threads c.args.item ≡ false = rw c.from.ensures at (sym c.item_fits.ensures ∙ c.if-not-item_fits.true) in
    rw (r, f) refl

pub stepped-requires : goal.stepped-requires
stepped-requires c =
    let r = sym c.is_in_range.ensures ∙ c.if-not-is_in_range.false in
    (record { in_range = range_in c.args.s.now r; shaped = c.requires }, rw c.from.ensures at (sym c.item_fits.ensures ∙ c.if-not-item_fits.false))

pub returns-in_err-stepped : goal.returns-in_err-stepped
unfolding stepped_of
returns-in_err-stepped c =
    let p = err_from_is_err_and c.from_residual.result c.from_residual.ensures.1 in
    let r : in_range_of c.args.s.now ≡ true = sym c.is_in_range.ensures ∙ c.if-not-is_in_range.false in
    let f : item_fits c.args.s.now.threads c.args.item ≡ true = rw c.from.ensures at (sym c.item_fits.ensures ∙ c.if-not-item_fits.false) in
    rw (p.1, p.2, r, f, ← c.in_err-stepped.ensures) refl

pub returns : goal.returns
unfolding stepped_of
returns c =
    let r : in_range_of c.args.s.now ≡ true = sym c.is_in_range.ensures ∙ c.if-not-is_in_range.false in
    let f : item_fits c.args.s.now.threads c.args.item ≡ true = rw c.from.ensures at (sym c.item_fits.ensures ∙ c.if-not-item_fits.false) in
    rw (r, f, ← c.in_ok-stepped.ensures) refl
