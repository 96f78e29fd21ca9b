use Rattle.std.proofs.Common.{rules, tests, length, sym, ap, ◌∙◌, ltb}
use borrow.Author.Tests.{le-leb}
use Rattle.reader.specs.State.{no_pending}
use Rattle.stepping.specs.Range.{queue_fits}
use Rattle.stepping.proofs.All.{below_from_front}
use Rattle.stepping.proofs.range.queue_fits.Goals as goal

pub returns-then-q-depth : goal.returns-then-q-depth
unfolding queue_fits
returns-then-q-depth c =
    rw (le-leb _ _ c.if-q-depth.true) (below_from_front (λ e. ltb e.cell c.args.cells) no_pending c.args.q.now.count c.args.q.now.entries c.all.ensures.ran (search rules) (sym (ap length c.pending.ensures.stores) ∙ c.pending.ensures.many) (λ x b q e. search (rules, tests)))
