-- Each turn is one step, and its value passes through a local.
use Rattle.std.proofs.Common.{rules, ◌≡◌, length, get_or, refl, arith, w32, to_z, of_z}
use Rattle.machine.proofs.Runs.{turn, stopped, ended}
use Rattle.machine.proofs.run.run.Goals as goal

pub returns-in-Err : goal.returns-in-Err
returns-in-Err g c =
    let e = c.in-Err.ensures in
    rw e.stays (stopped g.M.Machine.step c.loop-k.invariant _ (rw e.stays at e.steps) c.loop-k-test.true e.refuses)

pub loop-k-preserved : goal.loop-k-preserved
loop-k-preserved g c =
    let e = c.in-Ok.ensures in
    let a = c.loop-k.invariant.good in
    let w : to_z w32 (of_z w32 c.in-Ok.value) ≡ c.in-Ok.value = search rules in
    rw w (turn g.M.Machine.step c.loop-k.invariant _ e.steps c.loop-k-test.true c.requires.room refl (λ i h. e.keeps (get_or c.args.items.now i 0) (a i h)))

pub returns : goal.returns
returns g c =
    let b = c.loop-k.invariant.below in
    let q : length c.args.items.now ≡ c.loop-k.k = omega arith in
    rw q (ended g.M.Machine.step c.loop-k.invariant (omega arith))
