use Rattle.std.proofs.Common.{◌≡◌, ℕ}
use Rattle.reader.specs.declared.state.State.{State}
use Rattle.machine.specs.Hurdle.{number_of, outcome_of}
use Rattle.machine.specs.Plain.{IsThread, plain_of}
use Rattle.machine.proofs.Steps.{taken_has, refused_stays}
use Rattle.machine.proofs.Take.{hurdle_nonzero}
use Rattle.machine.proofs.PlainRun.{plain_keeps, plain_stays}
use Rattle.machine.proofs.plain.OneMemoryMachine.step.Goals as goal

pub returns-clause-keeps : goal.returns-clause-keeps
returns-clause-keeps c =
    let e : outcome_of number_of c.stepped.new.s c.stepped.result ≡ plain_of c.args.s.now c.args.item = rw c.from.ensures at c.stepped.ensures in
    taken_has number_of _ _ (λ (m : State). (x : ℕ) → IsThread c.args.s.now x → IsThread m x) c.stepped.result e (λ z x h. plain_keeps c.args.s.now c.args.item x c.requires h z)

pub returns-clause-stays : goal.returns-clause-stays
returns-clause-stays c =
    let e : outcome_of number_of c.stepped.new.s c.stepped.result ≡ plain_of c.args.s.now c.args.item = rw c.from.ensures at c.stepped.ensures in
    refused_stays number_of _ _ c.args.s.now hurdle_nonzero c.stepped.result e (plain_stays c.args.s.now c.args.item)
