use Rattle.std.proofs.Common.{ℕ, ap}
use Rattle.reader.specs.declared.state.State.{State}
use Rattle.machine.specs.Run.{Outcome}
use Rattle.machine.proofs.Steps.{taken_has, refused_stays}
use Rattle.discipline.specs.Reason.{number_of}
use Rattle.discipline.specs.Run.{IsItem}
use Rattle.discipline.proofs.Keeps.{item_keeps}
use Rattle.discipline.proofs.One.{stays_checked}
use Rattle.discipline.proofs.Reasons.{reason_nonzero}
use Rattle.discipline.proofs.run.CheckedMachine.step.Goals as goal

pub returns-clause-keeps : goal.returns-clause-keeps
returns-clause-keeps c = taken_has number_of _ _ (λ (m : State). (x : ℕ) → IsItem c.args.s.now x → IsItem m x) c.stepped.result c.stepped.ensures (λ z x h. item_keeps c.args.s.now c.args.item x c.requires h z)

pub returns-clause-stays : goal.returns-clause-stays
returns-clause-stays c = refused_stays number_of _ _ c.args.s.now reason_nonzero c.stepped.result c.stepped.ensures (λ n. ap (λ (o : Outcome). o.state) ((stays_checked c.args.s.now c.args.item).stays n))
