use Rattle.stepping.proofs.Shape.{shaped}
use Rattle.stepping.proofs.step.stepped.Goals as goal

pub take-requires : goal.take-requires
take-requires c = shaped c.args.s _ c.well_formed.0
