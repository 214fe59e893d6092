use Rattle.constraints.proofs.Alones.{alone-next}
use Rattle.constraints.proofs.singles.first_alone.Goals as goal

pub loop-e-preserved : goal.loop-e-preserved
loop-e-preserved c = alone-next _ _ _ _ _ _ _ _ _ _ _ _ c.loop-e-test.true c.loop-e.invariant c.consider_alone-kept.ensures
