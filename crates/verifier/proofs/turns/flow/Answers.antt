-- The flow into the target first, then that into the next point, if the instruction goes on.
use mathlib.Core.Path.{refl}
use Rattle.verifier.proofs.PostingLaws.{exits, once-on, once-stop}
use Rattle.verifier.proofs.TurnLaws.{flow-parts, flow-on, flow-ends}
use Rattle.verifier.proofs.turns.flow.Goals as goal

pub returns-in_err-met : goal.returns-in_err-met
returns-in_err-met c = rw (exits _ _ c.from_residual.ensures.1) (once-stop _ _ _ _ _ (c.in_err-met.ensures _) _ _ (flow-parts _ _ _ _ _) refl _ refl)

pub returns-then-goes_on : goal.returns-then-goes_on
returns-then-goes_on c =
    once-on _ _ _ _ _ (c.in_ok-met.ensures _) _ _ (flow-on _ _ _ _ _ _ c.goes_on.ensures c.if-goes_on.true) refl _ (c.flow_into.ensures _)

pub returns-else-goes_on : goal.returns-else-goes_on
returns-else-goes_on c =
    once-on _ _ _ _ _ (c.in_ok-met.ensures _) _ _ (flow-ends _ _ _ _ _ _ c.goes_on.ensures c.if-goes_on.false) refl _ (c.start_at.ensures _ _)
