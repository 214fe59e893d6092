-- The receiver's note, those of the values, then the flows.
use Rattle.verifier.proofs.TurnLaws.{change-fits}
use Rattle.verifier.proofs.turns.flow_from.Goals as goal

pub returns : goal.returns
returns c = change-fits _ _ _ _ _ _ _ _ _ c.post_meeting-first.ensures c.post_values-second.ensures _ c.flow.ensures
