-- The values are met one by one. What is left of them, with the notes posted so far, is always the whole.
use mathlib.Core.Path.{sym, ◌∙◌}
use Rattle.verifier.proofs.ChangeLaws.{met-notes, unmet-notes}
use Rattle.verifier.proofs.FlowLaws.{meet-end, meet-unmet, meet-met}
use Rattle.verifier.proofs.PostingLaws.{rows-say}
use Rattle.verifier.proofs.ValueLaws.{values-posted}
use Rattle.verifier.proofs.flows.post_values.Goals as goal

pub loop-i-init : goal.loop-i-init
loop-i-init c = values-posted _ _ _ _ _ _ c.argument_count-i-end.ensures

pub returns-then-not-met : goal.returns-then-not-met
returns-then-not-met c =
    rows-say _ _ _ _ _
    (sym (meet-unmet _ _ _ _ _ c.loop-i-test.true (sym c.meet_value-m.ensures ∙ unmet-notes _ (sym c.met.ensures ∙ c.if-not-met.true))) ∙ c.loop-i.invariant)

pub loop-i-preserved : goal.loop-i-preserved
loop-i-preserved c =
    rw c.post_meeting-total.ensures
    (sym (meet-met _ _ _ _ _ c.loop-i-test.true _ (sym c.meet_value-m.ensures ∙ met-notes _ (sym c.met.ensures ∙ c.if-not-met.false)))
    ∙ c.loop-i.invariant)

pub returns : goal.returns
returns c = rows-say _ _ _ _ _ (sym (meet-end _ _ _ _ _ c.loop-i-test.false) ∙ c.loop-i.invariant)
