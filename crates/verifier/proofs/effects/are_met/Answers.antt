-- The values are met one by one. Whether those that are left are met is always whether all are.
use mathlib.Core.Path.{sym, ap, ◌∙◌}
use mathlib.Core.Bool.{Bool}
use Rattle.verifier.specs.Trace.{Trace, after}
use Rattle.verifier.proofs.ChangeLaws.{met-notes, unmet-notes}
use Rattle.verifier.proofs.FlowLaws.{places-end, places-unmet, places-met}
use Rattle.verifier.proofs.ValueLaws.{values-start}
use Rattle.verifier.proofs.effects.are_met.Goals as goal

abbrev accepts : Trace → Bool
accepts w = w.accepts

pub loop-i-init : goal.loop-i-init
loop-i-init c = ap accepts (values-start _ _ _ _ c.argument_count-i-end.ensures)

pub returns-then-not-met : goal.returns-then-not-met
returns-then-not-met c =
    sym (ap accepts (places-unmet _ _ _ c.loop-i-test.true (sym c.meet_value.ensures ∙ unmet-notes _ (sym c.met.ensures ∙ c.if-not-met.true))))
    ∙ c.loop-i.invariant

pub loop-i-preserved : goal.loop-i-preserved
unfolding after
loop-i-preserved c =
    sym (ap accepts (places-met _ _ _ c.loop-i-test.true _ (sym c.meet_value.ensures ∙ met-notes _ (sym c.met.ensures ∙ c.if-not-met.false))))
    ∙ c.loop-i.invariant

pub returns : goal.returns
returns c = sym (ap accepts (places-end _ _ _ c.loop-i-test.false)) ∙ c.loop-i.invariant
