-- One test for 'broken', then the step of a store that is not.
use Rattle.std.proofs.Common.{sym, ◌∙◌}
use Rattle.execution.specs.Turns.{step-broken}
use Rattle.definition.specs.Tables.{tables}
use Rattle.execution.proofs.turns.step.Goals as goal

pub returns-then-is_broken : goal.returns-then-is_broken
returns-then-is_broken c =
    step-broken (tables c.args.counts.now c.args.classes.now c.args.kept.now c.args.cache.now c.args.ties.now c.args.subtypes.now c.args.objects.now c.args.frames.now) (sym c.is_broken.ensures ∙ c.if-is_broken.true)
