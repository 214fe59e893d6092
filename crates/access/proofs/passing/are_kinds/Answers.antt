-- An argument of another kind refuses all.
use Rattle.std.proofs.Math.Path.{sym}
use Rattle.std.proofs.Common.{◌∙◌}
use Rattle.definition.specs.Answers.{need}
use Rattle.access.specs.Passing.{kinds-all, kinds-none, kinds-on, kinds-off}
use Rattle.access.proofs.passing.are_kinds.Goals as goal

pub loop-i-init : goal.loop-i-init
loop-i-init c = (c.argument_count-n.ensures, kinds-all _ _ _ _)

pub returns-then-not-is_kind : goal.returns-then-not-is_kind
unfolding need
returns-then-not-is_kind c =
    sym (kinds-off _ _ _ _ _ (rw c.loop-i.invariant.0 at c.loop-i-test.true) _ _ (rw c.from.ensures at c.operand-v.ensures)
    (rw c.argument_at.ensures at (sym c.is_kind.ensures ∙ c.if-not-is_kind.true))) ∙ c.loop-i.invariant.1

pub loop-i-preserved : goal.loop-i-preserved
loop-i-preserved c = (
  c.loop-i.invariant.0,
  sym (kinds-on _ _ _ _ _ (rw c.loop-i.invariant.0 at c.loop-i-test.true) _ _ (rw c.from.ensures at c.operand-v.ensures)
      (rw c.argument_at.ensures at (sym c.is_kind.ensures ∙ c.if-not-is_kind.false))) ∙ c.loop-i.invariant.1,
)

pub returns : goal.returns
unfolding need
returns c = sym (kinds-none _ _ _ _ _ (rw c.loop-i.invariant.0 at c.loop-i-test.false)) ∙ c.loop-i.invariant.1
