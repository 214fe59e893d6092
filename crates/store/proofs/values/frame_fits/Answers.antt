-- Class, depth, operands and locals are tested one after the other.
use mathlib.Core.Path.{◌∙◌, ap, sym}
use Prim.Native.Nat.{ℕ}
use borrow.Author.Tests.{le-leb, le-ltb, lt-leb, lt-ltb}
use Rattle.definition.specs.Lists.{all, stack}
use Rattle.definition.specs.Tables.{operand_at}
use Rattle.classfile.specs.Lists.{every-fails, every_first, every-last}
use Rattle.store.proofs.Laws.{frame-tests}
use Rattle.store.specs.Checks.{exists, value_in}
use Rattle.store.proofs.values.frame_fits.Goals as goal

pub returns-then-classes-at : goal.returns-then-classes-at
returns-then-classes-at c = sym (frame-tests _ _ _ _ ∙ (every-fails _ _ (rw (← c.at.ensures) (le-ltb _ _ c.if-classes-at.true))))

pub returns-then-depth-gt-OPERAND_LIMIT : goal.returns-then-depth-gt-OPERAND_LIMIT
returns-then-depth-gt-OPERAND_LIMIT c = sym (frame-tests _ _ _ _ ∙ (every_first _ _ (rw (← c.at.ensures) (lt-ltb _ _ c.if-classes-at.false)) ∙ (every-fails _ _ (rw (← c.at-depth.ensures) (lt-leb _ _ c.if-depth-gt-OPERAND_LIMIT.true)))))

pub returns-then-not-operands_fit : goal.returns-then-not-operands_fit
returns-then-not-operands_fit c =
    let frames = c.args.frames.now in
    sym (frame-tests _ _ _ _ ∙ (every_first _ _ (rw (← c.at.ensures) (lt-ltb _ _ c.if-classes-at.false)) ∙ (every_first _ _ (rw (← c.at-depth.ensures) (le-leb _ _ c.if-depth-gt-OPERAND_LIMIT.false)) ∙ (every-fails _ _ (ap (λ (d : ℕ). all (value_in (exists c.args.counts.now c.args.made)) (stack (operand_at frames c.args.b) d)) (sym c.at-depth.ensures) ∙ (sym c.operands_fit.ensures ∙ c.if-not-operands_fit.true))))))

pub returns : goal.returns
returns c =
    let frames = c.args.frames.now in
    c.locals_fit.ensures ∙ sym (frame-tests _ _ _ _ ∙ (every_first _ _ (rw (← c.at.ensures) (lt-ltb _ _ c.if-classes-at.false)) ∙ (every_first _ _ (rw (← c.at-depth.ensures) (le-leb _ _ c.if-depth-gt-OPERAND_LIMIT.false)) ∙ (every_first _ _ (ap (λ (d : ℕ). all (value_in (exists c.args.counts.now c.args.made)) (stack (operand_at frames c.args.b) d)) (sym c.at-depth.ensures) ∙ (sym c.operands_fit.ensures ∙ c.if-not-operands_fit.false)) ∙ (every-last _)))))
