use mathlib.Core.Path.{sym, ◌∙◌}
use native.Mathlib.Omega.{arith}
use borrow.Author.Tests.{eqb-true}
use Rattle.std.proofs.lemmas.Bool.{eqb-false}
use Rattle.cells.specs.Optional.{optional-none, optional-some}
use Rattle.script.specs.Parts.{next-byte}
use Rattle.script.specs.Numbers.{up_to-empty, bounded-start, bounded-more, bounded-low, bounded-over, bounded-end}
use Rattle.script.proofs.numbers.up_to.Goals as goal

pub returns-then-is_empty : goal.returns-then-is_empty
returns-then-is_empty c = rw (up_to-empty _ _ (eqb-true _ 0 (sym c.is_empty.ensures ∙ c.if-is_empty.true)))

pub loop-digit-init : goal.loop-digit-init
loop-digit-init c = (omega arith, bounded-start _ _ (eqb-false _ 0 (sym c.is_empty.ensures ∙ c.if-is_empty.false)))

pub returns-in_err-n : goal.returns-in_err-n
returns-in_err-n c =
    rw (c.from_residual.ensures, ← c.loop-digit.invariant.1, next-byte _ _ c.loop-digit-test.true, bounded-over _ _ _ _ (optional-none _ (sym c.in_err-n.ensures)))

pub loop-digit-preserved : goal.loop-digit-preserved
loop-digit-preserved c =
    let e = optional-some _ _ (sym c.in_ok-n.ensures) in
    (bounded-low _ _ _ _ e, sym (bounded-more _ _ _ _ _ e) ∙ rw (← next-byte _ _ c.loop-digit-test.true) c.loop-digit.invariant.1)

pub returns : goal.returns
returns c = rw (← c.loop-digit.invariant.1, bounded-end _ _ _ _ c.loop-digit-test.false c.loop-digit.invariant.0)
