-- The frames below row i fit, and with them all, exactly if those from the first to the top do.
use mathlib.Core.Path.{◌∙◌, sym}
use native.Mathlib.Omega.{arith}
use Rattle.definition.specs.Tables.{frame_in}
use Rattle.layout.specs.Places.{stack-end, stack-hit, stack-on}
use Rattle.store.specs.Checks.{frames_fit}
use Rattle.store.proofs.values.frames_fit.Goals as goal

pub loop-i-init : goal.loop-i-init
unfolding frames_fit
loop-i-init c = (rw (c.at-n.ensures, c.from.ensures) c.requires.2, rw (c.from-classes.ensures, c.at.ensures, c.from-made.ensures, c.at-2.ensures, c.at-n.ensures, c.from.ensures))

pub returns-then-not-frame_fits : goal.returns-then-not-frame_fits
unfolding frame_in
returns-then-not-frame_fits c = sym (stack-hit _ (frame_in c.args.frames.now c.args.task) _ c.loop-i-test.true (rw (← c.from-first.ensures, ← c.from-in-loop-i.ensures) (sym c.frame_fits.ensures ∙ c.if-not-frame_fits.true))) ∙ c.loop-i.invariant.1

pub loop-i-preserved : goal.loop-i-preserved
unfolding frame_in
loop-i-preserved c = (omega (arith, c.loop-i.invariant.0), sym (stack-on _ (frame_in c.args.frames.now c.args.task) _ c.loop-i-test.true (rw (← c.from-first.ensures, ← c.from-in-loop-i.ensures) (sym c.frame_fits.ensures ∙ c.if-not-frame_fits.false))) ∙ c.loop-i.invariant.1)

pub returns : goal.returns
returns c = sym (stack-end _ _ _ (omega (arith, c.loop-i-test.false))) ∙ c.loop-i.invariant.1
