-- Before method j is posted, what the methods from j on post is what is left; there is room for five ties a method.
use mathlib.Core.Path.{sym, ◌∙◌}
use native.Mathlib.Omega.{arith}
use Rattle.classfile.specs.Reading.{quick_methods}
use Rattle.loading.proofs.Posted.{posts-start, posts-on, posts-end, posted-few, posted-long}
use Rattle.loading.proofs.overrides.post_methods.Goals as goal

pub loop-j-init : goal.loop-j-init
loop-j-init c = (omega (arith, c.method_count-n.ensures, c.requires.0, c.requires.1), c.requires.2, posts-start _ _ _ _ _ _ _)

pub post_method-total-requires : goal.post_method-total-requires
post_method-total-requires c = (omega (arith, c.method_count-n.ensures, c.loop-j-test.true), omega (arith, c.loop-j.invariant.0), omega (arith, c.loop-j.invariant.0, c.loop-j.invariant.1, c.loop-j-test.true), c.requires.3)

pub loop-j-preserved : goal.loop-j-preserved
loop-j-preserved c =
    (omega (arith, c.loop-j.invariant.0, c.loop-j-test.true, posted-few _ _ _ _ _ _ _ _ _ c.post_method-total.ensures), posted-long _ _ _ _ _ c.post_method-total.ensures ∙ c.loop-j.invariant.1, posts-on _ _ _ _ _ _ _ _ _ _ _ _ c.loop-j-test.true (omega (arith, c.loop-j.invariant.0, c.loop-j.invariant.1, c.loop-j-test.true)) c.loop-j.invariant.2 c.post_method-total.ensures)

pub shape_of-ties : goal.shape_of-ties
shape_of-ties c = c.loop-j.invariant.1 ∙ sym c.requires.2

pub returns : goal.returns
unfolding quick_methods
returns c = let z = posts-end _ _ _ _ _ _ _ _ _ _ c.loop-j-test.false c.loop-j.invariant.2 in rw (← c.method_count-n.ensures) (record { count = z.0; cells = z.1 })
