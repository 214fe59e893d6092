-- The walk: k instructions are done, the row stands at point p with d operands, and the objects keep their length.
use native.Mathlib.Omega.{arith}
use Rattle.std.proofs.Common.{refl, ◌∙◌}
use Rattle.execution.specs.Reaches.{here, walk_more}
use borrow.Author.Rules.{rules}
use Rattle.execution.proofs.reaching.walk.Goals as goal

pub loop-k-init : goal.loop-k-init
loop-k-init c = (λ v h. here _ _ _ _ _ _ _ _, (c.point-p.ensures, c.depth-d.ensures, omega (arith, c.depth-d.ensures, c.requires.1), c.requires.0), refl)

pub loop-k-preserved : goal.loop-k-preserved
loop-k-preserved c = let z = walk_more _ _ _ _ _ _ _ _ _ _ _ _ _ _ _ c.loop-k.invariant.0 _ _ c.reach.ensures _ _ _ refl c.at.ensures (search rules) c.from.ensures c.at-number.ensures _ c.in-Some.is c.requires.4 c.loop-k.invariant.1 in (z.0, z.1, c.reach.auto.objects ∙ c.loop-k.invariant.2)
