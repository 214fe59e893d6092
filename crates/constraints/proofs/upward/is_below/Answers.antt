use Rattle.constraints.proofs.Supers.{height-falls}
use Rattle.constraints.proofs.Alones.{climbing-here, climbing-on, climbing-end}
use Rattle.constraints.proofs.upward.is_below.Goals as goal

pub returns-then-class-d : goal.returns-then-class-d
returns-then-class-d c = climbing-here _ _ _ _ _ _ c.in-Some.is c.if-class-d.true c.loop-next.invariant

pub loop-next-smaller : goal.loop-next-smaller
loop-next-smaller c = height-falls _ _ _ _ c.in-Some.is c.above-next.ensures.is

pub loop-next-preserved : goal.loop-next-preserved
loop-next-preserved c = climbing-on _ _ _ _ _ _ _ c.in-Some.is c.if-class-d.false c.above-next.ensures.is c.loop-next.invariant

pub returns : goal.returns
returns c = climbing-end _ _ _ _ _ c.in_default.is c.loop-next.invariant
