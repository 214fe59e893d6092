-- The loop: the first i offers aren't for the request.
use native.Mathlib.Omega.{arith}
use Rattle.searching.specs.Offered.{offers-few}
use Rattle.searching.proofs.searches.is_any_for.Goals as goal

pub is_for-requires : goal.is_for-requires
is_for-requires c = omega (arith, c.loop-i-test.true, c.loop-i.invariant.1, offers-few _ _ c.requires)
