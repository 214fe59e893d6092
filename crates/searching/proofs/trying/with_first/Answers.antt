-- By what follows: an order has room for one digit more.
use native.Mathlib.Omega.{arith}
use Rattle.searching.proofs.Tried.{fits_below}
use Rattle.searching.proofs.trying.with_first.Goals as goal

pub overflow_mul-result : goal.overflow_mul-result
overflow_mul-result c = omega (arith, fits_below c.args.rest c.in-Some.c c.requires.fits c.in-Some.is)

pub overflow_add-result : goal.overflow_add-result
overflow_add-result c = omega (arith, c.requires.i_bound, fits_below c.args.rest c.in-Some.c c.requires.fits c.in-Some.is)
