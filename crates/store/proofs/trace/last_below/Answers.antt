-- The number before n is compared.
use mathlib.Core.Path.{sym}
use native.Mathlib.Omega.{arith}
use Rattle.store.specs.Tracing.{last_none, last_some}
use Rattle.store.proofs.trace.last_below.Goals as goal

pub returns-then-n-eq0 : goal.returns-then-n-eq0
returns-then-n-eq0 c = sym (last_none _ _ _ _ c.if-n-eq0.true)

pub overflow_sub-n : goal.overflow_sub-n
overflow_sub-n c = omega (arith, c.if-n-eq0.false)

pub returns : goal.returns
returns c = rw (c.from-2.ensures, c.at.ensures, c.from.ensures) (sym (last_some _ _ _ _ c.if-n-eq0.false))
