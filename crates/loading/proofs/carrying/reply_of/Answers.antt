-- 0 is no superclass.
use native.Mathlib.Omega.{arith}
use Rattle.loading.proofs.Admitted.{reply-entry, reply-class}
use Rattle.loading.proofs.carrying.reply_of.Goals as goal

pub returns-then-n-eq0 : goal.returns-then-n-eq0
returns-then-n-eq0 c = reply-entry _ c.if-n-eq0.true

pub overflow_cast-result : goal.overflow_cast-result
overflow_cast-result c = omega (arith, c.requires)

pub returns : goal.returns
returns c = reply-class _ c.if-n-eq0.false
