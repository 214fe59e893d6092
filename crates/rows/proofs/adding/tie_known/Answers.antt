use Rattle.std.proofs.Common.{sym, ◌∙◌, arith}
use Rattle.layout.specs.Places.{any-hit, any-on, any-end}
use Rattle.rows.proofs.adding.tie_known.Goals as goal

pub returns-then-tie_is : goal.returns-then-tie_is
returns-then-tie_is c = sym (any-hit _ _ _ _ (omega arith) (sym c.tie_is.ensures ∙ c.if-tie_is.true)) ∙ c.loop-i.invariant

pub loop-i-preserved : goal.loop-i-preserved
loop-i-preserved c = sym (any-on _ _ _ _ (omega arith) (sym c.tie_is.ensures ∙ c.if-tie_is.false)) ∙ c.loop-i.invariant

pub returns : goal.returns
returns c = sym (any-end _ _ _ _ (omega arith)) ∙ c.loop-i.invariant
