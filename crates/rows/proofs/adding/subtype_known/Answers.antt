use Rattle.std.proofs.Common.{refl, sym, ◌∙◌}
use Rattle.rows.proofs.Posted.{any-last-hit, any-last-on, any-nothing}
use Rattle.rows.proofs.adding.subtype_known.Goals as goal

pub returns-then-subtype_is : goal.returns-then-subtype_is
returns-then-subtype_is c = sym (any-last-hit _ _ _ _ c.loop-i-test.true refl (sym c.subtype_is.ensures ∙ c.if-subtype_is.true)) ∙ c.loop-i.invariant

pub loop-i-preserved : goal.loop-i-preserved
loop-i-preserved c = sym (any-last-on _ _ _ _ c.loop-i-test.true refl (sym c.subtype_is.ensures ∙ c.if-subtype_is.false)) ∙ c.loop-i.invariant

pub returns : goal.returns
returns c = sym (any-nothing _ _ _ c.loop-i-test.false) ∙ c.loop-i.invariant
