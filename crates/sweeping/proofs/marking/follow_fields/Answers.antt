-- The list never has more than 256 objects. Before the object at place i is looked at, those from i on still are to be.
use mathlib.Core.Path.{◌∙◌, refl, sym}
use native.Mathlib.Omega.{arith}
use Rattle.sweeping.proofs.Laws.{few-kept, follow-turn, follow-end}
use Rattle.sweeping.proofs.marking.follow_fields.Goals as goal

pub loop-i-init : goal.loop-i-init
loop-i-init c = (c.requires, refl, refl, refl)

pub loop-i-preserved : goal.loop-i-preserved
loop-i-preserved c =
    (few-kept _ _ _ c.mark_fields-size.ensures c.loop-i.invariant.0, follow-turn _ _ _ _ c.loop-i-test.true (omega (arith, c.loop-i-test.true, c.loop-i.invariant.0)) (c.mark_fields-size.ensures ∙ rw (c.at-o.ensures, c.from.ensures)) ∙ c.loop-i.invariant.1, c.mark_fields-size.auto.marks ∙ c.loop-i.invariant.2, c.mark_fields-size.auto.list ∙ c.loop-i.invariant.3)

pub returns : goal.returns
returns c = sym (follow-end _ _ _ _ c.loop-i-test.false) ∙ c.loop-i.invariant.1
