use mathlib.Core.Path.{sym, ◌∙◌}
use Rattle.script.specs.Parts.{space-here, space-later, space-end}
use Rattle.script.proofs.fields.first_space.Goals as goal

pub returns-then-b-eq32 : goal.returns-then-b-eq32
returns-then-b-eq32 c = rw (← c.loop-i.invariant, space-here _ _ c.loop-i-test.true c.if-b-eq32.true)

pub loop-i-preserved : goal.loop-i-preserved
loop-i-preserved c = sym (space-later _ _ c.loop-i-test.true c.if-b-eq32.false) ∙ c.loop-i.invariant

pub returns : goal.returns
returns c = rw (← c.loop-i.invariant, space-end _ _ c.loop-i-test.false)
