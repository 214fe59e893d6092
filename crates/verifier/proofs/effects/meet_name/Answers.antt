-- Name 1 demands int; any other is a class.
use mathlib.Core.Path.{sym, ◌∙◌}
use Rattle.verifier.proofs.EffectLaws.{meets-int, meets-class}
use Rattle.verifier.proofs.effects.meet_name.Goals as goal

pub returns-then-b-eq1 : goal.returns-then-b-eq1
returns-then-b-eq1 c = c.meet_int.ensures ∙ sym (meets-int _ _ c.if-b-eq1.true)

pub returns-else-b-eq1 : goal.returns-else-b-eq1
returns-else-b-eq1 c = c.meet_class.ensures ∙ sym (meets-class _ _ c.if-b-eq1.false)
