-- Int alone meets int.
use mathlib.Core.Path.{sym}
use Rattle.verifier.specs.Effects.{notes_in}
use Rattle.verifier.proofs.EffectLaws.{int_is, int-not}
use Rattle.verifier.proofs.effects.meet_int.Goals as goal

pub returns-then-t-eq-INT : goal.returns-then-t-eq-INT
unfolding notes_in
returns-then-t-eq-INT c = sym (int_is _ c.if-t-eq-INT.true)

pub returns-else-t-eq-INT : goal.returns-else-t-eq-INT
unfolding notes_in
returns-else-t-eq-INT c = sym (int-not _ c.if-t-eq-INT.false)
