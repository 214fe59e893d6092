-- Int meets no class, null every one, and a class any, under a note if the two differ.
use mathlib.Core.Path.{sym}
use Rattle.definition.specs.Verifier.{meet_class}
use Rattle.verifier.proofs.TypeLaws.{type-int, type-null, type-class}
use Rattle.verifier.specs.Effects.{notes_in}
use Rattle.verifier.proofs.EffectLaws.{class_same, class-other}
use Rattle.verifier.proofs.effects.meet_class.Goals as goal

pub returns-then-t-eq-INT : goal.returns-then-t-eq-INT
unfolding notes_in meet_class
returns-then-t-eq-INT c = rw (type-int _ c.if-t-eq-INT.true)

pub returns-then-t-eq-NULL : goal.returns-then-t-eq-NULL
unfolding notes_in meet_class
returns-then-t-eq-NULL c = rw (type-null _ c.if-t-eq-NULL.true)

pub returns-then-a-b : goal.returns-then-a-b
unfolding notes_in
returns-then-a-b c = rw (type-class _ c.if-t-eq-INT.false c.if-t-eq-NULL.false) (sym (class_same _ _ c.if-a-b.true))

pub returns-else-a-b : goal.returns-else-a-b
unfolding notes_in
returns-else-a-b c = rw (type-class _ c.if-t-eq-INT.false c.if-t-eq-NULL.false) (sym (class-other _ _ c.if-a-b.false))
