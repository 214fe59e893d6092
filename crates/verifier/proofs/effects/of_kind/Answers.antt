-- Int alone is of int's kind, and every other type a reference's.
use Rattle.verifier.proofs.EffectLaws.{int-kind, reference-kind}
use Rattle.verifier.proofs.effects.of_kind.Goals as goal

pub returns-in-IntKind : goal.returns-in-IntKind
returns-in-IntKind c = rw c.in-IntKind.is (int-kind _)

pub returns-in-ReferenceKind : goal.returns-in-ReferenceKind
returns-in-ReferenceKind c = rw c.in-ReferenceKind.is (reference-kind _)
