-- A local is read where there is one.
use mathlib.Core.Path.{sym}
use Rattle.definition.specs.Instructions.{pick}
use Rattle.verifier.specs.Types.{local_of}
use Rattle.verifier.proofs.TypeLaws.{known_at, known_past}
use Rattle.verifier.proofs.types.local.Goals as goal

pub returns-then-place-lt-LOCALS : goal.returns-then-place-lt-LOCALS
returns-then-place-lt-LOCALS c = rw (← c.from-place.ensures) (sym (known_at _ _ c.if-place-lt-LOCALS.true))

pub returns-else-place-lt-LOCALS : goal.returns-else-place-lt-LOCALS
unfolding local_of pick
returns-else-place-lt-LOCALS c = rw (← c.from-place.ensures) (sym (known_past _ _ c.if-place-lt-LOCALS.false))
