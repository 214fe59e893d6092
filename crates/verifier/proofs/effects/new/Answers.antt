-- The class is pushed if it may be named.
use borrow.Author.Tests.{lt-leb, le-leb}
use Rattle.definition.specs.Verifier.{effect}
use Rattle.verifier.specs.Types.{types_of}
use Rattle.verifier.proofs.TypeLaws.{type-name}
use Rattle.definition.specs.Maybe.{◌>>=◌, need}
use native.Mathlib.Omega.{arith}
use Rattle.verifier.specs.Effects.{notes_in, going}
use Rattle.verifier.specs.Trace.{meet_from, values_trace}
use Rattle.verifier.specs.Answers.{outcome_of}
use Rattle.verifier.proofs.effects.new.Goals as goal

pub returns-then-c-lt-NAME_OBJECT : goal.returns-then-c-lt-NAME_OBJECT
unfolding outcome_of going effect types_of ◌>>=◌ need
returns-then-c-lt-NAME_OBJECT c = rw (lt-leb 2 c.args.c c.if-c-lt-NAME_OBJECT.true)

pub returns : goal.returns
unfolding outcome_of going effect types_of ◌>>=◌ notes_in values_trace meet_from need
returns c =
    rw (
      c.push.ensures,
      le-leb 2 c.args.c c.if-c-lt-NAME_OBJECT.false,
      type-name c.from.result (omega (arith, c.from.ensures)),
      c.from.ensures,
    )
