-- The name is compared, then the arguments, then the result type.
use mathlib.Core.Path.{sym, ◌∙◌}
use borrow.Author.Tests.{eq-eqb, ne_eqb}
use Rattle.definition.specs.Classes.{alike, same_signature}
use Rattle.classfile.specs.Reading.{quick_signature, method_at}
use Rattle.classfile.proofs.signatures.is_alike.Goals as goal

pub returns-then-method_name-s : goal.returns-then-method_name-s
unfolding alike same_signature method_at quick_signature
returns-then-method_name-s c = rw (← c.method_name.ensures, ne_eqb _ _ c.if-method_name-s.true)

pub returns-then-not-same_arguments : goal.returns-then-not-same_arguments
unfolding alike same_signature method_at quick_signature
returns-then-not-same_arguments c =
    rw (
      ← c.method_name.ensures,
      eq-eqb _ _ c.if-method_name-s.false,
      ← c.method_arguments.ensures,
      sym c.same_arguments.ensures ∙ c.if-not-same_arguments.true,
    )

pub returns : goal.returns
unfolding alike same_signature method_at quick_signature
returns c =
    rw (
      ← c.method_name.ensures,
      eq-eqb _ _ c.if-method_name-s.false,
      ← c.method_arguments.ensures,
      sym c.same_arguments.ensures ∙ c.if-not-same_arguments.false,
      ← c.method_result.ensures,
    )
