-- Name 1 is int; any other is a class name.
use mathlib.Core.Path.{refl, sym, ap, ◌∙◌}
use native.Mathlib.Omega.{arith}
use Rattle.definition.specs.Verifier.{type_class}
use Rattle.verifier.proofs.TypeLaws.{type-int, type-name, name-int, name-class}
use Rattle.verifier.proofs.types.type_of_name.Goals as goal

pub returns-then-n-eq1 : goal.returns-then-n-eq1
returns-then-n-eq1 c = (type-int _ refl ∙ sym (name-int _ c.if-n-eq1.true), omega arith)

pub returns-else-n-eq1 : goal.returns-else-n-eq1
returns-else-n-eq1 c = (
  type-name _ (omega (arith, c.from.ensures)) ∙ (ap type_class c.from.ensures ∙ sym (name-class _ c.if-n-eq1.false)),
  omega (arith, c.from.ensures),
)
