-- A type that a name stands for is not unset.
use native.Mathlib.Omega.{arith}
use borrow.Author.Tests.{eq-eqb, ne_eqb}
use Rattle.definition.specs.Instructions.{pick}
use Rattle.definition.specs.Verifier.{local_type}
use Rattle.verifier.specs.Types.{local_of}
use Rattle.verifier.proofs.TypeLaws.{local-set}
use Rattle.verifier.proofs.flows.local_type.Goals as goal

pub returns-then-n-eq0 : goal.returns-then-n-eq0
unfolding local_type local_of pick
returns-then-n-eq0 c = rw (eq-eqb _ _ c.if-n-eq0.true, local_type)

pub returns-else-n-eq0 : goal.returns-else-n-eq0
unfolding local_type
returns-else-n-eq0 c =
    rw (ne_eqb _ _ c.if-n-eq0.false, local_type, local-set c.type_of_name.result (λ z. omega (arith, z, c.type_of_name.ensures.1)), c.type_of_name.ensures.0)
