-- A type in a local is int, null or a name, and so not unset.
use mathlib.Core.Path.{sym, ap, ◌∙◌}
use native.Mathlib.Omega.{arith}
use mathlib.Core.Option.{some}
use Rattle.verifier.specs.Types.{type_of}
use Rattle.verifier.proofs.TypeLaws.{type-class, type-name, local-set}
use Rattle.verifier.proofs.effects.stored.Goals as goal

pub returns-then-t-eq-INT : goal.returns-then-t-eq-INT
returns-then-t-eq-INT c = local-set _ (λ k. omega arith) ∙ ap (λ n. some (type_of n)) (sym c.if-t-eq-INT.true)

pub returns-then-t-eq-NULL : goal.returns-then-t-eq-NULL
returns-then-t-eq-NULL c = local-set _ (λ k. omega arith) ∙ ap (λ n. some (type_of n)) (sym c.if-t-eq-NULL.true)

pub returns-else-t-eq-NULL : goal.returns-else-t-eq-NULL
returns-else-t-eq-NULL c = local-set _ (λ k. omega arith) ∙ ap some (type-name _ (omega arith) ∙ sym (type-class _ c.if-t-eq-INT.false c.if-t-eq-NULL.false))
