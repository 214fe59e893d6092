-- The target is looked up where there is one.
use mathlib.Core.Path.{sym, ◌∙◌}
use Rattle.definition.specs.Lists.{any, to_list}
use Rattle.cells.specs.Optional.{optional-none, optional-some}
use Rattle.verifier.proofs.LookupLaws.{any-one}
use Rattle.verifier.proofs.lookups.is_target_bare.Goals as goal

pub returns-in-Some : goal.returns-in-Some
unfolding to_list
returns-in-Some c =
    rw (optional-some _ _ (sym c.target_of.ensures ∙ c.in-Some.is)) (any-one _ _ _ (rw c.from.ensures at c.is_bare.ensures))

pub returns-in-None : goal.returns-in-None
unfolding any to_list
returns-in-None c = rw (optional-none _ (sym c.target_of.ensures ∙ c.in-None.is))
