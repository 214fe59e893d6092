-- A goto does not go on.
use Rattle.definition.specs.Verifier.{goes_on}
use borrow.Author.Rules.{rules}
use Rattle.verifier.proofs.lookups.is_conditional.Goals as goal

pub returns : goal.returns
unfolding goes_on
returns c p = search rules
