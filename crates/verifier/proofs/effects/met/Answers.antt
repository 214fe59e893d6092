-- A demand is met unless it has no notes.
use borrow.Author.Rules.{rules}
use Rattle.definition.specs.Lists.{is_some}
use Rattle.verifier.specs.Effects.{notes_in}
use Rattle.verifier.proofs.effects.met.Goals as goal

pub returns : goal.returns
unfolding is_some notes_in
returns c = search rules
