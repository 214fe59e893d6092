-- The file rules first, then a map that is lacking, then the walk.
use mathlib.Core.Path.{sym, ap, ◌∙◌}
use native.Mathlib.Omega.{arith}
use Rattle.verifier.specs.Stops.{place_of}
use Rattle.desk.specs.Answers.{verdict_of}
use Rattle.desk.proofs.SameLaws.{spot-short, said-file, said-lack}
use Rattle.desk.proofs.judge.Goals as goal

pub returns-then-not-reads : goal.returns-then-not-reads
unfolding verdict_of
returns-then-not-reads c = sym (said-file _ (sym c.reads.ensures ∙ c.if-not-reads.true))

pub overflow_cast-result : goal.overflow_cast-result
unfolding place_of
overflow_cast-result c = omega (arith, spot-short _ (sym c.reads.ensures ∙ c.if-not-reads.false) _ _ _ (sym c.find_place.ensures ∙ ap place_of c.in-Some.is))

pub walked-requires : goal.walked-requires
walked-requires c = (sym c.reads.ensures ∙ c.if-not-reads.false)

pub returns-in-Some : goal.returns-in-Some
unfolding place_of verdict_of
returns-in-Some c = sym (said-lack _ (sym c.reads.ensures ∙ c.if-not-reads.false) _ _ (sym c.find_place.ensures ∙ ap place_of c.in-Some.is))

pub returns-in-None : goal.returns-in-None
unfolding place_of
returns-in-None c = c.walked.ensures (sym c.find_place.ensures ∙ ap place_of c.in-None.is)
