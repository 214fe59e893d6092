-- Where the walk stops, if it does; the point is a small number.
use mathlib.Core.Path.{sym, ap, ◌∙◌}
use native.Mathlib.Omega.{arith}
use Rattle.verifier.specs.Stops.{place_of}
use Rattle.desk.specs.Answers.{verdict_of}
use Rattle.desk.proofs.SameLaws.{spot-short, said-stop, said-fine}
use Rattle.desk.proofs.walked.Goals as goal

pub overflow_cast-result : goal.overflow_cast-result
unfolding place_of
overflow_cast-result c = omega (arith, spot-short _ c.requires _ _ _ (sym c.find_place.ensures ∙ ap place_of c.in-Some.is))

pub returns-in-Some : goal.returns-in-Some
unfolding place_of verdict_of
returns-in-Some c = λ n. sym (said-stop _ c.requires n _ _ (sym c.find_place.ensures ∙ ap place_of c.in-Some.is))

pub returns-in-None : goal.returns-in-None
unfolding place_of verdict_of
returns-in-None c = λ n. sym (said-fine _ c.requires n (sym c.find_place.ensures ∙ ap place_of c.in-None.is))
