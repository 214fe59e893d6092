-- Without a map the types go on as they are; with one they are met, and the map's types go on.
use mathlib.Core.Path.{refl}
use Rattle.verifier.specs.Answers.{next_of}
use Rattle.verifier.proofs.PostingLaws.{exits, once-on, once-stop}
use Rattle.verifier.proofs.TurnLaws.{met-few, into-bare, into-mapped, taken-bound}
use Rattle.verifier.proofs.turns.flow_into.Goals as goal

pub returns-in_default : goal.returns-in_default
unfolding next_of
returns-in_default c = λ n. taken-bound _ _ _ _ (into-bare _ n _ _ c.find_map.ensures c.in_default.is _)

pub returns-in_err-met : goal.returns-in_err-met
returns-in_err-met c =
    λ n. rw (exits _ _ c.from_residual.ensures.1) (once-stop _ _ _ _ _ c.in_err-met.ensures _ _ (into-mapped _ n _ _ c.find_map.ensures _ c.in-Some.is _) refl _ refl)

pub mapped_types-mapped-requires : goal.mapped_types-mapped-requires
mapped_types-mapped-requires c = met-few _ _ _ _ _ _ _ c.in_ok-met.ensures refl

pub returns : goal.returns
unfolding next_of
returns c =
    λ n. once-on _ _ _ _ _ c.in_ok-met.ensures _ _ (into-mapped _ n _ _ c.find_map.ensures _ c.in-Some.is _) refl _
    (rw c.mapped_types-mapped.ensures (taken-bound _ _ _ _ refl))
