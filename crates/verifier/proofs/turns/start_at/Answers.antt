-- The code ends at the point, or the types are those of its map, if it has one that could be met.
use mathlib.Core.Path.{sym, ◌∙◌}
use Rattle.verifier.specs.Answers.{next_of}
use Rattle.verifier.proofs.FlowLaws.{fits-few}
use Rattle.verifier.proofs.TurnLaws.{start-end, start-bare, start-unfit, start-mapped, taken-bound}
use Rattle.verifier.proofs.turns.start_at.Goals as goal

pub returns-then-q-n : goal.returns-then-q-n
unfolding next_of
returns-then-q-n c = λ l t. taken-bound _ _ _ _ (start-end _ _ _ c.if-q-n.true)

pub returns-in_default : goal.returns-in_default
returns-in_default c = λ l t. taken-bound _ _ _ _ (start-bare _ _ _ _ c.find_map.ensures c.in_default.is c.if-q-n.false)

pub returns-then-not-is_fitting : goal.returns-then-not-is_fitting
returns-then-not-is_fitting c =
    λ l t. taken-bound _ _ _ _
    (start-unfit _ _ _ _ c.find_map.ensures _ c.in-Some.is c.if-q-n.false
    (sym c.is_fitting.ensures ∙ c.if-not-is_fitting.true))

pub mapped_types-requires : goal.mapped_types-requires
mapped_types-requires c = fits-few c.args.types.now _ _ (sym c.is_fitting.ensures ∙ c.if-not-is_fitting.false)

pub returns : goal.returns
unfolding next_of
returns c =
    λ l t. rw c.mapped_types.ensures (taken-bound _ _ _ _
    (start-mapped _ _ _ _ c.find_map.ensures _ c.in-Some.is c.if-q-n.false
    (sym c.is_fitting.ensures ∙ c.if-not-is_fitting.false)))
