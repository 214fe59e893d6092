-- The instruction at the point is read, carried out, and its flows are taken.
use mathlib.Core.Path.{refl, ap, sym, ◌∙◌}
use native.Mathlib.Omega.{arith}
use Rattle.verifier.specs.Effects.{leaves}
use Rattle.verifier.specs.Answers.{change_of}
use Rattle.verifier.specs.Trace.{turned_to}
use Rattle.verifier.proofs.DecodingLaws.{at-within}
use Rattle.verifier.proofs.TurnLaws.{turned_none, turned-at, taken-bound, taken-same}
use Rattle.verifier.proofs.turns.turn_at.Goals as goal

pub returns-in_default : goal.returns-in_default
returns-in_default c = taken-bound _ _ _ _ (turned_none _ _ _ _ _ _ _ c.decode.ensures c.in_default.is)

pub returns-in_default-change_at : goal.returns-in_default-change_at
unfolding change_of turned_to leaves
returns-in_default-change_at c =
    taken-bound _ _ _ _
    (turned-at _ _ _ _ _ _ _ c.decode.ensures _ c.in-Some.is _ refl _ (ap change_of (sym c.in_default-change_at.is) ∙ c.change_at.ensures))

pub overflow_add-end : goal.overflow_add-end
overflow_add-end c = omega (arith, at-within _ _ _ _ c.decode.ensures _ c.in-Some.is)

pub returns : goal.returns
unfolding leaves
returns c =
    taken-same _ _ _ _ _
    (turned-at _ _ _ _ _ _ _ c.decode.ensures _ c.in-Some.is _ refl _ (ap change_of (sym c.in-Some-change_at.is) ∙ c.change_at.ensures))
    c.flow_from.ensures
