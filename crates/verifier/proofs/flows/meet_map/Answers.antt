-- A map that could be met: its locals, then its operands.
use mathlib.Core.Path.{refl, sym, ◌∙◌}
use Rattle.rows.specs.Posting.{post_notes}
use Rattle.verifier.specs.Trace.{posting}
use Rattle.verifier.proofs.PostingLaws.{exits, then-on, then-stop}
use Rattle.verifier.proofs.FlowLaws.{map-unfit, map_other, map-parts}
use Rattle.verifier.proofs.flows.meet_map.Goals as goal

pub returns-then-not-is_fitting : goal.returns-then-not-is_fitting
unfolding posting post_notes
returns-then-not-is_fitting c = rw (map-unfit _ _ _ (sym c.is_fitting.ensures ∙ c.if-not-is_fitting.true)) refl

pub returns-then-types-from : goal.returns-then-types-from
unfolding posting post_notes
returns-then-types-from c = rw (map_other c.args.types c.args.maps.now c.args.place (λ z. c.if-types-from.true (z ∙ sym c.map_depth-depth.ensures ∙ sym c.from.ensures))) refl

pub returns-in_err-locals : goal.returns-in_err-locals
returns-in_err-locals c =
    rw (exits _ _ c.from_residual.ensures.1)
    (then-stop _ _ _ _ _ c.in_err-locals.ensures _ _ (map-parts _ _ _ (sym c.is_fitting.ensures ∙ c.if-not-is_fitting.false) (c.if-types-from.false ∙ c.from.ensures ∙ c.map_depth-depth.ensures) _ c.map_depth-depth.ensures) refl)

pub returns-in_err-operands : goal.returns-in_err-operands
returns-in_err-operands c =
    rw (exits _ _ c.from_residual-in_err-operands.ensures.1)
    (then-on _ _ _ _ _ c.in_ok-locals.ensures _ _ (map-parts _ _ _ (sym c.is_fitting.ensures ∙ c.if-not-is_fitting.false) (c.if-types-from.false ∙ c.from.ensures ∙ c.map_depth-depth.ensures) _ c.map_depth-depth.ensures) refl _ c.in_err-operands.ensures)

pub returns : goal.returns
returns c =
    rw c.begun.ensures
    (then-on _ _ _ _ _ c.in_ok-locals.ensures _ _ (map-parts _ _ _ (sym c.is_fitting.ensures ∙ c.if-not-is_fitting.false) (c.if-types-from.false ∙ c.from.ensures ∙ c.map_depth-depth.ensures) _ c.map_depth-depth.ensures) refl _ c.in_ok-operands.ensures)
