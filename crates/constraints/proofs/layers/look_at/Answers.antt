-- A node that was not found is; of two links that lead on from one that was found in this round, the one whose row goes first is kept.
use mathlib.Core.Path.{sym, ◌∙◌}
use Rattle.constraints.proofs.Spreading.{look-fresh, look-sooner, look-later, look-old}
use Rattle.constraints.proofs.layers.look_at.Goals as goal

pub returns-then-dist-eq0 : goal.returns-then-dist-eq0
returns-then-dist-eq0 c =
    rw (c.put.ensures, c.put-then-dist-eq0.ensures, c.put-then-dist-eq0-2.ensures) (look-fresh _ _ _ _ _ _ _ _ _ c.place-a.ensures.0 (sym c.at-dist.ensures ∙ c.if-dist-eq0.true))

pub returns-then-comes_first : goal.returns-then-comes_first
returns-then-comes_first c =
    rw c.put-then-comes_first.ensures (look-sooner _ _ _ _ _ _ _ _ _ c.place-a.ensures.0 c.at.ensures c.at-then-dist-layer.ensures c.place.ensures.0 (λ q. c.if-dist-eq0.false (c.at-dist.ensures ∙ q)) (sym c.at-dist.ensures ∙ c.if-dist-layer.true) (sym c.comes_first.ensures ∙ c.if-comes_first.true))

pub returns-else-comes_first : goal.returns-else-comes_first
returns-else-comes_first c =
    look-later _ _ _ _ _ _ _ _ _ c.place-a.ensures.0 c.at.ensures c.at-then-dist-layer.ensures c.place.ensures.0 (λ q. c.if-dist-eq0.false (c.at-dist.ensures ∙ q)) (sym c.comes_first.ensures ∙ c.if-comes_first.false)

pub returns-else-dist-layer : goal.returns-else-dist-layer
returns-else-dist-layer c =
    look-old _ _ _ _ _ _ _ _ _ c.place-a.ensures.0 (λ q. c.if-dist-eq0.false (c.at-dist.ensures ∙ q)) (λ q. c.if-dist-layer.false (c.at-dist.ensures ∙ q))
