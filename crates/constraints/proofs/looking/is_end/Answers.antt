use mathlib.Core.Path.{◌∙◌}
use borrow.Author.Count.{below_more}
use Rattle.constraints.specs.Search.{start_of}
use Rattle.constraints.proofs.looking.is_end.Goals as goal

pub loop-e-preserved : goal.loop-e-preserved
unfolding start_of
loop-e-preserved c =
    let loop = c.loop-e in
    below_more _ _ loop.invariant (λ q. c.if-place-group.false (c.place.ensures.0 ∙ q))
