-- By whether it is tried, and then by its load.
use Rattle.searching.proofs.Asked.{worth-not, worth-could}
use Rattle.searching.proofs.trying.is_worth.Goals as goal

pub returns-then-not-is_tried : goal.returns-then-not-is_tried
returns-then-not-is_tried c = worth-not _ _ _ c.is_tried.ensures c.if-not-is_tried.true

pub returns : goal.returns
returns c = worth-could _ _ _ c.is_tried.ensures c.if-not-is_tried.false _ c.could_load.ensures
