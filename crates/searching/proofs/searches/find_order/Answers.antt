-- Where no offer is for the request, by what the box has. Else the second store is a copy of the box's, and so is what is found on it.
use Rattle.resolution.specs.Quick.{quick_base}
use Rattle.searching.proofs.Sought.{copy-whole, copy-order, unwanted}
use Rattle.searching.proofs.searches.find_order.Goals as goal

pub is_any_for-requires : goal.is_any_for-requires
is_any_for-requires c = c.requires.2

pub returns-then-not-is_any_for : goal.returns-then-not-is_any_for
unfolding quick_base
returns-then-not-is_any_for c = unwanted _ _ _ _ _ c.requires.2 (c.is_any_for.ensures c.if-not-is_any_for.true) _ c.no_loads.ensures

pub shortest-requires : goal.shortest-requires
shortest-requires c = record { frames_value = copy-whole _ _ _ c.fill.ensures c.requires.0 c.requires.1; files_value = c.requires.2 }

pub returns : goal.returns
returns c = copy-order _ _ _ _ _ _ _ c.fill.ensures c.requires.0 c.requires.1 c.shortest.ensures
