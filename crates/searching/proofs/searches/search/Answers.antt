-- The tests, the order, and the second store made anew.
use mathlib.Core.Path.{refl}
use Rattle.searching.proofs.Sought.{search-denied, search-made, still-shaped}
use Rattle.std.proofs.lemmas.Result.{err_from_is_err_and}
use Rattle.searching.proofs.searches.search.Goals as goal

pub make_loads-requires : goal.make_loads-requires
make_loads-requires c = let clear = c.in_ok-judge.ensures in (still-shaped _ _ clear.shapes c.find_order-found.auto.second_counts c.find_order-found.auto.second_classes c.find_order-found.auto.second_kept c.find_order-found.auto.second_cache c.find_order-found.auto.second_ties c.find_order-found.auto.second_subtypes c.find_order-found.auto.second_objects c.find_order-found.auto.second_frames, clear.whole)

pub returns : goal.returns
returns c = let clear = c.in_ok-judge.ensures in search-made _ _ _ _ _ _ clear _ refl _ c.find_order-found.ensures _ _ c.count_in.ensures c.order_in.ensures _ c.make_loads.ensures

pub returns-in_err-judge : goal.returns-in_err-judge
returns-in_err-judge c =
    let p = err_from_is_err_and c.from_residual.result c.from_residual.ensures.1 in
    rw (p.1, p.2) (search-denied _ _ _ _ _ _ _ c.in_err-judge.ensures)
