-- By what the cache has.
use Rattle.searching.proofs.Steps.{cached-there, cached-absent}
use Rattle.searching.proofs.trying.cached_order.Goals as goal

pub returns-in-Some : goal.returns-in-Some
returns-in-Some c = cached-there _ _ _ c.find.ensures c.in-Some.is

pub returns-in-None : goal.returns-in-None
returns-in-None c = cached-absent _ _ c.find.ensures c.in-None.is
