-- By what the cache has.
use Rattle.searching.proofs.Sought.{loads-there, loads-absent}
use Rattle.searching.proofs.searches.no_loads.Goals as goal

pub returns-in-Some : goal.returns-in-Some
returns-in-Some c = loads-there _ _ _ c.find.ensures c.in-Some.is

pub returns-in-None : goal.returns-in-None
returns-in-None c = loads-absent _ _ c.find.ensures c.in-None.is
