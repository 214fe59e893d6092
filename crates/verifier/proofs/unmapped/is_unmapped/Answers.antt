-- A method is unmapped where it lacks a map at some point; where it has no maps, no table is made.
use mathlib.Core.Path.{ap, ◌∙◌}
use Rattle.std.specs.Option.{is_some}
use Rattle.verifier.proofs.LookupLaws.{indexed-nowhere}
use Rattle.verifier.proofs.StopLaws.{lacks-unmapped}
use Rattle.verifier.proofs.unmapped.is_unmapped.Goals as goal

pub lack_of-requires : goal.lack_of-requires
lack_of-requires c = indexed-nowhere _

pub returns-then-map_count-eq0 : goal.returns-then-map_count-eq0
returns-then-map_count-eq0 c given = c.is_some.ensures ∙ ap is_some c.lack_of.ensures ∙ lacks-unmapped _ _ _ given

pub returns : goal.returns
returns c given = c.is_some-2.ensures ∙ ap is_some c.lack_of-2.ensures ∙ lacks-unmapped _ _ _ given
