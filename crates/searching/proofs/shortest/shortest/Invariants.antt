-- By rising n: no order of fewer loads works, and the tables show what they showed.
use mathlib.Core.Path.{◌≡◌}
use lib.ListN.{length}
use Rattle.definition.specs.Requests.{at}
use Rattle.definition.specs.Tables.{tables}
use Rattle.searching.proofs.Rising.{Rising}
use Rattle.searching.proofs.shortest.shortest.Given as goal

abbrev pub invariant-loop-n : goal.invariant-loop-n
invariant-loop-n l =
    Rising l.offers l.files (at l.loader l.name) 8 (tables l.initial.counts l.initial.classes l.initial.kept l.initial.cache l.initial.ties l.initial.subtypes l.objects l.frames) (tables l.counts l.classes l.kept l.cache l.ties l.subtypes l.objects l.frames) l.count l.n
    × (length l.counts ≡ length l.initial.counts)
    × (length l.classes ≡ length l.initial.classes)
    × (length l.kept ≡ length l.initial.kept)
    × (length l.cache ≡ length l.initial.cache)
    × (length l.ties ≡ length l.initial.ties)
    × (length l.subtypes ≡ length l.initial.subtypes)
