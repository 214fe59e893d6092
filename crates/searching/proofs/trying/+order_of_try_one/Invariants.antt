-- An order of n loads: none is tried by n = 0; else offer by offer, each by its load and the orders of one load fewer. Twice n falls at each call.
use Prim.Native.Nat.{◌+◌, ◌-◌}
use mathlib.Core.Path.{◌≡◌}
use lib.ListN.{length}
use Rattle.definition.specs.Requests.{at}
use Rattle.definition.specs.Tables.{tables}
use Rattle.searching.proofs.Tried.{Turning}
use Rattle.searching.proofs.trying.+order_of_try_one.Given as goal

abbrev pub decreases-order_of : goal.decreases-order_of
decreases-order_of l = l.n + l.n

abbrev pub decreases-try_one : goal.decreases-try_one
decreases-try_one l = l.n + l.n + 1

abbrev pub invariant-order_of-loop-i : goal.invariant-order_of-loop-i
invariant-order_of-loop-i l =
    Turning l.offers l.files (at l.loader l.name) (l.n - 1) l.used (tables l.initial.counts l.initial.classes l.initial.kept l.initial.cache l.initial.ties l.initial.subtypes l.objects l.frames) (tables l.counts l.classes l.kept l.cache l.ties l.subtypes l.objects l.frames) l.count l.i
    × (length l.counts ≡ length l.initial.counts)
    × (length l.classes ≡ length l.initial.classes)
    × (length l.kept ≡ length l.initial.kept)
    × (length l.cache ≡ length l.initial.cache)
    × (length l.ties ≡ length l.initial.ties)
    × (length l.subtypes ≡ length l.initial.subtypes)
