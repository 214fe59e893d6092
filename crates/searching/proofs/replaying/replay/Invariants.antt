-- The loop: k loads are made, and those that are left lead from here to where all of them lead from the beginning.
use mathlib.Core.Path.{◌≡◌}
use Prim.Native.Nat.{◌-◌, ◌≤◌}
use lib.ListN.{length}
use Rattle.definition.specs.Tables.{tables}
use Rattle.definition.specs.Calls.{perform_all}
use Rattle.searching.specs.Replayed.{numbers_in, loads_at}
use Rattle.searching.proofs.replaying.replay.Given as goal

abbrev pub invariant-loop-k : goal.invariant-loop-k
invariant-loop-k l =
    (l.k ≤ l.n)
    × ((perform_all (loads_at l.offers l.files (numbers_in (l.n - l.k) l.rest)) (tables l.counts l.classes l.kept l.cache l.ties l.subtypes l.objects l.frames)).tables ≡ (perform_all (loads_at l.offers l.files (numbers_in l.n l.code)) (tables l.initial.counts l.initial.classes l.initial.kept l.initial.cache l.initial.ties l.initial.subtypes l.objects l.frames)).tables)
    × (length l.counts ≡ length l.initial.counts)
    × (length l.classes ≡ length l.initial.classes)
    × (length l.kept ≡ length l.initial.kept)
    × (length l.cache ≡ length l.initial.cache)
    × (length l.ties ≡ length l.initial.ties)
    × (length l.subtypes ≡ length l.initial.subtypes)
