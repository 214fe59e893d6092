-- k steps are taken, what is left of the run is the whole run, the store is not broken, what a new object asks for is at hand, and what is remembered is right.
use mathlib.Core.Path.{◌≡◌}
use Prim.Native.Nat.{◌-◌, ◌≤◌}
use mathlib.Core.Bool.{false}
use lib.ListN.{length}
use Rattle.execution.specs.Runs.{RoomIn}
use Rattle.execution.specs.Facts.{Minds}
use Rattle.definition.specs.declared.Answer.TheVariants.{Idle}
use Rattle.definition.specs.Broken.{broken}
use Rattle.definition.specs.Calls.{step_tables, run_from}
use Rattle.definition.specs.Tables.{tables}
use Rattle.execution.proofs.runs.steps.Given as goal

abbrev pub invariant-loop-k : goal.invariant-loop-k
invariant-loop-k l =
    (l.k ≤ l.n)
    × (run_from step_tables (l.n - l.k) l.k l.last (tables l.counts l.classes l.kept l.cache l.ties l.subtypes l.objects l.frames)
    ≡ run_from step_tables l.n 0 Idle (tables l.initial.counts l.classes l.kept l.cache l.initial.ties l.subtypes l.initial.objects l.initial.frames))
    × (broken (tables l.counts l.classes l.kept l.cache l.ties l.subtypes l.objects l.frames) ≡ false)
    × (length l.counts ≡ length l.initial.counts)
    × (length l.ties ≡ length l.initial.ties)
    × (length l.objects ≡ length l.initial.objects)
    × (length l.frames ≡ length l.initial.frames)
    × RoomIn l.counts l.room.free l.room.made
    × Minds l.counts l.classes l.kept l.cache l.ties l.tags l.facts
    × (length l.tags ≡ length l.initial.tags)
    × (length l.facts ≡ length l.initial.facts)

abbrev pub decreases-loop-k : goal.decreases-loop-k
decreases-loop-k l = l.n - l.k
