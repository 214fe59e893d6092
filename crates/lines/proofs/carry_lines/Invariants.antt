-- What the lines from place `read` on leave, with what was read and written before, is what the whole input leaves.
use Prim.Native.Nat.{◌-◌, ◌≤◌}
use Rattle.definition.specs.Tables.{tables}
use Rattle.lines.specs.Scripts.{carry_lines}
use Rattle.lines.specs.Told.{told_from, told_of}
use lib.ListN.{length, drop}
use mathlib.Core.Path.{◌≡◌}
use Rattle.lines.proofs.carry_lines.Given as goal

abbrev pub invariant-loop-out : goal.invariant-loop-out
invariant-loop-out l =
    (l.read ≤ length l.input)
    × (l.written ≤ length l.out)
    × (told_from l.read l.written l.out (carry_lines l.last (length l.out - l.written) (drop l.read l.input) (tables l.counts l.classes l.kept l.cache l.ties l.subtypes l.objects l.frames))
    ≡ told_of l.initial.out (carry_lines l.last (length l.initial.out) l.input (tables l.initial.counts l.initial.classes l.initial.kept l.initial.cache l.initial.ties l.initial.subtypes l.initial.objects l.initial.frames)))

abbrev pub decreases-loop-out : goal.decreases-loop-out
decreases-loop-out l = length l.input - l.read
