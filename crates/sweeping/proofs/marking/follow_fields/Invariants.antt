use mathlib.Core.Path.{◌≡◌}
use Prim.Native.Nat.{◌-◌, ◌≤◌}
use lib.ListN.{length}
use Rattle.sweeping.specs.Marking.{work, field_names, follow}
use Rattle.sweeping.proofs.marking.follow_fields.Given as goal

abbrev pub invariant-loop-i : goal.invariant-loop-i
invariant-loop-i l = (l.size ≤ 256) × (follow (field_names l.sizes l.objects) (256 - l.i) l.i (work l.marks l.list l.size) ≡ follow (field_names l.sizes l.objects) 256 0 (work l.initial.marks l.initial.list l.n)) × (length l.marks ≡ length l.initial.marks) × (length l.list ≡ length l.initial.list)

abbrev pub decreases-loop-i : goal.decreases-loop-i
decreases-loop-i l = 256 - l.i
