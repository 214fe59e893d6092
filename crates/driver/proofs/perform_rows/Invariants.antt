-- What is left of the list after i rows, performed on the tables as they are, is the whole list on the tables as they were.
use Prim.Native.Nat.{◌-◌}
use mathlib.Core.Path.{◌≡◌}
use Rattle.definition.specs.Tables.{tables}
use Rattle.driver.specs.Encoded.{call_in, calls_from, calls_in}
use Rattle.driver.specs.Driven.{performed}
use Rattle.driver.proofs.perform_rows.Given as goal

abbrev pub invariant-loop-i : goal.invariant-loop-i
invariant-loop-i l =
    performed (calls_from (call_in l.list l.files) (l.n - l.i) l.i) l.i (tables l.counts l.classes l.kept l.cache l.ties l.subtypes l.objects l.frames) l.answers
    ≡ performed (calls_in l.list l.files) 0 (tables l.initial.counts l.initial.classes l.initial.kept l.initial.cache l.initial.ties l.initial.subtypes l.initial.objects l.initial.frames) l.initial.answers
