-- The ties from name i on are written.
use Prim.Native.Nat.{◌+◌}
use Rattle.std.proofs.Math.Path.{◌≡◌}
use mathlib.Core.List.{map}
use Rattle.std.specs.Prelude.{drop}
use Rattle.definition.specs.Lists.{write_rows}
use Rattle.definition.specs.Classes.{types_of}
use Rattle.definition.specs.Tables.{tie, put_tie}
use Rattle.posting.proofs.write_names.Given as goal

abbrev pub invariant-loop-i : goal.invariant-loop-i
invariant-loop-i l = l.ties ≡ write_rows put_tie (map (tie l.new.one l.new.two) (drop l.i (types_of l.new.names))) (l.n + l.i) l.initial.ties
