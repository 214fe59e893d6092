-- The names from i on say what all of them say.
use Rattle.std.proofs.Math.Path.{◌≡◌}
use mathlib.Core.List.{[], ◌∷◌, ◌++◌}
use Rattle.std.specs.Prelude.{drop}
use Rattle.definition.specs.Lists.{any}
use Rattle.definition.specs.Classes.{types_of}
use Rattle.posting.specs.Postings.{is_named}
use Rattle.posting.proofs.is_among.Given as goal

abbrev pub invariant-loop-i : goal.invariant-loop-i
invariant-loop-i l = any (is_named l.name) (drop l.i (types_of l.names) ++ (l.last ∷ [])) ≡ any (is_named l.name) (types_of l.names ++ (l.last ∷ []))
