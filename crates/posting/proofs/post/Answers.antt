-- Those that are new are written, and counted.
use Rattle.std.proofs.Math.Path.{ap}
use Rattle.std.proofs.Common.{◌∙◌}
use mathlib.Core.List.{List}
use native.Mathlib.Omega.{arith}
use Rattle.std.proofs.Math.ListN.{length}
use Rattle.definition.specs.Lists.{write_rows}
use Rattle.definition.specs.Constraints.{Tie}
use Rattle.definition.specs.Tables.{put_tie}
use Rattle.posting.proofs.post.Goals as goal

pub returns : goal.returns
returns c =
    let args = c.args in
    let new = c.new_ties-posting.ensures in record {
      counted = omega (arith, ap length new);
      written = c.write_ties.ensures ∙ ap (λ (us : List Tie). write_rows put_tie us args.count args.ties.now) new;
    }
