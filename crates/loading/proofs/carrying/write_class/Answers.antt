-- Each table is written once, by the counts as they are.
use mathlib.Core.Path.{◌∙◌}
use native.Mathlib.Omega.{arith}
use lib.ListN.{length, set}
use Rattle.definition.specs.Lists.{write_rows}
use Rattle.definition.specs.Tables.{put_three}
use Rattle.entries.specs.Writing.{written-rows}
use Rattle.loading.proofs.carrying.write_class.Goals as goal

pub overflow_cast-file : goal.overflow_cast-file
overflow_cast-file c = omega (arith, c.requires)

pub returns : goal.returns
returns c =
    let args = c.args in
    let start = c.at-start.ensures in
    record {
      row = c.put_three.ensures ∙ (λ i. put_three args.classes.now ((c.from.ensures ∙ c.at.ensures) i) (c.from-2.ensures i) (start i) (length args.file.now));
      bytes = c.write_cells.ensures ∙ (written-rows _ _ _ ∙ (λ i. write_rows set args.file.now (start i) args.kept.now));
      tied = c.write_cells-2.ensures ∙ written-rows _ _ _;
      noted = c.write_cells-3.ensures ∙ written-rows _ _ _;
    }
