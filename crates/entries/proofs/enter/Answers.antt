-- Both tables are copied, then the count and the row are set.
use Rattle.std.proofs.Common.{◌+◌, ◌%◌, set, ◌∙◌}
use Rattle.definition.specs.Tables.{put_three}
use Rattle.entries.specs.Writing.{written-rows}
use Rattle.entries.proofs.enter.Goals as goal

pub returns : goal.returns
returns c =
    record {
      count = c.put.ensures ∙ (λ i. set ((c.write_cells.ensures ∙ written-rows _ _ _) i) 2 ((c.at-entries.ensures i + 1) % 65536));
      row = c.put_three.ensures ∙ (λ i. put_three ((c.write_cells-2.ensures ∙ written-rows _ _ _) i) ((c.from.ensures ∙ c.at-entries.ensures) i) c.args.loader c.args.name c.args.class);
    }
