-- Places have one group exactly if their nodes have one label.
use mathlib.Core.Path.{◌∙◌}
use native.Mathlib.Omega.{arith}
use lib.ListN.{get_or}
use Rattle.constraints.proofs.grouping.group_places.Goals as goal

pub returns : goal.returns
returns c =
    let args = c.args in
    let pre = c.requires in
    record {
      labels = _;
      is_label = λ p h. c.label_places.ensures p h ∙ c.label_nodes.ensures (get_or args.nodes.now p 0) (omega (arith, h, pre.5 p (omega arith)));
      is_group = c.number_nodes.ensures;
    }
