-- Rows that name one request share a root, and only rows that a chain of ties joins.
use Rattle.groups.proofs.Tying.{roots-groups}
use Rattle.groups.proofs.grouping.list_named.Goals as goal

pub returns : goal.returns
returns c = roots-groups c.args.ties.now c.args.nodes.now c.args.n c.requires.2 c.requires.0.3 c.requires.0.0 c.claim_rows.ensures.1 c.list_roots.new.roots c.list_roots.ensures
