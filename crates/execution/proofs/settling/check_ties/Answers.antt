-- The copy with the new rows, and the table of superclasses, say what the store with those ties posted says.
use Rattle.std.proofs.Common.{refl}
use mathlib.Core.List.{[]}
use lib.ListN.{get_or}
use Rattle.posting.specs.Postings.{to_post}
use Rattle.execution.specs.Agreeing.{posted-beside, names-posted}
use Rattle.execution.proofs.settling.check_ties.Goals as goal

pub returns : goal.returns
returns c =
    let args = c.args in
    let pre = c.requires in
    let beside = posted-beside args.ties.now (get_or args.base.now.counts.now 3 0) (to_post args.posting) _ _ _ pre.1 pre.2 refl pre.3 pre.4
    (rw (c.write_ties.ensures, c.copy_from_slice.ensures.after, c.at-n.ensures, c.tie_number.ensures.0) at c.group_rows.ensures) in
    names-posted _ _ _ _ _ _ [] [] _ _ _ _ _ pre.0.classes pre.0.cache pre.0.subtypes refl pre.1 pre.2 c.at-3.ensures beside
    (rw (c.fill_supers.ensures, c.write_ties.ensures, c.copy_from_slice.ensures.after, c.at.ensures, c.at-2.ensures, c.at-n.ensures, c.tie_number.ensures.0) at c.check.ensures)
