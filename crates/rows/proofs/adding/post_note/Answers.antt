-- Past 256 rows nothing is posted; else a row is added, unless it is there.
use mathlib.Core.Path.{sym}
use native.Mathlib.Omega.{arith}
use Rattle.rows.specs.Posting.{note}
use Rattle.rows.specs.Laws.{new-few, post-over, post-room}
use Rattle.rows.proofs.adding.post_note.Goals as goal

pub returns-then-count-gt-SUBTYPE_LIMIT : goal.returns-then-count-gt-SUBTYPE_LIMIT
returns-then-count-gt-SUBTYPE_LIMIT c = sym (post-over _ _ _ _ c.if-count-gt-SUBTYPE_LIMIT.true)

pub overflow_cast-result : goal.overflow_cast-result
overflow_cast-result c =
    let a = c.args in
    omega (arith, c.add_subtype.ensures.value, c.if-count-gt-SUBTYPE_LIMIT.false, new-few a.loader (note a.low a.high) a.subtypes.now a.count)

pub returns : goal.returns
returns c =
    rw (c.add_subtype.ensures.value, c.add_subtype.ensures.subtypes_after) (sym (post-room _ _ _ _ c.if-count-gt-SUBTYPE_LIMIT.false))
