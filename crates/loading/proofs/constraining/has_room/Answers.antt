-- Each limit is tested in turn.
use mathlib.Core.Path.{sym}
use borrow.Author.Tests.{le-leb, lt-leb, lt-ltb, le-ltb}
use Rattle.definition.specs.Lists.{every}
use Rattle.loading.specs.Stages.{room_for}
use Rattle.classfile.specs.Lists.{every-last}
use Rattle.loading.proofs.constraining.has_room.Goals as goal

pub returns-then-from-file-gt-KEPT_LENGTH : goal.returns-then-from-file-gt-KEPT_LENGTH
unfolding room_for every
returns-then-from-file-gt-KEPT_LENGTH c = rw (← c.at.ensures, ← c.from.ensures, lt-leb _ _ c.if-from-file-gt-KEPT_LENGTH.true, every)

pub returns-then-at-ge-CLASS_LIMIT : goal.returns-then-at-ge-CLASS_LIMIT
unfolding room_for every
returns-then-at-ge-CLASS_LIMIT c = rw (← c.at.ensures, ← c.from.ensures, le-leb _ _ c.if-from-file-gt-KEPT_LENGTH.false, ← c.at-2.ensures, le-ltb _ _ c.if-at-ge-CLASS_LIMIT.true, every)

pub returns-then-at-ge-CACHE_LIMIT : goal.returns-then-at-ge-CACHE_LIMIT
unfolding room_for every
returns-then-at-ge-CACHE_LIMIT c = rw (← c.at.ensures, ← c.from.ensures, le-leb _ _ c.if-from-file-gt-KEPT_LENGTH.false, ← c.at-2.ensures, lt-ltb _ _ c.if-at-ge-CLASS_LIMIT.false, ← c.at-3.ensures, le-ltb _ _ c.if-at-ge-CACHE_LIMIT.true, every)

pub returns-then-tied-gt-TIE_LIMIT : goal.returns-then-tied-gt-TIE_LIMIT
unfolding room_for every
returns-then-tied-gt-TIE_LIMIT c = rw (← c.at.ensures, ← c.from.ensures, le-leb _ _ c.if-from-file-gt-KEPT_LENGTH.false, ← c.at-2.ensures, lt-ltb _ _ c.if-at-ge-CLASS_LIMIT.false, ← c.at-3.ensures, lt-ltb _ _ c.if-at-ge-CACHE_LIMIT.false, lt-leb _ _ c.if-tied-gt-TIE_LIMIT.true, every)

pub returns : goal.returns
unfolding room_for every
returns c =
    rw (← c.at.ensures, ← c.from.ensures, le-leb _ _ c.if-from-file-gt-KEPT_LENGTH.false, ← c.at-2.ensures, lt-ltb _ _ c.if-at-ge-CLASS_LIMIT.false, ← c.at-3.ensures, lt-ltb _ _ c.if-at-ge-CACHE_LIMIT.false, le-leb _ _ c.if-tied-gt-TIE_LIMIT.false, every, ← c.size_of.ensures.0, ← c.field_count.ensures, ← c.from-own.ensures) (sym (every-last _))
