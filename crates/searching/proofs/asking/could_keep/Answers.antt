-- By the file's length, then by what is kept.
use Rattle.searching.proofs.Asked.{too_long, by-room}
use Rattle.searching.proofs.asking.could_keep.Goals as goal

pub returns-then-file-gt-FILE_LIMIT : goal.returns-then-file-gt-FILE_LIMIT
returns-then-file-gt-FILE_LIMIT c = too_long _ _ c.if-file-gt-FILE_LIMIT.true

pub returns : goal.returns
returns c = by-room _ _ c.if-file-gt-FILE_LIMIT.false _ c.at.ensures _ c.from.ensures
