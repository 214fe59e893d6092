-- What can't be read is refused 14; else the instruction's decision is the machine's step, and the next point fits 32 bits.
use native.Mathlib.Omega.{arith}
use Rattle.execution.specs.Steps.{loader-there, usable, row_low, unread, read_at, chosen-unreadable, next_fits, chosen}
use Rattle.definition.specs.Tables.{tables}
use Rattle.execution.proofs.deciding.choose.Goals as goal

pub returns-in_default : goal.returns-in_default
returns-in_default c =
    let code = rw c.file_of-file.ensures at c.code_of-code.ensures in
    let version = rw c.file_of-file.ensures at c.version-version.ensures in
    rw c.refuse.ensures (chosen-unreadable _ _ _ _ _ _ _ _ c.requires.0 _ _ _ c.requires.1 c.requires.2 c.requires.3.0 _ _ _ _ _ c.frame_class-c.ensures c.frame_method-j.ensures c.point-p.ensures code version 0 ((unread _ _ c.decode.ensures c.in_default.is)))

pub act-r-requires : goal.act-r-requires
act-r-requires c =
    let counts = c.args.base.now.counts.now in
    let classes = c.args.base.now.classes.now in
    let kept = c.args.base.now.kept.now in
    let cache = c.args.base.now.cache.now in
    let ties = c.args.ties.now in
    let subtypes = c.args.subtypes.now in
    let objects = c.args.objects.now in
    let frames = c.args.frames.now in
    (usable (tables counts classes kept cache ties subtypes objects frames) c.requires.0, row_low (tables counts classes kept cache ties subtypes objects frames) c.requires.0 _ _ c.requires.1 c.requires.2, c.requires.4, loader-there (tables counts classes kept cache ties subtypes objects frames) c.requires.0 _ _ c.requires.3.2)

pub overflow_add-result : goal.overflow_add-result
overflow_add-result c =
    let code = rw c.file_of-file.ensures at c.code_of-code.ensures in
    let version = rw c.file_of-file.ensures at c.version-version.ensures in
    omega (arith, next_fits _ _ _ _ _ _ _ _ c.requires.0 _ _ _ c.requires.1 c.requires.2 c.requires.3.0 _ _ _ _ _ c.frame_class-c.ensures c.frame_method-j.ensures c.point-p.ensures code version _ _ ((read_at _ _ c.decode.ensures _ c.in-Some.is)))

pub overflow_cast-result-2 : goal.overflow_cast-result-2
overflow_cast-result-2 c =
    let code = rw c.file_of-file.ensures at c.code_of-code.ensures in
    let version = rw c.file_of-file.ensures at c.version-version.ensures in
    omega (arith, next_fits _ _ _ _ _ _ _ _ c.requires.0 _ _ _ c.requires.1 c.requires.2 c.requires.3.0 _ _ _ _ _ c.frame_class-c.ensures c.frame_method-j.ensures c.point-p.ensures code version _ _ ((read_at _ _ c.decode.ensures _ c.in-Some.is)))

pub returns : goal.returns
returns c =
    let code = rw c.file_of-file.ensures at c.code_of-code.ensures in
    let version = rw c.file_of-file.ensures at c.version-version.ensures in
    (chosen _ _ _ _ _ _ _ _ c.requires.0 _ _ _ c.requires.1 c.requires.2 c.requires.3.0 _ _ _ _ _ c.frame_class-c.ensures c.frame_method-j.ensures c.point-p.ensures code version _ _ _ _ _ _ ((read_at _ _ c.decode.ensures _ c.in-Some.is)) c.requires.3.1 (rw c.frame_class-c.ensures c.requires.3.2) c.act-r.ensures)
