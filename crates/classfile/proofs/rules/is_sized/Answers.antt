-- Each part of the test that fails is answered at once; the parts that passed before it are known.
use mathlib.Core.Path.{◌≡◌, sym, ◌∙◌}
use mathlib.Core.Bool.{true}
use lib.ListN.{length}
use lib.Dec.{leb}
use borrow.Author.Tests.{le-leb, lt-leb}
use Rattle.classfile.specs.Lists.{every_first, every-fails, every-last}
use Rattle.classfile.specs.Reading.{file_version, method_place}
use Rattle.classfile.specs.Rules.{sized}
use Rattle.classfile.proofs.rules.is_sized.Goals as goal

pub returns-then-size-gt-FILE_LIMIT : goal.returns-then-size-gt-FILE_LIMIT
unfolding sized
returns-then-size-gt-FILE_LIMIT c = sym (every-fails _ _ (lt-leb _ _ c.if-size-gt-FILE_LIMIT.true))

pub returns-then-size-first_place : goal.returns-then-size-first_place
unfolding sized
returns-then-size-first_place c =
    let late = rw (c.first_place.ensures.place) at c.if-size-first_place.true in
    sym (every_first _ _ ((let it : leb (length c.args.bytes.now) 4096 ≡ true = le-leb _ _ c.if-size-gt-FILE_LIMIT.false in it)) ∙ every-fails _ _ (lt-leb _ _ late))

pub returns-then-version-lt-VERSION_ONE : goal.returns-then-version-lt-VERSION_ONE
unfolding sized
returns-then-version-lt-VERSION_ONE c =
    let low = lt-leb _ _ (rw c.version.ensures at c.if-version-lt-VERSION_ONE.true) in
    sym (every_first _ _ ((let it : leb (length c.args.bytes.now) 4096 ≡ true = le-leb _ _ c.if-size-gt-FILE_LIMIT.false in it)) ∙ every_first _ _ ((let it : leb (method_place c.args.bytes.now 0) (length c.args.bytes.now) ≡ true = le-leb _ _ (rw (c.first_place.ensures.place) at c.if-size-first_place.false) in it)) ∙ every-fails _ _ low)

pub returns-then-version-gt-VERSION_THREE : goal.returns-then-version-gt-VERSION_THREE
unfolding sized
returns-then-version-gt-VERSION_THREE c =
    let high = lt-leb _ _ (rw c.version-2.ensures at c.if-version-gt-VERSION_THREE.true) in
    sym
    (every_first _ _ ((let it : leb (length c.args.bytes.now) 4096 ≡ true = le-leb _ _ c.if-size-gt-FILE_LIMIT.false in it))
    ∙ every_first _ _ ((let it : leb (method_place c.args.bytes.now 0) (length c.args.bytes.now) ≡ true = le-leb _ _ (rw (c.first_place.ensures.place) at c.if-size-first_place.false) in it))
    ∙ every_first _ _ ((let it : leb 1 (file_version c.args.bytes.now) ≡ true = le-leb _ _ (rw c.version.ensures at c.if-version-lt-VERSION_ONE.false) in it))
    ∙ every-fails _ _ high)

pub returns : goal.returns
unfolding sized
returns c =
    rw (c.from.ensures, c.short_at.ensures)
    (sym
    (every_first _ _ ((let it : leb (length c.args.bytes.now) 4096 ≡ true = le-leb _ _ c.if-size-gt-FILE_LIMIT.false in it))
    ∙ every_first _ _ ((let it : leb (method_place c.args.bytes.now 0) (length c.args.bytes.now) ≡ true = le-leb _ _ (rw (c.first_place.ensures.place) at c.if-size-first_place.false) in it))
    ∙ every_first _ _ ((let it : leb 1 (file_version c.args.bytes.now) ≡ true = le-leb _ _ (rw c.version.ensures at c.if-version-lt-VERSION_ONE.false) in it))
    ∙ every_first _ _ ((let it : leb (file_version c.args.bytes.now) 3 ≡ true = le-leb _ _ (rw c.version-2.ensures at c.if-version-gt-VERSION_THREE.false) in it))
    ∙ every-last _))
