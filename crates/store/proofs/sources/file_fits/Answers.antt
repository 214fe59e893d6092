-- Loader, place and file are tested one after the other.
use mathlib.Core.Path.{◌∙◌, sym}
use borrow.Author.Tests.{le-leb, le-ltb, lt-leb, lt-ltb}
use Rattle.definition.specs.Tables.{class_row_at}
use Rattle.classfile.specs.Lists.{every-fails, every_first, every-last}
use Rattle.store.specs.Checks.{file_fits}
use Rattle.store.proofs.sources.file_fits.Goals as goal

pub returns-then-at-ge-LOADERS : goal.returns-then-at-ge-LOADERS
unfolding file_fits class_row_at
returns-then-at-ge-LOADERS c = rw (← c.from-place.ensures, ← c.at.ensures) (sym (every-fails _ _ (le-ltb _ _ c.if-at-ge-LOADERS.true)))

pub returns-then-from : goal.returns-then-from
unfolding file_fits class_row_at
returns-then-from c =
    rw (← c.from-place.ensures, ← c.at.ensures, ← c.at-start.ensures, ← c.at-size.ensures, ← c.at-2.ensures, ← c.from.ensures, ← c.from-2.ensures, ← c.from-3.ensures) (sym (every_first _ _ (lt-ltb _ _ c.if-at-ge-LOADERS.false) ∙ (every-fails _ _ (lt-leb _ _ c.if-from.true))))

pub returns : goal.returns
unfolding file_fits class_row_at
returns c =
    c.reads.ensures ∙ rw (c.part.ensures, ← c.from-place.ensures, ← c.at.ensures, ← c.at-start.ensures, ← c.at-size.ensures) (sym (every_first _ _ (lt-ltb _ _ c.if-at-ge-LOADERS.false) ∙ (every_first _ _ (rw (← c.at-2.ensures, ← c.from.ensures, ← c.from-2.ensures, ← c.from-3.ensures) (le-leb _ _ c.if-from.false)) ∙ (every-last _))))
