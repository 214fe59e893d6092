-- Two cells of the row are compared.
use mathlib.Core.Path.{◌∙◌, sym}
use borrow.Author.Tests.{le-ltb, lt-ltb}
use Rattle.definition.specs.Broken.{entry_fits}
use Rattle.definition.specs.Tables.{entry_at}
use Rattle.classfile.specs.Lists.{every-fails, every_first, every-last}
use Rattle.store.proofs.sources.entry_fits.Goals as goal

pub returns-then-at-ge-LOADERS : goal.returns-then-at-ge-LOADERS
unfolding entry_fits entry_at
returns-then-at-ge-LOADERS c = rw (← c.from-place.ensures, ← c.at.ensures) (sym (every-fails _ _ (le-ltb _ _ c.if-at-ge-LOADERS.true)))

pub returns : goal.returns
unfolding entry_fits entry_at
returns c = rw (← c.from-place.ensures, ← c.at.ensures, ← c.at-2.ensures) (sym (every_first _ _ (lt-ltb _ _ c.if-at-ge-LOADERS.false) ∙ (every-last _)))
