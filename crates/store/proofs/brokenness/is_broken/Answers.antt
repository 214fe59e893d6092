-- The tests are made one after the other; they fail exactly if the tables are broken.
use mathlib.Core.Path.{◌∙◌, sym}
use Rattle.store.proofs.Laws.{unreadable, readable-entries, readable-few, readable-object, readable-whole, verdict-values}
use Rattle.store.proofs.brokenness.is_broken.Goals as goal

pub returns-then-not-is_readable : goal.returns-then-not-is_readable
returns-then-not-is_readable c = unreadable _ (sym c.is_readable.ensures ∙ c.if-not-is_readable.true)

pub values_fit-requires : goal.values_fit-requires
values_fit-requires c = let h = sym c.is_readable.ensures ∙ c.if-not-is_readable.false in (readable-few _ h, readable-entries _ h, readable-object _ h, readable-whole _ h)

pub returns : goal.returns
returns c = verdict-values _ (sym c.is_readable.ensures ∙ c.if-not-is_readable.false) _ c.values_fit.ensures
