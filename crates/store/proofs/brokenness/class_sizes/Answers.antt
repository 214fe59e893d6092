-- Of tables that are not broken the links fit, and leave the sizes of all classes.
use mathlib.Core.Path.{◌∙◌, sym}
use borrow.Author.Rules.{rules}
use Rattle.store.proofs.Laws.{measured, readable-entries, readable-few, readable-object, unbroken-readable}
use Rattle.store.proofs.brokenness.class_sizes.Goals as goal

pub links_fit-requires : goal.links_fit-requires
links_fit-requires c = let h = unbroken-readable _ (sym c.is_broken.ensures ∙ c.if-is_broken.false) in (search rules, search rules, readable-few _ h, readable-entries _ h, readable-object _ h)

pub returns : goal.returns
returns c =
    let h = sym c.is_broken.ensures ∙ c.if-is_broken.false in
    measured _ _ _ h c.links_fit.ensures.0 (λ v. (c.links_fit.ensures.1 v).0) (search rules)
