-- The file's own request must be free; then its superclass is looked up.
use mathlib.Core.Path.{refl, sym, ap, ◌∙◌}
use Rattle.definition.specs.File.{class_of}
use Rattle.classfile.specs.Reading.{quick_file, super_name}
use Rattle.resolution.specs.Quick.{quick_base}
use Rattle.cells.specs.Optional.{optional-none, optional-some, resulting}
use Rattle.loading.proofs.Defined.{super-taken, super-wanted, super-fits}
use Rattle.loading.proofs.superclasses.find_super.Goals as goal

pub returns-in_default : goal.returns-in_default
unfolding quick_file quick_base
returns-in_default c =
    let file = c.args.file.now in
    ap resulting (super-taken (class_of c.args.loader (quick_file file)) (quick_base c.args.base.now.counts.now c.args.base.now.classes.now c.args.base.now.kept.now c.args.base.now.cache.now) _ _ (super_name file) c.from-under.ensures c.class_name.ensures refl _ (optional-some _ _ (sym c.find-own.ensures ∙ c.in_default.is)))

pub returns-in_default-find : goal.returns-in_default-find
unfolding quick_file quick_base
returns-in_default-find c =
    ap resulting (super-wanted (class_of c.args.loader (quick_file c.args.file.now)) (quick_base c.args.base.now.counts.now c.args.base.now.classes.now c.args.base.now.kept.now c.args.base.now.cache.now) _ _ _ c.from-under.ensures c.class_name.ensures c.super_name-name.ensures (optional-none _ (sym c.find-own.ensures ∙ c.in-None.is)) (optional-none _ (sym c.find.ensures ∙ c.in_default-find.is)))

pub returns : goal.returns
unfolding quick_file quick_base
returns c =
    ap resulting (super-fits (class_of c.args.loader (quick_file c.args.file.now)) (quick_base c.args.base.now.counts.now c.args.base.now.classes.now c.args.base.now.kept.now c.args.base.now.cache.now) _ _ _ c.from-under.ensures c.class_name.ensures c.super_name-name.ensures (optional-none _ (sym c.find-own.ensures ∙ c.in-None.is)) _ (optional-some _ _ (sym c.find.ensures ∙ c.in-Some.is)))
