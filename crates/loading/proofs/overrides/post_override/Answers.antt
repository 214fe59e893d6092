-- Where a class with a method alike is found, the ties of the signature with its loader are posted.
use mathlib.Core.Path.{◌≡◌, sym, ◌∙◌}
use native.Mathlib.Omega.{arith}
use Rattle.definition.specs.Lists.{rows}
use Rattle.definition.specs.Classes.{loader_of}
use Rattle.definition.specs.Tables.{tie_at}
use Rattle.resolution.specs.Quick.{quick_base, loader-quick}
use Rattle.resolution.specs.Lookups.{selection-at, selection-absent}
use Rattle.loading.proofs.Posted.{posts-none, posts-all, few-new}
use Rattle.loading.proofs.overrides.post_override.Goals as goal
use Rattle.loading.proofs.overrides.post_override.Goals.{After-loader_of-other}

-- the loader of the class that was found
module _ (c : After-loader_of-other) where
  loader-is : c.loader_of-other.result ≡ loader_of (quick_base c.args.base.now.counts.now c.args.base.now.classes.now c.args.base.now.kept.now c.args.base.now.cache.now) c.in-Some.found.class
  loader-is = c.loader_of-other.ensures ∙ sym (loader-quick c.args.base.now.counts.now c.args.base.now.classes.now c.args.base.now.kept.now c.args.base.now.cache.now _)

pub returns-in_default : goal.returns-in_default
returns-in_default c = posts-none _ _ _ _ _ _ (selection-absent _ (sym c.select_method.ensures ∙ c.in_default.is))

pub overflow_cast-other : goal.overflow_cast-other
overflow_cast-other c = omega (arith, loader-is c, c.requires.2 c.in-Some.found.class)

pub overflow_cast-result : goal.overflow_cast-result
overflow_cast-result c =
    let few = few-new (rows (tie_at c.args.ties.now) c.args.count 0) c.args.loader c.loader_of-other.result c.args.s c.args.count _ c.post.ensures.counted in
    omega (arith, few, c.requires.0)

pub returns : goal.returns
returns c =
    let found = (goal.at.returns c).After-loader_of-other in
    let args = c.args in
    posts-all (quick_base args.base.now.counts.now args.base.now.classes.now args.base.now.kept.now args.base.now.cache.now) args.loader args.p args.s args.ties.now args.count _ c.loader_of-other.result _ _
    (selection-at _ _ (sym c.select_method.ensures ∙ c.in-Some.is)) (sym (loader-is found)) c.post.ensures.counted c.post.ensures.written
