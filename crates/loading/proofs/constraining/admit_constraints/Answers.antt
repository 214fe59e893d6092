-- The copies hold the new ties and subtype constraints; limits are tested of them.
use mathlib.Core.Path.{◌≡◌, refl, sym, ap, ◌∙◌}
use native.Mathlib.Numerals.{add-one}
use native.Mathlib.Omega.{arith}
use lib.ListN.{length, set, length-set}
use Rattle.definition.specs.Answers.{number}
use Rattle.layout.specs.Places.{write_rows-length}
use Rattle.definition.specs.Requests.{at}
use Rattle.classfile.specs.Reading.{super_name, quick_file}
use Rattle.entries.specs.Writing.{written-rows}
use Rattle.loading.specs.Stages.{Decided}
use Rattle.loading.proofs.Constrained.{posted-full, TiesMade, ties-made, posted-roomless, posted-new}
use Rattle.loading.proofs.constraining.admit_constraints.Goals as goal
use Rattle.loading.proofs.constraining.admit_constraints.Goals.{After-post_methods-tied}

-- the ties are posted to a copy of the table
module _ (c : After-post_methods-tied) where
  made : TiesMade c.args.base.now.counts.now c.args.base.now.classes.now c.args.base.now.kept.now c.args.base.now.cache.now c.args.ties.now c.args.subtypes.now
      c.requires.0 c.args.loader c.args.p c.args.file.now c.post_methods-tied.new.ties c.post_methods-tied.result
  made = ties-made _ _ _ _ _ _ c.requires.0 _ _ _ _ _ _ _ _ c.requires.3 (c.write_cells.ensures ∙ written-rows _ _ _) c.at.ensures c.post_methods-tied.ensures

pub post_methods-tied-requires : goal.post_methods-tied-requires
post_methods-tied-requires c =
    let pre = c.requires in
    let long : length c.write_cells.new.t ≡ 888 = ap length (c.write_cells.ensures ∙ written-rows _ _ _) ∙ (write_rows-length set length-set _ _ _ ∙ pre.3) in
    (pre.2, omega (arith, c.at.ensures, pre.0.ties_few), long, pre.0.base.loaders)

pub returns-then-noted-gt-SUBTYPE_LIMIT : goal.returns-then-noted-gt-SUBTYPE_LIMIT
unfolding Decided number
returns-then-noted-gt-SUBTYPE_LIMIT c =
    λ ns e. (posted-full _ _ _ _ _ _ c.requires.0 c.args.loader c.args.p c.args.file.now _ _ ns e c.if-noted-gt-SUBTYPE_LIMIT.true, λ z. omega arith)

pub has_room-requires : goal.has_room-requires
has_room-requires c = c.requires.1

pub returns-then-not-has_room : goal.returns-then-not-has_room
unfolding Decided number
returns-then-not-has_room c =
    let post = (goal.at.returns-then-not-has_room c).After-post_methods-tied in
    λ ns e. (posted-roomless _ _ _ _ _ _ c.requires.0 c.args.loader c.args.p c.args.file.now _ _ (made post) (sym c.has_room.ensures ∙ c.if-not-has_room.true) ns, λ z. omega arith)

pub overflow_add-result : goal.overflow_add-result
overflow_add-result c = omega (arith, c.requires.0.base.classes_few, c.requires.0.base.cached (at c.args.loader (super_name c.args.file.now)) c.args.p c.requires.4)

pub overflow_cast-result : goal.overflow_cast-result
overflow_cast-result c = omega (arith, c.requires.0.base.classes_few, c.requires.0.base.cached (at c.args.loader (super_name c.args.file.now)) c.args.p c.requires.4)

pub returns : goal.returns
unfolding Decided quick_file
returns c =
    let post = (goal.at.returns c).After-post_methods-tied in
    λ ns q. posted-new _ _ _ _ _ _ c.requires.0 c.args.loader c.args.p c.args.file.now _ _ (made post) (sym c.has_room.ensures ∙ c.if-not-has_room.false)
    _ _ c.if-noted-gt-SUBTYPE_LIMIT.false ns q c.requires.4 _ refl c.class_name.ensures c.at-2.ensures (add-one c.args.p) refl refl
