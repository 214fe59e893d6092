-- The class's name, then what is cached, then room.
use mathlib.Core.Path.{◌≡◌, refl, sym, ap, ◌∙◌}
use mathlib.Core.Option.{some}
use native.Mathlib.Omega.{arith}
use lib.ListN.{length, get_or, get_elem?}
use Rattle.definition.specs.Lists.{rows}
use Rattle.definition.specs.Answers.{number}
use Rattle.definition.specs.Tables.{entry_at, class_row_at}
use Rattle.cells.specs.Optional.{optional-none, optional-some}
use Rattle.layout.specs.Places.{rows-length}
use Rattle.resolution.specs.Quick.{quick_class, quick_base, class-there}
use Rattle.resolution.specs.Lookups.{name_in}
use Rattle.loading.specs.Entering.{Recorded}
use Rattle.loading.proofs.Recorded.{misnamed, there, taken, full, judged, name-is}
use Rattle.loading.proofs.admitting.admit_entry.Goals as goal
use Rattle.loading.proofs.admitting.admit_entry.Goals.{After-name_of-own}

-- the class's own name
module _ (c : After-name_of-own) where
  own_is : c.name_of-own.result ≡ (quick_class c.args.base.now.kept.now (class_row_at c.args.base.now.classes.now c.args.class)).name
  own_is =
      c.name_of-own.ensures
      ∙ (ap (name_in c.args.base.now.counts.now c.args.base.now.classes.now c.args.base.now.kept.now) c.from.ensures
      ∙ name-is c.args.base.now.counts.now c.args.base.now.classes.now c.args.base.now.kept.now c.args.class c.requires)

  class-known : get_elem? (quick_base c.args.base.now.counts.now c.args.base.now.classes.now c.args.base.now.kept.now c.args.base.now.cache.now).classes c.args.class
      ≡ some (quick_class c.args.base.now.kept.now (class_row_at c.args.base.now.classes.now c.args.class))
  class-known = class-there c.args.base.now.counts.now c.args.base.now.classes.now c.args.base.now.kept.now c.args.base.now.cache.now c.args.class c.requires

pub returns-then-from-name : goal.returns-then-from-name
unfolding Recorded number
returns-then-from-name c = λ ts ss hl hn.
    let m = (goal.at.returns-then-from-name c).After-name_of-own in
    (misnamed _ _ _ _ hl hn _ (class-known m) (λ q. c.if-from-name.true (c.from-2.ensures ∙ (own_is m ∙ q))), λ z. omega arith)

pub returns-then-d-from : goal.returns-then-d-from
unfolding Recorded quick_base
returns-then-d-from c = λ ts ss hl hn.
    let m = (goal.at.returns-then-d-from c).After-name_of-own in
    there _ _ _ _ hl hn _ (class-known m) _ (sym (own_is m)) (sym c.from-2.ensures ∙ c.if-from-name.false) _
    (rw c.from-3.ensures at (optional-some _ _ (sym c.find-found.ensures ∙ c.in-Some.is))) (c.if-d-from.true ∙ c.from-in-Some.ensures)

pub returns-in-Some : goal.returns-in-Some
unfolding Recorded quick_base number
returns-in-Some c = λ ts ss hl hn.
    let m = (goal.at.returns-in-Some c).After-name_of-own in (
      taken _ _ _ _ hl hn _ (class-known m) _ (sym (own_is m)) (sym c.from-2.ensures ∙ c.if-from-name.false) _
          (rw c.from-3.ensures at (optional-some _ _ (sym c.find-found.ensures ∙ c.in-Some.is))) (λ q. c.if-d-from.false (q ∙ sym c.from-in-Some.ensures)),
      λ z. omega arith,
    )

pub returns-then-at-ge-CACHE_LIMIT : goal.returns-then-at-ge-CACHE_LIMIT
unfolding Recorded quick_base number
returns-then-at-ge-CACHE_LIMIT c = λ ts ss hl hn.
    let m = (goal.at.returns-then-at-ge-CACHE_LIMIT c).After-name_of-own in
    let counts = c.args.base.now.counts.now in
    let n : length (rows (entry_at c.args.base.now.cache.now) (get_or counts 2 0) 0) ≡ get_or counts 2 0 = rows-length _ _ _ in (
      full _ _ _ _ hl hn _ (class-known m) _ (sym (own_is m)) (sym c.from-2.ensures ∙ c.if-from-name.false)
          (rw c.from-3.ensures at (optional-none _ (sym c.find-found.ensures ∙ c.in_default.is))) (omega (arith, c.at.ensures, c.if-at-ge-CACHE_LIMIT.true)),
      λ z. omega arith,
    )

pub returns : goal.returns
unfolding Recorded quick_base
returns c = λ ts ss hl hn.
    let m = (goal.at.returns c).After-name_of-own in
    let counts = c.args.base.now.counts.now in
    let n : length (rows (entry_at c.args.base.now.cache.now) (get_or counts 2 0) 0) ≡ get_or counts 2 0 = rows-length _ _ _ in
    let own = sym c.from-2.ensures ∙ c.if-from-name.false in (
      judged _ _ _ _ hl hn _ (class-known m) _ (sym (own_is m)) own
          (rw c.from-3.ensures at (optional-none _ (sym c.find-found.ensures ∙ c.in_default.is))) (omega (arith, c.at.ensures, c.if-at-ge-CACHE_LIMIT.false)),
      record {
        loader = refl;
        name = own;
        class = refl;
        above = refl;
        tied = c.at-2.ensures;
        noted = c.at-3.ensures;
        room = omega (arith, c.at.ensures, c.if-at-ge-CACHE_LIMIT.false);
      },
    )
