-- The superclass's size stands in the table; with the class's own fields it is the class's size.
use mathlib.Core.Path.{◌∙◌, ◌≡◌, ap, sym}
use mathlib.Core.Option.{some}
use Prim.Native.Nat.{◌+◌}
use Rattle.cells.specs.Optional.{optional-none, optional-some}
use Rattle.definition.specs.Classes.{super_of}
use Rattle.definition.specs.Tables.{size_of}
use Rattle.classfile.specs.Reading.{field_count}
use Rattle.resolution.specs.Quick.{base_of, file_in}
use Rattle.store.proofs.Laws.{size_above, size-linked, size-unlinked, size-within, super-read}
use Rattle.store.proofs.brokenness.linked_size.Goals as goal
use Rattle.store.proofs.brokenness.linked_size.Goals.{After-from-2}

-- p is the superclass, and the sum is the class's size
module _ (c : After-from-2) where
  above : super_of (base_of c.args.base.now) c.args.c ≡ some c.in_ok-p.p
  above = optional-some _ _ (sym (super-read _ _ _ _ _ _ _ _ c.requires.1 c.from-number.ensures c.super_by.ensures) ∙ c.in_ok-p.was)

  size : c.from.result + c.from-2.result ≡ size_of (base_of c.args.base.now) c.args.c
  size =
      let b = c.args.base.now in
      let own : c.from-2.result ≡ field_count (file_in b.counts.now b.classes.now b.kept.now c.args.c) =
      c.from-2.ensures ∙ (c.field_count-own.ensures ∙ ap field_count (c.file_of.ensures ∙ ap (file_in b.counts.now b.classes.now b.kept.now) c.from-number.ensures)) in
      (λ i. (c.from.ensures ∙ c.at.ensures) i + c.from-2.result) ∙ size-linked b.counts.now b.classes.now b.kept.now b.cache.now c.args.sizes.now c.args.c c.in_ok-p.p c.from-2.result c.requires.0 above own

pub returns-in_err-p : goal.returns-in_err-p
returns-in_err-p c = c.from_residual.ensures ∙ sym (size-unlinked _ _ (optional-none _ (sym (super-read _ _ _ _ _ _ _ _ c.requires.1 c.from-number.ensures c.super_by.ensures) ∙ c.in_err-p.was)))

pub returns-then-size-gt-FIELDS : goal.returns-then-size-gt-FIELDS
returns-then-size-gt-FIELDS c = let e = (goal.at.returns-then-size-gt-FIELDS c).After-from-2 in sym (size_above _ _ _ _ (above e) (size e) c.if-size-gt-FIELDS.true)

pub returns : goal.returns
returns c = let e = (goal.at.returns c).After-from-2 in sym (size-within _ _ _ _ (above e) (size e) c.if-size-gt-FIELDS.false)
