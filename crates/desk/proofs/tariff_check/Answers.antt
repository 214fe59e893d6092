-- The desk's number: the file's rules first, then maps that are lacking, then the verifier's walk over the class's methods.
use mathlib.Core.Path.{refl, sym, ◌∙◌}
use Rattle.verifier.proofs.PostingLaws.{answer-says}
use Rattle.desk.proofs.Laws.{number-file, number-unmapped, number-rejected, number-accepted}
use Rattle.desk.proofs.tariff_check.Goals as goal

pub returns-then-not-reads : goal.returns-then-not-reads
returns-then-not-reads c = sym (number-file _ (sym c.reads.ensures ∙ c.if-not-reads.true))

pub returns-then-is_class_unmapped : goal.returns-then-is_class_unmapped
returns-then-is_class_unmapped c =
    sym (number-unmapped _ (sym c.reads.ensures ∙ c.if-not-reads.false) (sym c.is_class_unmapped.ensures ∙ c.if-is_class_unmapped.true))

pub returns-in-Err : goal.returns-in-Err
returns-in-Err c =
    sym
    (number-rejected _ (sym c.reads.ensures ∙ c.if-not-reads.false) (sym c.is_class_unmapped.ensures ∙ c.if-is_class_unmapped.false)
    _ (answer-says 0 _ _ _ _ c.in-Err.ensures) refl)

pub returns-in-Ok : goal.returns-in-Ok
returns-in-Ok c =
    sym
    (number-accepted _ (sym c.reads.ensures ∙ c.if-not-reads.false) (sym c.is_class_unmapped.ensures ∙ c.if-is_class_unmapped.false)
    _ (answer-says 0 _ _ _ _ c.in-Ok.ensures) refl)
