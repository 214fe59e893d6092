-- The file rules, then the verifier, whose notes are posted to a copy of the subtype constraints, and then what the class is.
use mathlib.Core.Path.{◌≡◌, refl, sym, ◌∙◌}
use mathlib.Core.Bool.{true, false}
use native.Mathlib.Omega.{arith}
use lib.ListN.{get_or}
use Rattle.definition.specs.Lists.{any, is_some}
use Rattle.definition.specs.Answers.{number}
use Rattle.definition.specs.File.{read_file}
use Rattle.classfile.specs.Reading.{file_version, quick_methods}
use Rattle.classfile.specs.Laws.{reads-some, file-readable}
use Rattle.rows.specs.Posting.{noted}
use Rattle.verifier.specs.Lookups.{unmapped_in}
use Rattle.verifier.specs.Trace.{answered, posting, class_trace}
use Rattle.verifier.proofs.PostingLaws.{rows-say}
use Rattle.entries.specs.Writing.{written-rows}
use Rattle.entries.proofs.Laws.{copied}
use Rattle.loading.specs.Stages.{Decided}
use Rattle.loading.proofs.Defined.{no-file, unmapped-there, unverified, rejected, verified-as, after-as, decided-same}
use Rattle.loading.proofs.admitting.admit_file.Goals as goal
use Rattle.loading.proofs.admitting.admit_file.Goals.{After-verify_class, Else-not-reads}

-- the file reads
module _ (c : Else-not-reads) where
  reads : is_some (read_file c.args.file.now) ≡ true
  reads = sym c.reads.ensures ∙ c.if-not-reads.false

-- the notes are posted to a copy of the subtype constraints
module _ (c : After-verify_class) where
  read : is_some (read_file c.args.file.now) ≡ true
  read = sym c.reads.ensures ∙ c.if-not-reads.false

  same : c.write_cells.new.t ≡ c.args.subtypes.now
  same = c.write_cells.ensures ∙ written-rows _ _ _ ∙ copied _ _ (c.requires.0.subtypes_long ∙ sym c.requires.3)

  posted : answered c.verify_class.result c.verify_class.new.subtypes ≡ posting c.args.loader (class_trace c.args.file.now) (noted c.args.subtypes.now (get_or c.args.base.now.counts.now 4 0))
  posted = c.verify_class.ensures ∙ (λ i. posting c.args.loader (class_trace c.args.file.now) (noted (same i) (c.at-count.ensures i)))

  unmapped-not : any (unmapped_in (file_version c.args.file.now)) (quick_methods c.args.file.now) ≡ false
  unmapped-not = sym c.is_class_unmapped.ensures ∙ c.if-is_class_unmapped.false

pub returns-then-not-reads : goal.returns-then-not-reads
unfolding Decided number
returns-then-not-reads c = (no-file _ _ _ _ c.requires.1 (sym c.reads.ensures ∙ c.if-not-reads.true), λ z. omega arith)

pub returns-then-is_class_unmapped : goal.returns-then-is_class_unmapped
unfolding Decided number
returns-then-is_class_unmapped c =
    let r = (goal.at.returns-then-is_class_unmapped c).Else-not-reads in
    (unmapped-there _ _ _ _ c.requires.1 (reads r) (sym c.is_class_unmapped.ensures ∙ c.if-is_class_unmapped.true), λ z. omega arith)

pub returns-in_default : goal.returns-in_default
unfolding Decided number
returns-in_default c =
    let v = (goal.at.returns-in_default c).After-verify_class in
    let r = rejected _ _ c.in_default.not-Ok in
    (unverified _ _ _ _ c.requires.1 (read v) (unmapped-not v) _ _ _ (sym r.1 ∙ posted v) refl, λ z. omega arith)

pub admit_class-requires : goal.admit_class-requires
admit_class-requires c =
    let v = (goal.at.admit_class-requires c).After-verify_class in
    let file = file-readable _ _ (reads-some _ (read v)) in
    (c.requires.0, file.size, file.few_methods, c.requires.2)

pub returns : goal.returns
returns c =
    let v = (goal.at.returns c).After-verify_class in
    let p = rw c.in-Ok.is at (posted v) in
    decided-same _ _ _ _ _ _ _ _ (verified-as _ _ _ _ c.requires.1 (read v) (unmapped-not v) _ _ _ p refl)
    (after-as _ _ false _ c.requires.1 (read v) (unmapped-not v) _ _ _ p refl)
    (c.admit_class.ensures _ (rows-say _ _ _ _ _ p))
