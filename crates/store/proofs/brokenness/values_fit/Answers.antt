-- Superclasses and sizes, objects, the frames of both tasks and the trace are tested one after the other.
use mathlib.Core.Path.{◌∙◌, sym}
use borrow.Author.Rules.{rules}
use Rattle.classfile.specs.Lists.{every-fails, every_first, every-last}
use Rattle.store.proofs.Laws.{sized-objects, trace-read}
use Rattle.store.proofs.Looked.{sized-few}
use Rattle.store.specs.Checks.{objects_fit, values_fit}
use Rattle.store.proofs.brokenness.values_fit.Goals as goal

pub returns-then-not-links_fit : goal.returns-then-not-links_fit
unfolding values_fit
returns-then-not-links_fit c = sym (every-fails _ _ (sym c.links_fit.ensures.0 ∙ c.if-not-links_fit.true))

pub objects_fit-requires : goal.objects_fit-requires
objects_fit-requires c = (sized-few _ _ c.links_fit.new.sizes (c.links_fit.ensures.1 c.if-not-links_fit.false).0 (search rules), c.requires.0, c.requires.3.0, c.requires.3.1, c.requires.3.3)

pub returns-then-not-objects_fit : goal.returns-then-not-objects_fit
unfolding values_fit objects_fit
returns-then-not-objects_fit c = sym (every_first _ _ (sym c.links_fit.ensures.0 ∙ c.if-not-links_fit.false) ∙ every-fails _ _ (sym (sized-objects _ _ _ _ _ _ (c.links_fit.ensures.1 c.if-not-links_fit.false).0 _ _) ∙ (sym c.objects_fit.ensures ∙ c.if-not-objects_fit.true)))

pub returns-then-not-frames_fit : goal.returns-then-not-frames_fit
unfolding values_fit objects_fit
returns-then-not-frames_fit c = sym (every_first _ _ (sym c.links_fit.ensures.0 ∙ c.if-not-links_fit.false) ∙ (every_first _ _ (sym (sized-objects _ _ _ _ _ _ (c.links_fit.ensures.1 c.if-not-links_fit.false).0 _ _) ∙ (sym c.objects_fit.ensures ∙ c.if-not-objects_fit.false)) ∙ (every-fails _ _ (sym c.frames_fit.ensures ∙ c.if-not-frames_fit.true))))

pub returns-then-not-frames_fit-2 : goal.returns-then-not-frames_fit-2
unfolding values_fit objects_fit
returns-then-not-frames_fit-2 c = sym (every_first _ _ (sym c.links_fit.ensures.0 ∙ c.if-not-links_fit.false) ∙ (every_first _ _ (sym (sized-objects _ _ _ _ _ _ (c.links_fit.ensures.1 c.if-not-links_fit.false).0 _ _) ∙ (sym c.objects_fit.ensures ∙ c.if-not-objects_fit.false)) ∙ (every_first _ _ (sym c.frames_fit.ensures ∙ c.if-not-frames_fit.false) ∙ (every-fails _ _ (sym c.frames_fit-2.ensures ∙ c.if-not-frames_fit-2.true)))))

pub returns : goal.returns
unfolding values_fit objects_fit
returns c = c.trace_fits.ensures ∙ sym (every_first _ _ (sym c.links_fit.ensures.0 ∙ c.if-not-links_fit.false) ∙ (every_first _ _ (sym (sized-objects _ _ _ _ _ _ (c.links_fit.ensures.1 c.if-not-links_fit.false).0 _ _) ∙ (sym c.objects_fit.ensures ∙ c.if-not-objects_fit.false)) ∙ (every_first _ _ (sym c.frames_fit.ensures ∙ c.if-not-frames_fit.false) ∙ (every_first _ _ (sym c.frames_fit-2.ensures ∙ c.if-not-frames_fit-2.false) ∙ (every-last _ ∙ trace-read _ _ _ _ _ _ _ (c.links_fit.ensures.1 c.if-not-links_fit.false).1)))))
