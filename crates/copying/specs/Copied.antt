-- A table copied into another of the same length; one of another length stays as it was. So of eight.
use Rattle.std.specs.Prelude.{◌≡◌, refl, true, false, List, ℕ, length, eqb}
use Rattle.std.proofs.Common.{sym, ◌∙◌, eq-eqb, ne_eqb}
use Rattle.definition.specs.Tables.{Tables, tables}
use Rattle.layout.specs.ReadBack.{Lengths}

unfoldable pub copied : {A : Type 0} → List A → List A → List A
copied source target = elim (eqb (length source) (length target)) [ true ↦ source | false ↦ target ]

abbrev pub copied_tables : Tables → Tables → Tables
copied_tables s t = tables
    (copied s.counts t.counts) (copied s.classes t.classes) (copied s.kept t.kept) (copied s.cache t.cache)
    (copied s.ties t.ties) (copied s.subtypes t.subtypes) (copied s.objects t.objects) (copied s.frames t.frames)

pub copied-whole : {A : Type 0} (source target : List A) → length source ≡ length target → copied source target ≡ source
unfolding copied
copied-whole source target e = rw (eq-eqb (length source) (length target) e, copied) refl

pub copied_none : {A : Type 0} (source target : List A) → (length source ≡ length target → ⊥) → copied source target ≡ target
unfolding copied
copied_none source target e = rw (ne_eqb (length source) (length target) e, copied) refl

-- tables of the published lengths become their sources
pub filled : (s t : Tables) → Lengths s → Lengths t → copied_tables s t ≡ s
filled s t l m = λ i. tables
    (copied-whole s.counts t.counts (l.counts ∙ sym m.counts) i)
    (copied-whole s.classes t.classes (l.classes ∙ sym m.classes) i)
    (copied-whole s.kept t.kept (l.kept ∙ sym m.kept) i)
    (copied-whole s.cache t.cache (l.cache ∙ sym m.cache) i)
    (copied-whole s.ties t.ties (l.ties ∙ sym m.ties) i)
    (copied-whole s.subtypes t.subtypes (l.subtypes ∙ sym m.subtypes) i)
    (copied-whole s.objects t.objects (l.objects ∙ sym m.objects) i)
    (copied-whole s.frames t.frames (l.frames ∙ sym m.frames) i)
