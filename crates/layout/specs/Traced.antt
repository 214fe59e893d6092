-- The trace of rows: what holds of each turn of taking back, latest first, each from what the one before left. A load that is remembered and a taking back
-- keep it. Word 1's test of the trace says just that each turn's level lies under the rows and leaves sound rows.
use Rattle.std.specs.Prelude.{◌≡◌, refl, true, List, [], ◌∷◌, ◌++◌, ℕ, zero, suc, ◌≤◌, length, take}
use Rattle.std.proofs.Common.{sym, ap, ◌∙◌, subst, arith, length-append, leb-true, le-leb}
use Rattle.std.proofs.Math.Seq.{take-append_seam}
use Rattle.definition.specs.Classes.{Entry}
use Rattle.definition.specs.Constraints.{Tie, Subtype}
use Rattle.definition.specs.Tables.{ClassRow, Level, Rows, rows_of, row_numbers, level_of, cut_to, with_trace}
use Rattle.definition.specs.Broken.{level_fits, trace_fits}
use Rattle.layout.specs.Tests.{every_true, true-every}
use Rattle.layout.specs.Whole.{Sound, sound-true, sound-is}

-- Each turn

abbrev pub EachTurn : (Level → Rows → Type 0) → List Level → Rows → Type 0
EachTurn Q [] r = Unit {0}
EachTurn Q (l ∷ ls) r = Q l r × EachTurn Q ls (cut_to l r)

-- no count of it is above the rows'
pub record Under (l : Level) (r : Rows) : Type 0 where
  pub classes : l.classes ≤ length r.classes
  pub kept : l.kept ≤ length r.kept
  pub cache : l.cache ≤ length r.cache
  pub ties : l.ties ≤ length r.ties
  pub subtypes : l.subtypes ≤ length r.subtypes

abbrev pub Leaves : Level → Rows → Type 0
Leaves l r = Under l r × Sound (cut_to l r)

abbrev pub Traced : Rows → Type 0
Traced r = EachTurn Leaves r.trace r

-- `trace_fits` says exactly this

fits-level : (l : Level) (r : Rows) → level_fits l r ≡ true → Under l r
unfolding level_fits
fits-level l r h =
    let p = every_true _ h in
    record {
      classes = leb-true _ _ p.0;
      kept = leb-true _ _ p.1.0;
      cache = leb-true _ _ p.1.1.0;
      ties = leb-true _ _ p.1.1.1.0;
      subtypes = leb-true _ _ p.1.1.1.1.0;
    }

level-fits : (l : Level) (r : Rows) → Under l r → level_fits l r ≡ true
unfolding level_fits
level-fits l r h = true-every _ (le-leb _ _ h.classes, (le-leb _ _ h.kept, (le-leb _ _ h.cache, (le-leb _ _ h.ties, (le-leb _ _ h.subtypes, tt)))))

pub fits-trace : (ls : List Level) (r : Rows) → trace_fits ls r ≡ true → EachTurn Leaves ls r
unfolding trace_fits
fits-trace [] r h = tt
fits-trace (l ∷ ls) r h = let p = every_true _ h in ((fits-level l r p.0, sound-true (cut_to l r) p.1.0), fits-trace ls (cut_to l r) p.1.1.0)

pub trace-fits : (ls : List Level) (r : Rows) → EachTurn Leaves ls r → trace_fits ls r ≡ true
unfolding trace_fits
trace-fits [] r h = refl
trace-fits (l ∷ ls) r h = true-every _ (level-fits l r h.0.0, (sound-is (cut_to l r) h.0.1, (trace-fits ls (cut_to l r) h.1, tt)))

-- Rows cut to the level that they were at before a load are those before it

-- what a load leaves of rows: each table longer or the same, objects and frames as they were, and any trace
pub record Loads (r s : Rows) : Type 0 where
  pub classes : List ClassRow
  pub kept : List ℕ
  pub cache : List Entry
  pub ties : List Tie
  pub subtypes : List Subtype
  pub tie_numbers : List ℕ
  pub subtype_numbers : List ℕ
  pub numbered_ties : length r.numbers.ties ≡ length r.ties
  pub numbered_subtypes : length r.numbers.subtypes ≡ length r.subtypes
  pub is : s ≡ rows_of (r.classes ++ classes) (r.kept ++ kept) (r.cache ++ cache) (r.ties ++ ties) (r.subtypes ++ subtypes)
      r.objects r.quote r.report (row_numbers (r.numbers.ties ++ tie_numbers) (r.numbers.subtypes ++ subtype_numbers)) s.trace

pub cut_load : (r s : Rows) → Loads r s → cut_to (level_of r) s ≡ with_trace s.trace r
unfolding cut_to
cut_load r s h =
    ap (cut_to (level_of r)) h.is
    ∙ (λ i. rows_of (take-append_seam r.classes h.classes i) (take-append_seam r.kept h.kept i) (take-append_seam r.cache h.cache i) (take-append_seam r.ties h.ties i)
    (take-append_seam r.subtypes h.subtypes i) r.objects r.quote r.report
    (row_numbers ((rw h.numbered_ties at (take-append_seam r.numbers.ties h.tie_numbers)) i) ((rw h.numbered_subtypes at (take-append_seam r.numbers.subtypes h.subtype_numbers)) i)) s.trace)

pub under-load : (r s : Rows) → Loads r s → Under (level_of r) s
under-load r s h = subst (Under (level_of r)) (sym h.is) (record {
  classes = omega (arith, length-append r.classes h.classes);
  kept = omega (arith, length-append r.kept h.kept);
  cache = omega (arith, length-append r.cache h.cache);
  ties = omega (arith, length-append r.ties h.ties);
  subtypes = omega (arith, length-append r.subtypes h.subtypes);
})

-- What each turn keeps

-- rows that differ in the trace alone are alike for P, and for Q
abbrev pub Traceless : (Rows → Type 0) → Type 0
Traceless P = (r : Rows) (x : List Level) → P r → P (with_trace x r)

abbrev pub TracelessTurn : (Level → Rows → Type 0) → Type 0
TracelessTurn Q = (l : Level) (r : Rows) (x : List Level) → Q l r → Q l (with_trace x r)

pub turns-traced : (Q : Level → Rows → Type 0) → TracelessTurn Q → (ls x : List Level) (r : Rows) → EachTurn Q ls r → EachTurn Q ls (with_trace x r)
unfolding cut_to
turns-traced Q q [] x r h = tt
turns-traced Q q (l ∷ ls) x r h = (q l r x h.0, turns-traced Q q ls x (cut_to l r) h.1)

-- the latest n of them
pub turns-fewer : (Q : Level → Rows → Type 0) (n : ℕ) (ls : List Level) (r : Rows) → EachTurn Q ls r → EachTurn Q (take n ls) r
turns-fewer Q zero ls r h = tt
turns-fewer Q (suc n) [] r h = tt
turns-fewer Q (suc n) (l ∷ ls) r h = (h.0, turns-fewer Q n ls (cut_to l r) h.1)

-- a load that is remembered
pub turns-load : (Q : Level → Rows → Type 0) → TracelessTurn Q → (n : ℕ) (r s : Rows) → Loads r s → Q (level_of r) s → EachTurn Q r.trace r
    → EachTurn Q (take n (level_of r ∷ r.trace)) s
turns-load Q q n r s h p b =
    turns-fewer Q n (level_of r ∷ r.trace) s (p, subst (EachTurn Q r.trace) (sym (cut_load r s h)) (turns-traced Q q r.trace s.trace r b))

-- what holds of the rows that each turn leaves
abbrev pub Back : (Rows → Type 0) → List Level → Rows → Type 0
Back P ls r = EachTurn (λ l s. P (cut_to l s)) ls r

pub traceless-turn : (P : Rows → Type 0) → Traceless P → TracelessTurn (λ l s. P (cut_to l s))
unfolding cut_to
traceless-turn P q l r x p = q (cut_to l r) x p

-- Word 1's

pub sound-traceless : Traceless Sound
sound-traceless r x s = record {
  classes = s.classes;
  cache = s.cache;
  ties = s.ties;
  subtypes = s.subtypes;
  objects = s.objects;
  quote = s.quote;
  report = s.report;
  numbers = s.numbers;
  share = s.share;
}

pub leaves-traceless : TracelessTurn Leaves
unfolding cut_to
leaves-traceless l r x h = (
  record { classes = h.0.classes; kept = h.0.kept; cache = h.0.cache; ties = h.0.ties; subtypes = h.0.subtypes },
  sound-traceless (cut_to l r) x h.1,
)

-- of the turn that takes a load back
pub leaves-load : (r s : Rows) → Loads r s → Sound r → Leaves (level_of r) s
leaves-load r s h w = (under-load r s h, subst Sound (sym (cut_load r s h)) (sound-traceless r s.trace w))
