-- Counts set back: tables whose rows continue those of other tables, with objects and frames the same, show those tables' rows again once their counts stand there;
-- and are no more broken than they. Loads only add rows, so a load is undone so, whatever it wrote behind the counts: numbers, groups and the trace are among them.
use Rattle.std.specs.Prelude.{◌≡◌, refl, false, List, [], ◌∷◌, ◌++◌, ℕ, zero, suc, length}
use Rattle.std.proofs.Common.{sym, ◌∙◌, subst, append-nil, arith}
use Rattle.std.proofs.Math.Path.{ap}
use Rattle.std.proofs.Math.Bool.{Bool}
use Rattle.std.proofs.Math.ListN.{get_or}
use Rattle.definition.specs.Numbers.{count_classes, count_kept, count_cache, count_ties, count_subtypes}
use Rattle.definition.specs.Lists.{same_list, rows}
use Rattle.definition.specs.Classes.{Entry}
use Rattle.definition.specs.Constraints.{Tie, Subtype}
use Rattle.definition.specs.Groups.{groups_of}
use Rattle.definition.specs.Tables.{Tables, tables, ClassRow, Rows, rows_of, base_of, class_row_at, entry_at, tie_at, subtype_at, class_rows_of, kept_of, cache_of, ties_of, subtypes_of, objects_of, frames_of, numbers_of, trace_of, view_over, view}
use Rattle.definition.specs.Broken.{groups_in, grouped, broken}
use Rattle.layout.specs.Places.{rows-length}
use Rattle.layout.specs.Traced.{Traced, Loads}
use Rattle.layout.specs.Whole.{Sound}
use Rattle.layout.specs.ReadBack.{Lengths}
use Rattle.layout.specs.Unbroken.{unbroken, unbroken-is}

-- the first of some rows
rows-front : {A : Type 0} (g : ℕ → A) (n k i : ℕ) (xs ys : List A) → rows g k i ≡ xs ++ ys → length xs ≡ n → rows g n i ≡ xs
unfolding rows
rows-front g zero k i [] ys e l = refl
rows-front g zero k i (x ∷ xs) ys e l = absurd (omega arith)
rows-front g (suc n) k i [] ys e l = absurd (omega arith)
rows-front g (suc n) zero i (x ∷ xs) ys e l = absurd (omega (arith, ap length e))
rows-front {A} g (suc n) (suc k) i (x ∷ xs) ys e l = λ j. first j ∷ rows-front g n k (suc i) xs ys rest (omega arith) j
  where
    head : A → List A → A
    head d [] = d
    head d (y ∷ zs) = y

    tail : List A → List A
    tail [] = []
    tail (y ∷ zs) = zs

    first : g i ≡ x
    first = ap (head x) e

    rest : rows g k (suc i) ≡ xs ++ ys
    rest = ap tail e

-- the rows s continue the rows r
pub record Continues (r s : Rows) : Type 0 where
  pub more_classes : List ClassRow
  pub classes : s.classes ≡ r.classes ++ more_classes
  pub more_kept : List ℕ
  pub kept : s.kept ≡ r.kept ++ more_kept
  pub more_cache : List Entry
  pub cache : s.cache ≡ r.cache ++ more_cache
  pub more_ties : List Tie
  pub ties : s.ties ≡ r.ties ++ more_ties
  pub more_subtypes : List Subtype
  pub subtypes : s.subtypes ≡ r.subtypes ++ more_subtypes

pub continues-self : (r : Rows) → Continues r r
continues-self r = record {
  more_classes = [];
  classes = sym (append-nil r.classes);
  more_kept = [];
  kept = sym (append-nil r.kept);
  more_cache = [];
  cache = sym (append-nil r.cache);
  more_ties = [];
  ties = sym (append-nil r.ties);
  more_subtypes = [];
  subtypes = sym (append-nil r.subtypes);
}

-- a load's do
pub loads-continue : (r s : Rows) → Loads r s → Continues r s
loads-continue r s h = subst (Continues r) (sym h.is) (record {
  more_classes = h.classes;
  classes = refl;
  more_kept = h.kept;
  kept = refl;
  more_cache = h.cache;
  cache = refl;
  more_ties = h.ties;
  ties = refl;
  more_subtypes = h.subtypes;
  subtypes = refl;
})

-- the tables s with the counts of t
abbrev pub set_back : Tables → Tables → Tables
set_back t s = tables t.counts s.classes s.kept s.cache s.ties s.subtypes s.objects s.frames

module _ (t s : Tables) (c : Continues (view t) (view s)) (objects : s.objects ≡ t.objects) (frames : s.frames ≡ t.frames) where
  pub set-back : view (set_back t s) ≡ view t
  unfolding view view_over objects_of frames_of
  set-back =
      let ks = rows-front (class_row_at s.classes) (get_or t.counts count_classes 0) (get_or s.counts count_classes 0) 0 (class_rows_of t) c.more_classes c.classes (rows-length (class_row_at t.classes) (get_or t.counts count_classes 0) 0) in
      let bs = rows-front (λ i. get_or s.kept i 0) (get_or t.counts count_kept 0) (get_or s.counts count_kept 0) 0 (kept_of t) c.more_kept c.kept (rows-length (λ i. get_or t.kept i 0) (get_or t.counts count_kept 0) 0) in
      let es = rows-front (entry_at s.cache) (get_or t.counts count_cache 0) (get_or s.counts count_cache 0) 0 (cache_of t) c.more_cache c.cache (rows-length (entry_at t.cache) (get_or t.counts count_cache 0) 0) in
      let us = rows-front (tie_at s.ties) (get_or t.counts count_ties 0) (get_or s.counts count_ties 0) 0 (ties_of t) c.more_ties c.ties (rows-length (tie_at t.ties) (get_or t.counts count_ties 0) 0) in
      let ss = rows-front (subtype_at s.subtypes) (get_or t.counts count_subtypes 0) (get_or s.counts count_subtypes 0) 0 (subtypes_of t) c.more_subtypes c.subtypes (rows-length (subtype_at t.subtypes) (get_or t.counts count_subtypes 0) 0) in
      λ i.
      let x : Tables = tables t.counts t.classes t.kept t.cache t.ties t.subtypes (objects i) (frames i) in
      rows_of (ks i) (bs i) (es i) (us i) (ss i) (objects_of (base_of (ks i) (bs i) (es i)) x) (frames_of x 0) (frames_of x 1) (numbers_of t) (trace_of t)

  grouped-back : grouped (set_back t s) ≡ grouped t
  unfolding grouped
  grouped-back = ap (λ (r : Rows). grouped-by r) set-back
    where
      grouped-by : Rows → Bool
      grouped-by r = same_list (groups_in t) (groups_of r.ties r.numbers.ties)

  -- where the tables have the published lengths
  pub set-back-unbroken : broken t ≡ false → Lengths s → broken (set_back t s) ≡ false
  set-back-unbroken h l =
      let u = unbroken t h in
      unbroken-is (set_back t s) (record {
        lengths = record { counts = u.lengths.counts; classes = l.classes; kept = l.kept; cache = l.cache; ties = l.ties; subtypes = l.subtypes; objects = l.objects; frames = l.frames };
        counts = u.counts;
        sounds = subst Sound (sym set-back) u.sounds;
        traces = subst Traced (sym set-back) u.traces;
        groups = grouped-back ∙ u.groups;
      })
