-- Word 1 read in full: tables are not broken exactly if their lengths are the published ones, their counts are within the limits, their rows are sound and
-- their groups are those of the ties. So whole rows that a call puts leave tables that are not broken.
use Rattle.std.specs.Prelude.{◌≡◌, true, false, not, List, ℕ, zero, suc, ◌*◌, ◌≤◌, ◌<◌, length, get_or}
use Rattle.std.proofs.Common.{sym, ap, ◌∙◌, leb-true, le-leb}
use Rattle.std.proofs.lemmas.Bool.{not-false}
use Rattle.definition.specs.Numbers.{tie_numbers_cell, subtype_numbers_cell, loads_cell}
use Rattle.definition.specs.Lists.{rows, stack}
use Rattle.definition.specs.Classes.{Base}
use Rattle.definition.specs.Machine.{Exists}
use Rattle.definition.specs.Tables.{Tables, Rows, size_of, used_fields, class_row_at, entry_at, tie_at, subtype_at, object_at, owned_by, owner_at, object_row_at, number_at, level_at, local_at, field_at, frame_of, frame_at, frame_base, frame_in, class_rows_of, kept_of, cache_of, view_base, objects_of, frames_of, view_over, view, put}
use Rattle.definition.specs.Broken.{within, grouped, whole, broken}
use Rattle.layout.specs.Tests.{All, every_true, true-every}
use Rattle.layout.specs.Places.{rows-length, stack-length}
use Rattle.layout.specs.ObjectRows.{used_all}
use Rattle.layout.specs.Whole.{RowSound, Framed, RowOwned, Frames, Limits, Whole, Sound, sound-true, sound-is, whole-sound}
use Rattle.layout.specs.Traced.{Traced, fits-trace, trace-fits}
use Rattle.layout.specs.ReadBack.{Lengths, shaped-true, true-shaped, put-lengths, size_small, view-put, put-grouped}

-- Counts within their limits

pub record Counts (c : List ℕ) : Type 0 where
  pub classes : get_or c 0 0 ≤ 64
  pub kept : get_or c 1 0 ≤ 16384
  pub cache : get_or c 2 0 ≤ 256
  pub ties : get_or c 3 0 ≤ 256
  pub subtypes : get_or c 4 0 ≤ 256
  pub objects : get_or c 5 0 ≤ 256
  pub quote : get_or c 6 0 ≤ 32
  pub report : get_or c 7 0 ≤ 32
  pub trace : get_or c loads_cell 0 ≤ 32

pub within-true : (c : List ℕ) → within c ≡ true → Counts c
unfolding within
within-true c h =
    let p = every_true _ h in
    record {
      classes = leb-true _ _ p.0;
      kept = leb-true _ _ p.1.0;
      cache = leb-true _ _ p.1.1.0;
      ties = leb-true _ _ p.1.1.1.0;
      subtypes = leb-true _ _ p.1.1.1.1.0;
      objects = leb-true _ _ p.1.1.1.1.1.0;
      quote = leb-true _ _ p.1.1.1.1.1.1.0;
      report = leb-true _ _ p.1.1.1.1.1.1.1.0;
      trace = leb-true _ _ p.1.1.1.1.1.1.1.1.0;
    }

pub true-within : (c : List ℕ) → Counts c → within c ≡ true
unfolding within
true-within c h =
    true-every _ (
      le-leb _ _ h.classes,
      (
        le-leb _ _ h.kept,
        (
          le-leb _ _ h.cache,
          (
            le-leb _ _ h.ties,
            (le-leb _ _ h.subtypes, (le-leb _ _ h.objects, (le-leb _ _ h.quote, (le-leb _ _ h.report, (le-leb _ _ h.trace, tt))))),
          ),
        ),
      ),
    )

-- Word 1, in full: the published lengths, counts within their limits, sound rows, each load that can be taken back leaves sound rows, and the groups are right

pub record Unbroken (t : Tables) : Type 0 where
  pub lengths : Lengths t
  pub counts : Counts t.counts
  pub sounds : Sound (view t)
  pub traces : Traced (view t)
  pub groups : grouped t ≡ true

pub unbroken : (t : Tables) → broken t ≡ false → Unbroken t
unfolding broken whole
unbroken t h =
    let p = every_true _ (not-false (whole t) h) in
    record {
      lengths = shaped-true t p.0;
      counts = within-true t.counts p.1.0;
      sounds = sound-true (view t) p.1.1.0;
      traces = fits-trace (view t).trace (view t) p.1.1.1.0;
      groups = p.1.1.1.1.0;
    }

pub unbroken-is : (t : Tables) → Unbroken t → broken t ≡ false
unfolding broken whole
unbroken-is t u = ap not (true-every _ (true-shaped t u.lengths, (true-within t.counts u.counts, (sound-is (view t) u.sounds, (trace-fits (view t).trace (view t) u.traces, (u.groups, tt))))))

-- The counts are the numbers of rows read

pub view_limits : (t : Tables) → Counts t.counts → Limits (view t)
unfolding view view_over objects_of frames_of
view_limits t c = record {
  classes = rw (rows-length (class_row_at t.classes) (get_or t.counts 0 0) 0) c.classes;
  kept = rw (rows-length (λ i. get_or t.kept i 0) (get_or t.counts 1 0) 0) c.kept;
  cache = rw (rows-length (entry_at t.cache) (get_or t.counts 2 0) 0) c.cache;
  ties = rw (rows-length (tie_at t.ties) (get_or t.counts 3 0) 0) c.ties;
  subtypes = rw (rows-length (subtype_at t.subtypes) (get_or t.counts 4 0) 0) c.subtypes;
  objects = rw (rows-length (object_row_at (view_base t) t.counts t.objects) (get_or t.counts 5 0) 0) c.objects;
  quote = rw (stack-length (frame_in t.frames 0) (get_or t.counts 6 0)) c.quote;
  report = rw (stack-length (frame_in t.frames 1) (get_or t.counts 7 0)) c.report;
  trace = rw (stack-length (level_at t.counts) (get_or t.counts loads_cell 0)) c.trace;
}

limits-view : (t : Tables) → Limits (view t) → Counts t.counts
unfolding view view_over objects_of frames_of
limits-view t m = record {
  classes = rw (rows-length (class_row_at t.classes) (get_or t.counts 0 0) 0) at m.classes;
  kept = rw (rows-length (λ i. get_or t.kept i 0) (get_or t.counts 1 0) 0) at m.kept;
  cache = rw (rows-length (entry_at t.cache) (get_or t.counts 2 0) 0) at m.cache;
  ties = rw (rows-length (tie_at t.ties) (get_or t.counts 3 0) 0) at m.ties;
  subtypes = rw (rows-length (subtype_at t.subtypes) (get_or t.counts 4 0) 0) at m.subtypes;
  objects = rw (rows-length (object_row_at (view_base t) t.counts t.objects) (get_or t.counts 5 0) 0) at m.objects;
  quote = rw (stack-length (frame_in t.frames 0) (get_or t.counts 6 0)) at m.quote;
  report = rw (stack-length (frame_in t.frames 1) (get_or t.counts 7 0)) at m.report;
  trace = rw (stack-length (level_at t.counts) (get_or t.counts loads_cell 0)) at m.trace;
}

-- objects that are read have their class's number of fields, frames that are read have 8 locals

sized-objects : (b : Base) (n : ℕ) (X : ℕ → Type 0) (c t : List ℕ) (k i : ℕ) → ((c : ℕ) → c < n → size_of b c ≤ 16) → All (RowOwned n X) (rows (object_row_at b c t) k i)
    → All (RowSound b n X) (rows (object_row_at b c t) k i)
unfolding rows object_row_at owned_by object_at
sized-objects b n X c t zero i small h = tt
sized-objects b n X c t (suc k) i small h = (sized (owner_at c i) h.0, sized-objects b n X c t k (suc i) small h.1)
  where
    sized : (w : ℕ) → RowOwned n X (owned_by w (object_at b t i)) → RowSound b n X (owned_by w (object_at b t i))
    sized zero h = tt
    sized (suc j) h =
        let d : ℕ = get_or t (i * 33) 0 in (
          h.0,
          record { class = h.1.class; size = rows-length (field_at t i) (used_fields b d) 0 ∙ used_all b d (small d h.1.class); values = h.1.values },
        )

eight-locals : (n : ℕ) (X : ℕ → Type 0) (t : List ℕ) (k j : ℕ) → All (Frames n X) (stack (frame_in t k) j) → All (Framed n X) (stack (frame_in t k) j)
unfolding stack frame_in frame_at frame_of
eight-locals n X t k zero h = tt
eight-locals n X t k (suc j) h = (
  record {
    class = h.0.class;
    depth = h.0.depth;
    operands = h.0.operands;
    eight = rows-length (local_at t (frame_base k j)) 8 0;
    locals = h.0.locals;
  },
  eight-locals n X t k j h.1,
)

pub view-whole : (t : Tables) → Counts t.counts → Sound (view t) → Whole (view t)
unfolding view view_over objects_of frames_of
view-whole t c s = record {
  limits = view_limits t c;
  classes = s.classes;
  cache = s.cache;
  ties = s.ties;
  subtypes = s.subtypes;
  objects =
      sized-objects (view_base t) (length (class_rows_of t)) (Exists (objects_of (view_base t) t)) t.counts t.objects (get_or t.counts 5 0) 0
      (size_small (cache_of t) (kept_of t) (class_rows_of t) s.classes) s.objects;
  quote = eight-locals (length (class_rows_of t)) (Exists (objects_of (view_base t) t)) t.frames 0 (get_or t.counts 6 0) s.quote;
  report = eight-locals (length (class_rows_of t)) (Exists (objects_of (view_base t) t)) t.frames 1 (get_or t.counts 7 0) s.report;
  numbers = record {
    ties = rows-length (number_at tie_numbers_cell t.counts) (get_or t.counts 3 0) 0 ∙ sym (rows-length (tie_at t.ties) (get_or t.counts 3 0) 0);
    subtypes = rows-length (number_at subtype_numbers_cell t.counts) (get_or t.counts 4 0) 0 ∙ sym (rows-length (subtype_at t.subtypes) (get_or t.counts 4 0) 0);
    turn = s.numbers;
  };
  share = s.share;
}

-- Tables that are not broken show whole rows, and tables of the published lengths with the right groups that show whole rows are not broken

pub broken-false : (t : Tables) → broken t ≡ false → Lengths t × Whole (view t) × Traced (view t)
broken-false t h = let u = unbroken t h in (u.lengths, view-whole t u.counts u.sounds, u.traces)

pub false-broken : (t : Tables) → Lengths t → Whole (view t) → Traced (view t) → grouped t ≡ true → broken t ≡ false
false-broken t l w b g = unbroken-is t (record { lengths = l; counts = limits-view t w.limits; sounds = whole-sound (view t) w; traces = b; groups = g })

-- whole rows that are put leave tables that are not broken
pub true-whole : (r : Rows) (t : Tables) → Lengths t → Whole r → Traced r → broken (put r t) ≡ false
true-whole r t l w b = false-broken (put r t) (put-lengths r t l) (rw (view-put r t l w) w) (rw (view-put r t l w) b) (put-grouped r t l w)
