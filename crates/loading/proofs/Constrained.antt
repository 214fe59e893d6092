-- The constraints of a new class, posted to copies of the tables: what the copies hold, and what is decided.
use mathlib.Core.Path.{◌≡◌, refl, sym, ap, ◌∙◌}
use mathlib.Core.Bool.{Bool, true, false, false≢true}
use mathlib.Core.Option.{some}
use mathlib.Core.List.{List, [], ◌∷◌, ◌++◌}
use Prim.Native.Nat.{ℕ, suc, ◌+◌, ◌*◌, ◌≤◌, ◌<◌}
use native.Mathlib.Omega.{arith}
use lib.ListN.{length, get_or, set, take, drop, length-append, length-take, get_or-append, length-set}
use lib.Seq.{set_out, take-set-le, take-set-lt, take_at}
use lib.Dec.{leb, ltb}
use borrow.Author.Tests.{leb-true, leb-false, ltb-true, ltb-false, le-leb}
use Rattle.definition.specs.declared.Refusal.TheVariants.{Word}
use Rattle.definition.specs.Lists.{every, rows, write_rows}
use Rattle.definition.specs.Requests.{at}
use Rattle.definition.specs.Classes.{Base, Class, find, slots}
use Rattle.definition.specs.Constraints.{World, Tie, Subtype}
use Rattle.definition.specs.Verifier.{Note}
use Rattle.definition.specs.Answers.{Result, refused, ◌>>=◌, need}
use Rattle.definition.specs.Loading.{override_ties, with_class}
use Rattle.definition.specs.File.{class_of}
use Rattle.definition.specs.Tables.{tie_at, put_tie, subtype_at, put_subtype, entry_at, class_row_at}
use Rattle.layout.specs.Tests.{every_true, true-every}
use Rattle.layout.specs.Places.{rows-length, rows-cong, write_rows-length}
use Rattle.layout.specs.Cells.{tie-rows, subtype-rows, rows-after-more, cells-block}
use Rattle.classfile.specs.Reading.{field_count, field_in, quick_fields, quick_methods, quick_file}
use Rattle.resolution.specs.Quick.{quick_class, quick_base}
use Rattle.rows.specs.Posting.{new_subtypes_in, subtypes_after, Noted, noted, post_notes}
use Rattle.rows.specs.Laws.{Posts, posts}
use Rattle.entries.specs.World.{world_in, world, base_with, Loadable}
use Rattle.loading.specs.Posting.{TiesPosted, NotesPosted}
use Rattle.loading.specs.declared.loads.Newcomer.{Newcomer}
use Rattle.loading.specs.Stages.{judged_world, posted_for, room_for, class_ties, new_notes, placed_after, Placing}

-- Copies

-- what is written beyond a table's end is cut off with it
pub take-ties : (n : ℕ) (us : List Tie) (i : ℕ) (t : List ℕ) → take n (write_rows put_tie us i t) ≡ write_rows put_tie us i (take n t)
unfolding write_rows put_tie
take-ties n [] i t = refl
take-ties n (u ∷ us) i t =
    three (write_rows put_tie us (suc i) t) (i * 3) u.one u.two u.name
    ∙ ap (λ (s : List ℕ). set (set (set s (i * 3) u.one) (i * 3 + 1) u.two) (i * 3 + 2) u.name) (take-ties n us (suc i) t)
  where
    one : (s : List ℕ) (j v : ℕ) → take n (set s j v) ≡ set (take n s) j v
    one s j v = go (ltb j n) refl
      where
        go : (b : Bool) → ltb j n ≡ b → take n (set s j v) ≡ set (take n s) j v
        go true e = take-set-lt n s j v (ltb-true j n e)
        go false e = let h : n ≤ j = ltb-false j n e in take-set-le n s j v h ∙ sym (set_out (take n s) j v (few s h))
          where
            few : (s : List ℕ) → n ≤ j → length (take n s) ≤ j
            few s h = omega (arith, length-take n s)

    three : (s : List ℕ) (j x y z : ℕ) → take n (set (set (set s j x) (j + 1) y) (j + 2) z) ≡ set (set (set (take n s) j x) (j + 1) y) (j + 2) z
    three s j x y z =
        one (set (set s j x) (j + 1) y) (j + 2) z
        ∙ ap (λ (q : List ℕ). set q (j + 2) z) (one (set s j x) (j + 1) y ∙ ap (λ (q : List ℕ). set q (j + 1) y) (one s j x))

-- a shorter table copied onto a longer one: its rows are there, and cut off they are the table
module _ (t z : List ℕ) (short : length t ≤ length z) where
  joined : write_rows set t 0 z ≡ t ++ drop (0 + length t) z
  joined = cells-block t 0 z (omega arith)

  pub copy-cut : take (length t) (write_rows set t 0 z) ≡ t
  copy-cut = ap (take (length t)) joined ∙ take_at t (drop (0 + length t) z) (length t) refl

  cell-there : (i : ℕ) → i < length t → get_or (write_rows set t 0 z) i 0 ≡ get_or t i 0
  cell-there i h = ap (λ (x : List ℕ). get_or x i 0) joined ∙ get_or-append t (drop (0 + length t) z) 0 i h

  pub ties-there : (n : ℕ) → n * 3 ≤ length t → rows (tie_at (write_rows set t 0 z)) n 0 ≡ rows (tie_at t) n 0
  unfolding tie_at
  ties-there n h =
      rows-cong (tie_at (write_rows set t 0 z)) (tie_at t) n 0
      (λ i a b. λ j. record {
        one = cell-there (i * 3) (omega arith) j;
        two = cell-there (i * 3 + 1) (omega arith) j;
        name = cell-there (i * 3 + 2) (omega arith) j;
      })

-- a test that cannot pass fails
fails : (bs : List Bool) → (every bs ≡ true → ⊥) → every bs ≡ false
fails bs h = go (every bs) refl
  where
    go : (b : Bool) → every bs ≡ b → b ≡ false
    go true e = absurd (h e)
    go false e = refl

-- What is decided of a class: u, of `tied` rows, is the copy of the ties with the class's own, and v, of n rows, that of the subtype constraints with the notes

module _ (counts classes kept cache ties subtypes : List ℕ) (ld : Loadable counts classes kept cache ties subtypes) (l p : ℕ) (bs : List ℕ) where
  abbrev b : Base
  b = quick_base counts classes kept cache

  abbrev w : World
  w = world_in counts classes kept cache ties subtypes

  abbrev k : Class
  k = class_of l (quick_file bs)

  abbrev us : List Tie
  us = class_ties k w p

  abbrev ss : List Note → List Subtype
  ss ns = new_notes k w ns

  abbrev whole : List Note → Result World
  whole ns = posted_for (leb (get_or counts 1 0 + length bs) 16384) k w ns p

  ties-count : length (w.ties ++ us) ≡ get_or counts 3 0 + length us
  ties-count = length-append w.ties us ∙ ap (λ (x : ℕ). x + length us) (rows-length (tie_at ties) (get_or counts 3 0) 0)

  subtypes-count : (ns : List Note) → length (w.subtypes ++ ss ns) ≡ get_or counts 4 0 + length (ss ns)
  subtypes-count ns = length-append w.subtypes (ss ns) ∙ ap (λ (x : ℕ). x + length (ss ns)) (rows-length (subtype_at subtypes) (get_or counts 4 0) 0)

  classes-count : length b.classes ≡ get_or counts 0 0
  unfolding quick_base
  classes-count = rows-length (λ c. quick_class kept (class_row_at classes c)) (get_or counts 0 0) 0

  entries-count : length b.cache ≡ get_or counts 2 0
  unfolding quick_base
  entries-count = rows-length (entry_at cache) (get_or counts 2 0) 0

  fields-count : length k.fields ≡ field_count bs
  unfolding quick_file quick_fields
  fields-count = rows-length (field_in bs) (field_count bs) 0

  abbrev limits : List Note → List Bool
  limits ns =
      leb (get_or counts 1 0 + length bs) 16384
      ∷ ltb (length b.classes) 64
      ∷ ltb (length b.cache) 256
      ∷ leb (length (w.ties ++ us)) 256
      ∷ leb (length (w.subtypes ++ ss ns)) 256
      ∷ leb (length (slots b p) + length k.fields) 16
      ∷ []

  -- one of the limits would be passed
  past : (ns : List Note) → (every (limits ns) ≡ true → ⊥) → refused (Word 10) ≡ whole ns
  unfolding posted_for need ◌>>=◌
  past ns h = rw (fails (limits ns) h)

  -- The notes, posted to a copy of the subtype constraints

  module _ (v : List ℕ) (n : ℕ) (ns : List Note) (e : NotesPosted ns l subtypes (get_or counts 4 0) v n) where
    posted : Posts l ns subtypes (get_or counts 4 0)
    posted = posts l ns subtypes (get_or counts 4 0) (omega (arith, ld.subtypes_long)) ld.subtypes_few

    abbrev total : ℕ
    total = get_or counts 4 0 + length (ss ns)

    count-is : n ≡ (post_notes l ns (noted subtypes (get_or counts 4 0))).count
    count-is = ap (λ (x : Noted). x.count) e

    noted-few : n ≤ 256 → total ≤ 256
    unfolding new_subtypes_in
    noted-few h = go (leb total 256) refl
      where
        go : (d : Bool) → leb total 256 ≡ d → total ≤ 256
        go true q = leb-true total 256 q
        go false q = absurd (omega (arith, count-is, posted.full (leb-false total 256 q)))

    fitted : total ≤ 256 → noted v n ≡ noted (write_rows put_subtype (ss ns) (get_or counts 4 0) subtypes) total
    unfolding new_subtypes_in subtypes_after
    fitted h = e ∙ posted.fit h

    noted-is : n ≤ 256 → n ≡ total
    noted-is h = ap (λ (x : Noted). x.count) (fitted (noted-few h))

    subtypes-cells : n ≤ 256 → v ≡ write_rows put_subtype (ss ns) (get_or counts 4 0) subtypes
    subtypes-cells h = ap (λ (x : Noted). x.table) (fitted (noted-few h))

    subtypes-after : n ≤ 256 → rows (subtype_at v) n 0 ≡ w.subtypes ++ ss ns
    subtypes-after h =
        (λ x. rows (subtype_at (subtypes-cells h x)) (noted-is h x) 0)
        ∙ rows-after-more subtype-rows (ss ns) subtypes (get_or counts 4 0) (omega (arith, noted-few h, ld.subtypes_long))

    pub posted-full : 256 < n → refused (Word 10) ≡ whole ns
    posted-full h = past ns (λ q.
        let few : total ≤ 256 = omega (arith, subtypes-count ns, leb-true (length (w.subtypes ++ ss ns)) 256 (every_true (limits ns) q).1.1.1.1.0) in
        omega (arith, few, ap (λ (x : Noted). x.count) (fitted few)))

  -- The ties, posted to a copy of the table, which has room for more

  pub record TiesMade (u : List ℕ) (tied : ℕ) : Type 0 where
    pub count : tied ≡ get_or counts 3 0 + length us
    pub cut : take 768 u ≡ write_rows put_tie us (get_or counts 3 0) ties
    pub after : tied ≤ 256 → rows (tie_at u) tied 0 ≡ w.ties ++ us

  module _ (z t u : List ℕ) (i tied : ℕ) (zl : length z ≡ 888) (et : t ≡ write_rows set ties 0 z) (ei : i ≡ get_or counts 3 0)
      (tp : TiesPosted (override_ties b l p (rows (tie_at t) i 0) (quick_methods bs)) t i u tied) where
    before : rows (tie_at t) i 0 ≡ w.ties
    before =
        (λ x. rows (tie_at (et x)) (ei x) 0)
        ∙ ties-there ties z (omega (arith, ld.ties_long)) (get_or counts 3 0) (omega (arith, ld.ties_few, ld.ties_long))

    new : override_ties b l p (rows (tie_at t) i 0) (quick_methods bs) ≡ us
    unfolding quick_file
    new = ap (λ (x : List Tie). override_ties b l p x (quick_methods bs)) before

    tied_is : tied ≡ get_or counts 3 0 + length us
    tied_is = omega (arith, tp.count, ei, ap length new)

    cells : u ≡ write_rows put_tie us (get_or counts 3 0) t
    cells = tp.cells ∙ (λ x. write_rows put_tie (new x) (ei x) t)

    pub ties-made : TiesMade u tied
    ties-made = record {
      count = tied_is;
      cut =
          let cut : take 768 t ≡ ties = ap (take 768) et ∙ rw ld.ties_long at (copy-cut ties z (omega (arith, ld.ties_long))) in
          ap (take 768) cells ∙ (take-ties 768 us (get_or counts 3 0) t ∙ ap (write_rows put_tie us (get_or counts 3 0)) cut);
      after = λ h.
          let long : length t ≡ 888 = ap length et ∙ (write_rows-length set length-set ties 0 z ∙ zl) in
          (λ x. rows (tie_at (cells x)) (tied_is x) 0)
          ∙ (rows-after-more tie-rows us t (get_or counts 3 0) (omega (arith, tied_is))
          ∙ ap (λ (x : List Tie). x ++ us) (ap (λ (x : ℕ). rows (tie_at t) x 0) (sym ei) ∙ before));
    }

  -- With both copies made

  module _ (u : List ℕ) (tied : ℕ) (tm : TiesMade u tied) where
    same : tied ≡ length (w.ties ++ us)
    same = tm.count ∙ sym ties-count

    pub posted-roomless : room_for b counts bs p tied ≡ false → (ns : List Note) → refused (Word 10) ≡ whole ns
    unfolding room_for
    posted-roomless h ns = past ns (λ e.
        let a = every_true (limits ns) e in
        false≢true (sym h ∙ true-every _ (
          a.0,
          (rw classes-count at a.1.0, (rw entries-count at a.1.1.0, (rw (sym same) at a.1.1.1.0, (rw fields-count at a.1.1.1.1.1.0, tt)))),
        )))

    module _ (roomy : room_for b counts bs p tied ≡ true) where
      pub room-there : (get_or counts 0 0 < 64) × (get_or counts 2 0 < 256) × (tied ≤ 256)
      unfolding room_for
      room-there =
          let a = every_true _ roomy in
          (ltb-true (get_or counts 0 0) 64 a.1.0, ltb-true (get_or counts 2 0) 256 a.1.1.0, leb-true tied 256 a.1.1.1.0)

      module _ (v : List ℕ) (n : ℕ) (h : n ≤ 256) (ns : List Note) (e : NotesPosted ns l subtypes (get_or counts 4 0) v n) where
        limits-pass : every (limits ns) ≡ true
        unfolding room_for
        limits-pass =
            let a = every_true _ roomy in
            true-every (limits ns) (
              a.0,
              (
                rw classes-count a.1.0,
                (
                  rw entries-count a.1.1.0,
                  (rw (sym same) a.1.1.1.0, (le-leb (length (w.subtypes ++ ss ns)) 256 (omega (arith, subtypes-count ns, noted-few v n ns e h)), (rw fields-count a.1.1.1.1.0, tt))),
                ),
              ),
            )

        copies : world (base_with b k) (rows (tie_at u) tied 0) (rows (subtype_at v) n 0) ≡ with_class w k us (ss ns)
        copies = λ i. world (base_with b k) (tm.after room-there.2 i) (subtypes-after v n ns e h i)

        pub posted-new : find b.cache (at k.loader k.super) ≡ some p → (new : Newcomer) → new.loader ≡ l → new.name ≡ k.name → new.class ≡ get_or counts 0 0 → new.above ≡ suc p
            → new.tied ≡ tied → new.noted ≡ n → Placing (whole ns) (placed_after k w ns) w k counts ties subtypes u v new
        unfolding posted_for placed_after judged_world need ◌>>=◌
        posted-new s new el em ec ea et en = record {
          loader = el;
          name = em;
          class = ec;
          super = p;
          above = ea;
          cached = s;
          ties = us;
          subtypes = ss ns;
          judged = rw limits-pass refl;
          after = rw (s, placed_after) refl;
          both = (λ i. world (base_with b k) (rows (tie_at u) (et i) 0) (rows (subtype_at v) (en i) 0)) ∙ copies;
          tied = et ∙ tm.count;
          noted = en ∙ noted-is v n ns e h;
          few = (omega (arith, room-there.2, et), omega (arith, h, en));
          tie_cells = tm.cut;
          subtype_cells = subtypes-cells v n ns e h;
          class_room = room-there.0;
          entry_room = room-there.1;
        }
