-- Whole rows with another trace are whole; and whole rows that are cut to a level under them are whole where they are sound: an object has the fields of its
-- class, as what a class below the level means is the same before and after.
use Rattle.std.specs.Prelude.{◌≡◌, refl, List, [], ◌∷◌, ◌++◌, map, ℕ, zero, suc, ◌≤◌, ◌<◌, take, drop}
use Rattle.std.proofs.Math.Path.{sym, ap}
use Rattle.std.proofs.Common.{◌∙◌, subst, arith, take-append-drop}
use Rattle.std.proofs.Math.ListN.{length, length-map}
use Rattle.std.proofs.Math.Seq.{length-take-le}
use Rattle.definition.specs.Classes.{Class, Entry}
use Rattle.definition.specs.Constraints.{Tie, Subtype, World, tie_edges, subtype_edges}
use Rattle.definition.specs.Machine.{ObjectRow, free, owned, Exists, Frame}
use Rattle.definition.specs.Tables.{Level, Rows, class_at, size_of, world_of, cut_to, with_trace}
use mathlib.Core.List.Memᴰ
use Rattle.laws.specs.Agreement.{nth-more, find-more}
use Rattle.laws.specs.Growth.{Grows, tie-edges-more, sub-edges-more}
use Rattle.laws.specs.Stable.{slots-stable}
use Rattle.layout.specs.Tests.{All}
use Rattle.layout.specs.Traced.{EachTurn, Under, Leaves, Back}
use Rattle.layout.specs.Whole.{Framed, Frames, RowOwned, RowSound, Sound, Whole}
use Rattle.unbroken.specs.WholeRows.{nth-there, sound-rooted, kept_same}

pub whole-traced : (r : Rows) (x : List Level) → length x ≤ 32 → Whole r → Whole (with_trace x r)
whole-traced r x h w = record {
  limits = record {
    classes = w.limits.classes;
    kept = w.limits.kept;
    cache = w.limits.cache;
    ties = w.limits.ties;
    subtypes = w.limits.subtypes;
    objects = w.limits.objects;
    quote = w.limits.quote;
    report = w.limits.report;
    trace = h;
  };
  classes = w.classes;
  cache = w.cache;
  ties = w.ties;
  subtypes = w.subtypes;
  objects = w.objects;
  quote = w.quote;
  report = w.report;
  numbers = w.numbers;
  share = w.share;
}

-- the first of a list are at most so many, and no more than it
pub few : {A : Type 0} (n : ℕ) (xs : List A) → length (take n xs) ≤ n
few zero xs = omega arith
few (suc n) [] = omega arith
few (suc n) (x ∷ xs) = let h = few n xs in omega arith

pub fewer : {A : Type 0} (n : ℕ) (xs : List A) → length (take n xs) ≤ length xs
fewer zero xs = omega arith
fewer (suc n) [] = omega arith
fewer (suc n) (x ∷ xs) = let h = fewer n xs in omega arith

map_both : {A B : Type 0} (f : A → B) (xs ys : List A) → map f (xs ++ ys) ≡ map f xs ++ map f ys
map_both f [] ys = refl
map_both f (x ∷ xs) ys = λ i. f x ∷ map_both f xs ys i

-- a world with more behind each of its lists has grown
grows-behind : (v : World) (ks : List Class) (es : List Entry) (us : List Tie) (ss : List Subtype)
    → Grows v (record { base = record { classes = v.base.classes ++ ks; cache = v.base.cache ++ es }; ties = v.ties ++ us; subtypes = v.subtypes ++ ss })
grows-behind v ks es us ss = record {
  classes = λ x y h. nth-more v.base.classes ks x y h;
  cache = λ q x h. find-more v.base.cache es q x h;
  ties = λ e m. rw (tie-edges-more v.ties us) (Memᴰ.append_left (tie_edges us) m);
  subtypes = λ e m. rw (sub-edges-more v.subtypes ss) (Memᴰ.append_left (subtype_edges ss) m);
}

-- rows that are cut grow into those before, where the classes that are left are the same
pub grows-cut : (l : Level) (r : Rows) → map (class_at r.kept) (take l.classes r.classes) ≡ map (class_at (take l.kept r.kept)) (take l.classes r.classes)
    → Grows (world_of (cut_to l r)) (world_of r)
unfolding cut_to
grows-cut l r e = subst (Grows (world_of (cut_to l r)))
    (λ i. record {
      base = record { classes = front i; cache = take-append-drop l.cache r.cache i };
      ties = take-append-drop l.ties r.ties i;
      subtypes = take-append-drop l.subtypes r.subtypes i;
    })
    (grows-behind (world_of (cut_to l r)) (map (class_at r.kept) (drop l.classes r.classes)) (drop l.cache r.cache) (drop l.ties r.ties) (drop l.subtypes r.subtypes))
  where
    front : map (class_at (take l.kept r.kept)) (take l.classes r.classes) ++ map (class_at r.kept) (drop l.classes r.classes) ≡ map (class_at r.kept) r.classes
    front =
        ap (λ (z : List Class). z ++ map (class_at r.kept) (drop l.classes r.classes)) (sym e)
        ∙ (sym (map_both (class_at r.kept) (take l.classes r.classes) (drop l.classes r.classes)) ∙ ap (map (class_at r.kept)) (take-append-drop l.classes r.classes))

module _ (l : Level) (r : Rows) (s : Sound (cut_to l r)) where
  abbrev Front : World
  Front = world_of (cut_to l r)

  pub cut-grows : Grows Front (world_of r)
  unfolding cut_to
  cut-grows = grows-cut l r
      (rw (take-append-drop l.kept r.kept) at (kept_same (take l.kept r.kept) (drop l.kept r.kept) Front.base (take l.classes r.classes) s.classes))

  cut-size : (c : ℕ) → c < length (cut_to l r).classes → size_of (world_of r).base c ≡ size_of Front.base c
  unfolding cut_to
  cut-size c h =
      ap length (slots-stable Front (world_of r) (sound-rooted (cut_to l r) s) cut-grows c
      (nth-there Front.base.classes c (omega (arith, length-map (take l.classes r.classes) (class_at (take l.kept r.kept))))))

  cut-objects : (X : ℕ → Type 0) (os : List ObjectRow) → All (RowSound (world_of r).base (length r.classes) X) os → All (RowOwned (length (cut_to l r).classes) X) os
      → All (RowSound Front.base (length (cut_to l r).classes) X) os
  cut-objects X [] a b = tt
  cut-objects X (free ∷ os) a b = (tt, cut-objects X os a.1 b.1)
  cut-objects X (owned k o ∷ os) a b = (
    (a.0.0, record { class = b.0.1.class; size = a.0.1.size ∙ cut-size o.class b.0.1.class; values = a.0.1.values }),
    cut-objects X os a.1 b.1,
  )

  cut-frames : (n m : ℕ) (X : ℕ → Type 0) (fs : List Frame) → All (Framed n X) fs → All (Frames m X) fs → All (Framed m X) fs
  cut-frames n m X [] a b = tt
  cut-frames n m X (f ∷ fs) a b = (
    record { class = b.0.class; depth = a.0.depth; operands = a.0.operands; eight = a.0.eight; locals = a.0.locals },
    cut-frames n m X fs a.1 b.1,
  )

  pub cut-whole : Under l r → Whole r → Whole (cut_to l r)
  unfolding cut_to
  cut-whole u w = record {
    limits = record {
      classes = omega (arith, fewer l.classes r.classes, w.limits.classes);
      kept = omega (arith, fewer l.kept r.kept, w.limits.kept);
      cache = omega (arith, fewer l.cache r.cache, w.limits.cache);
      ties = omega (arith, fewer l.ties r.ties, w.limits.ties);
      subtypes = omega (arith, fewer l.subtypes r.subtypes, w.limits.subtypes);
      objects = w.limits.objects;
      quote = w.limits.quote;
      report = w.limits.report;
      trace = w.limits.trace;
    };
    classes = s.classes;
    cache = s.cache;
    ties = s.ties;
    subtypes = s.subtypes;
    objects = cut-objects (Exists r.objects) r.objects w.objects s.objects;
    quote = cut-frames _ _ (Exists r.objects) r.quote w.quote s.quote;
    report = cut-frames _ _ (Exists r.objects) r.report w.report s.report;
    numbers = record {
      ties =
          length-take-le l.ties r.numbers.ties (omega (arith, u.ties, w.numbers.ties)) ∙ sym (length-take-le l.ties r.ties u.ties);
      subtypes =
          length-take-le l.subtypes r.numbers.subtypes (omega (arith, u.subtypes, w.numbers.subtypes)) ∙ sym (length-take-le l.subtypes r.subtypes u.subtypes);
      turn = s.numbers;
    };
    share = w.share;
  }

-- so each turn of taking back, from whole rows whose trace fits, leaves whole rows
pub back_whole : (ls : List Level) (r : Rows) → Whole r → EachTurn Leaves ls r → Back Whole ls r
back_whole [] r w b = tt
back_whole (l ∷ ls) r w b = let v = cut-whole l r b.0.1 b.0.0 w in (v, back_whole ls (cut_to l r) v b.1)
