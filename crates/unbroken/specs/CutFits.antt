-- What makes rows that are cut to a level sound, where they were whole: what the classes that are left need is left, and nothing names a class that goes. So
-- a level can be tested by what lies behind it, without a second look at a class file.
use Rattle.std.specs.Prelude.{◌≡◌, Bool, true, List, [], ◌∷◌, map, ℕ, zero, suc, ◌+◌, ◌≤◌, ◌<◌, take, drop, leb}
use Rattle.std.proofs.Math.Path.{refl, ap}
use Rattle.std.proofs.Common.{sym, ◌∙◌, subst, inl, inr, arith, take-append-drop, length-drop, length-take-le, take-take, leb-true, le-leb}
use Rattle.std.proofs.Math.Option.{some, none-ne-some, some-injective}
use Rattle.std.proofs.Math.ListN.{length, get_elem?, length-map}
use Rattle.std.proofs.lemmas.List.{take-append-le, drop-append-le}
use Rattle.std.proofs.Math.Seq.{take-length}
use Rattle.definition.specs.Maybe as Maybe
use Rattle.definition.specs.Requests.{Request, at}
use Rattle.definition.specs.Classes.{Base, Class, Entry, find, super_of}
use Rattle.definition.specs.File.{File}
use Rattle.definition.specs.Machine.{ObjectRow, free, owned, Exists, Frame}
use Rattle.definition.specs.Broken.{numbered}
use Rattle.definition.specs.Tables.{ClassRow, Level, Rows, rows_of, row_numbers, class_at, file_at, size_of, world_of, level_of, cut_to}
use Rattle.laws.specs.Agreement.{find-more, find-row, super-is, is-super}
use Rattle.laws.specs.Growth.{Grows, nth-lt}
use Rattle.laws.specs.Options.{bind-some, some-bind, need-true}
use Rattle.laws.specs.Stable.{Rooted, slots-stable}
use Rattle.layout.specs.ReadBack.{object-class}
use Rattle.layout.specs.Tests.{All, all_more}
use Rattle.layout.specs.Traced.{Under, EachTurn, Leaves, Traced}
use Rattle.layout.specs.Whole.{From, ClassSound, Classes, First, Listed, Framed, Frames, RowOwned, RowSound, Numbering, Sound, Whole}
use Rattle.unbroken.specs.Cut.{grows-cut, cut-grows}
use Rattle.unbroken.specs.WholeRows.{all-mem, nth-there, nth-map, class-at, cls-loader}

-- the class of an object is one of the first n
abbrev pub RowBelow : ℕ → ObjectRow → Type 0
RowBelow n free = Unit {0}
RowBelow n (owned k o) = o.class < n

pub record CutFits (l : Level) (r : Rows) : Type 0 where
  -- the file of a class that is left, and the entry of its superclass
  pub files : (c : ℕ) (k : ClassRow) → 0 < c → c < l.classes → get_elem? r.classes c ≡ some k → k.start + k.size ≤ l.kept
  pub supers : (c : ℕ) (k : Class) → 0 < c → c < l.classes → get_elem? (world_of r).base.classes c ≡ some k → (p : ℕ) × (find (take l.cache r.cache) (at k.loader k.super) ≡ some p)
  -- no entry that is left, object or frame names a class that goes
  pub entries : All (λ (e : Entry). e.class < l.classes) (take l.cache r.cache)
  pub objects : All (RowBelow l.classes) r.objects
  pub quote : All (λ (f : Frame). f.class < l.classes) r.quote
  pub report : All (λ (f : Frame). f.class < l.classes) r.report
  -- numbers in turn
  pub numbers : numbered (row_numbers (take l.ties r.numbers.ties) (take l.subtypes r.numbers.subtypes)) ≡ true

-- Lists

all_first : {A : Type 0} (P : A → Type 0) (n : ℕ) (xs : List A) → All P xs → All P (take n xs)
all_first P zero xs h = tt
all_first P (suc n) [] h = tt
all_first P (suc n) (x ∷ xs) h = (h.0, all_first P n xs h.1)

all-pair : {A : Type 0} (P Q R : A → Type 0) → ((x : A) → P x → Q x → R x) → (xs : List A) → All P xs → All Q xs → All R xs
all-pair P Q R f [] a b = tt
all-pair P Q R f (x ∷ xs) a b = (f x a.0 b.0, all-pair P Q R f xs a.1 b.1)

first-nth : {A : Type 0} (n : ℕ) (xs : List A) (i : ℕ) (x : A) → get_elem? (take n xs) i ≡ some x → (i < n) × (get_elem? xs i ≡ some x)
first-nth zero xs i x e = absurd (none-ne-some x e)
first-nth (suc n) [] i x e = absurd (none-ne-some x e)
first-nth (suc n) (y ∷ xs) zero x e = (omega arith, e)
first-nth (suc n) (y ∷ xs) (suc i) x e = let h = first-nth n xs i x e in (omega (arith, h.0), h.1)

from_each : {A : Type 0} (P : ℕ → A → Type 0) (j : ℕ) (xs : List A) → ((i : ℕ) (x : A) → get_elem? xs i ≡ some x → P (j + i) x) → From P j xs
from_each P j [] h = tt
from_each P j (x ∷ xs) h =
    let z : j + 0 ≡ j = omega arith in
    (rw z at (h 0 x refl), from_each P (suc j) xs (λ i y e. let q : j + suc i ≡ suc j + i = omega arith in rw q at (h (suc i) y e)))

map_each : {A B : Type 0} (f g : A → B) (xs : List A) → ((i : ℕ) (x : A) → get_elem? xs i ≡ some x → f x ≡ g x) → map f xs ≡ map g xs
map_each f g [] h = refl
map_each f g (x ∷ xs) h = λ i. h 0 x refl i ∷ map_each f g xs (λ j y e. h (suc j) y e) i

-- a file that ends among the first n bytes is read off them
file-less : (n : ℕ) (bs : List ℕ) (k : ClassRow) (f : File) → file_at bs k ≡ some f → k.start + k.size ≤ n → n ≤ length bs → file_at (take n bs) k ≡ some f
unfolding file_at
file-less n bs k f e h l =
    let xs : List ℕ = take n bs in
    let long : length xs ≡ n = length-take-le n bs l in
    let a = bind-some _ _ (rw (← take-append-drop n bs) at e) in
    let z : k.size ≤ length (drop k.start xs) = omega (arith, length-drop k.start xs, long) in
    some-bind (Maybe.need (leb (k.start + k.size) (length xs))) _ (needed _ (le-leb (k.start + k.size) (length xs) (omega (arith, long))))
    (rw (drop-append-le k.start xs (drop n bs) (omega (arith, long)), take-append-le k.size (drop k.start xs) (drop n bs) z) at a.2)
  where
    needed : (t : Bool) → t ≡ true → Maybe.need t ≡ some tt
    needed t q = unfold Maybe.need in rw q refl

nth-mapped : {A B : Type 0} (f : A → B) (xs : List A) (i : ℕ) (x : A) → get_elem? xs i ≡ some x → get_elem? (map f xs) i ≡ some (f x)
nth-mapped f [] i x e = absurd (none-ne-some x e)
nth-mapped f (y ∷ xs) zero x e = ap (λ z. some (f z)) (some-injective y x e)
nth-mapped f (y ∷ xs) (suc i) x e = nth-mapped f xs i x e

first-class : (b : Base) (bs : List ℕ) (ks : List ClassRow) → Classes b bs ks → (k : ClassRow) → get_elem? ks 0 ≡ some k → First k
first-class b bs [] h k e = absurd (none-ne-some k e)
first-class b bs (x ∷ ks) h k e = subst First (some-injective x k e) h.0

classes-each : (b : Base) (bs : List ℕ) (ks : List ClassRow) → ((k : ClassRow) → get_elem? ks 0 ≡ some k → First k)
    → ((c : ℕ) (k : ClassRow) → 0 < c → get_elem? ks c ≡ some k → ClassSound b bs c k) → Classes b bs ks
classes-each b bs [] f g = tt
classes-each b bs (k ∷ ks) f g = (f k refl, from_each (ClassSound b bs) 1 ks (λ i x e. let z : 1 + i ≡ suc i = omega arith in rw z (g (suc i) x (omega arith) e)))

-- Sound after the cut

module _ (l : Level) (r : Rows) (w : Whole r) (u : Under l r) (h : CutFits l r) where
  abbrev bytes : List ℕ
  bytes = take l.kept r.kept

  abbrev left : List ClassRow
  left = take l.classes r.classes

  abbrev entries : List Entry
  entries = take l.cache r.cache

  abbrev B : Base
  B = (world_of r).base

  abbrev Cut : Base
  Cut = record { classes = map (class_at bytes) left; cache = entries }

  many : length left ≡ l.classes
  many = length-take-le l.classes r.classes u.classes

  full : (c : ℕ) (k : ClassRow) → 0 < c → get_elem? r.classes c ≡ some k → ClassSound B r.kept c k
  full c k z e = elim (class-at B r.kept r.classes w.classes c k e) [ inl q ↦ absurd (omega (arith, q.0)) | inr s ↦ s ]

  reads-less : (c : ℕ) (k : ClassRow) (z : 0 < c) → c < l.classes → (e : get_elem? r.classes c ≡ some k) → file_at bytes k ≡ some (full c k z e).file
  reads-less c k z m e = file-less l.kept r.kept k (full c k z e).file (full c k z e).reads (h.files c k z m e) u.kept

  same_class : (c : ℕ) (k : ClassRow) → get_elem? left c ≡ some k → class_at r.kept k ≡ class_at bytes k
  same_class zero k e =
      let a = first-nth l.classes r.classes 0 k e in
      let f = first-class B r.kept r.classes w.classes k a.1 in
      object-class r.kept k f ∙ sym (object-class bytes k f)
  same_class (suc c) k e =
      let a = first-nth l.classes r.classes (suc c) k e in
      let z : 0 < suc c = omega arith in
      let s = full (suc c) k z a.1 in
      cls-loader r.kept k s.file s.reads ∙ sym (cls-loader bytes k s.file (reads-less (suc c) k z a.0 a.1))

  grows : Grows (world_of (cut_to l r)) (world_of r)
  grows = grows-cut l r (map_each (class_at r.kept) (class_at bytes) left same_class)

  grown-class : (c : ℕ) (k : Class) → get_elem? Cut.classes c ≡ some k → get_elem? B.classes c ≡ some k
  unfolding cut_to
  grown-class c k e = grows.classes c k e

  under-cut : (c : ℕ) (k : Class) → get_elem? Cut.classes c ≡ some k → c < l.classes
  under-cut c k e = omega (arith, nth-lt Cut.classes c k e, length-map left (class_at bytes), many)

  real : (q : Request) (c : ℕ) → find entries q ≡ some c → (k : Class) × (get_elem? Cut.classes c ≡ some k)
  real q c e =
      let x = find-row entries q c e in
      nth-there Cut.classes c (omega (arith, length-map left (class_at bytes), many, all-mem (λ (e : Entry). e.class < l.classes) h.entries x.1, x.3))

  super-found : (c : ℕ) (k : Class) → get_elem? Cut.classes c ≡ some k → 0 < c → (p : ℕ) × (super_of Cut c ≡ some p)
  super-found c k e z =
      let m = under-cut c k e in
      let there = grown-class c k e in
      let p = h.supers c k z m there in
      let x = nth-map (class_at r.kept) r.classes c k there in
      let s = full c x.0 z x.1 in
      let q = super-is B c s.super s.is_super in
      let same : q.the_class ≡ k = some-injective q.the_class k (sym q.is_class ∙ there) in
      let more : find r.cache (at k.loader k.super) ≡ some p.0 =
      rw (take-append-drop l.cache r.cache) at (find-more entries (drop l.cache r.cache) (at k.loader k.super) p.0 p.1) in
      let one : s.super ≡ p.0 = some-injective s.super p.0 (sym q.cached ∙ (ap (λ (y : Class). find r.cache (at y.loader y.super)) same ∙ more)) in
      (p.0, is-super Cut c p.0 (record { the_class = k; is_class = e; cached = p.1; less = omega (arith, q.less, one) }))

  rooted : Rooted Cut
  rooted = record { real = real; supers = super-found }

  same_size : (c : ℕ) → c < l.classes → size_of B c ≡ size_of Cut c
  unfolding cut_to
  same_size c m =
      ap length (slots-stable (world_of (cut_to l r)) (world_of r) rooted grows c (nth-there Cut.classes c (omega (arith, length-map left (class_at bytes), many, m))))

  left-sound : (c : ℕ) (k : ClassRow) → 0 < c → get_elem? left c ≡ some k → ClassSound Cut bytes c k
  left-sound c k z e =
      let a = first-nth l.classes r.classes c k e in
      let s = full c k z a.1 in
      let p = super-found c (class_at bytes k) (nth-mapped (class_at bytes) left c k e) z in
      record { loader = s.loader; file = s.file; reads = reads-less c k z a.0 a.1; super = p.0; is_super = p.1; size = omega (arith, same_size c a.0, s.size) }

  pub cut-sound : Sound (cut_to l r)
  unfolding cut_to
  cut-sound = record {
    classes = classes-each Cut bytes left (λ k e. first-class B r.kept r.classes w.classes k (first-nth l.classes r.classes 0 k e).1) left-sound;
    cache = all-pair (Listed (length r.classes)) (λ (e : Entry). e.class < l.classes) (Listed (length left)) (λ e a b. record { loader = a.loader; class = omega (arith, b, many) }) entries
        (all_first (Listed (length r.classes)) l.cache r.cache w.cache) h.entries;
    ties = all_first _ l.ties r.ties w.ties;
    subtypes = all_first _ l.subtypes r.subtypes w.subtypes;
    objects = all-pair (RowSound B (length r.classes) (Exists r.objects)) (RowBelow l.classes) (RowOwned (length left) (Exists r.objects)) row r.objects w.objects h.objects;
    quote = all-pair _ (λ (f : Frame). f.class < l.classes) _ frame r.quote w.quote h.quote;
    report = all-pair _ (λ (f : Frame). f.class < l.classes) _ frame r.report w.report h.report;
    numbers = h.numbers;
    share = w.share;
  }
    where
      row : (x : ObjectRow) → RowSound B (length r.classes) (Exists r.objects) x → RowBelow l.classes x → RowOwned (length left) (Exists r.objects) x
      row free a b = tt
      row (owned k o) a b = (a.0, record { class = omega (arith, b, many); values = a.1.values })

      frame : (f : Frame) → Framed (length r.classes) (Exists r.objects) f → f.class < l.classes → Frames (length left) (Exists r.objects) f
      frame f a b = record { class = omega (arith, b, many); depth = a.depth; operands = a.operands; locals = a.locals }

-- and sound rows are left only so

first-there : {A : Type 0} (n : ℕ) (xs : List A) (i : ℕ) (x : A) → i < n → get_elem? xs i ≡ some x → get_elem? (take n xs) i ≡ some x
first-there zero xs i x l e = absurd (omega arith)
first-there (suc n) [] i x l e = e
first-there (suc n) (y ∷ xs) zero x l e = e
first-there (suc n) (y ∷ xs) (suc i) x l e = first-there n xs i x (omega arith) e

file-ends : (bs : List ℕ) (k : ClassRow) (f : File) → file_at bs k ≡ some f → k.start + k.size ≤ length bs
unfolding file_at
file-ends bs k f e = leb-true (k.start + k.size) (length bs) (need-true _ (bind-some _ _ e).1)

pub sound-fits : (l : Level) (r : Rows) → Under l r → Sound (cut_to l r) → CutFits l r
unfolding cut_to
sound-fits l r u s = record {
  files = λ c k z m e. let x = here c k z m e in omega (arith, file-ends (take l.kept r.kept) k x.file x.reads, length-take-le l.kept r.kept u.kept);
  supers = λ c k z m e.
      let x = nth-map (class_at r.kept) r.classes c k e in
      let y = here c x.0 z m x.1 in
      let q = super-is (world_of (cut_to l r)).base c y.super y.is_super in
      let same : q.the_class ≡ k = some-injective q.the_class k (sym ((cut-grows l r s).classes c q.the_class q.is_class) ∙ e) in
      (y.super, ap (λ (y : Class). find (take l.cache r.cache) (at y.loader y.super)) (sym same) ∙ q.cached);
  entries = all_more (λ e a. omega (arith, a.class, many)) (take l.cache r.cache) s.cache;
  objects = all_more row r.objects s.objects;
  quote = all_more (λ f a. omega (arith, a.class, many)) r.quote s.quote;
  report = all_more (λ f a. omega (arith, a.class, many)) r.report s.report;
  numbers = s.numbers;
}
  where
    many : length (take l.classes r.classes) ≡ l.classes
    many = length-take-le l.classes r.classes u.classes

    here : (c : ℕ) (k : ClassRow) → 0 < c → c < l.classes → get_elem? r.classes c ≡ some k → ClassSound (world_of (cut_to l r)).base (take l.kept r.kept) c k
    here c k z m e =
        elim (class-at (world_of (cut_to l r)).base (take l.kept r.kept) (take l.classes r.classes) s.classes c k (first-there l.classes r.classes c k m e)) [
          | inl q ↦ absurd (omega (arith, q.0))
          | inr x ↦ x
        ]

    row : (x : ObjectRow) → RowOwned (length (take l.classes r.classes)) (Exists r.objects) x → RowBelow l.classes x
    row free a = tt
    row (owned k o) a = omega (arith, a.1.class, many)

-- Levels below each other: rows cut twice are cut to the lower level, so each turn can be tested on the rows as they are

pub record Lower (l m : Level) : Type 0 where
  pub classes : l.classes ≤ m.classes
  pub kept : l.kept ≤ m.kept
  pub cache : l.cache ≤ m.cache
  pub ties : l.ties ≤ m.ties
  pub subtypes : l.subtypes ≤ m.subtypes

pub cut-cut : (l m : Level) (r : Rows) → Lower l m → cut_to l (cut_to m r) ≡ cut_to l r
unfolding cut_to
cut-cut l m r h = λ i. rows_of (take-take l.classes m.classes r.classes h.classes i) (take-take l.kept m.kept r.kept h.kept i) (take-take l.cache m.cache r.cache h.cache i)
    (take-take l.ties m.ties r.ties h.ties i) (take-take l.subtypes m.subtypes r.subtypes h.subtypes i) r.objects r.quote r.report
    (row_numbers (take-take l.ties m.ties r.numbers.ties h.ties i) (take-take l.subtypes m.subtypes r.numbers.subtypes h.subtypes i)) r.trace

abbrev pub Falls : Level → List Level → Rows → Type 0
Falls m [] r = Unit {0}
Falls m (l ∷ ls) r = Lower l m × CutFits l r × Falls l ls r

under-lower : (l m : Level) (r : Rows) → Lower l m → Under m r → Under l r
under-lower l m r a u = record {
  classes = omega (arith, a.classes, u.classes);
  kept = omega (arith, a.kept, u.kept);
  cache = omega (arith, a.cache, u.cache);
  ties = omega (arith, a.ties, u.ties);
  subtypes = omega (arith, a.subtypes, u.subtypes);
}

lower-under : (l m : Level) (r : Rows) → Under m r → Lower l m → Under l (cut_to m r)
unfolding cut_to
lower-under l m r u a = record {
  classes = omega (arith, a.classes, length-take-le m.classes r.classes u.classes);
  kept = omega (arith, a.kept, length-take-le m.kept r.kept u.kept);
  cache = omega (arith, a.cache, length-take-le m.cache r.cache u.cache);
  ties = omega (arith, a.ties, length-take-le m.ties r.ties u.ties);
  subtypes = omega (arith, a.subtypes, length-take-le m.subtypes r.subtypes u.subtypes);
}

cut-lower : (l m : Level) (r : Rows) → Under m r → Under l (cut_to m r) → Lower l m
unfolding cut_to
cut-lower l m r u a = record {
  classes = omega (arith, a.classes, length-take-le m.classes r.classes u.classes);
  kept = omega (arith, a.kept, length-take-le m.kept r.kept u.kept);
  cache = omega (arith, a.cache, length-take-le m.cache r.cache u.cache);
  ties = omega (arith, a.ties, length-take-le m.ties r.ties u.ties);
  subtypes = omega (arith, a.subtypes, length-take-le m.subtypes r.subtypes u.subtypes);
}

pub falls-turns : (m : Level) (ls : List Level) (r : Rows) → Whole r → Under m r → Falls m ls r → EachTurn Leaves ls (cut_to m r)
falls-turns m [] r w u h = tt
falls-turns m (l ∷ ls) r w u h =
    let v = under-lower l m r h.0 u in
    let e : cut_to l r ≡ cut_to l (cut_to m r) = sym (cut-cut l m r h.0) in
    ((lower-under l m r u h.0, subst Sound e (cut-sound l r w v h.1)), subst (EachTurn Leaves ls) e (falls-turns l ls r w v h.2))

pub turns-falls : (m : Level) (ls : List Level) (r : Rows) → Under m r → EachTurn Leaves ls (cut_to m r) → Falls m ls r
turns-falls m [] r u h = tt
turns-falls m (l ∷ ls) r u h =
    let a = cut-lower l m r u h.0.0 in
    let v = under-lower l m r a u in
    let e = cut-cut l m r a in
    (a, sound-fits l r v (subst Sound e h.0.1), turns-falls l ls r v (subst (EachTurn Leaves ls) e h.1))

-- the whole trace: the rows are at their own level

cut-none : (r : Rows) (w : Numbering r) → cut_to (level_of r) r ≡ r
unfolding cut_to
cut-none r w = λ i. rows_of (take-length r.classes i) (take-length r.kept i) (take-length r.cache i) (take-length r.ties i) (take-length r.subtypes i) r.objects r.quote r.report
    (row_numbers ((ap (λ (n : ℕ). take n r.numbers.ties) (sym w.ties) ∙ take-length r.numbers.ties) i) ((ap (λ (n : ℕ). take n r.numbers.subtypes) (sym w.subtypes) ∙ take-length r.numbers.subtypes) i))
    r.trace

own-level : (r : Rows) → Under (level_of r) r
own-level r = record { classes = omega arith; kept = omega arith; cache = omega arith; ties = omega arith; subtypes = omega arith }

pub falls-traced : (r : Rows) → Whole r → Falls (level_of r) r.trace r → Traced r
falls-traced r w h = subst (EachTurn Leaves r.trace) (cut-none r w.numbers) (falls-turns (level_of r) r.trace r w (own-level r) h)

pub traced-falls : (r : Rows) → Whole r → Traced r → Falls (level_of r) r.trace r
traced-falls r w h = turns-falls (level_of r) r.trace r (own-level r) (subst (EachTurn Leaves r.trace) (sym (cut-none r w.numbers)) h)
