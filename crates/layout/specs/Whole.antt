-- What holds of rows that are no broken store: word 1's tests on rows and their meaning, both ways.
use Rattle.std.specs.Prelude.{◌≡◌, true, ℕ, ◌≤◌, ◌<◌, length}
use Rattle.std.proofs.Math.Path.{refl}
use Rattle.std.proofs.lemmas.Bool.{false≢true}
use Rattle.std.proofs.Math.Option.{some}
use mathlib.Core.List.{List, [], ◌∷◌}
use borrow.Author.Tests.{eqb-true, eq-eqb, leb-true, le-leb, ltb-true, lt-ltb}
use Rattle.definition.specs.Classes.{Base, Entry, super_of}
use Rattle.definition.specs.Constraints.{Tie, Subtype}
use Rattle.definition.specs.Machine.{Value, empty_value, int_value, null_value, object_value, unlisted_value, Object, ObjectRow, free, owned, Objects, Exists, made_by, Frame}
use Rattle.definition.specs.File.{File}
use Rattle.definition.specs.Tables.{ClassRow, RowNumbers, Rows, file_at, size_of, world_of}
use Rattle.definition.specs.Broken.{is_object, class_fits, classes_fit, entry_fits, tie_fits, subtype_fits, value_fits, local_fits, object_fits, frame_fits, numbered, sound}
pub use Rattle.layout.specs.Tests.{All, From}
use Rattle.layout.specs.Tests.{all-all, all-test, all_more, from_all, all-from, every_true, true-every, is-some, some_is}

-- Values, objects and frames, where there are n classes, and X says which objects exist

-- a local: alone it may be empty
abbrev pub Local : (ℕ → Type 0) → Value → Type 0
Local X empty_value = Unit {0}
Local X (int_value n) = Unit {0}
Local X null_value = Unit {0}
Local X (object_value o) = X o
Local X (unlisted_value k b) = ⊥

-- a field or an operand
abbrev pub ValueSound : (ℕ → Type 0) → Value → Type 0
ValueSound X empty_value = ⊥
ValueSound X (int_value n) = Unit {0}
ValueSound X null_value = Unit {0}
ValueSound X (object_value o) = X o
ValueSound X (unlisted_value k b) = ⊥

pub record ObjectSound (b : Base) (n : ℕ) (X : ℕ → Type 0) (o : Object) : Type 0 where
  pub class : o.class < n
  pub size : length o.values ≡ size_of b o.class
  pub values : All (ValueSound X) o.values

-- a row of objects: free, or an object that a task owns
abbrev pub RowSound : Base → ℕ → (ℕ → Type 0) → ObjectRow → Type 0
RowSound b n X free = Unit {0}
RowSound b n X (owned k o) = (k < 2) × ObjectSound b n X o

pub record Framed (n : ℕ) (X : ℕ → Type 0) (f : Frame) : Type 0 where
  pub class : f.class < n
  pub depth : length f.operands ≤ 16
  pub operands : All (ValueSound X) f.operands
  pub eight : length f.locals ≡ 8
  pub locals : All (Local X) f.locals

pub record Listed (n : ℕ) (e : Entry) : Type 0 where
  pub loader : e.request.loader < 16
  pub class : e.class < n

pub record Between (t : Tie) : Type 0 where
  pub one : t.one < 16
  pub two : t.two < 16

-- class 0 is Object, another class has a file, a superclass and at most 16 fields
pub record First (k : ClassRow) : Type 0 where
  pub loader : k.loader ≡ 0
  pub start : k.start ≡ 0
  pub size : k.size ≡ 0

pub record ClassSound (b : Base) (bs : List ℕ) (c : ℕ) (k : ClassRow) : Type 0 where
  pub loader : k.loader < 16
  pub file : File
  pub reads : file_at bs k ≡ some file
  pub super : ℕ
  pub is_super : super_of b c ≡ some super
  pub size : size_of b c ≤ 16

abbrev pub Classes : Base → List ℕ → List ClassRow → Type 0
Classes b bs [] = Unit {0}
Classes b bs (k ∷ ks) = First k × From (ClassSound b bs) 1 ks

pub record Limits (r : Rows) : Type 0 where
  pub classes : length r.classes ≤ 64
  pub kept : length r.kept ≤ 16384
  pub cache : length r.cache ≤ 256
  pub ties : length r.ties ≤ 256
  pub subtypes : length r.subtypes ≤ 256
  pub objects : length r.objects ≤ 256
  pub quote : length r.quote ≤ 32
  pub report : length r.report ≤ 32
  pub trace : length r.trace ≤ 32

-- numbers in turn of t ties and s subtype constraints; what the numbers are stands in InTurn
pub record Numbered (t s : ℕ) (n : RowNumbers) : Type 0 where
  pub ties : length n.ties ≡ t
  pub subtypes : length n.subtypes ≡ s
  pub turn : numbered n ≡ true

-- each row of ties and of subtype constraints has one
abbrev pub Numbering : Rows → Type 0
Numbering r = Numbered (length r.ties) (length r.subtypes) r.numbers

pub record Whole (r : Rows) : Type 0 where
  pub limits : Limits r
  pub classes : Classes (world_of r).base r.kept r.classes
  pub cache : All (Listed (length r.classes)) r.cache
  pub ties : All Between r.ties
  pub subtypes : All (λ s. s.loader < 16) r.subtypes
  pub objects : All (RowSound (world_of r).base (length r.classes) (Exists r.objects)) r.objects
  pub quote : All (Framed (length r.classes) (Exists r.objects)) r.quote
  pub report : All (Framed (length r.classes) (Exists r.objects)) r.report
  pub numbers : Numbering r
  pub share : made_by 1 r.objects ≤ 192

-- The same but for limits, an object's number of fields, a frame's number of locals and how many row numbers there are, which rows read off tables have by themselves

pub record Objected (n : ℕ) (X : ℕ → Type 0) (o : Object) : Type 0 where
  pub class : o.class < n
  pub values : All (ValueSound X) o.values

abbrev pub RowOwned : ℕ → (ℕ → Type 0) → ObjectRow → Type 0
RowOwned n X free = Unit {0}
RowOwned n X (owned k o) = (k < 2) × Objected n X o

pub record Frames (n : ℕ) (X : ℕ → Type 0) (f : Frame) : Type 0 where
  pub class : f.class < n
  pub depth : length f.operands ≤ 16
  pub operands : All (ValueSound X) f.operands
  pub locals : All (Local X) f.locals

pub record Sound (r : Rows) : Type 0 where
  pub classes : Classes (world_of r).base r.kept r.classes
  pub cache : All (Listed (length r.classes)) r.cache
  pub ties : All Between r.ties
  pub subtypes : All (λ s. s.loader < 16) r.subtypes
  pub objects : All (RowOwned (length r.classes) (Exists r.objects)) r.objects
  pub quote : All (Frames (length r.classes) (Exists r.objects)) r.quote
  pub report : All (Frames (length r.classes) (Exists r.objects)) r.report
  pub numbers : numbered r.numbers ≡ true
  pub share : made_by 1 r.objects ≤ 192

pub whole-sound : (r : Rows) → Whole r → Sound r
whole-sound r w = record {
  classes = w.classes;
  cache = w.cache;
  ties = w.ties;
  subtypes = w.subtypes;
  objects = all_more sound-owned r.objects w.objects;
  quote = all_more (framed-frames _ _) r.quote w.quote;
  report = all_more (framed-frames _ _) r.report w.report;
  numbers = w.numbers.turn;
  share = w.share;
}
  where
    sound-owned : (x : ObjectRow) → RowSound (world_of r).base (length r.classes) (Exists r.objects) x → RowOwned (length r.classes) (Exists r.objects) x
    sound-owned free h = tt
    sound-owned (owned k o) h = (h.0, record { class = h.1.class; values = h.1.values })

    framed-frames : (n : ℕ) (X : ℕ → Type 0) (f : Frame) → Framed n X f → Frames n X f
    framed-frames n X f h = record { class = h.class; depth = h.depth; operands = h.operands; locals = h.locals }

-- Tests and their meaning

module _ (os : Objects) where
  pub local-fits : (v : Value) → Local (Exists os) v → local_fits os v ≡ true
  unfolding local_fits
  local-fits empty_value h = refl
  local-fits (int_value n) h = refl
  local-fits null_value h = refl
  local-fits (object_value o) h = some_is _ h.0 h.1
  local-fits (unlisted_value k b) h = absurd h

  pub fits-local : (v : Value) → local_fits os v ≡ true → Local (Exists os) v
  unfolding local_fits
  fits-local empty_value h = tt
  fits-local (int_value n) h = tt
  fits-local null_value h = tt
  fits-local (object_value o) h = is-some _ h
  fits-local (unlisted_value k b) h = absurd (false≢true h)

  pub value-fits : (v : Value) → ValueSound (Exists os) v → value_fits os v ≡ true
  unfolding value_fits
  value-fits empty_value h = absurd h
  value-fits (int_value n) h = refl
  value-fits null_value h = refl
  value-fits (object_value o) h = some_is _ h.0 h.1
  value-fits (unlisted_value k b) h = absurd h

  pub fits-value : (v : Value) → value_fits os v ≡ true → ValueSound (Exists os) v
  unfolding value_fits
  fits-value empty_value h = absurd (false≢true h)
  fits-value (int_value n) h = tt
  fits-value null_value h = tt
  fits-value (object_value o) h = is-some _ h
  fits-value (unlisted_value k b) h = absurd (false≢true h)

  pub object-fits : (n : ℕ) (x : ObjectRow) → RowOwned n (Exists os) x → object_fits n os x ≡ true
  unfolding object_fits
  object-fits n free h = refl
  object-fits n (owned k o) h =
      true-every _ (
        lt-ltb k 2 h.0,
        (lt-ltb o.class n h.1.class, (all-test (value_fits os) (ValueSound (Exists os)) value-fits o.values h.1.values, tt)),
      )

  pub fits-object : (n : ℕ) (x : ObjectRow) → object_fits n os x ≡ true → RowOwned n (Exists os) x
  unfolding object_fits
  fits-object n free h = tt
  fits-object n (owned k o) h =
      let p = every_true _ h in (
        ltb-true k 2 p.0,
        record { class = ltb-true o.class n p.1.0; values = all-all (value_fits os) (ValueSound (Exists os)) fits-value o.values p.1.1.0 },
      )

  pub frame-fits : (n : ℕ) (f : Frame) → Frames n (Exists os) f → frame_fits n os f ≡ true
  unfolding frame_fits
  frame-fits n f h =
      true-every _ (
        lt-ltb f.class n h.class,
        (
          le-leb (length f.operands) 16 h.depth,
          (
            all-test (value_fits os) (ValueSound (Exists os)) value-fits f.operands h.operands,
            (all-test (local_fits os) (Local (Exists os)) local-fits f.locals h.locals, tt),
          ),
        ),
      )

  pub fits-frame : (n : ℕ) (f : Frame) → frame_fits n os f ≡ true → Frames n (Exists os) f
  unfolding frame_fits
  fits-frame n f h =
      let p = every_true _ h in
      record {
        class = ltb-true f.class n p.0;
        depth = leb-true (length f.operands) 16 p.1.0;
        operands = all-all (value_fits os) (ValueSound (Exists os)) fits-value f.operands p.1.1.0;
        locals = all-all (local_fits os) (Local (Exists os)) fits-local f.locals p.1.1.1.0;
      }

module _ (b : Base) (bs : List ℕ) where
  pub fits-class : (c : ℕ) (k : ClassRow) → class_fits b bs c k ≡ true → ClassSound b bs c k
  unfolding class_fits
  fits-class c k h =
      let p = every_true _ h in
      let f = is-some _ p.1.0 in
      let s = is-some _ p.1.1.0 in
      record { loader = ltb-true k.loader 16 p.0; file = f.0; reads = f.1; super = s.0; is_super = s.1; size = leb-true (size_of b c) 16 p.1.1.1.0 }

  pub class-fits : (c : ℕ) (k : ClassRow) → ClassSound b bs c k → class_fits b bs c k ≡ true
  unfolding class_fits
  class-fits c k h =
      true-every _ (lt-ltb k.loader 16 h.loader, (some_is _ _ h.reads, (some_is _ _ h.is_super, (le-leb (size_of b c) 16 h.size, tt))))

  pub fits-classes : (ks : List ClassRow) → classes_fit b bs ks ≡ true → Classes b bs ks
  unfolding classes_fit is_object
  fits-classes [] h = tt
  fits-classes (k ∷ ks) h =
      let p = every_true _ h in
      let q = every_true _ p.0 in (
        record { loader = eqb-true k.loader 0 q.0; start = eqb-true k.start 0 q.1.0; size = eqb-true k.size 0 q.1.1.0 },
        from_all (class_fits b bs) (ClassSound b bs) fits-class 1 ks p.1.0,
      )

  pub classes-fit : (ks : List ClassRow) → Classes b bs ks → classes_fit b bs ks ≡ true
  unfolding classes_fit is_object
  classes-fit [] h = refl
  classes-fit (k ∷ ks) h =
      true-every _ (
        true-every _ (eq-eqb k.loader 0 h.0.loader, (eq-eqb k.start 0 h.0.start, (eq-eqb k.size 0 h.0.size, tt))),
        (all-from (class_fits b bs) (ClassSound b bs) class-fits 1 ks h.1, tt),
      )

pub fits-entry : (n : ℕ) (e : Entry) → entry_fits n e ≡ true → Listed n e
unfolding entry_fits
fits-entry n e h = let p = every_true _ h in record { loader = ltb-true e.request.loader 16 p.0; class = ltb-true e.class n p.1.0 }

pub entry-fits : (n : ℕ) (e : Entry) → Listed n e → entry_fits n e ≡ true
unfolding entry_fits
entry-fits n e h = true-every _ (lt-ltb e.request.loader 16 h.loader, (lt-ltb e.class n h.class, tt))

pub fits-tie : (t : Tie) → tie_fits t ≡ true → Between t
unfolding tie_fits
fits-tie t h = let p = every_true _ h in record { one = ltb-true t.one 16 p.0; two = ltb-true t.two 16 p.1.0 }

pub tie-fits : (t : Tie) → Between t → tie_fits t ≡ true
unfolding tie_fits
tie-fits t h = true-every _ (lt-ltb t.one 16 h.one, (lt-ltb t.two 16 h.two, tt))

pub fits-subtype : (s : Subtype) → subtype_fits s ≡ true → s.loader < 16
unfolding subtype_fits
fits-subtype s h = ltb-true s.loader 16 h

pub subtype-fits : (s : Subtype) → s.loader < 16 → subtype_fits s ≡ true
unfolding subtype_fits
subtype-fits s h = lt-ltb s.loader 16 h

-- `sound` says exactly this

pub sound-true : (r : Rows) → sound r ≡ true → Sound r
unfolding sound
sound-true r h =
    let p = every_true _ h in
    let n = length r.classes in
    let os = r.objects in
    record {
      classes = fits-classes _ _ _ p.0;
      cache = all-all _ (Listed n) (fits-entry n) r.cache p.1.0;
      ties = all-all _ Between fits-tie r.ties p.1.1.0;
      subtypes = all-all _ (λ s. s.loader < 16) fits-subtype r.subtypes p.1.1.1.0;
      objects = all-all _ (RowOwned n (Exists os)) (fits-object os n) os p.1.1.1.1.0;
      quote = all-all _ (Frames n (Exists os)) (fits-frame os n) r.quote p.1.1.1.1.1.0;
      report = all-all _ (Frames n (Exists os)) (fits-frame os n) r.report p.1.1.1.1.1.1.0;
      numbers = p.1.1.1.1.1.1.1.0;
      share = leb-true _ 192 p.1.1.1.1.1.1.1.1.0;
    }

pub sound-is : (r : Rows) → Sound r → sound r ≡ true
unfolding sound
sound-is r s =
    let n = length r.classes in
    let os = r.objects in
    true-every _ (
      classes-fit _ _ _ s.classes,
      (
        all-test _ (Listed n) (entry-fits n) r.cache s.cache,
        (
          all-test _ Between tie-fits r.ties s.ties,
          (
            all-test _ (λ s. s.loader < 16) subtype-fits r.subtypes s.subtypes,
            (
              all-test _ (RowOwned n (Exists os)) (object-fits os n) os s.objects,
              (
                all-test _ (Frames n (Exists os)) (frame-fits os n) r.quote s.quote,
                (all-test _ (Frames n (Exists os)) (frame-fits os n) r.report s.report, (s.numbers, (le-leb (made_by 1 r.objects) 192 s.share, tt))),
              ),
            ),
          ),
        ),
      ),
    )
