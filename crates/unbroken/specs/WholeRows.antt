-- Whole rows as a world: a step or a start may be made in it, what it leaves is whole, and rows stay whole in a later world with one more file.
use Rattle.std.specs.Prelude.{◌≡◌, Bool, true, false, ◌⊎◌, ℕ, zero, suc, ◌+◌, ◌≤◌, ◌<◌, length, drop, leb}
use Rattle.std.proofs.Math.Path.{refl, sym}
use Rattle.std.proofs.Common.{ap, ◌∙◌, inl, inr, arith, length-append, length-drop, drop_at, leb-true, le-leb}
use Rattle.std.proofs.Math.Option.{Option, none, some, none-ne-some, some-injective}
use mathlib.Core.List.{List, [], ◌∷◌, ◌++◌, map, append-nil, Memᴰ}
use Rattle.std.proofs.Math.ListN.{get_elem?}
use Rattle.std.proofs.lemmas.List.{length-map, take-append-le, drop-append-le}
use Rattle.std.proofs.Math.Seq.{take-length}
use Rattle.std.proofs.lemmas.Bool.{not-true}
use Rattle.definition.specs.declared.Signature.{Signature}
use Rattle.definition.specs.Answers.{need}
use Rattle.definition.specs.Calls.{numbered_on, progressed}
use Rattle.definition.specs.Classes.{Base, Class, Method, find, loader_of, super_of, Selected, selected, start_signature, signature_types}
use Rattle.definition.specs.Constraints.{Subtype, Tie, World, signature_ties}
use Rattle.definition.specs.File.{File, class_of, read_file}
use Rattle.definition.specs.Lists.{any}
use Rattle.definition.specs.Loading.{new_subtypes, override_tie, override_ties, started, subtype_is, subtype_of}
use Rattle.definition.specs.Machine.{Frame, Progress, ObjectRow, free, owned, Exists, unused, int_value, new_object}
use Rattle.definition.specs.Requests.{Request, at}
use Rattle.definition.specs.Tables.{ClassRow, Rows, class_at, file_at, size_of, world_of, with_ties, with_objects, with_frames, with_numbers}
use Rattle.definition.specs.Verifier.{Note}
use Rattle.laws.specs.Agreement.{find-row, super-is}
use Rattle.laws.specs.Growth.{Grows, grows-super, nth-lt}
use Rattle.laws.specs.Objects.{made-there, made-exists, share-made}
use Rattle.laws.specs.Options.{bind-some, need-true, some-bind}
use Rattle.laws.specs.Results.{need-ok, take-ok}
use Rattle.laws.specs.Stable.{Rooted, slots-stable}
use Rattle.layout.specs.Tests.{All, all_both, all_more, from_more}
use Rattle.layout.specs.InTurn.{numbering-on}
use Rattle.layout.specs.ReadBack.{object-class}
use Rattle.layout.specs.Whole.{Between, ClassSound, Classes, First, Framed, From, Listed, RowSound, Sound, Whole, whole-sound}
use Rattle.unbroken.specs.Steps.{Moved, Ready, class-found, class-selected, entered_frame, grow-frame, loader-small, made-few, made-objects, news-between}
use Rattle.definition.specs.Maybe as Maybe
use Rattle.laws.specs.Tasks.{of-task}
use Rattle.laws.specs.Wrapped.{Ok, then}

-- Lists

pub all-mem : {A : Type 0} (P : A → Type 0) {x : A} {xs : List A} → All P xs → Memᴰ x xs → P x
all-mem {A = A} P {x = x} {xs = []} h never = elim never [ ]
all-mem P {x} {xs = y ∷ ys} h (Memᴰ.head e) = rw e h.0
all-mem P {x} {xs = y ∷ ys} h (Memᴰ.tail m) = all-mem P h.1 m

pub nth-there : {A : Type 0} (xs : List A) (i : ℕ) → i < length xs → (x : A) × (get_elem? xs i ≡ some x)
nth-there [] i h = absurd (omega arith)
nth-there (x ∷ xs) zero h = (x, refl)
nth-there (x ∷ xs) (suc i) h = nth-there xs i (omega arith)

pub nth-map : {A B : Type 0} (f : A → B) (xs : List A) (i : ℕ) (y : B) → get_elem? (map f xs) i ≡ some y → (x : A) × (get_elem? xs i ≡ some x) × (f x ≡ y)
nth-map f [] i y h = absurd (none-ne-some y h)
nth-map f (x ∷ xs) zero y h = (x, refl, some-injective (f x) y h)
nth-map f (x ∷ xs) (suc i) y h = nth-map f xs i y h

from-nth : {A : Type 0} (P : ℕ → A → Type 0) (j : ℕ) (xs : List A) → From P j xs → (i : ℕ) (x : A) → get_elem? xs i ≡ some x → P (j + i) x
from-nth P j [] h i x e = absurd (none-ne-some x e)
from-nth P j (y ∷ xs) h zero x e = let z : j + 0 ≡ j = omega arith in rw (z, sym (some-injective y x e)) h.0
from-nth P j (y ∷ xs) h (suc i) x e = let z : j + suc i ≡ suc j + i = omega arith in rw z (from-nth P (suc j) xs h.1 i x e)

from_last : {A : Type 0} (P : ℕ → A → Type 0) (j : ℕ) (xs : List A) (y : A) → From P j xs → P (j + length xs) y → From P j (xs ++ (y ∷ []))
from_last P j [] y h p = let z : j + 0 ≡ j = omega arith in (rw z at p, tt)
from_last P j (x ∷ xs) y h p = let z : j + suc (length xs) ≡ suc j + length xs = omega arith in (h.0, from_last P (suc j) xs y h.1 (rw z at p))

-- Rows that are whole, as a world

pub class-at : (b : Base) (bs : List ℕ) (ks : List ClassRow) → Classes b bs ks → (c : ℕ) (k : ClassRow) → get_elem? ks c ≡ some k → ((c ≡ 0) × First k) ⊎ ClassSound b bs c k
class-at b bs [] h c k e = absurd (none-ne-some k e)
class-at b bs (x ∷ ks) h zero k e = inl (refl, rw (some-injective x k e) at h.0)
class-at b bs (x ∷ ks) h (suc c) k e = let z : suc c ≡ 1 + c = omega arith in inr (rw z (from-nth (ClassSound b bs) 1 ks h.1 c k e))

pub cls-loader : (bs : List ℕ) (k : ClassRow) (f : File) → file_at bs k ≡ some f → class_at bs k ≡ class_of k.loader f
unfolding class_at
cls-loader bs k f e = rw (e, class_at) refl

pub sound-rooted : (r : Rows) → Sound r → Rooted (world_of r).base
sound-rooted r s = record { real = real; supers = supers }
  where
    real : (q : Request) (c : ℕ) → find r.cache q ≡ some c → (k : Class) × (get_elem? (map (class_at r.kept) r.classes) c ≡ some k)
    real q c e =
        let x = find-row r.cache q c e in
        nth-there (map (class_at r.kept) r.classes) c (omega (arith, length-map r.classes (class_at r.kept), (all-mem (Listed (length r.classes)) s.cache x.1).class, x.3))

    supers : (c : ℕ) (k : Class) → get_elem? (map (class_at r.kept) r.classes) c ≡ some k → 0 < c → (p : ℕ) × (super_of (world_of r).base c ≡ some p)
    supers c k e l =
        let x = nth-map (class_at r.kept) r.classes c k e in
        elim (class-at (world_of r).base r.kept r.classes s.classes c x.0 x.1) [ inl z ↦ absurd (omega (arith, z.0)) | inr z ↦ (z.super, z.is_super) ]

module _ (r : Rows) (w : Whole r) where
  abbrev pub W : World
  W = world_of r

  abbrev pub N : ℕ
  N = length r.classes

  pub ready : Ready W N r.objects
  ready = record {
    number = length-map r.classes (class_at r.kept);
    rooted = sound-rooted r (whole-sound r w);
    loaders = loaders;
    ties = w.limits.ties;
    between = w.ties;
    objects = w.limits.objects;
    each = w.objects;
    share = w.share;
  }
    where
      loaders : (c : ℕ) (k : Class) → get_elem? (map (class_at r.kept) r.classes) c ≡ some k → k.loader < 16
      loaders c k e =
          let x = nth-map (class_at r.kept) r.classes c k e in
          elim (class-at W.base r.kept r.classes w.classes c x.0 x.1) [
            | inl z ↦ rw (sym x.2, object-class r.kept x.0 z.1) (omega arith)
            | inr z ↦ rw (sym x.2, cls-loader r.kept x.0 z.file z.reads) z.loader
          ]

  -- Frames of a task change; ties and objects change; both, as a task goes on

  pub frames-whole : (k : ℕ) (fs : List Frame) → length fs ≤ 32 → All (Framed N (Exists r.objects)) fs → Whole (with_frames k fs r)
  frames-whole k fs a b = record {
    limits = record {
      classes = w.limits.classes;
      kept = w.limits.kept;
      cache = w.limits.cache;
      ties = w.limits.ties;
      subtypes = w.limits.subtypes;
      objects = w.limits.objects;
      quote = of-task (λ (x : List Frame). length x ≤ 32) k a w.limits.quote;
      report = of-task (λ (x : List Frame). length x ≤ 32) k w.limits.report a;
      trace = w.limits.trace;
    };
    classes = w.classes;
    cache = w.cache;
    ties = w.ties;
    subtypes = w.subtypes;
    objects = w.objects;
    quote = of-task (All (Framed N (Exists r.objects))) k b w.quote;
    report = of-task (All (Framed N (Exists r.objects))) k w.report b;
    numbers = w.numbers;
    share = w.share;
  }

  heap-whole : (o : Progress) → Moved W N r.objects o → Whole (with_objects o.objects (with_ties o.world.ties (with_numbers (numbered_on o.world.ties r.subtypes r) r)))
  heap-whole o m = record {
    limits = record {
      classes = w.limits.classes;
      kept = w.limits.kept;
      cache = w.limits.cache;
      ties = m.ties;
      subtypes = w.limits.subtypes;
      objects = m.objects;
      quote = w.limits.quote;
      report = w.limits.report;
      trace = w.limits.trace;
    };
    classes = w.classes;
    cache = w.cache;
    ties = m.between;
    subtypes = w.subtypes;
    objects = m.each;
    quote = all_more (grow-frame N (Exists r.objects) (Exists o.objects) m.more) r.quote w.quote;
    report = all_more (grow-frame N (Exists r.objects) (Exists o.objects) m.more) r.report w.report;
    numbers = numbering-on r w.numbers o.world.ties r.subtypes (omega (arith, ap length m.behind, length-append r.ties m.fresh)) (omega arith);
    share = m.share;
  }

  -- the rows' classes and constraints are then those of the progress
  pub world-progressed : (k : ℕ) (o : Progress) → Moved W N r.objects o → world_of (progressed k r o) ≡ o.world
  world-progressed k o m = λ i. record { base = sym m.base i; ties = o.world.ties; subtypes = sym m.subtypes i }

  pub start-moves : (k l n m v : ℕ) (fs : List Frame) → k < 2 → Ok (started k l n m v W r.objects fs) (Moved W N r.objects)
  unfolding started
  start-moves k l n m v fs two = then Q _ _ (λ _ _. then Q _ _ (λ _ _. then Q _ _ (λ c fc. then Q _ _ (λ s es. then Q _ _ (λ _ sh. then Q _ _ (λ _ h.
      let os = r.objects in
      let x = new_object W.base c in
      let lc = class-found W N os ready (at l n) c (take-ok _ _ fc) in
      record {
        base = refl;
        subtypes = refl;
        ties = w.limits.ties;
        fresh = [];
        behind = sym (append-nil r.ties);
        between = w.ties;
        more = made-exists k x os;
        objects = made-few k x os w.limits.objects (need-ok _ _ h);
        each = made-objects W.base N k os c two lc w.objects;
        share = share-made k x os two (not-true _ (need-ok _ _ sh)) w.share;
        many = omega arith;
        frames = (
          entered_frame N _ s.class s.place (unused os) (int_value v ∷ []) (class-selected W N os ready (start_signature m) c s (take-ok _ _ es)) (x, made-there k x os) (tt, tt),
          tt,
        );
      }))))))
    where
      Q : Progress → Type 0
      Q = Moved W N r.objects

  -- A world grows

  module _ (X : World) (gr : Grows W X) (bs : List ℕ) (more : (k : ClassRow) (f : File) → file_at r.kept k ≡ some f → file_at bs k ≡ some f) where
    pub same_size : (c : ℕ) → c < N → size_of X.base c ≡ size_of W.base c
    same_size c l = ap length (slots-stable W X ready.rooted gr c (nth-there (map (class_at r.kept) r.classes) c (omega (arith, length-map r.classes (class_at r.kept)))))

    pub grown-class : (c : ℕ) (k : ClassRow) → ClassSound W.base r.kept c k → ClassSound X.base bs c k
    grown-class c k h =
        let s = super-is W.base c h.super h.is_super in
        let lt : c < N = omega (arith, nth-lt W.base.classes c s.the_class s.is_class, length-map r.classes (class_at r.kept)) in
        record { loader = h.loader; file = h.file; reads = more k h.file h.reads; super = h.super; is_super = grows-super gr c h.super h.is_super; size = omega (arith, same_size c lt, h.size) }

    pub grown-objects : (n : ℕ) → N ≤ n → All (RowSound X.base n (Exists r.objects)) r.objects
    grown-objects n l = all_more grown-row r.objects w.objects
      where
        grown-row : (x : ObjectRow) → RowSound W.base N (Exists r.objects) x → RowSound X.base n (Exists r.objects) x
        grown-row free h = tt
        grown-row (owned k o) h = (h.0, record { class = omega (arith, h.1.class); size = h.1.size ∙ sym (same_size o.class h.1.class); values = h.1.values })

  pub grown-frames : (n : ℕ) → N ≤ n → (fs : List Frame) → All (Framed N (Exists r.objects)) fs → All (Framed n (Exists r.objects)) fs
  grown-frames n l fs h = all_more (λ f x. record { class = omega (arith, x.class); depth = x.depth; operands = x.operands; eight = x.eight; locals = x.locals }) fs h

  pub grown-cache : (n : ℕ) → N ≤ n → All (Listed n) r.cache
  grown-cache n l = all_more (λ e x. record { loader = x.loader; class = omega (arith, x.class) }) r.cache w.cache

pub whole-progressed : (r : Rows) (w : Whole r) (k : ℕ) (o : Progress) → Moved (W r w) (N r w) r.objects o → Whole (progressed k r o)
whole-progressed r w k o m = frames-whole (with_objects o.objects (with_ties o.world.ties (with_numbers (numbered_on o.world.ties r.subtypes r) r))) (heap-whole r w o m) k o.frames m.many m.frames

-- A class's row in the kept files

pub grown-classes : (b d : Base) (bs cs : List ℕ) (ks : List ClassRow) → ((c : ℕ) (k : ClassRow) → ClassSound b bs c k → ClassSound d cs c k) → Classes b bs ks → Classes d cs ks
grown-classes b d bs cs [] f h = tt
grown-classes b d bs cs (k ∷ ks) f h = (h.0, from_more (ClassSound b bs) (ClassSound d cs) f 1 ks h.1)

pub classes-last : (b d : Base) (bs cs : List ℕ) (ks : List ClassRow) (x : ClassRow) → 0 < length ks → ((c : ℕ) (k : ClassRow) → ClassSound b bs c k → ClassSound d cs c k) → ClassSound d cs (length ks) x → Classes b bs ks → Classes d cs (ks ++ (x ∷ []))
classes-last b d bs cs [] x l f p h = absurd (omega arith)
classes-last b d bs cs (k ∷ ks) x l f p h =
    let z : suc (length ks) ≡ 1 + length ks = omega arith in
    (h.0, from_last (ClassSound d cs) 1 ks x (from_more (ClassSound b bs) (ClassSound d cs) f 1 ks h.1) (rw z at p))

pub file-more : (bs cs : List ℕ) (k : ClassRow) (f : File) → file_at bs k ≡ some f → file_at (bs ++ cs) k ≡ some f
unfolding file_at
file-more bs cs k f e =
    let a = bind-some _ _ e in
    let l = leb-true (k.start + k.size) (length bs) (need-true _ a.1) in
    let z : k.size ≤ length (drop k.start bs) = omega (arith, length-drop k.start bs) in
    some-bind (Maybe.need (leb (k.start + k.size) (length (bs ++ cs)))) _ (needed _ (le-leb (k.start + k.size) (length (bs ++ cs)) (omega (arith, length-append bs cs))))
    (rw (drop-append-le k.start bs cs (omega arith), take-append-le k.size (drop k.start bs) cs z) a.2)
  where
    needed : (t : Bool) → t ≡ true → Maybe.need t ≡ some tt
    needed t q = unfold Maybe.need in rw q refl

pub file-last : (bs cs : List ℕ) (l : ℕ) → file_at (bs ++ cs) (record { loader = l; start = length bs; size = length cs }) ≡ read_file cs
unfolding file_at Maybe.◌>>=◌ Maybe.need
file-last bs cs l = rw (drop_at bs cs (length bs) refl, take-length cs, le-leb (length bs + length cs) (length (bs ++ cs)) (omega (arith, length-append bs cs))) refl

cls-more : (bs cs : List ℕ) (b : Base) (c : ℕ) (k : ClassRow) → ClassSound b bs c k → class_at (bs ++ cs) k ≡ class_at bs k
cls-more bs cs b c k h = cls-loader (bs ++ cs) k h.file (file-more bs cs k h.file h.reads) ∙ sym (cls-loader bs k h.file h.reads)

from-cls : (bs cs : List ℕ) (b : Base) (j : ℕ) (ks : List ClassRow) → From (ClassSound b bs) j ks → map (class_at (bs ++ cs)) ks ≡ map (class_at bs) ks
from-cls bs cs b j [] h = refl
from-cls bs cs b j (k ∷ ks) h = rw (cls-more bs cs b j k h.0, from-cls bs cs b (suc j) ks h.1) refl

pub kept_same : (bs cs : List ℕ) (b : Base) (ks : List ClassRow) → Classes b bs ks → map (class_at (bs ++ cs)) ks ≡ map (class_at bs) ks
kept_same bs cs b [] h = refl
kept_same bs cs b (k ∷ ks) h = rw (object-class (bs ++ cs) k h.0, object-class bs k h.0, from-cls bs cs b 1 ks h.1) refl

pub map_last : {A B : Type 0} (f : A → B) (xs : List A) (x : A) → map f (xs ++ (x ∷ [])) ≡ map f xs ++ (f x ∷ [])
map_last f [] x = refl
map_last {A} {B} f (y ∷ xs) x = ap {B = List B} (λ r. f y ∷ r) (map_last f xs x)

-- Constraints that a definition adds lie between loaders

module _ (b : Base) (h : (c : ℕ) (k : Class) → get_elem? b.classes c ≡ some k → k.loader < 16) (l : ℕ) (a : l < 16) where
  over-between : (p : ℕ) (ts : List Tie) (s : Signature) → All Between (override_tie b l p ts s)
  unfolding override_tie signature_ties
  over-between p ts s = go (selected b s p)
    where
      go : (o : Option Selected) → All Between (elim o as (λ _. List Tie) [ none ↦ [] | some y ↦ signature_ties ts l (loader_of b y.class) s ])
      go none = tt
      go (some y) = news-between ts l (loader_of b y.class) (signature_types s) a (loader-small b h y.class)

  pub overs-between : (p : ℕ) (ts : List Tie) (ms : List Method) → All Between (override_ties b l p ts ms)
  unfolding override_ties
  overs-between p ts [] = tt
  overs-between p ts (m ∷ ms) = all_both Between (override_tie b l p ts m.signature) _ (over-between p ts m.signature) (overs-between p (ts ++ override_tie b l p ts m.signature) ms)

pub subs-loader : (l : ℕ) → l < 16 → (ss : List Subtype) (ns : List Note) → All (λ (s : Subtype). s.loader < 16) (new_subtypes ss l ns)
unfolding new_subtypes
subs-loader l a ss [] = tt
subs-loader l a ss (n ∷ ns) = go (any (subtype_is l n) ss) (subs-loader l a ss ns) (subs-loader l a (ss ++ (subtype_of l n ∷ [])) ns)
  where
    go : (t : Bool) → All (λ (s : Subtype). s.loader < 16) (new_subtypes ss l ns) → All (λ (s : Subtype). s.loader < 16) (new_subtypes (ss ++ (subtype_of l n ∷ [])) l ns)
        → All (λ (s : Subtype). s.loader < 16) (elim t as (λ _. List Subtype) [ true ↦ new_subtypes ss l ns | false ↦ subtype_of l n ∷ new_subtypes (ss ++ (subtype_of l n ∷ [])) l ns ])
    go true x y = x
    go false x y = (a, y)
