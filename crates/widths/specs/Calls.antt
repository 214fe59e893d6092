-- Every call on rows whose numbers have their widths leaves such rows, if its own arguments have theirs.
use Rattle.std.specs.Prelude.{◌≡◌, Bool, true, ℕ, zero, suc, ◌<◌, eqb, take}
use Rattle.std.proofs.Common.{subst, inl, inr, arith}
use Rattle.std.proofs.Math.Bool.{false}
use Rattle.std.proofs.Math.Option.{Option, none, some}
use mathlib.Core.List.{List, [], ◌∷◌, ◌++◌}
use Rattle.definition.specs.declared.Signature.{Signature}
use Rattle.definition.specs.Chains.{has}
use Rattle.definition.specs.Instructions.{pick}
use Rattle.definition.specs.Answers.{ok}
use Rattle.definition.specs.Lists.{any}
use Rattle.definition.specs.Classes.{Base, Class, Method, loader_of, Selected, selected, start_signature}
use Rattle.definition.specs.Constraints.{Tie, Subtype, World, signature_ties}
use Rattle.definition.specs.File.{read_file, class_of}
use Rattle.definition.specs.Verifier.{Note}
use Rattle.definition.specs.Machine.{Frame, Progress, free, Objects, new_object, int_value}
use Rattle.definition.specs.Sweeping.{swept_from}
use Rattle.definition.specs.Loading.{subtype_is, subtype_of, new_subtypes, override_tie, override_ties, define, recorded, started}
use Rattle.definition.specs.Tables.{Level, Rows, cut_to, world_of, with_ties, with_objects, with_frames, frames_in, with_numbers}
use Rattle.definition.specs.Calls.{Given, boot_rows, closed, taken_back, progressed, define_rows, record_rows, start_rows, drop_rows, sweep_rows, step_task, step_on, step_rows, RowCall, row_define, row_record, row_start, row_drop, row_sweep, row_try, row_take_back, on_row_call, numbered_on}
use Rattle.definition.specs.Widths.{EachBelow, FittingRows}
use Rattle.laws.specs.Tasks.{of-task}
use Rattle.laws.specs.Wrapped.{Ok, then}
use Rattle.laws.specs.Tried.{try-leaves}
use Rattle.layout.specs.Tests.{All, all_both}
use Rattle.unbroken.specs.Accepted.{recorded-is}
use Rattle.widths.specs.Below.{below_both}
use Rattle.widths.specs.Fits.{EntryFits, TieFits, SubtypeFits, ObjectRowFits, FrameFits, RowsFit}
use Rattle.widths.specs.Files.{MethodFits, ClassFits, file-fits, classes-fit, SignatureFits}
use Rattle.widths.specs.Notes.{NoteFits, notes-fit}
use Rattle.widths.specs.Steps.{then-on, take-read, new-fits, made-fits, entered-fits, ProgressFits, step_fits, signature-ties-fit, selected-fits, PlaceFits}

-- Loads

pub record WorldFits (w : World) : Type 0 where
  pub cache : All EntryFits w.base.cache
  pub ties : All TieFits w.ties
  pub subtypes : All SubtypeFits w.subtypes

subtypes-fit : (ss : List Subtype) (l : ℕ) (ns : List Note) → All NoteFits ns → All SubtypeFits (new_subtypes ss l ns)
unfolding new_subtypes
subtypes-fit ss l [] h = tt
subtypes-fit ss l (n ∷ ns) h = go (any (subtype_is l n) ss) (subtypes-fit ss l ns h.1) (subtypes-fit (ss ++ (subtype_of l n ∷ [])) l ns h.1)
  where
    go : (t : Bool) → All SubtypeFits (new_subtypes ss l ns) → All SubtypeFits (new_subtypes (ss ++ (subtype_of l n ∷ [])) l ns)
        → All SubtypeFits (elim t as (λ _. List Subtype) [ true ↦ new_subtypes ss l ns | false ↦ subtype_of l n ∷ new_subtypes (ss ++ (subtype_of l n ∷ [])) l ns ])
    go true x y = x
    go false x y = (record { low = h.0.low; high = h.0.high }, y)

override-fits : (b : Base) (l p : ℕ) (ts : List Tie) (s : Signature) → SignatureFits s → All TieFits (override_tie b l p ts s)
unfolding override_tie
override-fits b l p ts s h = go (selected b s p)
  where
    go : (o : Option Selected) → All TieFits (elim o as (λ _. List Tie) [ none ↦ [] | some y ↦ signature_ties ts l (loader_of b y.class) s ])
    go none = tt
    go (some y) = signature-ties-fit ts l (loader_of b y.class) s h

overrides-fit : (b : Base) (l p : ℕ) (ts : List Tie) (ms : List Method) → All MethodFits ms → All TieFits (override_ties b l p ts ms)
unfolding override_ties
overrides-fit b l p ts [] h = tt
overrides-fit b l p ts (m ∷ ms) h =
    let us : List Tie = override_tie b l p ts m.signature in
    all_both TieFits us _ (override-fits b l p ts m.signature h.0.types) (overrides-fit b l p (ts ++ us) ms h.1)

define-world : (room : Bool) (k : Class) (w : World) → ClassFits k → WorldFits w → Ok (define room k w) WorldFits
unfolding define
define-world room k w h f =
    then WorldFits _ _ (λ _ _. then-on (All NoteFits) WorldFits _ _ (take-read (All NoteFits) _ _ (notes-fit k h.name k.methods h.methods.each)) (λ ns hn.
    then WorldFits _ _ (λ _ _. then WorldFits _ _ (λ p _. then WorldFits _ _ (λ _ _. then WorldFits _ _ (λ _ _.
    record {
      cache = all_both EntryFits w.base.cache _ f.cache (h.name, tt);
      ties = all_both TieFits w.ties _ f.ties (overrides-fit w.base k.loader p w.ties k.methods h.methods.each);
      subtypes = all_both SubtypeFits w.subtypes _ f.subtypes (subtypes-fit w.subtypes k.loader ns hn);
    }))))))

record-world : (l n c : ℕ) (w v : World) → n < 65536 → WorldFits w → recorded l n c w ≡ ok v → WorldFits v
record-world l n c w v h f e = elim (recorded-is l n c w v e) [
  | inl q ↦ subst WorldFits q.is f
  | inr x ↦ subst WorldFits x.is (record { cache = all_both EntryFits w.base.cache _ f.cache (h, tt); ties = f.ties; subtypes = f.subtypes })
]

-- Calls

abbrev pub Fit : {A : Type 0} → Given A → Type 0
Fit g = RowsFit g.rows

-- frames of a task change; and ties and objects, as a task goes on

frames-fit : (r : Rows) → RowsFit r → (k : ℕ) (fs : List Frame) → All FrameFits fs → RowsFit (with_frames k fs r)
frames-fit r f k fs h = record {
  kept = f.kept;
  cache = f.cache;
  ties = f.ties;
  subtypes = f.subtypes;
  objects = f.objects;
  quote = of-task (All FrameFits) k h f.quote;
  report = of-task (All FrameFits) k f.report h;
}

progressed-fits : (r : Rows) → RowsFit r → (k : ℕ) (o : Progress) → ProgressFits o → RowsFit (progressed k r o)
progressed-fits r f k o p = frames-fit (with_objects o.objects (with_ties o.world.ties (with_numbers (numbered_on o.world.ties r.subtypes r) r))) moved k o.frames p.frames
  where
    moved : RowsFit (with_objects o.objects (with_ties o.world.ties (with_numbers (numbered_on o.world.ties r.subtypes r) r)))
    moved = record { kept = f.kept; cache = f.cache; ties = p.ties; subtypes = f.subtypes; objects = p.objects; quote = f.quote; report = f.report }

swept-fits : (R : List ℕ) (i : ℕ) (os : Objects) → All ObjectRowFits os → All ObjectRowFits (swept_from R i os)
unfolding swept_from
swept-fits R i [] h = tt
swept-fits R i (x ∷ os) h = (go (has eqb i R), swept-fits R (suc i) os h.1)
  where
    go : (u : Bool) → ObjectRowFits (pick u x free)
    go true = unfold pick in h.0
    go false = unfold pick in tt

closed-fits : (r : Rows) → RowsFit r → RowsFit (closed r)
closed-fits r f = record { kept = f.kept; cache = f.cache; ties = f.ties; subtypes = f.subtypes; objects = f.objects; quote = f.quote; report = f.report }

all_first : {A : Type 0} (P : A → Type 0) (n : ℕ) (xs : List A) → All P xs → All P (take n xs)
all_first P zero xs h = tt
all_first P (suc n) [] h = tt
all_first P (suc n) (x ∷ xs) h = (h.0, all_first P n xs h.1)

below-first : (w n : ℕ) (xs : List ℕ) → EachBelow w xs → EachBelow w (take n xs)
below-first w zero xs h = tt
below-first w (suc n) [] h = tt
below-first w (suc n) (x ∷ xs) h = (h.0, below-first w n xs h.1)

module _ (r : Rows) (f : RowsFit r) where
  world-fits : WorldFits (world_of r)
  world-fits = record { cache = f.cache; ties = f.ties; subtypes = f.subtypes }

  class-list : All ClassFits (world_of r).base.classes
  class-list = classes-fit r.kept f.kept r.classes

  define-fits : (l : ℕ) (bs : List ℕ) → EachBelow 256 bs → Ok (define_rows l bs r) Fit
  unfolding define_rows
  define-fits l bs h = then Fit _ _ (λ _ _.
      then-on (λ x. ClassFits (class_of l x)) Fit _ _ (take-read (λ x. ClassFits (class_of l x)) (read_file bs) _ (file-fits l bs h)) (λ x hx.
      then-on WorldFits Fit _ _ (define-world _ (class_of l x) (world_of r) hx world-fits) (λ w hw.
      record {
        kept = below_both 256 r.kept bs f.kept h;
        cache = hw.cache;
        ties = hw.ties;
        subtypes = hw.subtypes;
        objects = f.objects;
        quote = f.quote;
        report = f.report;
      })))

  record-fits : (l n c : ℕ) → n < 65536 → Ok (record_rows l n c r) Fit
  unfolding record_rows
  record-fits l n c h = then Fit _ _ (λ w e.
      record {
        kept = f.kept;
        cache = (record-world l n c (world_of r) w h world-fits e).cache;
        ties = f.ties;
        subtypes = f.subtypes;
        objects = f.objects;
        quote = f.quote;
        report = f.report;
      })

  started-fits : (k l n m v : ℕ) (fs : List Frame) → v < 4294967296 → Ok (started k l n m v (world_of r) r.objects fs) ProgressFits
  unfolding started
  started-fits k l n m v fs h =
      then ProgressFits _ _ (λ _ _. then ProgressFits _ _ (λ _ _. then ProgressFits _ _ (λ c _.
      then-on PlaceFits ProgressFits _ _ (take-read PlaceFits _ _ (selected-fits (world_of r).base class-list (start_signature m) c)) (λ s hs.
      then ProgressFits _ _ (λ _ _. then ProgressFits _ _ (λ _ _.
      record {
        ties = f.ties;
        objects = made-fits k (new_object (world_of r).base c) r.objects (new-fits (world_of r).base c) f.objects;
        frames = (entered-fits s.class s.place _ (int_value v ∷ []) hs (h, tt), tt);
      }))))))

  start-fits : (k l n m v : ℕ) → v < 4294967296 → Ok (start_rows k l n m v r) Fit
  unfolding start_rows
  start-fits k l n m v h = then Fit _ _ (λ _ _. then-on ProgressFits Fit _ _ (started-fits k l n m v (frames_in k r) h) (λ o p. closed-fits (progressed k r o) (progressed-fits r f k o p)))

  task-fits : (k : ℕ) (g : Frame) (gs : List Frame) → All FrameFits (g ∷ gs) → Ok (step_task k (world_of r) g gs r) Fit
  unfolding step_task
  task-fits k g gs h =
      then-on ProgressFits Fit _ _ (step_fits k (world_of r) r.objects class-list f.ties f.objects g gs h.0 h.1) (λ o p. closed-fits (progressed k r o) (progressed-fits r f k o p))

  pub step-rows-fit : Ok (step_rows r) Fit
  unfolding step_rows
  step-rows-fit = go r.quote r.report f.quote f.report
    where
      go : (q p : List Frame) → All FrameFits q → All FrameFits p → Ok (step_on q p (world_of r) r) Fit
      go (g ∷ gs) p a b = unfold step_on in task-fits 0 g gs a
      go [] (g ∷ gs) a b = unfold step_on in task-fits 1 g gs b
      go [] [] a b = unfold step_on in f

  drop-fits : (k : ℕ) → Ok (drop_rows k r) Fit
  unfolding drop_rows
  drop-fits k = then Fit _ _ (λ _ _. closed-fits (with_frames k [] r) (frames-fit r f k [] tt))

  sweep-fits : Ok (sweep_rows r) Fit
  unfolding sweep_rows
  sweep-fits = record {
    kept = f.kept;
    cache = f.cache;
    ties = f.ties;
    subtypes = f.subtypes;
    objects = swept-fits _ 0 r.objects f.objects;
    quote = f.quote;
    report = f.report;
  }

  -- the first rows of what fits fit
  taken-fits : (ls : List Level) → Ok (taken_back ls r) Fit
  unfolding taken_back cut_to
  taken-fits [] = tt
  taken-fits (l ∷ ls) = record {
    kept = below-first 256 l.kept r.kept f.kept;
    cache = all_first EntryFits l.cache r.cache f.cache;
    ties = all_first TieFits l.ties r.ties f.ties;
    subtypes = all_first SubtypeFits l.subtypes r.subtypes f.subtypes;
    objects = f.objects;
    quote = f.quote;
    report = f.report;
  }

  pub rows-fit : (c : RowCall) → FittingRows c → Ok (on_row_call c r) Fit
  rows-fit (row_define l bs) h = define-fits l bs h
  rows-fit (row_record l n c) h = record-fits l n c h
  rows-fit (row_start k l n m v) h = start-fits k l n m v h
  rows-fit (row_drop k) h = drop-fits k
  rows-fit row_sweep h = sweep-fits
  rows-fit (row_try c n) h = try-leaves RowsFit c n r f
  rows-fit row_take_back h = taken-fits r.trace

pub boot-fits : RowsFit boot_rows
boot-fits = record { kept = tt; cache = (omega arith, tt); ties = tt; subtypes = tt; objects = tt; quote = tt; report = tt }
