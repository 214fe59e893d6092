-- Every call on rows keeps whole rows whole, and the rows it leaves have the classes and constraints of the machine over classes.
use Rattle.std.specs.Prelude.{◌≡◌, ℕ, ◌+◌, ◌≤◌, ◌<◌, leb}
use Rattle.std.proofs.Math.Path.{refl}
use Rattle.std.proofs.Common.{sym, ap, ◌∙◌, subst, inl, inr, arith, length-append, leb-true, ltb-true}
use Rattle.std.proofs.Math.Option.{some}
use mathlib.Core.List.{List, [], ◌∷◌, ◌++◌, map}
use Rattle.std.proofs.Math.ListN.{length, get_elem?}
use Rattle.std.proofs.lemmas.List.{length-map}
use Rattle.definition.specs.Answers.{Result, ok, refused}
use Rattle.definition.specs.Broken.{in_turn, numbered}
use Rattle.definition.specs.Calls.{Given, add_entry, add_file, boot_rows, define_rows, drop_rows, record_rows, start_rows, sweep_rows, step_on, step_rows, step_task, RowCall, row_define, row_record, row_start, row_drop, row_sweep, row_try, row_take_back, taken_back, progressed, on_row_call}
use Rattle.definition.specs.Classes.{Base, Class, Entry, find, own_slots, slots, super_of}
use Rattle.definition.specs.Constraints.{Subtype, Tie, World}
use Rattle.definition.specs.File.{File, class_of, read_file}
use Rattle.definition.specs.Loading.{define, recorded, with_class, with_entry}
use Rattle.definition.specs.Machine.{Exists, Frame, made_by}
use Rattle.definition.specs.Requests.{at}
use Rattle.definition.specs.Tables.{ClassRow, Level, Rows, base_of, class_at, file_at, size_of, world_of, frames_in, level_of, cut_to, with_objects, with_frames, with_trace}
use Rattle.laws.specs.Agreement.{find-more, is-super}
use Rattle.laws.specs.Growth.{Grows, grows-class, grows-entry}
use Rattle.laws.specs.Options.{nth_last}
use Rattle.laws.specs.Results.{need-ok, take-ok}
use Rattle.laws.specs.Slots.{slots-up}
use Rattle.laws.specs.Stable.{own_is}
use Rattle.layout.specs.InTurn.{numbering-on}
use Rattle.layout.specs.Tests.{All, all_both}
use Rattle.layout.specs.Whole.{Between, Classes, Framed, Listed, RowSound, Whole, whole-sound}
use Rattle.layout.specs.Traced.{EachTurn, Leaves, Traced}
use Rattle.layout.specs.View.{entry-added}
use Rattle.unbroken.specs.Steps.{class-found, step-moves}
use Rattle.laws.specs.Tried.{try-leaves}
use Rattle.laws.specs.Wrapped.{Ok, ok_at, then}
use Rattle.unbroken.specs.Accepted.{recorded-is, defined-is}
use Rattle.unbroken.specs.Swept.{objects-whole}
use Rattle.unbroken.specs.Cut.{whole-traced, few, cut-whole}
use Rattle.unbroken.specs.Traces.{entry-there, rows-trace, step-trace, traced-kept, step-traced}
use Rattle.unbroken.specs.WholeRows.{cls-loader, W, N, ready, frames-whole, whole-progressed, start-moves, same_size, grown-class, grown-objects, grown-frames, grown-cache, grown-classes, classes-last, file-more, file-last, kept_same, map_last, overs-between, subs-loader}

ok-both : {A : Type 0} (P Q : A → Type 0) (o : Result A) → Ok o P → Ok o Q → Ok o (λ a. P a × Q a)
ok-both P Q (refused x) p q = tt
ok-both P Q (ok a) p q = (p, q)

ok-map : {A : Type 0} (P Q : A → Type 0) (o : Result A) → ((a : A) → P a → Q a) → Ok o P → Ok o Q
ok-map P Q (refused x) f p = tt
ok-map P Q (ok a) f p = f a p

closed-whole : (r : Rows) → Whole r → Whole (with_trace [] r)
closed-whole r w = whole-traced r [] (omega arith) w

-- Loads

module _ (r : Rows) (w : Whole r) where
  whole-entry : (l n c : ℕ) → l < 16 → c < length (W r w).base.classes → length r.cache < 256 → Whole (add_entry r (with_entry (W r w) (at l n) c))
  whole-entry l n c a b d =
      let e : Entry = record { request = at l n; class = c } in
      let X = with_entry (W r w) (at l n) c in
      let g : Grows (W r w) X = grows-entry (W r w) (at l n) c in
      let f : (k : ClassRow) (f : File) → file_at r.kept k ≡ some f → file_at r.kept k ≡ some f = λ k f x. x in
      subst Whole (sym (entry-added r (at l n) c)) (record {
        limits = record { classes = w.limits.classes; kept = w.limits.kept; cache = omega (arith, length-append r.cache (e ∷ [])); ties = w.limits.ties; subtypes = w.limits.subtypes; objects = w.limits.objects; quote = w.limits.quote; report = w.limits.report; trace = few 32 (level_of r ∷ r.trace) };
        classes = grown-classes (W r w).base X.base r.kept r.kept r.classes (grown-class r w X g r.kept f) w.classes;
        cache = all_both (Listed (N r w)) r.cache (e ∷ []) w.cache (record { loader = a; class = omega (arith, length-map r.classes (class_at r.kept)) }, tt);
        ties = w.ties;
        subtypes = w.subtypes;
        objects = grown-objects r w X g r.kept f (N r w) (omega arith);
        quote = w.quote;
        report = w.report;
        numbers = w.numbers;
        share = w.share;
      })

  pub whole-record : (l n c : ℕ) (v : World) → recorded l n c (W r w) ≡ ok v → Whole (add_entry r v)
  whole-record l n c v e = elim (recorded-is l n c (W r w) v e) [
    | inl q ↦ subst (λ (z : World). Whole (add_entry r z)) q.is (subst Whole (sym (entry-there r)) w)
    | inr x ↦ subst (λ (z : World). Whole (add_entry r z)) x.is (whole-entry l n c x.loader x.class x.room)
  ]

  pub world-recorded : (l n c : ℕ) (v : World) → recorded l n c (W r w) ≡ ok v → world_of (add_entry r v) ≡ v
  world-recorded l n c v e = elim (recorded-is l n c (W r w) v e) [
    | inl q ↦ subst (λ (z : World). world_of (add_entry r z) ≡ z) q.is (ap world_of (entry-there r))
    | inr x ↦ subst (λ (z : World). world_of (add_entry r z) ≡ z) x.is (ap world_of (entry-added r (at l n) c))
  ]

  module _ (l : ℕ) (bs : List ℕ) (f : File) (a : l < 16) (rf : read_file bs ≡ some f) (us : List Tie) (ss : List Subtype) where
    abbrev K : Class
    K = class_of l f

    abbrev Y : World
    Y = with_class (W r w) K us ss

    abbrev row : ClassRow
    row = record { loader = l; start = length r.kept; size = length bs }

    new-class : class_at (r.kept ++ bs) row ≡ K
    new-class = cls-loader (r.kept ++ bs) row f (file-last r.kept bs l ∙ rf)

    classes-more : map (class_at (r.kept ++ bs)) (r.classes ++ (row ∷ [])) ≡ (W r w).base.classes ++ (K ∷ [])
    classes-more = map_last (class_at (r.kept ++ bs)) r.classes row ∙ rw (new-class, kept_same r.kept bs (W r w).base r.classes w.classes) refl

    base-is : base_of (r.classes ++ (row ∷ [])) (r.kept ++ bs) Y.base.cache ≡ Y.base
    base-is = λ i. record { classes = classes-more i; cache = Y.base.cache }

    world-class : world_of (add_file l bs r Y) ≡ Y
    world-class = λ i. record { base = base-is i; ties = Y.ties; subtypes = Y.subtypes }

    module _ (p : ℕ) (fp : find r.cache (at l f.super) ≡ some p) (n64 : length (W r w).base.classes < 64) (n256 : length r.cache < 256) (nk : length r.kept + length bs ≤ 16384)
        (nt : length (r.ties ++ us) ≤ 256) (ns : length (r.subtypes ++ ss) ≤ 256) (sz : size_of (W r w).base p + length f.fields ≤ 16) (bu : All Between us) (ks : All (λ (s : Subtype). s.loader < 16) ss) where
      many : length (W r w).base.classes ≡ N r w
      many = length-map r.classes (class_at r.kept)

      plt : p < N r w
      plt = class-found (W r w) (N r w) r.objects (ready r w) (at l f.super) p fp

      grew : Grows (W r w) Y
      grew = grows-class (W r w) K us ss

      here : get_elem? Y.base.classes (N r w) ≡ some K
      here = rw (sym many) (nth_last (W r w).base.classes K)

      up : super_of Y.base (N r w) ≡ some p
      up = is-super Y.base (N r w) p (record { the_class = K; is_class = here; cached = find-more r.cache _ _ p fp; less = plt })

      new-size : size_of Y.base (N r w) ≤ 16
      new-size =
          let a : slots Y.base (N r w) ≡ slots Y.base p ++ own_slots Y.base (N r w) = slots-up Y.base (N r w) p up in
          let b = length-append (slots Y.base p) (own_slots Y.base (N r w)) in
          let c = same_size r w Y grew r.kept (λ k f x. x) p plt in
          let d : length (own_slots Y.base (N r w)) ≡ length f.fields = ap length (own_is Y.base (N r w) K here) ∙ length-map f.fields (λ x. record { owner = N r w; name = x.name; type = x.type }) in
          omega (arith, ap length a, b, c, d, sz)

      whole-class : Whole (add_file l bs r Y)
      whole-class = record {
        limits = record {
          classes = omega (arith, length-append r.classes (row ∷ []), many, n64);
          kept = omega (arith, length-append r.kept bs, nk);
          cache = omega (arith, length-append r.cache (new ∷ []), n256);
          ties = nt;
          subtypes = ns;
          objects = w.limits.objects;
          quote = w.limits.quote;
          report = w.limits.report;
          trace = few 32 (level_of r ∷ r.trace);
        };
        classes = subst (λ (b : Base). Classes b (r.kept ++ bs) (r.classes ++ (row ∷ []))) (sym base-is)
            (classes-last (W r w).base Y.base r.kept (r.kept ++ bs) r.classes row (omega (arith, plt)) (grown-class r w Y grew (r.kept ++ bs) (file-more r.kept bs))
            (record { loader = a; file = f; reads = file-last r.kept bs l ∙ rf; super = p; is_super = up; size = new-size }) w.classes);
        cache = all_both (Listed (length (r.classes ++ (row ∷ [])))) r.cache (new ∷ []) (grown-cache r w _ bigger) (record { loader = a; class = omega (arith, length-append r.classes (row ∷ []), many) }, tt);
        ties = all_both Between r.ties us w.ties bu;
        subtypes = all_both (λ (s : Subtype). s.loader < 16) r.subtypes ss w.subtypes ks;
        objects = subst (λ (b : Base). All (RowSound b (length (r.classes ++ (row ∷ []))) (Exists r.objects)) r.objects) (sym base-is) (grown-objects r w Y grew (r.kept ++ bs) (file-more r.kept bs) _ bigger);
        quote = grown-frames r w _ bigger r.quote w.quote;
        report = grown-frames r w _ bigger r.report w.report;
        numbers = numbering-on r w.numbers (r.ties ++ us) (r.subtypes ++ ss) (omega (arith, length-append r.ties us)) (omega (arith, length-append r.subtypes ss));
        share = w.share;
      }
        where
          new : Entry
          new = record { request = at l f.name; class = length (W r w).base.classes }

          bigger : N r w ≤ length (r.classes ++ (row ∷ []))
          bigger = omega (arith, length-append r.classes (row ∷ []))

  pub whole-define : (l : ℕ) (bs : List ℕ) (f : File) (v : World) → l < 16 → read_file bs ≡ some f → define (leb (length r.kept + length bs) 16384) (class_of l f) (W r w) ≡ ok v → Whole (add_file l bs r v)
  whole-define l bs f v a rf e =
      let d = defined-is _ (class_of l f) (W r w) v e in
      subst (λ (z : World). Whole (add_file l bs r z)) d.is
      (whole-class l bs f a rf _ _ d.super d.cached d.classes d.cache (leb-true _ _ d.kept) d.ties d.subtypes d.size
      (overs-between (W r w).base (ready r w).loaders l a d.super r.ties f.methods) (subs-loader l a r.subtypes d.notes))

  pub world-defined : (l : ℕ) (bs : List ℕ) (f : File) (v : World) → l < 16 → read_file bs ≡ some f → define (leb (length r.kept + length bs) 16384) (class_of l f) (W r w) ≡ ok v → world_of (add_file l bs r v) ≡ v
  world-defined l bs f v a rf e =
      let d = defined-is _ (class_of l f) (W r w) v e in
      subst (λ (z : World). world_of (add_file l bs r z) ≡ z) d.is (world-class l bs f a rf _ _)

  -- Every call keeps the rows whole

  abbrev Stays : {A : Type 0} → Given A → Type 0
  Stays g = Whole g.rows

  define-whole : (l : ℕ) (bs : List ℕ) → Ok (define_rows l bs r) Stays
  unfolding define_rows
  define-whole l bs = then Stays _ _ (λ _ a. then Stays _ _ (λ f rf. then Stays _ _ (λ v e. whole-define l bs f v (ltb-true l 16 (need-ok _ _ a)) (take-ok _ _ rf) e)))

  record-whole : (l n c : ℕ) → Ok (record_rows l n c r) Stays
  unfolding record_rows
  record-whole l n c = then Stays _ _ (λ v e. whole-record l n c v e)

  start-whole : (k l n m v : ℕ) → Ok (start_rows k l n m v r) Stays
  unfolding start_rows
  start-whole k l n m v = then Stays _ _ (λ _ a. then Stays _ _ (λ o e. closed-whole (progressed k r o) (whole-progressed r w k o (ok_at _ _ (start-moves r w k l n m v (frames_in k r) (ltb-true k 2 (need-ok _ _ a))) o e))))

  task-whole : (k : ℕ) → k < 2 → (f : Frame) (fs : List Frame) → All (Framed (N r w) (Exists r.objects)) (f ∷ fs) → length (f ∷ fs) ≤ 32 → Ok (step_task k (world_of r) f fs r) Stays
  unfolding step_task
  task-whole k two f fs a c = then Stays _ _ (λ o e. closed-whole (progressed k r o) (whole-progressed r w k o (ok_at _ _ (step-moves (W r w) (N r w) r.objects (ready r w) k two f fs a c) o e)))

  step_stays : Ok (step_rows r) Stays
  unfolding step_rows
  step_stays = go r.quote r.report w.quote w.report w.limits.quote w.limits.report
    where
      go : (q p : List Frame) → All (Framed (N r w) (Exists r.objects)) q → All (Framed (N r w) (Exists r.objects)) p → length q ≤ 32 → length p ≤ 32 → Ok (step_on q p (world_of r) r) Stays
      go (f ∷ fs) p a b c d = unfold step_on in task-whole 0 (omega arith) f fs a c
      go [] (f ∷ fs) a b c d = unfold step_on in task-whole 1 (omega arith) f fs b d
      go [] [] a b c d = unfold step_on in w

  drop-whole : (k : ℕ) → Ok (drop_rows k r) Stays
  unfolding drop_rows
  drop-whole k = then Stays _ _ (λ _ _. closed-whole (with_frames k [] r) (frames-whole r w k [] (omega arith) tt))

  -- what is swept is reached by no frame and no field of an object that stays
  sweep-whole : Ok (sweep_rows r) Stays
  unfolding sweep_rows
  sweep-whole = closed-whole (with_objects _ r) (objects-whole r w)

  -- the rows that the latest load left are cut to its level
  taken-whole : (ls : List Level) → EachTurn Leaves ls r → length ls ≤ 32 → Ok (taken_back ls r) Stays
  unfolding taken_back
  taken-whole [] b h = tt
  taken-whole (l ∷ ls) b h = whole-traced (cut_to l r) ls (omega arith) (cut-whole l r b.0.1 b.0.0 w)

  rows_stay : (c : RowCall) → Traced r → Ok (on_row_call c r) Stays
  rows_stay (row_define l bs) b = define-whole l bs
  rows_stay (row_record l n c) b = record-whole l n c
  rows_stay (row_start k l n m v) b = start-whole k l n m v
  rows_stay (row_drop k) b = drop-whole k
  rows_stay row_sweep b = sweep-whole
  rows_stay (row_try c n) b = try-leaves Whole c n r w
  rows_stay row_take_back b = taken-whole r.trace b w.limits.trace

  -- and each turn of taking back, from there, leaves a store that isn't broken

  pub rows_whole : (c : RowCall) → Traced r → Ok (on_row_call c r) (λ g. Whole g.rows × Traced g.rows)
  rows_whole c b = ok-both _ _ (on_row_call c r) (rows_stay c b) (ok-map _ _ (on_row_call c r) (λ g t. traced-kept c r g.rows (whole-sound r w) t b) (rows-trace r w.numbers c))

  pub step-whole : Traced r → Ok (step_rows r) (λ g. Whole g.rows × Traced g.rows)
  step-whole b = ok-both _ _ (step_rows r) step_stays (ok-map _ _ (step_rows r) (λ g t. step-traced r g.rows t b) (step-trace r))

pub boot-traced : Traced boot_rows
boot-traced = tt

pub boot-whole : Whole boot_rows
boot-whole = record {
  limits = record { classes = omega arith; kept = omega arith; cache = omega arith; ties = omega arith; subtypes = omega arith; objects = omega arith; quote = omega arith; report = omega arith; trace = omega arith };
  classes = (record { loader = refl; start = refl; size = refl }, tt);
  cache = (record { loader = omega arith; class = omega arith }, tt);
  ties = tt;
  subtypes = tt;
  objects = tt;
  quote = tt;
  report = tt;
  numbers = record { ties = refl; subtypes = refl; turn = unfold numbered in_turn in refl };
  share = unfold made_by in omega arith;
}
