-- What each call does to the trace: a load that changed the store is remembered, a taking back takes the latest, a start, a drop, a sweep and a step that goes
-- on close all that came before, and nothing else touches it. So what holds of the rows, and of the rows that each turn of taking back leaves, goes on to
-- hold: no earlier store need be known.
use Rattle.std.specs.Prelude.{◌≡◌, ◌⊎◌, ℕ, ◌+◌, ◌<◌, length, take, Bool, true, false}
use Rattle.std.proofs.Math.Path.{refl, subst}
use Rattle.std.proofs.Common.{sym, ap, arith, length-append, le-ltb}
use mathlib.Core.List.{List, [], ◌∷◌, ◌++◌, append-nil}
use Rattle.std.proofs.Math.Logic.{inl, inr}
use Rattle.definition.specs.declared.Answer.{Answer}
use Rattle.definition.specs.declared.Reply.{Reply}
use Rattle.definition.specs.Requests.{at}
use Rattle.definition.specs.Classes.{Class, Entry}
use Rattle.definition.specs.File.{class_of}
use Rattle.definition.specs.Constraints.{Tie, Subtype, World}
use Rattle.definition.specs.Loading.{with_class, with_entry}
use Rattle.definition.specs.Machine.{Frame}
use Rattle.definition.specs.Tables.{Level, Rows, RowNumbers, rows_of, row_numbers, class_row, world_of, level_of, cut_to, with_trace}
use Rattle.definition.specs.Calls.{Given, numbers_from, add_file, entry_trace, add_entry, define_rows, record_rows, start_rows, drop_rows, sweep_rows, taken_back, step_task, step_on, step_rows, RowCall, row_define, row_record, row_start, row_drop, row_sweep, row_try, row_take_back, on_row_call}
use Rattle.laws.specs.Wrapped.{Ok, then}
use Rattle.laws.specs.Tried.{try-leaves}
use Rattle.layout.specs.NumberedRows.{numbered-on}
use Rattle.layout.specs.Traced.{EachTurn, Traced, Leaves, Loads, Back, Traceless, TracelessTurn, turns-load, turns-traced, traceless-turn, cut_load, leaves-traceless, leaves-load}
use Rattle.layout.specs.View.{entry-added}
use Rattle.layout.specs.Whole.{Sound, Numbering}
use Rattle.unbroken.specs.Accepted.{Entered, Stood, recorded-is, defined-is}

-- a load that changed the store, and one that changed nothing
pub record Remembers (r s : Rows) : Type 0 where
  pub loads : Loads r s
  pub more : length r.cache < length s.cache
  pub trace : s.trace ≡ take 32 (level_of r ∷ r.trace)

pub remembers-changed : (r s : Rows) → Remembers r s → s ≡ r → ⊥
remembers-changed r s h e = omega (arith, h.more, ap (λ (x : Rows). length x.cache) e)

abbrev pub Loaded : Rows → Rows → Type 0
Loaded r s = (s ≡ r) ⊎ Remembers r s

pub record TakesBack (r s : Rows) : Type 0 where
  pub latest : Level
  pub others : List Level
  pub trace : r.trace ≡ latest ∷ others
  pub is : s ≡ with_trace others (cut_to latest r)

abbrev pub TraceBy : RowCall → Rows → Rows → Type 0
TraceBy (row_define l bs) r s = Remembers r s
TraceBy (row_record l n c) r s = Loaded r s
TraceBy (row_start k l n m v) r s = s.trace ≡ []
TraceBy (row_drop k) r s = s.trace ≡ []
TraceBy row_sweep r s = s.trace ≡ []
TraceBy (row_try c n) r s = s ≡ r
TraceBy row_take_back r s = TakesBack r s

-- an entry that is there
pub entry-there : (r : Rows) → add_entry r (world_of r) ≡ r
unfolding entry_trace
entry-there r = ap (λ (u : Bool). with_trace (elim u as (λ _. List Level) [ true ↦ take 32 (level_of r ∷ r.trace) | false ↦ r.trace ]) r) (le-ltb (length r.cache) (length r.cache) (omega arith))

module _ (r : Rows) (w : Numbering r) where
  class-remembers : (l : ℕ) (bs : List ℕ) (k : Class) (us : List Tie) (ss : List Subtype) → Remembers r (add_file l bs r (with_class (world_of r) k us ss))
  class-remembers l bs k us ss =
      let j : ℕ = length r.ties + length r.subtypes in
      let e : Entry = record { request = at k.loader k.name; class = length (world_of r).base.classes } in
      record {
        loads = record {
          classes = class_row l (length r.kept) (length bs) ∷ [];
          kept = bs;
          cache = e ∷ [];
          ties = us;
          subtypes = ss;
          tie_numbers = numbers_from (j + length ss) (length us);
          subtype_numbers = numbers_from j (length ss);
          numbered_ties = w.ties;
          numbered_subtypes = w.subtypes;
          is = ap (λ (n : RowNumbers). rows_of (r.classes ++ (class_row l (length r.kept) (length bs) ∷ [])) (r.kept ++ bs) (r.cache ++ (e ∷ [])) (r.ties ++ us) (r.subtypes ++ ss)
              r.objects r.quote r.report n (take 32 (level_of r ∷ r.trace))) (numbered-on r us ss);
        };
        more = omega (arith, length-append r.cache (e ∷ []));
        trace = refl;
      }

  define-remembers : (l : ℕ) (bs : List ℕ) → Ok (define_rows l bs r) (λ g. Remembers r g.rows)
  unfolding define_rows
  define-remembers l bs = then L _ _ (λ _ _. then L _ _ (λ f _. then L _ _ (λ v e.
      let d = defined-is _ _ _ v e in
      subst (λ (z : World). Remembers r (add_file l bs r z)) d.is (class-remembers l bs (class_of l f) _ _))))
    where
      L : Given Reply → Type 0
      L g = Remembers r g.rows

  entry-remembers : (l n c : ℕ) → Remembers r (add_entry r (with_entry (world_of r) (at l n) c))
  entry-remembers l n c = subst (Remembers r) (sym (entry-added r (at l n) c)) (record {
    loads = record {
      classes = [];
      kept = [];
      cache = record { request = at l n; class = c } ∷ [];
      ties = [];
      subtypes = [];
      tie_numbers = [];
      subtype_numbers = [];
      numbered_ties = w.ties;
      numbered_subtypes = w.subtypes;
      is = λ i. rows_of (sym (append-nil r.classes) i) (sym (append-nil r.kept) i) (r.cache ++ (record { request = at l n; class = c } ∷ [])) (sym (append-nil r.ties) i)
          (sym (append-nil r.subtypes) i) r.objects r.quote r.report (row_numbers (sym (append-nil r.numbers.ties) i) (sym (append-nil r.numbers.subtypes) i))
          (take 32 (level_of r ∷ r.trace));
    };
    more = omega (arith, length-append r.cache (record { request = at l n; class = c } ∷ []));
    trace = refl;
  })

  record-loaded : (l n c : ℕ) → Ok (record_rows l n c r) (λ g. Loaded r g.rows)
  unfolding record_rows
  record-loaded l n c = then (λ (g : Given Reply). Loaded r g.rows) _ _ (λ v e. go v (recorded-is l n c (world_of r) v e))
    where
      go : (v : World) → Stood l n c (world_of r) v ⊎ Entered l n c (world_of r) v → Loaded r (add_entry r v)
      go v (inl z) = subst (λ (z : World). Loaded r (add_entry r z)) z.is (inl (entry-there r))
      go v (inr x) = subst (λ (z : World). Loaded r (add_entry r z)) x.is (inr (entry-remembers l n c))

  start-closes : (k l n m v : ℕ) → Ok (start_rows k l n m v r) (λ g. g.rows.trace ≡ [])
  unfolding start_rows
  start-closes k l n m v = let L : Given Reply → Type 0 = λ g. g.rows.trace ≡ [] in then L _ _ (λ _ _. then L _ _ (λ _ _. refl))

  drop-closes : (k : ℕ) → Ok (drop_rows k r) (λ g. g.rows.trace ≡ [])
  unfolding drop_rows
  drop-closes k = then (λ (g : Given Reply). g.rows.trace ≡ []) _ _ (λ _ _. refl)

  takes_back : (ls : List Level) → r.trace ≡ ls → Ok (taken_back ls r) (λ g. TakesBack r g.rows)
  unfolding taken_back
  takes_back [] e = tt
  takes_back (l ∷ ls) e = record { latest = l; others = ls; trace = e; is = refl }

  pub rows-trace : (c : RowCall) → Ok (on_row_call c r) (λ g. TraceBy c r g.rows)
  rows-trace (row_define l bs) = define-remembers l bs
  rows-trace (row_record l n c) = record-loaded l n c
  rows-trace (row_start k l n m v) = start-closes k l n m v
  rows-trace (row_drop k) = drop-closes k
  rows-trace row_sweep = unfold sweep_rows in refl
  rows-trace (row_try c n) = try-leaves (λ s. s ≡ r) c n r refl
  rows-trace row_take_back = takes_back r.trace refl

-- a step that goes on closes, an idle one leaves all
pub step-trace : (r : Rows) → Ok (step_rows r) (λ g. (g.rows ≡ r) ⊎ (g.rows.trace ≡ []))
unfolding step_rows
step-trace r = go r.quote r.report
  where
    S : Given Answer → Type 0
    S g = (g.rows ≡ r) ⊎ (g.rows.trace ≡ [])

    task : (k : ℕ) (f : Frame) (fs : List Frame) → Ok (step_task k (world_of r) f fs r) S
    task k f fs = unfold step_task in then S _ _ (λ _ _. inr refl)

    go : (q p : List Frame) → Ok (step_on q p (world_of r) r) S
    go (f ∷ fs) p = unfold step_on in task 0 f fs
    go [] (f ∷ fs) = unfold step_on in task 1 f fs
    go [] [] = unfold step_on in inl refl

-- What is kept along

-- of each turn, where it doesn't look at the trace and a load gives it of the turn that takes the load back
module _ (Q : Level → Rows → Type 0) (q : TracelessTurn Q) where
  pub turns-kept : (c : RowCall) (r s : Rows) → TraceBy c r s → (Loads r s → Q (level_of r) s) → EachTurn Q r.trace r → EachTurn Q s.trace s
  turns-kept c r s t new b = go c t
    where
      none : s.trace ≡ [] → EachTurn Q s.trace s
      none e = subst (λ ls. EachTurn Q ls s) (sym e) tt

      same : s ≡ r → EachTurn Q s.trace s
      same e = subst (λ z. EachTurn Q z.trace z) (sym e) b

      load : Remembers r s → EachTurn Q s.trace s
      load h = subst (λ ls. EachTurn Q ls s) (sym h.trace) (turns-load Q q 32 r s h.loads (new h.loads) b)

      loaded : Loaded r s → EachTurn Q s.trace s
      loaded (inl e) = same e
      loaded (inr h) = load h

      taken : TakesBack r s → EachTurn Q s.trace s
      taken h =
          let d : EachTurn Q (h.latest ∷ h.others) r = subst (λ ls. EachTurn Q ls r) h.trace b in
          subst (λ z. EachTurn Q z.trace z) (sym h.is) (turns-traced Q q h.others h.others (cut_to h.latest r) d.1)

      go : (c : RowCall) → TraceBy c r s → EachTurn Q s.trace s
      go (row_define l bs) h = load h
      go (row_record l n c) h = loaded h
      go (row_start k l n m v) e = none e
      go (row_drop k) e = none e
      go row_sweep e = none e
      go (row_try c n) e = same e
      go row_take_back h = taken h

  -- and where a step goes on
  pub turns-stepped : (r s : Rows) → (s ≡ r) ⊎ (s.trace ≡ []) → EachTurn Q r.trace r → EachTurn Q s.trace s
  turns-stepped r s (inl e) b = subst (λ z. EachTurn Q z.trace z) (sym e) b
  turns-stepped r s (inr e) b = subst (λ ls. EachTurn Q ls s) (sym e) tt

-- of the rows that each turn leaves
module _ (P : Rows → Type 0) (q : Traceless P) where
  pub back-kept : (c : RowCall) (r s : Rows) → TraceBy c r s → P r → Back P r.trace r → Back P s.trace s
  back-kept c r s t p b = turns-kept (λ l z. P (cut_to l z)) (traceless-turn P q) c r s t (λ h. subst P (sym (cut_load r s h)) (q r s.trace p)) b

  pub back-stepped : (r s : Rows) → (s ≡ r) ⊎ (s.trace ≡ []) → Back P r.trace r → Back P s.trace s
  back-stepped r s t b = turns-stepped (λ l z. P (cut_to l z)) (traceless-turn P q) r s t b

-- word 1's
pub traced-kept : (c : RowCall) (r s : Rows) → Sound r → TraceBy c r s → Traced r → Traced s
traced-kept c r s w t b = turns-kept Leaves leaves-traceless c r s t (λ h. leaves-load r s h w) b

pub step-traced : (r s : Rows) → (s ≡ r) ⊎ (s.trace ≡ []) → Traced r → Traced s
step-traced r s t b = turns-stepped Leaves leaves-traceless r s t b
