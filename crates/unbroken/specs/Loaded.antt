-- What an accepted load leaves: the class that a define answers is the next unused, of its file and its loader, and cached under its own request, and one
-- class and one cache entry are added; a record leaves the request cached as the class recorded, and adds one entry, or nothing where it was there.
use Rattle.std.specs.Prelude.{◌≡◌, refl, List, [], ◌∷◌, ◌++◌, ◌⊎◌, ℕ, length, take}
use Rattle.std.proofs.Common.{sym, ap, ◌∙◌, subst, inl, inr, arith, ltb-true}
use Rattle.std.proofs.Math.Option.{none, some}
use Rattle.std.proofs.Math.ListN.{get_elem?}
use Rattle.std.proofs.lemmas.List.{length-map}
use Rattle.definition.specs.declared.Reply.{Reply}
use Rattle.definition.specs.declared.Reply.TheVariants.{Accepted, Defined, Denied}
use Rattle.definition.specs.Requests.{at}
use Rattle.definition.specs.Classes.{find}
use Rattle.definition.specs.Constraints.{World}
use Rattle.definition.specs.File.{File, read_file, class_of}
use Rattle.definition.specs.Verifier.{Note, notes_of}
use Rattle.definition.specs.Loading.{new_subtypes, override_ties}
use Rattle.definition.specs.Tables.{Tables, Rows, level_of, with_cache, class_row, entry, world_of, view, class_at}
use Rattle.definition.specs.Calls.{Given, remembered, add_file, add_entry, define_rows, record_rows, call_define, call_record, perform, row_define, row_record}
use Rattle.laws.specs.Options.{nth_last}
use Rattle.laws.specs.Results.{need-ok, take-ok}
use Rattle.laws.specs.Stable.{find-last}
use Rattle.laws.specs.Wrapped.{Ok, ok_at, then}
use Rattle.layout.specs.Whole.{Whole}
use Rattle.unbroken.specs.Accepted.{Entered, Stood, recorded-is, defined-is}
use Rattle.layout.specs.View.{entry-added}
use Rattle.unbroken.specs.Traces.{entry-there}
use Rattle.unbroken.specs.Calls.{world-defined, rows_whole}
use Rattle.unbroken.specs.Unbroken.{shown}

-- class c was defined by loader l from the bytes; before it there were the rows r, after it s: exactly one class, its bytes and one cache entry more, and of its
-- verifier's notes those that weren't there yet, in order; and of the ties of its methods that override one, from the superclass upward, those that weren't there yet
pub record DefinedAs (l : ℕ) (bs : List ℕ) (c : ℕ) (r s : Rows) : Type 0 where
  pub file : File
  pub reads : read_file bs ≡ some file
  pub next : c ≡ length r.classes
  pub is_class : get_elem? (world_of s).base.classes c ≡ some (class_of l file)
  pub cached : find s.cache (at l file.name) ≡ some c
  pub classes : s.classes ≡ r.classes ++ (class_row l (length r.kept) (length bs) ∷ [])
  pub kept : s.kept ≡ r.kept ++ bs
  pub cache : s.cache ≡ r.cache ++ (entry l file.name c ∷ [])
  pub notes : List Note
  pub verified : notes_of (class_of l file) file.methods ≡ some notes
  pub subtypes : s.subtypes ≡ r.subtypes ++ new_subtypes r.subtypes l notes
  pub trace : s.trace ≡ take 32 (level_of r ∷ r.trace)
  pub super : ℕ
  pub found : find r.cache (at l file.super) ≡ some super
  pub ties : s.ties ≡ r.ties ++ override_ties (world_of r).base l super r.ties file.methods

define-as : (l : ℕ) (bs : List ℕ) (r : Rows) → Whole r → Ok (define_rows l bs r) (λ g. (c : ℕ) → g.answer ≡ Defined c → DefinedAs l bs c r g.rows)
unfolding define_rows
define-as l bs r w = then Q _ _ (λ _ a. then Q _ _ (λ f rf. then Q _ _ (λ v e c q.
    let d = defined-is _ _ (world_of r) v e in
    let n : c ≡ length r.classes = cc in
    let m : length (world_of r).base.classes ≡ c = length-map r.classes (class_at r.kept) ∙ sym n in
    let is : v ≡ world_of (add_file l bs r v) = sym (world-defined r w l bs f v (ltb-true l 16 (need-ok _ _ a)) (take-ok _ _ rf) e) in
    record {
      file = f;
      reads = take-ok _ _ rf;
      next = n;
      is_class = subst (λ (z : World). get_elem? z.base.classes c ≡ some (class_of l f)) (d.is ∙ is) (rw (sym m) (nth_last (world_of r).base.classes (class_of l f)));
      cached = subst (λ (z : World). find z.base.cache (at l f.name) ≡ some c) d.is
          (rw (sym m) (find-last r.cache (record { request = at l f.name; class = length (world_of r).base.classes }) d.fresh));
      classes = refl;
      kept = refl;
      cache = sym (ap (λ (z : World). z.base.cache) d.is) ∙ ap (λ (i : ℕ). r.cache ++ (entry l f.name i ∷ [])) m;
      notes = d.notes;
      verified = d.verified;
      subtypes = sym (ap (λ (z : World). z.subtypes) d.is);
      trace = refl;
      super = d.super;
      found = d.cached;
      ties = sym (ap (λ (z : World). z.ties) d.is);
    })))
  where
    Q : Given Reply → Type 0
    Q g = (c : ℕ) → g.answer ≡ Defined c → DefinedAs l bs c r g.rows

pub define-answers : (l : ℕ) (bs : List ℕ) (t : Tables) (c : ℕ) → (perform (call_define l bs) t).answer ≡ Defined c → DefinedAs l bs c (view t) (view (perform (call_define l bs) t).tables)
unfolding perform
define-answers l bs t c = shown Denied (define_rows l bs) (λ a s. a ≡ Defined c → DefinedAs l bs c (view t) s) t (λ r w. rows_whole r w (row_define l bs))
    (λ w e. let z : ◌≡◌ {A = ℕ} 0 1 = cc in absurd (omega arith))
    (λ w g e. ok_at (λ (g : Given Reply). (c : ℕ) → g.answer ≡ Defined c → DefinedAs l bs c (view t) g.rows) _ (define-as l bs (view t) w) g e c)

-- the request is recorded as class c: it was there, and nothing changed; or it wasn't, exactly one entry was added to the cache, and the load is remembered
pub record RecordedAs (l n c : ℕ) (r s : Rows) : Type 0 where
  pub cached : find s.cache (at l n) ≡ some c
  pub adds : ((find r.cache (at l n) ≡ some c) × (s ≡ r)) ⊎ ((find r.cache (at l n) ≡ none) × (s ≡ remembered r (with_cache (r.cache ++ (entry l n c ∷ [])) r)))

record-as : (l n c : ℕ) (r : Rows) → Ok (record_rows l n c r) (λ g. RecordedAs l n c r g.rows)
unfolding record_rows
record-as l n c r = then (λ (g : Given Reply). RecordedAs l n c r g.rows) _ _ (λ v e. go v (recorded-is l n c (world_of r) v e))
  where
    go : (v : World) → Stood l n c (world_of r) v ⊎ Entered l n c (world_of r) v → RecordedAs l n c r (add_entry r v)
    go v (inl x) = subst (λ (z : World). RecordedAs l n c r (add_entry r z)) x.is (record { cached = x.cached; adds = inl (x.cached, entry-there r) })
    go v (inr x) = subst (λ (z : World). RecordedAs l n c r (add_entry r z)) x.is
        (record { cached = find-last r.cache (entry l n c) x.fresh; adds = inr (x.fresh, entry-added r (at l n) c) })

pub record-answers : (l n c : ℕ) (t : Tables) → (perform (call_record l n c) t).answer ≡ Accepted → RecordedAs l n c (view t) (view (perform (call_record l n c) t).tables)
unfolding perform
record-answers l n c t = shown Denied (record_rows l n c) (λ a s. a ≡ Accepted → RecordedAs l n c (view t) s) t (λ r w. rows_whole r w (row_record l n c))
    (λ w e. let z : ◌≡◌ {A = ℕ} 0 1 = cc in absurd (omega arith))
    (λ w g e _. ok_at (λ (g : Given Reply). RecordedAs l n c (view t) g.rows) _ (record-as l n c (view t)) g e)
