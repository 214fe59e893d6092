-- define, test by test: what each refusal says of the definition.
use mathlib.Core.Path.{◌≡◌, refl, sym, ap, subst, ◌∙◌}
use mathlib.Core.Bool.{Bool, true, false, not, true≢false}
use mathlib.Core.Option.{Option, none, some}
use mathlib.Core.List.{List}
use Prim.Native.Nat.{ℕ, ◌<◌}
use native.Mathlib.Omega.{arith}
use Rattle.definition.specs.declared.Signature.{Signature}
use Rattle.definition.specs.declared.Refusal.{Refusal}
use Rattle.definition.specs.declared.Refusal.TheVariants.{Wanted, Word}
use borrow.Author.Tests.{lt-ltb}
use Rattle.definition.specs.Lists.{any, is_none, is_some}
use Rattle.definition.specs.Requests.{at}
use Rattle.definition.specs.Classes.{Base, Class, find}
use Rattle.definition.specs.Constraints.{World}
use Rattle.definition.specs.Verifier.{Note, notes_of}
use Rattle.definition.specs.File.{File, read_file, class_of}
use Rattle.definition.specs.Answers.{wanted, Result, refused, ok, number, ◌>>=◌, need, take?}
use Rattle.definition.specs.Maybe as maybe
use Rattle.definition.specs.Loading.{define, with_class}
use Rattle.definition.specs.Reasons.{after_define}
use Rattle.laws.specs.Options.{bind-at}
use Rattle.laws.specs.Refusals.{Refuses, on_test, on-take}
use Rattle.laws.specs.Results.{bind_ok, take-ok}
use Rattle.classfile.specs.Reading.{file_version, method_count, method_place, method_in, method_at, numbered_place, quick_methods, quick_file}
use Rattle.classfile.specs.Searches.{numbered-in}
use Rattle.classfile.specs.Laws.{reads-some}
use Rattle.verifier.specs.Lookups.{unmapped_in}
use Rattle.verifier.specs.Trace.{answered, verification, posting, class_trace, accepted_notes, granted}
use Rattle.verifier.proofs.PostingLaws.{answer-says}
use Rattle.verifier.proofs.ClassLaws.{class-says, unmapped-says}
use Rattle.rows.specs.Posting.{Noted, noted}
use Rattle.std.specs.Prelude as code
use Rattle.std.specs.Prelude.{Ok, Err, None, Some}
use Rattle.cells.specs.Optional.{optional, optional-none, optional-some}
use Rattle.verifier.specs.declared.Rejected.{Rejected}
use Rattle.loading.specs.Stages.{ClassPlan, super_for, posted_for, placed_for, class_ties, new_notes, placed_after, defined_from, define-stages, Decided}

-- The superclass

module _ (k : Class) (b : Base) (l n m : ℕ) (el : l ≡ k.loader) (en : n ≡ k.name) (em : m ≡ k.super) where
  own : (o : Option ℕ) → find b.cache (at l n) ≡ o → find b.cache (at k.loader k.name) ≡ o
  own o h = sym (λ i. find b.cache (at (el i) (en i))) ∙ h

  above : (o : Option ℕ) → find b.cache (at l m) ≡ o → find b.cache (at k.loader k.super) ≡ o
  above o h = sym (λ i. find b.cache (at (el i) (em i))) ∙ h

  pub super-taken : (d : ℕ) → find b.cache (at l n) ≡ some d → refused (Word 4) ≡ super_for k b
  unfolding super_for is_none need ◌>>=◌
  super-taken d h = rw (own (some d) h)

  module _ (free : find b.cache (at l n) ≡ none) where
    pub super-wanted : find b.cache (at l m) ≡ none → refused (Wanted k.loader m) ≡ super_for k b
    unfolding super_for is_none need take? ◌>>=◌
    super-wanted h = (λ i. refused (Wanted k.loader (em i))) ∙ (rw (own none free, above none h))

    pub super-fits : (p : ℕ) → find b.cache (at l m) ≡ some p → ok p ≡ super_for k b
    unfolding super_for is_none need take? ◌>>=◌
    super-fits p h = rw (own none free, above (some p) h)

-- A file's method

module _ (bs : List ℕ) (j : ℕ) (h : j < method_count bs) (r : code.Option ℕ) (e : r ≡ optional (numbered_place bs j)) where
  pub method-there : r ≡ None → ⊥
  method-there q =
      let z : ◌≡◌ {A = ℕ} 0 1 = cc (optional-none (numbered_place bs j) (sym e ∙ q), numbered-in bs j h) in
      omega arith

  -- the signature at its place is its own
  pub method-signed : (p : ℕ) (g : Signature) → r ≡ Some p → g ≡ (method_at bs p).signature → g ≡ (method_in bs j).signature
  unfolding method_in
  method-signed p g q eg =
      let w : p ≡ method_place bs j = cc (optional-some (numbered_place bs j) p (sym e ∙ q), numbered-in bs j h) in
      eg ∙ ap (λ (y : ℕ). (method_at bs y).signature) w

-- A class that the verifier rejects

pub rejected : (v : code.Result ℕ Rejected) (xs : List ℕ) → ((n : ℕ) → v ≡ Ok n → ⊥) → (r : Noted) × (answered v xs ≡ verification false r)
rejected (Ok n) xs h = absurd (h n refl)
rejected (Err r) xs h = (noted xs r.count, refl)

-- The stages joined

bind-elim : {A B : Type 0} (o : Option A) (f : A → B) → maybe.◌>>=◌ o (λ p. some (f p)) ≡ elim o as (λ _. Option B) [ none ↦ none | some p ↦ some (f p) ]
unfolding maybe.◌>>=◌
bind-elim none f = refl
bind-elim (some p) f = refl

pub super-cached : (k : Class) (b : Base) (p : ℕ) → ok p ≡ super_for k b → find b.cache (at k.loader k.super) ≡ some p
unfolding super_for
super-cached k b p h = take-ok (find b.cache (at k.loader k.super)) (wanted (at k.loader k.super)) (bind_ok _ _ (sym h)).2

-- no refusal of the superclass is a clash
pub super-words : (k : Class) (b : Base) (r : Refusal) → refused r ≡ super_for k b → number r ≡ 9 → ⊥
unfolding super_for number
super-words k b r h = subst (λ (o : Result ℕ). Refuses P o) (sym h)
    (on_test P (is_none (find b.cache (at k.loader k.name))) (Word 4) _ (λ _ z. omega arith)
    (λ _. go (find b.cache (at k.loader k.super))))
  where
    P : Refusal → Type 0
    P w = number w ≡ 9 → ⊥

    go : (o : Option ℕ) → Refuses P (take? o (wanted (at k.loader k.super)))
    go none = unfold take? in λ z. omega arith
    go (some p) = unfold take? in tt

module _ (room : Bool) (k : Class) (w : World) (ns : List Note) where
  pub placed-refused : (r : Refusal) → refused r ≡ super_for k w.base → refused r ≡ placed_for room k w ns
  unfolding placed_for ◌>>=◌
  placed-refused r h = rw (sym h)

  pub placed_below : (p : ℕ) → ok p ≡ super_for k w.base → posted_for room k w ns p ≡ placed_for room k w ns
  unfolding placed_for ◌>>=◌
  placed_below p h = rw (sym h)

-- a decision means the same of equal results
pub decided-same : (d : ClassPlan) {o q : Result World} {a b : Option World} (n t s u v : List ℕ) (w : World) (k : Class) → o ≡ q → a ≡ b → Decided d o a n t s u v w k
    → Decided d q b n t s u v w k
unfolding Decided
decided-same (Err r) n t s u v w k e f h = (h.0 ∙ e, h.1)
decided-same (Ok new) n t s u v w k e f h = record {
  loader = h.loader;
  name = h.name;
  class = h.class;
  super = h.super;
  above = h.above;
  cached = h.cached;
  ties = h.ties;
  subtypes = h.subtypes;
  judged = h.judged ∙ e;
  after = sym f ∙ h.after;
  both = h.both;
  tied = h.tied;
  noted = h.noted;
  few = h.few;
  tie_cells = h.tie_cells;
  subtype_cells = h.subtype_cells;
  class_room = h.class_room;
  entry_room = h.entry_room;
}

-- The call on the world

module _ (l : ℕ) (bs : List ℕ) (room : Bool) (w : World) where
  module _ (h : l < 16) where
    pub no-file : is_some (read_file bs) ≡ false → refused (Word 2) ≡ defined_from l bs room w
    unfolding defined_from need take? ◌>>=◌ is_some
    no-file e = rw (lt-ltb l 16 h, not_some (read_file bs) e)
      where
        not_some : (o : Option File) → is_some o ≡ false → o ≡ none
        not_some none q = refl
        not_some (some f) q = absurd (true≢false q)

    module _ (e : is_some (read_file bs) ≡ true) where
      read : read_file bs ≡ some (quick_file bs)
      read = reads-some bs e

      stages : defined_from l bs room w
          ≡ (need (not (any (unmapped_in (file_version bs)) (quick_methods bs))) (Word 15) >>= λ _.
          take? (accepted_notes (class_trace bs)) (Word 6) >>= λ ns. placed_for room (class_of l (quick_file bs)) w ns)
      unfolding defined_from placed_for need take? ◌>>=◌ quick_file
      stages =
          rw (lt-ltb l 16 h, read) (define-stages room (class_of l (quick_file bs)) w
          ∙ (λ i. need (not (unmapped-says l bs (quick_file bs) read i)) (Word 15) >>= λ _.
          take? (class-says l bs (quick_file bs) read i) (Word 6) >>= λ ns. placed_for room (class_of l (quick_file bs)) w ns))

      pub unmapped-there : any (unmapped_in (file_version bs)) (quick_methods bs) ≡ true → refused (Word 15) ≡ defined_from l bs room w
      unfolding need ◌>>=◌
      unmapped-there u = sym (stages ∙ rw u refl)

      module _ (u : any (unmapped_in (file_version bs)) (quick_methods bs) ≡ false) (a : Bool) (r k : Noted) (v : verification a r ≡ posting l (class_trace bs) k) where
        pub unverified : a ≡ false → refused (Word 6) ≡ defined_from l bs room w
        unfolding need take? granted ◌>>=◌
        unverified q = sym (stages ∙ rw (u, answer-says l (class_trace bs) k r a v, q) refl)

        pub verified-as : a ≡ true → placed_for room (class_of l (quick_file bs)) w (class_trace bs).notes ≡ defined_from l bs room w
        unfolding need take? granted ◌>>=◌
        verified-as q = sym (stages ∙ rw (u, answer-says l (class_trace bs) k r a v, q) refl)

        -- the store that it would leave
        pub after-as : a ≡ true → placed_after (class_of l (quick_file bs)) w (class_trace bs).notes ≡ after_define l bs w
        unfolding after_define placed_after granted quick_file
        after-as q = sym
            (bind-at (read_file bs) _ (quick_file bs) read
            ∙ (bind-at (notes_of (class_of l (quick_file bs)) (quick_methods bs)) _ (class_trace bs).notes (class-says l bs (quick_file bs) read ∙ rw (answer-says l (class_trace bs) k r a v, q) refl)
            ∙ bind-elim (find w.base.cache (at l (quick_file bs).super))
            (λ p. with_class w (class_of l (quick_file bs)) (class_ties (class_of l (quick_file bs)) w p) (new_notes (class_of l (quick_file bs)) w (class_trace bs).notes))))

-- with a loader that is there, no refusal is 3

abbrev NotThree : Refusal → Type 0
NotThree x = number x ≡ 3 → ⊥

class-known : (room : Bool) (k : Class) (w : World) → Refuses NotThree (define room k w)
unfolding define number
class-known room k w =
    on_test NotThree _ (Word 15) _ (λ _ z. omega arith) (λ _. on-take NotThree _ (Word 6) _ (λ _ z. omega arith) (λ ns _. on_test NotThree _ (Word 4) _ (λ _ z. omega arith)
    (λ _. on-take NotThree _ (wanted (at k.loader k.super)) _ (λ _ z. omega arith) (λ p _. on_test NotThree _ (Word 10) _ (λ _ z. omega arith)
    (λ _. on_test NotThree _ (Word 9) _ (λ _ z. omega arith) (λ _. tt))))))

pub loader-known : (l : ℕ) (bs : List ℕ) (room : Bool) (w : World) → l < 16 → Refuses NotThree (defined_from l bs room w)
unfolding defined_from need ◌>>=◌ number
loader-known l bs room w h = rw (lt-ltb l 16 h) (on-take NotThree (read_file bs) (Word 2) _ (λ _ z. omega arith) (λ f _. class-known room (class_of l f) w))
