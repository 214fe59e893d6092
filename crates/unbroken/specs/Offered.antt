-- An offered load that is accepted caches its own request, and no other: what a search for an order may leave untried.
use Rattle.std.specs.Prelude.{◌≡◌, refl, Bool, true, List, [], ◌∷◌, ◌++◌, ◌⊎◌, ℕ, length}
use Rattle.std.proofs.Common.{sym, ◌∙◌, subst, inl, inr}
use Rattle.std.proofs.Math.Path.{ap}
use Rattle.std.proofs.Math.Bool.{false}
use Rattle.std.proofs.lemmas.Bool.{false≢true}
use Rattle.std.proofs.Math.Option.{Option, none, some, none-ne-some, some-injective}
use Rattle.std.proofs.Math.ListN.{get_elem?}
use Rattle.definition.specs.declared.Reply.{Reply}
use Rattle.definition.specs.Maybe.{◌>>=◌}
use Rattle.definition.specs.Answers.{Result, refused, ok}
use Rattle.definition.specs.Requests.{Request, at, same_request}
use Rattle.definition.specs.Classes.{Entry, find}
use Rattle.definition.specs.Constraints.{World}
use Rattle.definition.specs.File.{read_file}
use Rattle.definition.specs.Tables.{Rows, entry, world_of}
use Rattle.definition.specs.Calls.{Given, Load, load_define, load_record, load_rows, define_rows, record_rows, add_entry}
use Rattle.definition.specs.Offers.{loaded, loaded_at}
use Rattle.laws.specs.Chains.{requests}
use Rattle.laws.specs.Options.{bind-some, some-bind}
use Rattle.laws.specs.Results.{take-ok}
use Rattle.laws.specs.Wrapped.{Ok, then}
use Rattle.laws.specs.Stable.{find-last}
use Rattle.unbroken.specs.Accepted.{Stood, Entered, recorded-is, defined-is}

find-elsewhere : (es : List Entry) (e : Entry) (p : Request) → (e.request ≡ p → ⊥) → find (es ++ (e ∷ [])) p ≡ find es p
unfolding find
find-elsewhere [] e p n = go (same_request e.request p) refl
  where
    go : (t : Bool) → same_request e.request p ≡ t → ◌≡◌ {A = Option ℕ} (elim t as (λ _. Option ℕ) [ true ↦ some e.class | false ↦ none ]) none
    go true q = absurd (n (requests.same-eq e.request p q))
    go false q = refl
find-elsewhere (d ∷ es) e p n = λ i. elim (same_request d.request p) as (λ _. Option ℕ) [ true ↦ some d.class | false ↦ find-elsewhere es e p n i ]

-- the request that a load is for; none for a file that doesn't read
unfoldable pub request_of : Load → Option Request
request_of (load_define l bs) = read_file bs >>= λ f. some (at l f.name)
request_of (load_record l n c) = some (at l n)

pub record Caches (c : Load) (r s : Rows) : Type 0 where
  pub request : Request
  pub is : request_of c ≡ some request
  pub class : ℕ
  pub cached : find s.cache request ≡ some class
  pub others : (p : Request) → (request ≡ p → ⊥) → find s.cache p ≡ find r.cache p

define-caches : (l : ℕ) (bs : List ℕ) (r : Rows) → Ok (define_rows l bs r) (λ g. Caches (load_define l bs) r g.rows)
unfolding define_rows request_of
define-caches l bs r = then Q _ _ (λ _ _. then Q _ _ (λ f rf. then Q _ _ (λ v e.
    let d = defined-is _ _ (world_of r) v e in
    let x = entry l f.name (length (world_of r).base.classes) in
    record {
      request = at l f.name;
      is = some-bind (read_file bs) _ (take-ok _ _ rf) refl;
      class = length (world_of r).base.classes;
      cached = subst (λ (z : World). find z.base.cache (at l f.name) ≡ some (length (world_of r).base.classes)) d.is (find-last r.cache x d.fresh);
      others = λ p n. subst (λ (z : World). find z.base.cache p ≡ find r.cache p) d.is (find-elsewhere r.cache x p n);
    })))
  where
    Q : Given Reply → Type 0
    Q g = Caches (load_define l bs) r g.rows

record-caches : (l n c : ℕ) (r : Rows) → Ok (record_rows l n c r) (λ g. Caches (load_record l n c) r g.rows)
unfolding record_rows request_of
record-caches l n c r = then Q _ _ (λ v e. go v (recorded-is l n c (world_of r) v e))
  where
    Q : Given Reply → Type 0
    Q g = Caches (load_record l n c) r g.rows

    go : (v : World) → Stood l n c (world_of r) v ⊎ Entered l n c (world_of r) v → Caches (load_record l n c) r (add_entry r v)
    go v (inl x) = subst (λ (z : World). Caches (load_record l n c) r (add_entry r z)) x.is (record { request = at l n; is = refl; class = c; cached = x.cached; others = λ p m. refl })
    go v (inr x) = subst (λ (z : World). Caches (load_record l n c) r (add_entry r z)) x.is
        (record { request = at l n; is = refl; class = c; cached = find-last r.cache (entry l n c) x.fresh; others = λ p m. find-elsewhere r.cache (entry l n c) p m })

pub load-caches : (c : Load) (r s : Rows) → loaded c r ≡ some s → Caches c r s
unfolding loaded
load-caches (load_define l bs) r s h = go (define_rows l bs r) (define-caches l bs r) h
  where
    go : (o : Result (Given Reply)) → Ok o (λ g. Caches (load_define l bs) r g.rows) → (elim o as (λ _. Option Rows) [ ok g ↦ some g.rows | refused w ↦ none ]) ≡ some s → Caches (load_define l bs) r s
    go (ok g) k e = subst (Caches (load_define l bs) r) (some-injective _ _ e) k
    go (refused w) k e = absurd (none-ne-some s e)
load-caches (load_record l n c) r s h = go (record_rows l n c r) (record-caches l n c r) h
  where
    go : (o : Result (Given Reply)) → Ok o (λ g. Caches (load_record l n c) r g.rows) → (elim o as (λ _. Option Rows) [ ok g ↦ some g.rows | refused w ↦ none ]) ≡ some s → Caches (load_record l n c) r s
    go (ok g) k e = subst (Caches (load_record l n c) r) (some-injective _ _ e) k
    go (refused w) k e = absurd (none-ne-some s e)

-- what the law of pruning asks (laws/Pruned, `pruned-same`), of offers and a wanted request

module _ (offers : List Load) (q : Request) where
  unfoldable pub is_for : ℕ → Bool
  is_for i = elim (get_elem? offers i >>= request_of) as (λ _. Bool) [ none ↦ false | some p ↦ same_request p q ]

  at-offer : (i : ℕ) (r s : Rows) → loaded_at offers i r ≡ some s → (c : Load) × (get_elem? offers i ≡ some c) × Caches c r s
  unfolding loaded_at
  at-offer i r s h = let a = bind-some (get_elem? offers i) _ h in (a.0, a.1, load-caches a.0 r s a.2)

  is-for : (i : ℕ) (r s : Rows) (c : Load) → get_elem? offers i ≡ some c → (k : Caches c r s) → is_for i ≡ same_request k.request q
  unfolding is_for
  is-for i r s c e k = ap (λ (o : Option Request). elim o as (λ _. Bool) [ none ↦ false | some p ↦ same_request p q ]) (some-bind (get_elem? offers i) request_of e k.is)

  pub gives : (i : ℕ) (r s : Rows) → is_for i ≡ true → loaded_at offers i r ≡ some s → (c : ℕ) × (find s.cache q ≡ some c)
  gives i r s t h =
      let a = at-offer i r s h in
      let k = a.2 in
      (k.class, subst (λ (p : Request). find s.cache p ≡ some k.class) (requests.same-eq k.request q (sym (is-for i r s a.0 a.1 k) ∙ t)) k.cached)

  pub leaves : (i : ℕ) (r s : Rows) → is_for i ≡ false → loaded_at offers i r ≡ some s → find s.cache q ≡ find r.cache q
  leaves i r s t h =
      let a = at-offer i r s h in
      let k = a.2 in
      k.others q (differs k.request (sym (is-for i r s a.0 a.1 k) ∙ t))
    where
      differs : (p : Request) → same_request p q ≡ false → p ≡ q → ⊥
      differs p f e = false≢true (sym f ∙ (rw e (requests.same_refl q)))
