-- How could this load, paper 14, on tables: an order that is found works by calls on the box's tables, none that works has fewer loads or, with as many, lower numbers at
-- the earliest difference; where none is found none works; what the second store is left as; what is looked at of it; and the refusals, in order.
use Rattle.std.specs.Prelude.{◌≡◌, Bool, ◌&&◌, ◌⊎◌, ℕ, zero, suc, ◌<◌, ◌≤◌, eqb, ltb}
use Rattle.std.proofs.Math.Path.{refl, sym, ap, subst}
use Rattle.std.proofs.Common.{◌∙◌, inl, inr, arith}
use Rattle.std.proofs.Math.Bool.{true, false, not, false≢true}
use Rattle.std.proofs.Math.Option.{Option, none, some, none-ne-some, some-injective}
use mathlib.Core.List.{List, [], ◌∷◌}
use Rattle.std.proofs.Math.ListN.{length, get_elem?}
use Rattle.std.proofs.Math.Dec.{leb}
use Rattle.definition.specs.declared.Refusal.{Refusal}
use Rattle.definition.specs.declared.Refusal.TheVariants.{Word}
use Rattle.definition.specs.declared.Reply.{Reply}
use Rattle.definition.specs.declared.Reply.TheVariants.{Denied}
use Rattle.definition.specs.Numbers.{word_broken, word_unknown, word_offers, name_object, loader_limit}
use Rattle.definition.specs.Lists.{any, is_none}
use Rattle.definition.specs.Requests.{Request, at}
use Rattle.definition.specs.Classes.{find}
use Rattle.definition.specs.Answers.{number, number_of, Result, refused, ok, ◌>>=◌, need, take?}
use Rattle.definition.specs.Tables.{Tables, shaped, Rows, view}
use Rattle.definition.specs.Broken.{broken}
use Rattle.definition.specs.Calls.{Given, Load, load_define, load_record, load_rows, load_refusals, load_call, RowCall, on_row_call, row_refusals, refusals_of, Call, call_rows, perform, perform_all}
use Rattle.definition.specs.Computing.OnRows.{settle, on_rows, perform_rows}
use Rattle.definition.specs.Reasons.{Distinct}
use Rattle.definition.specs.Offers.{offers_in, loaded, loaded_at, AcceptedTo, Works, order}
use Rattle.definition.specs.Searching.{Sought, found, not_found, denied_search, Searched, searched, calls_of, sought, settled, search}
use Rattle.laws.specs.Causes.{Cause, cause, first}
use Rattle.laws.specs.Earlier.{NotBefore, lower-first}
use Rattle.laws.specs.Options.{bind-some, some-bind}
use Rattle.laws.specs.Orders.{order-cached, order-works, order-fewest, order-lowest, order-none}
use Rattle.laws.specs.Refusals.{load-rows}
use Rattle.laws.specs.Refused.{Taken, rows_taken, refused-listed}
use Rattle.laws.specs.Wrapped.{ok_at}
use Rattle.layout.specs.Tests.{All}
use Rattle.unbroken.specs.First.{zero_number}
use Rattle.unbroken.specs.OnRows.{Shows, same-perform}
use Rattle.unbroken.specs.Unbroken.{kept-unbroken}

-- An order works by calls on tables: no offer twice, all of them offered, each call answers 0, and what they leave has the request cached
pub record WorksOn (offers : List Load) (q : Request) (t : Tables) (is : List ℕ) : Type 0 where
  pub once : Distinct is
  pub offered : All (λ i. i < length offers) is
  pub accepted : All (λ a. number_of a ≡ 0) (perform_all (calls_of offers is) t).answer
  pub class : ℕ
  pub cached : find (view (perform_all (calls_of offers is) t).tables).cache q ≡ some class

-- One load

module _ (c : Load) (t : Tables) (r : Rows) (s : Shows t r) where
  performed : perform_rows (call_rows (load_call c)) r ≡ settle Denied r (load_rows c r)
  unfolding perform_rows on_rows
  performed = ap (λ (f : Rows → Result (Given Reply)). settle Denied r (f r)) (load-rows c)

  -- one that is accepted on rows answers 0, and the tables then show those rows
  load-answers : (x : Rows) → loaded c r ≡ some x → (number_of (perform (call_rows (load_call c)) t).answer ≡ 0) × Shows (perform (call_rows (load_call c)) t).tables x
  unfolding loaded settle
  load-answers x h = go (load_rows c r) refl h (same-perform (call_rows (load_call c)) t r s)
    where
      go : (o : Result (Given Reply)) → load_rows c r ≡ o → (elim o as (λ _. Option Rows) [ ok g ↦ some g.rows | refused w ↦ none ]) ≡ some x
          → ((perform (call_rows (load_call c)) t).answer ≡ (perform_rows (call_rows (load_call c)) r).answer) × Shows (perform (call_rows (load_call c)) t).tables (perform_rows (call_rows (load_call c)) r).rows
          → (number_of (perform (call_rows (load_call c)) t).answer ≡ 0) × Shows (perform (call_rows (load_call c)) t).tables x
      go (refused w) e q d = absurd (none-ne-some x q)
      go (ok g) e q d =
          let p : perform_rows (call_rows (load_call c)) r ≡ g = performed ∙ ap (settle Denied r) e in
          let z : on_row_call (load_call c) r ≡ ok g = ap (λ (f : Rows → Result (Given Reply)). f r) (load-rows c) ∙ e in (
            ap number_of (d.0 ∙ ap (λ (g : Given Reply). g.answer) p) ∙ zero_number g.answer (ok_at Taken _ (rows_taken (load_call c) r) g z),
            subst (Shows (perform (call_rows (load_call c)) t).tables) (ap (λ (g : Given Reply). g.rows) p ∙ some-injective g.rows x q) d.1,
          )

  -- a refused one answers another number
  load-refused : (w : Refusal) → load_rows c r ≡ refused w → number_of (perform (call_rows (load_call c)) t).answer ≡ 0 → ⊥
  unfolding settle number_of
  load-refused w e n =
      let d : (perform (call_rows (load_call c)) t).answer ≡ Denied w = (same-perform (call_rows (load_call c)) t r s).0 ∙ ap (λ (g : Given Reply). g.answer) (performed ∙ ap (settle Denied r) e) in
      let z : number w ≡ 0 = sym (ap number_of d) ∙ n in
      false≢true (sym (unlisted c) ∙ subst (λ (m : ℕ). any (eqb m) (refusals_of (call_rows (load_call c))) ≡ true) z (refused-listed (call_rows (load_call c)) t w (rw d refl)))
    where
      unlisted : (c : Load) → any (eqb 0) (refusals_of (call_rows (load_call c))) ≡ false
      unlisted (load_define l bs) = unfold any refusals_of row_refusals load_refusals in refl
      unlisted (load_record l n d) = unfold any refusals_of row_refusals load_refusals in refl

  answers-load : number_of (perform (call_rows (load_call c)) t).answer ≡ 0 → (x : Rows) × (loaded c r ≡ some x)
  unfolding loaded
  answers-load n = go (load_rows c r) refl
    where
      go : (o : Result (Given Reply)) → load_rows c r ≡ o → (x : Rows) × ((elim o as (λ _. Option Rows) [ ok g ↦ some g.rows | refused w ↦ none ]) ≡ some x)
      go (ok g) e = (g.rows, refl)
      go (refused w) e = absurd (load-refused w e n)

-- Orders

module _ (offers : List Load) where
  there : (xs : List Load) (i : ℕ) (c : Load) → get_elem? xs i ≡ some c → i < length xs
  there [] i c e = absurd (none-ne-some c e)
  there (x ∷ xs) zero c e = omega arith
  there (x ∷ xs) (suc i) c e = omega (arith, there xs i c e)

  at-it : (xs : List Load) (i : ℕ) → i < length xs → (c : Load) × (get_elem? xs i ≡ some c)
  at-it [] i l = absurd (omega arith)
  at-it (x ∷ xs) zero l = (x, refl)
  at-it (x ∷ xs) (suc i) l = at-it xs i (omega arith)

  calls-on : (i : ℕ) (is : List ℕ) (c : Load) → get_elem? offers i ≡ some c → calls_of offers (i ∷ is) ≡ call_rows (load_call c) ∷ calls_of offers is
  unfolding calls_of
  calls-on i is c e = rw (e, calls_of) refl

  -- what the calls of an order answer and show, and the other way round

  abbrev Goes : Tables → List ℕ → Rows → Type 0
  Goes t is x = All (λ i. i < length offers) is × All (λ a. number_of a ≡ 0) (perform_all (calls_of offers is) t).answer × Shows (perform_all (calls_of offers is) t).tables x

  accepted-goes : (is : List ℕ) (t : Tables) (r x : Rows) → Shows t r → AcceptedTo offers r is x → Goes t is x
  unfolding loaded_at perform_all calls_of
  accepted-goes [] t r x s a = (tt, tt, subst (Shows t) a s)
  accepted-goes (i ∷ is) t r x s (y, l, a) =
      let b = bind-some (get_elem? offers i) _ l in
      let d = load-answers b.0 t r s y b.2 in
      let g = accepted-goes is (perform (call_rows (load_call b.0)) t).tables y x d.1 a in
      subst (λ (cs : List Call). ((i < length offers) × All (λ i. i < length offers) is) × All (λ a. number_of a ≡ 0) (perform_all cs t).answer × Shows (perform_all cs t).tables x) (sym (calls-on i is b.0 b.1))
      ((there offers i b.0 b.1, g.0), (d.0, g.1), g.2)

  goes-accepted : (is : List ℕ) (t : Tables) (r : Rows) → Shows t r → All (λ i. i < length offers) is → All (λ a. number_of a ≡ 0) (perform_all (calls_of offers is) t).answer
      → (x : Rows) × AcceptedTo offers r is x × Shows (perform_all (calls_of offers is) t).tables x
  unfolding loaded_at perform_all calls_of
  goes-accepted [] t r s o a = (r, refl, s)
  goes-accepted (i ∷ is) t r s o a =
      let c = at-it offers i o.0 in
      let e = calls-on i is c.0 c.1 in
      let b : (number_of (perform (call_rows (load_call c.0)) t).answer ≡ 0) × All (λ a. number_of a ≡ 0) (perform_all (calls_of offers is) (perform (call_rows (load_call c.0)) t).tables).answer =
      subst (λ (cs : List Call). All (λ a. number_of a ≡ 0) (perform_all cs t).answer) e a in
      let y = answers-load c.0 t r s b.0 in
      let d = load-answers c.0 t r s y.0 y.1 in
      let g = goes-accepted is (perform (call_rows (load_call c.0)) t).tables y.0 d.1 o.1 b.1 in (
        g.0,
        (y.0, some-bind (get_elem? offers i) _ c.1 y.1, g.1),
        subst (λ (cs : List Call). Shows (perform_all cs t).tables g.0) (sym e) g.2,
      )

  module _ (q : Request) (t : Tables) (h : broken t ≡ false) where
    shows : Shows t (view t)
    shows = record { unbroken = h; rows = refl }

    pub works-on : (is : List ℕ) → Works offers q (view t) is → WorksOn offers q t is
    works-on is w =
        let g = accepted-goes is t (view t) w.left shows w.accepted in
        record { once = w.once; offered = g.0; accepted = g.1; class = w.class; cached = ap (λ (x : Rows). find x.cache q) g.2.rows ∙ w.cached }

    pub on-works : (is : List ℕ) → WorksOn offers q t is → Works offers q (view t) is
    on-works is w =
        let g = goes-accepted is t (view t) shows w.offered w.accepted in
        record { once = w.once; left = g.0; accepted = g.1; class = w.class; cached = ap (λ (x : Rows). find x.cache q) (sym g.2.rows) ∙ w.cached }

-- calls keep a store unbroken
all-unbroken : (cs : List Call) (t : Tables) → broken t ≡ false → broken (perform_all cs t).tables ≡ false
unfolding perform_all
all-unbroken [] t h = h
all-unbroken (c ∷ cs) t h = all-unbroken cs (perform c t).tables (kept-unbroken c t h)

-- The search

module _ (l n : ℕ) (cells files : List ℕ) (box second : Tables) where
  abbrev it : Searched
  it = search l n cells files box second

  -- an order is found: of the offers, as they read
  pub record IsFound (is : List ℕ) : Type 0 where
    pub offers : List Load
    pub reads : offers_in cells files ≡ some offers
    pub works : WorksOn offers (at l n) box is
    pub fewest : (js : List ℕ) → WorksOn offers (at l n) box js → length is ≤ length js
    pub lowest : (js : List ℕ) → WorksOn offers (at l n) box js → length js ≡ length is → NotBefore lower-first js is
    pub ends : it.second ≡ (perform_all (calls_of offers is) box).tables
    pub unbroken : broken it.second ≡ false

  -- none is
  pub record IsNone : Type 0 where
    pub offers : List Load
    pub reads : offers_in cells files ≡ some offers
    pub none-works : (js : List ℕ) → WorksOn offers (at l n) box js → ⊥
    pub ends : it.second ≡ box

  -- it is refused, by the first of these words that applies: nothing is written
  unfoldable pub search_causes : List Cause
  search_causes =
      cause word_broken (not (shaped second && not (broken box))) ∷ cause word_unknown (not (ltb l loader_limit && leb name_object n)) ∷ cause word_offers (is_none (offers_in cells files)) ∷ []

  pub record IsRefused (w : Refusal) : Type 0 where
    pub word : number w ≡ first search_causes
    pub applies : first search_causes ≡ 0 → ⊥
    pub ends : it.second ≡ second

  -- each search is one of the three
  pub data Ends : Sought → Type 0 where
    ends_found : (is : List ℕ) → first search_causes ≡ 0 → IsFound is → Ends (found is)
    ends_none : first search_causes ≡ 0 → IsNone → Ends not_found
    ends_refused : (w : Refusal) → IsRefused w → Ends (denied_search w)

  -- by the three tests

  abbrev pub sought-by : Option (List Load) → Searched
  sought-by none = searched (denied_search (Word word_offers)) second
  sought-by (some offers) = sought offers (order offers (at l n) (view box)) box

  pub first-fails : (shaped second && not (broken box)) ≡ false → it ≡ searched (denied_search (Word word_broken)) second
  unfolding search settled need ◌>>=◌
  first-fails a = rw (a, search) refl

  pub second-fails : (shaped second && not (broken box)) ≡ true → (ltb l loader_limit && leb name_object n) ≡ false → it ≡ searched (denied_search (Word word_unknown)) second
  unfolding search settled need ◌>>=◌
  second-fails a b = rw (a, search) (rw b refl)

  pub third : (shaped second && not (broken box)) ≡ true → (ltb l loader_limit && leb name_object n) ≡ true → (o : Option (List Load)) → offers_in cells files ≡ o → it ≡ sought-by o
  unfolding search settled need take? ◌>>=◌
  third a b none e = rw (a, search) (rw b (rw e refl))
  third a b (some offers) e = rw (a, search) (rw b (rw e refl))

  box-unbroken : (shaped second && not (broken box)) ≡ true → broken box ≡ false
  box-unbroken a = go (shaped second) (broken box) a
    where
      go : (s b : Bool) → (s && not b) ≡ true → b ≡ false
      go true true h = absurd (false≢true h)
      go true false h = refl
      go false b h = absurd (false≢true h)

  -- the word of the first cause

  causes-one : (shaped second && not (broken box)) ≡ false → first search_causes ≡ word_broken
  unfolding search_causes first
  causes-one a = rw (a, search_causes) refl

  causes-two : (shaped second && not (broken box)) ≡ true → (ltb l loader_limit && leb name_object n) ≡ false → first search_causes ≡ word_unknown
  unfolding search_causes first
  causes-two a b = rw (a, search_causes) (rw b refl)

  causes-three : (shaped second && not (broken box)) ≡ true → (ltb l loader_limit && leb name_object n) ≡ true → offers_in cells files ≡ none → first search_causes ≡ word_offers
  unfolding search_causes first is_none
  causes-three a b e = rw (a, search_causes) (rw b (rw e refl))

  causes-none : (shaped second && not (broken box)) ≡ true → (ltb l loader_limit && leb name_object n) ≡ true → (offers : List Load) → offers_in cells files ≡ some offers → first search_causes ≡ 0
  unfolding search_causes first is_none
  causes-none a b offers e = rw (a, search_causes) (rw b (rw e refl))

  refused-by : (w : Refusal) → it ≡ searched (denied_search w) second → number w ≡ first search_causes → (first search_causes ≡ 0 → ⊥) → Ends it.answer
  refused-by w e q z = subst Ends (sym (ap (λ (x : Searched). x.answer) e)) (ends_refused w (record { word = q; applies = z; ends = ap (λ (x : Searched). x.second) e }))

  sought-ends : (offers : List Load) → offers_in cells files ≡ some offers → broken box ≡ false → first search_causes ≡ 0 → (o : Option (List ℕ)) → order offers (at l n) (view box) ≡ o
      → it ≡ sought offers o box → Ends it.answer
  unfolding sought
  sought-ends offers e u z none q p =
      subst Ends (sym (ap (λ (x : Searched). x.answer) p)) (ends_none z (record {
        offers = offers;
        reads = e;
        none-works = λ js w. order-none offers (at l n) (view box) q js (on-works offers (at l n) box u js w);
        ends = ap (λ (x : Searched). x.second) p;
      }))
  sought-ends offers e u z (some is) q p =
      subst Ends (sym (ap (λ (x : Searched). x.answer) p)) (ends_found is z (record {
        offers = offers;
        reads = e;
        works = works-on offers (at l n) box u is (order-works offers (at l n) (view box) is q);
        fewest = λ js w. order-fewest offers (at l n) (view box) is js q (on-works offers (at l n) box u js w);
        lowest = λ js w m. order-lowest offers (at l n) (view box) is js q (on-works offers (at l n) box u js w) m;
        ends = ap (λ (x : Searched). x.second) p;
        unbroken = ap (λ (x : Searched). broken x.second) p ∙ all-unbroken (calls_of offers is) box u;
      }))

  -- what the search answers, and what it leaves of the second store
  pub search-ends : Ends it.answer
  unfolding number
  search-ends = go (shaped second && not (broken box)) refl (ltb l loader_limit && leb name_object n) refl (offers_in cells files) refl
    where
      go : (a : Bool) → (shaped second && not (broken box)) ≡ a → (b : Bool) → (ltb l loader_limit && leb name_object n) ≡ b → (o : Option (List Load)) → offers_in cells files ≡ o → Ends it.answer
      go false x b y o e = refused-by (Word word_broken) (first-fails x) (sym (causes-one x)) (λ z. omega (arith, z, causes-one x))
      go true x false y o e = refused-by (Word word_unknown) (second-fails x y) (sym (causes-two x y)) (λ z. omega (arith, z, causes-two x y))
      go true x true y none e = refused-by (Word word_offers) (third x y none e) (sym (causes-three x y e)) (λ z. omega (arith, z, causes-three x y e))
      go true x true y (some offers) e = sought-ends offers e (box-unbroken x) (causes-none x y offers e) (order offers (at l n) (view box)) refl (third x y (some offers) e)

  -- nothing is needed if it is cached already
  pub search-cached : (c : ℕ) → find (view box).cache (at l n) ≡ some c → first search_causes ≡ 0 → it ≡ searched (found []) box
  search-cached c h z = go (shaped second && not (broken box)) refl (ltb l loader_limit && leb name_object n) refl (offers_in cells files) refl
    where
      go : (a : Bool) → (shaped second && not (broken box)) ≡ a → (b : Bool) → (ltb l loader_limit && leb name_object n) ≡ b → (o : Option (List Load)) → offers_in cells files ≡ o → it ≡ searched (found []) box
      go false x b y o e = absurd (omega (arith, z, causes-one x))
      go true x false y o e = absurd (omega (arith, z, causes-two x y))
      go true x true y none e = absurd (omega (arith, z, causes-three x y e))
      go true x true y (some offers) e = third x y (some offers) e ∙ (ap (λ (o : Option (List ℕ)). sought offers o box) (order-cached offers (at l n) (view box) c h) ∙ (unfold sought calls_of perform_all in refl))

-- Of the second store the lengths alone are looked at: whatever else two of them hold, the search is one and the same, or is refused alike and leaves each
pub only-lengths : (l n : ℕ) (cells files : List ℕ) (box s u : Tables) → shaped s ≡ shaped u
    → (search l n cells files box s ≡ search l n cells files box u)
    ⊎ ((w : Refusal) × (search l n cells files box s ≡ searched (denied_search w) s) × (search l n cells files box u ≡ searched (denied_search w) u))
only-lengths l n cells files box s u h = go (shaped s && not (broken box)) refl (ltb l loader_limit && leb name_object n) refl (offers_in cells files) refl
  where
    like : (a : Bool) → (shaped s && not (broken box)) ≡ a → (shaped u && not (broken box)) ≡ a
    like a e = ap (λ (x : Bool). x && not (broken box)) (sym h) ∙ e

    go : (a : Bool) → (shaped s && not (broken box)) ≡ a → (b : Bool) → (ltb l loader_limit && leb name_object n) ≡ b → (o : Option (List Load)) → offers_in cells files ≡ o
        → (search l n cells files box s ≡ search l n cells files box u)
        ⊎ ((w : Refusal) × (search l n cells files box s ≡ searched (denied_search w) s) × (search l n cells files box u ≡ searched (denied_search w) u))
    go false x b y o e = inr (Word word_broken, first-fails l n cells files box s x, first-fails l n cells files box u (like false x))
    go true x false y o e = inr (Word word_unknown, second-fails l n cells files box s x y, second-fails l n cells files box u (like true x) y)
    go true x true y none e = inr (Word word_offers, third l n cells files box s x y none e, third l n cells files box u (like true x) y none e)
    go true x true y (some offers) e = inl (third l n cells files box s x y (some offers) e ∙ sym (third l n cells files box u (like true x) y (some offers) e))
