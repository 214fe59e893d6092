-- Trying orders: what a load of the second store leaves, that it is undone by the counts before it, and the turns of the search over the offers that are left.
use Rattle.std.specs.Prelude.{Some, None}
use mathlib.Core.Path.{◌≡◌, refl, sym, ap, ◌∙◌, subst}
use mathlib.Core.Bool.{Bool, true, false, false≢true}
use mathlib.Core.Option.{Option, none, some, none-ne-some}
use mathlib.Core.List.{List, ◌∷◌}
use mathlib.Core.Logic.{inl, inr}
use Prim.Native.Nat.{ℕ, zero, suc, ◌+◌, ◌-◌, ◌*◌, ◌/◌, ◌<◌, ◌≤◌}
use native.Mathlib.Omega.{arith}
use native.Mathlib.Numerals.{add-one}
use lib.ListN.{length, get_or, set}
use lib.Seq.{get_or-set_same, get_or-set_other}
use lib.Dec.{eqb}
use borrow.Author.Tests.{eq-eqb, eqb-true, eqb-false}
use Rattle.definition.specs.declared.Reply.{Reply}
use Rattle.definition.specs.declared.Reply.TheVariants.{Accepted, Defined, Stepped, RanFor, Swept, Denied}
use Rattle.definition.specs.Lists.{is_some}
use Rattle.definition.specs.Maybe.{◌>>=◌}
use Rattle.definition.specs.Answers.{Result, refused, ok}
use Rattle.definition.specs.Requests.{Request}
use Rattle.definition.specs.Tables.{Tables, Rows, view}
use Rattle.definition.specs.Broken.{broken}
use Rattle.definition.specs.Calls.{Given, Done, done, carried, Load, load_define, load_record, load_rows, on_row_call, call_rows, perform}
use Rattle.definition.specs.Computing.OnRows.{settle, on_rows, perform_rows}
use Rattle.laws.specs.Refusals.{load_call, load-rows}
use Rattle.laws.specs.Refused.{refusal, Taken, rows_taken}
use Rattle.laws.specs.Wrapped.{wrap-carried, ok_at}
use Rattle.layout.specs.Unbroken.{unbroken, broken-false}
use Rattle.unbroken.specs.Traces.{TraceBy, rows-trace}
use Rattle.unbroken.specs.OnRows.{same-perform}
use Rattle.unbroken.specs.Unbroken.{kept-unbroken}
use Rattle.definition.specs.Offers.{offers_in, loaded, loaded_at, except, first_some}
use Rattle.laws.specs.Pruned.{is_tried, pruned_of}
use Rattle.layout.specs.SetBack.{Continues, continues-self, loads-continue, set_back, set-back, set-back-unbroken}
use Rattle.searching.specs.Offered.{load_at, offers_of, offered}
use Rattle.searching.specs.Ordering.{is_taken, taken_of, digits, ordered, is_tried_at, pruned, through, left_from}

-- A load

taken_true : (a : Reply) → refusal a ≡ none → is_taken a ≡ true
taken_true Accepted h = refl
taken_true (Defined c) h = refl
taken_true (Stepped a) h = refl
taken_true (RanFor n a) h = refl
taken_true (Swept n) h = refl
taken_true (Denied w) h = absurd (none-ne-some w (sym h))

pub record Went (c : Load) (t u : Tables) : Type 0 where
  pub rows : Rows
  pub loads : loaded c (view t) ≡ some rows
  pub whole : broken u ≡ false
  pub shows : view u ≡ rows
  pub continues : Continues (view t) rows

module _ (c : Load) (t u : Tables) (b : Bool) (h : broken t ≡ false) (e : done b u ≡ taken_of (perform (call_rows (load_call c)) t)) where
  abbrev after : Done Reply
  after = perform (call_rows (load_call c)) t

  performed : after ≡ carried Denied t (load_rows c (view t))
  unfolding perform
  performed = wrap-carried Denied (on_row_call (load_call c)) t h ∙ ap (λ (f : Rows → Result (Given Reply)). carried Denied t (f (view t))) (load-rows c)

  on-rows : perform_rows (call_rows (load_call c)) (view t) ≡ settle Denied (view t) (load_rows c (view t))
  unfolding perform_rows on_rows
  on-rows = ap (λ (f : Rows → Result (Given Reply)). settle Denied (view t) (f (view t))) (load-rows c)

  flag : b ≡ is_taken after.answer
  flag = ap (λ (d : Done Bool). d.answer) e

  left : u ≡ after.tables
  left = ap (λ (d : Done Bool). d.tables) e

  continued : (g : Given Reply) → load_rows c (view t) ≡ ok g → Continues (view t) g.rows
  continued g q = go c (ok_at (λ (g : Given Reply). TraceBy (load_call c) (view t) g.rows) _ (rows-trace (view t) (broken-false t h).1.numbers (load_call c)) g (ap (λ (f : Rows → Result (Given Reply)). f (view t)) (load-rows c) ∙ q))
    where
      go : (c : Load) → TraceBy (load_call c) (view t) g.rows → Continues (view t) g.rows
      go (load_define l bs) m = loads-continue (view t) g.rows m.loads
      go (load_record l n d) (inl m) = subst (Continues (view t)) (sym m) (continues-self (view t))
      go (load_record l n d) (inr m) = loads-continue (view t) g.rows m.loads

  -- one that is accepted
  pub went : b ≡ true → Went c t u
  unfolding carried loaded settle
  went y = go (load_rows c (view t)) refl
    where
      go : (o : Result (Given Reply)) → load_rows c (view t) ≡ o → Went c t u
      go (refused w) q = absurd (false≢true (sym (flag ∙ ap (λ (d : Done Reply). is_taken d.answer) (performed ∙ ap (carried Denied t) q)) ∙ y))
      go (ok g) q = record {
        rows = g.rows;
        loads = rw (q, loaded) refl;
        whole = ap broken left ∙ kept-unbroken (call_rows (load_call c)) t h;
        shows = ap view left ∙ ((same-perform (call_rows (load_call c)) t (view t) (record { unbroken = h; rows = refl })).1.rows ∙ ap (λ (x : Given Reply). x.rows) (on-rows ∙ ap (settle Denied (view t)) q));
        continues = continued g q;
      }

  -- one that isn't: nothing was written
  pub stayed : b ≡ false → (u ≡ t) × (loaded c (view t) ≡ none)
  unfolding carried loaded
  stayed y = go (load_rows c (view t)) refl
    where
      go : (o : Result (Given Reply)) → load_rows c (view t) ≡ o → (u ≡ t) × (loaded c (view t) ≡ none)
      go (refused w) q = (left ∙ ap (λ (d : Done Reply). d.tables) (performed ∙ ap (carried Denied t) q), rw (q, loaded) refl)
      go (ok g) q =
          let z : on_row_call (load_call c) (view t) ≡ ok g = ap (λ (f : Rows → Result (Given Reply)). f (view t)) (load-rows c) ∙ q in
          absurd (false≢true (sym y ∙ (flag ∙ (ap (λ (d : Done Reply). is_taken d.answer) (performed ∙ ap (carried Denied t) q) ∙ taken_true g.answer (ok_at Taken _ (rows_taken (load_call c) (view t)) g z)))))

-- and what was tried after it led nowhere: the counts before it, set back
pub undone : (c : Load) (t u v : Tables) → broken t ≡ false → Went c t u → broken v ≡ false → view v ≡ view u → v.objects ≡ t.objects → v.frames ≡ t.frames
    → (broken (set_back t v) ≡ false) × (view (set_back t v) ≡ view t)
undone c t u v h w k e o f =
    let m = subst (Continues (view t)) (sym (e ∙ w.shows)) w.continues in
    (set-back-unbroken t v m o f h (unbroken v k).lengths, set-back t v m o f)

-- Orders through an offer

module _ (cells files : List ℕ) (q : Request) (n : ℕ) (left : List ℕ) (r : Rows) (i : ℕ) (reads : is_some (offers_in cells files) ≡ true) (l : i < length cells / 4) where
  at_row : loaded_at (offers_of cells files) i r ≡ loaded (load_at cells files i) r
  unfolding loaded_at ◌>>=◌
  at_row = rw (offered cells files reads i l) refl

  pub through-none : loaded (load_at cells files i) r ≡ none → through cells files q n left r i ≡ none
  unfolding through ◌>>=◌
  through-none h = rw (at_row ∙ h) refl

  pub through-on : (x : Rows) → loaded (load_at cells files i) r ≡ some x → through cells files q n left r i ≡ (pruned cells files q n (except i left) x >>= λ is. some (i ∷ is))
  unfolding through ◌>>=◌
  through-on x h = rw (at_row ∙ h) refl

module _ (i : ℕ) where
  pub ordered-more : (o : Option (List ℕ)) (c : ℕ) → Some c ≡ ordered o → Some (i + 8 * c) ≡ ordered (o >>= λ is. some (i ∷ is))
  unfolding ordered digits ◌>>=◌
  ordered-more none c h = cc
  ordered-more (some is) c h = let z : c ≡ digits is = cc in ap (λ (d : ℕ). Some (i + 8 * d)) z

  pub ordered-none : (o : Option (List ℕ)) → None ≡ ordered o → None ≡ ordered (o >>= λ is. some (i ∷ is))
  unfolding ordered ◌>>=◌
  ordered-none none h = refl
  ordered-none (some is) h = cc

-- The offers that are left

module _ (used : List ℕ) (i : ℕ) where
  left-past : (k j : ℕ) → i < j → left_from (set used i 1) k j ≡ left_from used k j
  unfolding left_from
  left-past zero j l = refl
  left-past (suc k) j l = let e : get_or (set used i 1) j 0 ≡ get_or used j 0 = get_or-set_other used i j 1 0 (λ z. omega arith) in
      λ d. elim (eqb (e d) 0) as (λ _. List ℕ) [ true ↦ j ∷ left-past k (suc j) (omega arith) d | false ↦ left-past k (suc j) (omega arith) d ]

  pub left-except : (k j : ℕ) → j ≤ i → i < j + k → i < length used → get_or used i 0 ≡ 0 → left_from (set used i 1) k j ≡ except i (left_from used k j)
  unfolding left_from except
  left-except zero j a b c z = absurd (omega arith)
  left-except (suc k) j a b c z = go (eqb i j) refl (λ x y. left-except k (suc j) x y c z)
    where
      go : (t : Bool) → eqb i j ≡ t → (suc j ≤ i → i < suc j + k → left_from (set used i 1) k (suc j) ≡ except i (left_from used k (suc j))) → left_from (set used i 1) (suc k) j ≡ except i (left_from used (suc k) j)
      go true e f = subst (λ (x : ℕ). left_from (set used i 1) (suc k) x ≡ except i (left_from used (suc k) x)) (eqb-true i j e) here
        where
          here : left_from (set used i 1) (suc k) i ≡ except i (left_from used (suc k) i)
          here = rw (get_or-set_same used i 1 0 c, left_from) (rw (z, left_from) (rw (eq-eqb i i refl, except) (left-past k (suc i) (omega arith))))
      go false e f =
          let s : get_or (set used i 1) j 0 ≡ get_or used j 0 = get_or-set_other used i j 1 0 (λ y. eqb-false i j e (sym y)) in
          rw (s, left_from) (by (eqb (get_or used j 0) 0) (f (omega (arith, eqb-false i j e)) (omega arith)))
        where
          by : (t : Bool) → left_from (set used i 1) k (suc j) ≡ except i (left_from used k (suc j))
              → (elim t as (λ _. List ℕ) [ true ↦ j ∷ left_from (set used i 1) k (suc j) | false ↦ left_from (set used i 1) k (suc j) ])
              ≡ except i (elim t as (λ _. List ℕ) [ true ↦ j ∷ left_from used k (suc j) | false ↦ left_from used k (suc j) ])
          by true g = rw (e, except) (ap (λ (xs : List ℕ). j ∷ xs) g)
          by false g = g

-- The turns of a search over them

module _ (F : ℕ → Option (List ℕ)) (used : List ℕ) (n i : ℕ) where
  on-left : i < n → left_from used (n - i) i ≡ left_from used (suc (n - (i + 1))) i
  on-left l = let e : n - i ≡ suc (n - (i + 1)) = omega arith in ap (λ (k : ℕ). left_from used k i) e

  -- one that is used, or that leads to none
  pub turn_on : i < n → (get_or used i 0 ≡ 0 → F i ≡ none) → first_some F (left_from used (n - i) i) ≡ first_some F (left_from used (n - (i + 1)) (i + 1))
  unfolding left_from first_some
  turn_on l h = ap (first_some F) (on-left l) ∙ (go (eqb (get_or used i 0) 0) refl ∙ ap (λ (j : ℕ). first_some F (left_from used (n - (i + 1)) j)) (sym (add-one i)))
    where
      go : (t : Bool) → eqb (get_or used i 0) 0 ≡ t
          → first_some F (elim t as (λ _. List ℕ) [ true ↦ i ∷ left_from used (n - (i + 1)) (suc i) | false ↦ left_from used (n - (i + 1)) (suc i) ]) ≡ first_some F (left_from used (n - (i + 1)) (suc i))
      go true e = rw (h (eqb-true (get_or used i 0) 0 e), first_some) refl
      go false e = refl

  -- one that leads to an order
  pub turn-found : i < n → get_or used i 0 ≡ 0 → (is : List ℕ) → F i ≡ some is → first_some F (left_from used (n - i) i) ≡ some is
  unfolding left_from first_some
  turn-found l z is h = ap (first_some F) (on-left l) ∙ rw (z, left_from) (rw (h, first_some) refl)

  pub turn_end : n ≤ i → first_some F (left_from used (n - i) i) ≡ none
  unfolding left_from first_some
  turn_end l = let e : n - i ≡ 0 = omega arith in rw e refl

-- what a search of n + 1 loads tries
module _ (cells files : List ℕ) (q : Request) (n : ℕ) (left : List ℕ) (r : Rows) where
  abbrev pub branch : ℕ → Option (List ℕ)
  branch i = elim (is_tried_at cells files q n i) as (λ _. Option (List ℕ)) [ true ↦ through cells files q n left r i | false ↦ none ]

  pub pruned-more : pruned cells files q (suc n) left r ≡ first_some branch left
  unfolding pruned pruned_of through
  pruned-more = go n
    where
      go : (m : ℕ) → pruned cells files q (suc m) left r ≡ first_some (λ i. elim (is_tried_at cells files q m i) as (λ _. Option (List ℕ)) [ true ↦ through cells files q m left r i | false ↦ none ]) left
      go zero = unfold is_tried is_tried_at in refl
      go (suc m) = unfold is_tried is_tried_at in refl

  pub branch-not : (i : ℕ) → is_tried_at cells files q n i ≡ false → branch i ≡ none
  branch-not i e = rw (e, branch) refl

  pub branch-is : (i : ℕ) → is_tried_at cells files q n i ≡ true → branch i ≡ through cells files q n left r i
  branch-is i e = rw (e, branch) refl
