-- Rows that break agreement by themselves: whether one does, the first of them, and that no chain is better where there is one.
use mathlib.Core.Path.{◌≡◌, refl, sym, ap, subst, ◌∙◌}
use mathlib.Core.Bool.{Bool, true, false, false≢true, not, ◌&&◌}
use mathlib.Core.Option.{Option, none, some, none-ne-some}
use mathlib.Core.List.{List, [], ◌∷◌}
use mathlib.Core.Logic.{◌⊎◌, inl, inr}
use Prim.Native.Nat.{ℕ, ◌+◌, ◌<◌, ◌≤◌}
use native.Mathlib.Omega.{arith}
use lib.ListN.{get_or}
use lib.Dec.{ltb}
use borrow.Author.Tests.{eq-eqb, ne_eqb, lt-ltb, le-ltb, ltb-true}
use Rattle.std.specs.Prelude as P
use Rattle.definition.specs.Superclasses.{Below, Falls, below, same, up}
use Rattle.definition.specs.Reasons.{precedes}
use Rattle.laws.specs.Upward.{below_true, true_below}
use Rattle.laws.specs.Earlier.{row_before}
use Rattle.cells.specs.Optional.{optional}
use Rattle.constraints.specs.Walks.{bad_over, ends_over}
use Rattle.constraints.specs.Choosing.{one_row, pick, NoBetter, WalkFrom, alone, considered_alone, Alone, BestOf}
use Rattle.constraints.proofs.Rows.{Order, less, equal, more, order, both_true}
use Rattle.constraints.proofs.Choices.{pick-new, pick-still, pick-from}

-- Upward from a class: `next` is the class that is looked at, if there is one

module _ (sup : ℕ → Option ℕ) (falls : Falls sup) (c d : ℕ) where
  abbrev From : P.Option ℕ → Type 0
  From P.None = ⊥
  From (P.Some x) = Below sup x d

  pub record Climbing (next : P.Option ℕ) : Type 0 where
    pub into : Below sup c d → From next
    pub back : From next → Below sup c d

  pub climbing-here : (next : P.Option ℕ) (x : ℕ) → next ≡ P.Some x → x ≡ d → Climbing next → true ≡ below sup c d
  climbing-here next x e q k = sym (true_below sup falls c d (k.back (rw e (same q))))

  pub climbing-on : (next : P.Option ℕ) (x : ℕ) (r : P.Option ℕ) → next ≡ P.Some x → (x ≡ d → ⊥) → r ≡ optional (sup x) → Climbing next → Climbing r
  climbing-on next x r e n s k = rw s (record { into = λ b. into (rw e at (k.into b)); back = λ b. k.back (rw e (back (sup x) refl b)) })
    where
      into : Below sup x d → From (optional (sup x))
      into (same q) = absurd (n q)
      into (up f b) = rw f b

      back : (o : Option ℕ) → sup x ≡ o → From (optional o) → Below sup x d
      back none f b = absurd b
      back (some y) f b = up f b

  pub climbing-end : (next : P.Option ℕ) → next ≡ P.None → Climbing next → false ≡ below sup c d
  climbing-end next h k = go (below sup c d) refl
    where
      go : (t : Bool) → below sup c d ≡ t → false ≡ t
      go true e = absurd (rw h at (k.into (below_true sup falls c d e)))
      go false e = refl

-- Bad for a class, by the steps of the test

module _ (sup : ℕ → Option ℕ) (falls : Falls sup) (c d : ℕ) where
  pub self-good : (only : Bool) → c ≡ d → bad_over only sup c d ≡ false
  unfolding bad_over
  self-good true e = ap not (eq-eqb c d e)
  self-good false e = ap not (true_below sup falls c d (same e))

  pub tied-bad : (only : Bool) → only ≡ true → (c ≡ d → ⊥) → bad_over only sup c d ≡ true
  unfolding bad_over
  tied-bad only h n = rw (h, bad_over) (ap not (ne_eqb c d n))

  pub led-bad : (only : Bool) (r : Bool) → only ≡ false → r ≡ below sup c d → bad_over only sup c d ≡ not r
  unfolding bad_over
  led-bad only r h e = rw (h, bad_over) (ap not (sym e))

-- Alone, by the steps of the test

module _ (froms tos classes : List ℕ) (cached : ℕ) (only : Bool) (sup : ℕ → Option ℕ) (e a : ℕ) (is : a ≡ get_or froms e 0) where
  pub alone-from : cached ≤ a → alone froms tos classes cached only sup e ≡ false
  unfolding alone
  alone-from h = rw (le-ltb (get_or froms e 0) cached (omega arith), alone) refl

  module _ (b : ℕ) (to : b ≡ get_or tos e 0) (h : a < cached) where
    pub alone-to : cached ≤ b → alone froms tos classes cached only sup e ≡ false
    unfolding alone
    alone-to k = rw (lt-ltb (get_or froms e 0) cached (omega arith), le-ltb (get_or tos e 0) cached (omega arith), alone) refl

    pub alone-both : b < cached → (x y : ℕ) → x ≡ get_or classes a 0 → y ≡ get_or classes b 0 → alone froms tos classes cached only sup e ≡ bad_over only sup x y
    unfolding alone
    alone-both k x y p q =
        rw (lt-ltb (get_or froms e 0) cached (omega arith), lt-ltb (get_or tos e 0) cached (omega arith), alone)
        (λ i. bad_over only sup ((ap (λ (z : ℕ). get_or classes z 0) (sym is) ∙ sym p) i) ((ap (λ (z : ℕ). get_or classes z 0) (sym to) ∙ sym q) i))

-- One row kept

module _ (froms tos labels classes : List ℕ) (cached : ℕ) (only : Bool) (sup : ℕ → Option ℕ) (e : ℕ) where
  abbrev after : Option (List ℕ) → Option (List ℕ)
  after = considered_alone froms tos labels classes cached only sup e

  pub alone-not : (r : Bool) (o : Option (List ℕ)) → r ≡ alone froms tos classes cached only sup e → r ≡ false → o ≡ considered_alone froms tos labels classes cached only sup e o
  unfolding considered_alone
  alone-not r o t f = rw (sym t ∙ f, considered_alone) refl

  taken : (o : Option (List ℕ)) → alone froms tos classes cached only sup e ≡ true → considered_alone froms tos labels classes cached only sup e o ≡ pick o (get_or labels e 0 ∷ [])
  unfolding considered_alone
  taken o t = rw (t, considered_alone) refl

  module _ (r : Bool) (test : r ≡ alone froms tos classes cached only sup e) (yes : r ≡ true) (x : ℕ) (label : x ≡ get_or labels e 0) where
    is : alone froms tos classes cached only sup e ≡ true
    is = sym test ∙ yes

    -- it doesn't go before the row that is kept
    pub alone-later : (y : ℕ) → row_before x y ≡ false → one_row (P.Some y) ≡ considered_alone froms tos labels classes cached only sup e (one_row (P.Some y))
    unfolding pick precedes
    alone-later y l = sym (taken (some (y ∷ [])) is ∙ kept)
      where
        after-it : row_before (get_or labels e 0) y ≡ false
        after-it = sym (ap (λ (z : ℕ). row_before z y) label) ∙ l

        late : precedes row_before (get_or labels e 0 ∷ []) (y ∷ []) ≡ false
        late = rw (after-it, precedes) (go (row_before y (get_or labels e 0)))
          where
            go : (t : Bool) → ◌≡◌ {A = Bool} (elim t as (λ _. Bool) [ true ↦ false | false ↦ precedes row_before [] [] ]) false
            go true = refl
            go false = refl

        kept : pick (some (y ∷ [])) (get_or labels e 0 ∷ []) ≡ some (y ∷ [])
        kept = rw (late, pick) refl

    -- it goes before it, or there is none
    pub alone-sooner : (o : P.Option ℕ) → P.IfSome o (λ y. row_before x y ≡ true) → one_row (P.Some x) ≡ considered_alone froms tos labels classes cached only sup e (one_row o)
    unfolding pick precedes
    alone-sooner o l = ap (λ (z : ℕ). some (z ∷ [])) label ∙ sym (taken (one_row o) is ∙ go o l)
      where
        go : (o : P.Option ℕ) → P.IfSome o (λ y. row_before x y ≡ true) → pick (one_row o) (get_or labels e 0 ∷ []) ≡ some (get_or labels e 0 ∷ [])
        go P.None h = refl
        go (P.Some y) h = rw (sym (ap (λ (z : ℕ). row_before z y) label) ∙ h, pick, precedes) refl

-- Link after link

module _ (froms tos labels classes : List ℕ) (cached : ℕ) (only : Bool) (sup : ℕ → Option ℕ) (count : ℕ) (old : Option (List ℕ)) where
  pub alone-next : (e : ℕ) (mid new : Option (List ℕ)) → e < count → Alone froms tos labels classes cached only sup count e old mid
      → new ≡ considered_alone froms tos labels classes cached only sup e mid → Alone froms tos labels classes cached only sup count (e + 1) old new
  unfolding considered_alone
  alone-next e mid new h k q = go (alone froms tos classes cached only sup e) refl
    where
      go : (t : Bool) → alone froms tos classes cached only sup e ≡ t → Alone froms tos labels classes cached only sup count (e + 1) old new
      go false t =
          let z : new ≡ mid = q ∙ rw (t, considered_alone) refl in
          rw z (record { sound = k.sound; all = λ d l b. earlier d l b (order d e); still = k.still })
        where
          earlier : (d : ℕ) → d < e + 1 → alone froms tos classes cached only sup d ≡ true → Order d e → NoBetter mid (get_or labels d 0 ∷ [])
          earlier d l b (less o) = k.all d o b
          earlier d l b (equal o) = absurd (false≢true (sym t ∙ (ap (alone froms tos classes cached only sup) (sym o) ∙ b)))
          earlier d l b (more o) = absurd (omega arith)
      go true t =
          let z : new ≡ pick mid (get_or labels e 0 ∷ []) = q ∙ rw (t, considered_alone) refl in
          rw z (record {
            sound = λ ns f. from ns (pick-from mid (get_or labels e 0 ∷ []) ns f);
            all = λ d l b. later d l b (order d e);
            still = λ ms b. pick-still mid (get_or labels e 0 ∷ []) ms (k.still ms b);
          })
        where
          from : (ns : List ℕ) → (mid ≡ some ns) ⊎ (get_or labels e 0 ∷ [] ≡ ns)
              → (old ≡ some ns) ⊎ ((d : ℕ) × (d < count) × (alone froms tos classes cached only sup d ≡ true) × (get_or labels d 0 ∷ [] ≡ ns))
          from ns (inl f) = k.sound ns f
          from ns (inr f) = inr (e, h, t, f)

          later : (d : ℕ) → d < e + 1 → alone froms tos classes cached only sup d ≡ true → Order d e → NoBetter (pick mid (get_or labels e 0 ∷ [])) (get_or labels d 0 ∷ [])
          later d l b (less o) = pick-still mid (get_or labels e 0 ∷ []) (get_or labels d 0 ∷ []) (k.all d o b)
          later d l b (equal o) = rw o (pick-new mid (get_or labels e 0 ∷ []))
          later d l b (more o) = absurd (omega arith)

-- The best of all

module _ (froms tos labels : List ℕ) (classes : List ℕ) (cached : ℕ) (sup : ℕ → Option ℕ) (falls : Falls sup) where
  -- a row that breaks agreement by itself is a walk of one row, and such a walk is one
  module _ (count : ℕ) (only : Bool) where
    alone-walk : (d : ℕ) → d < count → alone froms tos classes cached only sup d ≡ true
        → (get_or froms d 0 < cached) × WalkFrom froms tos labels count classes cached only sup (get_or froms d 0) (get_or labels d 0 ∷ [])
    unfolding alone ends_over
    alone-walk d h t =
        let r = both_true (ltb (get_or froms d 0) cached) (ltb (get_or tos d 0) cached && bad_over only sup (get_or classes (get_or froms d 0) 0) (get_or classes (get_or tos d 0) 0)) t in
        (ltb-true (get_or froms d 0) cached r.0, (d, h, refl, refl, r.1))

    walk-alone : (q r : ℕ) → q < cached → (w : WalkFrom froms tos labels count classes cached only sup q (r ∷ [])) → alone froms tos classes cached only sup w.0 ≡ true
    unfolding alone ends_over
    walk-alone q r h w =
        rw (w.2, lt-ltb q cached h, alone) w.4

    -- no class is bad for itself, so no walk has no row
    some-row : (q : ℕ) → WalkFrom froms tos labels count classes cached only sup q [] → ⊥
    unfolding ends_over
    some-row q w = false≢true (sym (self-good sup falls (get_or classes q 0) (get_or classes q 0) only refl) ∙ (both_true (ltb q cached) (bad_over only sup (get_or classes q 0) (get_or classes q 0)) w).1)

    -- where one row is kept, none is better than the first
    one-best : (x : ℕ) → ((d : ℕ) → d < count → alone froms tos classes cached only sup d ≡ true → NoBetter (some (x ∷ [])) (get_or labels d 0 ∷ []))
        → (q : ℕ) (ms : List ℕ) → q < cached → WalkFrom froms tos labels count classes cached only sup q ms → NoBetter (some (x ∷ [])) ms
    one-best x h q [] l w = absurd (some-row q w)
    one-best x h q (r ∷ []) l w = subst (λ (z : ℕ). NoBetter (some (x ∷ [])) (z ∷ [])) w.3 (h w.0 w.1 (walk-alone q r l w))
    one-best x h q (r ∷ s ∷ ms) l w = (omega arith, λ e. absurd (omega arith))

  module _ (turned count : ℕ) (old mid new : Option (List ℕ)) (none_yet : old ≡ none) where
    pub alone-best : Alone froms tos labels classes cached true sup turned turned old mid → Alone froms tos labels classes cached false sup count count mid new
        → (x : ℕ) → new ≡ some (x ∷ []) → BestOf froms tos labels turned count classes cached sup new
    alone-best a b x e = record { sound = λ ns h. first ns (b.sound ns h); ties = λ q ms l w. rw e (one-best turned true x tied q ms l w); all = λ q ms l w. rw e (one-best count false x led q ms l w) }
      where
        tied : (d : ℕ) → d < turned → alone froms tos classes cached true sup d ≡ true → NoBetter (some (x ∷ [])) (get_or labels d 0 ∷ [])
        tied d h t = subst (λ (o : Option (List ℕ)). NoBetter o (get_or labels d 0 ∷ [])) e (b.still (get_or labels d 0 ∷ []) (a.all d h t))

        led : (d : ℕ) → d < count → alone froms tos classes cached false sup d ≡ true → NoBetter (some (x ∷ [])) (get_or labels d 0 ∷ [])
        led d h t = subst (λ (o : Option (List ℕ)). NoBetter o (get_or labels d 0 ∷ [])) e (b.all d h t)

        Found : List ℕ → Type 0
        Found ns = ((q : ℕ) × (q < cached) × WalkFrom froms tos labels turned classes cached true sup q ns) ⊎ ((q : ℕ) × (q < cached) × WalkFrom froms tos labels count classes cached false sup q ns)

        second : (ns : List ℕ) → (old ≡ some ns) ⊎ ((d : ℕ) × (d < turned) × (alone froms tos classes cached true sup d ≡ true) × (get_or labels d 0 ∷ [] ≡ ns)) → Found ns
        second ns (inl h) = absurd (none-ne-some ns (sym none_yet ∙ h))
        second ns (inr r) = let w = alone-walk turned true r.0 r.1 r.2 in inl (get_or froms r.0 0, w.0, subst (λ (z : List ℕ). WalkFrom froms tos labels turned classes cached true sup (get_or froms r.0 0) z) r.3 w.1)

        first : (ns : List ℕ) → (mid ≡ some ns) ⊎ ((d : ℕ) × (d < count) × (alone froms tos classes cached false sup d ≡ true) × (get_or labels d 0 ∷ [] ≡ ns)) → Found ns
        first ns (inl h) = second ns (a.sound ns h)
        first ns (inr r) = let w = alone-walk count false r.0 r.1 r.2 in inr (get_or froms r.0 0, w.0, subst (λ (z : List ℕ). WalkFrom froms tos labels count classes cached false sup (get_or froms r.0 0) z) r.3 w.1)

-- the first links of some
