-- Groups of tied requests: two requests that ties name share a number exactly if a chain of ties joins them, the number is the lowest of their group's ties,
-- and a request that no tie names has none. So what ties join can be read from one number a row.
use Rattle.std.specs.Prelude.{◌≡◌, Bool, ◌||◌, ◌⊎◌, ℕ, zero, suc, ◌≤◌, length}
use Rattle.std.proofs.Math.Path.{refl}
use Rattle.std.proofs.Common.{sym, ap, ◌∙◌, subst, true≢false, inl, inr, arith}
use Rattle.std.proofs.Math.Bool.{true, false}
use Rattle.std.proofs.Math.Option.{Option, none, some, some-injective, none-ne-some}
use mathlib.Core.List.Memᴰ
use mathlib.Core.List.{List, [], ◌∷◌, map, Memᴰ}
use Rattle.std.proofs.Math.ListN.{get_elem?}
use Rattle.std.proofs.Math.Dec.{ltb}
use borrow.Author.Tests.{ltb-true, ltb-false}
use Rattle.definition.specs.Chains.{Chain, Edge, stay, hop, has, leads}
use Rattle.definition.specs.Requests.{Request, at, same_request}
use Rattle.definition.specs.Constraints.{Tie, tie_edges}
use Rattle.definition.specs.Instructions.{pick}
use Rattle.laws.specs.Chains.{requests, leads-chain, chain-leads, chain-join, chain-turn, turned}
use Rattle.definition.specs.Groups.{numbers_of_ties, lesser, lowest, group_of, cell_of, groups_of}

-- Ties are walked either way

ties-turn : (ts : List Tie) (e : Edge Request) → Memᴰ e (tie_edges ts) → Memᴰ (turned e) (tie_edges ts)
unfolding tie_edges
ties-turn [] e m = absurd (Memᴰ.not-nil m)
ties-turn (t ∷ ts) e (Memᴰ.head q) = Memᴰ.tail (Memᴰ.head (ap turned q))
ties-turn (t ∷ ts) e (Memᴰ.tail (Memᴰ.head q)) = Memᴰ.head (ap turned q)
ties-turn (t ∷ ts) e (Memᴰ.tail (Memᴰ.tail m)) = Memᴰ.tail (Memᴰ.tail (ties-turn ts e m))

pub tied-back : (ts : List Tie) {a b : Request} → Chain (tie_edges ts) a b → Chain (tie_edges ts) b a
tied-back ts h = chain-turn (ties-turn ts) h

-- The lowest of a list

pub lowest-in : (ns : List ℕ) (g : ℕ) → lowest ns ≡ some g → Memᴰ g ns
unfolding lowest
lowest-in [] g e = absurd (none-ne-some g e)
lowest-in (n ∷ ns) g e = go (lowest ns) refl (λ m q. lowest-in ns m q) (some-injective _ g e)
  where
    go : (o : Option ℕ) → lowest ns ≡ o → ((m : ℕ) → lowest ns ≡ some m → Memᴰ m ns) → lesser n o ≡ g → Memᴰ g (n ∷ ns)
    go none q f h = let z : n ≡ g = unfold lesser in h in Memᴰ.head (sym z)
    go (some m) q f h = by (ltb m n) (unfold lesser in h)
      where
        by : (t : Bool) → pick t m n ≡ g → Memᴰ g (n ∷ ns)
        by true h = let z : m ≡ g = unfold pick in h in Memᴰ.tail (subst (λ (x : ℕ). Memᴰ x ns) z (f m q))
        by false h = let z : n ≡ g = unfold pick in h in Memᴰ.head (sym z)

pub lowest-least : (ns : List ℕ) (g : ℕ) → lowest ns ≡ some g → (n : ℕ) → Memᴰ n ns → g ≤ n
unfolding lowest
lowest-least [] g e n m = absurd (Memᴰ.not-nil m)
lowest-least (k ∷ ns) g e n m = go (lowest ns) refl (λ j q z. lowest-least ns j q n z) (some-injective _ g e) m
  where
    go : (o : Option ℕ) → lowest ns ≡ o → ((j : ℕ) → lowest ns ≡ some j → Memᴰ n ns → j ≤ n) → lesser k o ≡ g → Memᴰ n (k ∷ ns) → g ≤ n
    go none q f h (Memᴰ.head z) = let h' : k ≡ g = unfold lesser in h in omega (arith, h', z)
    go none q f h (Memᴰ.tail z) = absurd (none-empty ns q n z)
      where
        none-empty : (ns : List ℕ) → lowest ns ≡ none → (n : ℕ) → Memᴰ n ns → ⊥
        none-empty [] q n z = Memᴰ.not-nil z
        none-empty (x ∷ xs) q n z = none-ne-some _ (sym q)
    go (some j) q f h z = by (ltb j k) refl (unfold lesser in h) z
      where
        by : (t : Bool) → ltb j k ≡ t → pick t j k ≡ g → Memᴰ n (k ∷ ns) → g ≤ n
        by true l h (Memᴰ.head z) = let h' : j ≡ g = unfold pick in h in omega (arith, ltb-true j k l, h', z)
        by true l h (Memᴰ.tail z) = let h' : j ≡ g = unfold pick in h in omega (arith, f j q z, h')
        by false l h (Memᴰ.head z) = let h' : k ≡ g = unfold pick in h in omega (arith, h', z)
        by false l h (Memᴰ.tail z) = let h' : k ≡ g = unfold pick in h in omega (arith, f j q z, h', ltb-false j k l)

-- Row i: a tie with its number
pub record RowAt (ts : List Tie) (ns : List ℕ) (t : Tie) (n : ℕ) : Type 0 where
  pub row : ℕ
  pub tie : get_elem? ts row ≡ some t
  pub number : get_elem? ns row ≡ some n

abbrev pub one_of : Tie → Request
one_of t = at t.one t.name

abbrev pub two_of : Tie → Request
two_of t = at t.two t.name

-- what `numbers_of_ties` lists: the numbers of rows whose one end is in R
pub listed-row : (R : List Request) (ts : List Tie) (ns : List ℕ) (n : ℕ) → Memᴰ n (numbers_of_ties R ts ns) → (t : Tie) × RowAt ts ns t n × (has same_request (one_of t) R ≡ true)
unfolding numbers_of_ties
listed-row R [] ns n m = absurd (Memᴰ.not-nil m)
listed-row R (t ∷ ts) [] n m = absurd (Memᴰ.not-nil m)
listed-row R (t ∷ ts) (k ∷ ns) n m = go (has same_request (one_of t) R) refl (λ z. listed-row R ts ns n z) m
  where
    later : (t : Tie) × RowAt ts ns t n × (has same_request (one_of t) R ≡ true) → (u : Tie) × RowAt (t ∷ ts) (k ∷ ns) u n × (has same_request (one_of u) R ≡ true)
    later (u, r, h) = (u, record { row = suc r.row; tie = r.tie; number = r.number }, h)

    go : (b : Bool) → has same_request (one_of t) R ≡ b → (Memᴰ n (numbers_of_ties R ts ns) → (u : Tie) × RowAt ts ns u n × (has same_request (one_of u) R ≡ true))
        → Memᴰ n (elim b as (λ _. List ℕ) [ true ↦ k ∷ numbers_of_ties R ts ns | false ↦ numbers_of_ties R ts ns ])
        → (u : Tie) × RowAt (t ∷ ts) (k ∷ ns) u n × (has same_request (one_of u) R ≡ true)
    go true e f (Memᴰ.head z) = (t, record { row = 0; tie = refl; number = λ i. some (sym z i) }, e)
    go true e f (Memᴰ.tail z) = later (f z)
    go false e f z = later (f z)

pub row_listed : (R : List Request) (ts : List Tie) (ns : List ℕ) (t : Tie) (n : ℕ) (i : ℕ) → get_elem? ts i ≡ some t → get_elem? ns i ≡ some n → has same_request (one_of t) R ≡ true
    → Memᴰ n (numbers_of_ties R ts ns)
unfolding numbers_of_ties
row_listed R [] ns t n i a b h = absurd (none-ne-some t a)
row_listed R (u ∷ ts) [] t n i a b h = absurd (none-ne-some n b)
row_listed R (u ∷ ts) (k ∷ ns) t n zero a b h =
    rw (subst (λ (z : Tie). has same_request (one_of z) R ≡ true) (sym (some-injective u t a)) h, numbers_of_ties) (Memᴰ.head (sym (some-injective k n b)))
row_listed R (u ∷ ts) (k ∷ ns) t n (suc i) a b h = go (has same_request (one_of u) R) (row_listed R ts ns t n i a b h)
  where
    go : (b' : Bool) → Memᴰ n (numbers_of_ties R ts ns) → Memᴰ n (elim b' as (λ _. List ℕ) [ true ↦ k ∷ numbers_of_ties R ts ns | false ↦ numbers_of_ties R ts ns ])
    go true m = Memᴰ.tail m
    go false m = m

-- The group's number in words: that of a tie which a chain of ties joins to the request, and the lowest of those
pub record GroupNumber (ts : List Tie) (ns : List ℕ) (a : Request) (g : ℕ) : Type 0 where
  pub tie : Tie
  pub row : RowAt ts ns tie g
  pub chain : Chain (tie_edges ts) a (one_of tie)
  pub least : (u : Tie) (n i : ℕ) → get_elem? ts i ≡ some u → get_elem? ns i ≡ some n → Chain (tie_edges ts) a (one_of u) → g ≤ n

pub group-lowest : (ts : List Tie) (ns : List ℕ) (a : Request) (g : ℕ) → group_of ts ns a ≡ some g → GroupNumber ts ns a g
unfolding group_of leads
group-lowest ts ns a g e =
    let m = listed-row _ ts ns g (lowest-in _ g e) in
    record {
      tie = m.0;
      row = m.1;
      chain = leads-chain requests (tie_edges ts) a (one_of m.0) m.2;
      least = λ u n i x y h. lowest-least _ g e n (row_listed _ ts ns u n i x y (chain-leads requests (tie_edges ts) a (one_of u) h));
    }

-- Tied requests have one number

same_test : (x y : Bool) → (x ≡ true → y ≡ true) → (y ≡ true → x ≡ true) → x ≡ y
same_test true y f g = sym (f refl)
same_test false true f g = g refl
same_test false false f g = refl

same-listed : (R S : List Request) (ts : List Tie) (ns : List ℕ) → ((x : Request) → has same_request x R ≡ has same_request x S) → numbers_of_ties R ts ns ≡ numbers_of_ties S ts ns
unfolding numbers_of_ties
same-listed R S [] ns h = refl
same-listed R S (t ∷ ts) [] h = refl
same-listed R S (t ∷ ts) (n ∷ ns) h = λ i. elim (h (one_of t) i) as (λ _. List ℕ) [ true ↦ n ∷ same-listed R S ts ns h i | false ↦ same-listed R S ts ns h i ]

pub chain-shares : (ts : List Tie) (ns : List ℕ) (a b : Request) → Chain (tie_edges ts) a b → group_of ts ns a ≡ group_of ts ns b
unfolding group_of leads
chain-shares ts ns a b h = ap lowest (same-listed _ _ ts ns (λ x. same_test (leads same_request (tie_edges ts) a x) (leads same_request (tie_edges ts) b x)
    (λ e. chain-leads requests (tie_edges ts) b x (chain-join (tied-back ts h) (leads-chain requests (tie_edges ts) a x e)))
    (λ e. chain-leads requests (tie_edges ts) a x (chain-join h (leads-chain requests (tie_edges ts) b x e)))))

-- Requests that share a number are tied, where no number stands twice

pub shares-chain : (ts : List Tie) (ns : List ℕ) → ((i j n : ℕ) → get_elem? ns i ≡ some n → get_elem? ns j ≡ some n → i ≡ j)
    → (a b : Request) (g : ℕ) → group_of ts ns a ≡ some g → group_of ts ns b ≡ some g → Chain (tie_edges ts) a b
shares-chain ts ns once a b g e f =
    let x = group-lowest ts ns a g e in
    let y = group-lowest ts ns b g f in
    let i : x.row.row ≡ y.row.row = once _ _ g x.row.number y.row.number in
    let t : x.tie ≡ y.tie = some-injective _ _ (sym x.row.tie ∙ (ap (get_elem? ts) i ∙ y.row.tie)) in
    chain-join (subst (λ (z : Tie). Chain (tie_edges ts) a (one_of z)) t x.chain) (tied-back ts y.chain)

-- It is a group's number by these words alone

lowest-some : (ns : List ℕ) (n : ℕ) → Memᴰ n ns → (g : ℕ) × (lowest ns ≡ some g)
unfolding lowest
lowest-some [] n m = absurd (Memᴰ.not-nil m)
lowest-some (k ∷ ns) n m = (lesser k (lowest ns), refl)

pub joined-some : (ts : List Tie) (ns : List ℕ) (a : Request) (t : Tie) (n i : ℕ) → get_elem? ts i ≡ some t → get_elem? ns i ≡ some n → Chain (tie_edges ts) a (one_of t)
    → (g : ℕ) × (group_of ts ns a ≡ some g)
unfolding group_of leads
joined-some ts ns a t n i x y h = lowest-some _ n (row_listed _ ts ns t n i x y (chain-leads requests (tie_edges ts) a (one_of t) h))

pub lowest-group : (ts : List Tie) (ns : List ℕ) (a : Request) (g : ℕ) → GroupNumber ts ns a g → group_of ts ns a ≡ some g
lowest-group ts ns a g x =
    let f = joined-some ts ns a x.tie g x.row.row x.row.tie x.row.number x.chain in
    let y = group-lowest ts ns a f.0 f.1 in
    let e : f.0 ≡ g = omega (arith, y.least x.tie g x.row.row x.row.tie x.row.number x.chain, x.least y.tie f.0 y.row.row y.row.tie y.row.number y.chain) in
    f.1 ∙ ap some e

-- A request is named by a tie if it is one of its ends

abbrev pub Ends : Tie → Request → Type 0
Ends t a = (one_of t ≡ a) ⊎ (two_of t ≡ a)

abbrev pub Named : List Tie → Request → Type 0
Named ts a = (t : Tie) × Memᴰ t ts × Ends t a

named-later : (u : Tie) (ts : List Tie) (a : Request) → Named ts a → Named (u ∷ ts) a
named-later u ts a h = (h.0, Memᴰ.tail h.1, h.2)

-- the tie's edge, from its two to its one
back-edge : (ts : List Tie) (t : Tie) → Memᴰ t ts → Memᴰ (record { from = two_of t; to = one_of t }) (tie_edges ts)
unfolding tie_edges
back-edge [] t never = elim never [ ]
back-edge (u ∷ ts) t (Memᴰ.head q) = Memᴰ.tail (Memᴰ.head (ap (λ (z : Tie). record { from = two_of z; to = one_of z }) q))
back-edge (u ∷ ts) t (Memᴰ.tail m) = Memᴰ.tail (Memᴰ.tail (back-edge ts t m))

-- a chain of ties joins each end of a tie with its one
pub end-chain : (ts : List Tie) (t : Tie) (a : Request) → Memᴰ t ts → Ends t a → Chain (tie_edges ts) a (one_of t)
end-chain ts t a m (inl e) = stay (sym e)
end-chain ts t a m (inr e) = subst (λ (z : Request). Chain (tie_edges ts) z (one_of t)) e (hop (stay refl) (back-edge ts t m))

-- ties lead to requests that they name alone
edge-named : (ts : List Tie) (e : Edge Request) → Memᴰ e (tie_edges ts) → Named ts e.to
unfolding tie_edges
edge-named [] e m = absurd (Memᴰ.not-nil m)
edge-named (t ∷ ts) e (Memᴰ.head q) = (t, Memᴰ.head refl, inr (ap (λ (z : Edge Request). z.to) (sym q)))
edge-named (t ∷ ts) e (Memᴰ.tail (Memᴰ.head q)) = (t, Memᴰ.head refl, inl (ap (λ (z : Edge Request). z.to) (sym q)))
edge-named (t ∷ ts) e (Memᴰ.tail (Memᴰ.tail m)) = named-later t ts e.to (edge-named ts e m)

row_of : {A : Type 0} (xs : List A) (x : A) → Memᴰ x xs → (i : ℕ) × (get_elem? xs i ≡ some x)
row_of {A = A} [] x never = elim never [ ]
row_of (y ∷ xs) x (Memᴰ.head q) = (0, ap some (sym q))
row_of (y ∷ xs) x (Memᴰ.tail m) = let r = row_of xs x m in (suc r.0, r.1)

of_row : {A : Type 0} (xs : List A) (x : A) (i : ℕ) → get_elem? xs i ≡ some x → Memᴰ x xs
of_row [] x i e = absurd (none-ne-some x e)
of_row (y ∷ xs) x zero e = Memᴰ.head (sym (some-injective y x e))
of_row (y ∷ xs) x (suc i) e = Memᴰ.tail (of_row xs x i e)

beside : {A B : Type 0} (xs : List A) (ys : List B) (x : A) (i : ℕ) → length ys ≡ length xs → get_elem? xs i ≡ some x → (y : B) × (get_elem? ys i ≡ some y)
beside [] ys x i l e = absurd (none-ne-some x e)
beside (z ∷ xs) [] x i l e = absurd (omega arith)
beside (z ∷ xs) (y ∷ ys) x zero l e = (y, refl)
beside (z ∷ xs) (y ∷ ys) x (suc i) l e = beside xs ys x i (omega (arith, l)) e

-- a request that a tie names has a number, where each tie has one
pub named-grouped : (ts : List Tie) (ns : List ℕ) (a : Request) → length ns ≡ length ts → Named ts a → (g : ℕ) × (group_of ts ns a ≡ some g)
named-grouped ts ns a l (t, m, e) =
    let r = row_of ts t m in
    let n = beside ts ns t r.0 l r.1 in
    joined-some ts ns a t n.0 r.0 r.1 n.1 (end-chain ts t a m e)

-- another is tied to itself alone, and has none
pub unnamed-alone : (ts : List Tie) (a b : Request) → (Named ts a → ⊥) → Chain (tie_edges ts) a b → a ≡ b
unnamed-alone ts a b h c = by (tied-back ts c)
  where
    by : Chain (tie_edges ts) b a → a ≡ b
    by (stay e) = sym e
    by (hop c m) = absurd (h (edge-named ts _ m))

pub unnamed-none : (ts : List Tie) (ns : List ℕ) (a : Request) → (Named ts a → ⊥) → group_of ts ns a ≡ none
unnamed-none ts ns a h = go (group_of ts ns a) refl
  where
    go : (o : Option ℕ) → group_of ts ns a ≡ o → o ≡ none
    go none e = refl
    go (some g) e = let x = group-lowest ts ns a g e in absurd (h (x.tie, of_row ts x.tie x.row.row x.row.tie, inl (sym (unnamed-alone ts a (one_of x.tie) h x.chain))))

-- Reading: the cells gs beside the ties give a request the number in the first row that names it

unfoldable pub ends_in : Tie → Request → Bool
ends_in t a = same_request (one_of t) a || same_request (two_of t) a

unfoldable pub group_in : List Tie → List ℕ → Request → Option ℕ
group_in [] gs a = none
group_in (t ∷ ts) [] a = none
group_in (t ∷ ts) (g ∷ gs) a = elim (ends_in t a) [ true ↦ some g | false ↦ group_in ts gs a ]

pub ends-true : (t : Tie) (a : Request) → ends_in t a ≡ true → Ends t a
unfolding ends_in
ends-true t a h = go (same_request (one_of t) a) refl h
  where
    go : (b : Bool) → same_request (one_of t) a ≡ b → (b || same_request (two_of t) a) ≡ true → Ends t a
    go true e h = inl (requests.same-eq (one_of t) a e)
    go false e h = inr (requests.same-eq (two_of t) a h)

pub true-ends : (t : Tie) (a : Request) → Ends t a → ends_in t a ≡ true
unfolding ends_in
true-ends t a (inl e) = rw (ap (λ (z : Request). same_request (one_of t) z) (sym e) ∙ requests.same_refl (one_of t)) refl
true-ends t a (inr e) = go (same_request (one_of t) a)
  where
    go : (b : Bool) → (b || same_request (two_of t) a) ≡ true
    go true = refl
    go false = ap (λ (z : Request). same_request (two_of t) z) (sym e) ∙ requests.same_refl (two_of t)

-- what is read from the groups of ties is each request's group
pub groups-read : (ts : List Tie) (ns : List ℕ) (a : Request) → length ns ≡ length ts → group_in ts (groups_of ts ns) a ≡ group_of ts ns a
unfolding groups_of group_in cell_of
groups-read ts ns a l = elim (read ts (λ t m. m)) [ inl e ↦ e | inr (e, h) ↦ e ∙ sym (unnamed-none ts ns a h) ]
  where
    cell : Tie → ℕ
    cell t = cell_of (group_of ts ns (one_of t))

    at_row : (t : Tie) → Memᴰ t ts → Ends t a → some (cell t) ≡ group_of ts ns a
    at_row t m e =
        let s : group_of ts ns a ≡ group_of ts ns (one_of t) = chain-shares ts ns a (one_of t) (end-chain ts t a m e) in
        let g = named-grouped ts ns a l (t, m, e) in
        ap (λ (o : Option ℕ). some (cell_of o)) (sym s ∙ g.1) ∙ sym g.1

    read : (us : List Tie) → ((t : Tie) → Memᴰ t us → Memᴰ t ts)
        → (group_in us (map cell us) a ≡ group_of ts ns a) ⊎ ((group_in us (map cell us) a ≡ none) × (Named us a → ⊥))
    read [] f = inr (refl, λ h. Memᴰ.not-nil h.1)
    read (u ∷ us) f = go (ends_in u a) refl (read us (λ t m. f t (Memᴰ.tail m)))
      where
        Read : Option ℕ → List Tie → Type 0
        Read o us = (o ≡ group_of ts ns a) ⊎ ((o ≡ none) × (Named us a → ⊥))

        fails : ends_in u a ≡ false → (Named us a → ⊥) → Named (u ∷ us) a → ⊥
        fails e h (t, Memᴰ.head q, x) = true≢false (sym (true-ends u a (subst (λ (z : Tie). Ends z a) q x)) ∙ e)
        fails e h (t, Memᴰ.tail m, x) = h (t, m, x)

        go : (b : Bool) → ends_in u a ≡ b → Read (group_in us (map cell us) a) us → Read (elim b as (λ _. Option ℕ) [ true ↦ some (cell u) | false ↦ group_in us (map cell us) a ]) (u ∷ us)
        go true e r = inl (at_row u (f u (Memᴰ.head refl)) (ends-true u a e))
        go false e (inl r) = inl r
        go false e (inr (r, h)) = inr (r, fails e h)

-- Writing: a number beside each tie, that of its one end's group by `GroupNumber`'s words, is what the definition makes

pub groups-are : (ts : List Tie) (ns gs : List ℕ) → length gs ≡ length ts
    → ((i : ℕ) (t : Tie) (g : ℕ) → get_elem? ts i ≡ some t → get_elem? gs i ≡ some g → GroupNumber ts ns (one_of t) g) → gs ≡ groups_of ts ns
unfolding groups_of cell_of
groups-are ts ns gs l h = each ts gs l (λ i t g x y. ap cell_of (lowest-group ts ns (one_of t) g (h i t g x y)))
  where
    each : (us : List Tie) (gs : List ℕ) → length gs ≡ length us
        → ((i : ℕ) (t : Tie) (g : ℕ) → get_elem? us i ≡ some t → get_elem? gs i ≡ some g → cell_of (group_of ts ns (one_of t)) ≡ g)
        → gs ≡ map (λ t. cell_of (group_of ts ns (one_of t))) us
    each [] [] l f = refl
    each [] (g ∷ gs) l f = absurd (omega arith)
    each (u ∷ us) [] l f = absurd (omega arith)
    each (u ∷ us) (g ∷ gs) l f = λ i. sym (f 0 u g refl refl) i ∷ each us gs (omega (arith, l)) (λ j t k x y. f (suc j) t k x y) i

-- the cell of a row, by its words
pub group-at : (ts : List Tie) (ns : List ℕ) → length ns ≡ length ts → (i : ℕ) (t : Tie) → get_elem? ts i ≡ some t
    → (g : ℕ) × (get_elem? (groups_of ts ns) i ≡ some g) × GroupNumber ts ns (one_of t) g
unfolding groups_of cell_of
group-at ts ns l i t e =
    let f = named-grouped ts ns (one_of t) l (t, of_row ts t i e, inl refl) in (f.0, each ts i e ∙ ap (λ (o : Option ℕ). some (cell_of o)) f.1, group-lowest ts ns (one_of t) f.0 f.1)
  where
    each : (us : List Tie) (i : ℕ) → get_elem? us i ≡ some t → get_elem? (map (λ t. cell_of (group_of ts ns (one_of t))) us) i ≡ some (cell_of (group_of ts ns (one_of t)))
    each [] i e = absurd (none-ne-some t e)
    each (u ∷ us) zero e = ap (λ (z : Tie). some (cell_of (group_of ts ns (one_of z)))) (some-injective u t e)
    each (u ∷ us) (suc i) e = each us i e
