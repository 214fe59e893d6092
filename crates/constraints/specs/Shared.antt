-- Ties as groups give them: requests that ties name are joined where their groups are one number, whatever groups stand beside the ties. Where these are the
-- definition's, chains are those of the ties, so a check over them is one over the ties.
use Rattle.std.specs.Prelude.{◌≡◌, length}
use Rattle.std.proofs.Math.Path.{refl, ap}
use Rattle.std.proofs.Common.{sym, subst, ◌∙◌, eqb-true, eq-eqb}
use Rattle.std.proofs.Math.Bool.{Bool, true, false, not}
use Rattle.std.proofs.lemmas.Bool.{false≢true}
use Rattle.std.proofs.Math.Option.{Option, none, some, none-ne-some}
use mathlib.Core.List.Memᴰ
use mathlib.Core.List.{List, [], ◌∷◌, ◌++◌, Memᴰ}
use Rattle.std.proofs.Math.Logic.{inl, inr}
use Prim.Native.Nat.{ℕ}
use Rattle.std.proofs.Math.ListN.{get_elem?}
use Rattle.std.proofs.Math.Dec.{eqb}
use Rattle.definition.specs.Lists.{all}
use Rattle.definition.specs.Chains.{Edge, Chain, stay, hop, has, leads, reach}
use Rattle.definition.specs.Requests.{Request, same_request}
use Rattle.definition.specs.Superclasses.{below}
use Rattle.definition.specs.Classes.{Entry, find}
use Rattle.definition.specs.Constraints.{Tie, tie_edges, pair_agrees, row_agrees, agrees_over}
use Rattle.definition.specs.Groups.{group_of, groups_of}
use Rattle.definition.specs.declared.Check.{Check}
use Rattle.definition.specs.Checks.{breaks_over, NamesOver}
use Rattle.laws.specs.Chains.{requests, leads-chain, chain-leads, chain-join, chain_more}
use Rattle.laws.specs.Groups.{one_of, two_of, Ends, Named, ends_in, ends-true, group_in, groups-read, chain-shares, shares-chain, named-grouped}
use Rattle.layout.specs.Tests.{same_test}

-- both ends of each tie
unfoldable pub ends_of : List Tie → List Request
ends_of [] = []
ends_of (t ∷ ts) = one_of t ∷ two_of t ∷ ends_of ts

-- both have a group, and it is one
unfoldable pub same_group : Option ℕ → Option ℕ → Bool
same_group none o = false
same_group (some g) none = false
same_group (some g) (some h) = eqb g h

abbrev pub edge : Request → Request → Edge Request
edge a b = record { from = a; to = b }

module _ (ts : List Tie) (gs : List ℕ) where
  unfoldable pub shared_from : Request → List Request → List (Edge Request)
  shared_from a [] = []
  shared_from a (b ∷ bs) = elim (same_group (group_in ts gs a) (group_in ts gs b)) [ true ↦ edge a b ∷ shared_from a bs | false ↦ shared_from a bs ]

  unfoldable pub shared_all : List Request → List Request → List (Edge Request)
  shared_all [] bs = []
  shared_all (a ∷ xs) bs = shared_from a bs ++ shared_all xs bs

  -- an edge between any two ends of ties that have one group
  unfoldable pub shared_edges : List (Edge Request)
  shared_edges = shared_all (ends_of ts) (ends_of ts)

-- What is among them

same_some : (g h : Option ℕ) → same_group g h ≡ true → (n : ℕ) × (g ≡ some n) × (h ≡ some n)
unfolding same_group
same_some none h e = absurd (false≢true e)
same_some (some g) none e = absurd (false≢true e)
same_some (some g) (some h) e = (g, refl, ap (λ (x : ℕ). some x) (sym (eqb-true g h e)))

some_same : (g h : Option ℕ) (n : ℕ) → g ≡ some n → h ≡ some n → same_group g h ≡ true
unfolding same_group
some_same g h n p q = rw (p, q) (eq-eqb n n refl)

-- a request that has a group is an end of a tie
pub group-end : (ts : List Tie) (gs : List ℕ) (a : Request) (g : ℕ) → group_in ts gs a ≡ some g → Memᴰ a (ends_of ts)
unfolding group_in ends_of
group-end [] gs a g e = absurd (none-ne-some g e)
group-end (t ∷ ts) [] a g e = absurd (none-ne-some g e)
group-end (t ∷ ts) (h ∷ gs) a g e = go (ends_in t a) refl e (λ r. group-end ts gs a g r)
  where
    here : Ends t a → Memᴰ a (one_of t ∷ two_of t ∷ ends_of ts)
    here (inl q) = Memᴰ.head (sym q)
    here (inr q) = Memᴰ.tail (Memᴰ.head (sym q))

    go : (b : Bool) → ends_in t a ≡ b → (elim b as (λ _. Option ℕ) [ true ↦ some h | false ↦ group_in ts gs a ]) ≡ some g → (group_in ts gs a ≡ some g → Memᴰ a (ends_of ts)) → Memᴰ a (one_of t ∷ two_of t ∷ ends_of ts)
    go true q r f = here (ends-true t a q)
    go false q r f = Memᴰ.tail (Memᴰ.tail (f r))

-- a tie of which a request is an end
pub end-tie : (ts : List Tie) (a : Request) → Memᴰ a (ends_of ts) → Named ts a
unfolding ends_of
end-tie [] a m = absurd (Memᴰ.not-nil m)
end-tie (t ∷ ts) a (Memᴰ.head e) = (t, Memᴰ.head refl, inl (sym e))
end-tie (t ∷ ts) a (Memᴰ.tail (Memᴰ.head e)) = (t, Memᴰ.head refl, inr (sym e))
end-tie (t ∷ ts) a (Memᴰ.tail (Memᴰ.tail m)) = let r = end-tie ts a m in (r.0, Memᴰ.tail r.1, r.2)

-- an edge between requests of one group
pub record Sharing (ts : List Tie) (gs : List ℕ) (e : Edge Request) : Type 0 where
  pub group : ℕ
  pub from : group_in ts gs e.from ≡ some group
  pub to : group_in ts gs e.to ≡ some group

module _ (ts : List Tie) (gs : List ℕ) where
  from_in : (a b : Request) (bs : List Request) → same_group (group_in ts gs a) (group_in ts gs b) ≡ true → Memᴰ b bs → Memᴰ (edge a b) (shared_from ts gs a bs)
  unfolding shared_from
  from_in a b [] e m = absurd (Memᴰ.not-nil m)
  from_in a b (c ∷ bs) e m = go (same_group (group_in ts gs a) (group_in ts gs c)) refl m (λ k. from_in a b bs e k)
    where
      go : (t : Bool) → same_group (group_in ts gs a) (group_in ts gs c) ≡ t → Memᴰ b (c ∷ bs) → (Memᴰ b bs → Memᴰ (edge a b) (shared_from ts gs a bs))
          → Memᴰ (edge a b) (elim t as (λ _. List (Edge Request)) [ true ↦ edge a c ∷ shared_from ts gs a bs | false ↦ shared_from ts gs a bs ])
      go true q (Memᴰ.head p) f = Memᴰ.head (ap (λ (x : Request). edge a x) p)
      go true q (Memᴰ.tail k) f = Memᴰ.tail (f k)
      go false q (Memᴰ.head p) f = absurd (false≢true (sym q ∙ (ap (λ (x : Request). same_group (group_in ts gs a) (group_in ts gs x)) (sym p) ∙ e)))
      go false q (Memᴰ.tail k) f = f k

  all_in : (a b : Request) (xs bs : List Request) → same_group (group_in ts gs a) (group_in ts gs b) ≡ true → Memᴰ a xs → Memᴰ b bs
      → Memᴰ (edge a b) (shared_all ts gs xs bs)
  unfolding shared_all
  all_in a b [] bs e m k = absurd (Memᴰ.not-nil m)
  all_in a b (c ∷ xs) bs e (Memᴰ.head p) k = Memᴰ.append_left (shared_all ts gs xs bs) (subst (λ (x : Request). Memᴰ (edge a b) (shared_from ts gs x bs)) p (from_in a b bs e k))
  all_in a b (c ∷ xs) bs e (Memᴰ.tail m) k = Memᴰ.append_right (shared_from ts gs c bs) (all_in a b xs bs e m k)

  -- two requests of one group
  pub shared-in : (a b : Request) (g : ℕ) → group_in ts gs a ≡ some g → group_in ts gs b ≡ some g → Memᴰ (edge a b) (shared_edges ts gs)
  unfolding shared_edges
  shared-in a b g p q = all_in a b (ends_of ts) (ends_of ts) (some_same (group_in ts gs a) (group_in ts gs b) g p q) (group-end ts gs a g p) (group-end ts gs b g q)

  from_out : (a : Request) (bs : List Request) (e : Edge Request) → Memᴰ e (shared_from ts gs a bs) → Sharing ts gs e
  unfolding shared_from
  from_out a [] e m = absurd (Memᴰ.not-nil m)
  from_out a (b ∷ bs) e m = go (same_group (group_in ts gs a) (group_in ts gs b)) refl m (λ k. from_out a bs e k)
    where
      go : (t : Bool) → same_group (group_in ts gs a) (group_in ts gs b) ≡ t
          → Memᴰ e (elim t as (λ _. List (Edge Request)) [ true ↦ edge a b ∷ shared_from ts gs a bs | false ↦ shared_from ts gs a bs ]) → (Memᴰ e (shared_from ts gs a bs) → Sharing ts gs e) → Sharing ts gs e
      go true q (Memᴰ.head p) f =
          let r = same_some (group_in ts gs a) (group_in ts gs b) q in
          record { group = r.0; from = ap (λ (x : Edge Request). group_in ts gs x.from) p ∙ r.1; to = ap (λ (x : Edge Request). group_in ts gs x.to) p ∙ r.2 }
      go true q (Memᴰ.tail k) f = f k
      go false q k f = f k

  all-out : (xs bs : List Request) (e : Edge Request) → Memᴰ e (shared_all ts gs xs bs) → Sharing ts gs e
  unfolding shared_all
  all-out [] bs e m = absurd (Memᴰ.not-nil m)
  all-out (a ∷ xs) bs e m = elim (Memᴰ.append_cases (shared_from ts gs a bs) m) [ inl k ↦ from_out a bs e k | inr k ↦ all-out xs bs e k ]

  pub shared-out : (e : Edge Request) → Memᴰ e (shared_edges ts gs) → Sharing ts gs e
  unfolding shared_edges
  shared-out e m = all-out (ends_of ts) (ends_of ts) e m

-- Groups that are the definition's join what ties join

module _ (ts : List Tie) (ns : List ℕ) (long : length ns ≡ length ts) (once : (i j n : ℕ) → get_elem? ns i ≡ some n → get_elem? ns j ≡ some n → i ≡ j) where
  abbrev the_groups : List ℕ
  the_groups = groups_of ts ns

  edge-tied : (e : Edge Request) → Memᴰ e (shared_edges ts the_groups) → Chain (tie_edges ts) e.from e.to
  edge-tied e m =
      let s = shared-out ts the_groups e m in
      shares-chain ts ns once e.from e.to s.group (sym (groups-read ts ns e.from long) ∙ s.from) (sym (groups-read ts ns e.to long) ∙ s.to)

  pub shared-tied : {a b : Request} → Chain (shared_edges ts the_groups) a b → Chain (tie_edges ts) a b
  shared-tied (stay e) = stay e
  shared-tied (hop {b} {c} k m) = chain-join (shared-tied k) (edge-tied (edge b c) m)

  read_named : (a : Request) → Named ts a → (g : ℕ) × (group_in ts the_groups a ≡ some g)
  read_named a n = let r = named-grouped ts ns a long n in (r.0, groups-read ts ns a long ∙ r.1)

  ends_named : (E : Edge Request) → Memᴰ E (tie_edges ts) → Named ts E.from × Named ts E.to
  unfolding tie_edges
  ends_named E m = each ts m (λ t k. k)
    where
      each : (us : List Tie) → Memᴰ E (tie_edges us) → ((t : Tie) → Memᴰ t us → Memᴰ t ts) → Named ts E.from × Named ts E.to
      each [] k f = absurd (Memᴰ.not-nil k)
      each (t ∷ us) (Memᴰ.head p) f = ((t, f t (Memᴰ.head refl), inl (sym (ap (λ (x : Edge Request). x.from) p))), (t, f t (Memᴰ.head refl), inr (sym (ap (λ (x : Edge Request). x.to) p))))
      each (t ∷ us) (Memᴰ.tail (Memᴰ.head p)) f = ((t, f t (Memᴰ.head refl), inr (sym (ap (λ (x : Edge Request). x.from) p))), (t, f t (Memᴰ.head refl), inl (sym (ap (λ (x : Edge Request). x.to) p))))
      each (t ∷ us) (Memᴰ.tail (Memᴰ.tail k)) f = each us k (λ u l. f u (Memᴰ.tail l))

  edge-shared : (e : Edge Request) → Memᴰ e (tie_edges ts) → Memᴰ e (shared_edges ts the_groups)
  edge-shared e m =
      let n = ends_named e m in
      let g = read_named e.from n.0 in
      let c : group_of ts ns e.from ≡ group_of ts ns e.to = chain-shares ts ns e.from e.to (hop (stay refl) m) in
      shared-in ts the_groups e.from e.to g.0 g.1 (groups-read ts ns e.to long ∙ (sym c ∙ (sym (groups-read ts ns e.from long) ∙ g.1)))

  pub tied-shared : {a b : Request} → Chain (tie_edges ts) a b → Chain (shared_edges ts the_groups) a b
  tied-shared k = chain_more edge-shared k

  -- with other edges behind them
  pub shared-led : (E : List (Edge Request)) {a b : Request} → Chain (shared_edges ts the_groups ++ E) a b → Chain (tie_edges ts ++ E) a b
  shared-led E (stay e) = stay e
  shared-led E (hop {b} {c} k m) = elim (Memᴰ.append_cases (shared_edges ts the_groups) m) [
    | inl l ↦ chain-join (shared-led E k) (chain_more (λ e i. Memᴰ.append_left E i) (edge-tied (edge b c) l))
    | inr r ↦ hop (shared-led E k) (Memᴰ.append_right (tie_edges ts) r)
  ]

  pub led-shared : (E : List (Edge Request)) {a b : Request} → Chain (tie_edges ts ++ E) a b → Chain (shared_edges ts the_groups ++ E) a b
  led-shared E k = chain_more more k
    where
      more : (e : Edge Request) → Memᴰ e (tie_edges ts ++ E) → Memᴰ e (shared_edges ts the_groups ++ E)
      more e m = elim (Memᴰ.append_cases (tie_edges ts) m) [ inl l ↦ Memᴰ.append_left E (edge-shared e l) | inr r ↦ Memᴰ.append_right (shared_edges ts the_groups) r ]

-- A check goes by what edges lead to, and by nothing else of them

abbrev pub SameChains : List (Edge Request) → List (Edge Request) → Type 0
SameChains E F = (a b : Request) → (Chain E a b → Chain F a b) × (Chain F a b → Chain E a b)

module _ (sup : ℕ → Option ℕ) (cache : List Entry) (ts es us fs : List (Edge Request)) (ties : SameChains ts us) (alls : SameChains es fs) where
  leads-alike : (E F : List (Edge Request)) → SameChains E F → (a b : Request) → has same_request b (reach same_request E a) ≡ has same_request b (reach same_request F a)
  unfolding leads
  leads-alike E F s a b =
      same_test (leads same_request E a b) (leads same_request F a b) (λ q. chain-leads requests F a b ((s a b).0 (leads-chain requests E a b q))) (λ q. chain-leads requests E a b ((s a b).1 (leads-chain requests F a b q)))

  pair-alike : (c : ℕ) (a b : Request)
      → pair_agrees sup cache c (reach same_request ts a) (reach same_request es a) b ≡ pair_agrees sup cache c (reach same_request us a) (reach same_request fs a) b
  unfolding pair_agrees
  pair-alike c a b = go (find cache b)
    where
      By : Option ℕ → Bool → Bool → Bool
      By o t l = elim o as (λ _. Bool) [ none ↦ true | some d ↦ elim t as (λ _. Bool) [ true ↦ eqb c d | false ↦ elim l as (λ _. Bool) [ true ↦ below sup c d | false ↦ true ] ] ]

      go : (o : Option ℕ) → By o (has same_request b (reach same_request ts a)) (has same_request b (reach same_request es a)) ≡ By o (has same_request b (reach same_request us a)) (has same_request b (reach same_request fs a))
      go o = λ i. By o (leads-alike ts us ties a b i) (leads-alike es fs alls a b i)

  row-alike : (a : Request) → row_agrees sup cache ts es a ≡ row_agrees sup cache us fs a
  unfolding row_agrees
  row-alike a = go (find cache a)
    where
      By : Option ℕ → (ℕ → Entry → Bool) → Bool
      By o f = elim o as (λ _. Bool) [ none ↦ true | some c ↦ all (f c) cache ]

      go : (o : Option ℕ) → By o (λ c f. pair_agrees sup cache c (reach same_request ts a) (reach same_request es a) f.request) ≡ By o (λ c f. pair_agrees sup cache c (reach same_request us a) (reach same_request fs a) f.request)
      go o = λ i. By o (λ c f. pair-alike c a f.request i)

  agrees-alike : agrees_over sup cache ts es ≡ agrees_over sup cache us fs
  unfolding agrees_over
  agrees-alike = λ i. all (λ e. row-alike e.request i) cache

  breaks-alike : (a b : Request) → breaks_over sup cache ts es a b ≡ breaks_over sup cache us fs a b
  unfolding breaks_over
  breaks-alike a b = go (find cache a)
    where
      By : Option ℕ → (ℕ → Bool) → Bool
      By o f = elim o as (λ _. Bool) [ none ↦ false | some c ↦ not (f c) ]

      go : (o : Option ℕ) → By o (λ c. pair_agrees sup cache c (reach same_request ts a) (reach same_request es a) b) ≡ By o (λ c. pair_agrees sup cache c (reach same_request us a) (reach same_request fs a) b)
      go o = λ i. By o (λ c. pair-alike c a b i)

  pub names-alike : (new : Option Request) (r : Check) → NamesOver sup cache ts es new r → NamesOver sup cache us fs new r
  names-alike new r n = record {
    exactly = n.exactly ∙ agrees-alike;
    breaks = λ a b e. sym (breaks-alike a b) ∙ n.breaks a b e;
    new_first = λ a b e x is c d k o. n.new_first a b e x is c d (breaks-alike c d ∙ k) o;
  }
