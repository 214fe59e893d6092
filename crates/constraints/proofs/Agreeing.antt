-- Agreement of the rows is agreement on groups: places are in one group exactly if their requests are one or have one group beside the ties, one group leads to another
-- exactly if a request of the one leads to a request of the other, and a cached request means the class of the first row with its node.
use mathlib.Core.Path.{◌≡◌, refl, sym, ap, subst, ◌∙◌}
use mathlib.Core.Bool.{Bool, true, false, not, ◌||◌}
use mathlib.Core.Option.{Option, none, some}
use mathlib.Core.List.Memᴰ
use mathlib.Core.List.{List, ◌++◌, Memᴰ}
use mathlib.Core.Logic.{◌⊎◌, inl, inr}
use Prim.Native.Nat.{ℕ, zero, suc, ◌+◌, ◌<◌, ◌≤◌}
use native.Mathlib.Omega.{arith}
use lib.ListN.{get_or}
use lib.Dec.{eqb}
use borrow.Author.Tests.{eqb-true, eq-eqb}
use Rattle.definition.specs.Lists.{rows, all}
use Rattle.definition.specs.Chains.{Edge, Chain, stay, hop, has, leads, reach}
use Rattle.definition.specs.Requests.{Request, at, same_request}
use Rattle.definition.specs.Classes.{Entry}
use Rattle.definition.specs.Constraints.{Tie, Subtype, subtype_edges, pair_agrees, row_agrees, agrees_over}
use Rattle.definition.specs.Checks.{breaks_over}
use Rattle.definition.specs.Tables.{entry_at, tie_at, subtype_at}
use Rattle.laws.specs.Groups.{one_of, two_of, ends_in, group_in}
use Rattle.laws.specs.Chains.{requests, leads-chain, chain-leads, chain-join, chain_more}
use Rattle.layout.specs.Tests.{same_test}
use Rattle.constraints.specs.Nodes.{place_limit, request_of, AllNumbered, First, NodesOf, ClassesOf}
use Rattle.constraints.specs.Groups.{label_from, label_in, GroupsOf}
use Rattle.constraints.specs.Shared.{shared_edges, shared-in, shared-out, group-end, end-tie}
use Rattle.constraints.specs.Search.{start_of, link_of, links_of, leads_on}
use Rattle.constraints.specs.Pairs.{pair_is, pair_on, agree_on}
use Rattle.constraints.proofs.Rows.{in_rows, rows_in, all_same}
use Rattle.constraints.proofs.Renaming.{Carried, carried}
use Rattle.constraints.proofs.Edges.{edge_at, upward, upward-in, OfSubtype, of_subtype}
use Rattle.constraints.proofs.Named.{number-eq, first-unique, low-at, high-at, one_at, two_at, cached-at, found}

-- A store as groups

module _ (cache : List ℕ) (n : ℕ) (ties : List ℕ) (tied : ℕ) (subtypes : List ℕ) (noted : ℕ) (beside numbers nodes classes groups : List ℕ) (few : n + noted + noted + tied + tied ≤ place_limit)
    (put : AllNumbered cache n ties tied subtypes noted numbers) (is_node : NodesOf numbers (n + noted + noted + tied + tied) nodes)
    (is_class : ClassesOf cache nodes n classes) (grouping : GroupsOf nodes (n + noted + noted) tied beside groups) where
  abbrev ones : ℕ
  ones = n + noted + noted

  abbrev places : ℕ
  places = ones + tied + tied

  abbrev named : ℕ → Request
  named p = request_of (get_or numbers p 0)

  -- the label of a place's node
  abbrev label : ℕ → ℕ
  label p = label_in nodes ones tied beside (get_or nodes p 0)

  -- places of one label
  abbrev Joint : ℕ → ℕ → Type 0
  Joint p q = label p ≡ label q

  abbrev rows_from : ℕ → ℕ → List Tie
  rows_from k i = rows (tie_at ties) k i

  abbrev groups_from : ℕ → ℕ → List ℕ
  groups_from k i = rows (λ j. get_or beside j 0) k i

  abbrev the_ties : List (Edge Request)
  the_ties = shared_edges (rows_from tied 0) (groups_from tied 0)

  abbrev the_subtypes : List (Edge Request)
  the_subtypes = subtype_edges (rows (subtype_at subtypes) noted 0)

  -- the group that a request has beside the ties
  abbrev group_beside : Request → Option ℕ
  group_beside a = group_in (rows_from tied 0) (groups_from tied 0) a

  -- a node's label is the group of its request, or itself

  abbrev label_by : ℕ → Option ℕ → ℕ
  label_by x none = x
  label_by x (some g) = place_limit + g

  node-named : (p : ℕ) → p < places → named (get_or nodes p 0) ≡ named p
  node-named p h = ap (λ (x : ℕ). request_of x) (is_node p h).same

  its_own : (p : ℕ) → p < places → First numbers (get_or nodes p 0) (get_or nodes p 0)
  its_own p h = let f = is_node p h in record { low = omega arith; same = refl; none = λ i l e. f.none i l (e ∙ f.same) }

  -- the node of a place is x exactly if the place has x's request
  end_same : (p x : ℕ) (r : Request) → p < places → First numbers x x → named p ≡ r → same_request r (named x) ≡ eqb (get_or nodes p 0) x
  end_same p x r h f e =
      same_test (same_request r (named x)) (eqb (get_or nodes p 0) x)
      (λ q. eq-eqb (get_or nodes p 0) x (first-unique (number-eq (get_or numbers p 0) (get_or numbers x 0) (e ∙ requests.same-eq r (named x) q)) (is_node p h) f))
      (λ q. let z : r ≡ named x = sym e ∙ (sym (node-named p h) ∙ ap (λ (y : ℕ). named y) (eqb-true (get_or nodes p 0) x q)) in
      subst (λ (y : Request). same_request r y ≡ true) z (requests.same_refl r))

  row-same-ends : (i x : ℕ) → i < tied → First numbers x x → ends_in (tie_at ties i) (named x) ≡ (eqb (get_or nodes (ones + i) 0) x || eqb (get_or nodes (ones + tied + i) 0) x)
  unfolding ends_in
  row-same-ends i x h f = λ z. end_same (ones + i) x (one_of (tie_at ties i)) (omega arith) f (one_at put i h) z || end_same (ones + tied + i) x (two_of (tie_at ties i)) (omega arith) f (two_at put i h) z

  label-read : (k i x : ℕ) → i + k ≤ tied → First numbers x x → label_from nodes ones tied beside k i x ≡ label_by x (group_in (rows_from k i) (groups_from k i) (named x))
  unfolding label_from group_in rows
  label-read zero i x h f = refl
  label-read (suc k) i x h f = go (ends_in (tie_at ties i) (named x)) (eqb (get_or nodes (ones + i) 0) x || eqb (get_or nodes (ones + tied + i) 0) x) (row-same-ends i x (omega arith) f) (label-read k (suc i) x (omega arith) f)
    where
      go : (s t : Bool) → s ≡ t → label_from nodes ones tied beside k (suc i) x ≡ label_by x (group_in (rows_from k (suc i)) (groups_from k (suc i)) (named x))
          → elim t as (λ _. ℕ) [ true ↦ place_limit + get_or beside i 0 | false ↦ label_from nodes ones tied beside k (suc i) x ]
          ≡ label_by x (elim s as (λ _. Option ℕ) [ true ↦ some (get_or beside i 0) | false ↦ group_in (rows_from k (suc i)) (groups_from k (suc i)) (named x) ])
      go true t e r = subst (λ (u : Bool). elim u as (λ _. ℕ) [ true ↦ place_limit + get_or beside i 0 | false ↦ label_from nodes ones tied beside k (suc i) x ] ≡ place_limit + get_or beside i 0) e refl
      go false t e r = subst (λ (u : Bool). elim u as (λ _. ℕ) [ true ↦ place_limit + get_or beside i 0 | false ↦ label_from nodes ones tied beside k (suc i) x ] ≡ label_by x (group_in (rows_from k (suc i)) (groups_from k (suc i)) (named x))) e r

  label_is : (p : ℕ) → p < places → label p ≡ label_by (get_or nodes p 0) (group_beside (named p))
  label_is p h = label-read tied 0 (get_or nodes p 0) (omega arith) (its_own p h) ∙ ap (λ (r : Request). label_by (get_or nodes p 0) (group_beside r)) (node-named p h)

  -- places of one label are those whose requests groups join

  joint-chain : (p q : ℕ) → p < places → q < places → Joint p q → Chain the_ties (named p) (named q)
  joint-chain p q h k e = go (group_beside (named p)) (group_beside (named q)) refl refl (sym (label_is p h) ∙ (e ∙ label_is q k))
    where
      low : (r : ℕ) → r < places → get_or nodes r 0 < place_limit
      low r l = omega (arith, (is_node r l).low, few, l)

      go : (o u : Option ℕ) → group_beside (named p) ≡ o → group_beside (named q) ≡ u → label_by (get_or nodes p 0) o ≡ label_by (get_or nodes q 0) u → Chain the_ties (named p) (named q)
      go none none a b z = stay (sym (node-named p h) ∙ (ap (λ (x : ℕ). named x) z ∙ node-named q k))
      go none (some g) a b z = absurd (omega (arith, low p h, z))
      go (some g) none a b z = absurd (omega (arith, low q k, z))
      go (some g) (some j) a b z =
          let w : g ≡ j = omega arith in
          hop (stay refl) (shared-in (rows_from tied 0) (groups_from tied 0) (named p) (named q) g a (b ∙ ap (λ (x : ℕ). some x) (sym w)))

  name-tied : (p q : ℕ) → p < places → q < places → named p ≡ named q → Joint p q
  name-tied p q h k e =
      let z : get_or nodes p 0 ≡ get_or nodes q 0 = first-unique (number-eq (get_or numbers p 0) (get_or numbers q 0) e) (is_node p h) (is_node q k) in
      label_is p h ∙ ((λ i. label_by (z i) (group_beside (e i))) ∙ sym (label_is q k))

  -- a request that ties name has a place among theirs
  record Standing (a : Request) : Type 0 where
    place : ℕ
    fits : place < places
    names : a ≡ named place

  end-place : (a : Request) (g : ℕ) → group_beside a ≡ some g → Standing a
  end-place a g e = go (end-tie (rows_from tied 0) a (group-end (rows_from tied 0) (groups_from tied 0) a g e))
    where
      go : (t : Tie) × Memᴰ t (rows_from tied 0) × ((one_of t ≡ a) ⊎ (two_of t ≡ a)) → Standing a
      go (t, m, w) =
          let p = rows_in (tie_at ties) tied 0 t m in
          let l : p.number < tied = omega (arith, p.high) in
          elim w [
            | inl q ↦ record { place = ones + p.number; fits = omega arith; names = sym q ∙ (ap (λ (x : Tie). one_of x) p.is ∙ sym (one_at put p.number l)) }
            | inr q ↦ record { place = ones + tied + p.number; fits = omega arith; names = sym q ∙ (ap (λ (x : Tie). two_of x) p.is ∙ sym (two_at put p.number l)) }
          ]

  tie-places : (d : Edge Request) → Memᴰ d the_ties → Carried named Joint places d
  tie-places d m =
      let s = shared-out (rows_from tied 0) (groups_from tied 0) d m in
      let a = end-place d.from s.group s.from in
      let b = end-place d.to s.group s.to in
      let labelled : (p : ℕ) → p < places → (r : Request) → r ≡ named p → group_beside r ≡ some s.group → label p ≡ place_limit + s.group =
      λ p h r e q. label_is p h ∙ ap (label_by (get_or nodes p 0)) (ap group_beside (sym e) ∙ q) in
      record {
        start = a.place;
        end = b.place;
        start_fits = a.fits;
        end_fits = b.fits;
        from = a.names;
        to = b.names;
        related = labelled a.place a.fits d.from a.names s.from ∙ sym (labelled b.place b.fits d.to b.names s.to);
      }

  -- groups are by labels

  group-label : (p : ℕ) → p < ones → get_or grouping.labels (get_or groups p 0) 0 ≡ label p
  group-label p h = (grouping.is_group p h).same ∙ grouping.is_label p h

  group-tied : (p q : ℕ) → p < ones → q < ones → get_or groups p 0 ≡ get_or groups q 0 → Joint p q
  group-tied p q h k e = sym (group-label p h) ∙ (ap (λ (x : ℕ). get_or grouping.labels x 0) e ∙ group-label q k)

  tied-group : (p q : ℕ) → p < ones → q < ones → Joint p q → get_or groups p 0 ≡ get_or groups q 0
  tied-group p q h k e = first-unique (grouping.is_label p h ∙ (e ∙ sym (grouping.is_label q k))) (grouping.is_group p h) (grouping.is_group q k)

  tied-same : (a b : ℕ) → a < ones → b < ones → leads same_request the_ties (named a) (named b) ≡ eqb (get_or groups a 0) (get_or groups b 0)
  tied-same a b h k =
      same_test (leads same_request the_ties (named a) (named b)) (eqb (get_or groups a 0) (get_or groups b 0))
      (λ q. eq-eqb (get_or groups a 0) (get_or groups b 0)
      (tied-group a b h k (carried named Joint places the_ties name-tied (λ p q r x y. x ∙ y) tie-places a b (omega arith) (omega arith) (leads-chain requests the_ties (named a) (named b) q))))
      (λ q. chain-leads requests the_ties (named a) (named b) (joint-chain a b (omega arith) (omega arith) (group-tied a b h k (eqb-true (get_or groups a 0) (get_or groups b 0) q))))

  -- the subtype constraints between places, under any keys of these

  link_by : (ℕ → ℕ) → ℕ → Edge Request
  link_by f e = record { from = at 0 (f (n + e)); to = at 0 (f (n + noted + e)) }

  links_by : (ℕ → ℕ) → List (Edge Request)
  links_by f = rows (link_by f) noted 0

  abbrev ByKey : (ℕ → ℕ) → ℕ → ℕ → Type 0
  ByKey f p q = Chain (links_by f) (at 0 (f p)) (at 0 (f q))

  link-of : (f : ℕ → ℕ) (i : ℕ) → i < noted → ByKey f (n + i) (n + noted + i)
  unfolding links_by link_by
  link-of f i h = hop (stay refl) (in_rows (link_by f) noted 0 i (omega arith) (omega arith))

  -- keys that are one for the same places give the same chains
  rekeyed : (f g : ℕ → ℕ) → ((p q : ℕ) → p < ones → q < ones → f p ≡ f q → g p ≡ g q) → (a b : ℕ) → a < ones → b < ones → ByKey f a b → ByKey g a b
  unfolding links_by link_by
  rekeyed f g same = carried (λ p. at 0 (f p)) (ByKey g) ones (links_by f) (λ p q h k e. stay (ap (λ (x : ℕ). at 0 x) (same p q h k (ap (λ (r : Request). r.name) e)))) (λ p q r. chain-join) between
    where
      between : (d : Edge Request) → Memᴰ d (links_by f) → Carried (λ p. at 0 (f p)) (ByKey g) ones d
      between d m =
          let p = rows_in (link_by f) noted 0 d m in
          let h : p.number < noted = omega (arith, p.high) in
          record {
            start = n + p.number;
            end = n + noted + p.number;
            start_fits = omega arith;
            end_fits = omega arith;
            from = ap (λ (x : Edge Request). x.from) p.is;
            to = ap (λ (x : Edge Request). x.to) p.is;
            related = link-of g p.number h;
          }

  abbrev Onward : ℕ → ℕ → Type 0
  Onward p q = ByKey label p q

  tied-onward : (p q : ℕ) → Joint p q → Onward p q
  tied-onward p q t = stay (ap (λ (x : ℕ). at 0 x) t)

  any-link : (d : Edge Request) → Memᴰ d (the_ties ++ the_subtypes) → Carried named Onward places d
  any-link d m = elim (Memᴰ.append_cases the_ties m) [ inl a ↦ one (tie-places d a) | inr b ↦ two (of_subtype (rows (subtype_at subtypes) noted 0) d b) ]
    where
      one : Carried named Joint places d → Carried named Onward places d
      one c = record {
        start = c.start;
        end = c.end;
        start_fits = c.start_fits;
        end_fits = c.end_fits;
        from = c.from;
        to = c.to;
        related = tied-onward c.start c.end c.related;
      }

      way : (i : ℕ) → i < noted → d ≡ upward (subtype_at subtypes i) → Carried named Onward places d
      way i h e = record {
        start = n + i;
        end = n + noted + i;
        start_fits = omega arith;
        end_fits = omega arith;
        from = ap (λ (x : Edge Request). x.from) e ∙ sym (low-at put i h);
        to = ap (λ (x : Edge Request). x.to) e ∙ sym (high-at put i h);
        related = link-of label i h;
      }

      two : OfSubtype (rows (subtype_at subtypes) noted 0) d → Carried named Onward places d
      two r = let p = rows_in (subtype_at subtypes) noted 0 r.subtype r.there in way p.number (omega arith)
          (r.is ∙ ap (λ (x : Subtype). upward x) p.is)

  abbrev Leading : ℕ → ℕ → Type 0
  Leading p q = Chain (the_ties ++ the_subtypes) (named p) (named q)

  label-leading : (p q : ℕ) → p < places → q < places → at 0 (label p) ≡ at 0 (label q) → Leading p q
  label-leading p q h k e = chain_more (λ d m. Memᴰ.append_left the_subtypes m) (joint-chain p q h k (ap (λ (r : Request). r.name) e))

  link-back : (d : Edge Request) → Memᴰ d (links_by label) → Carried (λ p. at 0 (label p)) Leading places d
  unfolding links_by link_by
  link-back d m =
      let p = rows_in (link_by label) noted 0 d m in
      let h : p.number < noted = omega (arith, p.high) in
      record {
        start = n + p.number;
        end = n + noted + p.number;
        start_fits = omega arith;
        end_fits = omega arith;
        from = ap (λ (x : Edge Request). x.from) p.is;
        to = ap (λ (x : Edge Request). x.to) p.is;
        related = hop (stay refl) (Memᴰ.append_right the_ties (edge_at (low-at put p.number h) (high-at put p.number h)
            (upward-in (in_rows (subtype_at subtypes) noted 0 p.number (omega arith) (omega arith)))));
      }

  onward : (a b : ℕ) → a < places → b < places → Leading a b → Onward a b
  onward = carried named Onward places (the_ties ++ the_subtypes) (λ p q h k e. tied-onward p q (name-tied p q h k e)) (λ p q r. chain-join) any-link

  leading : (a b : ℕ) → a < places → b < places → Onward a b → Leading a b
  leading = carried (λ p. at 0 (label p)) Leading places (links_by label) label-leading (λ p q r. chain-join) link-back

  led-same : (a b : ℕ) → a < ones → b < ones
      → leads same_request (the_ties ++ the_subtypes) (named a) (named b) ≡ leads_on groups n noted (get_or groups a 0) (get_or groups b 0)
  unfolding leads_on links_of link_of start_of links_by link_by
  led-same a b h k =
      same_test (leads same_request (the_ties ++ the_subtypes) (named a) (named b)) (leads same_request (links_by group) (at 0 (group a)) (at 0 (group b)))
      (λ q. chain-leads requests (links_by group) (at 0 (group a)) (at 0 (group b))
      (rekeyed label group tied-group a b h k (onward a b (omega arith) (omega arith) (leads-chain requests (the_ties ++ the_subtypes) (named a) (named b) q))))
      (λ q. chain-leads requests (the_ties ++ the_subtypes) (named a) (named b)
      (leading a b (omega arith) (omega arith) (rekeyed group label group-tied a b h k (leads-chain requests (links_by group) (at 0 (group a)) (at 0 (group b)) q))))
    where
      group : ℕ → ℕ
      group p = get_or groups p 0

  -- agreement

  row_same : (E : List (Edge Request)) (f : ℕ → ℕ → Bool) → ((a b : ℕ) → a < ones → b < ones → leads same_request E (named a) (named b) ≡ f a b)
      → (a b : ℕ) → a < n → b < n → has same_request (entry_at cache b).request (reach same_request E (entry_at cache a).request) ≡ f a b
  unfolding leads
  row_same E f e a b h k = rw (cached-at put a h, cached-at put b k) at (e a b (omega arith) (omega arith))

  module _ (sup : ℕ → Option ℕ) where
    abbrev the_cache : List Entry
    the_cache = rows (entry_at cache) n 0

    pair_same : (a b : ℕ) → a < n → b < n
        → pair_agrees sup the_cache (get_or classes a 0) (reach same_request the_ties (entry_at cache a).request)
        (reach same_request (the_ties ++ the_subtypes) (entry_at cache a).request) (entry_at cache b).request
        ≡ pair_on sup groups classes n noted a b
    unfolding pair_agrees pair_on pair_is
    pair_same a b h k =
        rw (found put nodes classes is_node is_class b k, pair_agrees)
        (ap (λ (t : Bool). pair_is sup t (has same_request (entry_at cache b).request (reach same_request (the_ties ++ the_subtypes) (entry_at cache a).request))
        (get_or classes a 0) (get_or classes b 0))
        (row_same the_ties (λ p q. eqb (get_or groups p 0) (get_or groups q 0)) tied-same a b h k)
        ∙ ap (λ (t : Bool). pair_is sup (eqb (get_or groups a 0) (get_or groups b 0)) t (get_or classes a 0) (get_or classes b 0))
        (row_same (the_ties ++ the_subtypes) (λ p q. leads_on groups n noted (get_or groups p 0) (get_or groups q 0)) led-same a b h k))

    class_same : (a : ℕ) → a < n
        → row_agrees sup the_cache the_ties (the_ties ++ the_subtypes) (entry_at cache a).request
        ≡ all (pair_on sup groups classes n noted a) (rows (λ i. i) n 0)
    unfolding row_agrees
    class_same a h =
        rw (found put nodes classes is_node is_class a h, row_agrees)
        (all_same
        (λ f. pair_agrees sup the_cache (get_or classes a 0) (reach same_request the_ties (entry_at cache a).request)
        (reach same_request (the_ties ++ the_subtypes) (entry_at cache a).request) f.request)
        (entry_at cache) (pair_on sup groups classes n noted a) (λ i. i) n 0 (λ b _ k. pair_same a b h (omega arith)))

    pub agree_same : agrees_over sup the_cache the_ties (the_ties ++ the_subtypes) ≡ agree_on sup groups classes n noted
    unfolding agrees_over agree_on
    agree_same =
        all_same (λ e. row_agrees sup the_cache the_ties (the_ties ++ the_subtypes) e.request) (entry_at cache)
        (λ a. all (pair_on sup groups classes n noted a) (rows (λ i. i) n 0)) (λ i. i) n 0 (λ a _ h. class_same a (omega arith))

    -- of two places and of their requests
    pub breaks-same : (a b : ℕ) → a < n → b < n
        → breaks_over sup the_cache the_ties (the_ties ++ the_subtypes) (entry_at cache a).request (entry_at cache b).request ≡ not (pair_on sup groups classes n noted a b)
    unfolding breaks_over
    breaks-same a b h k = rw (found put nodes classes is_node is_class a h, breaks_over) (ap not (pair_same a b h k))
