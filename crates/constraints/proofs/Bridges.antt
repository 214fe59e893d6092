-- Walks between nodes are chains of requests, both ways: a link between nodes is one between the requests that they name, and a node is the one place of its
-- request that links know. So what is chosen by ties and then by all links is the reason.
use mathlib.Core.Path.{◌≡◌, refl, sym, ap, subst, ◌∙◌}
use mathlib.Core.Bool.{Bool, true, false, false≢true, ◌&&◌}
use mathlib.Core.Option.{Option, none, some, some-injective}
use mathlib.Core.List.Memᴰ
use mathlib.Core.List.{List, [], ◌∷◌, ◌++◌, Memᴰ}
use mathlib.Core.Logic.{◌⊎◌, inl, inr}
use Prim.Native.Nat.{ℕ, zero, suc, ◌+◌, ◌<◌, ◌≤◌}
use native.Mathlib.Nat.{eq-or-lt_of_le}
use native.Mathlib.Omega.{arith}
use lib.ListN.{get_or}
use lib.Dec.{ltb}
use borrow.Author.Tests.{ltb-true, lt-ltb}
use Rattle.definition.specs.Numbers.{tie_numbers_cell, subtype_numbers_cell}
use Rattle.definition.specs.Lists.{rows}
use Rattle.definition.specs.Requests.{Request}
use Rattle.definition.specs.Classes.{Entry, find}
use Rattle.definition.specs.Constraints.{Tie, Subtype}
use Rattle.definition.specs.Tables.{entry_at, tie_at, subtype_at, number_at}
use Rattle.definition.specs.Reasons.{Link, link, tie_links, subtype_links, Upward, reason_over}
use Rattle.laws.specs.Agreement.{find-row}
use Rattle.laws.specs.Earlier.{row_before, row-order}
use Rattle.laws.specs.Clashes.{Led, Leads, ClashingOver, other, not_below}
use Rattle.laws.specs.Found.{first-reason, none-reason}
use Rattle.constraints.specs.Nodes.{request_of, AllNumbered, First, NodesOf, ClassesOf}
use Rattle.constraints.specs.Walks.{Walk, bad_over, ends_over}
use Rattle.constraints.specs.Choosing.{NoBetter, WalkFrom, BestOf}
use Rattle.constraints.specs.Linking.{Linked, Labelled}
use Rattle.constraints.proofs.Rows.{rows_in}
use Rattle.constraints.proofs.Edges.{forward, upward}
use Rattle.constraints.proofs.Named.{number-eq, first-unique, low-at, high-at, one_at, two_at, cached-at, found}
use Rattle.constraints.proofs.Linked.{Kind, is_forth, is_back, is_up, kind, ends-of}

-- The links of rows, row by row

link_at : {L : List Link} {m n : ℕ} {a b c d : Request} → m ≡ n → a ≡ c → b ≡ d → Memᴰ (link n c d) L → Memᴰ (link m a b) L
link_at p q r m = rw (p, q, r) m

abbrev forth_link : (ℕ → Tie) → (ℕ → ℕ) → ℕ → Link
forth_link f g i = link (g i) (forward (f i)).from (forward (f i)).to

abbrev back_link : (ℕ → Tie) → (ℕ → ℕ) → ℕ → Link
back_link f g i = link (g i) (forward (f i)).to (forward (f i)).from

abbrev up_link : (ℕ → Subtype) → (ℕ → ℕ) → ℕ → Link
up_link f g i = link (g i) (upward (f i)).from (upward (f i)).to

ties-in : (f : ℕ → Tie) (g : ℕ → ℕ) (k i j : ℕ) → i ≤ j → j < i + k
    → Memᴰ (forth_link f g j) (tie_links (rows f k i) (rows g k i)) × Memᴰ (back_link f g j) (tie_links (rows f k i) (rows g k i))
unfolding rows tie_links
ties-in f g zero i j l h = absurd (omega arith)
ties-in f g (suc k) i j l h = go (eq-or-lt_of_le l) (λ m. ties-in f g k (suc i) j m (omega arith))
  where
    go : (i ≡ j) ⊎ (i < j)
        → (i < j → Memᴰ (forth_link f g j) (tie_links (rows f k (suc i)) (rows g k (suc i))) × Memᴰ (back_link f g j) (tie_links (rows f k (suc i)) (rows g k (suc i))))
        → Memᴰ (forth_link f g j) (forth_link f g i ∷ back_link f g i ∷ tie_links (rows f k (suc i)) (rows g k (suc i)))
        × Memᴰ (back_link f g j) (forth_link f g i ∷ back_link f g i ∷ tie_links (rows f k (suc i)) (rows g k (suc i)))
    go (inl e) r = (Memᴰ.head (ap (λ x. forth_link f g x) (sym e)), Memᴰ.tail (Memᴰ.head (ap (λ x. back_link f g x) (sym e))))
    go (inr m) r = (Memᴰ.tail (Memᴰ.tail (r m).0), Memᴰ.tail (Memᴰ.tail (r m).1))

of-ties : (f : ℕ → Tie) (g : ℕ → ℕ) (k i : ℕ) (l : Link) → Memᴰ l (tie_links (rows f k i) (rows g k i))
    → (j : ℕ) × (i ≤ j) × (j < i + k) × ((l ≡ forth_link f g j) ⊎ (l ≡ back_link f g j))
unfolding rows tie_links
of-ties f g zero i l m = absurd (Memᴰ.not-nil m)
of-ties f g (suc k) i l (Memᴰ.head e) = (i, omega arith, omega arith, inl e)
of-ties f g (suc k) i l (Memᴰ.tail (Memᴰ.head e)) = (i, omega arith, omega arith, inr e)
of-ties f g (suc k) i l (Memᴰ.tail (Memᴰ.tail m)) = let r = of-ties f g k (suc i) l m in (r.0, omega (arith, r.1), omega (arith, r.2), r.3)

subtypes-in : (f : ℕ → Subtype) (g : ℕ → ℕ) (k i j : ℕ) → i ≤ j → j < i + k → Memᴰ (up_link f g j) (subtype_links (rows f k i) (rows g k i))
unfolding rows subtype_links
subtypes-in f g zero i j l h = absurd (omega arith)
subtypes-in f g (suc k) i j l h = go (eq-or-lt_of_le l) (λ m. subtypes-in f g k (suc i) j m (omega arith))
  where
    go : (i ≡ j) ⊎ (i < j) → (i < j → Memᴰ (up_link f g j) (subtype_links (rows f k (suc i)) (rows g k (suc i))))
        → Memᴰ (up_link f g j) (up_link f g i ∷ subtype_links (rows f k (suc i)) (rows g k (suc i)))
    go (inl e) r = Memᴰ.head (ap (λ x. up_link f g x) (sym e))
    go (inr m) r = Memᴰ.tail (r m)

of-subtypes : (f : ℕ → Subtype) (g : ℕ → ℕ) (k i : ℕ) (l : Link) → Memᴰ l (subtype_links (rows f k i) (rows g k i)) → (j : ℕ) × (i ≤ j) × (j < i + k) × (l ≡ up_link f g j)
unfolding rows subtype_links
of-subtypes f g zero i l m = absurd (Memᴰ.not-nil m)
of-subtypes f g (suc k) i l (Memᴰ.head e) = (i, omega arith, omega arith, e)
of-subtypes f g (suc k) i l (Memᴰ.tail m) = let r = of-subtypes f g k (suc i) l m in (r.0, omega (arith, r.1), omega (arith, r.2), r.3)

both : (a b : Bool) → (a && b) ≡ true → (a ≡ true) × (b ≡ true)
both true b h = (refl, h)
both false b h = absurd (false≢true h)

-- A store as nodes

module _ {cache ties subtypes numbers : List ℕ} {n tied noted : ℕ} (put : AllNumbered cache n ties tied subtypes noted numbers) (nodes classes : List ℕ)
    (is_node : NodesOf numbers (n + noted + noted + tied + tied) nodes) (is_class : ClassesOf cache nodes n classes) (counts froms tos labels : List ℕ)
    (linked : Linked nodes n noted tied froms tos) (labelled : Labelled counts noted tied labels) where
  abbrev ones : ℕ
  ones = n + noted + noted

  abbrev places : ℕ
  places = ones + tied + tied

  abbrev named : ℕ → Request
  named p = request_of (get_or numbers p 0)

  abbrev the_cache : List Entry
  the_cache = rows (entry_at cache) n 0

  abbrev the_ties : List Link
  the_ties = tie_links (rows (tie_at ties) tied 0) (rows (number_at tie_numbers_cell counts) tied 0)

  abbrev the_subtypes : List Link
  the_subtypes = subtype_links (rows (subtype_at subtypes) noted 0) (rows (number_at subtype_numbers_cell counts) noted 0)

  -- a node names what its places name, and is its own first place

  abbrev Node : ℕ → Type 0
  Node q = First numbers q q

  node-named : (p : ℕ) → p < places → named (get_or nodes p 0) ≡ named p
  node-named p h = ap (λ (x : ℕ). request_of x) (is_node p h).same

  its_own : (p : ℕ) → p < places → Node (get_or nodes p 0)
  its_own p h = let f = is_node p h in record { low = omega arith; same = refl; none = λ i l e. f.none i l (e ∙ f.same) }

  one-node : (p q : ℕ) → Node p → Node q → named p ≡ named q → p ≡ q
  one-node p q f g e = first-unique (number-eq (get_or numbers p 0) (get_or numbers q 0) e) f g

  start-node : (e : ℕ) → e < tied + tied + noted → Node (get_or froms e 0)
  start-node e h = let r = ends-of linked e h in subst (λ (x : ℕ). Node x) (sym r.from) (its_own r.start r.start_fits)

  end-node : (e : ℕ) → e < tied + tied + noted → Node (get_or tos e 0)
  end-node e h = let r = ends-of linked e h in subst (λ (x : ℕ). Node x) (sym r.to) (its_own r.end r.end_fits)

  -- links between nodes as links between requests

  abbrev as_link : ℕ → Link
  as_link e = link (get_or labels e 0) (named (get_or froms e 0)) (named (get_or tos e 0))

  from_named : (e p : ℕ) → p < places → get_or froms e 0 ≡ get_or nodes p 0 → named (get_or froms e 0) ≡ named p
  from_named e p h q = ap (λ (x : ℕ). named x) q ∙ node-named p h

  to_named : (e p : ℕ) → p < places → get_or tos e 0 ≡ get_or nodes p 0 → named (get_or tos e 0) ≡ named p
  to_named e p h q = ap (λ (x : ℕ). named x) q ∙ node-named p h

  forth-is : (i : ℕ) → i < tied → as_link i ≡ forth_link (tie_at ties) (number_at tie_numbers_cell counts) i
  forth-is i h = λ j. link (labelled.forth i h j) ((from_named i (ones + i) (omega arith) (linked.forth_from i h) ∙ one_at put i h) j)
      ((to_named i (ones + tied + i) (omega arith) (linked.forth_to i h) ∙ two_at put i h) j)

  back_is : (i : ℕ) → i < tied → as_link (tied + i) ≡ back_link (tie_at ties) (number_at tie_numbers_cell counts) i
  back_is i h = λ j. link (labelled.back i h j) ((from_named (tied + i) (ones + tied + i) (omega arith) (linked.back_from i h) ∙ two_at put i h) j)
      ((to_named (tied + i) (ones + i) (omega arith) (linked.back_to i h) ∙ one_at put i h) j)

  up_is : (i : ℕ) → i < noted → as_link (tied + tied + i) ≡ up_link (subtype_at subtypes) (number_at subtype_numbers_cell counts) i
  up_is i h = λ j. link (labelled.up i h j) ((from_named (tied + tied + i) (n + i) (omega arith) (linked.up_from i h) ∙ low-at put i h) j)
      ((to_named (tied + tied + i) (n + noted + i) (omega arith) (linked.up_to i h) ∙ high-at put i h) j)

  -- L are the links of the first `count` places
  pub record Bridged (count : ℕ) (L : List Link) : Type 0 where
    pub few : count ≤ tied + tied + noted
    pub into : (e : ℕ) → e < count → Memᴰ (as_link e) L
    pub out : (l : Link) → Memᴰ l L → (e : ℕ) × (e < count) × (l ≡ as_link e)

  tie-into : (e : ℕ) → e < tied + tied → Memᴰ (as_link e) the_ties
  tie-into e h = go (kind noted tied e (omega arith))
    where
      here : {x y : Link} → x ≡ y → Memᴰ y the_ties → Memᴰ x the_ties
      here q m = subst (λ (z : Link). Memᴰ z the_ties) (sym q) m

      go : Kind noted tied e → Memᴰ (as_link e) the_ties
      go (is_forth i l q) = here (ap (λ (x : ℕ). as_link x) q ∙ forth-is i l) (ties-in (tie_at ties) (number_at tie_numbers_cell counts) tied 0 i (omega arith) (omega arith)).0
      go (is_back i l q) = here (ap (λ (x : ℕ). as_link x) q ∙ back_is i l) (ties-in (tie_at ties) (number_at tie_numbers_cell counts) tied 0 i (omega arith) (omega arith)).1
      go (is_up i l q) = absurd (omega arith)

  tie-out : (l : Link) → Memᴰ l the_ties → (e : ℕ) × (e < tied + tied) × (l ≡ as_link e)
  tie-out l m = let r = of-ties (tie_at ties) (number_at tie_numbers_cell counts) tied 0 l m in go r.0 (omega (arith, r.2)) r.3
    where
      go : (i : ℕ) → i < tied → (l ≡ forth_link (tie_at ties) (number_at tie_numbers_cell counts) i) ⊎ (l ≡ back_link (tie_at ties) (number_at tie_numbers_cell counts) i)
          → (e : ℕ) × (e < tied + tied) × (l ≡ as_link e)
      go i h (inl e) = (i, omega arith, e ∙ sym (forth-is i h))
      go i h (inr e) = (tied + i, omega arith, e ∙ sym (back_is i h))

  pub tie-bridged : Bridged (tied + tied) the_ties
  tie-bridged = record { few = omega arith; into = tie-into; out = tie-out }

  any-into : (e : ℕ) → e < tied + tied + noted → Memᴰ (as_link e) (the_ties ++ the_subtypes)
  any-into e h = go (kind noted tied e h)
    where
      go : Kind noted tied e → Memᴰ (as_link e) (the_ties ++ the_subtypes)
      go (is_forth i l q) = Memᴰ.append_left the_subtypes (tie-into e (omega arith))
      go (is_back i l q) = Memᴰ.append_left the_subtypes (tie-into e (omega arith))
      go (is_up i l q) = Memᴰ.append_right the_ties (subst (λ (z : Link). Memᴰ z the_subtypes) (sym (ap (λ (x : ℕ). as_link x) q ∙ up_is i l))
          (subtypes-in (subtype_at subtypes) (number_at subtype_numbers_cell counts) noted 0 i (omega arith) (omega arith)))

  any_out : (l : Link) → Memᴰ l (the_ties ++ the_subtypes) → (e : ℕ) × (e < tied + tied + noted) × (l ≡ as_link e)
  any_out l m = elim (Memᴰ.append_cases the_ties m) [
    | inl a ↦ (let r = tie-out l a in (r.0, omega (arith, r.1), r.2))
    | inr b ↦ (let r = of-subtypes (subtype_at subtypes) (number_at subtype_numbers_cell counts) noted 0 l b in (tied + tied + r.0, omega (arith, r.2), r.3 ∙ sym (up_is r.0 (omega (arith, r.2)))))
  ]

  pub any-bridged : Bridged (tied + tied + noted) (the_ties ++ the_subtypes)
  any-bridged = record { few = omega arith; into = any-into; out = any_out }

  -- a cached request means the class of its place

  means-class : (q : ℕ) → q < n → find the_cache (named q) ≡ some (get_or classes q 0)
  means-class q h = ap (λ (r : Request). find the_cache r) (cached-at put q h) ∙ found put nodes classes is_node is_class q h

  -- the node of a request that means something
  record At (r : Request) (c : ℕ) : Type 0 where
    place : ℕ
    fits : place < n
    node : Node place
    names : named place ≡ r
    class : get_or classes place 0 ≡ c

  at-node : (r : Request) (c : ℕ) → find the_cache r ≡ some c → At r c
  at-node r c h = go (find-row the_cache r c h)
    where
      go : (e : Entry) × Memᴰ e the_cache × (e.request ≡ r) × (e.class ≡ c) → At r c
      go (e, m, q, _) =
          let p = rows_in (entry_at cache) n 0 e m in
          let i = p.number in
          let l : i < n = omega (arith, p.high) in
          let f = is_node i (omega arith) in
          let k : get_or nodes i 0 < n = omega (arith, f.low) in
          let same : named (get_or nodes i 0) ≡ r = node-named i (omega arith) ∙ cached-at put i l ∙ sym (ap (λ (z : Entry). z.request) p.is) ∙ q in
          record {
            place = get_or nodes i 0;
            fits = k;
            node = its_own i (omega arith);
            names = same;
            class = some-injective (get_or classes (get_or nodes i 0) 0) c (sym (means-class (get_or nodes i 0) k) ∙ ap (λ (z : Request). find the_cache z) same ∙ h);
          }

  module _ (only : Bool) (sup : ℕ → Option ℕ) {count : ℕ} {L : List Link} (bridged : Bridged count L) where
    abbrev WalkTo : ℕ → ℕ → List ℕ → Type 0
    WalkTo c q ns = Walk froms tos labels count (ends_over only sup classes n c) q ns

    walk-led : (c q : ℕ) (ns : List ℕ) → WalkTo c q ns → Led the_cache L (bad_over only sup) c (named q) ns
    unfolding ends_over
    walk-led c q [] w =
        let r = both (ltb q n) (bad_over only sup c (get_or classes q 0)) w in
        record { through = []; last = named q; high = get_or classes q 0; upward = refl; means = means-class q (ltb-true q n r.0); is_bad = r.1 }
    walk-led c q (m ∷ ns) w =
        let e = w.0 in
        let g = walk-led c (get_or tos e 0) ns w.4 in
        record {
          through = named (get_or tos e 0) ∷ g.through;
          last = g.last;
          high = g.high;
          upward = (link_at (sym w.3) (ap (λ (x : ℕ). named x) (sym w.2)) refl (bridged.into e w.1), g.upward);
          means = g.means;
          is_bad = g.is_bad;
        }

    led-walk : (c q : ℕ) (a : Request) (qs : List Request) (ns : List ℕ) (b : Request) (d : ℕ) → Node q → named q ≡ a → Upward L a qs ns b → find the_cache b ≡ some d
        → bad_over only sup c d ≡ true → WalkTo c q ns
    unfolding ends_over
    led-walk c q a [] [] b d f e u p h =
        let r = at-node b d p in
        let same : q ≡ r.place = one-node q r.place f r.node (e ∙ u ∙ sym r.names) in
        subst (λ (x : ℕ). (ltb x n && bad_over only sup c (get_or classes x 0)) ≡ true) (sym same) (rw (lt-ltb r.place n r.fits, r.class) h)
    led-walk c q a [] (m ∷ ns) b d f e u p h = absurd u
    led-walk c q a (x ∷ qs) [] b d f e u p h = absurd u
    led-walk c q a (x ∷ qs) (m ∷ ns) b d f e u p h =
        let o = bridged.out (link m a x) u.0 in
        let i = o.0 in
        let l : i < tied + tied + noted = omega (arith, o.1, bridged.few) in (
          i,
          o.1,
          one-node (get_or froms i 0) q (start-node i l) f (sym (ap (λ (z : Link). z.edge.from) o.2) ∙ sym e),
          sym (ap (λ (z : Link). z.row) o.2),
          led-walk c (get_or tos i 0) x qs ns b d (end-node i l) (sym (ap (λ (z : Link). z.edge.to) o.2)) u.1 p h,
        )

    pub walk-leads : (q : ℕ) (ns : List ℕ) → q < n → WalkFrom froms tos labels count classes n only sup q ns → Leads the_cache L (bad_over only sup) ns
    walk-leads q ns h w = record { first = named q; low = get_or classes q 0; means = means-class q h; led = walk-led (get_or classes q 0) q ns w }

    pub leads-walk : (ns : List ℕ) → Leads the_cache L (bad_over only sup) ns → (q : ℕ) × (q < n) × WalkFrom froms tos labels count classes n only sup q ns
    leads-walk ns l =
        let r = at-node l.first l.low l.means in
        let k = l.led in (
          r.place,
          r.fits,
          subst (λ (c : ℕ). WalkTo c r.place ns) (sym r.class) (led-walk l.low r.place l.first k.through ns k.last k.high r.node r.names k.upward k.means k.is_bad),
        )

  -- What is chosen by ties, and of that and by all links, is the reason

  module _ (sup : ℕ → Option ℕ) where
    tied-other : (ns : List ℕ) → Leads the_cache the_ties (bad_over true sup) ns → Leads the_cache the_ties other ns
    unfolding bad_over
    tied-other ns l = l

    other-tied : (ns : List ℕ) → Leads the_cache the_ties other ns → Leads the_cache the_ties (bad_over true sup) ns
    unfolding bad_over
    other-tied ns l = l

    led-below : (ns : List ℕ) → Leads the_cache (the_ties ++ the_subtypes) (bad_over false sup) ns → Leads the_cache (the_ties ++ the_subtypes) (not_below sup) ns
    unfolding bad_over
    led-below ns l = l

    below-led : (ns : List ℕ) → Leads the_cache (the_ties ++ the_subtypes) (not_below sup) ns → Leads the_cache (the_ties ++ the_subtypes) (bad_over false sup) ns
    unfolding bad_over
    below-led ns l = l

    abbrev Best : Option (List ℕ) → Type 0
    Best = BestOf froms tos labels (tied + tied) (tied + tied + noted) classes n sup

    no-better : (new : Option (List ℕ)) → Best new → (ms : List ℕ) → ClashingOver sup the_cache the_ties (the_ties ++ the_subtypes) ms → NoBetter new ms
    no-better new b ms (inl l) = let r = leads-walk true sup tie-bridged ms (other-tied ms l) in b.ties r.0 ms r.1 r.2
    no-better new b ms (inr l) = let r = leads-walk false sup any-bridged ms (below-led ms l) in b.all r.0 ms r.1 r.2

    clashes : (new : Option (List ℕ)) → Best new → (ns : List ℕ) → new ≡ some ns → ClashingOver sup the_cache the_ties (the_ties ++ the_subtypes) ns
    clashes new b ns e = go (b.sound ns e)
      where
        go : ((q : ℕ) × (q < n) × WalkFrom froms tos labels (tied + tied) classes n true sup q ns) ⊎ ((q : ℕ) × (q < n) × WalkFrom froms tos labels (tied + tied + noted) classes n false sup q ns)
            → ClashingOver sup the_cache the_ties (the_ties ++ the_subtypes) ns
        go (inl w) = inl (tied-other ns (walk-leads true sup tie-bridged w.0 ns w.1 w.2))
        go (inr w) = inr (led-below ns (walk-leads false sup any-bridged w.0 ns w.1 w.2))

    pub best-reason : (new : Option (List ℕ)) → Best new → new ≡ reason_over row_before sup the_cache the_ties (the_ties ++ the_subtypes)
    best-reason none b = sym (none-reason row-order sup the_cache the_ties (the_ties ++ the_subtypes) (no-better none b))
    best-reason (some ns) b =
        sym (first-reason row-order sup the_cache the_ties (the_ties ++ the_subtypes) (λ l m. Memᴰ.append_left the_subtypes m) ns (record {
          clashes = clashes (some ns) b ns refl;
          least = λ ms c _. (no-better (some ns) b ms c).0;
          not_later = λ ms c l. (no-better (some ns) b ms c).1 l;
        }))
