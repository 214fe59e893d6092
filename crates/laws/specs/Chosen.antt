-- The chain that is listed for a clash: there is one exactly if the world doesn't agree, it breaks agreement, it repeats no request, none that breaks agreement is
-- shorter, and none as long goes before it. So it is the only one: every other that breaks agreement is longer, or as long and behind it at the earliest position
-- where they differ. A chain of ties alone breaks agreement read from either end. Another order of rows lists a chain of the same length.
use Rattle.std.specs.Prelude.{◌≡◌, Bool, true, false, not, ◌⊎◌, ℕ, suc, ◌≤◌, ◌<◌, length, eqb, ltb}
use Rattle.std.proofs.Math.Path.{refl, ap}
use Rattle.std.proofs.Common.{sym, ◌∙◌, inl, inr, arith, eqb-true, ne_eqb}
use Rattle.std.proofs.lemmas.Bool.{false≢true, eqb-false}
use Rattle.std.proofs.Math.Option.{Option, none, some}
use mathlib.Core.List.Memᴰ
use mathlib.Core.List.{List, [], ◌∷◌, ◌++◌, map, reverse, reverse_aux, Memᴰ}
use Rattle.std.proofs.lemmas.List.{length-map}
use Rattle.definition.specs.Chains.{Chain, Edge, stay, hop}
use Rattle.definition.specs.Requests.{Request, at}
use Rattle.definition.specs.Classes.{find, super_of}
use Rattle.definition.specs.Constraints.{Tie, Subtype, World, Agrees, agrees, edges, tie_edges, subtype_edges}
use Rattle.definition.specs.Superclasses.{Below, below, same}
use Rattle.definition.specs.Tables.{RowNumbers}
use Rattle.definition.specs.Reasons.{Link, link, Upward, Distinct, Breaks, ties_only, links, tie_links, subtype_links, precedes, shortest, reason_over, reason_by, newer, reason}
use Rattle.laws.specs.Chains.{chain-join}
use Rattle.laws.specs.Upward.{below_true, true_below}
use Rattle.laws.specs.Agreement.{super-falls, agrees-true, true-agrees}
use Rattle.laws.specs.Earlier.{Order, NotBefore, FirstDiffers, neither-before, precedes-words, lower-first, row-order}
use Rattle.laws.specs.Clashes.{Clashing, First, shortest-first, shortest-none}

-- A list none of which stands twice is no longer than one that has all of it

without : {A : Type 0} {x : A} (ys : List A) → Memᴰ x ys → List A
without {A = A} [] never = elim never [ ]
without (y ∷ ys) (Memᴰ.head e) = ys
without (y ∷ ys) (Memᴰ.tail m) = y ∷ without ys m

without-length : {A : Type 0} {x : A} (ys : List A) (m : Memᴰ x ys) → suc (length (without ys m)) ≡ length ys
unfolding without
without-length {A = A} [] never = elim never [ ]
without-length (y ∷ ys) (Memᴰ.head e) = refl
without-length (y ∷ ys) (Memᴰ.tail m) = ap suc (without-length ys m)

without-keeps : {A : Type 0} {x z : A} (ys : List A) (m : Memᴰ x ys) → Memᴰ z ys → (z ≡ x) ⊎ Memᴰ z (without ys m)
unfolding without
without-keeps {A = A} {z = z} [] never _ = elim never [ ]
without-keeps (y ∷ ys) (Memᴰ.head e) (Memᴰ.head q) = inl (q ∙ sym e)
without-keeps (y ∷ ys) (Memᴰ.head e) (Memᴰ.tail n) = inr n
without-keeps (y ∷ ys) (Memᴰ.tail m) (Memᴰ.head q) = inr (Memᴰ.head q)
without-keeps (y ∷ ys) (Memᴰ.tail m) (Memᴰ.tail n) = elim (without-keeps ys m n) [ inl e ↦ inl e | inr k ↦ inr (Memᴰ.tail k) ]

pub distinct-length : {A : Type 0} (xs ys : List A) → Distinct xs → ((x : A) → Memᴰ x xs → Memᴰ x ys) → length xs ≤ length ys
distinct-length [] ys d h = omega arith
distinct-length {A} (x ∷ xs) ys d h =
    let m = h x (Memᴰ.head refl) in
    omega (arith, without-length ys m, distinct-length xs (without ys m) d.1 (λ z k. kept z k (without-keeps ys m (h z (Memᴰ.tail k)))))
  where
    kept : {B : Type 0} (z : A) → Memᴰ z xs → (z ≡ x) ⊎ B → B
    kept z k (inl e) = absurd (d.0 (rw e at k))
    kept z k (inr b) = b

-- Rows that lead upward, and chains of the links' edges

abbrev edges_of : List Link → List (Edge Request)
edges_of L = map (λ (l : Link). l.edge) L

link-edge : (L : List Link) (l : Link) → Memᴰ l L → Memᴰ l.edge (edges_of L)
link-edge [] l never = elim never [ ]
link-edge (k ∷ L) l (Memᴰ.head e) = Memᴰ.head (ap (λ (z : Link). z.edge) e)
link-edge (k ∷ L) l (Memᴰ.tail m) = Memᴰ.tail (link-edge L l m)

edge-link : (L : List Link) (e : Edge Request) → Memᴰ e (edges_of L) → (n : ℕ) × Memᴰ (record { row = n; edge = e }) L
edge-link [] e never = elim never [ ]
edge-link (k ∷ L) e (Memᴰ.head q) = (k.row, Memᴰ.head (λ i. record { row = k.row; edge = q i }))
edge-link (k ∷ L) e (Memᴰ.tail m) = let r = edge-link L e m in (r.0, Memᴰ.tail r.1)

up-chain : (L : List Link) (a : Request) (qs : List Request) (ns : List ℕ) (b : Request) → Upward L a qs ns b → Chain (edges_of L) a b
up-chain L a [] [] b u = stay u
up-chain L a [] (n ∷ ns) b u = absurd u
up-chain L a (q ∷ qs) [] b u = absurd u
up-chain L a (q ∷ qs) (n ∷ ns) b u = chain-join (hop (stay refl) (link-edge L (link n a q) u.0)) (up-chain L q qs ns b u.1)

up-on : (L : List Link) (a : Request) (qs : List Request) (ns : List ℕ) (b c : Request) (n : ℕ) → Upward L a qs ns b → Memᴰ (link n b c) L → Upward L a (qs ++ (c ∷ [])) (ns ++ (n ∷ [])) c
up-on L a [] [] b c n u m = (rw u m, refl)
up-on L a [] (k ∷ ns) b c n u m = absurd u
up-on L a (q ∷ qs) [] b c n u m = absurd u
up-on L a (q ∷ qs) (k ∷ ns) b c n u m = (u.0, up-on L q qs ns b c n u.1 m)

chain-up : (L : List Link) {a b : Request} → Chain (edges_of L) a b → (qs : List Request) × (ns : List ℕ) × Upward L a qs ns b
chain-up L (stay e) = ([], [], e)
chain-up L {a} (hop {b} {c} k m) = let r = chain-up L k in let l = edge-link L _ m in (r.0 ++ (c ∷ []), r.1 ++ (l.0 ∷ []), up-on L a r.0 r.1 b c l.0 r.2 l.1)

pub up_more : (L M : List Link) (a : Request) (qs : List Request) (ns : List ℕ) (b : Request) → ((l : Link) → Memᴰ l L → Memᴰ l M) → Upward L a qs ns b → Upward M a qs ns b
up_more L M a [] [] b s u = u
up_more L M a [] (n ∷ ns) b s u = absurd u
up_more L M a (q ∷ qs) [] b s u = absurd u
up_more L M a (q ∷ qs) (n ∷ ns) b s u = (s (link n a q) u.0, up_more L M q qs ns b s u.1)

-- What leads the shortest way repeats no request: from a repeated one on it would be shorter

behind : (L : List Link) (a : Request) (qs : List Request) (ns : List ℕ) (b x : Request) → Upward L a qs ns b → Memᴰ x qs → (ps : List Request) × (ms : List ℕ) × Upward L x ps ms b × (length ms < length ns)
behind L a [] ns b x u m = absurd (Memᴰ.not-nil m)
behind L a (q ∷ qs) [] b x u m = absurd u
behind L a (q ∷ qs) (n ∷ ns) b x u (Memᴰ.head e) = (qs, ns, rw e u.1, omega arith)
behind L a (q ∷ qs) (n ∷ ns) b x u (Memᴰ.tail m) = let r = behind L q qs ns b x u.1 m in (r.0, r.1, r.2, omega (arith, r.3))

pub least-distinct : (L : List Link) (a : Request) (qs : List Request) (ns : List ℕ) (b : Request) → Upward L a qs ns b
    → ((ps : List Request) (ms : List ℕ) → Upward L a ps ms b → length ns ≤ length ms) → Distinct (a ∷ qs)
least-distinct L a [] ns b u h = (λ m. Memᴰ.not-nil m, tt)
least-distinct L a (q ∷ qs) [] b u h = absurd u
least-distinct L a (q ∷ qs) (n ∷ ns) b u h = (
  λ m. (let r = behind L a (q ∷ qs) (n ∷ ns) b a u m in omega (arith, h r.0 r.1 r.2, r.3)),
  least-distinct L q qs ns b u.1 (λ ps ms k. omega (arith, h (q ∷ ps) (n ∷ ms) (u.0, k))),
)

-- each request past the first is where a link leads, and they are as many as the rows
pub up_ends : (L : List Link) (a : Request) (qs : List Request) (ns : List ℕ) (b : Request) → Upward L a qs ns b → (length qs ≡ length ns) × ((x : Request) → Memᴰ x qs → Memᴰ x (map (λ (l : Link). l.edge.to) L))
up_ends L a [] [] b u = (refl, λ x m. absurd (Memᴰ.not-nil m))
up_ends L a [] (n ∷ ns) b u = absurd u
up_ends L a (q ∷ qs) [] b u = absurd u
up_ends L a (q ∷ qs) (n ∷ ns) b u = let r = up_ends L q qs ns b u.1 in (ap suc r.0, λ x m. into x m r.1)
  where
    end : (M : List Link) (l : Link) → Memᴰ l M → Memᴰ l.edge.to (map (λ (l : Link). l.edge.to) M)
    end [] l never = elim never [ ]
    end (k ∷ M) l (Memᴰ.head e) = Memᴰ.head (ap (λ (z : Link). z.edge.to) e)
    end (k ∷ M) l (Memᴰ.tail m) = Memᴰ.tail (end M l m)

    into : (x : Request) → Memᴰ x (q ∷ qs) → ((y : Request) → Memᴰ y qs → Memᴰ y (map (λ (l : Link). l.edge.to) L)) → Memᴰ x (map (λ (l : Link). l.edge.to) L)
    into x (Memᴰ.head e) f = rw e (end L (link n a q) u.0)
    into x (Memᴰ.tail m) f = f x m

-- The tests and the words on classes

not-true : (t : Bool) → not t ≡ true → t ≡ false
not-true true h = absurd (false≢true h)
not-true false h = refl

tie-link : (w : World) (m : RowNumbers) (l : Link) → Memᴰ l (ties_only w m) → Memᴰ l (links w m)
tie-link w m l h = left (ties_only w m) h
  where
    left : (L : List Link) → Memᴰ l L → Memᴰ l (L ++ subtype_links w.subtypes m.subtypes)
    left [] never = elim never [ ]
    left (k ∷ L) (Memᴰ.head e) = Memᴰ.head e
    left (k ∷ L) (Memᴰ.tail n) = Memᴰ.tail (left L n)

-- a chain that breaks agreement is one that the search is for
pub breaks-clashing : (w : World) (m : RowNumbers) (ns : List ℕ) → Breaks w m ns → Clashing w m ns
breaks-clashing w m ns b = go b.breaks (below (super_of w.base) b.low b.high) refl
  where
    go : (Upward (ties_only w m) b.first b.through ns b.last × (b.low ≡ b.high → ⊥)) ⊎ (Below (super_of w.base) b.low b.high → ⊥)
        → (t : Bool) → below (super_of w.base) b.low b.high ≡ t → Clashing w m ns
    go (inl u) t e = inl (record { first = b.first; low = b.low; means = b.first_means; led = record { through = b.through; last = b.last; high = b.high; upward = u.0; means = b.last_means; is_bad = ap not (ne_eqb b.low b.high u.1) } })
    go (inr n) true e = absurd (n (below_true (super_of w.base) (super-falls w.base) b.low b.high e))
    go (inr n) false e = inr (record { first = b.first; low = b.low; means = b.first_means; led = record { through = b.through; last = b.last; high = b.high; upward = b.upward; means = b.last_means; is_bad = ap not e } })

-- it has no more rows than there are links
pub breaks-length : (w : World) (m : RowNumbers) (ns : List ℕ) → Breaks w m ns → length ns ≤ length (links w m)
breaks-length w m ns b =
    let u = up_ends (links w m) b.first b.through ns b.last b.upward in
    omega (arith, u.0, distinct-length b.through (map (λ (l : Link). l.edge.to) (links w m)) b.once.1 u.1, length-map (links w m) (λ (l : Link). l.edge.to))

-- ms is ns, or it is longer, or it is as long and has the later row at the earliest position where they differ
abbrev pub NotSooner : (ℕ → ℕ → Bool) → List ℕ → List ℕ → Type 0
NotSooner before ns ms = (ms ≡ ns) ⊎ ((length ns < length ms) ⊎ ((length ms ≡ length ns) × FirstDiffers before ns ms))

module _ {before : ℕ → ℕ → Bool} (order : Order before) (w : World) (m : RowNumbers) where
  -- the shortest that the search is for breaks agreement
  pub first-breaks : (ns : List ℕ) → First order (super_of w.base) w.base.cache (ties_only w m) (links w m) 0 ns → Breaks w m ns
  first-breaks ns f = go f.clashes
    where
      go : Clashing w m ns → Breaks w m ns
      go (inl l) = let k = l.led in record {
        first = l.first;
        through = k.through;
        last = k.last;
        low = l.low;
        high = k.high;
        first_means = l.means;
        last_means = k.means;
        upward = up_more (ties_only w m) (links w m) l.first k.through ns k.last (tie-link w m) k.upward;
        once = least-distinct (ties_only w m) l.first k.through ns k.last k.upward (λ ps ms u.
            f.least ms (inl (record { first = l.first; low = l.low; means = l.means; led = record { through = ps; last = k.last; high = k.high; upward = u; means = k.means; is_bad = k.is_bad } })) (omega arith));
        breaks = inl (k.upward, eqb-false l.low k.high (not-true (eqb l.low k.high) k.is_bad));
      }
      go (inr l) = let k = l.led in record {
        first = l.first;
        through = k.through;
        last = k.last;
        low = l.low;
        high = k.high;
        first_means = l.means;
        last_means = k.means;
        upward = k.upward;
        once = least-distinct (links w m) l.first k.through ns k.last k.upward (λ ps ms u.
            f.least ms (inr (record { first = l.first; low = l.low; means = l.means; led = record { through = ps; last = k.last; high = k.high; upward = u; means = k.means; is_bad = k.is_bad } })) (omega arith));
        breaks = inr (λ q. false≢true (sym (not-true (below (super_of w.base) l.low k.high) k.is_bad) ∙ true_below (super_of w.base) (super-falls w.base) l.low k.high q));
      }

  -- The reason is the first
  pub reason-first : (ns : List ℕ) → reason_by before w m ≡ some ns → First order (super_of w.base) w.base.cache (ties_only w m) (links w m) 0 ns
  unfolding reason_over
  reason-first ns h = shortest-first order (super_of w.base) w.base.cache (ties_only w m) (links w m) (suc (length (links w m))) 0 ns h

  pub reason-breaks : (ns : List ℕ) → reason_by before w m ≡ some ns → Breaks w m ns
  reason-breaks ns h = first-breaks ns (reason-first ns h)

  -- where there is none, nothing that the search is for is there at all
  reason-none : reason_by before w m ≡ none → (ns : List ℕ) → Clashing w m ns → ⊥
  unfolding reason_over
  reason-none h ns c = go (shortest before (super_of w.base) w.base.cache (ties_only w m) (links w m) (suc (length ns)) 0) refl
    where
      go : (o : Option (List ℕ)) → shortest before (super_of w.base) w.base.cache (ties_only w m) (links w m) (suc (length ns)) 0 ≡ o → ⊥
      go none e = omega (arith, shortest-none order (super_of w.base) w.base.cache (ties_only w m) (links w m) (suc (length ns)) 0 e ns c (omega arith))
      go (some ms) e =
          let f = shortest-first order (super_of w.base) w.base.cache (ties_only w m) (links w m) (suc (length ns)) 0 ms e in
          omega (arith, shortest-none order (super_of w.base) w.base.cache (ties_only w m) (links w m) (suc (length (links w m))) 0 h ms f.clashes (omega arith), breaks-length w m ms (first-breaks ms f))

  -- Length first, then the order

  pub reason-shortest : (ns ms : List ℕ) → reason_by before w m ≡ some ns → Breaks w m ms → length ns ≤ length ms
  reason-shortest ns ms h b = (reason-first ns h).least ms (breaks-clashing w m ms b) (omega arith)

  pub reason-not-later : (ns ms : List ℕ) → reason_by before w m ≡ some ns → Breaks w m ms → length ms ≡ length ns → NotBefore order ms ns
  reason-not-later ns ms h b l = (reason-first ns h).not_later ms (breaks-clashing w m ms b) l

  -- every other chain that breaks agreement is longer or goes after it: one that isn't is the reason
  pub reason-only : (ns ms : List ℕ) → reason_by before w m ≡ some ns → Breaks w m ms → length ms ≤ length ns → NotBefore order ns ms → ms ≡ ns
  reason-only ns ms h b l k = neither-before order ms ns (reason-not-later ns ms h b (omega (arith, reason-shortest ns ms h b))) k

  -- nobody may receive a longer chain, or another of that length
  pub reason-rest : (ns ms : List ℕ) → reason_by before w m ≡ some ns → Breaks w m ms → NotSooner before ns ms
  reason-rest ns ms h b = go (eqb (length ms) (length ns)) refl (precedes before ns ms) refl
    where
      go : (s : Bool) → eqb (length ms) (length ns) ≡ s → (t : Bool) → precedes before ns ms ≡ t → NotSooner before ns ms
      go false e t f = inr (inl (omega (arith, eqb-false (length ms) (length ns) e, reason-shortest ns ms h b)))
      go true e true f = let l = eqb-true (length ms) (length ns) e in inr (inr (l, precedes-words order ns ms (sym l) f))
      go true e false f = inl (reason-only ns ms h b (omega (arith, eqb-true (length ms) (length ns) e)) f)

-- What another order of rows moves. There is a reason by both orders or by none, and both reasons have one length. Where they differ, each has at the earliest
-- position the row that its own order puts first.

abbrev pub Moved : (before other : ℕ → ℕ → Bool) → List ℕ → List ℕ → Type 0
Moved before other ns ms = (length ms ≡ length ns) × ((ms ≡ ns) ⊎ (FirstDiffers before ns ms × FirstDiffers other ms ns))

module _ {before other : ℕ → ℕ → Bool} (order : Order before) (another : Order other) (w : World) (m : RowNumbers) where
  moved : (ns ms : List ℕ) → NotSooner before ns ms → NotSooner other ms ns → length ms ≡ length ns → Moved before other ns ms
  moved ns ms (inl e) r l = (l, inl e)
  moved ns ms (inr (inl k)) r l = absurd (omega arith)
  moved ns ms (inr (inr d)) (inl e) l = (l, inl (sym e))
  moved ns ms (inr (inr d)) (inr (inl k)) l = absurd (omega arith)
  moved ns ms (inr (inr d)) (inr (inr e)) l = (l, inr (d.1, e.1))

  pub order-moves : (ns : List ℕ) → reason_by before w m ≡ some ns → (ms : List ℕ) × (reason_by other w m ≡ some ms) × Moved before other ns ms
  order-moves ns h = go (reason_by other w m) refl
    where
      b : Breaks w m ns
      b = reason-breaks order w m ns h

      go : (o : Option (List ℕ)) → reason_by other w m ≡ o → (ms : List ℕ) × (o ≡ some ms) × Moved before other ns ms
      go none e = absurd (reason-none another w m e ns (breaks-clashing w m ns b))
      go (some ms) e =
          let c = reason-breaks another w m ms e in (
            ms,
            refl,
            moved ns ms (reason-rest order w m ns ms h c) (reason-rest another w m ms ns e b)
                (omega (arith, reason-shortest order w m ns ms h c, reason-shortest another w m ms ns e b)),
          )

-- so beside paper 9's reason, the lower row first, the newest is as long, and has the newer row where they differ if they do
pub newest-beside-lowest : (w : World) (m : RowNumbers) (ns : List ℕ) → reason w m ≡ some ns
    → (ms : List ℕ) × (reason_by ltb w m ≡ some ms) × Moved newer ltb ns ms
unfolding reason
newest-beside-lowest w m ns h = order-moves row-order lower-first w m ns h

-- Read from the other end: a tie leads either way

tie-back : (ts : List Tie) (ks : List ℕ) (n : ℕ) (a b : Request) → Memᴰ (link n a b) (tie_links ts ks) → Memᴰ (link n b a) (tie_links ts ks)
unfolding tie_links
tie-back [] ks n a b m = absurd (Memᴰ.not-nil m)
tie-back (t ∷ ts) [] n a b m = absurd (Memᴰ.not-nil m)
tie-back (t ∷ ts) (k ∷ ks) n a b (Memᴰ.head e) = Memᴰ.tail (Memᴰ.head (λ i. link (e i).row (e i).edge.to (e i).edge.from))
tie-back (t ∷ ts) (k ∷ ks) n a b (Memᴰ.tail (Memᴰ.head e)) = Memᴰ.head (λ i. link (e i).row (e i).edge.to (e i).edge.from)
tie-back (t ∷ ts) (k ∷ ks) n a b (Memᴰ.tail (Memᴰ.tail m)) = Memᴰ.tail (Memᴰ.tail (tie-back ts ks n a b m))

-- the requests from a through qs but the last, the last of them first, and then ps
turned_through : Request → List Request → List Request → List Request
turned_through a [] ps = ps
turned_through a (q ∷ qs) ps = turned_through q qs (a ∷ ps)

module _ (T : List Link) (back : (n : ℕ) (a b : Request) → Memᴰ (link n a b) T → Memᴰ (link n b a) T) where
  up-turned : (a : Request) (qs : List Request) (ns : List ℕ) (b : Request) → Upward T a qs ns b → (ps : List Request) (ks : List ℕ) (z : Request) → Upward T a ps ks z
      → Upward T b (turned_through a qs ps) (reverse_aux ns ks) z
  unfolding turned_through
  up-turned a [] [] b u ps ks z v = rw (sym u) v
  up-turned a [] (n ∷ ns) b u ps ks z v = absurd u
  up-turned a (q ∷ qs) [] b u ps ks z v = absurd u
  up-turned a (q ∷ qs) (n ∷ ns) b u ps ks z v = up-turned q qs ns b u.1 (a ∷ ps) (n ∷ ks) z (back n a q u.0, v)

  through-turned : (a : Request) (qs : List Request) (ns : List ℕ) (b : Request) → Upward T a qs ns b → (ps : List Request) → reverse_aux (a ∷ qs) ps ≡ b ∷ turned_through a qs ps
  unfolding turned_through
  through-turned a [] [] b u ps = ap (λ (x : Request). x ∷ ps) u
  through-turned a [] (n ∷ ns) b u ps = absurd u
  through-turned a (q ∷ qs) [] b u ps = absurd u
  through-turned a (q ∷ qs) (n ∷ ns) b u ps = through-turned q qs ns b u.1 (a ∷ ps)

distinct-turned : {A : Type 0} (xs ys : List A) → Distinct xs → Distinct ys → ((x : A) → Memᴰ x xs → Memᴰ x ys → ⊥) → Distinct (reverse_aux xs ys)
distinct-turned [] ys d e f = e
distinct-turned {A} (x ∷ xs) ys d e f = distinct-turned xs (x ∷ ys) d.1 (f x (Memᴰ.head refl), e) (λ z m k. apart z m k)
  where
    apart : (z : A) → Memᴰ z xs → Memᴰ z (x ∷ ys) → ⊥
    apart z m (Memᴰ.head q) = d.0 (rw q at m)
    apart z m (Memᴰ.tail k) = f z (Memᴰ.tail m) k

-- a chain of ties alone that breaks agreement breaks it read from its other end
pub ties-turned : (w : World) (m : RowNumbers) (ns : List ℕ) (b : Breaks w m ns) → Upward (ties_only w m) b.first b.through ns b.last → Breaks w m (reverse ns)
ties-turned w m ns b u =
    let back = tie-back w.ties m.ties in
    let v = up-turned (ties_only w m) back b.first b.through ns b.last u [] [] b.first refl in
    record {
      first = b.last;
      through = turned_through b.first b.through [];
      last = b.first;
      low = b.high;
      high = b.low;
      first_means = b.last_means;
      last_means = b.first_means;
      upward = up_more (ties_only w m) (links w m) b.last (turned_through b.first b.through []) (reverse ns) b.first (tie-link w m) v;
      once = rw (through-turned (ties_only w m) back b.first b.through ns b.last u []) at (distinct-turned (b.first ∷ b.through) [] b.once tt (λ x k l. Memᴰ.not-nil l));
      breaks = inl (v, λ e. differ b.breaks (sym e));
    }
  where
    differ : (Upward (ties_only w m) b.first b.through ns b.last × (b.low ≡ b.high → ⊥)) ⊎ (Below (super_of w.base) b.low b.high → ⊥) → b.low ≡ b.high → ⊥
    differ (inl k) e = k.1 e
    differ (inr k) e = k (same e)

-- Agreement: each row has a number, so that the links are the edges of the constraints

pub record Numbered (w : World) (m : RowNumbers) : Type 0 where
  pub ties : length m.ties ≡ length w.ties
  pub subtypes : length m.subtypes ≡ length w.subtypes

tie-edges : (ts : List Tie) (ns : List ℕ) → length ns ≡ length ts → edges_of (tie_links ts ns) ≡ tie_edges ts
unfolding tie_links tie_edges
tie-edges [] ns h = refl
tie-edges (t ∷ ts) [] h = absurd (omega arith)
tie-edges (t ∷ ts) (n ∷ ns) h = ap
    (λ (z : List (Edge Request)). record { from = at t.one t.name; to = at t.two t.name } ∷ record { from = at t.two t.name; to = at t.one t.name } ∷ z) (tie-edges ts ns (omega arith))

subtype-edges : (ss : List Subtype) (ns : List ℕ) → length ns ≡ length ss → edges_of (subtype_links ss ns) ≡ subtype_edges ss
unfolding subtype_links subtype_edges
subtype-edges [] ns h = refl
subtype-edges (s ∷ ss) [] h = absurd (omega arith)
subtype-edges (s ∷ ss) (n ∷ ns) h = ap (λ (z : List (Edge Request)). record { from = at s.loader s.low; to = at s.loader s.high } ∷ z) (subtype-edges ss ns (omega arith))

edges-append : (L M : List Link) → edges_of (L ++ M) ≡ edges_of L ++ edges_of M
edges-append [] M = refl
edges-append (l ∷ L) M = ap (λ (z : List (Edge Request)). l.edge ∷ z) (edges-append L M)

all_edges : (w : World) (m : RowNumbers) → Numbered w m → edges_of (links w m) ≡ edges w
unfolding edges
all_edges w m n = edges-append (ties_only w m) (subtype_links w.subtypes m.subtypes) ∙ (λ i. tie-edges w.ties m.ties n.ties i ++ subtype-edges w.subtypes m.subtypes n.subtypes i)

module _ {before : ℕ → ℕ → Bool} (order : Order before) (w : World) (m : RowNumbers) (numbered : Numbered w m) where
  -- where there is no reason, the world agrees
  pub none-agrees : reason_by before w m ≡ none → Agrees w
  none-agrees h = record { tied = λ {a} {b} {c} {d} p q k. tied' a b c d p q k (eqb c d) refl; led = λ {a} {b} {c} {d} p q k. led' a b c d p q k (below (super_of w.base) c d) refl }
    where
      tied' : (a b : Request) (c d : ℕ) → find w.base.cache a ≡ some c → find w.base.cache b ≡ some d → Chain (tie_edges w.ties) a b → (t : Bool) → eqb c d ≡ t → c ≡ d
      tied' a b c d p q k true e = eqb-true c d e
      tied' a b c d p q k false e =
          let u = chain-up (ties_only w m) {a = a} {b = b} (rw (tie-edges w.ties m.ties numbered.ties) k) in
          absurd (reason-none order w m h u.1 (inl (record { first = a; low = c; means = p; led = record { through = u.0; last = b; high = d; upward = u.2; means = q; is_bad = ap not e } })))

      led' : (a b : Request) (c d : ℕ) → find w.base.cache a ≡ some c → find w.base.cache b ≡ some d → Chain (edges w) a b → (t : Bool) → below (super_of w.base) c d ≡ t → Below (super_of w.base) c d
      led' a b c d p q k true e = below_true (super_of w.base) (super-falls w.base) c d e
      led' a b c d p q k false e =
          let u = chain-up (links w m) {a = a} {b = b} (rw (all_edges w m numbered) k) in
          absurd (reason-none order w m h u.1 (inr (record { first = a; low = c; means = p; led = record { through = u.0; last = b; high = d; upward = u.2; means = q; is_bad = ap not e } })))

  -- where a chain breaks agreement, the world doesn't agree
  pub breaks-agrees : (ns : List ℕ) → Breaks w m ns → Agrees w → ⊥
  breaks-agrees ns b g = go b.breaks
    where
      go : (Upward (ties_only w m) b.first b.through ns b.last × (b.low ≡ b.high → ⊥)) ⊎ (Below (super_of w.base) b.low b.high → ⊥) → ⊥
      go (inl u) = u.1 (g.tied b.first_means b.last_means (rw (tie-edges w.ties m.ties numbered.ties) at (up-chain (ties_only w m) b.first b.through ns b.last u.0)))
      go (inr n) = n (g.led b.first_means b.last_means (rw (all_edges w m numbered) at (up-chain (links w m) b.first b.through ns b.last b.upward)))

  -- every clash yields a reason, and where there is one the test of agreement fails

  pub clash-reason : agrees w ≡ false → (ns : List ℕ) × (reason_by before w m ≡ some ns)
  clash-reason h = go (reason_by before w m) refl
    where
      go : (o : Option (List ℕ)) → reason_by before w m ≡ o → (ns : List ℕ) × (o ≡ some ns)
      go none e = absurd (false≢true (sym h ∙ true-agrees w (none-agrees e)))
      go (some ns) e = (ns, refl)

  pub reason-clash : (ns : List ℕ) → reason_by before w m ≡ some ns → agrees w ≡ false
  reason-clash ns h = go (agrees w) refl
    where
      go : (t : Bool) → agrees w ≡ t → t ≡ false
      go true e = absurd (breaks-agrees ns (reason-breaks order w m ns h) (agrees-true w e))
      go false e = refl
