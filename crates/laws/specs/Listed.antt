-- Where no two rows have one number, a chain that breaks agreement lists no row twice, so no more rows than there are.
use Rattle.std.specs.Prelude.{◌≡◌, refl, ◌⊎◌, ℕ, ◌+◌, ◌≤◌, length}
use Rattle.std.proofs.Common.{sym, ap, ◌∙◌, arith, length-append}
use mathlib.Core.List.Memᴰ
use mathlib.Core.List.{List, [], ◌∷◌, ◌++◌, Memᴰ}
use Rattle.std.proofs.Math.Logic.{inl, inr}
use Rattle.definition.specs.Requests.{Request, at}
use Rattle.definition.specs.Constraints.{Tie, Subtype, World}
use Rattle.definition.specs.Tables.{RowNumbers}
use Rattle.definition.specs.Reasons.{Link, link, Upward, Distinct, Breaks, links, tie_links, subtype_links}
use Rattle.laws.specs.Chosen.{distinct-length}

-- links of one row share their ends
abbrev Paired : List Link → Type 0
Paired L = (l k : Link) → Memᴰ l L → Memᴰ k L → l.row ≡ k.row → (k.edge.from ≡ l.edge.from) ⊎ (k.edge.to ≡ l.edge.from)

module _ (ss : List Subtype) (ms : List ℕ) where
  -- a link's row has one of the numbers
  subtype-number : (us : List Subtype) (ns : List ℕ) (l : Link) → Memᴰ l (subtype_links us ns) → Memᴰ l.row ns
  unfolding subtype_links
  subtype-number [] ns l m = absurd (Memᴰ.not-nil m)
  subtype-number (s ∷ us) [] l m = absurd (Memᴰ.not-nil m)
  subtype-number (s ∷ us) (n ∷ ns) l (Memᴰ.head e) = Memᴰ.head (ap (λ (z : Link). z.row) e)
  subtype-number (s ∷ us) (n ∷ ns) l (Memᴰ.tail m) = Memᴰ.tail (subtype-number us ns l m)

  right : (xs : List ℕ) (y : ℕ) → Memᴰ y ms → Memᴰ y (xs ++ ms)
  right [] y m = m
  right (x ∷ xs) y m = Memᴰ.tail (right xs y m)

  pub link-number : (ts : List Tie) (ns : List ℕ) (l : Link) → Memᴰ l (tie_links ts ns ++ subtype_links ss ms) → Memᴰ l.row (ns ++ ms)
  unfolding tie_links
  link-number [] ns l m = right ns l.row (subtype-number ss ms l m)
  link-number (t ∷ ts) [] l m = subtype-number ss ms l m
  link-number (t ∷ ts) (n ∷ ns) l (Memᴰ.head e) = Memᴰ.head (ap (λ (z : Link). z.row) e)
  link-number (t ∷ ts) (n ∷ ns) l (Memᴰ.tail (Memᴰ.head e)) = Memᴰ.head (ap (λ (z : Link). z.row) e)
  link-number (t ∷ ts) (n ∷ ns) l (Memᴰ.tail (Memᴰ.tail m)) = Memᴰ.tail (link-number ts ns l m)

  -- a further row of another number, from a to b and perhaps back
  paired-on : (L M : List Link) (n : ℕ) (a b : Request) → Paired L → ((l : Link) → Memᴰ l L → n ≡ l.row → ⊥)
      → ((l : Link) → Memᴰ l M → (l ≡ link n a b) ⊎ ((l ≡ link n b a) ⊎ Memᴰ l L)) → Paired M
  paired-on L M n a b p new from l k m o e = go (from l m) (from k o)
    where
      Own : Link → Type 0
      Own z = (z ≡ link n a b) ⊎ ((z ≡ link n b a) ⊎ Memᴰ z L)

      row_of : {c d : Request} (z : Link) → z ≡ link n c d → n ≡ z.row
      row_of z q = sym (ap (λ (y : Link). y.row) q)

      from-of : {c d : Request} (z : Link) → z ≡ link n c d → z.edge.from ≡ c
      from-of z q = ap (λ (y : Link). y.edge.from) q

      to-of : {c d : Request} (z : Link) → z ≡ link n c d → z.edge.to ≡ d
      to-of z q = ap (λ (y : Link). y.edge.to) q

      go : Own l → Own k → (k.edge.from ≡ l.edge.from) ⊎ (k.edge.to ≡ l.edge.from)
      go (inl x) (inl y) = inl (from-of k y ∙ sym (from-of l x))
      go (inl x) (inr (inl y)) = inr (to-of k y ∙ sym (from-of l x))
      go (inl x) (inr (inr y)) = absurd (new k y (row_of l x ∙ e))
      go (inr (inl x)) (inl y) = inr (to-of k y ∙ sym (from-of l x))
      go (inr (inl x)) (inr (inl y)) = inl (from-of k y ∙ sym (from-of l x))
      go (inr (inl x)) (inr (inr y)) = absurd (new k y (row_of l x ∙ e))
      go (inr (inr x)) (inl y) = absurd (new l x (row_of k y ∙ sym e))
      go (inr (inr x)) (inr (inl y)) = absurd (new l x (row_of k y ∙ sym e))
      go (inr (inr x)) (inr (inr y)) = p l k x y e

  subtypes-paired : (us : List Subtype) (ns : List ℕ) → Distinct ns → Paired (subtype_links us ns)
  unfolding subtype_links
  subtypes-paired [] ns d = λ l k m o e. absurd (Memᴰ.not-nil m)
  subtypes-paired (s ∷ us) [] d = λ l k m o e. absurd (Memᴰ.not-nil m)
  subtypes-paired (s ∷ us) (n ∷ ns) d = paired-on (subtype_links us ns) (subtype_links (s ∷ us) (n ∷ ns)) n (at s.loader s.low) (at s.loader s.high) (subtypes-paired us ns d.1)
      (λ l m e. d.0 (rw e (subtype-number us ns l m))) (λ l m. from l m)
    where
      from : (l : Link) → Memᴰ l (link n (at s.loader s.low) (at s.loader s.high) ∷ subtype_links us ns)
          → (l ≡ link n (at s.loader s.low) (at s.loader s.high)) ⊎ ((l ≡ link n (at s.loader s.high) (at s.loader s.low)) ⊎ Memᴰ l (subtype_links us ns))
      from l (Memᴰ.head e) = inl e
      from l (Memᴰ.tail m) = inr (inr m)

  distinct-right : (xs : List ℕ) → Distinct (xs ++ ms) → Distinct ms
  distinct-right [] d = d
  distinct-right (x ∷ xs) d = distinct-right xs d.1

  links-paired : (ts : List Tie) (ns : List ℕ) → Distinct (ns ++ ms) → Paired (tie_links ts ns ++ subtype_links ss ms)
  unfolding tie_links
  links-paired [] ns d = subtypes-paired ss ms (distinct-right ns d)
  links-paired (t ∷ ts) [] d = subtypes-paired ss ms d
  links-paired (t ∷ ts) (n ∷ ns) d = paired-on (tie_links ts ns ++ subtype_links ss ms) (tie_links (t ∷ ts) (n ∷ ns) ++ subtype_links ss ms) n (at t.one t.name) (at t.two t.name) (links-paired ts ns d.1)
      (λ l m e. d.0 (rw e (link-number ts ns l m))) (λ l m. from l m)
    where
      a : Request
      a = at t.one t.name

      b : Request
      b = at t.two t.name

      from : (l : Link) → Memᴰ l (link n a b ∷ link n b a ∷ (tie_links ts ns ++ subtype_links ss ms)) → (l ≡ link n a b) ⊎ ((l ≡ link n b a) ⊎ Memᴰ l (tie_links ts ns ++ subtype_links ss ms))
      from l (Memᴰ.head e) = inl e
      from l (Memᴰ.tail (Memᴰ.head e)) = inr (inl e)
      from l (Memᴰ.tail (Memᴰ.tail m)) = inr (inr m)

-- a listed row is a link between two requests along the chain
row-link : (L : List Link) (a : Request) (qs : List Request) (ns : List ℕ) (b : Request) → Upward L a qs ns b → (n : ℕ) → Memᴰ n ns
    → (x : Request) × (y : Request) × Memᴰ (link n x y) L × Memᴰ x (a ∷ qs) × Memᴰ y (a ∷ qs)
row-link L a [] [] b u n m = absurd (Memᴰ.not-nil m)
row-link L a [] (k ∷ ns) b u n m = absurd u
row-link L a (q ∷ qs) [] b u n m = absurd u
row-link L a (q ∷ qs) (k ∷ ns) b u n (Memᴰ.head e) = (a, q, rw e u.0, Memᴰ.head refl, Memᴰ.tail (Memᴰ.head refl))
row-link L a (q ∷ qs) (k ∷ ns) b u n (Memᴰ.tail m) = let r = row-link L q qs ns b u.1 n m in (r.0, r.1, r.2, Memᴰ.tail r.3, Memᴰ.tail r.4)

rows-once : (L : List Link) (a : Request) (qs : List Request) (ns : List ℕ) (b : Request) → Paired L → Upward L a qs ns b → Distinct (a ∷ qs) → Distinct ns
rows-once L a [] [] b p u d = tt
rows-once L a [] (n ∷ ns) b p u d = absurd u
rows-once L a (q ∷ qs) [] b p u d = tt
rows-once L a (q ∷ qs) (n ∷ ns) b p u d = (λ m. (let r = row-link L q qs ns b u.1 n m in meets r.0 r.1 r.3 r.4 (p (link n a q) (link n r.0 r.1) u.0 r.2 refl)), rows-once L q qs ns b p u.1 d.1)
  where
    meets : (x y : Request) → Memᴰ x (q ∷ qs) → Memᴰ y (q ∷ qs) → (x ≡ a) ⊎ (y ≡ a) → ⊥
    meets x y m o (inl e) = d.0 (rw e at m)
    meets x y m o (inr e) = d.0 (rw e at o)

module _ (w : World) (m : RowNumbers) (once : Distinct (m.ties ++ m.subtypes)) (ns : List ℕ) (b : Breaks w m ns) where
  pub breaks-once : Distinct ns
  breaks-once = rows-once (links w m) b.first b.through ns b.last (links-paired w.subtypes m.subtypes w.ties m.ties once) b.upward b.once

  -- each is a row's number
  pub breaks-rows : (n : ℕ) → Memᴰ n ns → Memᴰ n (m.ties ++ m.subtypes)
  breaks-rows n o = let r = row-link (links w m) b.first b.through ns b.last b.upward n o in link-number w.subtypes m.subtypes w.ties m.ties (link n r.0 r.1) r.2

  pub breaks-count : length ns ≤ length m.ties + length m.subtypes
  breaks-count = omega (arith, distinct-length ns (m.ties ++ m.subtypes) breaks-once breaks-rows, length-append m.ties m.subtypes)
