-- Rows share a root exactly if a chain of ties joins them; so the roots are the groups.
use mathlib.Core.Path.{◌≡◌, refl, sym, ap, subst, ◌∙◌}
use mathlib.Core.List.Memᴰ
use mathlib.Core.List.{List, ◌∷◌, Memᴰ}
use mathlib.Core.Option.{some}
use mathlib.Core.Logic.{◌⊎◌, inl, inr}
use Prim.Native.Nat.{ℕ, zero, suc, ◌+◌, ◌*◌, ◌<◌, ◌≤◌}
use native.Mathlib.Nat.{add-zero, eq-or-lt_of_le}
use native.Mathlib.Omega.{arith}
use lib.ListN.{length, get_or, get_elem?}
use Rattle.definition.specs.Lists.{rows}
use Rattle.definition.specs.Chains.{Chain, Edge, stay, hop}
use Rattle.definition.specs.Requests.{Request, at}
use Rattle.definition.specs.Constraints.{Tie, tie_edges}
use Rattle.definition.specs.Tables.{tie_at}
use Rattle.definition.specs.Groups.{groups_of}
use Rattle.laws.specs.Chains.{chain-join}
use Rattle.laws.specs.Groups.{one_of, two_of, Ends, GroupNumber, tied-back, end-chain, groups-are}
use Rattle.groups.specs.Firsts.{NodesOf, name_in}
use Rattle.groups.specs.Roots.{Root, top, SameRoot}
use Rattle.groups.specs.Claims.{key_in, Loaders, Naming, Claim, Claimed}
use Rattle.groups.specs.Lowest.{up_to, cells_of, ties_at, RowTied}
use Rattle.groups.specs.Laws.{there-row}
use Rattle.layout.specs.Places.{rows-length, rows-there}
use Rattle.groups.proofs.Filling.{first-unique}
use Rattle.groups.proofs.Claiming.{Also, claimed-as, claimed-more, few-firsts}
use Rattle.groups.proofs.Rooting.{root-low, root-one, root-along, same-on, turn-same}

in_rows : {A : Type 0} (g : ℕ → A) (k i j : ℕ) → i ≤ j → j < i + k → Memᴰ (g j) (rows g k i)
unfolding rows
in_rows g zero i j l h = absurd (omega arith)
in_rows g (suc k) i j l h = go (eq-or-lt_of_le l) (λ m. in_rows g k (suc i) j m (omega arith))
  where
    go : (i ≡ j) ⊎ (i < j) → (i < j → Memᴰ (g j) (rows g k (suc i))) → Memᴰ (g j) (g i ∷ rows g k (suc i))
    go (inl e) f = Memᴰ.head (ap g (sym e))
    go (inr m) f = Memᴰ.tail (f m)

-- the row of an edge
record RowOf (f : ℕ → Tie) (k i : ℕ) (e : Edge Request) : Type 0 where
  row : ℕ
  low : i ≤ row
  high : row < i + k
  from : Ends (f row) e.from
  to : Ends (f row) e.to

edge_row : (f : ℕ → Tie) (k i : ℕ) (e : Edge Request) → Memᴰ e (tie_edges (rows f k i)) → RowOf f k i e
unfolding rows tie_edges
edge_row f zero i e m = absurd (Memᴰ.not-nil m)
edge_row f (suc k) i e (Memᴰ.head q) =
    record { row = i; low = omega arith; high = omega arith; from = inl (ap (λ (z : Edge Request). z.from) (sym q)); to = inr (ap (λ (z : Edge Request). z.to) (sym q)) }
edge_row f (suc k) i e (Memᴰ.tail (Memᴰ.head q)) =
    record { row = i; low = omega arith; high = omega arith; from = inr (ap (λ (z : Edge Request). z.from) (sym q)); to = inl (ap (λ (z : Edge Request). z.to) (sym q)) }
edge_row f (suc k) i e (Memᴰ.tail (Memᴰ.tail m)) =
    let r = edge_row f k (suc i) e m in record { row = r.row; low = omega (arith, r.low); high = omega (arith, r.high); from = r.from; to = r.to }

-- the ends of row i, by its cells
one-is : (ties : List ℕ) (i : ℕ) → one_of (tie_at ties i) ≡ at (get_or ties (i * 3 + 0) 0) (name_in ties i)
unfolding tie_at
one-is ties i = ap (λ (x : ℕ). at (get_or ties x 0) (name_in ties i)) (sym (add-zero (i * 3)))

two_is : (ties : List ℕ) (i : ℕ) → two_of (tie_at ties i) ≡ at (get_or ties (i * 3 + 1) 0) (name_in ties i)
unfolding tie_at
two_is ties i = refl

module _ (ties nodes : List ℕ) (n : ℕ) (is_node : NodesOf (name_in ties) n nodes) (fits : (i : ℕ) → i < n → Loaders ties i) where
  abbrev the_tie : ℕ → Tie
  the_tie i = tie_at ties i

  -- the request that a row names by a key
  record ByKey (j x : ℕ) : Type 0 where
    loader : ℕ
    few : loader < 16
    is : x ≡ get_or nodes j 0 * 16 + loader
    ends : Ends (the_tie j) (at loader (name_in ties j))

  by_key : (j x : ℕ) → Naming ties nodes n j x → ByKey j x
  by_key j x (h, inl e) = record { loader = get_or ties (j * 3 + 0) 0; few = (fits j h).0; is = e; ends = inl (one-is ties j) }
  by_key j x (h, inr e) = record { loader = get_or ties (j * 3 + 1) 0; few = (fits j h).1; is = e; ends = inr (two_is ties j) }

  tie-in : (j : ℕ) → j < n → Memᴰ (the_tie j) (ties_at ties n)
  tie-in j h = in_rows (tie_at ties) n 0 j (omega arith) (omega arith)

  -- rows of one key are tied
  pub key-tied : (j m x : ℕ) → Naming ties nodes n j x → Naming ties nodes n m x → RowTied ties n j m
  key-tied j m x p q =
      let a = by_key j x p in
      let b = by_key m x q in
      let l : b.loader ≡ a.loader = omega (arith, a.is, b.is, a.few, b.few) in
      let k : get_or nodes j 0 ≡ get_or nodes m 0 = omega (arith, a.is, b.is, a.few, b.few) in
      let w : name_in ties m ≡ name_in ties j = sym (is_node m q.0).same ∙ ap (λ (z : ℕ). name_in ties z) (sym k) ∙ (is_node j p.0).same in
      let r : Ends (the_tie m) (at a.loader (name_in ties j)) = subst (λ (z : Request). Ends (the_tie m) z) (λ i. at (l i) (w i)) b.ends in
      chain-join (tied-back (ties_at ties n) (end-chain (ties_at ties n) (the_tie j) _ (tie-in j p.0) a.ends)) (end-chain (ties_at ties n) (the_tie m) _ (tie-in m q.0) r)

  pub tied-self : (a : ℕ) → RowTied ties n a a
  tied-self a = stay refl

  pub tied_on : (a b c : ℕ) → RowTied ties n a b → RowTied ties n b c → RowTied ties n a c
  tied_on a b c p q = chain-join p q

  pub tied-turn : (a b : ℕ) → RowTied ties n a b → RowTied ties n b a
  tied-turn a b p = tied-back (ties_at ties n) p

  -- a row's keys have room
  pub key-fits : (i : ℕ) → i < n → (key_in ties nodes 0 i < n * 16) × (key_in ties nodes 1 i < n * 16)
  key-fits i h = (omega (arith, (is_node i h).low, (fits i h).0), omega (arith, (is_node i h).low, (fits i h).1))

  -- row i names both its requests
  module _ (few : n ≤ 256) (i : ℕ) (h : i < n) {firsts ups : List ℕ} (long : n * 16 ≤ length firsts) (s : Claimed (RowTied ties n) (Naming ties nodes i) i firsts ups) where
    older : (j x : ℕ) → Naming ties nodes i j x → Naming ties nodes n j x
    older j x d = (omega (arith, d.0), d.1)

    pub one-first : (x : ℕ) → x < length firsts → get_or firsts x 0 ≤ 256
    one-first x l = few-firsts s (omega arith) x l

    pub one-lead : i ≤ get_or ups i 0
    one-lead = s.still i (omega arith) (omega arith)

    pub one-claimed : {firsts' ups' : List ℕ} {r : ℕ} (x : ℕ) → x ≡ key_in ties nodes 0 i → Claim firsts ups x i firsts' ups' r → Claimed (RowTied ties n) (Also (Naming ties nodes i) x i) (i + 1) firsts' ups' × Root ups' i r
    one-claimed x e c =
        claimed-more (RowTied ties n) (Naming ties nodes i) tied-self tied_on tied-turn (i + 1) x i i (omega arith) (omega (arith, e, (key-fits i h).0)) (omega arith)
        (claimed-as (omega arith) (λ j y d. d) (λ j y d. d) s) (top {p = i} one-lead refl) (λ m d. key-tied i m x (h, inl e) (older m x d)) c

    module _ {firsts' ups' : List ℕ} (x low : ℕ) (is : x ≡ key_in ties nodes 0 i) (long' : n * 16 ≤ length firsts') (s' : Claimed (RowTied ties n) (Also (Naming ties nodes i) x i) (i + 1) firsts' ups') (lead : Root ups' i low) where
      all-older : (j y : ℕ) → Also (Naming ties nodes i) x i j y → Naming ties nodes n j y
      all-older j y (inl d) = older j y d
      all-older j y (inr (e, f)) = (omega (arith, e), inl (f ∙ is ∙ ap (λ (k : ℕ). key_in ties nodes 0 k) (sym e)))

      pub two-first : (y : ℕ) → y < length firsts' → get_or firsts' y 0 ≤ 256
      two-first y l = few-firsts s' (omega arith) y l

      pub two-claimed : {firsts'' ups'' : List ℕ} {r : ℕ} (y : ℕ) → y ≡ key_in ties nodes 1 i → Claim firsts' ups' y low firsts'' ups'' r → Claimed (RowTied ties n) (Naming ties nodes (i + 1)) (i + 1) firsts'' ups''
      two-claimed y e c =
          claimed-as (omega arith) to from
          (claimed-more (RowTied ties n) (Also (Naming ties nodes i) x i) tied-self tied_on tied-turn (i + 1) y i low (omega arith) (omega (arith, e, (key-fits i h).1)) (omega arith) s' lead
          (λ m d. key-tied i m y (h, inr e) (all-older m y d)) c).0
        where
          to : (j z : ℕ) → Also (Also (Naming ties nodes i) x i) y i j z → Naming ties nodes (i + 1) j z
          to j z (inl (inl d)) = (omega (arith, d.0), d.1)
          to j z (inl (inr (q, f))) = (omega (arith, q), inl (f ∙ is ∙ ap (λ (k : ℕ). key_in ties nodes 0 k) (sym q)))
          to j z (inr (q, f)) = (omega (arith, q), inr (f ∙ e ∙ ap (λ (k : ℕ). key_in ties nodes 1 k) (sym q)))

          from : (j z : ℕ) → Naming ties nodes (i + 1) j z → Also (Also (Naming ties nodes i) x i) y i j z
          from j z (l, d) = go (eq-or-lt_of_le (below l)) d
            where
              below : j < i + 1 → j ≤ i
              below l = omega arith

              go : (j ≡ i) ⊎ (j < i) → (z ≡ key_in ties nodes 0 j) ⊎ (z ≡ key_in ties nodes 1 j) → Also (Also (Naming ties nodes i) x i) y i j z
              go (inr m) d = inl (inl (m, d))
              go (inl q) (inl f) = inl (inr (q, f ∙ ap (λ (k : ℕ). key_in ties nodes 0 k) q ∙ sym is))
              go (inl q) (inr f) = inr (q, f ∙ ap (λ (k : ℕ). key_in ties nodes 1 k) q ∙ sym e)

  module _ (few : n ≤ 256) {firsts ups : List ℕ} (s : Claimed (RowTied ties n) (Naming ties nodes n) n firsts ups) where
    key_of : (j : ℕ) (a : Request) → j < n → Ends (the_tie j) a → Naming ties nodes n j (get_or nodes j 0 * 16 + a.loader) × (name_in ties j ≡ a.name)
    key_of j a h (inl e) = let q = sym (one-is ties j) ∙ e in ((h, inl (ap (λ (z : Request). get_or nodes j 0 * 16 + z.loader) (sym q))), ap (λ (z : Request). z.name) q)
    key_of j a h (inr e) = let q = sym (two_is ties j) ∙ e in ((h, inr (ap (λ (z : Request). get_or nodes j 0 * 16 + z.loader) (sym q))), ap (λ (z : Request). z.name) q)

    -- rows that name one request share a root
    meet : (i j : ℕ) (a : Request) → i < n → j < n → Ends (the_tie i) a → Ends (the_tie j) a → SameRoot ups i j
    meet i j a h k p q =
        let x = key_of i a h p in
        let y = key_of j a k q in
        let w : get_or nodes i 0 ≡ get_or nodes j 0 = first-unique (x.1 ∙ sym y.1) (is_node i h) (is_node j k) in
        let z : Naming ties nodes n j (get_or nodes i 0 * 16 + a.loader) = subst (λ (v : ℕ). Naming ties nodes n j (v * 16 + a.loader)) (sym w) y.0 in
        let f = s.joint i _ x.0 in
        let g = s.joint j _ z in
        let e : f.0 ≡ g.0 = omega (arith, f.1, g.1) in
        same-on f.2 (turn-same (subst (λ (v : ℕ). SameRoot ups j v) (sym e) g.2))

    chain_same : (i j : ℕ) {y : Request} → i < n → j < n → Chain (tie_edges (ties_at ties n)) (one_of (the_tie i)) y → Ends (the_tie j) y → SameRoot ups i j
    chain_same i j {y} h k (stay e) q = meet i j y h k (inl e) q
    chain_same i j {y} h k (hop {b} c m) q =
        let r = edge_row (tie_at ties) n 0 (record { from = b; to = y }) m in
        let l : r.row < n = omega (arith, r.high) in
        same-on (chain_same i r.row h l c r.from) (meet r.row j y l k r.to q)

    pub roots-groups : (roots : List ℕ) → ((p : ℕ) → p < n → Root ups p (get_or roots p 0)) → cells_of roots n ≡ groups_of (ties_at ties n) (up_to n)
    roots-groups roots root = groups-are (ties_at ties n) (up_to n) (cells_of roots n) (rows-length _ n 0 ∙ sym (rows-length _ n 0)) each
      where
        group : (i : ℕ) → i < n → GroupNumber (ties_at ties n) (up_to n) (one_of (the_tie i)) (get_or roots i 0)
        group i h =
            let r = root i h in
            let l : get_or roots i 0 < n = omega (arith, root-low r) in
            record {
              tie = the_tie (get_or roots i 0);
              row = record { row = get_or roots i 0; tie = rows-there (tie_at ties) n (get_or roots i 0) l; number = rows-there (λ i. i) n (get_or roots i 0) l };
              chain = root-along (RowTied ties n) n tied-self tied_on (λ p g d. s.sound p (omega arith) d) h r;
              least = λ u m k p q c.
                  let t = there-row (tie_at ties) n k u p in
                  let v = there-row (λ i. i) n k m q in
                  let o = chain_same i k h t.0 c (inl (sym (ap (λ (z : Tie). one_of z) t.1))) in
                  omega (arith, v.1, root-one r o.one, root-low o.two);
            }

        each : (i : ℕ) (t : Tie) (g : ℕ) → get_elem? (ties_at ties n) i ≡ some t → get_elem? (cells_of roots n) i ≡ some g → GroupNumber (ties_at ties n) (up_to n) (one_of t) g
        each i t g x y =
            let p = there-row (tie_at ties) n i t x in
            let q = there-row (λ i. get_or roots i 0) n i g y in
            subst (λ (z : Tie). GroupNumber (ties_at ties n) (up_to n) (one_of z) g) (sym p.1)
            (subst (λ (z : ℕ). GroupNumber (ties_at ties n) (up_to n) (one_of (the_tie i)) z) (sym q.1) (group i p.0))
