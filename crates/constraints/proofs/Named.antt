-- The requests that a store's places name, and what a cached one means: the class of the first row with its node.
use mathlib.Core.Path.{◌≡◌, sym, ap, ◌∙◌}
use mathlib.Core.Option.{some}
use mathlib.Core.List.{List}
use Prim.Native.Nat.{ℕ, ◌+◌, ◌*◌, ◌<◌, ◌/◌, ◌%◌}
use native.Mathlib.Nat.{add-zero}
use native.Mathlib.Omega.{arith}
use lib.ListN.{get_or}
use Rattle.definition.specs.Lists.{rows}
use Rattle.definition.specs.Requests.{Request, at}
use Rattle.definition.specs.Classes.{find}
use Rattle.definition.specs.Tables.{entry_at, tie_at, subtype_at}
use Rattle.constraints.specs.Nodes.{request_of, request_in, AllNumbered, First, NodesOf, ClassesOf}
use Rattle.constraints.proofs.Rows.{Order, less, equal, more, order}
use Rattle.constraints.proofs.Edges.{forward, upward, find_at}

-- Numbers and first places

pub number-eq : (x y : ℕ) → request_of x ≡ request_of y → x ≡ y
unfolding request_of
number-eq x y e =
    let l : x / 65536 ≡ y / 65536 = ap (λ (r : Request). r.loader) e in
    let n : x % 65536 ≡ y % 65536 = ap (λ (r : Request). r.name) e in
    omega arith

-- places of one number have one first place
pub first-unique : {numbers : List ℕ} {p q r s : ℕ} → get_or numbers p 0 ≡ get_or numbers q 0 → First numbers p r → First numbers q s → r ≡ s
first-unique {numbers} {p} {q} {r} {s} e f g = go (order r s)
  where
    go : Order r s → r ≡ s
    go (less h) = absurd (g.none r h (f.same ∙ e))
    go (equal h) = h
    go (more h) = absurd (f.none s h (g.same ∙ sym e))

-- cell 0 of a row
first_cell : (t : List ℕ) (name i : ℕ) → request_in t 0 name i ≡ at (get_or t (i * 3) 0) (get_or t (i * 3 + name) 0)
unfolding request_in
first_cell t name i = ap (λ (x : ℕ). at (get_or t x 0) (get_or t (i * 3 + name) 0)) (add-zero (i * 3))

module _ {cache ties subtypes numbers : List ℕ} {n tied noted : ℕ} (put : AllNumbered cache n ties tied subtypes noted numbers) where
  abbrev ones : ℕ
  ones = n + noted + noted

  abbrev named : ℕ → Request
  named p = request_of (get_or numbers p 0)

  -- the names of the constraints' places

  pub low-at : (i : ℕ) → i < noted → named (n + i) ≡ (upward (subtype_at subtypes i)).from
  unfolding subtype_at
  low-at i h = put.low_put i h ∙ first_cell subtypes 1 i

  pub high-at : (i : ℕ) → i < noted → named (n + noted + i) ≡ (upward (subtype_at subtypes i)).to
  unfolding subtype_at
  high-at i h = put.high_put i h ∙ first_cell subtypes 2 i

  pub one_at : (i : ℕ) → i < tied → named (ones + i) ≡ (forward (tie_at ties i)).from
  unfolding tie_at
  one_at i h = put.one_put i h ∙ first_cell ties 2 i

  pub two_at : (i : ℕ) → i < tied → named (ones + tied + i) ≡ (forward (tie_at ties i)).to
  unfolding tie_at request_in
  two_at i h = put.two_put i h

  -- what a cached request means

  pub cached-at : (i : ℕ) → i < n → named i ≡ (entry_at cache i).request
  unfolding entry_at
  cached-at i h = let e : 0 + i ≡ i = omega arith in rw e at (put.cache_put i h ∙ first_cell cache 1 i)

  module _ (nodes classes : List ℕ) (is_node : NodesOf numbers (n + noted + noted + tied + tied) nodes) (is_class : ClassesOf cache nodes n classes) where
    class_of : (i : ℕ) → i < n → (entry_at cache (get_or nodes i 0)).class ≡ get_or classes i 0
    unfolding entry_at
    class_of i h = sym (is_class i h)

    pub found : (i : ℕ) → i < n → find (rows (entry_at cache) n 0) (entry_at cache i).request ≡ some (get_or classes i 0)
    found i h =
        let f = is_node i (omega arith) in
        let k : get_or nodes i 0 < n = omega (arith, f.low) in
        let same : (entry_at cache (get_or nodes i 0)).request ≡ (entry_at cache i).request = sym (cached-at (get_or nodes i 0) k)
        ∙ ap (λ (x : ℕ). request_of x) f.same ∙ cached-at i h in
        find_at cache (entry_at cache i).request n 0 (get_or nodes i 0) (omega arith) (omega arith) same
        (λ j _ m q. f.none j m (number-eq (get_or numbers j 0) (get_or numbers i 0) (cached-at j (omega arith) ∙ q ∙ sym (cached-at i h))))
        ∙ ap (λ (x : ℕ). some x) (class_of i h)
