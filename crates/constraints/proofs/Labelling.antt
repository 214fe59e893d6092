-- Labels written row by row, and groups of places by their labels.
use mathlib.Core.Path.{◌≡◌, refl, sym, ap, ◌∙◌}
use mathlib.Core.Bool.{Bool, true, false, ◌||◌}
use mathlib.Core.List.{List}
use Prim.Native.Nat.{ℕ, zero, suc, ◌+◌, ◌-◌, ◌<◌, ◌≤◌}
use native.Mathlib.Omega.{arith}
use lib.ListN.{length, get_or, set, length-set}
use lib.Seq.{get_or-set_same, get_or-set_other}
use lib.Dec.{eqb}
use borrow.Author.Tests.{eqb-true, eqb-false}
use Rattle.constraints.specs.Nodes.{place_limit, NodesOf}
use Rattle.constraints.specs.Groups.{label_from, Rooted}
use Rattle.constraints.proofs.Named.{first-unique}

-- one row more
module _ (nodes labels gs : List ℕ) (ones tied k i n v : ℕ) (is : v ≡ place_limit + get_or gs i 0)
    (one : get_or nodes (ones + i) 0 < length labels) (two : get_or nodes (ones + tied + i) 0 < length labels)
    (all : (x : ℕ) → x < n → get_or labels x 0 ≡ label_from nodes ones tied gs k (suc i) x) where
  abbrev a : ℕ
  a = get_or nodes (ones + i) 0

  abbrev b : ℕ
  b = get_or nodes (ones + tied + i) 0

  abbrev written : List ℕ
  written = set (set labels a v) b v

  at-two : get_or written b 0 ≡ v
  at-two = get_or-set_same (set labels a v) b v 0 (omega (arith, two, length-set labels a v))

  pub label-more : (x : ℕ) → x < n → get_or written x 0 ≡ label_from nodes ones tied gs (suc k) i x
  unfolding label_from
  label-more x h = go (eqb a x) (eqb b x) refl refl
    where
      go : (s t : Bool) → eqb a x ≡ s → eqb b x ≡ t
          → get_or written x 0 ≡ elim (s || t) as (λ _. ℕ) [ true ↦ place_limit + get_or gs i 0 | false ↦ label_from nodes ones tied gs k (suc i) x ]
      go true true p q = ap (λ (y : ℕ). get_or written y 0) (sym (eqb-true b x q)) ∙ (at-two ∙ is)
      go false true p q = ap (λ (y : ℕ). get_or written y 0) (sym (eqb-true b x q)) ∙ (at-two ∙ is)
      go true false p q =
          get_or-set_other (set labels a v) b x v 0 (λ e. eqb-false b x q (sym e))
          ∙ (ap (λ (y : ℕ). get_or (set labels a v) y 0) (sym (eqb-true a x p)) ∙ (get_or-set_same labels a v 0 one ∙ is))
      go false false p q = get_or-set_other (set labels a v) b x v 0 (λ e. eqb-false b x q (sym e)) ∙ (get_or-set_other labels a x v 0 (λ e. eqb-false a x p (sym e)) ∙ all x h)

-- the row before row i, whose ends and label are given by their values
pub label-before : (nodes labels gs : List ℕ) (ones tied i n one two v : ℕ) → 0 < i → i ≤ tied → v ≡ place_limit + get_or gs (i - 1) 0 → one ≡ get_or nodes (ones + (i - 1)) 0
    → two ≡ get_or nodes (ones + tied + (i - 1)) 0 → one < length labels → two < length labels → ((x : ℕ) → x < n → get_or labels x 0 ≡ label_from nodes ones tied gs (tied - i) i x)
    → (x : ℕ) → x < n → get_or (set (set labels one v) two v) x 0 ≡ label_from nodes ones tied gs (tied - (i - 1)) (i - 1) x
label-before nodes labels gs ones tied zero n one two v h few is p q l m all = absurd (omega arith)
label-before nodes labels gs ones tied (suc j) n one two v h few is p q l m all =
    let z : suc j - 1 ≡ j = omega arith in
    let k : tied - j ≡ suc (tied - suc j) = omega arith in
    let one-is : one ≡ get_or nodes (ones + j) 0 = rw z at p in
    let two_is : two ≡ get_or nodes (ones + tied + j) 0 = rw z at q in
    rw (z, k, one-is, two_is) (label-more nodes labels gs ones tied (tied - suc j) j n v (rw z at is) (rw one-is at l) (rw two_is at m) all)

-- before any row each node is its own label
pub label-none : (nodes labels gs : List ℕ) (ones tied n : ℕ) → ((x : ℕ) → x < n → get_or labels x 0 ≡ x) → (x : ℕ) → x < n → get_or labels x 0 ≡ label_from nodes ones tied gs (tied - tied) tied x
unfolding label_from
label-none nodes labels gs ones tied n h x l = let e : tied - tied ≡ 0 = omega arith in rw e (h x l)

-- the first places with a label are roots
pub rooted-by : (labels groups : List ℕ) (n m : ℕ) → m ≤ n → NodesOf labels n groups → Rooted groups m
rooted-by labels groups n m few h = record {
  low = λ p l. (h p (omega arith)).low;
  top = λ p l. let f = h p (omega arith) in first-unique f.same (h (get_or groups p 0) (omega (arith, f.low))) f;
}
