-- The links of a store's rows: each block of their table is copied behind the one before; they are links between places; and from one node a row leads to one.
use mathlib.Core.Path.{◌≡◌, refl, sym, ap, ◌∙◌}
use mathlib.Core.Bool.{true}
use mathlib.Core.List.{List}
use Prim.Native.Nat.{ℕ, zero, suc, ◌+◌, ◌-◌, ◌<◌, ◌≤◌}
use native.Mathlib.Omega.{arith}
use lib.ListN.{get_or}
use Rattle.definition.specs.Numbers.{cache_limit, tie_limit, subtype_limit, count_ties, count_subtypes, tie_numbers_cell, subtype_numbers_cell}
use Rattle.definition.specs.Lists.{rows}
use Rattle.definition.specs.Tables.{number_at, row_numbers}
use Rattle.layout.specs.InTurn.{RisesFrom, Exactly, in-turn-words}
use Rattle.rows.specs.Numbers.{numbers_fit}
use Rattle.constraints.specs.Nodes.{place_limit, NodesOf}
use Rattle.constraints.specs.Walks.{InRange, Sole}
use Rattle.constraints.specs.Linking.{Copied, Linked, Labelled}
use Rattle.constraints.proofs.Rows.{Order, less, equal, more, order, in_rows}

-- Blocks

-- the first block
first-put : {source old new : List ℕ} {from n : ℕ} → Copied source from n old new 0 → (i : ℕ) → i < n → get_or new i 0 ≡ get_or source (from + i) 0
first-put {source} {old} {new} {from} {n} c i h = let e : i ≡ 0 + i = omega arith in ap (λ (x : ℕ). get_or new x 0) e ∙ c.put i h

pub linked-by : {nodes f0 f1 f2 t0 t1 t2 t3 : List ℕ} {n noted tied : ℕ} → Copied nodes (n + noted + noted) (tied + tied) f0 f1 0
    → Copied nodes n noted f1 f2 (tied + tied) → Copied nodes (n + noted + noted + tied) tied t0 t1 0 → Copied nodes (n + noted + noted) tied t1 t2 tied
    → Copied nodes (n + noted) noted t2 t3 (tied + tied) → Linked nodes n noted tied f2 t3
linked-by {nodes} {f0} {f1} {f2} {t0} {t1} {t2} {t3} {n} {noted} {tied} a b c d e = record {
  forth_from = λ i h. b.kept i (omega arith) ∙ first-put a i (omega arith);
  forth_to = λ i h. e.kept i (omega arith) ∙ d.kept i h ∙ first-put c i h;
  back_from = λ i h. b.kept (tied + i) (omega arith) ∙ first-put a (tied + i) (omega arith) ∙ behind i;
  back_to = λ i h. e.kept (tied + i) (omega arith) ∙ d.put i h;
  up_from = b.put;
  up_to = e.put;
}
  where
    behind : (i : ℕ) → get_or nodes (n + noted + noted + (tied + i)) 0 ≡ get_or nodes (n + noted + noted + tied + i) 0
    behind i = let q : n + noted + noted + (tied + i) ≡ n + noted + noted + tied + i = omega arith in ap (λ (x : ℕ). get_or nodes x 0) q

pub labelled_by : {counts a b c d : List ℕ} {noted tied : ℕ} → Copied counts tie_numbers_cell tied a b 0 → Copied counts tie_numbers_cell tied b c tied
    → Copied counts subtype_numbers_cell noted c d (tied + tied) → Labelled counts noted tied d
unfolding number_at
labelled_by {counts} {a} {b} {c} {d} {noted} {tied} p q r = record {
  forth = λ i h. r.kept i (omega arith) ∙ q.kept i h ∙ first-put p i h;
  back = λ i h. r.kept (tied + i) (omega arith) ∙ q.put i h;
  up = r.put;
}

-- A link is a tie's, forth or back, or a subtype constraint's

pub data Kind (noted tied e : ℕ) : Type 0 where
  is_forth : (i : ℕ) → i < tied → e ≡ i → Kind noted tied e
  is_back : (i : ℕ) → i < tied → e ≡ tied + i → Kind noted tied e
  is_up : (i : ℕ) → i < noted → e ≡ tied + tied + i → Kind noted tied e

pub kind : (noted tied e : ℕ) → e < tied + tied + noted → Kind noted tied e
kind noted tied e h = go (order e tied)
  where
    far : tied ≤ e → Order e (tied + tied) → Kind noted tied e
    far k (less l) = is_back (e - tied) (omega arith) (omega arith)
    far k (equal l) = is_up (e - (tied + tied)) (omega arith) (omega arith)
    far k (more l) = is_up (e - (tied + tied)) (omega arith) (omega arith)

    go : Order e tied → Kind noted tied e
    go (less l) = is_forth e l refl
    go (equal l) = far (omega arith) (order e (tied + tied))
    go (more l) = far (omega arith) (order e (tied + tied))

-- Links between places

module _ {nodes froms tos : List ℕ} {n noted tied : ℕ} (linked : Linked nodes n noted tied froms tos) where
  -- where a link leads from, and where to, as places
  pub record Ends (e : ℕ) : Type 0 where
    pub start : ℕ
    pub end : ℕ
    pub start_fits : start < n + noted + noted + tied + tied
    pub end_fits : end < n + noted + noted + tied + tied
    pub from : get_or froms e 0 ≡ get_or nodes start 0
    pub to : get_or tos e 0 ≡ get_or nodes end 0

  pub ends-of : (e : ℕ) → e < tied + tied + noted → Ends e
  ends-of e h = go (kind noted tied e h)
    where
      go : Kind noted tied e → Ends e
      go (is_forth i l q) = record {
        start = n + noted + noted + i;
        end = n + noted + noted + tied + i;
        start_fits = omega arith;
        end_fits = omega arith;
        from = ap (λ (x : ℕ). get_or froms x 0) q ∙ linked.forth_from i l;
        to = ap (λ (x : ℕ). get_or tos x 0) q ∙ linked.forth_to i l;
      }
      go (is_back i l q) = record {
        start = n + noted + noted + tied + i;
        end = n + noted + noted + i;
        start_fits = omega arith;
        end_fits = omega arith;
        from = ap (λ (x : ℕ). get_or froms x 0) q ∙ linked.back_from i l;
        to = ap (λ (x : ℕ). get_or tos x 0) q ∙ linked.back_to i l;
      }
      go (is_up i l q) = record {
        start = n + i;
        end = n + noted + i;
        start_fits = omega arith;
        end_fits = omega arith;
        from = ap (λ (x : ℕ). get_or froms x 0) q ∙ linked.up_from i l;
        to = ap (λ (x : ℕ). get_or tos x 0) q ∙ linked.up_to i l;
      }

  pub in-range : {numbers : List ℕ} → NodesOf numbers (n + noted + noted + tied + tied) nodes → n ≤ cache_limit → noted ≤ subtype_limit → tied ≤ tie_limit
      → (count : ℕ) → count ≤ tied + tied + noted → InRange froms tos count
  in-range {numbers} is_node a b c count d = record {
    few = omega arith;
    from = λ e h. (let r = ends-of e (omega arith) in near r.start r.start_fits r.from);
    to = λ e h. (let r = ends-of e (omega arith) in near r.end r.end_fits r.to);
  }
    where
      near : {x : ℕ} (p : ℕ) → p < n + noted + noted + tied + tied → x ≡ get_or nodes p 0 → x < place_limit
      near {x} p h e = omega (arith, (is_node p h).low)

-- From one node a row leads to one

-- what rises along rows is twice nowhere
rises-from : (g : ℕ → ℕ) (k i from p : ℕ) → RisesFrom from (rows g k i) → i ≤ p → p < i + k → from ≤ g p
unfolding rows
rises-from g zero i from p r l h = absurd (omega arith)
rises-from g (suc k) i from p r l h = go (order i p) (λ m. rises-from g k (suc i) (suc (g i)) p r.1 m (omega arith))
  where
    go : Order i p → (suc i ≤ p → suc (g i) ≤ g p) → from ≤ g p
    go (less m) f = omega (arith, r.0, f m)
    go (equal e) f = omega (arith, r.0, ap g e)
    go (more m) f = absurd (omega arith)

rises-apart : (g : ℕ → ℕ) (k i from p q : ℕ) → RisesFrom from (rows g k i) → i ≤ p → p < q → q < i + k → g p < g q
unfolding rows
rises-apart g zero i from p q r l m h = absurd (omega arith)
rises-apart g (suc k) i from p q r l m h = go (order i p) (λ o. rises-apart g k (suc i) (suc (g i)) p q r.1 o m (omega arith))
  where
    go : Order i p → (suc i ≤ p → g p < g q) → g p < g q
    go (less o) f = f o
    go (equal e) f = omega (arith, ap g e, rises-from g k (suc i) (suc (g i)) q r.1 (omega arith) (omega arith))
    go (more o) f = absurd (omega arith)

rises-once : (g : ℕ → ℕ) (k from p q : ℕ) → RisesFrom from (rows g k 0) → p < k → q < k → g p ≡ g q → p ≡ q
rises-once g k from p q r l h e = go (order p q)
  where
    go : Order p q → p ≡ q
    go (less o) = absurd (omega (arith, rises-apart g k 0 from p q r (omega arith) o (omega arith)))
    go (equal o) = o
    go (more o) = absurd (omega (arith, rises-apart g k 0 from q p r (omega arith) o (omega arith)))

module _ {counts nodes froms tos labels : List ℕ} {n noted tied t s : ℕ} (linked : Linked nodes n noted tied froms tos) (labelled : Labelled counts noted tied labels) where
  sole-over : {k : ℕ} → Exactly k 0 (rows (number_at tie_numbers_cell counts) t 0) (rows (number_at subtype_numbers_cell counts) s 0) → tied ≤ t → noted ≤ s
      → Sole froms tos labels (tied + tied + noted)
  sole-over x a b d e h k p q = go (kind noted tied d h) (kind noted tied e k)
    where
      from_at : {x y : ℕ} → d ≡ x → e ≡ y → get_or froms x 0 ≡ get_or froms y 0
      from_at u v = ap (λ (z : ℕ). get_or froms z 0) (sym u) ∙ p ∙ ap (λ (z : ℕ). get_or froms z 0) v

      label_at : {x y : ℕ} → d ≡ x → e ≡ y → get_or labels x 0 ≡ get_or labels y 0
      label_at u v = ap (λ (z : ℕ). get_or labels z 0) (sym u) ∙ q ∙ ap (λ (z : ℕ). get_or labels z 0) v

      to_at : {x y : ℕ} → d ≡ x → e ≡ y → get_or tos x 0 ≡ get_or tos y 0 → get_or tos d 0 ≡ get_or tos e 0
      to_at u v w = ap (λ (z : ℕ). get_or tos z 0) u ∙ w ∙ ap (λ (z : ℕ). get_or tos z 0) (sym v)

      one-tie : (i j : ℕ) → i < tied → j < tied → number_at tie_numbers_cell counts i ≡ number_at tie_numbers_cell counts j → i ≡ j
      one-tie i j l m w = rises-once (number_at tie_numbers_cell counts) t 0 i j x.ties (omega arith) (omega arith) w

      one_up : (i j : ℕ) → i < noted → j < noted → number_at subtype_numbers_cell counts i ≡ number_at subtype_numbers_cell counts j → i ≡ j
      one_up i j l m w = rises-once (number_at subtype_numbers_cell counts) s 0 i j x.subtypes (omega arith) (omega arith) w

      apart : (i j : ℕ) → i < tied → j < noted → number_at tie_numbers_cell counts i ≡ number_at subtype_numbers_cell counts j → ⊥
      apart i j l m w = x.once (number_at tie_numbers_cell counts i) (in_rows (number_at tie_numbers_cell counts) t 0 i (omega arith) (omega arith))
          (rw w (in_rows (number_at subtype_numbers_cell counts) s 0 j (omega arith) (omega arith)))

      go : Kind noted tied d → Kind noted tied e → get_or tos d 0 ≡ get_or tos e 0
      go (is_forth i l u) (is_forth j m v) = to_at u v (ap (λ (z : ℕ). get_or tos z 0) (one-tie i j l m (sym (labelled.forth i l) ∙ label_at u v ∙ labelled.forth j m)))
      go (is_forth i l u) (is_back j m v) =
          let w : i ≡ j = one-tie i j l m (sym (labelled.forth i l) ∙ label_at u v ∙ labelled.back j m) in
          to_at u v (linked.forth_to i l ∙ ap (λ (z : ℕ). get_or nodes (n + noted + noted + tied + z) 0) w ∙ sym (linked.back_from j m) ∙ sym (from_at u v) ∙ linked.forth_from i l
          ∙ ap (λ (z : ℕ). get_or nodes (n + noted + noted + z) 0) w ∙ sym (linked.back_to j m))
      go (is_forth i l u) (is_up j m v) = absurd (apart i j l m (sym (labelled.forth i l) ∙ label_at u v ∙ labelled.up j m))
      go (is_back i l u) (is_forth j m v) =
          let w : i ≡ j = one-tie i j l m (sym (labelled.back i l) ∙ label_at u v ∙ labelled.forth j m) in
          to_at u v (linked.back_to i l ∙ ap (λ (z : ℕ). get_or nodes (n + noted + noted + z) 0) w ∙ sym (linked.forth_from j m) ∙ sym (from_at u v) ∙ linked.back_from i l
          ∙ ap (λ (z : ℕ). get_or nodes (n + noted + noted + tied + z) 0) w ∙ sym (linked.forth_to j m))
      go (is_back i l u) (is_back j m v) = to_at u v (ap (λ (z : ℕ). get_or tos (tied + z) 0) (one-tie i j l m (sym (labelled.back i l) ∙ label_at u v ∙ labelled.back j m)))
      go (is_back i l u) (is_up j m v) = absurd (apart i j l m (sym (labelled.back i l) ∙ label_at u v ∙ labelled.up j m))
      go (is_up i l u) (is_forth j m v) = absurd (apart j i m l (sym (labelled.forth j m) ∙ sym (label_at u v) ∙ labelled.up i l))
      go (is_up i l u) (is_back j m v) = absurd (apart j i m l (sym (labelled.back j m) ∙ sym (label_at u v) ∙ labelled.up i l))
      go (is_up i l u) (is_up j m v) = to_at u v (ap (λ (z : ℕ). get_or tos (tied + tied + z) 0) (one_up i j l m (sym (labelled.up i l) ∙ label_at u v ∙ labelled.up j m)))

-- the numbers of the used rows, of which these are the first, are each once
pub sole : {counts nodes froms tos labels : List ℕ} {n noted tied : ℕ} → Linked nodes n noted tied froms tos → Labelled counts noted tied labels → numbers_fit counts ≡ true
    → tied ≤ get_or counts count_ties 0 → noted ≤ get_or counts count_subtypes 0 → (count : ℕ) → count ≤ tied + tied + noted → Sole froms tos labels count
unfolding numbers_fit
sole {counts} linked labelled fit a b count c d e h k =
    sole-over {s = get_or counts count_subtypes 0} linked labelled
    (in-turn-words (row_numbers (rows (number_at tie_numbers_cell counts) (get_or counts count_ties 0) 0) (rows (number_at subtype_numbers_cell counts) (get_or counts count_subtypes 0) 0)) fit)
    a b d e (omega arith) (omega arith)
