-- What a run remembers: at the index of a place its tag and its fact. What is recalled was remembered of that very place.
use Rattle.std.specs.Prelude as Rust
use Rattle.std.specs.Prelude.{◌≡◌, Bool, List, ◌≢◌, ℕ, ◌+◌, ◌*◌, ◌%◌, ◌<◌, ◌≤◌, length, set}
use Rattle.std.proofs.Math.Path.{refl, sym, ap}
use Rattle.std.proofs.Common.{◌∙◌, arith, get_or-set_same, get_or-set_other, eqb-true, eq-eqb, ne_eqb}
use Rattle.std.proofs.Math.Bool.{true, false}
use Rattle.std.proofs.Math.ListN.{get_or}
use Rattle.std.proofs.Math.Dec.{eqb}
use Rattle.std.proofs.lemmas.Bool.{eqb-false}
use Rattle.definition.specs.Instructions.{pick}

unfoldable pub index_of : ℕ → ℕ → ℕ → ℕ
index_of key p r = (67 * key + p + 8 * r) % 512

unfoldable pub tag_of : ℕ → ℕ → ℕ → ℕ
tag_of key p r = 32768 * key + 64 * p + r + 1

unfoldable pub recalled : List ℕ → List ℕ → ℕ → ℕ → ℕ → Rust.Option ℕ
recalled T A key p r = pick (eqb (get_or T (index_of key p r) 0) (tag_of key p r)) (Rust.Some (get_or A (index_of key p r) 0)) Rust.None

-- every fact that is recalled is right
abbrev pub Right : (ℕ → ℕ → ℕ → ℕ → Type 0) → List ℕ → List ℕ → Type 0
Right P T A = (key p r : ℕ) → p < 512 → r < 64 → get_or T (index_of key p r) 0 ≡ tag_of key p r → P key p r (get_or A (index_of key p r) 0)

index-low : (key p r : ℕ) → index_of key p r < 512
unfolding index_of
index-low key p r = omega arith

same_place : (k p r l q s : ℕ) → p < 512 → r < 64 → q < 512 → s < 64 → tag_of k p r ≡ tag_of l q s → (k ≡ l) × (p ≡ q) × (r ≡ s)
unfolding tag_of
same_place k p r l q s a b c d e = (omega arith, omega arith, omega arith)

module _ (P : ℕ → ℕ → ℕ → ℕ → Type 0) where
  -- nothing is remembered of cleared tables
  pub right-cleared : (T A : List ℕ) → ((i : ℕ) → get_or T i 0 ≡ 0) → Right P T A
  unfolding tag_of
  right-cleared T A h key p r a b e = absurd (omega (arith, h (index_of key p r)))

  -- a right fact more
  pub right-more : (T A : List ℕ) → 512 ≤ length T → 512 ≤ length A → Right P T A → (key p r f : ℕ) → p < 512 → r < 64 → P key p r f
      → Right P (set T (index_of key p r) (tag_of key p r)) (set A (index_of key p r) f)
  right-more T A n m h key p r f a b right l q s c d e = go (eqb (index_of l q s) (index_of key p r)) refl
    where
      i : ℕ
      i = index_of key p r

      go : (u : Bool) → eqb (index_of l q s) (index_of key p r) ≡ u → P l q s (get_or (set A (index_of key p r) f) (index_of l q s) 0)
      go true x =
          let z : index_of l q s ≡ index_of key p r = eqb-true _ _ x in
          let y : tag_of key p r ≡ tag_of l q s = sym (get_or-set_same T (index_of key p r) (tag_of key p r) 0 (omega (arith, index-low key p r))) ∙ (ap (λ (w : ℕ). get_or (set T (index_of key p r) (tag_of key p r)) w 0) (sym z) ∙ e) in
          let o = same_place key p r l q s a b c d y in
          rw (z, get_or-set_same A (index_of key p r) f 0 (omega (arith, index-low key p r)), ← o.0, ← o.1, ← o.2) right
      go false x =
          let z : index_of l q s ≢ index_of key p r = eqb-false _ _ x in
          rw (get_or-set_other A (index_of key p r) (index_of l q s) f 0 z) (h l q s c d (sym (get_or-set_other T (index_of key p r) (index_of l q s) (tag_of key p r) 0 z) ∙ e))

  -- what is recalled is right
  pub recalled-right : (T A : List ℕ) → Right P T A → (key p r x : ℕ) → p < 512 → r < 64 → Rust.Some x ≡ recalled T A key p r → P key p r x
  unfolding recalled pick
  recalled-right T A h key p r x a b e = go (eqb (get_or T (index_of key p r) 0) (tag_of key p r)) refl e
    where
      go : (u : Bool) → eqb (get_or T (index_of key p r) 0) (tag_of key p r) ≡ u → Rust.Some x ≡ pick u (Rust.Some (get_or A (index_of key p r) 0)) Rust.None → P key p r x
      go true q z = let y : x ≡ get_or A (index_of key p r) 0 = cc in rw y (h key p r a b (eqb-true _ _ q))
      go false q z = cc

module _ (T A : List ℕ) (key p r i x y : ℕ) (at : i ≡ index_of key p r) (cell : x ≡ get_or T i 0) (tag : y ≡ tag_of key p r) where
  pub recalled-not : x ≢ y → Rust.None ≡ recalled T A key p r
  unfolding recalled pick
  recalled-not h = let z : get_or T (index_of key p r) 0 ≢ tag_of key p r = λ e. h (cell ∙ (ap (λ (w : ℕ). get_or T w 0) at ∙ (e ∙ sym tag))) in rw (ne_eqb _ _ z)

  pub recalled-is : x ≡ y → (f : ℕ) → f ≡ get_or A i 0 → Rust.Some f ≡ recalled T A key p r
  unfolding recalled pick
  recalled-is h f e =
      let z : get_or T (index_of key p r) 0 ≡ tag_of key p r = sym (ap (λ (w : ℕ). get_or T w 0) at) ∙ (sym cell ∙ (h ∙ tag)) in
      let w : f ≡ get_or A (index_of key p r) 0 = e ∙ ap (λ (v : ℕ). get_or A v 0) at in
      rw (eq-eqb _ _ z, w)
