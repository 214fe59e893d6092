-- The points at which a method's instructions start: from 0 by the sizes of instructions, in order, up to the first that can't be read.
use Rattle.std.specs.Prelude.{◌≡◌, ◌⊎◌, length}
use Rattle.std.proofs.Math.Path.{refl}
use Rattle.std.proofs.Common.{sym, ◌∙◌, subst, inl, inr, arith}
use Rattle.std.proofs.Math.Option.{Option, none, some, some-injective}
use mathlib.Core.List.{List, [], ◌∷◌, Memᴰ}
use Prim.Native.Nat.{ℕ, zero, suc, ◌+◌, ◌≤◌, ◌<◌}
use Rattle.definition.specs.Classes.{Class, Method}
use Rattle.definition.specs.Instructions.{Decoded, decode}
use Rattle.laws.specs.Sized.{within, sized}

-- from point p on, where n instructions or fewer are left
unfoldable pub points_from : ℕ → List ℕ → ℕ → ℕ → List ℕ
points_from version code zero p = []
points_from version code (suc n) p = elim (decode version code p) [ none ↦ [] | some i ↦ p ∷ points_from version code n (p + i.size) ]

-- each instruction has a byte or more
abbrev pub points : Class → Method → List ℕ
points k m = points_from k.version m.code (length m.code) 0

module _ (version : ℕ) (code : List ℕ) where
  pub point-here : (n p : ℕ) (i : Decoded) → decode version code p ≡ some i → points_from version code (suc n) p ≡ p ∷ points_from version code n (p + i.size)
  unfolding points_from
  point-here n p i e = rw (e, points_from) refl

  -- no instruction starts at the end of the code or behind it
  pub past-none : (p : ℕ) → length code ≤ p → decode version code p ≡ none
  past-none p l = go (decode version code p) refl
    where
      go : (o : Option Decoded) → decode version code p ≡ o → o ≡ none
      go none e = refl
      go (some i) e = absurd (omega (arith, within version code p i e))

  pub point-none : (n p : ℕ) → decode version code p ≡ none → points_from version code n p ≡ []
  unfolding points_from
  point-none zero p e = refl
  point-none (suc n) p e = rw (e, points_from) refl

  -- the first is p itself; the others are those behind it
  pub point-cases : (n p q : ℕ) → Memᴰ q (points_from version code (suc n) p) → (i : Decoded) × (decode version code p ≡ some i) × ((q ≡ p) ⊎ Memᴰ q (points_from version code n (p + i.size)))
  unfolding points_from
  point-cases n p q m = go (decode version code p) refl m
    where
      go : (o : Option Decoded) → decode version code p ≡ o → Memᴰ q (elim o as (λ _. List ℕ) [ none ↦ [] | some i ↦ p ∷ points_from version code n (p + i.size) ])
          → (i : Decoded) × (decode version code p ≡ some i) × ((q ≡ p) ⊎ Memᴰ q (points_from version code n (p + i.size)))
      go none e never = elim never [ ]
      go (some i) e x = (i, e, mathlib.Core.List.Memᴰ.cases_cons x)

  pub no-points : {A : Type 0} (p q : ℕ) → Memᴰ q (points_from version code zero p) → A
  unfolding points_from
  no-points p q m = absurd (mathlib.Core.List.Memᴰ.not-nil m)

  -- an instruction starts at each
  pub point-reads : (n p q : ℕ) → Memᴰ q (points_from version code n p) → (i : Decoded) × (decode version code q ≡ some i)
  point-reads zero p q m = no-points p q m
  point-reads (suc n) p q m = let c = point-cases n p q m in go c.0 c.1 c.2 (λ r x. point-reads n r q x)
    where
      go : (i : Decoded) → decode version code p ≡ some i → (q ≡ p) ⊎ Memᴰ q (points_from version code n (p + i.size))
          → ((r : ℕ) → Memᴰ q (points_from version code n r) → (j : Decoded) × (decode version code q ≡ some j)) → (j : Decoded) × (decode version code q ≡ some j)
      go i e (inl z) ih = (i, subst (λ (x : ℕ). decode version code x ≡ some i) (sym z) e)
      go i e (inr x) ih = ih (p + i.size) x

  -- where an instruction that is read starts at p, p is a point
  pub point-first : (n p : ℕ) (i : Decoded) → length code ≤ p + n → decode version code p ≡ some i → Memᴰ p (points_from version code n p)
  point-first zero p i l e = absurd (omega (arith, within version code p i e))
  point-first (suc n) p i l e = rw (point-here n p i e) (mathlib.Core.List.Memᴰ.head refl)

  -- and where one starts behind a point's instruction, that is a point too
  pub point-next : (n p q : ℕ) → length code ≤ p + n → Memᴰ q (points_from version code n p) → (i j : Decoded) → decode version code q ≡ some i → decode version code (q + i.size) ≡ some j
      → Memᴰ (q + i.size) (points_from version code n p)
  point-next zero p q l m i j d e = no-points p q m
  point-next (suc n) p q l m i j d e = let c = point-cases n p q m in go c.0 c.1 c.2 (λ r f x. point-next n r q f x i j d e)
    where
      go : (a : Decoded) → decode version code p ≡ some a → (q ≡ p) ⊎ Memᴰ q (points_from version code n (p + a.size))
          → ((r : ℕ) → length code ≤ r + n → Memᴰ q (points_from version code n r) → Memᴰ (q + i.size) (points_from version code n r))
          → Memᴰ (q + i.size) (points_from version code (suc n) p)
      go a f o ih =
          let far : length code ≤ (p + a.size) + n = omega (arith, sized version code p a f) in
          rw (point-here n p a f) (mathlib.Core.List.Memᴰ.tail {xs = points_from version code n (p + a.size)} (each far o))
        where
          each : length code ≤ (p + a.size) + n → (q ≡ p) ⊎ Memᴰ q (points_from version code n (p + a.size)) → Memᴰ (q + i.size) (points_from version code n (p + a.size))
          each far (inl z) =
              let same : a ≡ i = some-injective _ _ (sym f ∙ (rw z at d)) in
              let here : q + i.size ≡ p + a.size = cc in
              rw here (point-first n (p + a.size) j far (rw here at e))
          each far (inr x) = ih (p + a.size) far x

  -- none lies before p, and none within an instruction that starts at one
  point-from : (n p q : ℕ) → Memᴰ q (points_from version code n p) → p ≤ q
  point-from zero p q m = no-points p q m
  point-from (suc n) p q m = let c = point-cases n p q m in go c.0 c.2 (λ r x. point-from n r q x)
    where
      go : (i : Decoded) → (q ≡ p) ⊎ Memᴰ q (points_from version code n (p + i.size)) → ((r : ℕ) → Memᴰ q (points_from version code n r) → r ≤ q) → p ≤ q
      go i (inl z) ih = omega arith
      go i (inr x) ih = omega (arith, ih (p + i.size) x)

  pub point-between : (n p q r : ℕ) → Memᴰ q (points_from version code n p) → Memᴰ r (points_from version code n p) → (i : Decoded) → decode version code q ≡ some i → q < r → q + i.size ≤ r
  point-between zero p q r x y i d l = no-points p q x
  point-between (suc n) p q r x y i d l =
      let a = point-cases n p q x in
      let b = point-cases n p r y in
      let same : b.0 ≡ a.0 = some-injective _ _ (sym b.1 ∙ a.1) in
      let later : (r ≡ p) ⊎ Memᴰ r (points_from version code n (p + a.0.size)) = rw same at b.2 in
      go a.0 a.1 a.2 later (λ x y. point-between n (p + a.0.size) q r x y i d l)
    where
      go : (j : Decoded) → decode version code p ≡ some j → (q ≡ p) ⊎ Memᴰ q (points_from version code n (p + j.size)) → (r ≡ p) ⊎ Memᴰ r (points_from version code n (p + j.size))
          → (Memᴰ q (points_from version code n (p + j.size)) → Memᴰ r (points_from version code n (p + j.size)) → q + i.size ≤ r) → q + i.size ≤ r
      go j e (inl z) (inl w) ih = omega arith
      go j e (inl z) (inr w) ih =
          let same : j ≡ i = some-injective _ _ (sym e ∙ (rw z at d)) in
          let here : q + i.size ≡ p + j.size = cc in
          omega (arith, point-from n (p + j.size) r w)
      go j e (inr z) (inl w) ih = omega (arith, point-from n (p + j.size) q z)
      go j e (inr z) (inr w) ih = ih z w
