-- The row of the cache in which a request stands first. A lookup is that row's class; so is a lookup in the first rows alone, if the row is one of them. A class's
-- superclass by the row of its entry.
use Rattle.std.specs.Prelude.{◌≡◌, refl, Bool, true, false, length, take}
use Rattle.std.proofs.Math.Path.{ap}
use Rattle.std.proofs.Common.{◌∙◌}
use Rattle.std.proofs.Math.Option.{Option, none, some, none-ne-some}
use mathlib.Core.List.{List, [], ◌∷◌}
use Prim.Native.Nat.{ℕ, zero, suc, ◌+◌, ◌-◌, ◌≤◌, ◌<◌}
use native.Mathlib.Omega.{arith}
use Rattle.std.proofs.Math.ListN.{get_elem?}
use borrow.Author.Tests.{lt-ltb, le-ltb}
use Rattle.definition.specs.Lists.{rows}
use Rattle.definition.specs.Requests.{Request, at, same_request}
use Rattle.definition.specs.Classes.{Base, Class, Entry, find, lower, super_of}
use Rattle.layout.specs.Places.{rows_step, rows_none, rows_at, rows-past}

-- the first row that has the request; as many as there are rows, if none has
unfoldable pub row_of : List Entry → Request → ℕ
row_of [] q = 0
row_of (e ∷ es) q = elim (same_request e.request q) [ true ↦ 0 | false ↦ suc (row_of es q) ]

-- the class that row i has
unfoldable pub class_in : List Entry → ℕ → Option ℕ
class_in es i = elim (get_elem? es i) [ none ↦ none | some e ↦ some e.class ]

pub find-by-row : (es : List Entry) (q : Request) → class_in es (row_of es q) ≡ find es q
unfolding class_in row_of find
find-by-row [] q = refl
find-by-row (e ∷ es) q = go (same_request e.request q) (find-by-row es q)
  where
    go : (t : Bool) → class_in es (row_of es q) ≡ find es q → class_in (e ∷ es) (elim t as (λ _. ℕ) [ true ↦ 0 | false ↦ suc (row_of es q) ]) ≡ (elim t as (λ _. Option ℕ) [ true ↦ some e.class | false ↦ find es q ])
    go true h = refl
    go false h = h

pub row_within : (es : List Entry) (q : Request) → row_of es q ≤ length es
unfolding row_of
row_within [] q = omega arith
row_within (e ∷ es) q = go (same_request e.request q) (row_within es q)
  where
    go : (t : Bool) → row_of es q ≤ length es → (elim t as (λ _. ℕ) [ true ↦ 0 | false ↦ suc (row_of es q) ]) ≤ suc (length es)
    go true l = omega arith
    go false l = omega arith

-- The first k rows alone

pub taken-row : (k : ℕ) (es : List Entry) (q : Request) (p : ℕ) → find (take k es) q ≡ some p → row_of es q < k
unfolding find row_of
taken-row zero es q p h = absurd (none-ne-some p h)
taken-row (suc k) [] q p h = absurd (none-ne-some p h)
taken-row (suc k) (e ∷ es) q p h = go (same_request e.request q) h (taken-row k es q p)
  where
    go : (t : Bool) → (elim t as (λ _. Option ℕ) [ true ↦ some e.class | false ↦ find (take k es) q ]) ≡ some p → (find (take k es) q ≡ some p → row_of es q < k)
        → (elim t as (λ _. ℕ) [ true ↦ 0 | false ↦ suc (row_of es q) ]) < suc k
    go true h f = omega arith
    go false h f = omega (arith, f h)

pub row-taken : (k : ℕ) (es : List Entry) (q : Request) → row_of es q < k → find (take k es) q ≡ find es q
unfolding find row_of
row-taken zero es q l = absurd (omega arith)
row-taken (suc k) [] q l = refl
row-taken (suc k) (e ∷ es) q l = go (same_request e.request q) l (row-taken k es q)
  where
    go : (t : Bool) → (elim t as (λ _. ℕ) [ true ↦ 0 | false ↦ suc (row_of es q) ]) < suc k → (row_of es q < k → find (take k es) q ≡ find es q)
        → ◌≡◌ {A = Option ℕ} (elim t as (λ _. Option ℕ) [ true ↦ some e.class | false ↦ find (take k es) q ]) (elim t as (λ _. Option ℕ) [ true ↦ some e.class | false ↦ find es q ])
    go true l f = refl
    go false l f = f (omega arith)

-- A scan, of n rows, at row i, where the request's row is i rows past the first of those from i on that has it: row i has the request, has it not, or is none

module _ (g : ℕ → Entry) (q : Request) (n : ℕ) where
  pub row-start : 0 + row_of (rows g (n - 0) 0) q ≡ row_of (rows g n 0) q
  row-start = let e : n - 0 ≡ n = omega arith in let z : 0 + row_of (rows g n 0) q ≡ row_of (rows g n 0) q = omega arith in rw e z

  module _ (i x : ℕ) (at : i + row_of (rows g (n - i) i) q ≡ x) where
    pub row_here : i < n → same_request (g i).request q ≡ true → i ≡ x
    unfolding row_of
    row_here h e = let z : row_of (rows g (n - i) i) q ≡ 0 = rw (rows_step g n i h, e, row_of) in omega (arith, z, at)

    pub row-later : i < n → same_request (g i).request q ≡ false → i + 1 + row_of (rows g (n - (i + 1)) (i + 1)) q ≡ x
    unfolding row_of
    row-later h e =
        let z : row_of (rows g (n - i) i) q ≡ suc (row_of (rows g (n - (i + 1)) (i + 1)) q) = ap (λ (es : List Entry). row_of es q) (rows_step g n i h) ∙ rw (e, row_of) in
        omega (arith, z, at)

    pub row-nowhere : n ≤ i → i ≤ n → n ≡ x
    unfolding row_of
    row-nowhere h l = let z : row_of (rows g (n - i) i) q ≡ 0 = rw (rows_none g n i h) in omega (arith, z, at)

module _ (g : ℕ → Entry) (n i : ℕ) where
  pub class-here : i < n → class_in (rows g n 0) i ≡ some (g i).class
  unfolding class_in
  class-here h = let z : 0 + i ≡ i = omega arith in rw (rows_at g n 0 i h, z, class_in)

  pub class-nowhere : n ≤ i → class_in (rows g n 0) i ≡ none
  unfolding class_in
  class-nowhere h = rw (rows-past g n 0 i h, class_in)

-- Superclasses

-- the row of the entry by which class c finds its superclass; as many as there are rows, if there is no such class
unfoldable pub super_row : Base → ℕ → ℕ
super_row b c = elim (get_elem? b.classes c) [ none ↦ length b.cache | some k ↦ row_of b.cache (at k.loader k.super) ]

-- the superclass of class c, if that is row i
unfoldable pub super_by : List Entry → ℕ → ℕ → Option ℕ
super_by es c i = elim (class_in es i) [ none ↦ none | some p ↦ lower c p ]

past-last : (es : List Entry) → class_in es (length es) ≡ none
unfolding class_in
past-last [] = refl
past-last (e ∷ es) = past-last es

pub super-by-row : (b : Base) (c : ℕ) → super_by b.cache c (super_row b c) ≡ super_of b c
unfolding super_by super_row super_of
super-by-row b c = go (get_elem? b.classes c)
  where
    by : Option ℕ → Option ℕ
    by o = elim o [ none ↦ none | some p ↦ lower c p ]

    go : (o : Option Class)
        → super_by b.cache c (elim o as (λ _. ℕ) [ none ↦ length b.cache | some k ↦ row_of b.cache (at k.loader k.super) ])
        ≡ (elim o as (λ _. Option ℕ) [ none ↦ none | some k ↦ elim (find b.cache (at k.loader k.super)) as (λ _. Option ℕ) [ none ↦ none | some p ↦ lower c p ] ])
    go none = ap by (past-last b.cache)
    go (some k) = ap by (find-by-row b.cache (at k.loader k.super))

pub super-row-within : (b : Base) (c : ℕ) → super_row b c ≤ length b.cache
unfolding super_row
super-row-within b c = go (get_elem? b.classes c)
  where
    go : (o : Option Class) → (elim o as (λ _. ℕ) [ none ↦ length b.cache | some k ↦ row_of b.cache (at k.loader k.super) ]) ≤ length b.cache
    go none = omega arith
    go (some k) = row_within b.cache (at k.loader k.super)

module _ (es : List Entry) (c i : ℕ) where
  pub super-none : class_in es i ≡ none → super_by es c i ≡ none
  unfolding super_by
  super-none e = rw (e, super_by)

  pub super-lower : (p : ℕ) → class_in es i ≡ some p → p < c → super_by es c i ≡ some p
  unfolding super_by lower
  super-lower p e l = rw (e, super_by, lt-ltb p c l, lower)

  pub super-higher : (p : ℕ) → class_in es i ≡ some p → c ≤ p → super_by es c i ≡ none
  unfolding super_by lower
  super-higher p e l = rw (e, super_by, le-ltb p c l, lower)
