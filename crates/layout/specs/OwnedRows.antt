-- The rows of objects, each with its owner: what is read and put back changes nothing, an object made writes its row and its owner, a field set writes its two
-- cells, and rows freed write owners alone. Whole rows are read back as they were put.
use Rattle.std.specs.Prelude.{◌≡◌, Bool, List, [], ◌∷◌, ◌++◌, ◌⊎◌, length, get_or, set, ltb}
use Rattle.std.proofs.Math.Path.{refl}
use Rattle.std.proofs.Common.{ap, subst, ◌∙◌, inl, inr, arith, length-set, length-append, get_or-set_same, ltb-true, ltb-false}
use Rattle.std.proofs.Math.Bool.{true, false}
use Rattle.std.proofs.Math.Option.{Option, some, none, some-injective, none-ne-some}
use Prim.Native.Nat.{ℕ, zero, suc, ◌+◌, ◌*◌, ◌<◌, ◌≤◌}
use Rattle.std.proofs.Math.ListN.{get_elem?}
use Rattle.std.proofs.Math.Seq.{set-get_or, get_or-set_other}
use Rattle.std.proofs.Math.Dec.{eqb}
use Rattle.definition.specs.Numbers.{owners_cell, object_cells}
use Rattle.definition.specs.Lists.{rows, write_rows}
use Rattle.definition.specs.Chains.{has}
use Rattle.definition.specs.Classes.{Base}
use Rattle.definition.specs.Instructions.{pick}
use Rattle.definition.specs.Machine.{Object, ObjectRow, free, owned, Objects, unused, made, rewritten, changed}
use Rattle.definition.specs.Sweeping.{swept_from}
use Rattle.definition.specs.Tables.{object_at, put_object, owned_by, owner_of, owner_at, put_owner, object_row_at, put_object_row}
use Rattle.layout.specs.Tests.{All}
use Rattle.layout.specs.Places.{rows-length, rows-there, write_rows-same, write_rows-put, write_rows-more, write_rows-length}
use Rattle.layout.specs.ObjectRows.{object-same, object-below, object-other, object-back, put_object-length, ObjectProper, proper-few}

-- Owners

pub owner-is : (w : ℕ) (x : Object) → owner_of (owned_by w x) ≡ w
unfolding owner_of owned_by
owner-is zero x = refl
owner-is (suc k) x = refl

owner-rewritten : (x : Object) (r : ObjectRow) → owner_of (rewritten x r) ≡ owner_of r
unfolding owner_of rewritten
owner-rewritten x free = refl
owner-rewritten x (owned k y) = refl

-- an owned row isn't free, and its object is its own
free-owned : {k : ℕ} {x : Object} → free ≡ owned k x → ⊥
free-owned e = subst apart e tt
  where
    apart : ObjectRow → Type 0
    apart free = Unit {0}
    apart (owned k x) = ⊥

owned-same : {h k : ℕ} {x y : Object} → owned h x ≡ owned k y → x ≡ y
owned-same {x = x} e = ap object e
  where
    object : ObjectRow → Object
    object free = x
    object (owned k y) = y

-- two counts tables say the same of owners
abbrev pub SameOwners : List ℕ → List ℕ → Type 0
SameOwners n m = (o : ℕ) → owner_at m o ≡ owner_at n o

-- a cell before the owners doesn't matter
pub owners-set : (n : List ℕ) (j x : ℕ) → j < owners_cell → SameOwners n (set n j x)
unfolding owner_at
owners-set n j x l o = get_or-set_other n j (owners_cell + o) x 0 (λ e. omega arith)

pub put_owner-length : (n : List ℕ) (o : ℕ) (x : ObjectRow) → length (put_owner n o x) ≡ length n
unfolding put_owner
put_owner-length n o x = length-set n (owners_cell + o) (owner_of x)

-- and owners written leave the cells before them
pub owners-behind : (xs : Objects) (i : ℕ) (n : List ℕ) (j : ℕ) → j < owners_cell → get_or (write_rows put_owner xs i n) j 0 ≡ get_or n j 0
unfolding write_rows put_owner
owners-behind [] i n j l = refl
owners-behind (x ∷ xs) i n j l =
    get_or-set_other (write_rows put_owner xs (suc i) n) (owners_cell + i) j (owner_of x) 0 (λ e. omega arith) ∙ owners-behind xs (suc i) n j l

-- and the cells behind them
pub owners-past : (xs : Objects) (i : ℕ) (n : List ℕ) (j : ℕ) → owners_cell + (i + length xs) ≤ j → get_or (write_rows put_owner xs i n) j 0 ≡ get_or n j 0
unfolding write_rows put_owner
owners-past [] i n j l = refl
owners-past (x ∷ xs) i n j l =
    get_or-set_other (write_rows put_owner xs (suc i) n) (owners_cell + i) j (owner_of x) 0 (λ e. omega arith) ∙ owners-past xs (suc i) n j (omega arith)

-- Where an object is made

pub unused-few : (os : Objects) → unused os ≤ length os
unfolding unused
unused-few [] = omega arith
unused-few (free ∷ os) = omega arith
unused-few (owned k x ∷ os) = let h = unused-few os in omega arith

-- in a free row, or behind the last
pub made-is : (k : ℕ) (x : Object) (os : Objects)
    → ((unused os < length os) × (made k x os ≡ set os (unused os) (owned k x))) ⊎ ((unused os ≡ length os) × (made k x os ≡ os ++ (owned k x ∷ [])))
unfolding unused made
made-is k x [] = inr (refl, refl)
made-is k x (free ∷ os) = inl (omega arith, refl)
made-is k x (owned j y ∷ os) = elim (made-is k x os) [
  | inl h ↦ inl (omega (arith, h.0), ap {B = Objects} (λ z. owned j y ∷ z) h.1)
  | inr h ↦ inr (ap suc h.0, ap {B = Objects} (λ z. owned j y ∷ z) h.1)
]

-- how many rows there are then, of c before, if row o is taken
unfoldable pub rows_with : ℕ → ℕ → ℕ
rows_with o c = pick (ltb o c) c (c + 1)

pub made-count : (k : ℕ) (x : Object) (os : Objects) (c : ℕ) → length os ≡ c → length (made k x os) ≡ rows_with (unused os) c
unfolding pick rows_with
made-count k x os c e = go (made-is k x os) (ltb (unused os) c) refl
  where
    go : ((unused os < length os) × (made k x os ≡ set os (unused os) (owned k x))) ⊎ ((unused os ≡ length os) × (made k x os ≡ os ++ (owned k x ∷ [])))
        → (u : Bool) → ltb (unused os) c ≡ u → length (made k x os) ≡ pick u c (c + 1)
    go (inl h) true q = rw h.1 (length-set os (unused os) (owned k x) ∙ e)
    go (inl h) false q = absurd (omega (arith, h.0, ltb-false (unused os) c q, e))
    go (inr h) true q = absurd (omega (arith, h.0, ltb-true (unused os) c q, e))
    go (inr h) false q = rw h.1 (length-append os (owned k x ∷ []) ∙ ap (λ (z : ℕ). z + 1) e)

pub changed-length : (os : Objects) (o : ℕ) (x : Object) → length (changed os o x) ≡ length os
unfolding changed
changed-length os o x = go (get_elem? os o)
  where
    go : (y : Option ObjectRow) → length {A = ObjectRow} (elim y as (λ _. Objects) [ none ↦ os | some r ↦ set os o (rewritten x r) ]) ≡ length os
    go none = refl
    go (some r) = length-set os o (rewritten x r)

pub swept-length : (R : List ℕ) (i : ℕ) (os : Objects) → length (swept_from R i os) ≡ length os
unfolding swept_from
swept-length R i [] = refl
swept-length R i (x ∷ os) = ap suc (swept-length R (suc i) os)

module _ (b : Base) (n t : List ℕ) where
  abbrev Row : ℕ → ObjectRow
  Row = object_row_at b n t

  -- Rows as they were read

  pub row_same : (o : ℕ) → put_object_row t o (Row o) ≡ t
  unfolding object_row_at owned_by put_object_row
  row_same o = go (owner_at n o)
    where
      go : (w : ℕ) → put_object_row t o (owned_by w (object_at b t o)) ≡ t
      go zero = refl
      go (suc k) = object-same b t o

  pub rows_same : (c : ℕ) → write_rows put_object_row (rows Row c 0) 0 t ≡ t
  rows_same c = write_rows-same put_object_row Row t row_same c 0

  module _ (m : List ℕ) (same : SameOwners n m) where
    pub owner-same : (o : ℕ) → put_owner m o (Row o) ≡ m
    unfolding put_owner object_row_at
    owner-same o = rw (owner-is (owner_at n o) (object_at b t o), ← same o) (unfold owner_at in set-get_or m (owners_cell + o) 0)

    pub owners-same : (c : ℕ) → write_rows put_owner (rows Row c 0) 0 m ≡ m
    owners-same c = write_rows-same put_owner Row m owner-same c 0

  -- a row written elsewhere leaves the rows before it
  row_kept : (j o : ℕ) (x : Object) → j < o → put_object_row (put_object t o x) j (Row j) ≡ put_object t o x
  unfolding object_row_at owned_by put_object_row
  row_kept j o x l = go (owner_at n j)
    where
      go : (w : ℕ) → put_object_row (put_object t o x) j (owned_by w (object_at b t j)) ≡ put_object t o x
      go zero = refl
      go (suc k) = rw (← object-below b t j o x l) (object-same b (put_object t o x) j)

  owner-kept : (m : List ℕ) → SameOwners n m → (j o w : ℕ) → j < o → put_owner (set m (owners_cell + o) w) j (Row j) ≡ set m (owners_cell + o) w
  unfolding put_owner object_row_at
  owner-kept m same j o w l =
      let d : owner_at (set m (owners_cell + o) w) j ≡ owner_at m j = unfold owner_at in get_or-set_other m (owners_cell + o) (owners_cell + j) w 0 (λ e. omega arith) in
      let e : owner_at (set m (owners_cell + o) w) j ≡ owner_at n j = d ∙ same j in
      rw (owner-is (owner_at n j) (object_at b t j), ← e) (unfold owner_at in set-get_or (set m (owners_cell + o) w) (owners_cell + j) 0)

  -- An object made: one row written, and its owner

  pub rows_made : (k c : ℕ) (x : Object) → write_rows put_object_row (made k x (rows Row c 0)) 0 t ≡ put_object t (unused (rows Row c 0)) x
  unfolding put_object_row write_rows
  rows_made k c x = go (made-is k x (rows Row c 0))
    where
      os : Objects
      os = rows Row c 0

      go : ((unused os < length os) × (made k x os ≡ set os (unused os) (owned k x))) ⊎ ((unused os ≡ length os) × (made k x os ≡ os ++ (owned k x ∷ [])))
          → write_rows put_object_row (made k x os) 0 t ≡ put_object t (unused os) x
      go (inl h) = rw h.1 (write_rows-put put_object_row Row t row_same c (unused os) (owned k x) (omega (arith, h.0, rows-length Row c 0)) (λ j l. row_kept j (unused os) x l))
      go (inr h) =
          let e : unused os ≡ 0 + c = h.0 ∙ rows-length Row c 0 ∙ omega arith in
          rw (h.1, e) (write_rows-more put_object_row Row t row_same c 0 (owned k x ∷ []) (λ j l. row_kept j (0 + c) x l))

  pub owners-made : (m : List ℕ) → SameOwners n m → (k c : ℕ) (x : Object)
      → write_rows put_owner (made k x (rows Row c 0)) 0 m ≡ set m (owners_cell + unused (rows Row c 0)) (suc k)
  unfolding write_rows put_owner owner_of
  owners-made m same k c x = go (made-is k x (rows Row c 0))
    where
      os : Objects
      os = rows Row c 0

      go : ((unused os < length os) × (made k x os ≡ set os (unused os) (owned k x))) ⊎ ((unused os ≡ length os) × (made k x os ≡ os ++ (owned k x ∷ [])))
          → write_rows put_owner (made k x os) 0 m ≡ set m (owners_cell + unused os) (suc k)
      go (inl h) =
          rw h.1 (write_rows-put put_owner Row m (owner-same m same) c (unused os) (owned k x) (omega (arith, h.0, rows-length Row c 0))
          (λ j l. owner-kept m same j (unused os) (suc k) l))
      go (inr h) =
          let e : unused os ≡ 0 + c = h.0 ∙ rows-length Row c 0 ∙ omega arith in
          rw (h.1, e) (write_rows-more put_owner Row m (owner-same m same) c 0 (owned k x ∷ []) (λ j l. owner-kept m same j (0 + c) (suc k) l))

  -- An object changed: its row written, no owner

  pub rows-changed : (c o : ℕ) (x : Object) → o < c → write_rows put_object_row (changed (rows Row c 0) o x) 0 t ≡ put_object_row t o (rewritten x (Row o))
  unfolding changed put_object_row
  rows-changed c o x l =
      rw (rows-there Row c o l, changed) (write_rows-put put_object_row Row t row_same c o (rewritten x (Row o)) l (λ j h. kept j h (rewritten x (Row o))))
    where
      kept : (j : ℕ) → j < o → (r : ObjectRow) → put_object_row (put_object_row t o r) j (Row j) ≡ put_object_row t o r
      kept j h free = row_same j
      kept j h (owned k y) = row_kept j o y h

  pub owners-changed : (m : List ℕ) → SameOwners n m → (c o : ℕ) (x : Object) → o < c → write_rows put_owner (changed (rows Row c 0) o x) 0 m ≡ m
  unfolding changed
  owners-changed m same c o x l =
      let e : put_owner m o (rewritten x (Row o)) ≡ m = (unfold put_owner in rw (owner-rewritten x (Row o)) (unfold put_owner in owner-same m same o)) in
      rw (rows-there Row c o l, changed) (write_rows-put put_owner Row m (owner-same m same) c o (rewritten x (Row o)) l (λ j h. rw e (owner-same m same j)) ∙ e)

  -- Rows freed: no row written
  pub rows-swept : (R : List ℕ) (c i : ℕ) → write_rows put_object_row (swept_from R i (rows Row c i)) i t ≡ t
  unfolding swept_from write_rows rows pick put_object_row
  rows-swept R zero i = refl
  rows-swept R (suc c) i = rw (rows-swept R c (suc i)) (go (has eqb i R))
    where
      go : (u : Bool) → put_object_row t i (pick u (Row i) free) ≡ t
      go true = row_same i
      go false = refl

-- Rows that were put are read back

pub owner-back : (xs : Objects) (j : ℕ) (n : List ℕ) → owners_cell + (j + length xs) ≤ length n → (i : ℕ) (x : ObjectRow) → get_elem? xs i ≡ some x
    → owner_at (write_rows put_owner xs j n) (j + i) ≡ owner_of x
unfolding write_rows put_owner owner_at
owner-back [] j n l i x e = absurd (none-ne-some x e)
owner-back (y ∷ xs) j n l zero x e =
    let z : j + 0 ≡ j = omega arith in
    let q : y ≡ x = some-injective y x e in
    rw (z, ← q) (get_or-set_same (write_rows put_owner xs (suc j) n) (owners_cell + j) (owner_of y) 0
    (omega (arith, write_rows-length put_owner put_owner-length xs (suc j) n)))
owner-back (y ∷ xs) j n l (suc i) x e =
    let z : j + suc i ≡ suc j + i = omega arith in
    rw z (get_or-set_other (write_rows put_owner xs (suc j) n) (owners_cell + j) (owners_cell + (suc j + i)) (owner_of y) 0 (λ q. omega arith)
    ∙ owner-back xs (suc j) n (omega arith) i x e)

pub owner-put : (xs : Objects) (n : List ℕ) → owners_cell + length xs ≤ length n → (o : ℕ) (x : ObjectRow) → get_elem? xs o ≡ some x → owner_at (write_rows put_owner xs 0 n) o ≡ owner_of x
owner-put xs n l o x e = let z : 0 + o ≡ o = omega arith in rw z at (owner-back xs 0 n (omega arith) o x e)

-- owners of rows behind them stay
past-from : (xs : Objects) (j : ℕ) (n : List ℕ) (o : ℕ) → j + length xs ≤ o → owner_at (write_rows put_owner xs j n) o ≡ owner_at n o
unfolding write_rows put_owner owner_at
past-from [] j n o l = refl
past-from (x ∷ xs) j n o l =
    get_or-set_other (write_rows put_owner xs (suc j) n) (owners_cell + j) (owners_cell + o) (owner_of x) 0 (λ e. omega arith) ∙ past-from xs (suc j) n o (omega arith)

pub owner-past : (xs : Objects) (n : List ℕ) (o : ℕ) → length xs ≤ o → owner_at (write_rows put_owner xs 0 n) o ≡ owner_at n o
owner-past xs n o l = past-from xs 0 n o (omega arith)

-- an object fits its row; a free row has nothing to fit
abbrev pub RowProper : Base → ObjectRow → Type 0
RowProper b free = Unit {0}
RowProper b (owned k x) = ObjectProper b x

pub put_object_row-length : (t : List ℕ) (o : ℕ) (x : ObjectRow) → length (put_object_row t o x) ≡ length t
unfolding put_object_row
put_object_row-length t o free = refl
put_object_row-length t o (owned k x) = put_object-length t o x

pub row_back : (b : Base) (xs : Objects) (j : ℕ) (t : List ℕ) → (j + length xs) * object_cells ≤ length t → All (RowProper b) xs → (i k : ℕ) (x : Object)
    → get_elem? xs i ≡ some (owned k x) → object_at b (write_rows put_object_row xs j t) (j + i) ≡ x
unfolding write_rows put_object_row
row_back b [] j t l a i k x e = absurd (none-ne-some (owned k x) e)
row_back b (free ∷ xs) j t l a zero k x e = absurd (free-owned (some-injective free (owned k x) e))
row_back b (owned h y ∷ xs) j t l a zero k x e =
    let z : j + 0 ≡ j = omega arith in
    let q : y ≡ x = owned-same (some-injective (owned h y) (owned k x) e) in
    rw (z, ← q) (object-back b (write_rows put_object_row xs (suc j) t) j y
    (omega (arith, write_rows-length put_object_row put_object_row-length xs (suc j) t)) a.0.size a.0.values)
row_back b (free ∷ xs) j t l a (suc i) k x e =
    let z : j + suc i ≡ suc j + i = omega arith in rw z (row_back b xs (suc j) t (omega arith) a.1 i k x e)
row_back b (owned h y ∷ xs) j t l a (suc i) k x e =
    let z : j + suc i ≡ suc j + i = omega arith in
    rw z (object-other b (write_rows put_object_row xs (suc j) t) (suc j + i) j y (λ q. omega arith) (proper-few b y a.0)
    ∙ row_back b xs (suc j) t (omega arith) a.1 i k x e)

-- what is read place by place
pub rows_are : {A : Type 0} (g : ℕ → A) (xs : List A) (j : ℕ) → ((i : ℕ) (x : A) → get_elem? xs i ≡ some x → g (j + i) ≡ x) → rows g (length xs) j ≡ xs
unfolding rows
rows_are g [] j h = refl
rows_are {A} g (x ∷ xs) j h =
    let z : j + 0 ≡ j = omega arith in
    let e : g j ≡ x = rw z at (h 0 x refl) in
    let r : rows g (length xs) (suc j) ≡ xs = rows_are g xs (suc j) (λ i y q. (let w : j + suc i ≡ suc j + i = omega arith in rw w at (h (suc i) y q))) in
    λ i. e i ∷ r i

pub object-rows-back : (b : Base) (os : Objects) (n t : List ℕ) → owners_cell + length os ≤ length n → length os * object_cells ≤ length t → All (RowProper b) os
    → rows (object_row_at b (write_rows put_owner os 0 n) (write_rows put_object_row os 0 t)) (length os) 0 ≡ os
unfolding object_row_at owned_by owner_of
object-rows-back b os n t ln lt a = rows_are _ os 0 (λ i x e. go i x e)
  where
    go : (i : ℕ) (x : ObjectRow) → get_elem? os i ≡ some x
        → owned_by (owner_at (write_rows put_owner os 0 n) (0 + i)) (object_at b (write_rows put_object_row os 0 t) (0 + i)) ≡ x
    go i free e = rw (owner-back os 0 n (omega arith) i free e)
    go i (owned k x) e = rw (owner-back os 0 n (omega arith) i (owned k x) e, row_back b os 0 t (omega arith) a i k x e)
