-- An object's row: a class and values. What is read is written back as it was; what fits its row is read back, and other rows stay.
use Rattle.std.specs.Prelude.{◌≡◌, refl, Bool, true, false, ◌≢◌, leb}
use Rattle.std.proofs.Common.{◌∙◌, length-set, leb-true, le-leb}
use mathlib.Core.List.{List}
use Prim.Native.Nat.{ℕ, ◌+◌, ◌*◌, ◌<◌, ◌≤◌}
use native.Mathlib.Omega.{arith}
use Rattle.std.proofs.Math.ListN.{length, get_or, set}
use Rattle.std.proofs.lemmas.List.{set-get_or}
use Rattle.std.proofs.Math.Seq.{set_out, get_or-set_same}
use Rattle.definition.specs.Numbers.{field_limit, value_cells, object_cells, fields_cell}
use Rattle.definition.specs.Lists.{rows, write_rows}
use Rattle.definition.specs.Classes.{Base}
use Rattle.definition.specs.Instructions.{pick}
use Rattle.definition.specs.Machine.{Value, Object}
use Rattle.definition.specs.Tables.{value_of, value_at, field_at, put_field, size_of, used_fields, object_at, put_object}
use Rattle.layout.specs.Tests.{All}
use Rattle.layout.specs.Places.{rows-length, rows-cong, write_rows-same}
use Rattle.layout.specs.Values.{Proper, Unread, place_same, place_set, place_at, places-back, put_place, unread-cell, unread-places}

-- Objects: a class and values

abbrev pub with_field : Object → ℕ → Value → Object
with_field x j v = record { class = x.class; values = set x.values j v }

pub field-same : (t : List ℕ) (o i : ℕ) → put_field o t i (field_at t o i) ≡ t
unfolding put_field field_at
field-same t o i = place_same (o * object_cells) fields_cell t i

pub used-few : (b : Base) (c : ℕ) → used_fields b c ≤ field_limit
unfolding used_fields pick
used-few b c = go (leb (size_of b c) field_limit) refl
  where
    go : (u : Bool) → leb (size_of b c) field_limit ≡ u → pick u (size_of b c) field_limit ≤ field_limit
    go true e = leb-true (size_of b c) field_limit e
    go false e = omega arith

-- a class of at most 16 fields uses them all
pub used_all : (b : Base) (c : ℕ) → size_of b c ≤ field_limit → used_fields b c ≡ size_of b c
unfolding used_fields pick
used_all b c h = rw (le-leb (size_of b c) field_limit h)

module _ (b : Base) where
  pub object-same : (t : List ℕ) (o : ℕ) → put_object t o (object_at b t o) ≡ t
  unfolding put_object object_at
  object-same t o = rw (set-get_or t (o * object_cells) 0) (write_rows-same (put_field o) (field_at t o) t (field-same t o) (used_fields b (get_or t (o * object_cells) 0)) 0)

  -- an object reads its row alone
  pub object-cells : (t u : List ℕ) (o : ℕ) → ((c : ℕ) → c < object_cells → get_or u (o * object_cells + c) 0 ≡ get_or t (o * object_cells + c) 0) → object_at b u o ≡ object_at b t o
  unfolding object_at field_at value_at
  object-cells t u o e =
      let z : o * object_cells + 0 ≡ o * object_cells = omega arith in
      let c0 : get_or u (o * object_cells) 0 ≡ get_or t (o * object_cells) 0 = rw z at (e 0 (omega arith)) in
      rw (
        c0,
        rows-cong (field_at u o) (field_at t o) (used_fields b (get_or t (o * object_cells) 0)) 0
            (λ i h k. two (fields_cell + value_cells * i) (omega (arith, used-few b (get_or t (o * object_cells) 0)))),
      )
    where
      two : (c : ℕ) → c + 1 < object_cells → value_of (get_or u (o * object_cells + c) 0) (get_or u (o * object_cells + c + 1) 0) ≡ value_of (get_or t (o * object_cells + c) 0) (get_or t (o * object_cells + c + 1) 0)
      two c h = let a : o * object_cells + c + 1 ≡ o * object_cells + (c + 1) = omega arith in rw (a, e c (omega arith), e (c + 1) h)

pub unread-object : {B : Type 0} (r : List ℕ → B) (o hi : ℕ) → Unread r (o * object_cells) hi → (x : Object) → o * object_cells + (fields_cell + value_cells * length x.values) ≤ hi → (t : List ℕ)
    → r (put_object t o x) ≡ r t
unfolding put_object put_field
unread-object r o hi un x l t =
    unread-places (o * object_cells) fields_cell r (o * object_cells) hi un x.values 0 (set t (o * object_cells) x.class) (omega arith) (omega arith)
    ∙ un t (o * object_cells) x.class (omega arith) (omega arith)

pub put_object-length : (t : List ℕ) (o : ℕ) (x : Object) → length (put_object t o x) ≡ length t
put_object-length t o x = unread-object length o (o * object_cells + (fields_cell + value_cells * length x.values)) (λ s m v a k. length-set s m v) x (omega arith) t

module _ (b : Base) where
  -- objects before it, and after it where its values fit its row
  pub object-below : (t : List ℕ) (i o : ℕ) (x : Object) → i < o → object_at b (put_object t o x) i ≡ object_at b t i
  object-below t i o x l =
      object-cells b t (put_object t o x) i (λ c h.
      unread-object (λ s. get_or s (i * object_cells + c) 0) o (o * object_cells + (fields_cell + value_cells * length x.values))
      (unread-cell (i * object_cells + c) (o * object_cells) (o * object_cells + (fields_cell + value_cells * length x.values)) (λ m j k e. omega arith)) x (omega arith) t)

  pub object-other : (t : List ℕ) (i o : ℕ) (x : Object) → i ≢ o → length x.values ≤ field_limit → object_at b (put_object t o x) i ≡ object_at b t i
  object-other t i o x n l =
      object-cells b t (put_object t o x) i (λ c h.
      unread-object (λ s. get_or s (i * object_cells + c) 0) o (o * object_cells + object_cells) (unread-cell (i * object_cells + c) (o * object_cells) (o * object_cells + object_cells) (λ m j k e. omega arith)) x (omega arith) t)

  pub object-back : (t : List ℕ) (o : ℕ) (x : Object) → o * object_cells + object_cells ≤ length t → length x.values ≡ used_fields b x.class → All Proper x.values
      → object_at b (put_object t o x) o ≡ x
  unfolding object_at put_object field_at put_field
  object-back t o x room n proper =
      let h : List ℕ = set t (o * object_cells) x.class in
      let u : List ℕ = write_rows (put_place (o * object_cells) 1) x.values 0 h in
      let few : length x.values ≤ field_limit = omega (arith, used-few b x.class) in
      let c : get_or u (o * object_cells) 0 ≡ x.class =
      unread-places (o * object_cells) fields_cell (λ s. get_or s (o * object_cells) 0) (o * object_cells + fields_cell) (o * object_cells + object_cells)
      (unread-cell (o * object_cells) (o * object_cells + fields_cell) (o * object_cells + object_cells) (λ m j k e. omega arith)) x.values 0 h (omega arith) (omega arith)
      ∙ get_or-set_same t (o * object_cells) x.class 0 (omega arith) in
      let v : rows (place_at (o * object_cells) fields_cell u) (length x.values) 0 ≡ x.values =
      places-back (o * object_cells) fields_cell x.values h (rw (length-set t (o * object_cells) x.class) (omega arith)) proper in
      rw (c, ← n, v)

  -- An object that fits its row has a value for each of its class's fields

  pub record ObjectProper (x : Object) : Type 0 where
    pub size : length x.values ≡ used_fields b x.class
    pub values : All Proper x.values

  pub proper-few : (x : Object) → ObjectProper x → length x.values ≤ field_limit
  proper-few x p = omega (arith, p.size, used-few b x.class)

  -- its values, as the machine reads them
  pub object-size : (t : List ℕ) (o : ℕ) → length (object_at b t o).values ≡ used_fields b (object_at b t o).class
  unfolding object_at
  object-size t o = rows-length (field_at t o) (used_fields b (get_or t (o * object_cells) 0)) 0

  -- one field set: two cells written
  pub object-field : (t : List ℕ) (o j : ℕ) (v : Value) → j < used_fields b (object_at b t o).class → put_object t o (with_field (object_at b t o) j v)
      ≡ put_field o t j v
  unfolding put_object object_at field_at put_field
  object-field t o j v l = rw (set-get_or t (o * object_cells) 0) (place_set (o * object_cells) fields_cell t (used_fields b (get_or t (o * object_cells) 0)) j v l)

  -- a field that isn't there: nothing
  pub object-field-past : (t : List ℕ) (o j : ℕ) (v : Value) → used_fields b (object_at b t o).class ≤ j → with_field (object_at b t o) j v ≡ object_at b t o
  object-field-past t o j v l = rw (set_out (object_at b t o).values j v (rw (object-size t o) l))
