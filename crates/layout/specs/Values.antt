-- A value's two cells, and values side by side: written back as they were read, read back as written, and what is read elsewhere stays.
use Rattle.std.specs.Prelude.{◌≡◌, Bool, true, false, ◌≢◌, ℕ, suc, ◌+◌, ◌*◌, ◌<◌, ◌≤◌, get_or, set, eqb}
use Rattle.std.proofs.Math.Path.{refl}
use Rattle.std.proofs.Common.{sym, ◌∙◌, arith, length-set, get_or-set_same, get_or-set_other, eqb-true}
use mathlib.Core.List.{List, [], ◌∷◌}
use Rattle.std.proofs.Math.ListN.{length}
use Rattle.std.proofs.lemmas.List.{set-get_or}
use Rattle.definition.specs.Lists.{rows, write_rows, stack, write_stack}
use Rattle.definition.specs.Instructions.{pick}
use Rattle.definition.specs.Machine.{Value, empty_value, int_value, null_value, object_value, unlisted_value}
use Rattle.definition.specs.Tables.{value_of, kind_of, bits_of, value_at, put_cells, put_value}
use Rattle.layout.specs.Tests.{All}
use Rattle.layout.specs.Places.{write_rows-replace, rows_written, stack-written, Within, within-set, within_both}

-- Values

pub kind-value : (k b : ℕ) → kind_of (value_of k b) ≡ k
unfolding kind_of value_of pick
kind-value k b = one (eqb k 1) refl
  where
    null : (u : Bool) → eqb k 2 ≡ u → kind_of (pick u null_value (unlisted_value k b)) ≡ k
    null true e = sym (eqb-true k 2 e)
    null false e = refl

    empty : (u : Bool) → eqb k 0 ≡ u → kind_of (pick u empty_value (pick (eqb k 2) null_value (unlisted_value k b))) ≡ k
    empty true e = sym (eqb-true k 0 e)
    empty false e = null (eqb k 2) refl

    bare : (u : Bool) → kind_of (pick u (pick (eqb k 0) empty_value (pick (eqb k 2) null_value (unlisted_value k b))) (unlisted_value k b)) ≡ k
    bare true = empty (eqb k 0) refl
    bare false = refl

    three : (u : Bool) → eqb k 3 ≡ u
        → kind_of (pick u (object_value b) (pick (eqb b 0) (pick (eqb k 0) empty_value (pick (eqb k 2) null_value (unlisted_value k b))) (unlisted_value k b))) ≡ k
    three true e = sym (eqb-true k 3 e)
    three false e = bare (eqb b 0)

    one : (u : Bool) → eqb k 1 ≡ u
        → kind_of (pick u (int_value b) (pick (eqb k 3) (object_value b)
        (pick (eqb b 0) (pick (eqb k 0) empty_value (pick (eqb k 2) null_value (unlisted_value k b))) (unlisted_value k b)))) ≡ k
    one true e = sym (eqb-true k 1 e)
    one false e = three (eqb k 3) refl

pub bits-value : (k b : ℕ) → bits_of (value_of k b) ≡ b
unfolding bits_of value_of pick
bits-value k b = one (eqb k 1)
  where
    null : (u : Bool) → b ≡ 0 → bits_of (pick u null_value (unlisted_value k b)) ≡ b
    null true e = sym e
    null false e = refl

    empty : (u : Bool) → b ≡ 0 → bits_of (pick u empty_value (pick (eqb k 2) null_value (unlisted_value k b))) ≡ b
    empty true e = sym e
    empty false e = null (eqb k 2) e

    bare : (u : Bool) → eqb b 0 ≡ u → bits_of (pick u (pick (eqb k 0) empty_value (pick (eqb k 2) null_value (unlisted_value k b))) (unlisted_value k b)) ≡ b
    bare true e = empty (eqb k 0) (eqb-true b 0 e)
    bare false e = refl

    three : (u : Bool)
        → bits_of (pick u (object_value b) (pick (eqb b 0) (pick (eqb k 0) empty_value (pick (eqb k 2) null_value (unlisted_value k b))) (unlisted_value k b))) ≡ b
    three true = refl
    three false = bare (eqb b 0) refl

    one : (u : Bool)
        → bits_of (pick u (int_value b) (pick (eqb k 3) (object_value b)
        (pick (eqb b 0) (pick (eqb k 0) empty_value (pick (eqb k 2) null_value (unlisted_value k b))) (unlisted_value k b)))) ≡ b
    one true = refl
    one false = three (eqb k 3)

-- a value whose cells are read as that value again
abbrev pub Proper : Value → Type 0
Proper v = value_of (kind_of v) (bits_of v) ≡ v

pub proper-empty : Proper empty_value
unfolding value_of kind_of bits_of pick
proper-empty = refl

pub proper-int : (n : ℕ) → Proper (int_value n)
unfolding value_of kind_of bits_of pick
proper-int n = refl

pub proper-null : Proper null_value
unfolding value_of kind_of bits_of pick
proper-null = refl

pub proper-object : (o : ℕ) → Proper (object_value o)
unfolding value_of kind_of bits_of pick
proper-object o = refl

pub put_value-cells : (t : List ℕ) (i k b : ℕ) → put_value t i (value_of k b) ≡ put_cells t i k b
unfolding put_value
put_value-cells t i k b = rw (kind-value k b, bits-value k b)

pub put_value-same : (t : List ℕ) (i : ℕ) → put_value t i (value_at t i) ≡ t
unfolding value_at
put_value-same t i = put_value-cells t i (get_or t i 0) (get_or t (i + 1) 0) ∙ rw (set-get_or t i 0) (set-get_or t (i + 1) 0)

pub put_value-length : (t : List ℕ) (i : ℕ) (v : Value) → length (put_value t i v) ≡ length t
unfolding put_value
put_value-length t i v = simp length-set

-- a cell outside the two that are written
pub put_value-cell : (t : List ℕ) (i : ℕ) (v : Value) (m : ℕ) → m ≢ i → m ≢ i + 1 → get_or (put_value t i v) m 0 ≡ get_or t m 0
unfolding put_value
put_value-cell t i v m a b = get_or-set_other (set t i (kind_of v)) (i + 1) m (bits_of v) 0 b ∙ get_or-set_other t i m (kind_of v) 0 a

pub value_at-set : (t : List ℕ) (i m v : ℕ) → i ≢ m → i + 1 ≢ m → value_at (set t m v) i ≡ value_at t i
unfolding value_at
value_at-set t i m v a b = rw (get_or-set_other t m i v 0 a, get_or-set_other t m (i + 1) v 0 b)

pub value_at-other : (t : List ℕ) (i j : ℕ) (v : Value) → i ≢ j → i + 1 ≢ j → i ≢ j + 1 → value_at (put_value t j v) i ≡ value_at t i
unfolding put_value
value_at-other t i j v a b c = value_at-set (set t j (kind_of v)) i (j + 1) (bits_of v) c (λ e. a (omega arith)) ∙ value_at-set t i j (kind_of v) a b

pub value_at-back : (t : List ℕ) (i : ℕ) (v : Value) → i + 1 < length t → Proper v → value_at (put_value t i v) i ≡ v
unfolding value_at put_value
value_at-back t i v l h =
    let e : get_or (set (set t i (kind_of v)) (i + 1) (bits_of v)) i 0 ≡ kind_of v =
    get_or-set_other (set t i (kind_of v)) (i + 1) i (bits_of v) 0 (λ e. omega arith) ∙ get_or-set_same t i (kind_of v) 0 (omega arith) in
    let f : get_or (set (set t i (kind_of v)) (i + 1) (bits_of v)) (i + 1) 0 ≡ bits_of v =
    get_or-set_same (set t i (kind_of v)) (i + 1) (bits_of v) 0 (rw (length-set t i (kind_of v)) l) in
    rw (e, f) h

-- What is read elsewhere: a read that no cell from lo up to hi bears on

abbrev pub Unread : {B : Type 0} → (List ℕ → B) → ℕ → ℕ → Type 0
Unread r lo hi = (t : List ℕ) (m v : ℕ) → lo ≤ m → m < hi → r (set t m v) ≡ r t

pub unread-cell : (c lo hi : ℕ) → ((m : ℕ) → lo ≤ m → m < hi → c ≢ m) → Unread (λ t. get_or t c 0) lo hi
unread-cell c lo hi apart = λ t m v a b. get_or-set_other t m c v 0 (apart m a b)

pub unread-value : {B : Type 0} (r : List ℕ → B) (lo hi : ℕ) → Unread r lo hi → (t : List ℕ) (i : ℕ) (v : Value) → lo ≤ i → i + 1 < hi → r (put_value t i v)
    ≡ r t
unfolding put_value
unread-value r lo hi un t i v a b = un (set t i (kind_of v)) (i + 1) (bits_of v) (omega arith) (omega arith) ∙ un t i (kind_of v) (omega arith) (omega arith)

pub within-value : (i : ℕ) (v : Value) (lo hi : ℕ) → lo ≤ i → i + 1 < hi → Within (λ t. put_value t i v) lo hi
unfolding put_value
within-value i v lo hi a b =
    within_both (λ t. set t (i + 1) (bits_of v)) (λ t. set t i (kind_of v)) lo hi
    (within-set (i + 1) (bits_of v) lo hi (omega arith) (omega arith)) (within-set i (kind_of v) lo hi (omega arith) (omega arith))

-- Values side by side: place i has the two cells c + 2 * i of the row that begins at cell b. Fields, locals and operands are such places.

module _ (b c : ℕ) where
  abbrev pub place_at : List ℕ → ℕ → Value
  place_at t i = value_at t (b + (c + 2 * i))

  abbrev pub put_place : List ℕ → ℕ → Value → List ℕ
  put_place t i v = put_value t (b + (c + 2 * i)) v

  pub place_same : (t : List ℕ) (i : ℕ) → put_place t i (place_at t i) ≡ t
  place_same t i = put_value-same t (b + (c + 2 * i))

  place_other : (t : List ℕ) (i j : ℕ) (v : Value) → i ≢ j → place_at (put_place t j v) i ≡ place_at t i
  place_other t i j v n = value_at-other t (b + (c + 2 * i)) (b + (c + 2 * j)) v (λ e. omega arith) (λ e. omega arith) (λ e. omega arith)

  pub place-length : (t : List ℕ) (i : ℕ) (v : Value) → length (put_place t i v) ≡ length t
  place-length t i v = put_value-length t (b + (c + 2 * i)) v

  place-back : (t : List ℕ) (i : ℕ) (v : Value) → b + (c + 2 * i) + 1 < length t → Proper v → place_at (put_place t i v) i ≡ v
  place-back t i v l h = value_at-back t (b + (c + 2 * i)) v l h

  pub places-back : (vs : List Value) (t : List ℕ) → b + (c + 2 * length vs) ≤ length t → All Proper vs
      → rows (place_at (write_rows put_place vs 0 t)) (length vs) 0 ≡ vs
  places-back vs t l h =
      rows_written put_place place-length place_at Proper (length t) (length vs)
      (λ s i v e k p. place-back s i v (omega arith) p) (λ s i j v k p q. place_other s i j v (λ e. omega arith)) vs 0 (omega arith) h t refl

  pub stacked-back : (vs : List Value) (t : List ℕ) → b + (c + 2 * length vs) ≤ length t → All Proper vs
      → stack (place_at (write_stack put_place vs t)) (length vs) ≡ vs
  stacked-back vs t l h =
      stack-written put_place place-length place_at Proper (length t) (length vs)
      (λ s i v e k p. place-back s i v (omega arith) p) (λ s i j v k p q. place_other s i j v (λ e. omega arith)) vs (omega arith) h t refl

  pub unread-places : {B : Type 0} (r : List ℕ → B) (lo hi : ℕ) → Unread r lo hi → (vs : List Value) (i : ℕ) (t : List ℕ) → lo ≤ b + c
      → b + (c + 2 * (i + length vs)) ≤ hi
      → r (write_rows put_place vs i t) ≡ r t
  unfolding write_rows
  unread-places r lo hi un [] i t a h = refl
  unread-places r lo hi un (v ∷ vs) i t a h =
      unread-value r lo hi un (write_rows put_place vs (suc i) t) (b + (c + 2 * i)) v (omega arith) (omega arith) ∙ unread-places r lo hi un vs (suc i) t a (omega arith)

  pub unread-stacked : {B : Type 0} (r : List ℕ → B) (lo hi : ℕ) → Unread r lo hi → (vs : List Value) (t : List ℕ) → lo ≤ b + c → b + (c + 2 * length vs) ≤ hi
      → r (write_stack put_place vs t) ≡ r t
  unfolding write_stack
  unread-stacked r lo hi un [] t a h = refl
  unread-stacked r lo hi un (v ∷ vs) t a h =
      unread-value r lo hi un (write_stack put_place vs t) (b + (c + 2 * length vs)) v (omega arith) (omega arith) ∙ unread-stacked r lo hi un vs t a (omega arith)

  pub within-places : (vs : List Value) (i lo hi : ℕ) → lo ≤ b + c → b + (c + 2 * (i + length vs)) ≤ hi → Within (λ t. write_rows put_place vs i t) lo hi
  unfolding write_rows
  within-places [] i lo hi a h = λ f s t. refl
  within-places (v ∷ vs) i lo hi a h =
      within_both (λ t. put_place t i v) (λ t. write_rows put_place vs (suc i) t) lo hi
      (within-value (b + (c + 2 * i)) v lo hi (omega arith) (omega arith)) (within-places vs (suc i) lo hi a (omega arith))

  pub within-stacked : (vs : List Value) (lo hi : ℕ) → lo ≤ b + c → b + (c + 2 * length vs) ≤ hi → Within (λ t. write_stack put_place vs t) lo hi
  unfolding write_stack
  within-stacked [] lo hi a h = λ f s t. refl
  within-stacked (v ∷ vs) lo hi a h =
      within_both (λ t. put_place t (length vs) v) (λ t. write_stack put_place vs t) lo hi
      (within-value (b + (c + 2 * length vs)) v lo hi (omega arith) (omega arith)) (within-stacked vs lo hi a (omega arith))

  -- one of n places set
  pub place_set : (t : List ℕ) (n j : ℕ) (v : Value) → j < n → write_rows put_place (set (rows (place_at t) n 0) j v) 0 t ≡ put_place t j v
  place_set t n j v l = write_rows-replace put_place place_at place_same (λ s i k w h. place_other s i k w (λ e. omega arith)) t n j v l
