-- Laws of the machine's tests on operands, locals and objects that stand in tables.
use Rattle.std.specs.Prelude.{◌≡◌, ℕ, zero, suc, ◌+◌, ◌-◌, ◌%◌, ◌<◌, ◌≤◌, Bool, true, false, ◌≢◌, List, ◌==◌, nat_lt, slice_index}
use Rattle.std.proofs.Math.Path.{refl}
use Rattle.std.proofs.Common.{◌∙◌}
use native.Mathlib.Omega.{arith}
use Rattle.std.proofs.Math.ListN.{get_elem?}
use borrow.Author.Tests.{eqb-true, eqb-false, ne_eqb, lt-ltb, le-ltb, ltb-true}
use Rattle.definition.specs.Lists.{rows, stack}
use Rattle.definition.specs.Instructions.{pick}
use Rattle.definition.specs.Verifier.{pop}
use Rattle.definition.specs.declared.Kind.{Kind}
use Rattle.definition.specs.declared.Kind.TheVariants.{IntKind, ReferenceKind}
use Rattle.definition.specs.declared.Refusal.{Refusal}
use Rattle.definition.specs.declared.Refusal.TheVariants.{Word}
use Rattle.definition.specs.Answers.{Result, refused, ok, ◌>>=◌, need, take?}
use Rattle.definition.specs.Machine.{Value, empty_value, int_value, null_value, object_value, unlisted_value, pop!, int!, reference!, of_kind!, kind!, room!, under! }
use Rattle.definition.specs.Tables.{value_of, operand_at, frame_at, frame_of, frame_base, frame_in}
use Rattle.layout.specs.Places.{rows_at, rows-past, stack-length, stack_top}

pub positive : (d : ℕ) → d ≢ 0 → 0 < d
positive zero h = absurd (h refl)
positive (suc d) h = omega arith

module _ (g : ℕ → Value) (d : ℕ) where
  pub room-full : 16 ≤ d → room! (stack g d) ≡ refused (Word 10)
  unfolding room! need
  room-full h = rw (stack-length g d, le-ltb d 16 h)

  pub room-free : d < 16 → room! (stack g d) ≡ ok tt
  unfolding room! need
  room-free h = rw (stack-length g d, lt-ltb d 16 h)

  pub pop-none : d ≡ 0 → pop! (stack g d) ≡ refused (Word 14)
  unfolding pop! pop take? stack
  pop-none h = rw h

  pub pop-some : d ≢ 0 → pop! (stack g d) ≡ ok (record { top = g (d - 1); more = stack g (d - 1) })
  unfolding pop! pop take?
  pop-some h = rw (stack_top g d (positive d h))

module _ {A : Type 0} (g : ℕ → A) (n j : ℕ) (w : Refusal) where
  pub take_past : n ≤ j → take? (get_elem? (rows g n 0) j) w ≡ refused w
  unfolding take?
  take_past h = rw (rows-past g n 0 j h)

  pub take_at : j < n → take? (get_elem? (rows g n 0) j) w ≡ ok (g j)
  unfolding take?
  take_at h = let e : 0 + j ≡ j = omega arith in rw (rows_at g n 0 j h, e)

-- Kinds

pub int_is : (k b : ℕ) → k ≡ 1 → int! (value_of k b) ≡ ok b
unfolding int! value_of pick
int_is k b h = rw h

pub int-not : (k b : ℕ) → k ≢ 1 → int! (value_of k b) ≡ refused (Word 14)
unfolding int! value_of pick
int-not k b h = rw (ne_eqb k 1 h) (object (k == 3))
  where
    null : (u : Bool) → int! (pick u null_value (unlisted_value k b)) ≡ refused (Word 14)
    null true = refl
    null false = refl

    empty : (u : Bool) → int! (pick u empty_value (pick (k == 2) null_value (unlisted_value k b))) ≡ refused (Word 14)
    empty true = refl
    empty false = null (k == 2)

    bare : (u : Bool) → int! (pick u (pick (k == 0) empty_value (pick (k == 2) null_value (unlisted_value k b))) (unlisted_value k b)) ≡ refused (Word 14)
    bare true = empty (k == 0)
    bare false = refl

    object : (u : Bool)
        → int! (pick u (object_value b) (pick (b == 0) (pick (k == 0) empty_value (pick (k == 2) null_value (unlisted_value k b))) (unlisted_value k b))) ≡ refused (Word 14)
    object true = refl
    object false = bare (b == 0)

-- null's cells, or an object's
unfoldable pub is_reference : ℕ → ℕ → Bool
is_reference k b = pick (k == 3) true (pick (k == 2) (b == 0) false)

unfoldable pub is_of_kind : Kind → ℕ → ℕ → Bool
is_of_kind IntKind k b = k == 1
is_of_kind ReferenceKind k b = is_reference k b

-- an int's cells for int, a reference's for a class name
unfoldable pub is_kind : ℕ → ℕ → ℕ → Bool
is_kind t k b = pick (t == 1) (k == 1) (is_reference k b)

module _ (k b : ℕ) where
  -- a reference, or 14
  pub reference-test : reference! (value_of k b) ≡ (need (is_reference k b) (Word 14) >>= λ _. ok (value_of k b))
  unfolding reference! value_of pick is_reference need ◌>>=◌
  reference-test = three (k == 3) refl
    where
      null : (n : ℕ) (u : Bool) → reference! (pick u null_value (unlisted_value n b)) ≡ (need u (Word 14) >>= λ _. ok (pick u null_value (unlisted_value n b)))
      null n true = refl
      null n false = refl

      empty : (u : Bool) → reference! (pick u empty_value (unlisted_value k b)) ≡ refused (Word 14)
      empty true = refl
      empty false = refl

      bare : (u : Bool) → reference! (pick u (pick (k == 0) empty_value (unlisted_value k b)) (unlisted_value k b)) ≡ refused (Word 14)
      bare true = empty (k == 0)
      bare false = refl

      int : (u : Bool) → reference! (pick u (int_value b) (pick (b == 0) (pick (k == 0) empty_value (unlisted_value k b)) (unlisted_value k b))) ≡ refused (Word 14)
      int true = refl
      int false = bare (b == 0)

      two : (u : Bool) → (k == 2) ≡ u → (k == 3) ≡ false
          → reference! (value_of k b) ≡ (need (is_reference k b) (Word 14) >>= λ _. ok (value_of k b))
      two true e f = let z : k ≡ 2 = eqb-true k 2 e in rw z (null 2 (b == 0))
      two false e f = rw (f, e) (int (k == 1))

      three : (u : Bool) → (k == 3) ≡ u → reference! (value_of k b) ≡ (need (is_reference k b) (Word 14) >>= λ _. ok (value_of k b))
      three true e = let z : k ≡ 3 = eqb-true k 3 e in rw z
      three false e = two (k == 2) refl e

  pub reference-is : is_reference k b ≡ true → reference! (value_of k b) ≡ ok (value_of k b)
  unfolding need ◌>>=◌
  reference-is h = reference-test ∙ rw h

  pub reference-not : is_reference k b ≡ false → reference! (value_of k b) ≡ refused (Word 14)
  unfolding need ◌>>=◌
  reference-not h = reference-test ∙ rw h

  -- a value of the kind, or 14
  pub of_is : (kind : Kind) → is_of_kind kind k b ≡ true → of_kind! kind (value_of k b) ≡ ok tt
  unfolding of_kind! is_of_kind ◌>>=◌
  of_is IntKind h = rw (int_is k b (eqb-true k 1 h))
  of_is ReferenceKind h = rw (reference-is h)

  pub of-not : (kind : Kind) → is_of_kind kind k b ≡ false → of_kind! kind (value_of k b) ≡ refused (Word 14)
  unfolding of_kind! is_of_kind ◌>>=◌
  of-not IntKind h = rw (int-not k b (eqb-false k 1 h))
  of-not ReferenceKind h = rw (reference-not h)

  -- an int for int, a reference for a class name, or 14
  pub kind-is : (t : ℕ) → is_kind t k b ≡ true → kind! t (value_of k b) ≡ ok tt
  unfolding kind! is_kind is_of_kind pick
  kind-is t h = go (t == 1) h
    where
      go : (u : Bool) → pick u (k == 1) (is_reference k b) ≡ true
          → ◌≡◌ {A = Result (Unit {0})} (elim u as (λ _. Result (Unit {0})) [ true ↦ of_kind! IntKind (value_of k b) | false ↦ of_kind! ReferenceKind (value_of k b) ]) (ok tt)
      go true e = of_is IntKind e
      go false e = of_is ReferenceKind e

  pub kind-not : (t : ℕ) → is_kind t k b ≡ false → kind! t (value_of k b) ≡ refused (Word 14)
  unfolding kind! is_kind is_of_kind pick
  kind-not t h = go (t == 1) h
    where
      go : (u : Bool) → pick u (k == 1) (is_reference k b) ≡ false
          → ◌≡◌ {A = Result (Unit {0})} (elim u as (λ _. Result (Unit {0})) [ true ↦ of_kind! IntKind (value_of k b) | false ↦ of_kind! ReferenceKind (value_of k b) ]) (refused (Word 14))
      go true e = of-not IntKind e
      go false e = of-not ReferenceKind e

-- Room in the frame below the top frame of task k, which has m frames below it

unfoldable pub room_below : List ℕ → ℕ → ℕ → Bool
room_below F k m = pick (m == 0) true (nat_lt (slice_index F (frame_base k (m - 1) + 3)) 16)

module _ (F : List ℕ) (k m : ℕ) where
  pub under-room : under! (stack (frame_in F k) m) ≡ need (room_below F k m) (Word 10)
  unfolding room_below pick under! need room! stack frame_in frame_at frame_of
  under-room = go (m == 0) refl
    where
      go : (u : Bool) → (m == 0) ≡ u → under! (stack (frame_in F k) m) ≡ need (pick u true (nat_lt (slice_index F (frame_base k (m - 1) + 3)) 16)) (Word 10)
      go true e = let z : m ≡ 0 = eqb-true m 0 e in rw z
      go false e =
          rw (stack_top (frame_in F k) m (positive m (eqb-false m 0 e)), stack-length (operand_at F (frame_base k (m - 1))) (slice_index F (frame_base k (m - 1) + 3)))

  pub room-below : room_below F k m ≡ true → m ≢ 0 → slice_index F (frame_base k (m - 1) + 3) < 16
  unfolding room_below pick
  room-below h e = ltb-true _ _ (rw (ne_eqb m 0 e) at h)

-- what b added to wraps back to a is a - b, wrapped
pub subtracted : (r a b : ℕ) → r < 4294967296 → a < 4294967296 → b < 4294967296 → (r + b) % 4294967296 ≡ a → r ≡ (a + 4294967296 - b) % 4294967296
subtracted r a b x y z h = omega arith
