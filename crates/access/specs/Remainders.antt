-- What is left of getfield, putfield and invokevirtual once their ties are posted, case by case: the plan that means it.
use Rattle.std.specs.Prelude.{◌≡◌, Bool, true, false, List, [], ◌≢◌, ℕ, ◌+◌, ◌-◌, ◌<◌, ◌≤◌, length}
use Rattle.std.proofs.Math.Path.{sym}
use Rattle.std.proofs.Math.Option.{none, some}
use native.Mathlib.Omega.{arith}
use Rattle.definition.specs.declared.Signature.{Signature}
use Rattle.definition.specs.Lists.{index_of, rows, stack}
use Rattle.definition.specs.Superclasses.{nearest, below}
use Rattle.definition.specs.Classes.{Base, argument_types, super_of, slots, slot_is, has_field, Selected, selected}
use Rattle.definition.specs.declared.Refusal.TheVariants.{Word}
use Rattle.definition.specs.Answers.{refused, ok, ◌>>=◌, need, take?}
use Rattle.definition.specs.Machine.{pop!, pop_all!, kinds!, object! }
use Rattle.definition.specs.Tables.{Tables, tables, value_of, object_at, field_at, operand_at, used_fields, frame_of, objects_of}
use Rattle.layout.specs.Cells.{used-few, object-field-past}
use Rattle.laws.specs.Objects.{changed-same}
use Rattle.frames.specs.Unused.{is_used, used-there}
use Rattle.instructions.specs.declared.Plan.{Plan}
use Rattle.instructions.specs.declared.Plan.TheVariants.{Refuse, Keep, Above, Field, Enter}
use Rattle.instructions.specs.Plans.{meaning}
use Rattle.instructions.specs.Operands.{is_kind, pop-none, pop-some, kind-is, kind-not, take_past, take_at}
use Rattle.resolution.specs.Quick.{quick_base}
use Rattle.std.specs.Prelude as Rust
use Rattle.definition.specs.declared.Refusal.{Refusal}
use Rattle.access.specs.Accesses.{Received, read_field, write_field, call_method}
use Rattle.access.specs.Passing.{pop-all, pop-few}
use Rattle.access.specs.Members.{field-used, unlimited, frames_left, Rest}

module _ (N L K E O F : List ℕ) (b d e : ℕ) where
  abbrev B : Base
  B = quick_base N L K E

  abbrev T : List ℕ → List ℕ → Tables
  T I S = tables N L K E I S O F

  -- an operand that was read, and what it is as a receiver
  module _ (kind bits x : ℕ) (reads : value_of kind bits ≡ operand_at F b x) (r : Rust.Result ℕ Refusal) (receives : (I S G : List ℕ) → Received B (tables N L K E I S O G) e kind bits r) where
    wrong : (w : Refusal) → r ≡ Rust.Err w → (I S : List ℕ) → object! B (objects_of B (T I S)) e (operand_at F b x) ≡ refused w
    wrong w q I S = rw (← reads) (rw q at (receives I S F))

    right : (o : ℕ) → r ≡ Rust.Ok o → (I S : List ℕ) → object! B (objects_of B (T I S)) e (operand_at F b x) ≡ ok (record { number = o; object = object_at B O o })
    right o q I S = rw (← reads) (rw q at (receives I S F)).0

    there : (o : ℕ) → r ≡ Rust.Ok o → is_used N o ≡ true
    there o q = (rw q at (receives [] [] [])).1

    under : (o : ℕ) → r ≡ Rust.Ok o → below (super_of B) (object_at B O o).class e ≡ true
    under o q = (rw q at (receives [] [] [])).2

  -- getfield of field n of type t, which class s declares
  module _ (s n t : ℕ) where
    abbrev Read : Plan → Type 0
    Read = Rest N L K E O F b d unlimited (λ B os f fs i. read_field B os f fs i e s n t)

    pub read_none : d ≡ 0 → Read (Refuse (Word 14))
    unfolding read_field meaning frame_of ◌>>=◌
    read_none h = record { says = λ I S task fs w p i. rw (pop-none (operand_at F b) d h); fits = λ few I S k m l. tt }

    module _ (deep : d ≢ 0) (kind bits : ℕ) (reads : value_of kind bits ≡ operand_at F b (d - 1)) (r : Rust.Result ℕ Refusal)
        (receives : (I S G : List ℕ) → Received B (tables N L K E I S O G) e kind bits r) where
      pub read-wrong : (w : Refusal) → r ≡ Rust.Err w → Read (Refuse w)
      unfolding read_field meaning frame_of ◌>>=◌
      read-wrong w q = record {
        says = λ I S task fs z p i. rw (pop-some (operand_at F b) d deep, wrong kind bits (d - 1) reads r receives w q I S);
        fits = λ few I S k m l. tt;
      }

      module _ (o : ℕ) (is : r ≡ Rust.Ok o) where
        pub read-absent : index_of (slot_is s n t) (slots B s) ≡ none → Read (Refuse (Word 14))
        unfolding read_field meaning frame_of ◌>>=◌ take?
        read-absent h = record {
          says = λ I S task fs z p i. rw (pop-some (operand_at F b) d deep, right kind bits (d - 1) reads r receives o is I S, h);
          fits = λ few I S k m l. tt;
        }

        pub read_past : (j : ℕ) → index_of (slot_is s n t) (slots B s) ≡ some j → 16 ≤ j → Read (Refuse (Word 14))
        unfolding read_field meaning frame_of ◌>>=◌ take? object_at
        read_past j h l = record {
          says = λ I S task fs z p i.
              rw (
                pop-some (operand_at F b) d deep,
                right kind bits (d - 1) reads r receives o is I S,
                h,
                take_past (field_at O o) (used_fields B (object_at B O o).class) j (Word 14) (omega (arith, used-few B (object_at B O o).class)),
              );
          fits = λ few I S k m l. tt;
        }

        pub read_at : (j x y : ℕ) → nearest (super_of B) (has_field B n t) e ≡ some s → index_of (slot_is s n t) (slots B s) ≡ some j → j < 16 → value_of x y ≡ field_at O o j
            → Read (Above (d - 1) (record { kind = x; bits = y }))
        unfolding read_field meaning frame_of ◌>>=◌ take? object_at
        read_at j x y g h l v = record {
          says = λ I S task fs z p i.
              rw (
                pop-some (operand_at F b) d deep,
                right kind bits (d - 1) reads r receives o is I S,
                h,
                take_at (field_at O o) (used_fields B (object_at B O o).class) j (Word 14)
                    (field-used B (object_at B O o).class e s n t j (under kind bits (d - 1) reads r receives o is) g h l),
                ← v,
              );
          fits = λ few I S k m l. omega arith;
        }

  -- Two operands: a value of type t above the receiver
  module _ (t kind bits : ℕ) (deep : d ≢ 0) (value : value_of kind bits ≡ operand_at F b (d - 1)) where
    -- putfield of field n of type t, which class s declares
    module _ (s n : ℕ) where
      abbrev Written : Plan → Type 0
      Written = Rest N L K E O F b d unlimited (λ B os f fs i. write_field B os f fs i e s n t)

      pub write-unkind : d - 1 ≢ 0 → is_kind t kind bits ≡ false → Written (Refuse (Word 14))
      unfolding write_field meaning frame_of ◌>>=◌
      write-unkind two h = record {
        says = λ I S task fs w p i. rw (pop-some (operand_at F b) d deep, pop-some (operand_at F b) (d - 1) two, ← value, kind-not kind bits t h);
        fits = λ few I S k m l. tt;
      }

      module _ (two : d - 1 ≢ 0) (fit : is_kind t kind bits ≡ true) (x y : ℕ) (reads : value_of x y ≡ operand_at F b (d - 1 - 1)) (r : Rust.Result ℕ Refusal)
          (receives : (I S G : List ℕ) → Received B (tables N L K E I S O G) e x y r) where
        pub write-wrong : (w : Refusal) → r ≡ Rust.Err w → Written (Refuse w)
        unfolding write_field meaning frame_of ◌>>=◌
        write-wrong w q = record {
          says = λ I S task fs z p i.
              rw (
                pop-some (operand_at F b) d deep,
                pop-some (operand_at F b) (d - 1) two,
                ← value,
                kind-is kind bits t fit,
                wrong x y (d - 1 - 1) reads r receives w q I S,
              );
          fits = λ few I S k m l. tt;
        }

        module _ (o : ℕ) (is : r ≡ Rust.Ok o) where
          pub write-absent : index_of (slot_is s n t) (slots B s) ≡ none → Written (Refuse (Word 14))
          unfolding write_field meaning frame_of ◌>>=◌ take?
          write-absent h = record {
            says = λ I S task fs z p i.
                rw (
                  pop-some (operand_at F b) d deep,
                  pop-some (operand_at F b) (d - 1) two,
                  ← value,
                  kind-is kind bits t fit,
                  right x y (d - 1 - 1) reads r receives o is I S,
                  h,
                );
            fits = λ few I S k m l. tt;
          }

          -- a place that no row has room for
          pub write-past : (j : ℕ) → index_of (slot_is s n t) (slots B s) ≡ some j → 16 ≤ j → Written (Keep (d - 1 - 1))
          unfolding write_field meaning frame_of ◌>>=◌ take? objects_of
          write-past j h l = record {
            says = λ I S task fs z p i.
                rw (
                  pop-some (operand_at F b) d deep,
                  pop-some (operand_at F b) (d - 1) two,
                  ← value,
                  kind-is kind bits t fit,
                  right x y (d - 1 - 1) reads r receives o is I S,
                  h,
                  object-field-past B O o j (value_of kind bits) (omega (arith, used-few B (object_at B O o).class)),
                  changed-same (objects_of B (T I S)) o (object_at B O o) (used-there B (T I S) o (there x y (d - 1 - 1) reads r receives o is)),
                );
            fits = λ few I S k m l. tt;
          }

          pub write-at : (j : ℕ) → nearest (super_of B) (has_field B n t) e ≡ some s → index_of (slot_is s n t) (slots B s) ≡ some j → j < 16
              → Written (Field (d - 1 - 1) o j (record { kind = kind; bits = bits }))
          unfolding write_field meaning frame_of ◌>>=◌ take?
          write-at j g h l = record {
            says = λ I S task fs z p i.
                rw (
                  pop-some (operand_at F b) d deep,
                  pop-some (operand_at F b) (d - 1) two,
                  ← value,
                  kind-is kind bits t fit,
                  right x y (d - 1 - 1) reads r receives o is I S,
                  h,
                  used-there B (T I S) o (there x y (d - 1 - 1) reads r receives o is),
                );
            fits = λ few I S k m a.
                (there x y (d - 1 - 1) reads r receives o is, field-used B (object_at B O o).class e s n t j (under x y (d - 1 - 1) reads r receives o is) g h l);
          }

  -- invokevirtual of signature g, of n arguments
  module _ (g : Signature) (n : ℕ) (counted : n ≡ length (argument_types g)) where
    abbrev Called : Plan → Type 0
    Called = Rest N L K E O F b d frames_left (λ B os f fs i. call_method B os f fs i e g)

    -- no more operands than arguments
    pub call-few : d ≤ n → Called (Refuse (Word 14))
    unfolding call_method meaning frame_of
    call-few h = record { says = λ I S task fs w p i. sym (pop-few (operand_at F b) (length (argument_types g)) d (rw counted at h) _); fits = λ few I S k m l. tt }

    module _ (more : n < d) where
      arguments : pop_all! (length (argument_types g)) (stack (operand_at F b) d)
          ≡ ok (record { all = rows (operand_at F b) (length (argument_types g)) (d - n); more = stack (operand_at F b) (d - n) })
      arguments = rw (← counted) (pop-all (operand_at F b) n d (omega arith))

      receiver : pop! (stack (operand_at F b) (d - n)) ≡ ok (record { top = operand_at F b (d - n - 1); more = stack (operand_at F b) (d - n - 1) })
      receiver = pop-some (operand_at F b) (d - n) (λ z. omega arith)

      module _ (u : Bool) (kinds : need u (Word 14) ≡ kinds! (argument_types g) (rows (operand_at F b) (length (argument_types g)) (d - n))) where
        pub call-unkind : u ≡ false → Called (Refuse (Word 14))
        unfolding call_method meaning frame_of ◌>>=◌ need
        call-unkind h = record {
          says = λ I S task fs w p i. rw (arguments, receiver, ← kinds, h);
          fits = λ few I S k m l. tt;
        }

        module _ (fit : u ≡ true) (x y : ℕ) (reads : value_of x y ≡ operand_at F b (d - n - 1)) (r : Rust.Result ℕ Refusal)
            (receives : (I S G : List ℕ) → Received B (tables N L K E I S O G) e x y r) where
          pub call-wrong : (w : Refusal) → r ≡ Rust.Err w → Called (Refuse w)
          unfolding call_method meaning frame_of ◌>>=◌ need
          call-wrong w q = record {
            says = λ I S task fs z p i.
                rw (arguments, receiver, ← kinds, fit, wrong x y (d - n - 1) reads r receives w q I S);
            fits = λ few I S k m l. tt;
          }

          module _ (o : ℕ) (is : r ≡ Rust.Ok o) where
            pub call-unselected : selected B g (object_at B O o).class ≡ none → Called (Refuse (Word 14))
            unfolding call_method meaning frame_of ◌>>=◌ need take?
            call-unselected h = record {
              says = λ I S task fs z p i.
                  rw (arguments, receiver, ← kinds, fit, right x y (d - n - 1) reads r receives o is I S, h);
              fits = λ few I S k m l. tt;
            }

            pub call_at : n ≤ 4 → (a : Selected) → selected B g (object_at B O o).class ≡ some a
                → Called (Enter (d - n - 1) (record { class = a.class; method = a.place; object = o; count = n }))
            unfolding call_method meaning frame_of ◌>>=◌ need take?
            call_at four a h = record {
              says = λ I S task fs w p i.
                  let z : d - n - 1 + 1 ≡ d - n = omega arith in
                  rw (arguments, receiver, ← kinds, fit, right x y (d - n - 1) reads r receives o is I S, h, z, counted);
              fits = λ few I S k m l. (l, four, omega arith);
            }

  -- fewer than two operands
  module _ (s n t : ℕ) where
    pub write-none : d ≡ 0 → Rest N L K E O F b d unlimited (λ B os f fs i. write_field B os f fs i e s n t) (Refuse (Word 14))
    unfolding write_field meaning frame_of ◌>>=◌
    write-none h = record { says = λ I S task fs w p i. rw (pop-none (operand_at F b) d h); fits = λ few I S k m l. tt }

    pub write-one : d ≢ 0 → d - 1 ≡ 0 → Rest N L K E O F b d unlimited (λ B os f fs i. write_field B os f fs i e s n t) (Refuse (Word 14))
    unfolding write_field meaning frame_of ◌>>=◌
    write-one deep h = record { says = λ I S task fs w p i. rw (pop-some (operand_at F b) d deep, pop-none (operand_at F b) (d - 1) h); fits = λ few I S k m l. tt }
