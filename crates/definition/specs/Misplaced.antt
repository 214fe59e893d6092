-- Misplaced values, counted over all objects' fields, inherited ones too, and all frames of both tasks; types are read off the kept files.
use Rattle.std.specs.Prelude.{◌≡◌, Bool, true, false, List, [], ◌∷◌, reverse, ℕ, ◌+◌, length, ltb}
use Rattle.std.proofs.Math.Option.{Option, none, some}
use Rattle.std.proofs.Math.ListN.{get_elem?}
use Rattle.definition.specs.Lists.{Each}
use Rattle.definition.specs.Maybe.{◌>>=◌, need}
use Rattle.definition.specs.Requests.{at}
use Rattle.definition.specs.Superclasses.{Below, below}
use Rattle.definition.specs.Classes.{find, super_of, loader_of, slots}
use Rattle.definition.specs.Constraints.{World}
use Rattle.definition.specs.Verifier.{VerifierType, type_int, type_null, type_class, type_of_name, types_in}
use Rattle.definition.specs.Machine.{Value, empty_value, int_value, null_value, object_value, unlisted_value, Object, free, owned, Objects, Frame, existing}
use Rattle.definition.specs.Tables.{Tables, Rows, world_of, view}

-- A value in a place of type t under loader l, in words: of type int an int; null where the type is null; of a class name null or an object
-- that exists and, if the request is loaded, is of that class or below it

abbrev pub Placed : World → Objects → ℕ → VerifierType → Value → Type 0
Placed w os l type_int empty_value = ⊥
Placed w os l type_int (int_value n) = Unit {0}
Placed w os l type_int null_value = ⊥
Placed w os l type_int (object_value o) = ⊥
Placed w os l type_int (unlisted_value k b) = ⊥
Placed w os l type_null empty_value = ⊥
Placed w os l type_null (int_value n) = ⊥
Placed w os l type_null null_value = Unit {0}
Placed w os l type_null (object_value o) = ⊥
Placed w os l type_null (unlisted_value k b) = ⊥
Placed w os l (type_class n) empty_value = ⊥
Placed w os l (type_class n) (int_value m) = ⊥
Placed w os l (type_class n) null_value = Unit {0}
Placed w os l (type_class n) (object_value o) =
    (b : Object) × (existing os o ≡ some b) × ((d : ℕ) → find w.base.cache (at l n) ≡ some d → Below (super_of w.base) b.class d)
Placed w os l (type_class n) (unlisted_value k b) = ⊥

-- The same as a test

unfoldable pub placed : World → Objects → ℕ → VerifierType → Value → Bool
placed w os l type_int empty_value = false
placed w os l type_int (int_value n) = true
placed w os l type_int null_value = false
placed w os l type_int (object_value o) = false
placed w os l type_int (unlisted_value k b) = false
placed w os l type_null empty_value = false
placed w os l type_null (int_value n) = false
placed w os l type_null null_value = true
placed w os l type_null (object_value o) = false
placed w os l type_null (unlisted_value k b) = false
placed w os l (type_class n) empty_value = false
placed w os l (type_class n) (int_value m) = false
placed w os l (type_class n) null_value = true
placed w os l (type_class n) (object_value o) = elim (existing os o) [
  | none ↦ false
  | some b ↦ elim (find w.base.cache (at l n)) [ none ↦ true | some d ↦ below (super_of w.base) b.class d ]
]
placed w os l (type_class n) (unlisted_value k b) = false

-- a local is set unless its type is unset
abbrev pub PlacedLocal : World → Objects → ℕ → Option VerifierType → Value → Type 0
PlacedLocal w os l none v = Unit {0}
PlacedLocal w os l (some t) v = Placed w os l t v

unfoldable pub placed_local : World → Objects → ℕ → Option VerifierType → Value → Bool
placed_local w os l none v = true
placed_local w os l (some t) v = placed w os l t v

-- pairs that fail, and what is too many or too few
unfoldable pub failures : {A B : Type 0} → (A → B → Bool) → List A → List B → ℕ
failures f [] [] = 0
failures f [] (y ∷ ys) = 1 + failures f [] ys
failures f (x ∷ xs) [] = 1 + failures f xs []
failures f (x ∷ xs) (y ∷ ys) = elim (f x y) [ true ↦ failures f xs ys | false ↦ 1 + failures f xs ys ]

-- a field's type is its declaring class's, under that class's loader
unfoldable pub misplaced_fields : World → Objects → Objects → ℕ
misplaced_fields w os [] = 0
misplaced_fields w os (free ∷ bs) = misplaced_fields w os bs
misplaced_fields w os (owned k b ∷ bs) =
    failures (λ s v. placed w os (loader_of w.base s.owner) (type_of_name s.type) v) (slots w.base b.class) b.values
    + misplaced_fields w os bs

-- The types of a frame: the verifier's at its point. A frame that waits stands at the next point and has its operands without the result.

unfoldable pub waiting_types : Bool → List VerifierType → Option (List VerifierType)
waiting_types false ts = some ts
waiting_types true [] = none
waiting_types true (t ∷ ts) = some ts

pub record FrameTypes : Type 0 where
  pub loader : ℕ
  pub operands : List VerifierType
  pub locals : List (Option VerifierType)

unfoldable pub types_of : World → Bool → Frame → Option FrameTypes
types_of w waits f =
    get_elem? w.base.classes f.class >>= λ k. get_elem? k.methods f.method >>= λ m.
    need (ltb f.point (length m.code)) >>= λ _. types_in k m f.point >>= λ s.
    waiting_types waits s.operands >>= λ ts. some (record { loader = k.loader; operands = ts; locals = s.locals })

-- a frame that has no types counts 1; operands are paired from the lowest
unfoldable pub misplaced_in_frame : World → Objects → Bool → Frame → ℕ
misplaced_in_frame w os waits f = elim (types_of w waits f) [
  | none ↦ 1
  | some x ↦ failures (placed w os x.loader) (reverse x.operands) (reverse f.operands) + failures (placed_local w os x.loader) x.locals f.locals
]

-- the top frame runs, those below wait
unfoldable pub misplaced_in_frames : World → Objects → Bool → List Frame → ℕ
misplaced_in_frames w os waits [] = 0
misplaced_in_frames w os waits (f ∷ fs) = misplaced_in_frame w os waits f + misplaced_in_frames w os true fs

unfoldable pub misplaced_in : Rows → ℕ
misplaced_in r =
    misplaced_fields (world_of r) r.objects r.objects + misplaced_in_frames (world_of r) r.objects false r.quote
    + misplaced_in_frames (world_of r) r.objects false r.report

unfoldable pub misplaced : Tables → ℕ
misplaced t = misplaced_in (view t)

-- No value is misplaced, in words: each field of each object that exists, each operand and each set local of each frame is placed

abbrev pub FieldsPlaced : World → Objects → Object → Type 0
FieldsPlaced w os b = Each (λ s v. Placed w os (loader_of w.base s.owner) (type_of_name s.type) v) (slots w.base b.class) b.values

pub record FramePlaced (w : World) (os : Objects) (waits : Bool) (f : Frame) : Type 0 where
  pub types : FrameTypes
  pub has : types_of w waits f ≡ some types
  pub operands : Each (Placed w os types.loader) types.operands f.operands
  pub locals : Each (PlacedLocal w os types.loader) types.locals f.locals

abbrev pub FramesPlaced : World → Objects → Bool → List Frame → Type 0
FramesPlaced w os waits [] = Unit {0}
FramesPlaced w os waits (f ∷ fs) = FramePlaced w os waits f × FramesPlaced w os true fs

pub record AllPlaced (r : Rows) : Type 0 where
  pub fields : (o : ℕ) (b : Object) → existing r.objects o ≡ some b → FieldsPlaced (world_of r) r.objects b
  pub quote : FramesPlaced (world_of r) r.objects false r.quote
  pub report : FramesPlaced (world_of r) r.objects false r.report
