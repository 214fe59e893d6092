-- A sweep as the code does it: objects are marked and put on a work list, first those that frames name, then those that the objects on the list name in their
-- fields; objects in use without a mark are freed. What is marked so is what frames reach (proofs/Reaching).
use Rattle.std.specs.Prelude.{Bool, true, false, List, [], ◌∷◌, ℕ, zero, suc, ◌+◌, ◌*◌, replicate, get_or, set, eqb, ltb}
use Rattle.definition.specs.Numbers.{object_limit, count_frames, owners_cell, value_cells}
use Rattle.definition.specs.Lists.{every, stack}
use Rattle.definition.specs.Machine.{Value, empty_value, int_value, null_value, object_value, unlisted_value}
use Rattle.definition.specs.Sweeping.{named, roots}
use Rattle.definition.specs.Tables.{value_at, owner_at, frame_in}
use Rattle.store.specs.Checks.{sized_object}

-- a cell for each object, 0 if it is not marked; the marked objects in the order in which they were found, and how many they are
pub record Work : Type 0 where
  pub marks : List ℕ
  pub list : List ℕ
  pub size : ℕ

abbrev pub work : List ℕ → List ℕ → ℕ → Work
work m l n = record { marks = m; list = l; size = n }

-- Marking

abbrev pub added : Work → ℕ → Work
added w o = work (set w.marks o 1) (set w.list w.size o) (w.size + 1)

-- an object that is not marked yet is marked and put on the list, where that has room
unfoldable pub mark : Work → ℕ → Work
mark w o = elim (eqb (get_or w.marks o 0) 0) as (λ _. Work) [
  | true ↦ elim (ltb w.size object_limit) as (λ _. Work) [ true ↦ added w o | false ↦ w ]
  | false ↦ w
]

unfoldable pub mark_all : Work → List ℕ → Work
mark_all w [] = w
mark_all w (o ∷ os) = mark_all (mark w o) os

unfoldable pub mark_value : Work → Value → Work
mark_value w empty_value = w
mark_value w (int_value n) = w
mark_value w null_value = w
mark_value w (object_value o) = mark w o
mark_value w (unlisted_value k b) = w

-- the i-th of the values from cell `first` on
unfoldable pub value_from : List ℕ → ℕ → ℕ → Value
value_from t first i = value_at t (first + value_cells * i)

-- The work list: the object at place i is looked at, until the list ends

-- the objects that the fields of object o name, where `sizes` has the sizes of the classes
unfoldable pub field_names : List ℕ → List ℕ → ℕ → List ℕ
field_names sizes t o = named (sized_object sizes t o).values

-- k is at least the number of places that are left
module _ (names : ℕ → List ℕ) where
  unfoldable pub follow : ℕ → ℕ → Work → Work
  follow zero i w = w
  follow (suc k) i w = elim (ltb i w.size) as (λ _. Work) [ true ↦ follow k (suc i) (mark_all w (names (get_or w.list i 0))) | false ↦ w ]

-- both tasks' roots
abbrev pub roots_of : List ℕ → List ℕ → ℕ → List ℕ
roots_of counts frames k = roots (stack (frame_in frames k) (get_or counts (count_frames + k) 0))

unfoldable pub marked : List ℕ → List ℕ → List ℕ → List ℕ → List ℕ → Work
marked sizes counts objects frames marks =
    follow (field_names sizes objects) object_limit 0
    (mark_all (mark_all (work marks (replicate object_limit 0) 0) (roots_of counts frames 0)) (roots_of counts frames 1))

-- Freeing

-- an object in use that is not marked
unfoldable pub dead : List ℕ → List ℕ → ℕ → Bool
dead marks counts o = every (ltb 0 (owner_at counts o) ∷ eqb (get_or marks o 0) 0 ∷ [])

-- the counts with the owners of such objects cleared, and how many they are
pub record Freed : Type 0 where
  pub counts : List ℕ
  pub number : ℕ

abbrev pub freed : List ℕ → ℕ → Freed
freed c k = record { counts = c; number = k }

-- k rows from o on; m were freed before
module _ (marks : List ℕ) where
  unfoldable pub free_rows : ℕ → ℕ → List ℕ → ℕ → Freed
  free_rows zero o c m = freed c m
  free_rows (suc k) o c m = elim (dead marks c o) as (λ _. Freed) [
    | true ↦ free_rows k (suc o) (set c (owners_cell + o) 0) (m + 1)
    | false ↦ free_rows k (suc o) c m
  ]
