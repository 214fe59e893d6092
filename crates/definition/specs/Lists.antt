-- Tests on lists, and numbered places of a table read as a list and written back. Every search and every table goes through these.
use Rattle.std.specs.Prelude.{Bool, true, false, List, [], ◌∷◌, ℕ, zero, suc, length, eqb}
use Rattle.std.proofs.Math.Option.{Option, none, some}

-- Tests

unfoldable pub every : List Bool → Bool
every [] = true
every (b ∷ bs) = elim b [ true ↦ every bs | false ↦ false ]

unfoldable pub all : {A : Type 0} → (A → Bool) → List A → Bool
all f [] = true
all f (x ∷ xs) = elim (f x) [ true ↦ all f xs | false ↦ false ]

-- each passes the test with its place, counted from c
unfoldable pub all_from : {A : Type 0} → (ℕ → A → Bool) → ℕ → List A → Bool
all_from f c [] = true
all_from f c (x ∷ xs) = elim (f c x) [ true ↦ all_from f (suc c) xs | false ↦ false ]

unfoldable pub any : {A : Type 0} → (A → Bool) → List A → Bool
any f [] = false
any f (x ∷ xs) = elim (f x) [ true ↦ true | false ↦ any f xs ]

-- two of the list stand in f to each other, the earlier first
unfoldable pub doubled : {A : Type 0} → (A → A → Bool) → List A → Bool
doubled f [] = false
doubled f (x ∷ xs) = elim (any (f x) xs) [ true ↦ true | false ↦ doubled f xs ]

-- the place of the first that passes
unfoldable pub index_of : {A : Type 0} → (A → Bool) → List A → Option ℕ
index_of f [] = none
index_of f (x ∷ xs) = elim (f x) [ true ↦ some 0 | false ↦ elim (index_of f xs) [ none ↦ none | some i ↦ some (suc i) ] ]

unfoldable pub is_some : {A : Type 0} → Option A → Bool
is_some none = false
is_some (some a) = true

unfoldable pub is_none : {A : Type 0} → Option A → Bool
is_none none = true
is_none (some a) = false

unfoldable pub to_list : {A : Type 0} → Option A → List A
to_list none = []
to_list (some a) = a ∷ []

-- the same numbers, in the same order
unfoldable pub same_list : List ℕ → List ℕ → Bool
same_list [] [] = true
same_list [] (y ∷ ys) = false
same_list (x ∷ xs) [] = false
same_list (x ∷ xs) (y ∷ ys) = elim (eqb x y) [ true ↦ same_list xs ys | false ↦ false ]

-- k of them: the list's, as far as it goes, then d
unfoldable pub filled : {A : Type 0} → ℕ → A → List A → List A
filled zero d xs = []
filled (suc k) d [] = d ∷ filled k d []
filled (suc k) d (x ∷ xs) = x ∷ filled k d xs

-- element by element, none too many or too few
abbrev pub Each : {A B : Type 0} → (A → B → Type 0) → List A → List B → Type 0
Each R [] [] = Unit {0}
Each R [] (y ∷ ys) = ⊥
Each R (x ∷ xs) [] = ⊥
Each R (x ∷ xs) (y ∷ ys) = R x y × Each R xs ys

-- Numbered places of a table

-- what stands at k places from place i on
unfoldable pub rows : {A : Type 0} → (ℕ → A) → ℕ → ℕ → List A
rows g zero i = []
rows g (suc k) i = g i ∷ rows g k (suc i)

-- a list written into a table from place i on
unfoldable pub write_rows : {A : Type 0} → (List ℕ → ℕ → A → List ℕ) → List A → ℕ → List ℕ → List ℕ
write_rows p [] i t = t
write_rows p (x ∷ xs) i t = p (write_rows p xs (suc i) t) i x

-- what stands at the first k places, the last first
unfoldable pub stack : {A : Type 0} → (ℕ → A) → ℕ → List A
stack g zero = []
stack g (suc k) = g k ∷ stack g k

-- a stack written into a table, its bottom at place 0
unfoldable pub write_stack : {A : Type 0} → (List ℕ → ℕ → A → List ℕ) → List A → List ℕ → List ℕ
write_stack p [] t = t
write_stack p (x ∷ xs) t = p (write_stack p xs t) (length xs) x
