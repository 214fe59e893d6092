-- The first row of each row's name. A table has for each key the first row with it; a name is a key in two steps: its low part, and behind the first row with that its
-- high part.
use Rattle.std.specs.Prelude.{◌≡◌, List, ℕ, ◌+◌, ◌*◌, ◌<◌, ◌≤◌, ◌/◌, ◌%◌, length, get_or, set}

-- r is the first place with the value of place p
pub record First (value : ℕ → ℕ) (p r : ℕ) : Type 0 where
  pub low : r ≤ p
  pub same : value r ≡ value p
  pub none : (i : ℕ) → i < r → value i ≡ value p → ⊥

-- the node of each of n places: the first place with the same value
abbrev pub NodesOf : (ℕ → ℕ) → ℕ → List ℕ → Type 0
NodesOf value n nodes = (p : ℕ) → p < n → First value p (get_or nodes p 0)

-- c is the first of the first k places that has key x, or the last that there may be, where none has it
pub data FirstIn (Has : ℕ → ℕ → Type 0) (x k c : ℕ) : Type 0 where
  found : c < k → Has c x → ((e : ℕ) → e < c → Has e x → ⊥) → FirstIn Has x k c
  unheld : c ≡ 255 → ((e : ℕ) → e < k → Has e x → ⊥) → FirstIn Has x k c

-- so for each key of a table
abbrev pub FirstsIn : (ℕ → ℕ → Type 0) → ℕ → List ℕ → Type 0
FirstsIn Has k cells = (x : ℕ) → x < length cells → FirstIn Has x k (get_or cells x 0)

-- place p is entered at a key: what stands there is before it, or it is the first
pub data Entered (cells : List ℕ) (key p : ℕ) (cells' : List ℕ) (r : ℕ) : Type 0 where
  older : get_or cells key 0 < p → r ≡ get_or cells key 0 → cells' ≡ cells → Entered cells key p cells' r
  first : p ≤ get_or cells key 0 → r ≡ p → cells' ≡ set cells key p → Entered cells key p cells' r

-- Names of ties

-- the name of row i
abbrev pub name_in : List ℕ → ℕ → ℕ
name_in ties i = get_or ties (i * 3 + 2) 0

-- how many low parts and how many high parts there are
abbrev pub low_count : ℕ
low_count = 4096

abbrev pub high_count : ℕ
high_count = 16

abbrev pub low_of : List ℕ → ℕ → ℕ
low_of ties i = name_in ties i % low_count

abbrev pub high_of : List ℕ → ℕ → ℕ
high_of ties i = name_in ties i / low_count

abbrev pub HasLow : List ℕ → ℕ → ℕ → Type 0
HasLow ties p x = low_of ties p ≡ x

-- the key of a name: its high part, behind those of the first row with its low part
abbrev pub HasName : List ℕ → ℕ → ℕ → Type 0
HasName ties p x = (b : ℕ) × First (low_of ties) p b × (high_of ties p < high_count) × (x ≡ b * high_count + high_of ties p)
