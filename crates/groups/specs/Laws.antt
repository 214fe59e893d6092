-- Groups of rows and of their numbers: where numbers rise with the rows, a group's number is that of its lowest row.
use Rattle.std.specs.Prelude.{◌≡◌, refl, List, [], ◌∷◌, map, length}
use Rattle.std.proofs.Common.{sym, ap, subst, ◌∙◌}
use Rattle.std.proofs.Math.Option.{some, some-injective, none-ne-some}
use Prim.Native.Nat.{ℕ, zero, suc, ◌<◌, ◌≤◌}
use native.Mathlib.Omega.{arith}
use Rattle.std.proofs.Math.ListN.{get_elem?}
use Rattle.definition.specs.Lists.{rows}
use Rattle.definition.specs.Constraints.{Tie}
use Rattle.definition.specs.Numbers.{tie_numbers_cell}
use Rattle.definition.specs.Tables.{tie_at, number_at}
use Rattle.definition.specs.Groups.{groups_of}
use Rattle.laws.specs.Groups.{one_of, GroupNumber, groups-are, group-at}
use Rattle.layout.specs.Places.{rows-length, rows-there}
use Rattle.layout.specs.GroupedRows.{groups-length}
use Rattle.groups.specs.Lowest.{up_to, ties_at}

-- What stands in row j

module _ {A : Type 0} (g : ℕ → A) where
  there-low : (k i j : ℕ) (x : A) → get_elem? (rows g k i) j ≡ some x → j < k
  unfolding rows
  there-low zero i j x e = absurd (none-ne-some x e)
  there-low (suc k) i zero x e = omega arith
  there-low (suc k) i (suc j) x e = omega (arith, there-low k (suc i) j x e)

  pub there-row : (k j : ℕ) (x : A) → get_elem? (rows g k 0) j ≡ some x → (j < k) × (x ≡ g j)
  there-row k j x e = let l = there-low k 0 j x e in (l, some-injective x (g j) (sym e ∙ rows-there g k j l))

-- Numbers that rise

map-length : {A B : Type 0} (f : A → B) (xs : List A) → length (map f xs) ≡ length xs
map-length f [] = refl
map-length f (x ∷ xs) = ap suc (map-length f xs)

map-at : {A B : Type 0} (f : A → B) (xs : List A) (i : ℕ) (x : A) → get_elem? xs i ≡ some x → get_elem? (map f xs) i ≡ some (f x)
map-at f [] i x e = absurd (none-ne-some x e)
map-at f (y ∷ xs) zero x e = ap (λ z. some (f z)) (some-injective y x e)
map-at f (y ∷ xs) (suc i) x e = map-at f xs i x e

below : {A : Type 0} (xs : List A) (i : ℕ) (x : A) → get_elem? xs i ≡ some x → i < length xs
below [] i x e = absurd (none-ne-some x e)
below (y ∷ xs) zero x e = omega arith
below (y ∷ xs) (suc i) x e = omega (arith, below xs i x e)

-- the numbers of n rows rise with them
abbrev pub Rising : (ℕ → ℕ) → ℕ → Type 0
Rising f n = (i j : ℕ) → i ≤ j → j < n → f i ≤ f j

pub groups-numbered : (ts : List Tie) (f : ℕ → ℕ) (n : ℕ) → length ts ≡ n → Rising f n → map f (groups_of ts (up_to n)) ≡ groups_of ts (rows f n 0)
groups-numbered ts f n long rising = groups-are ts (rows f n 0) _ (map-length f (groups_of ts (up_to n)) ∙ groups-length ts (up_to n)) each
  where
    each : (i : ℕ) (t : Tie) (g : ℕ) → get_elem? ts i ≡ some t → get_elem? (map f (groups_of ts (up_to n))) i ≡ some g → GroupNumber ts (rows f n 0) (one_of t) g
    each i t g x y =
        let w = group-at ts (up_to n) (rows-length (λ i. i) n 0 ∙ sym long) i t x in
        let r = w.0 in
        let G = w.2 in
        let e : f r ≡ g = some-injective _ g (sym (map-at f (groups_of ts (up_to n)) i r w.1) ∙ y) in
        let z = there-row (λ i. i) n G.row.row r G.row.number in
        let l : r < n = omega (arith, z.0, z.1) in
        subst (λ (k : ℕ). GroupNumber ts (rows f n 0) (one_of t) k) e (record {
          tie = G.tie;
          row = record { row = r; tie = subst (λ (k : ℕ). get_elem? ts k ≡ some G.tie) (sym z.1) G.row.tie; number = rows-there f n r l };
          chain = G.chain;
          least = λ u m k p q c.
              let h : k < n = omega (arith, long, below ts k u p) in
              let v = there-row f n k m q in
              omega (arith, v.1, rising r k (G.least u k k p (rows-there (λ i. i) n k h) c) h);
        })

-- Groups as numbers of ties: what is tested and written

-- groups by the numbers that stand in counts
abbrev pub groups_by : List ℕ → List ℕ → ℕ → List ℕ
groups_by counts ties n = map (number_at tie_numbers_cell counts) (groups_of (ties_at ties n) (up_to n))

abbrev pub numbers_in : List ℕ → ℕ → List ℕ
numbers_in counts n = rows (number_at tie_numbers_cell counts) n 0

-- where they rise these are the definition's
pub groups-by : (counts ties : List ℕ) (n : ℕ) → Rising (number_at tie_numbers_cell counts) n → groups_by counts ties n ≡ groups_of (ties_at ties n) (numbers_in counts n)
groups-by counts ties n rising = groups-numbered (ties_at ties n) (number_at tie_numbers_cell counts) n (rows-length (tie_at ties) n 0) rising
