-- The search for the map at a point, the table of the maps, and the tests for a map that is lacking.
use Rattle.std.specs.Prelude as P
use Rattle.cells.specs.Optional.{optional}
use Rattle.definition.specs.declared.Instruction.{Instruction}
use Rattle.definition.specs.declared.Instruction.TheVariants.{AconstNull, Sipush, Load, Store, Pop, Dup, Arithmetic, Getfield, Putfield, Invokevirtual, New, Return, Branch}
use Rattle.definition.specs.declared.Kind.{Kind}
use Rattle.definition.specs.declared.Condition.{Condition}
use mathlib.Core.Path.{◌≡◌, refl, sym, ap, ◌∙◌}
use mathlib.Core.Bool.{Bool, true, false, false≢true, not, ◌&&◌}
use mathlib.Core.Logic.{◌≢◌}
use mathlib.Core.Option.{Option, none, some}
use mathlib.Core.List.{List, [], ◌∷◌, ◌++◌}
use Prim.Native.Nat.{ℕ, ◌+◌, ◌-◌, ◌*◌, ◌≤◌, ◌<◌}
use native.Mathlib.Omega.{arith}
use native.Mathlib.Numerals.{add-one}
use lib.ListN.{length, get_or, set, replicate, length-set, length-replicate, get_or-replicate}
use lib.Seq.{get_or-set_same, get_or-set_other}
use lib.Dec.{eqb, leb}
use borrow.Author.Tests.{eq-eqb, ne_eqb, eqb-true, eqb-false}
use Rattle.definition.specs.Instructions.{pick}
use Rattle.definition.specs.Lists.{any, is_none, rows}
use Rattle.definition.specs.Classes.{Map}
use Rattle.definition.specs.Verifier.{map_at, target, goes_on, unmapped_from}
use Rattle.layout.specs.Places.{rows_step, rows_none, rows_start, rows_last}
use Rattle.classfile.specs.Reading.{file_version, map_count, map_depth, map_end, map_of, map_place, map_numbered, maps_of, code_at, map_bytes, method_at, method_in}
use Rattle.verifier.specs.Lookups.{map_there, map_found, Indexed, unmapped_in}

-- the place after map i, which begins at p and takes d bytes
pub map_next : (ms : List ℕ) (i p d : ℕ) → p ≡ map_place ms i → d ≡ 19 + 2 * map_depth ms p → p + d ≡ map_place ms (i + 1)
unfolding map_place map_end
map_next ms i p d e f = rw (add-one, ← e) (ap (λ (k : ℕ). p + k) f)

module _ (m : Map) (ms : List Map) (p : ℕ) where
  here : m.offset ≡ p → map_at (m ∷ ms) p ≡ some m
  unfolding map_at
  here e = rw (eq-eqb m.offset p e, map_at)

  later : m.offset ≢ p → map_at (m ∷ ms) p ≡ map_at ms p
  unfolding map_at
  later e = rw (ne_eqb m.offset p e, map_at)

module _ (ms : List ℕ) (n i p q : ℕ) (e : p ≡ map_place ms i) where
  pub found_here : i < n → (map_of ms p).offset ≡ q → map_found ms (P.Some p) ≡ map_at (rows (map_numbered ms) (n - i) i) q
  unfolding map_found map_numbered
  found_here h f =
      rw (rows_step (map_numbered ms) n i h, ← e)
      (sym (here (map_of ms p) (rows (map_numbered ms) (n - (i + 1)) (i + 1)) q f))

  pub found-later : i < n → (map_of ms p).offset ≢ q → map_at (rows (map_numbered ms) (n - i) i) q ≡ map_at (rows (map_numbered ms) (n - (i + 1)) (i + 1)) q
  unfolding map_numbered
  found-later h f =
      rw (rows_step (map_numbered ms) n i h, ← e)
      (later (map_of ms p) (rows (map_numbered ms) (n - (i + 1)) (i + 1)) q f)

pub found-start : (ms : List ℕ) (n q : ℕ) → n ≡ map_count ms → map_at (rows (map_numbered ms) (n - 0) 0) q ≡ map_at (maps_of ms) q
unfolding maps_of
found-start ms n q e = rw (e, rows_start (map_numbered ms) (map_count ms))

pub found-never : (ms : List ℕ) (n i q : ℕ) → n ≤ i → map_at (rows (map_numbered ms) (n - i) i) q ≡ none
unfolding map_at
found-never ms n i q h = rw (rows_none (map_numbered ms) n i h)

-- a choice between two that are the same
pub pick_same : {A : Type 0} (b : Bool) (x y : A) → x ≡ y → pick b x y ≡ y
unfolding pick
pick_same true x y e = e
pick_same false x y e = refl

-- The table of the first i maps

abbrev pub IndexedTo : List ℕ → List ℕ → ℕ → Type 0
IndexedTo ms t i = (q : ℕ) → q < length t → map_there ms (get_or t q 0) ≡ map_at (rows (map_numbered ms) i 0) q

pub indexed-none : (ms : List ℕ) (n : ℕ) → IndexedTo ms (replicate n 0) 0
unfolding map_there map_at rows pick
indexed-none ms n q h = rw (get_or-replicate {A = ℕ} n q 0 0 (rw (length-replicate {A = ℕ} n 0) at h))

-- an earlier map wins
earlier : Option Map → Option Map → Option Map
earlier none b = b
earlier (some m) b = some m

earlier-alone : (m : Option Map) → earlier m none ≡ m
unfolding earlier
earlier-alone none = refl
earlier-alone (some m) = refl

map_at-both : (xs ys : List Map) (q : ℕ) → map_at (xs ++ ys) q ≡ earlier (map_at xs q) (map_at ys q)
unfolding map_at earlier
map_at-both [] ys q = refl
map_at-both (x ∷ xs) ys q = go (eqb x.offset q) (map_at-both xs ys q)
  where
    go :
        (b : Bool) → map_at (xs ++ ys) q ≡ earlier (map_at xs q) (map_at ys q) →
        (elim b as (λ _. Option Map) [ true ↦ some x | false ↦ map_at (xs ++ ys) q ]) ≡ earlier (elim b as (λ _. Option Map) [ true ↦ some x | false ↦ map_at xs q ]) (map_at ys q)
    go true e = refl
    go false e = e

-- the table after place p is put at point o, if the test says so
module _ (t : List ℕ) (o p : ℕ) where
  put : Bool → List ℕ
  put b = pick b (set t o p) t

  put-length : (b : Bool) → length (put b) ≡ length t
  unfolding put pick
  put-length true = length-set t o p
  put-length false = refl

  put_other : (b : Bool) (q : ℕ) → o ≢ q → get_or (put b) q 0 ≡ get_or t q 0
  unfolding put pick
  put_other true q n = get_or-set_other t o q p 0 (λ z. n (sym z))
  put_other false q n = refl

  pub placed-length : length (pick (eqb (get_or t o 0) 0) (set t o p) t) ≡ length t
  unfolding put
  placed-length = put-length (eqb (get_or t o 0) 0)

-- one more map, at point o
module _ (ms t : List ℕ) (i p o : ℕ) (e : p ≡ map_place ms i) (l : 1 ≤ p) (f : (map_of ms p).offset ≡ o) (known : IndexedTo ms t i) where
  -- the maps with this one: the table's, else this one at its own point
  more : (q : ℕ) → q < length t → map_at (rows (map_numbered ms) (i + 1) 0) q ≡ earlier (map_there ms (get_or t q 0)) (map_at (map_of ms p ∷ []) q)
  unfolding map_numbered
  more q h =
      let z : 0 + i ≡ i = omega arith in
      rw (add-one i, rows_last (map_numbered ms) i 0, z, known q h, e) (map_at-both (rows (map_numbered ms) i 0) (map_numbered ms i ∷ []) q)

  -- at its own point the table has an earlier map, or is given this one
  own : (b : Bool) → eqb (get_or t o 0) 0 ≡ b → o < length t → map_there ms (get_or (put t o p b) o 0) ≡ map_at (rows (map_numbered ms) (i + 1) 0) o
  unfolding map_there earlier put pick
  own true z h = rw (get_or-set_same t o p 0 h, more o h, here (map_of ms p) [] o f, map_there, z, ne_eqb p 0 (λ k. omega arith))
  own false z h = rw (more o h, map_there, z)

  -- at another point it changes nothing
  other : (q : ℕ) → q < length t → o ≢ q → map_there ms (get_or t q 0) ≡ map_at (rows (map_numbered ms) (i + 1) 0) q
  unfolding map_at
  other q h n = rw (more q h, later (map_of ms p) [] q (rw f n)) (sym (earlier-alone (map_there ms (get_or t q 0))))

  pub indexed-more : IndexedTo ms (pick (eqb (get_or t o 0) 0) (set t o p) t) (i + 1)
  unfolding put
  indexed-more q h = go (eqb o q) refl (rw (placed-length t o p) at h)
    where
      go : (b : Bool) → eqb o q ≡ b → q < length t → map_there ms (get_or (put t o p (eqb (get_or t o 0) 0)) q 0) ≡ map_at (rows (map_numbered ms) (i + 1) 0) q
      go true r k = rw (← eqb-true o q r) (own (eqb (get_or t o 0) 0) refl (rw (eqb-true o q r) k))
      go false r k = rw (put_other t o p (eqb (get_or t o 0) 0) q (eqb-false o q r)) (other q k (eqb-false o q r))

pub indexed-all : (ms t : List ℕ) (n i : ℕ) → n ≡ map_count ms → i ≤ n → n ≤ i → IndexedTo ms t i → Indexed ms t
unfolding Indexed maps_of
indexed-all ms t n i e h l known = let z : map_count ms ≡ i = omega arith in rw z known

-- a table that reaches no point
pub indexed-nowhere : (ms : List ℕ) → Indexed ms []
unfolding Indexed
indexed-nowhere ms q h = absurd (omega arith)

-- whether there is a map
pub bare : (ms : List ℕ) (r : P.Option ℕ) (m : Option Map) → map_found ms r ≡ m → (b : Bool) → P.is_some r ≡ not b → b ≡ is_none m
unfolding map_found is_none
bare ms P.None m e true h = rw (← e) refl
bare ms P.None m e false h = absurd (false≢true h)
bare ms (P.Some r) m e false h = rw (← e) refl
bare ms (P.Some r) m e true h = absurd (false≢true (sym h))

pub any-one : {A : Type 0} (f : A → Bool) (a : A) (b : Bool) → b ≡ f a → b ≡ any f (a ∷ [])
unfolding any
any-one f a b e = e ∙ go (f a)
  where
    go : (c : Bool) → c ≡ (elim c as (λ _. Bool) [ true ↦ true | false ↦ false ])
    go true = refl
    go false = refl

-- An instruction that is neither a return nor a branch goes on, and one that is no branch has no target

pub goes-else : (i : Instruction) → ((k : Kind) → i ≡ Return k → ⊥) → ((c : Condition) (p : ℕ) → i ≡ Branch c p → ⊥) → true ≡ goes_on i
unfolding goes_on
goes-else AconstNull f g = refl
goes-else (Sipush n) f g = refl
goes-else (Load k n) f g = refl
goes-else (Store k n) f g = refl
goes-else Pop f g = refl
goes-else Dup f g = refl
goes-else (Arithmetic o) f g = refl
goes-else (Getfield a b n) f g = refl
goes-else (Putfield a b n) f g = refl
goes-else (Invokevirtual n s) f g = refl
goes-else (New n) f g = refl
goes-else (Return k) f g = absurd (f k refl)
goes-else (Branch c p) f g = absurd (g c p refl)

pub targets-else : (i : Instruction) → ((c : Condition) (p : ℕ) → i ≡ Branch c p → ⊥) → P.None ≡ optional (target i)
unfolding target
targets-else AconstNull g = refl
targets-else (Sipush n) g = refl
targets-else (Load k n) g = refl
targets-else (Store k n) g = refl
targets-else Pop g = refl
targets-else Dup g = refl
targets-else (Arithmetic o) g = refl
targets-else (Getfield a b n) g = refl
targets-else (Putfield a b n) g = refl
targets-else (Invokevirtual n s) g = refl
targets-else (New n) g = refl
targets-else (Return k) g = refl
targets-else (Branch c p) g = absurd (g c p refl)

-- a method of a file, whose record begins at p
pub unmapped-found :
    (bs : List ℕ) (j p version : ℕ) (code maps : List ℕ) (r : Bool) → method_at bs p ≡ method_in bs j → version ≡ file_version bs → code ≡ code_at bs p → maps ≡ map_bytes bs p →
    ((result : ℕ) → r ≡ (leb 2 version && unmapped_from version code (maps_of maps) result (length code) 0 false)) → r ≡ unmapped_in (file_version bs) (method_in bs j)
unfolding unmapped_in method_at
unmapped-found bs j p version code maps r e v c m f = rw (← e) (rw (v, c, m) at (f (method_at bs p).signature.result))
