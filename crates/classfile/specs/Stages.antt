-- The readings of the file rules, one after another, each at a place of the bytes: when it passes, and what it then gives.
use Rattle.std.specs.Prelude.{◌≡◌, Bool, ◌&&◌, List, [], ◌∷◌, get_or, eqb}
use Rattle.std.proofs.Math.Path.{refl}
use Rattle.std.proofs.Common.{sym, ap, ◌∙◌, drop_of_length-le, drop-cons}
use Rattle.std.proofs.Math.Logic.{⊎_elim}
use Rattle.std.proofs.Math.Bool.{true, false}
use Rattle.std.proofs.lemmas.Bool.{false≢true}
use Rattle.std.proofs.Math.Option.{Option, none, some}
use Prim.Native.Nat.{ℕ, zero, suc, ◌+◌, ◌*◌, ◌≤◌, ◌<◌}
use native.Mathlib.Omega.{arith}
use Rattle.std.proofs.Math.ListN.{length, drop, length-drop}
use Rattle.std.proofs.Math.Seq.{drop-drop}
use Rattle.std.proofs.Math.Dec.{leb}
use borrow.Author.Tests.{leb-true, eqb-true, le-leb, eq-eqb}
use Rattle.definition.specs.Lists.{all, rows}
use Rattle.definition.specs.Maybe.{◌>>=◌, need}
use Rattle.definition.specs.Classes.{types_of, Map, is_named}
use Rattle.definition.specs.Instructions.{pick, short_at}
use Rattle.definition.specs.File.{Got, byte, short, name, count, fields_in, list_in, one_in, arguments_in, signature_in, names_in, map_in, maps_from, maps_in, methods_in, ends}
use Rattle.cells.specs.Listed.{list_at}
use Rattle.classfile.specs.Lists.{le-or-lt, ◌and◌, Each, each_more, each-rest}
use Rattle.classfile.specs.Reading.{file_version, field_place, field_in, map_count, map_depth, map_end, type_at, map_of, map_place, map_numbered, maps_of, argument_number, arguments_size, arguments_at, result_place, quick_signature, code_length, code_place, code_end, code_at, map_bytes, maps_size, method_at, next_place, method_place, method_in}
use Rattle.classfile.specs.Listed.{list-some, types-list, set-types, types-set}
use Rattle.classfile.specs.Rules.{NamedField, listed_method, named_method, WholeMap, WholeMaps, least_offset, WholeMethod}

-- a reading that gives x where T holds, and else fails
pub data Outcome {A : Type 0} (m : Option A) (T : Type 0) (x : A) : Type 0 where
  passes : T → m ≡ some x → Outcome m T x
  fails : (T → ⊥) → m ≡ none → Outcome m T x

module _ {A : Type 0} {m : Option A} {T U : Type 0} {x : A} where
  -- the same condition in other words
  pub meant : (T → U) → (U → T) → Outcome m T x → Outcome m U x
  meant f g (passes t e) = passes (f t) e
  meant f g (fails n e) = fails (λ u. n (g u)) e

module _ {A B : Type 0} {m : Option A} (f : A → Option B) {T U : Type 0} {x : A} {y : B} where
  after : (t : T) → m ≡ some x → Outcome (f x) U y → Outcome (m >>= f) (T × U) y
  unfolding ◌>>=◌
  after t e (passes u d) = passes (t, u) (rw e d)
  after t e (fails n d) = fails (λ p. n p.1) (rw e d)

  -- one reading and then another
  pub then : Outcome m T x → (T → Outcome (f x) U y) → Outcome (m >>= f) (T × U) y
  unfolding ◌>>=◌
  then (passes t e) g = after t e (g t)
  then (fails n e) g = fails (λ p. n p.0) (rw e)

module _ {A B : Type 0} {m : Option A} (f : A → B) {T : Type 0} {x : A} where
  -- what was read is put together
  pub made : Outcome m T x → Outcome (m >>= λ a. some (f a)) T (f x)
  unfolding ◌>>=◌
  made (passes t e) = passes t (rw e)
  made (fails n e) = fails n (rw e)

-- a test
pub needs : (t : Bool) → Outcome (need t) (t ≡ true) tt
unfolding need
needs true = passes refl refl
needs false = fails false≢true refl

pub needs-le : (a b : ℕ) → Outcome (need (leb a b)) (a ≤ b) tt
needs-le a b = meant (leb-true a b) (le-leb a b) (needs (leb a b))

-- from a to c
pub needs-both : (a b c : ℕ) → Outcome (need (leb a b && leb b c)) ((a ≤ b) × (b ≤ c)) tt
needs-both a b c =
    meant (λ e. let t = two _ _ e in (leb-true a b t.0, leb-true b c t.1)) (λ h. rw (le-leb a b h.0, le-leb b c h.1)) (needs _)
  where
    two : (s t : Bool) → s && t ≡ true → (s ≡ true) × (t ≡ true)
    two true true h = (refl, refl)
    two true false h = absurd (false≢true h)
    two false t h = absurd (false≢true h)

pub needs-eq : (a b : ℕ) → Outcome (need (eqb a b)) (a ≡ b) tt
needs-eq a b = meant (eqb-true a b) (eq-eqb a b) (needs (eqb a b))

-- what was read, and the bytes from place p on
abbrev pub got : {A : Type 0} → List ℕ → A → ℕ → Got A
got bs v p = record { value = v; more = drop p bs }

-- the same place in other words
pub moved : (bs : List ℕ) {A : Type 0} {m : Option (Got A)} {T : Type 0} {v : A} {p q : ℕ}
    → p ≡ q → Outcome m T (got bs v p) → Outcome m T (got bs v q)
moved bs e o = rw e at o

module _ (bs : List ℕ) where
  byte-here : (p : ℕ) → p < length bs → byte (drop p bs) ≡ some (got bs (get_or bs p 0) (p + 1))
  unfolding byte
  byte-here p h = let next : p + 1 ≡ suc p = omega arith in rw (drop-cons bs p 0 h, next)

  byte_past : (p : ℕ) → length bs ≤ p → byte (drop p bs) ≡ none
  unfolding byte
  byte_past p h = rw (drop_of_length-le bs h)

  pub byte_at : (p : ℕ) → Outcome (byte (drop p bs)) (p < length bs) (got bs (get_or bs p 0) (p + 1))
  byte_at p = ⊎_elim (λ h. fails (λ l. omega arith) (byte_past p h)) (λ h. passes h (byte-here p h)) (le-or-lt (length bs) p)

  pub short-at : (p : ℕ) → Outcome (short (drop p bs)) (p + 2 ≤ length bs) (got bs (short_at bs p) (p + 2))
  unfolding short short_at
  short-at p =
      let next : p + 1 + 1 ≡ p + 2 = omega arith in
      meant (λ h. omega (arith, h.1)) (λ h. (omega arith, omega arith)) (then _ (byte_at p) (λ _. made _ (moved bs next (byte_at (p + 1)))))

  pub name-at : (n p : ℕ) → Outcome (name n (drop p bs)) ((p + 2 ≤ length bs) × (n ≤ short_at bs p)) (got bs (short_at bs p) (p + 2))
  unfolding name
  name-at n p = then _ (short-at p) (λ _. made _ (needs-le n (short_at bs p)))

  pub count-at : (p : ℕ) → Outcome (count (drop p bs)) ((p < length bs) × (get_or bs p 0 ≤ 8)) (got bs (get_or bs p 0) (p + 1))
  unfolding count
  count-at p = then _ (byte_at p) (λ _. made _ (needs-le (get_or bs p 0) 8))

  pub ends_at : (p : ℕ) → Outcome (need (ends (drop p bs))) (length bs ≤ p) tt
  unfolding ends need
  ends_at p =
      ⊎_elim (λ h. passes h (rw (drop_of_length-le bs h))) (λ h. fails (λ l. omega arith) (rw (drop-cons bs p 0 h))) (le-or-lt (length bs) p)

  -- a name or type that is not 0
  abbrev NameRule : ℕ → Type 0
  NameRule p = (p + 2 ≤ length bs) × (1 ≤ short_at bs p)

  -- Fields

  abbrev pub FieldRule : ℕ → Type 0
  FieldRule i = (field_place (suc i) ≤ length bs) × NamedField bs i

  -- as one field after another is tested
  abbrev FieldsFrom : ℕ → ℕ → Type 0
  FieldsFrom k i = NameRule (field_place i) × (NameRule (field_place i + 2) × Each FieldRule k (suc i))

  field-rule : (k i : ℕ) → FieldsFrom k i → Each FieldRule (suc k) i
  unfolding field_in field_place
  field-rule k i h = each_more FieldRule k i (omega (arith, h.1.0.0), record { name = h.0.1; type = h.1.0.1 }) h.1.1

  field-tests : (k i : ℕ) → Each FieldRule (suc k) i → FieldsFrom k i
  unfolding field_in field_place
  field-tests k i h =
      let p = each-rest FieldRule k i h in
      ((omega (arith, p.0.0)) and p.0.1.name) and ((omega (arith, p.0.0)) and p.0.1.type) and p.1

  pub fields_at : (k i : ℕ) → Outcome (fields_in k (drop (field_place i) bs)) (Each FieldRule k i) (got bs (rows (field_in bs) k i) (field_place (i + k)))
  unfolding fields_in rows field_in field_place
  fields_at zero i = let none : i + 0 ≡ i = omega arith in passes (λ j l m. absurd (omega arith)) (rw none)
  fields_at (suc k) i =
      let next : field_place i + 2 + 2 ≡ field_place (suc i) = omega arith in
      let end : suc i + k ≡ i + suc k = omega arith in
      meant (field-rule k i) (field-tests k i)
      (then _ (name-at 1 (field_place i)) (λ _. then _ (moved bs next (name-at 1 (field_place i + 2))) (λ _.
      made _ (moved bs (ap field_place end) (fields_at k (suc i))))))

  -- Maps

  -- type j of those from place p on is there, and n or more
  abbrev TypeRule : ℕ → ℕ → ℕ → Type 0
  TypeRule n p j = (p + 2 * j + 2 ≤ length bs) × (n ≤ type_at bs p j)

  types-from : (n p k i : ℕ) → Outcome (names_in n k (drop (p + 2 * i) bs)) (Each (TypeRule n p) k i) (got bs (rows (type_at bs p) k i) (p + 2 * (i + k)))
  unfolding names_in rows type_at
  types-from n p zero i = let none : i + 0 ≡ i = omega arith in passes (λ j l m. absurd (omega arith)) (rw none)
  types-from n p (suc k) i =
      let next : p + 2 * i + 2 ≡ p + 2 * suc i = omega arith in
      let end : p + 2 * (suc i + k) ≡ p + 2 * (i + suc k) = omega arith in
      meant (λ h. each_more (TypeRule n p) k i h.0 h.1) (each-rest (TypeRule n p) k i)
      (then _ (moved bs next (name-at n (p + 2 * i))) (λ _. made _ (moved bs end (types-from n p k (suc i)))))

  starts : (n k : ℕ) {p q : ℕ} {T : Type 0} {x : Got (List ℕ)} → p ≡ q → Outcome (names_in n k (drop p bs)) T x → Outcome (names_in n k (drop q bs)) T x
  starts n k e o = rw e at o

  types-at : (n p k q : ℕ) → p + 2 * k ≡ q → Outcome (names_in n k (drop p bs)) (Each (TypeRule n p) k 0) (got bs (rows (type_at bs p) k 0) q)
  types-at n p k q e =
      let first : p + 2 * 0 ≡ p = omega arith in
      let last : p + 2 * (0 + k) ≡ q = omega arith in
      starts n k first (moved bs last (types-from n p k 0))

  -- as a map is tested
  abbrev MapTests : ℕ → ℕ → Type 0
  MapTests o p =
      ((p + 2 ≤ length bs) × (o ≤ short_at bs p))
      × (Each (TypeRule 0 (p + 2)) 8 0
      × ((p + 18 < length bs) × ((map_depth bs p ≤ 16) × Each (TypeRule 1 (p + 19)) (map_depth bs p) 0)))

  -- the last type ends within the bytes
  types-within : (n p k : ℕ) → p ≤ length bs → Each (TypeRule n p) k 0 → p + 2 * k ≤ length bs
  types-within n p zero w h = omega arith
  types-within n p (suc m) w h = let l = (h m (omega arith) (omega arith)).0 in omega (arith, l)

  map-rule : (o p : ℕ) → MapTests o p → WholeMap bs o p
  unfolding map_end
  map-rule o p h =
      let w = types-within 1 (p + 19) (map_depth bs p) (omega (arith, h.1.1.0)) h.1.1.1.1 in
      record {
        rises = h.0.1;
        few = h.1.1.1.0;
        within = omega (arith, w);
        operands = λ i l. (h.1.1.1.1 i (omega arith) (omega arith)).1;
      }

  map-tests : (o p : ℕ) → WholeMap bs o p → MapTests o p
  unfolding map_end
  map-tests o p h =
      let w : p + (19 + 2 * map_depth bs p) ≤ length bs = h.within in
      ((omega arith) and h.rises)
      and (λ j l m. (omega arith) and (omega arith))
      and (omega arith)
      and h.few
      and (λ j l m. (omega arith) and h.operands j (omega arith))

  map-at : (o p : ℕ) → Outcome (map_in o (drop p bs)) (WholeMap bs o p) (got bs (map_of bs p) (map_end bs p))
  unfolding map_in map_of map_end map_depth
  map-at o p =
      let next : p + 18 + 1 ≡ p + 19 = omega arith in
      meant (map-rule o p) (map-tests o p)
      (then _ (name-at o p) (λ _. then _ (types-at 0 (p + 2) 8 (p + 18) (omega arith)) (λ _.
      then _ (moved bs next (byte_at (p + 18))) (λ _. then _ (needs-le (map_depth bs p) 16) (λ _.
      made _ (types-at 1 (p + 19) (map_depth bs p) (p + (19 + 2 * map_depth bs p)) (omega arith)))))))

  abbrev MapRule : ℕ → Type 0
  MapRule i = WholeMap bs (least_offset bs i) (map_place bs i)

  maps-from : (k i : ℕ)
      → Outcome (maps_from (least_offset bs i) k (drop (map_place bs i) bs)) (Each MapRule k i) (got bs (rows (map_numbered bs) k i) (map_place bs (i + k)))
  unfolding maps_from rows map_numbered map_of map_place least_offset
  maps-from zero i = let none : i + 0 ≡ i = omega arith in passes (λ j l m. absurd (omega arith)) (rw none)
  maps-from (suc k) i =
      let end : suc i + k ≡ i + suc k = omega arith in
      meant (λ h. each_more MapRule k i h.0 h.1) (each-rest MapRule k i)
      (then _ (map-at (least_offset bs i) (map_place bs i)) (λ _. made _ (moved bs (ap (map_place bs) end) (maps-from k (suc i)))))

  -- the count, and that many maps
  pub maps-counted : Outcome (byte bs >>= λ k. maps_from 0 k.value k.more) (WholeMaps bs) (got bs (maps_of bs) (map_place bs (map_count bs)))
  unfolding maps_of map_count least_offset map_place
  maps-counted =
      let end : 0 + map_count bs ≡ map_count bs = omega arith in
      meant
      (λ h. record { counted = omega (arith, h.0); each = λ i l. h.1 i (omega arith) (omega arith) })
      (λ h. (omega (arith, h.counted)) and (λ i l m. h.each i (omega arith)))
      (then _ (byte_at 0) (λ _. moved bs (ap (map_place bs) end) (maps-from (map_count bs) 0)))

  -- the last map ends within the bytes
  pub maps-within : WholeMaps bs → map_place bs (map_count bs) ≤ length bs
  unfolding map_place
  maps-within h = go (map_count bs) h.each
    where
      go : (k : ℕ) → ((i : ℕ) → i < k → MapRule i) → map_place bs k ≤ length bs
      go zero e = h.counted
      go (suc i) e = (e i (omega arith)).within

-- The maps of a method, and the next method

module _ (bs : List ℕ) where
  abbrev MapsRule : ℕ → Type 0
  MapsRule p = leb 2 (file_version bs) ≡ true → WholeMaps (map_bytes bs p)

  maps-some : (p : ℕ) → leb 2 (file_version bs) ≡ true
      → Outcome (maps_in (file_version bs) (drop (code_end bs p) bs)) (MapsRule p) (got bs (maps_of (map_bytes bs p)) (next_place bs p))
  unfolding maps_in map_bytes next_place maps_size pick
  maps-some p e =
      let ms = drop (code_end bs p) bs in
      let o : Outcome (maps_in (file_version bs) (drop (code_end bs p) bs)) (WholeMaps (map_bytes bs p)) (got bs (maps_of (map_bytes bs p)) (next_place bs p)) =
      rw (e, maps_in, pick, ← drop-drop (map_place ms (map_count ms)) (code_end bs p) bs) (maps-counted ms) in
      meant (λ w d. w) (λ f. f e) o

  maps_none : (p : ℕ) → leb 2 (file_version bs) ≡ false
      → Outcome (maps_in (file_version bs) (drop (code_end bs p) bs)) (MapsRule p) (got bs (maps_of (map_bytes bs p)) (next_place bs p))
  unfolding maps_in map_bytes next_place maps_size maps_of map_count rows pick
  maps_none p e =
      let end : code_end bs p + 0 ≡ code_end bs p = omega arith in
      passes (λ d. absurd (false≢true (sym e ∙ d))) (rw (e, maps_in, pick, end))

  maps-at : (p : ℕ) → Outcome (maps_in (file_version bs) (drop (code_end bs p) bs)) (MapsRule p) (got bs (maps_of (map_bytes bs p)) (next_place bs p))
  maps-at p = go (leb 2 (file_version bs)) refl
    where
      go : (t : Bool) → leb 2 (file_version bs) ≡ t
          → Outcome (maps_in (file_version bs) (drop (code_end bs p) bs)) (MapsRule p) (got bs (maps_of (map_bytes bs p)) (next_place bs p))
      go true e = maps-some p e
      go false e = maps_none p e

  -- a whole method ends within the bytes
  pub method-within : (p : ℕ) → WholeMethod bs p → next_place bs p ≤ length bs
  unfolding next_place maps_size map_bytes pick
  method-within p h = go (leb 2 (file_version bs)) refl
    where
      go : (t : Bool) → leb 2 (file_version bs) ≡ t → next_place bs p ≤ length bs
      go true e =
          let w = maps-within (map_bytes bs p) (h.maps e) in
          let v : map_place (drop (code_end bs p) bs) (map_count (drop (code_end bs p) bs)) ≤ length (drop (code_end bs p) bs) = rw (e, pick) at w in
          rw (e, pick) (omega (arith, v, h.within, length-drop (code_end bs p) bs))
      go false e = rw (e, pick) (omega (arith, h.within))

  -- Methods

  abbrev pub MethodRule : ℕ → Type 0
  MethodRule j = WholeMethod bs (method_place bs j)

  abbrev CodeRule : ℕ → ℕ → Type 0
  CodeRule p l = (1 ≤ l) × (l ≤ 512) × (p + l ≤ length bs)

  and-rule : (a b c : Bool) → a && b && c ≡ true → (a ≡ true) × (b ≡ true) × (c ≡ true)
  and-rule true true true h = (refl, refl, refl)
  and-rule true true false h = absurd (false≢true h)
  and-rule true false c h = absurd (false≢true h)
  and-rule false b c h = absurd (false≢true h)

  -- the code has 1 to l bytes from place p on
  code-rule : (p l : ℕ) → p ≤ length bs → Outcome (need (leb 1 l && leb l 512 && leb l (length (drop p bs)))) (CodeRule p l) tt
  code-rule p l h =
      meant
      (λ e.
      let t = and-rule _ _ _ e in
      (leb-true 1 l t.0, leb-true l 512 t.1, omega (arith, leb-true l (length (drop p bs)) t.2, length-drop p bs)))
      (λ r. rw (le-leb 1 l r.0, le-leb l 512 r.1, le-leb l (length (drop p bs)) (omega (arith, r.2, length-drop p bs))))
      (needs _)

  -- Arguments

  -- what is asked of the arguments: they are there, at most four, and none is 0
  abbrev ArgumentsRule : ℕ → Type 0
  ArgumentsRule p = (result_place bs p ≤ length bs) × (listed_method bs p ≡ true) × (all (leb 1) (types_of (arguments_at bs p)) ≡ true)

  abbrev Arguing : ℕ → Type 0
  Arguing p = Outcome (arguments_in (file_version bs) (drop (p + 2) bs)) (ArgumentsRule p) (got bs (arguments_at bs p) (result_place bs p))

  -- as a list is tested
  abbrev ListTests : ℕ → Type 0
  ListTests p = (p + 2 < length bs) × ((argument_number bs p ≤ 4) × (Each (TypeRule bs 1 (p + 3)) (argument_number bs p) 0 × Unit {0}))

  list-rule : (p : ℕ) → leb 3 (file_version bs) ≡ true → ListTests p → ArgumentsRule p
  unfolding result_place arguments_size arguments_at listed_method pick
  list-rule p e h =
      let n = argument_number bs p in
      let w = types-within bs 1 (p + 3) n (omega (arith, h.0)) h.1.1.0 in
      rw (e, pick, le-leb n 4 h.1.0, types-list bs (p + 3) n h.1.0)
      (omega (arith, w), refl, set-types bs (p + 3) n 0 (λ j l m. (h.1.1.0 j l m).1))

  list-tests : (p : ℕ) → leb 3 (file_version bs) ≡ true → ArgumentsRule p → ListTests p
  unfolding result_place arguments_size arguments_at listed_method pick
  list-tests p e h =
      let n = argument_number bs p in
      let w : p + 2 + (1 + 2 * n) ≤ length bs = rw (e, pick) at h.0 in
      let few = leb-true n 4 (rw (e, pick) at h.1) in
      let set : all (leb 1) (rows (type_at bs (p + 3)) n 0) ≡ true = rw (e, pick, types-list bs (p + 3) n few) at h.2 in
      (omega (arith, w)) and few and (λ j l m. (omega (arith, w)) and types-set bs (p + 3) n 0 set j l m) and tt

  list-end : (p : ℕ) → leb 3 (file_version bs) ≡ true → result_place bs p ≡ p + 3 + 2 * argument_number bs p
  unfolding result_place arguments_size pick
  list-end p e = rw (e, pick) (omega arith)

  list-is : (p : ℕ) → leb 3 (file_version bs) ≡ true → arguments_at bs p ≡ list_at bs (p + 3) (argument_number bs p)
  unfolding arguments_at pick
  list-is p e = rw (e, pick) refl

  list-at : (p : ℕ) → leb 3 (file_version bs) ≡ true → Arguing p
  unfolding arguments_in list_in argument_number
  list-at p e =
      let n = argument_number bs p in
      let three : p + 2 + 1 ≡ p + 3 = omega arith in
      let o : Outcome (list_in (drop (p + 2) bs)) (ListTests p) (got bs (list_at bs (p + 3) n) (p + 3 + 2 * n)) =
      then _ (moved bs three (byte_at bs (p + 2))) (λ _. then _ (needs-le n 4) (λ few.
      then _ (types-at bs 1 (p + 3) n (p + 3 + 2 * n) refl) (λ _. made _ (passes tt (list-some bs (p + 3) n few))))) in
      meant (list-rule p e) (list-tests p e) (rw (e, arguments_in, list-is p e, list-end p e) o)

  one_at : (p : ℕ) → leb 3 (file_version bs) ≡ false → Arguing p
  unfolding arguments_in one_in result_place arguments_size arguments_at listed_method all pick
  one_at p e =
      meant
      (λ (h : NameRule bs (p + 2)). rw (e, pick, all, le-leb 1 (short_at bs (p + 2)) h.1) (h.0, refl, refl))
      (λ h.
      let w : p + 2 + 2 ≤ length bs = rw (e, pick) at h.0 in
      let set : all (leb 1) (short_at bs (p + 2) ∷ []) ≡ true = rw (e, pick) at h.2 in
      (w, leb-true 1 (short_at bs (p + 2)) (sole _ set)))
      (rw (e, arguments_in, pick) (made _ (name-at bs 1 (p + 2))))
    where
      sole : (t : Bool) → (elim t as (λ _. Bool) [ true ↦ true | false ↦ false ]) ≡ true → t ≡ true
      sole true h = refl
      sole false h = absurd (false≢true h)

  arguments-at : (p : ℕ) → Arguing p
  arguments-at p = go (leb 3 (file_version bs)) refl
    where
      go : (t : Bool) → leb 3 (file_version bs) ≡ t → Arguing p
      go true e = list-at p e
      go false e = one_at p e

  -- what is asked of a signature: it is there, with at most four arguments, and neither the name nor a type is 0
  abbrev SignatureRule : ℕ → Type 0
  SignatureRule p = (result_place bs p + 2 ≤ length bs) × (listed_method bs p ≡ true) × (named_method bs p ≡ true)

  -- as one method after another is tested
  abbrev MethodsFrom : ℕ → ℕ → ℕ → Type 0
  MethodsFrom k j p =
      SignatureRule p
      × ((result_place bs p + 2 + 2 ≤ length bs)
      × (CodeRule (code_place bs p) (code_length bs p) × (MapsRule p × Each MethodRule k (suc j))))

  method-rule : (k j : ℕ) → MethodsFrom k j (method_place bs j) → Each MethodRule (suc k) j
  unfolding code_end
  method-rule k j h =
      let code = h.1.1.0 in
      each_more MethodRule k j
      (record {
        listed = h.0.1;
        named = h.0.2;
        some = code.0;
        few = code.1;
        within = code.2;
        maps = h.1.1.1.0;
      })
      h.1.1.1.1

  method-tests : (k j : ℕ) → Each MethodRule (suc k) j → MethodsFrom k j (method_place bs j)
  unfolding code_end code_place
  method-tests k j h =
      let p = each-rest MethodRule k j h in
      let m = p.0 in
      let place = method_place bs j in
      let all : result_place bs place + 4 + code_length bs place ≤ length bs = m.within in
      (omega (arith, all), m.listed, m.named)
      and (omega (arith, all))
      and (m.some, m.few, all)
      and m.maps
      and p.1

  after-name : (p : ℕ) → p + 2 ≤ result_place bs p
  unfolding result_place
  after-name p = omega arith

  signature_at : (p : ℕ) → Outcome (signature_in (file_version bs) (drop p bs)) (SignatureRule p) (got bs (quick_signature bs p) (result_place bs p + 2))
  unfolding signature_in quick_signature named_method is_named
  signature_at p =
      let starts = after-name p in
      meant
      (λ h. (h.1.1.0, h.1.0.1, rw (le-leb _ _ h.0.1, h.1.0.2, le-leb _ _ h.1.1.1)))
      (λ h.
      let t = and-rule _ _ _ h.2 in
      (omega (arith, h.0, starts), leb-true _ _ t.0) and (omega (arith, h.0), h.1, t.1) and (h.0, leb-true _ _ t.2))
      (then _ (name-at bs 1 p) (λ _. then _ (arguments-at p) (λ _. made _ (name-at bs 1 (result_place bs p)))))

  -- after the code of the method at place p
  rest_at : (p : ℕ) {T : Type 0} {x : Got (List Map)}
      → Outcome (maps_in (file_version bs) (drop (code_end bs p) bs)) T x → Outcome (maps_in (file_version bs) (drop (code_length bs p) (drop (code_place bs p) bs))) T x
  unfolding code_end
  rest_at p o = rw (drop-drop (code_length bs p) (code_place bs p) bs) o

  pub methods-at : (k j : ℕ)
      → Outcome (methods_in (file_version bs) k (drop (method_place bs j) bs)) (Each MethodRule k j) (got bs (rows (method_in bs) k j) (method_place bs (j + k)))
  unfolding methods_in rows method_in method_at method_place code_at code_length code_place
  methods-at zero j = let none : j + 0 ≡ j = omega arith in passes (λ i l m. absurd (omega arith)) (rw none)
  methods-at (suc k) j =
      let p = method_place bs j in
      let code : result_place bs p + 2 + 2 ≡ code_place bs p = omega arith in
      let end : suc j + k ≡ j + suc k = omega arith in
      let rest = moved bs (ap (method_place bs) end) (methods-at k (suc j)) in
      meant (method-rule k j) (method-tests k j)
      (then _ (signature_at p) (λ _. then _ (moved bs code (short-at bs (result_place bs p + 2))) (λ h.
      then _ (code-rule (code_place bs p) (code_length bs p) (omega (arith, h))) (λ _. then _ (rest_at p (maps-at p)) (λ _. made _ rest)))))
