-- The place of a 6 or 15: its number is the desk's, and it lies in a method of the file, within its code or at its end.
use mathlib.Core.Path.{◌≡◌, refl, sym, subst, ◌∙◌}
use mathlib.Core.Bool.{Bool, true, false, false≢true, not, ◌&&◌, ◌||◌}
use mathlib.Core.Option.{Option, none, some, none-ne-some, some-injective}
use mathlib.Core.List.{List, [], ◌∷◌, ◌++◌}
use mathlib.Core.Logic.{◌⊎◌, inl, inr}
use Prim.Native.Nat.{ℕ, zero, suc, ◌+◌, ◌-◌, ◌≤◌}
use native.Mathlib.Omega.{arith}
use lib.ListN.{length, get_elem?}
use lib.Dec.{leb}
use Rattle.definition.specs.Numbers.{version_two, word_unmapped, word_unverified, word_file}
use Rattle.definition.specs.Lists.{any, is_none, is_some, to_list}
use Rattle.definition.specs.Maybe.{◌>>=◌, need}
use Rattle.definition.specs.Classes.{Class, Map, Method}
use Rattle.definition.specs.Instructions.{Decoded, decode}
use Rattle.definition.specs.Verifier.{Note, TypeState, Flow, Turn, Onward, finished, onto, map_at, target, goes_on, entry_types, flow_into, turn, maps_past, verify, unmapped_from, notes_of_method, unmapped, notes_of}
use Rattle.definition.specs.File.{File, read_file, class_of}
use Rattle.definition.specs.Desk.{verifier_number, desk_number}
use Rattle.laws.specs.Sized.{within}
use Rattle.laws.specs.Walk.{turn-cases}
use Rattle.laws.specs.InOrder.{turn-does, Goes}
use Rattle.definition.specs.Places.{stops_from, lacks_from, lacks_at, stops_in, lacks_in, Place, place, first_place, Verdict, unplaced, placed, verdict_by, verdict_on, desk_verdict}
use Rattle.verifier.proofs.DecodingLaws.{decode-within}
use Rattle.verifier.proofs.StopLaws.{lacks-any}

after_none : {A B : Type 0} (o : Option A) (f : A → B) → is_none (o >>= λ a. some (f a)) ≡ is_none o
unfolding is_none ◌>>=◌
after_none none f = refl
after_none (some a) f = refl

module _ (version : ℕ) (code : List ℕ) (maps : List Map) (result : ℕ) where
  -- The walk stops somewhere exactly if it isn't accepted

  turn-number : (more : List Map) (p : ℕ) (rest : ℕ → TypeState → Option (List Note)) (stop : ℕ → TypeState → Option ℕ)
      → ((q : ℕ) (u : TypeState) → is_none (rest q u) ≡ is_some (stop q u)) → (o : Option Turn)
      → is_none {A = List Note} (o >>= λ t. elim t.next as (λ _. Option (List Note)) [
        | finished ↦ need (leb (length more) 0) >>= λ _. some t.notes
        | onto q u ↦ rest q u >>= λ ns. some (t.notes ++ ns)
      ]) ≡ is_some {A = ℕ} (elim o as (λ _. Option ℕ) [
        | none ↦ some p
        | some t ↦ elim t.next as (λ _. Option ℕ) [ finished ↦ elim (leb (length more) 0) as (λ _. Option ℕ) [ true ↦ none | false ↦ some (length code) ] | onto q u ↦ stop q u ]
      ])
  unfolding is_none is_some need ◌>>=◌
  turn-number more p rest stop same none = refl
  turn-number more p rest stop same (some t) = go t.next (leb (length more) 0)
    where
      go : (o : Onward) (b : Bool)
          → is_none {A = List Note} (elim o as (λ _. Option (List Note)) [ finished ↦ need b >>= λ _. some t.notes | onto q u ↦ rest q u >>= λ ns. some (t.notes ++ ns) ])
          ≡ is_some {A = ℕ} (elim o as (λ _. Option ℕ) [ finished ↦ elim b as (λ _. Option ℕ) [ true ↦ none | false ↦ some (length code) ] | onto q u ↦ stop q u ])
      go finished true = refl
      go finished false = refl
      go (onto q u) b = after_none (rest q u) (λ ns. t.notes ++ ns) ∙ same q u

  walk-number : (k p : ℕ) (left : List Map) (s : TypeState) → is_none (verify version code maps result k p left s) ≡ is_some (stops_from version code maps result k p left s)
  unfolding verify stops_from is_none is_some ◌>>=◌
  walk-number zero p left s = refl
  walk-number (suc k) p left s = go (maps_past version code maps result p left) (λ q more u. walk-number k q more u)
    where
      go : (o : Option (List Map)) → ((q : ℕ) (more : List Map) (u : TypeState) → is_none (verify version code maps result k q more u) ≡ is_some (stops_from version code maps result k q more u))
          → is_none {A = List Note} (o >>= λ more. turn version code maps result p s >>= λ t. elim t.next as (λ _. Option (List Note)) [
            | finished ↦ need (leb (length more) 0) >>= λ _. some t.notes
            | onto q u ↦ verify version code maps result k q more u >>= λ ns. some (t.notes ++ ns)
          ]) ≡ is_some {A = ℕ} (elim o as (λ _. Option ℕ) [
            | none ↦ some p
            | some more ↦ elim (turn version code maps result p s) as (λ _. Option ℕ) [
              | none ↦ some p
              | some t ↦ elim t.next as (λ _. Option ℕ) [
                | finished ↦ elim (leb (length more) 0) as (λ _. Option ℕ) [ true ↦ none | false ↦ some (length code) ]
                | onto q u ↦ stops_from version code maps result k q more u
              ]
            ]
          ])
      go none ih = refl
      go (some more) ih =
          turn-number more p (λ q u. verify version code maps result k q more u) (λ q u. stops_from version code maps result k q more u) (λ q u. ih q more u)
          (turn version code maps result p s)

module _ (k : Class) where
  method-number : (m : Method) → is_none (notes_of_method k m) ≡ is_some (stops_in k m)
  unfolding notes_of_method stops_in is_none is_some ◌>>=◌
  method-number m = go (flow_into k.version m.code m.maps m.signature.result 0 (entry_types k m))
    where
      go : (o : Option Flow)
          → is_none {A = List Note} (o >>= λ f. verify k.version m.code m.maps m.signature.result (length m.code) 0 m.maps f.types >>= λ ns. some (f.notes ++ ns))
          ≡ is_some {A = ℕ} (elim o as (λ _. Option ℕ) [
            | none ↦ some 0
            | some f ↦ stops_from k.version m.code m.maps m.signature.result (length m.code) 0 m.maps f.types
          ])
      go none = refl
      go (some f) =
          after_none (verify k.version m.code m.maps m.signature.result (length m.code) 0 m.maps f.types) (λ ns. f.notes ++ ns)
          ∙ walk-number k.version m.code m.maps m.signature.result (length m.code) 0 m.maps f.types

  method-lack : (m : Method) → unmapped k m ≡ is_some (lacks_in k m)
  unfolding unmapped lacks_in lacks_at is_some
  method-lack m = go (leb version_two k.version)
    where
      go : (b : Bool)
          → (b && unmapped_from k.version m.code m.maps m.signature.result (length m.code) 0 false)
          ≡ is_some {A = ℕ} (elim b as (λ _. Option ℕ) [ true ↦ lacks_from k.version m.code m.maps (length m.code) 0 false | false ↦ none ])
      go true = sym (lacks-any k.version m.code m.maps m.signature.result (length m.code) 0 false)
      go false = refl

  class-number : (j : ℕ) (ms : List Method) → is_none (notes_of k ms) ≡ is_some (first_place (stops_in k) j ms)
  unfolding notes_of first_place is_none is_some ◌>>=◌
  class-number j [] = refl
  class-number j (m ∷ ms) = go (notes_of_method k m) (stops_in k m) (method-number m) (class-number (suc j) ms)
    where
      go : (o : Option (List Note)) (q : Option ℕ) → is_none o ≡ is_some q → is_none (notes_of k ms) ≡ is_some (first_place (stops_in k) (suc j) ms)
          → is_none {A = List Note} (o >>= λ ns. notes_of k ms >>= λ rs. some (ns ++ rs)) ≡ is_some {A = Place} (elim q as (λ _. Option Place) [ none ↦ first_place (stops_in k) (suc j) ms | some p ↦ some (place j p) ])
      go none none e ih = absurd (false≢true (sym e))
      go none (some p) e ih = refl
      go (some ns) none e ih = after_none (notes_of k ms) (λ rs. ns ++ rs) ∙ ih
      go (some ns) (some p) e ih = absurd (false≢true e)

  class-lack : (j : ℕ) (ms : List Method) → any (unmapped k) ms ≡ is_some (first_place (lacks_in k) j ms)
  unfolding any first_place is_some
  class-lack j [] = refl
  class-lack j (m ∷ ms) = go (unmapped k m) (lacks_in k m) (method-lack m) (class-lack (suc j) ms)
    where
      go : (b : Bool) (q : Option ℕ) → b ≡ is_some q → any (unmapped k) ms ≡ is_some (first_place (lacks_in k) (suc j) ms)
          → (elim b as (λ _. Bool) [ true ↦ true | false ↦ any (unmapped k) ms ]) ≡ is_some {A = Place} (elim q as (λ _. Option Place) [ none ↦ first_place (lacks_in k) (suc j) ms | some p ↦ some (place j p) ])
      go true none e ih = absurd (false≢true (sym e))
      go true (some p) e ih = refl
      go false none e ih = ih
      go false (some p) e ih = absurd (false≢true e)

by_number : (A B : Option Place) (u : Bool) (o : Option (List Note)) → u ≡ is_some A → is_none o ≡ is_some B
    → (verdict_by A B).number ≡ (elim u as (λ _. ℕ) [ true ↦ word_unmapped | false ↦ elim o as (λ _. ℕ) [ none ↦ word_unverified | some _ ↦ 0 ] ])
unfolding verdict_by is_some is_none
by_number (some a) B true o e f = refl
by_number (some a) B false o e f = absurd (false≢true e)
by_number none B true o e f = absurd (false≢true (sym e))
by_number none (some b) false none e f = refl
by_number none (some b) false (some n) e f = absurd (false≢true f)
by_number none none false none e f = absurd (false≢true (sym f))
by_number none none false (some n) e f = refl

-- For all bytes the number is that of `tariff_check`
pub verdict-number : (bs : List ℕ) → (desk_verdict bs).number ≡ desk_number bs
unfolding desk_verdict desk_number verdict_on verifier_number
verdict-number bs = go (read_file bs)
  where
    go : (o : Option File) → (elim o as (λ _. Verdict) [ none ↦ unplaced word_file | some f ↦ verdict_on f ]).number ≡ (elim o as (λ _. ℕ) [ none ↦ word_file | some f ↦ verifier_number f ])
    go none = refl
    go (some f) =
        by_number (first_place (lacks_in (class_of 0 f)) 0 f.methods) (first_place (stops_in (class_of 0 f)) 0 f.methods) (any (unmapped (class_of 0 f)) f.methods)
        (notes_of (class_of 0 f) f.methods) (class-lack (class_of 0 f) 0 f.methods) (class-number (class_of 0 f) 0 f.methods)

-- Points lie within the code or at its end

module _ (version : ℕ) (code : List ℕ) (maps : List Map) (result : ℕ) where
  turn-within : (p : ℕ) (s : TypeState) (t : Turn) → turn version code maps result p s ≡ some t → (q : ℕ) (u : TypeState) → t.next ≡ onto q u → q ≤ length code
  turn-within p s t h q u e =
      let a = turn-cases version code maps result p s t h in
      let d = turn-does version code maps result a.0 p s t a.2 in
      let g : q ≡ p + a.0.size = subst (λ (o : Onward). Goes version code maps result o (p + a.0.size)) e d.1 in
      omega (arith, g, (decode-within version code p a.0 a.1).0)

  same_point : (p q : ℕ) → p ≤ length code → ◌≡◌ {A = Option ℕ} (some p) (some q) → q ≤ length code
  same_point p q l e = subst (λ (x : ℕ). x ≤ length code) (some-injective _ _ e) l

  walk-within : (k p : ℕ) (left : List Map) (s : TypeState) → p ≤ length code → (q : ℕ) → stops_from version code maps result k p left s ≡ some q → q ≤ length code
  unfolding stops_from
  walk-within zero p left s l q h = same_point p q l h
  walk-within (suc k) p left s l q h = passed (maps_past version code maps result p left) h (λ r more u a b. walk-within k r more u a q b)
    where
      Later : Type 0
      Later = (r : ℕ) (more : List Map) (u : TypeState) → r ≤ length code → stops_from version code maps result k r more u ≡ some q → q ≤ length code

      ends : (b : Bool) → (elim b as (λ _. Option ℕ) [ true ↦ none | false ↦ some (length code) ]) ≡ some q → q ≤ length code
      ends true e = absurd (none-ne-some q e)
      ends false e = same_point (length code) q (omega arith) e

      nexts : (more : List Map) (t : Turn) → turn version code maps result p s ≡ some t → (o : Onward) → t.next ≡ o
          → (elim o as (λ _. Option ℕ) [
            | finished ↦ elim (leb (length more) 0) as (λ _. Option ℕ) [ true ↦ none | false ↦ some (length code) ]
            | onto r u ↦ stops_from version code maps result k r more u
          ]) ≡ some q → Later → q ≤ length code
      nexts more t d finished z e ih = ends (leb (length more) 0) e
      nexts more t d (onto r u) z e ih = ih r more u (turn-within p s t d r u z) e

      turns : (more : List Map) (o : Option Turn) → turn version code maps result p s ≡ o
          → (elim o as (λ _. Option ℕ) [
            | none ↦ some p
            | some t ↦ elim t.next as (λ _. Option ℕ) [
              | finished ↦ elim (leb (length more) 0) as (λ _. Option ℕ) [ true ↦ none | false ↦ some (length code) ]
              | onto r u ↦ stops_from version code maps result k r more u
            ]
          ]) ≡ some q → Later → q ≤ length code
      turns more none d e ih = same_point p q l e
      turns more (some t) d e ih = nexts more t d t.next refl e ih

      passed : (o : Option (List Map)) → (elim o as (λ _. Option ℕ) [
        | none ↦ some p
        | some more ↦ elim (turn version code maps result p s) as (λ _. Option ℕ) [
          | none ↦ some p
          | some t ↦ elim t.next as (λ _. Option ℕ) [
            | finished ↦ elim (leb (length more) 0) as (λ _. Option ℕ) [ true ↦ none | false ↦ some (length code) ]
            | onto r u ↦ stops_from version code maps result k r more u
          ]
        ]
      ]) ≡ some q → Later → q ≤ length code
      passed none e ih = same_point p q l e
      passed (some more) e ih = turns more (turn version code maps result p s) refl e ih

  lack-within : (k p : ℕ) (wants : Bool) (q : ℕ) → lacks_from version code maps k p wants ≡ some q → q ≤ length code
  unfolding lacks_from
  lack-within zero p wants q h = absurd (none-ne-some q h)
  lack-within (suc k) p wants q h = go (decode version code p) refl h (λ r w e. lack-within k r w q e)
    where
      Later : Type 0
      Later = (r : ℕ) (w : Bool) → lacks_from version code maps k r w ≡ some q → q ≤ length code

      here : (i : Decoded) → decode version code p ≡ some i → (b : Bool) → (elim b as (λ _. Option ℕ) [
        | true ↦ some p
        | false ↦ lacks_from version code maps k (p + i.size) (not (goes_on i.instruction))
      ]) ≡ some q → Later → q ≤ length code
      here i d true e ih = same_point p q (omega (arith, within version code p i d)) e
      here i d false e ih = ih (p + i.size) (not (goes_on i.instruction)) e

      go : (o : Option Decoded) → decode version code p ≡ o → (elim o as (λ _. Option ℕ) [
        | none ↦ none
        | some i ↦ elim ((wants && is_none (map_at maps p)) || any (λ r. is_none (map_at maps r)) (to_list (target i.instruction))) as (λ _. Option ℕ) [
          | true ↦ some p
          | false ↦ lacks_from version code maps k (p + i.size) (not (goes_on i.instruction))
        ]
      ]) ≡ some q → Later → q ≤ length code
      go none d e ih = absurd (none-ne-some q e)
      go (some i) d e ih = here i d ((wants && is_none (map_at maps p)) || any (λ r. is_none (map_at maps r)) (to_list (target i.instruction))) e ih

module _ (k : Class) (m : Method) (q : ℕ) where
  pub method-within : stops_in k m ≡ some q → q ≤ length m.code
  unfolding stops_in
  method-within h = go (flow_into k.version m.code m.maps m.signature.result 0 (entry_types k m)) h
    where
      go : (o : Option Flow) → (elim o as (λ _. Option ℕ) [
        | none ↦ some 0
        | some f ↦ stops_from k.version m.code m.maps m.signature.result (length m.code) 0 m.maps f.types
      ]) ≡ some q → q ≤ length m.code
      go none e = same_point k.version m.code m.maps m.signature.result 0 q (omega arith) e
      go (some f) e = walk-within k.version m.code m.maps m.signature.result (length m.code) 0 m.maps f.types (omega arith) q e

  pub method-lacks : lacks_in k m ≡ some q → q ≤ length m.code
  unfolding lacks_in lacks_at
  method-lacks h = go (leb version_two k.version) h
    where
      go : (b : Bool) → (elim b as (λ _. Option ℕ) [ true ↦ lacks_from k.version m.code m.maps (length m.code) 0 false | false ↦ none ]) ≡ some q → q ≤ length m.code
      go true e = lack-within k.version m.code m.maps m.signature.result (length m.code) 0 false q e
      go false e = absurd (none-ne-some q e)

-- A place is in the method of its number

pub record Stands (f : Method → Option ℕ) (ms : List Method) (j : ℕ) (q : Place) : Type 0 where
  pub method : Method
  pub there : get_elem? ms (q.method - j) ≡ some method
  pub behind : j ≤ q.method
  pub says : f method ≡ some q.point

pub first-stands : (f : Method → Option ℕ) (j : ℕ) (ms : List Method) (q : Place) → first_place f j ms ≡ some q → Stands f ms j q
unfolding first_place
first-stands f j [] q h = absurd (none-ne-some q h)
first-stands f j (m ∷ ms) q h = go (f m) refl h (λ e. first-stands f (suc j) ms q e)
  where
    later : (s : Stands f ms (suc j) q) → get_elem? (m ∷ ms) (q.method - j) ≡ some s.method
    later s = let z : q.method - j ≡ suc (q.method - suc j) = omega (arith, s.behind) in rw z s.there

    go : (o : Option ℕ) → f m ≡ o → (elim o as (λ _. Option Place) [ none ↦ first_place f (suc j) ms | some p ↦ some (place j p) ]) ≡ some q
        → (first_place f (suc j) ms ≡ some q → Stands f ms (suc j) q) → Stands f (m ∷ ms) j q
    go none d e ih = let s = ih e in record { method = s.method; there = later s; behind = omega (arith, s.behind); says = s.says }
    go (some p) d e ih =
        subst (λ (x : Place). Stands f (m ∷ ms) j x) (some-injective _ _ e)
        (record { method = m; there = (let z : j - j ≡ 0 = omega arith in rw z refl); behind = omega arith; says = d })

-- what is told of a 6 or 15
pub record Within (f : File) (v : Verdict) : Type 0 where
  pub method : Method
  pub there : get_elem? f.methods v.method ≡ some method
  pub point : v.point ≤ length method.code

-- of 0 and 2 the cells are 0
pub Told : File → Verdict → Type 0
Told f v = (((v.number ≡ word_unverified) ⊎ (v.number ≡ word_unmapped)) × Within f v) ⊎ (v ≡ unplaced 0)

placed-within : (f : File) (n : ℕ) (g : Method → Option ℕ) → ((m : Method) (q : ℕ) → g m ≡ some q → q ≤ length m.code) → (q : Place) → first_place g 0 f.methods ≡ some q → Within f (placed n q)
placed-within f n g le q h =
    let s = first-stands g 0 f.methods q h in
    let z : q.method - 0 ≡ q.method = omega arith in
    record { method = s.method; there = rw z at s.there; point = le s.method q.point s.says }

pub verdict-told : (bs : List ℕ) (f : File) → read_file bs ≡ some f → Told f (desk_verdict bs)
unfolding desk_verdict verdict_on verdict_by Told
verdict-told bs f e = rw (desk_verdict, e) (go (first_place (lacks_in (class_of 0 f)) 0 f.methods) refl (first_place (stops_in (class_of 0 f)) 0 f.methods) refl)
  where
    go : (a : Option Place) → first_place (lacks_in (class_of 0 f)) 0 f.methods ≡ a → (b : Option Place) → first_place (stops_in (class_of 0 f)) 0 f.methods ≡ b → Told f (verdict_by a b)
    go (some q) d b c = inl (inr refl, placed-within f word_unmapped (lacks_in (class_of 0 f)) (λ m x. method-lacks (class_of 0 f) m x) q d)
    go none d (some q) c = inl (inl refl, placed-within f word_unverified (stops_in (class_of 0 f)) (λ m x. method-within (class_of 0 f) m x) q c)
    go none d none c = inr refl

pub verdict-unread : (bs : List ℕ) → read_file bs ≡ none → desk_verdict bs ≡ unplaced word_file
unfolding desk_verdict
verdict-unread bs e = rw (desk_verdict, e) refl
