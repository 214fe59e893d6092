-- The places that the code finds are the definition's, in a file that reads, and small numbers.
use mathlib.Core.Path.{◌≡◌, refl, sym, subst, ◌∙◌}
use mathlib.Core.Bool.{Bool, true, false, false≢true}
use mathlib.Core.Option.{Option, none, some, none-ne-some, some-injective}
use mathlib.Core.List.{List, [], ◌∷◌}
use Prim.Native.Nat.{ℕ, zero, suc, ◌-◌, ◌≤◌}
use native.Mathlib.Omega.{arith}
use lib.ListN.{length, get_elem?, take, drop, set}
use lib.Dec.{leb}
use Rattle.definition.specs.Numbers.{word_file, word_unmapped, word_unverified}
use Rattle.definition.specs.Lists.{is_some, write_rows}
use Rattle.definition.specs.Instructions.{pick}
use Rattle.definition.specs.Maybe.{◌>>=◌}
use Rattle.definition.specs.Classes.{Class, Map, Method}
use Rattle.definition.specs.Verifier.{TypeState, Flow, finished, onto as goes_onto, map_at, flow_into, turn, maps_past, entry_types}
use Rattle.definition.specs.File.{File, read_file, class_of}
use Rattle.layout.specs.Tests.{All, is-some}
use Rattle.layout.specs.Cells.{cells-sets}
use Rattle.layout.specs.Places.{rows_all}
use Rattle.classfile.specs.Reading.{file_version, class_name, method_count, method_at, method_in, method_place, quick_methods, code_at, code_place, code_length}
use Rattle.classfile.specs.Rules.{Readable}
use Rattle.classfile.specs.Laws.{file-readable, version-of, name_of, methods-of}
use Rattle.verifier.specs.declared.places.Check.{Check}
use Rattle.verifier.specs.declared.places.Check.TheVariants.{Maps, Types}
use Rattle.verifier.specs.Types.{entry_of}
use Rattle.verifier.specs.Trace.{Onward, refused, accepted, onto, onward, Turned, into_turn, turned}
use Rattle.definition.specs.Places as told
use Rattle.definition.specs.Places.{stops_from, lacks_at, stops_in, lacks_in, Place, place, first_place, unplaced, placed, verdict_by, verdict_on, desk_verdict, verdict_cells}
use Rattle.verifier.specs.Stops.{stop_at_end, stopping, stops, whole_stop, check_point, check_in}
use Rattle.verifier.proofs.SayingLaws.{said, turn_said, flown, into-says, turn-says}
use Rattle.verifier.proofs.ClassLaws.{FewIn, methods-few}
use Rattle.desk.proofs.PlaceLaws.{method-within, method-lacks, first-stands, verdict-unread}
use Rattle.desk.specs.declared.Verdict.{Verdict}
use Rattle.desk.specs.Answers.{verdict_of}

module _ (version : ℕ) (code : List ℕ) (maps : List Map) (result : ℕ) (few : (p : ℕ) (m : Map) → map_at maps p ≡ some m → length m.operands ≤ 16) where
  -- what a turn says
  turn-stops : (more : List Map) (p : ℕ) (rest : ℕ → TypeState → Option ℕ) (stop : ℕ → List Map → TypeState → Option ℕ) → ((q : ℕ) (u : TypeState) → rest q u ≡ stop q more u) → (t : Turned)
      → (elim (turn_said t) as (λ _. Option ℕ) [
        | none ↦ some p
        | some x ↦ elim x.next as (λ _. Option ℕ) [ finished ↦ elim (leb (length more) 0) as (λ _. Option ℕ) [ true ↦ none | false ↦ some (length code) ] | goes_onto q u ↦ rest q u ]
      ]) ≡ stopping version code maps result p t more stop
  unfolding turn_said said stopping stop_at_end onward pick
  turn-stops more p rest stop same t = go t.next (leb (length more) 0)
    where
      go : (o : Onward) (b : Bool)
          → (elim (said t.notes o) as (λ _. Option ℕ) [
            | none ↦ some p
            | some x ↦ elim x.next as (λ _. Option ℕ) [ finished ↦ elim b as (λ _. Option ℕ) [ true ↦ none | false ↦ some (length code) ] | goes_onto q u ↦ rest q u ]
          ]) ≡ onward o (some p) (pick b none (some (length code))) (λ q u. stop q more u)
      go refused b = refl
      go accepted true = refl
      go accepted false = refl
      go (onto q u) b = same q u

  walk-stops : (k p : ℕ) (left : List Map) (s : TypeState) → stops_from version code maps result k p left s ≡ stops version code maps result k p left s
  unfolding stops_from stops
  walk-stops zero p left s = refl
  walk-stops (suc k) p left s = go (maps_past version code maps result p left) (λ q more u. walk-stops k q more u)
    where
      go : (o : Option (List Map)) → ((q : ℕ) (more : List Map) (u : TypeState) → stops_from version code maps result k q more u ≡ stops version code maps result k q more u)
          → ◌≡◌ {A = Option ℕ} (elim o as (λ _. Option ℕ) [
            | none ↦ some p
            | some more ↦ elim (turn version code maps result p s) as (λ _. Option ℕ) [
              | none ↦ some p
              | some t ↦ elim t.next as (λ _. Option ℕ) [
                | finished ↦ elim (leb (length more) 0) as (λ _. Option ℕ) [ true ↦ none | false ↦ some (length code) ]
                | goes_onto q u ↦ stops_from version code maps result k q more u
              ]
            ]
          ]) (elim o as (λ _. Option ℕ) [ none ↦ some p | some more ↦ stopping version code maps result p (turned version code maps result p s) more (stops version code maps result k) ])
      go none ih = refl
      go (some more) ih =
          rw (← (turn-says version code maps result few p s))
          (turn-stops more p (λ q u. stops_from version code maps result k q more u) (stops version code maps result k) (λ q u. ih q more u) (turned version code maps result p s))

  -- the flow from entry first
  entry-stops : (s : TypeState)
      → (elim (flow_into version code maps result 0 s) as (λ _. Option ℕ) [ none ↦ some 0 | some f ↦ stops_from version code maps result (length code) 0 maps f.types ]) ≡ whole_stop version code maps result s
  unfolding whole_stop ◌>>=◌
  entry-stops s =
      go (flow_into version code maps result 0 s) (into-says version code maps result few 0 s)
      ∙ turn-stops maps 0 (λ q u. stops_from version code maps result (length code) q maps u) (stops version code maps result (length code))
      (λ q u. walk-stops (length code) q maps u) (into_turn (length code) maps 0 s)
    where
      go : (o : Option Flow) → turn_said (into_turn (length code) maps 0 s) ≡ (o >>= flown 0)
          → ◌≡◌ {A = Option ℕ} (elim o as (λ _. Option ℕ) [ none ↦ some 0 | some f ↦ stops_from version code maps result (length code) 0 maps f.types ])
          (elim (turn_said (into_turn (length code) maps 0 s)) as (λ _. Option ℕ) [
            | none ↦ some 0
            | some x ↦ elim x.next as (λ _. Option ℕ) [
              | finished ↦ elim (leb (length maps) 0) as (λ _. Option ℕ) [ true ↦ none | false ↦ some (length code) ]
              | goes_onto q u ↦ stops_from version code maps result (length code) q maps u
            ]
          ])
      go none e = rw e refl
      go (some f) e = rw e refl

method-stops : (k : Class) (m : Method) → FewIn m → stops_in k m ≡ check_in Types k.version k.name m
unfolding stops_in check_in check_point entry_of
method-stops k m few = entry-stops k.version m.code m.maps m.signature.result few (entry_types k m)

first-same : (f g : Method → Option ℕ) (P : Method → Type 0) → ((m : Method) → P m → f m ≡ g m) → (j : ℕ) (ms : List Method) → All P ms → first_place f j ms ≡ first_place g j ms
unfolding first_place
first-same f g P same j [] a = refl
first-same f g P same j (m ∷ ms) a = rw (first_place, same m a.0) (go (g m) (first-same f g P same (suc j) ms a.1))
  where
    go : (o : Option ℕ) → first_place f (suc j) ms ≡ first_place g (suc j) ms
        → ◌≡◌ {A = Option Place} (elim o as (λ _. Option Place) [ none ↦ first_place f (suc j) ms | some p ↦ some (place j p) ])
        (elim o as (λ _. Option Place) [ none ↦ first_place g (suc j) ms | some p ↦ some (place j p) ])
    go none ih = ih
    go (some p) ih = refl

module _ (bs : List ℕ) (f : File) (e : read_file bs ≡ some f) where
  pub stops_same : first_place (stops_in (class_of 0 f)) 0 f.methods ≡ first_place (check_in Types (file_version bs) (class_name bs)) 0 (quick_methods bs)
  stops_same =
      rw (version-of bs f e, name_of bs f e, methods-of bs f e)
      (first-same (stops_in (class_of 0 f)) (check_in Types (class_of 0 f).version (class_of 0 f).name) FewIn (λ m few. method-stops (class_of 0 f) m few) 0 f.methods
      (rw (methods-of bs f e) at (methods-few bs (file-readable bs f e))))

  pub lacks-same : first_place (lacks_in (class_of 0 f)) 0 f.methods ≡ first_place (check_in Maps (file_version bs) (class_name bs)) 0 (quick_methods bs)
  unfolding lacks_in check_in check_point
  lacks-same = rw (version-of bs f e, methods-of bs f e) refl

-- A point of a file that reads is 512 at most

at-most : {A : Type 0} (n : ℕ) (xs : List A) → length (take n xs) ≤ n
at-most zero xs = omega arith
at-most (suc n) [] = omega arith
at-most (suc n) (x ∷ xs) = omega (arith, at-most n xs)

nth : {A : Type 0} (P : A → Type 0) (xs : List A) → All P xs → (i : ℕ) (x : A) → get_elem? xs i ≡ some x → P x
nth P [] a i x e = absurd (none-ne-some x e)
nth P (y ∷ ys) a zero x e = subst P (some-injective _ _ e) a.0
nth P (y ∷ ys) a (suc i) x e = nth P ys a.1 i x e

Short : Method → Type 0
Short m = length m.code ≤ 512

codes-short : (bs : List ℕ) → Readable bs → All Short (quick_methods bs)
unfolding quick_methods method_in method_at code_at Short
codes-short bs r =
    rows_all Short (method_in bs) (method_count bs) 0
    (λ j a b. omega (arith, at-most (code_length bs (method_place bs j)) (drop (code_place bs (method_place bs j)) bs), (r.methods j (omega arith)).few))

module _ (bs : List ℕ) (f : File) (e : read_file bs ≡ some f) where
  first_short : (g : Method → Option ℕ) → ((m : Method) (q : ℕ) → g m ≡ some q → q ≤ length m.code) → (j p : ℕ) → first_place g 0 f.methods ≡ some (place j p) → p ≤ 512
  unfolding Short
  first_short g le j p h =
      let s = first-stands g 0 f.methods (place j p) h in
      let l : length s.method.code ≤ 512 = nth Short f.methods (rw (methods-of bs f e) at (codes-short bs (file-readable bs f e))) (j - 0) s.method s.there in
      omega (arith, l, le s.method p s.says)

  pub point-short : (c : Check) (j p : ℕ) → first_place (check_in c (file_version bs) (class_name bs)) 0 (quick_methods bs) ≡ some (place j p) → p ≤ 512
  point-short Maps j p h = first_short (lacks_in (class_of 0 f)) (λ m x. method-lacks (class_of 0 f) m x) j p (lacks-same bs f e ∙ h)
  point-short Types j p h = first_short (stops_in (class_of 0 f)) (λ m x. method-within (class_of 0 f) m x) j p (stops_same bs f e ∙ h)

-- What is said of bytes that read, by the places that the checks find

module _ (bs : List ℕ) (h : is_some (read_file bs) ≡ true) where
  abbrev pub spot : Check → Option Place
  spot c = first_place (check_in c (file_version bs) (class_name bs)) 0 (quick_methods bs)

  pub spot-short : (c : Check) (j p : ℕ) → spot c ≡ some (place j p) → p ≤ 512
  spot-short = let f = is-some (read_file bs) h in point-short bs f.0 f.1

  verdict-by : desk_verdict bs ≡ verdict_by (spot Maps) (spot Types)
  unfolding desk_verdict verdict_on
  verdict-by =
      let f = is-some (read_file bs) h in
      let e = f.1 in
      let a = lacks-same bs f.0 e in
      let b = stops_same bs f.0 e in
      rw (desk_verdict, e, verdict_on, a, b) refl

  pub said-lack : (j p : ℕ) → spot Maps ≡ some (place j p) → desk_verdict bs ≡ placed word_unmapped (place j p)
  unfolding verdict_by
  said-lack j p e = verdict-by ∙ rw e refl

  module _ (n : spot Maps ≡ none) where
    pub said-stop : (j p : ℕ) → spot Types ≡ some (place j p) → desk_verdict bs ≡ placed word_unverified (place j p)
    unfolding verdict_by
    said-stop j p e = verdict-by ∙ rw (n, e) refl

    pub said-fine : spot Types ≡ none → desk_verdict bs ≡ unplaced 0
    unfolding verdict_by
    said-fine e = verdict-by ∙ rw (n, e) refl

pub said-file : (bs : List ℕ) → is_some (read_file bs) ≡ false → desk_verdict bs ≡ unplaced word_file
unfolding is_some
said-file bs h = go (read_file bs) refl h
  where
    go : (o : Option File) → read_file bs ≡ o → is_some o ≡ false → desk_verdict bs ≡ unplaced word_file
    go none e n = verdict-unread bs e
    go (some f) e n = absurd (false≢true (sym n))

-- three cells written one after another
pub cells_told : (v : Verdict) (w : told.Verdict) → verdict_of v ≡ w → (t : List ℕ) → set (set (set t 0 v.number) 1 v.method) 2 v.point ≡ write_rows set (verdict_cells w) 0 t
unfolding verdict_of verdict_cells
cells_told v w e t = rw (← e) (sym (cells-sets (v.number ∷ v.method ∷ v.point ∷ []) 0 t))
