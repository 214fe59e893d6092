-- Where a check of a method fails, turn by turn, and the first method at which it does.
use mathlib.Core.Path.{◌≡◌, refl, sym, ap, subst, ◌∙◌}
use mathlib.Core.Bool.{Bool, true, false, not, ◌&&◌, ◌||◌}
use mathlib.Core.Option.{Option, none, some}
use mathlib.Core.List.{List}
use Prim.Native.Nat.{ℕ, zero, suc, ◌+◌, ◌-◌, ◌<◌, ◌≤◌}
use native.Mathlib.Omega.{arith}
use native.Mathlib.Numerals.{add-one}
use lib.ListN.{length}
use lib.Dec.{leb}
use borrow.Author.Tests.{le-leb, lt-leb}
use Rattle.definition.specs.declared.Signature.{Signature}
use Rattle.definition.specs.Instructions.{Decoded, decode, pick}
use Rattle.definition.specs.Classes.{Map, Method}
use Rattle.definition.specs.Lists.{any, is_none, is_some, to_list}
use Rattle.definition.specs.Verifier.{TypeState, map_at, maps_past, target, goes_on, unmapped_from}
use Rattle.std.specs.Prelude as M
use Rattle.cells.specs.Optional.{optional}
use Rattle.layout.specs.Places.{rows_step, rows_none, rows_start}
use Rattle.classfile.specs.Reading.{file_version, class_name, maps_of, code_at, map_bytes, method_at, method_in, method_count, methods_from, quick_methods}
use Rattle.rows.specs.Posting.{Noted}
use Rattle.verifier.specs.declared.places.Check.{Check}
use Rattle.verifier.specs.declared.places.Check.TheVariants.{Types}
use Rattle.verifier.specs.Lookups.{lacking}
use Rattle.verifier.specs.Types.{entry_of}
use Rattle.verifier.specs.Trace.{Onward, refused, accepted, onto, onward, Turned, into_turn, turned, Turning, turning, taking}
use Rattle.verifier.specs.Answers.{next_of}
use Rattle.definition.specs.Places.{lacks_from, lacks_at, place, first_place}
use Rattle.verifier.specs.Stops.{stop_at_end, stopping, stops, whole_stop, check_point, check_in}
use Rattle.verifier.proofs.WalkLaws.{Bound, into-bound, to-start}

-- where a turn goes, whatever is posted
pub next-is : (l : ℕ) (t : Turned) (o : Onward) (j k : Noted) → turning o j ≡ taking l t k → t.next ≡ o
unfolding taking
next-is l t o j k e = sym (ap (λ (x : Turning). x.next) e)

-- One turn of the walk, with n turns left

module _ (version : ℕ) (code : List ℕ) (maps : List Map) (result n p : ℕ) (left : List Map) (s : TypeState) where
  abbrev all : Option ℕ
  all = stops version code maps result n p left s

  pub stop-out : n ≤ 0 → all ≡ some p
  unfolding stops
  stop-out h = let z : n ≡ 0 = omega arith in rw z refl

  module _ (h : 0 < n) where
    one : n ≡ suc (n - 1)
    one = omega arith

    pub stop-inside : maps_past version code maps result p left ≡ none → all ≡ some p
    unfolding stops
    stop-inside e = rw (one, stops, e) refl

    module _ (more : List Map) (e : maps_past version code maps result p left ≡ some more) (o : Onward) (f : (turned version code maps result p s).next ≡ o) where
      went : all ≡ onward o (some p) (stop_at_end (length code) more) (λ q u. stops version code maps result (n - 1) q more u)
      unfolding stops stopping
      went =
          ap (λ (m : ℕ). stops version code maps result m p left s) one
          ∙ rw (stops, e) (ap (λ (x : Onward). onward x (some p) (stop_at_end (length code) more) (λ q u. stops version code maps result (n - 1) q more u)) f)

      pub stop-stop : o ≡ refused → all ≡ some p
      unfolding onward
      stop-stop q = went ∙ rw q refl

      pub stop-end : o ≡ accepted → all ≡ stop_at_end (length code) more
      unfolding onward
      stop-end q = went ∙ rw q refl

      pub stop-next : (q : ℕ) (u : TypeState) (m : ℕ) → n ≡ suc m → o ≡ onto q u → all ≡ stops version code maps result m q more u
      unfolding onward
      stop-next q u m d z = let less : n - 1 ≡ m = omega arith in went ∙ rw (z, less) refl

-- the code's end
pub at-end : (n : ℕ) (more : List Map) (b : Bool) → leb (length more) 0 ≡ b → stop_at_end n more ≡ pick b none (some n)
unfolding stop_at_end
at-end n more b e = rw e refl

-- The flow from entry goes to point 0 or nowhere

module _ (version own : ℕ) (g : Signature) (code : List ℕ) (maps : List Map) (s : TypeState) (o : Onward) (z : s ≡ entry_of own g)
    (e : (into_turn (length code) maps 0 s).next ≡ o) where
  goes : Bound 0 o
  goes = subst (λ (x : Onward). Bound 0 x) e (into-bound (length code) maps 0 s)

  entered : check_point Types version own g code maps
      ≡ onward o (some 0) (stop_at_end (length code) maps) (λ q x. stops version code maps g.result (length code) q maps x)
  unfolding check_point whole_stop stopping
  entered =
      rw (← z)
      (ap (λ (x : Onward). onward x (some 0) (stop_at_end (length code) maps) (λ q y. stops version code maps g.result (length code) q maps y)) e)

  pub entry-on : (t : M.Option ℕ) (u : TypeState) → o ≡ next_of t u → (r : Option ℕ) → r ≡ stops version code maps g.result (length code) 0 maps u
      → r ≡ check_point Types version own g code maps
  unfolding onward
  entry-on t u h r a = a ∙ sym (entered ∙ rw (h ∙ to-start t u (rw h at goes)) refl)

  pub entry-stop : o ≡ refused → some 0 ≡ check_point Types version own g code maps
  unfolding onward
  entry-stop h = sym (entered ∙ rw h refl)

there-same : {A : Type 0} (o : Option A) → M.is_some (optional o) ≡ is_some o
unfolding is_some
there-same none = refl
there-same (some x) = refl

-- The test for a map that is lacking

module _ (version : ℕ) (code : List ℕ) (maps : List Map) (p : ℕ) (wants : Bool) where
  pub lack-out : (k : ℕ) → k ≤ 0 → lacks_from version code maps k p wants ≡ none
  unfolding lacks_from
  lack-out zero h = refl
  lack-out (suc k) h = absurd (omega arith)

  pub lack-unread : (k : ℕ) → 0 < k → decode version code p ≡ none → lacks_from version code maps k p wants ≡ none
  unfolding lacks_from
  lack-unread zero h e = absurd (omega arith)
  lack-unread (suc k) h e = rw (lacks_from, e)

  module _ (d : Decoded) (e : decode version code p ≡ some d) where
    pub lack-here : (k : ℕ) → 0 < k → lacking maps p wants d.instruction ≡ true → lacks_from version code maps k p wants ≡ some p
    unfolding lacks_from lacking
    lack-here zero h l = absurd (omega arith)
    lack-here (suc k) h l = rw (lacks_from, e, l)

    pub lack-on : (k j : ℕ) → k ≡ suc j → lacking maps p wants d.instruction ≡ false
        → lacks_from version code maps k p wants ≡ lacks_from version code maps j (p + d.size) (not (goes_on d.instruction))
    unfolding lacks_from lacking
    lack-on k j h l = rw (h, lacks_from, e, l)

module _ (version : ℕ) (code : List ℕ) (maps : List Map) where
  pub lack-early : version < 2 → lacks_at version code maps ≡ none
  unfolding lacks_at
  lack-early h = rw (lacks_at, lt-leb 2 version h) refl

  pub lack-late : 2 ≤ version → lacks_at version code maps ≡ lacks_from version code maps (length code) 0 false
  unfolding lacks_at
  lack-late h = rw (lacks_at, le-leb 2 version h) refl

  -- a map is lacking somewhere exactly where the code is unmapped
  pub lacks-any : (given k p : ℕ) (wants : Bool) → is_some (lacks_from version code maps k p wants) ≡ unmapped_from version code maps given k p wants
  unfolding lacks_from unmapped_from is_some
  lacks-any given zero p wants = refl
  lacks-any given (suc k) p wants = go (decode version code p) (λ q w. lacks-any given k q w)
    where
      go : (d : Option Decoded) → ((q : ℕ) (w : Bool) → is_some (lacks_from version code maps k q w) ≡ unmapped_from version code maps given k q w)
          → is_some {A = ℕ} (elim d as (λ _. Option ℕ) [
            | none ↦ none
            | some i ↦ elim ((wants && is_none (map_at maps p)) || any (λ q. is_none (map_at maps q)) (to_list (target i.instruction))) as (λ _. Option ℕ) [
              | true ↦ some p
              | false ↦ lacks_from version code maps k (p + i.size) (not (goes_on i.instruction))
            ]
          ]) ≡ (elim d as (λ _. Bool) [
            | none ↦ false
            | some i ↦ (wants && is_none (map_at maps p)) || any (λ q. is_none (map_at maps q)) (to_list (target i.instruction)) || unmapped_from version code maps given k (p + i.size) (not (goes_on i.instruction))
          ])
      go none h = refl
      go (some i) h = two (wants && is_none (map_at maps p)) (any (λ q. is_none (map_at maps q)) (to_list (target i.instruction))) _ _ (h (p + i.size) (not (goes_on i.instruction)))
        where
          two : (a b : Bool) (o : Option ℕ) (c : Bool) → is_some o ≡ c → is_some {A = ℕ} (elim (a || b) as (λ _. Option ℕ) [ true ↦ some p | false ↦ o ]) ≡ (a || b || c)
          two true b o c e = refl
          two false true o c e = refl
          two false false o c e = e

  pub lacks-unmapped : (given : ℕ) → M.is_some (optional (lacks_at version code maps)) ≡ (leb 2 version && unmapped_from version code maps given (length code) 0 false)
  unfolding lacks_at is_some
  lacks-unmapped given = there-same (lacks_at version code maps) ∙ go (leb 2 version)
    where
      go : (b : Bool) → is_some {A = ℕ} (elim b as (λ _. Option ℕ) [ true ↦ lacks_from version code maps (length code) 0 false | false ↦ none ])
          ≡ (b && unmapped_from version code maps given (length code) 0 false)
      go true = lacks-any given (length code) 0 false
      go false = refl

-- Method j, whose record begins at p
pub check-found :
    (check : Check) (bs : List ℕ) (j p version own : ℕ) (s : Signature) (code maps : List ℕ) → method_at bs p ≡ method_in bs j → version ≡ file_version bs → own ≡ class_name bs →
    s ≡ (method_at bs p).signature → code ≡ code_at bs p → maps ≡ map_bytes bs p →
    check_point check version own s code (maps_of maps) ≡ check_in check (file_version bs) (class_name bs) (method_in bs j)
unfolding check_in method_at
check-found check bs j p version own s code maps e v a b c d = rw (← e, v, a, b, c, d)

-- The methods in order

module _ (f : Method → Option ℕ) (bs : List ℕ) where
  pub place-begins : first_place f 0 (methods_from bs 0) ≡ first_place f 0 (quick_methods bs)
  unfolding quick_methods
  place-begins = ap (first_place f 0) (rows_start (method_in bs) (method_count bs))

  module _ (j : ℕ) where
    pub place-ends : method_count bs ≤ j → first_place f j (methods_from bs j) ≡ none
    unfolding first_place
    place-ends h = rw (rows_none (method_in bs) (method_count bs) j h)

    module _ (h : j < method_count bs) where
      pub place-hit : (p : ℕ) → some p ≡ f (method_in bs j) → first_place f j (methods_from bs j) ≡ some (place j p)
      unfolding first_place
      place-hit p e = rw (rows_step (method_in bs) (method_count bs) j h, first_place, ← e)

      pub place-on : none ≡ f (method_in bs j) → first_place f j (methods_from bs j) ≡ first_place f (j + 1) (methods_from bs (j + 1))
      unfolding first_place
      place-on e = rw (rows_step (method_in bs) (method_count bs) j h, first_place, ← e, add-one j)
