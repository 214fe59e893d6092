-- A class's methods in order: the walks are taken method by method, and say what the verifier says of a class whose file reads. The code's test for missing maps says
-- what the definition's does.
use mathlib.Core.Path.{◌≡◌, refl, sym, ap, ◌∙◌}
use mathlib.Core.Bool.{Bool, true, false}
use mathlib.Core.Option.{some}
use mathlib.Core.List.{List, [], ◌∷◌}
use Prim.Native.Nat.{ℕ, ◌+◌, ◌<◌, ◌≤◌}
use native.Mathlib.Omega.{arith}
use lib.ListN.{length}
use lib.Dec.{eqb, leb}
use Rattle.definition.specs.declared.Signature.{Signature}
use Rattle.definition.specs.Instructions.{pick}
use Rattle.definition.specs.Lists.{any, rows}
use Rattle.definition.specs.Classes.{Class, Map, Method}
use Rattle.definition.specs.File.{File, read_file, class_of}
use Rattle.definition.specs.Verifier.{map_at, notes_of, unmapped}
use Rattle.layout.specs.Tests.{All}
use Rattle.layout.specs.Places.{rows_step, rows_none, rows_start, rows_all, rows-length}
use Rattle.classfile.specs.Reading.{file_version, class_name, map_depth, type_at, map_of, map_place, map_numbered, map_count, maps_of, method_count, code_at, map_bytes, method_at, method_place, method_in, quick_methods, methods_from, numbered_place}
use Rattle.classfile.specs.Rules.{WholeMaps, Readable}
use Rattle.classfile.specs.Searches.{numbered-in}
use Rattle.cells.specs.Optional.{optional}
use Rattle.std.specs.Prelude as P
use Rattle.classfile.specs.Laws.{file-readable, version-of, name_of, methods-of}
use Rattle.rows.specs.Posting.{Noted, post_notes}
use Rattle.verifier.specs.Lookups.{unmapped_in}
use Rattle.verifier.specs.Trace.{Trace, accepted_notes, granted, Verification, verification, posting, method_trace, trace_of, methods_trace, class_trace}
use Rattle.verifier.proofs.MeetLaws.{both_say}
use Rattle.verifier.proofs.TraceLaws.{method-says}
use Rattle.verifier.proofs.PostingLaws.{posting-followed-on, posting-followed-stop}

-- Method by method, with the notes posted as they come

module _ (l v own : ℕ) (bs : List ℕ) (k r : Noted) (j : ℕ) (h : j < method_count bs) where
  abbrev first : Trace
  first = trace_of v own (method_in bs j)

  abbrev others : Trace
  others = methods_trace v own (methods_from bs (j + 1))

  pub class-goes : (a : Bool) → a ≡ true → verification a r ≡ posting l first k → posting l (methods_trace v own (methods_from bs j)) k ≡ posting l others r
  unfolding methods_trace posting
  class-goes a t e =
      rw (rows_step (method_in bs) (method_count bs) j h, ap (λ (x : Verification). x.rows) e)
      (posting-followed-on l first k others (sym (ap (λ (x : Verification). x.accepts) e) ∙ t))

  pub class-stops : (a : Bool) → a ≡ false → verification a r ≡ posting l first k → posting l (methods_trace v own (methods_from bs j)) k ≡ verification false r
  unfolding methods_trace posting
  class-stops a t e =
      rw (rows_step (method_in bs) (method_count bs) j h, ← t, e)
      (posting-followed-stop l first k others (sym (ap (λ (x : Verification). x.accepts) e) ∙ t))

pub class-ends : (l v own : ℕ) (bs : List ℕ) (k : Noted) (j : ℕ) → method_count bs ≤ j → posting l (methods_trace v own (methods_from bs j)) k ≡ verification true k
unfolding methods_trace posting post_notes
class-ends l v own bs k j h = rw (rows_none (method_in bs) (method_count bs) j h)

pub class-begins : (l : ℕ) (bs : List ℕ) (k : Noted) → posting l (methods_trace (file_version bs) (class_name bs) (methods_from bs 0)) k ≡ posting l (class_trace bs) k
unfolding class_trace quick_methods
class-begins l bs k = rw (rows_start (method_in bs) (method_count bs))

-- In a file that reads every map has at most 16 operands

-- what holds of every map holds of the one at a point
at-point : (P : Map → Type 0) (ms : List Map) (p : ℕ) (m : Map) → All P ms → map_at ms p ≡ some m → P m
unfolding map_at
at-point P [] p m a e = let z : ◌≡◌ {A = ℕ} 0 1 = cc in absurd (omega arith)
at-point P (x ∷ xs) p m a e = go (eqb x.offset p) e (at-point P xs p m a.1)
  where
    go : (b : Bool) → (elim b [ true ↦ some x | false ↦ map_at xs p ]) ≡ some m → (map_at xs p ≡ some m → P m) → P m
    go true q r = let z : x ≡ m = cc in rw z at a.0
    go false q r = r q

FewOperands : Map → Type 0
FewOperands m = length m.operands ≤ 16

abbrev pub FewIn : Method → Type 0
FewIn m = (p : ℕ) (x : Map) → map_at m.maps p ≡ some x → length x.operands ≤ 16

whole-few : (ms : List ℕ) → WholeMaps ms → All FewOperands (maps_of ms)
unfolding maps_of map_numbered map_of FewOperands
whole-few ms w =
    rows_all FewOperands (map_numbered ms) (map_count ms) 0
    (λ i a b. let p = map_place ms i in omega (arith, rows-length (type_at ms (p + 19)) (map_depth ms p) 0, (w.each i (omega arith)).few))

module _ (bs : List ℕ) (r : Readable bs) where
  maps-few : (j : ℕ) → j < method_count bs → All FewOperands (maps_of (map_bytes bs (method_place bs j)))
  unfolding map_bytes maps_of map_count rows pick
  maps-few j h = go (leb 2 (file_version bs)) refl
    where
      go : (b : Bool) → leb 2 (file_version bs) ≡ b → All FewOperands (maps_of (map_bytes bs (method_place bs j)))
      go true e = whole-few (map_bytes bs (method_place bs j)) ((r.methods j h).maps e)
      go false e = rw e tt

  pub methods-few : All FewIn (quick_methods bs)
  unfolding quick_methods method_in method_at FewOperands
  methods-few =
      rows_all FewIn (method_in bs) (method_count bs) 0
      (λ j a b p x e. at-point FewOperands (maps_of (map_bytes bs (method_place bs j))) p x (maps-few j (omega arith)) e)

-- The verifier says of a class what the walks say

methods-say : (k : Class) (ms : List Method) → All FewIn ms → notes_of k ms ≡ accepted_notes (methods_trace k.version k.name ms)
unfolding notes_of methods_trace trace_of accepted_notes granted
methods-say k [] a = refl
methods-say k (m ∷ ms) a = rw (method-says k m a.0, methods-say k ms a.1) (sym (both_say (trace_of k.version k.name m) (methods_trace k.version k.name ms)))

-- For callers: what is said of a class whose file reads

module _ (l : ℕ) (bs : List ℕ) (f : File) (e : read_file bs ≡ some f) where
  pub class-says : notes_of (class_of l f) f.methods ≡ accepted_notes (class_trace bs)
  unfolding class_trace
  class-says =
      rw (version-of bs f e, name_of bs f e, methods-of bs f e)
      (methods-say (class_of l f) f.methods (rw (methods-of bs f e) at (methods-few bs (file-readable bs f e))))

  pub unmapped-says : any (unmapped (class_of l f)) f.methods ≡ any (unmapped_in (file_version bs)) (quick_methods bs)
  unfolding unmapped unmapped_in
  unmapped-says = rw (version-of bs f e, methods-of bs f e)

-- Method j, found by its number

module _ (bs : List ℕ) (j : ℕ) (h : j < method_count bs) (r : P.Option ℕ) (e : r ≡ optional (numbered_place bs j)) where
  found : r ≡ P.Some (method_place bs j)
  found = e ∙ ap optional (numbered-in bs j h)

  pub never-absent : r ≡ P.None → ⊥
  never-absent q = cc (found, q)

  pub found_at : (p : ℕ) → r ≡ P.Some p → method_at bs p ≡ method_in bs j
  unfolding method_in
  found_at p q = let a : p ≡ method_place bs j = cc (found, q) in ap (method_at bs) a

pub trace-found :
    (bs : List ℕ) (j p version own : ℕ) (s : Signature) (code maps : List ℕ) → method_at bs p ≡ method_in bs j → version ≡ file_version bs → own ≡ class_name bs →
    s ≡ (method_at bs p).signature → code ≡ code_at bs p → maps ≡ map_bytes bs p →
    method_trace version own s code (maps_of maps) ≡ trace_of (file_version bs) (class_name bs) (method_in bs j)
unfolding trace_of method_at
trace-found bs j p version own s code maps e v a b c d = rw (← e, v, a, b, c, d)
