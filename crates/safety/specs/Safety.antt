-- Demand 3: from an accepted boot, or from the changeover of an old store that comes from a boot, whatever calls follow, nothing is misplaced, broken or stuck.
use Rattle.std.specs.Prelude.{◌≡◌, false, List, [], ◌∷◌, ◌++◌, ℕ}
use Rattle.std.proofs.Math.Path.{refl}
use Rattle.std.proofs.Common.{ap, ◌∙◌, subst}
use Rattle.std.proofs.Math.Option.{some}
use Rattle.std.proofs.Math.ListN.{get_elem?}
use Rattle.definition.specs.declared.Reply.TheVariants.{Accepted}
use Rattle.definition.specs.Constraints.{Agrees}
use Rattle.definition.specs.Classes.{Class, Map, Method}
use Rattle.definition.specs.Verifier.{Note, notes_of_method, types_in, map_at, map_types}
use Rattle.definition.specs.Tables.{Tables, world_of, view}
use Rattle.definition.specs.Broken.{broken}
use Rattle.definition.specs.Calls.{boot, Call, perform, perform_all}
use Rattle.definition.specs.First.Tables.{FirstTables}
use Rattle.definition.specs.First.Calls.{FirstComesFromBoot}
use Rattle.definition.specs.Changeover.{changeover}
use Rattle.definition.specs.Histories.{ComesFromBoot, after_boot, after_call, after_changeover}
use Rattle.definition.specs.Safety.{Safe}
use Rattle.laws.specs.Walk.{mapped-types}
use Rattle.unbroken.specs.OnRows.{accepted-shaped}
use Rattle.safety.specs.Store.{store_of}
use Rattle.safety.specs.Safe.{Valid}
use Rattle.safety.specs.Sane.{Sane, boot-sane, perform-sane, safe-on}
use Rattle.safety.specs.Carried.{filled-sane}

-- for every tables that boot accepts and every list of calls
pub safety : (t : Tables) → (boot t).answer ≡ Accepted → (cs : List Call) → Safe (perform_all cs (boot t).tables)
safety t h cs = safe-on (boot t).tables (boot-sane t (accepted-shaped t h)).1 cs

-- Every store that comes from a boot

-- what an accepted boot leaves is sane, so is what is filled from an old store that comes from a boot, and every call keeps a sane store so
from-boot : (t : Tables) → ComesFromBoot t → Sane t
from-boot t (after_boot u a) = (boot-sane u (accepted-shaped u a)).1
from-boot t (after_call c u b) = (perform-sane c u (from-boot u b)).1
from-boot t (after_changeover u v b a) = filled-sane u v b a

-- whatever calls follow: nothing is misplaced or broken, and no call is stuck
pub safe-from-boot : (t : Tables) → ComesFromBoot t → (cs : List Call) → Safe (perform_all cs t)
safe-from-boot t b cs = safe-on t (from-boot t b) cs

-- it isn't broken, and what the invariant says holds of it
pub unbroken-from-boot : (t : Tables) → ComesFromBoot t → broken t ≡ false
unbroken-from-boot t b = (from-boot t b).unbroken

pub valid-from-boot : (t : Tables) → ComesFromBoot t → Valid (store_of (view t))
valid-from-boot t b = (from-boot t b).valid

-- and the store agrees
pub agrees-from-boot : (t : Tables) → ComesFromBoot t → Agrees (world_of (view t))
agrees-from-boot t b = (from-boot t b).valid.linked.agreed

-- and every method that is kept was verified: the verifier has notes for it
pub verified-from-boot : (t : Tables) → ComesFromBoot t → (c j : ℕ) (k : Class) (m : Method) → get_elem? (world_of (view t)).base.classes c ≡ some k → get_elem? k.methods j ≡ some m
    → (ns : List Note) × (notes_of_method k m ≡ some ns)
verified-from-boot t b c j k m e d = let v = (from-boot t b).valid.linked.verified c j k m e d in (v.notes, v.passes)

-- so at a mapped point of any method that is kept the types, by which a value is misplaced or not, are the map's
pub mapped-from-boot : (t : Tables) → ComesFromBoot t → (c j : ℕ) (k : Class) (m : Method) → get_elem? (world_of (view t)).base.classes c ≡ some k → get_elem? k.methods j ≡ some m
    → (p : ℕ) (x : Map) → map_at m.maps p ≡ some x → types_in k m p ≡ some (map_types x)
mapped-from-boot t b c j k m e d = let v = verified-from-boot t b c j k m e d in mapped-types k m v.0 v.1

-- and what calls make of it comes from that boot too
pub later-from-boot : (t : Tables) → ComesFromBoot t → (cs : List Call) → ComesFromBoot (perform_all cs t).tables
unfolding perform_all
later-from-boot t b [] = b
later-from-boot t b (c ∷ cs) = later-from-boot (perform c t).tables (after_call c t b) cs

-- A store comes from a boot exactly if a list of calls leads to it from what an accepted boot leaves, or from what a changeover leaves of an old store that comes from a
-- boot

pub data Begins : Tables → Type 0 where
  by_boot : (t : Tables) → (boot t).answer ≡ Accepted → Begins (boot t).tables
  by_changeover : (u : FirstTables) (t : Tables) → FirstComesFromBoot u → (changeover u t).answer ≡ Accepted → Begins (changeover u t).tables

pub record LedTo (t : Tables) : Type 0 where
  pub first : Tables
  pub begins : Begins first
  pub calls : List Call
  pub leaves : (perform_all calls first).tables ≡ t

begun : (t : Tables) → Begins t → ComesFromBoot t
begun t (by_boot u a) = after_boot u a
begun t (by_changeover u v b a) = after_changeover u v b a

pub led-from-boot : (t : Tables) → LedTo t → ComesFromBoot t
led-from-boot t l = subst ComesFromBoot l.leaves (later-from-boot l.first (begun l.first l.begins) l.calls)

one_more : (cs : List Call) (c : Call) (t : Tables) → (perform_all (cs ++ (c ∷ [])) t).tables ≡ (perform c (perform_all cs t).tables).tables
unfolding perform_all
one_more [] c t = refl
one_more (d ∷ cs) c t = one_more cs c (perform d t).tables

pub from-boot-led : (t : Tables) → ComesFromBoot t → LedTo t
from-boot-led t (after_boot u a) = record { first = (boot u).tables; begins = by_boot u a; calls = []; leaves = unfold perform_all in refl }
from-boot-led t (after_changeover u v b a) = record { first = (changeover u v).tables; begins = by_changeover u v b a; calls = []; leaves = unfold perform_all in refl }
from-boot-led t (after_call c u b) = let l = from-boot-led u b in record {
  first = l.first;
  begins = l.begins;
  calls = l.calls ++ (c ∷ []);
  leaves = one_more l.calls c l.first ∙ ap (λ (z : Tables). (perform c z).tables) l.leaves;
}
