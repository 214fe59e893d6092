-- Dead objects: what the frames reach, and what a sweep leaves. An object is reached from a root, an object that a frame names, by a chain of links, each from
-- an object to one that a field of it names.
use Rattle.std.specs.Prelude.{true, false, ℕ, suc, eqb}
use mathlib.Core.List.{List, [], ◌∷◌, ◌++◌, map, Memᴰ}
use Rattle.definition.specs.Chains.{Edge, Chain, has, reach_from}
use Rattle.definition.specs.Instructions.{pick}
use Rattle.definition.specs.Machine.{Value, empty_value, int_value, null_value, object_value, unlisted_value, free, owned, Objects, Frame}

-- the objects that values name, in their order
unfoldable pub named : List Value → List ℕ
named [] = []
named (empty_value ∷ vs) = named vs
named (int_value n ∷ vs) = named vs
named (null_value ∷ vs) = named vs
named (object_value o ∷ vs) = o ∷ named vs
named (unlisted_value k b ∷ vs) = named vs

-- those that frames name in operands and locals, whatever the verifier says of a local
unfoldable pub roots : List Frame → List ℕ
roots [] = []
roots (f ∷ fs) = named f.operands ++ (named f.locals ++ roots fs)

-- a link for each object that a field names, inherited ones included; the first row is that of object o
unfoldable pub links_from : ℕ → Objects → List (Edge ℕ)
links_from o [] = []
links_from o (free ∷ os) = links_from (suc o) os
links_from o (owned k x ∷ os) = map (λ p. record { from = o; to = p }) (named x.values) ++ links_from (suc o) os

abbrev pub links : Objects → List (Edge ℕ)
links os = links_from 0 os

-- object o is reached: by a chain of links from a root
pub record Reached (os : Objects) (fs : List Frame) (o : ℕ) : Type 0 where
  pub root : ℕ
  pub is_root : Memᴰ root (roots fs)
  pub chain : Chain (links os) root o

-- all that are, by search
unfoldable pub reached : Objects → List Frame → List ℕ
reached os fs = reach_from eqb (links os) (roots fs)

-- the rows without the objects that aren't in the list R, and how many those are; the first row is that of object o

unfoldable pub swept_from : List ℕ → ℕ → Objects → Objects
swept_from R o [] = []
swept_from R o (x ∷ os) = pick (has eqb o R) x free ∷ swept_from R (suc o) os

unfoldable pub freed_from : List ℕ → ℕ → Objects → ℕ
freed_from R o [] = 0
freed_from R o (free ∷ os) = freed_from R (suc o) os
freed_from R o (owned k x ∷ os) = elim (has eqb o R) [ true ↦ freed_from R (suc o) os | false ↦ suc (freed_from R (suc o) os) ]
