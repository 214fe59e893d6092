-- The same objects in both machines, row by row: no row of today's is free, each object's owner is a task, and whose it is doesn't matter. Then they exist, are
-- made and are changed alike.
use Rattle.std.specs.Prelude.{◌≡◌, refl, Bool, true, false, not, List, [], ◌∷◌, ◌++◌, ℕ, zero, suc, ◌<◌, length, set, leb, ltb}
use Rattle.std.proofs.Common.{ap, leb-true, leb-false, lt-ltb, le-ltb}
use Rattle.definition.specs.Numbers.{task_limit, object_limit}
use Rattle.definition.specs.Machine.{Object, owned, Objects, object_held, existing, unused, made, roomless, rewritten, changed}
use Rattle.laws.specs.Objects.{changed-tail}
use Rattle.definition.specs.First.Machine.{first_existing}

pub data SameObjects : List Object → Objects → Type 0 where
  no_objects : SameObjects [] []
  same_object : {k : ℕ} {x : Object} {os : List Object} {qs : Objects} → k < task_limit → SameObjects os qs → SameObjects (x ∷ os) (owned k x ∷ qs)

pub same-existing : (os : List Object) (qs : Objects) → SameObjects os qs → (o : ℕ) → first_existing os o ≡ existing qs o
unfolding first_existing existing object_held
same-existing os qs no_objects o = refl
same-existing os qs (same_object l h) zero = refl
same-existing os qs (same_object {os = os'} {qs = qs'} l h) (suc o) = same-existing os' qs' h o

pub same_count : (os : List Object) (qs : Objects) → SameObjects os qs → length os ≡ length qs
same_count os qs no_objects = refl
same_count os qs (same_object {os = os'} {qs = qs'} l h) = ap suc (same_count os' qs' h)

-- the next row is the lowest unused, and none is left in both or in neither

pub same_next : (os : List Object) (qs : Objects) → SameObjects os qs → length os ≡ unused qs
unfolding unused
same_next os qs no_objects = refl
same_next os qs (same_object {os = os'} {qs = qs'} l h) = ap suc (same_next os' qs' h)

ltb-leb : (a b : ℕ) → ltb a b ≡ not (leb b a)
ltb-leb a b = go (leb b a) refl
  where
    go : (t : Bool) → leb b a ≡ t → ltb a b ≡ not t
    go true e = le-ltb a b (leb-true b a e)
    go false e = lt-ltb a b (leb-false b a e)

pub same-room : (k : ℕ) (os : List Object) (qs : Objects) → SameObjects os qs → ltb (length os) object_limit ≡ not (roomless k qs)
unfolding roomless
same-room k os qs h = rw (same_next os qs h) (ltb-leb (unused qs) object_limit)

pub same-made : (k : ℕ) → k < task_limit → (x : Object) (os : List Object) (qs : Objects) → SameObjects os qs → SameObjects (os ++ (x ∷ [])) (made k x qs)
unfolding made
same-made k t x os qs no_objects = same_object t no_objects
same-made k t x os qs (same_object {os = os'} {qs = qs'} l h) = same_object l (same-made k t x os' qs' h)

pub same-changed : (os : List Object) (qs : Objects) → SameObjects os qs → (o : ℕ) (x : Object) → SameObjects (set os o x) (changed qs o x)
unfolding changed rewritten
same-changed os qs no_objects o x = no_objects
same-changed os qs (same_object l h) zero x = same_object l h
same-changed os qs (same_object {k = k} {x = y} {os = os'} {qs = qs'} l h) (suc o) x = rw (changed-tail (owned k y) qs' o x) (same_object l (same-changed os' qs' h o x))
