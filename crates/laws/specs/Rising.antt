-- The maps of a file that reads stand by rising offset.
use Rattle.std.specs.Prelude.{◌≡◌, Bool, true, false, ℕ, zero, suc, ◌≤◌, drop, leb}
use Rattle.std.proofs.Common.{ap, arith, leb-true}
use Rattle.std.proofs.Math.Option.{Option, some}
use mathlib.Core.List.Memᴰ
use mathlib.Core.List.{List, [], ◌∷◌, Memᴰ}
use Rattle.definition.specs.Numbers.{version_two}
use Rattle.definition.specs.Classes.{Map, Method}
use Rattle.definition.specs.File.{File, Got, byte, name, map_in, maps_from, maps_in, methods_in, read_file}
use Rattle.definition.specs.Maybe.{◌>>=◌}
use Rattle.laws.specs.Options.{Holds, holds-past, holds_on, holds-need, holds_at}

-- by rising offset, the first at o or later
abbrev pub Rises : ℕ → List Map → Type 0
Rises o [] = Unit {0}
Rises o (x ∷ xs) = (o ≤ x.offset) × Rises (suc x.offset) xs

pub rises-at : (o : ℕ) (xs : List Map) → Rises o xs → (x : Map) → Memᴰ x xs → o ≤ x.offset
rises-at o [] h x never = elim never [ ]
rises-at o (y ∷ xs) h x (Memᴰ.head z) = let e : x.offset ≡ y.offset = ap (λ (a : Map). a.offset) z in omega (arith, h.0)
rises-at o (y ∷ xs) h x (Memᴰ.tail m) = omega (arith, h.0, rises-at (suc y.offset) xs h.1 x m)

pub rises-less : (o p : ℕ) (xs : List Map) → o ≤ p → Rises p xs → Rises o xs
rises-less o p [] l h = tt
rises-less o p (x ∷ xs) l h = (omega (arith, h.0), h.1)

name-from : (o : ℕ) (bs : List ℕ) → Holds (name o bs) (λ g. o ≤ g.value)
unfolding name
name-from o bs = holds-past (λ g. o ≤ g.value) _ _ (λ x. holds-need (λ g. o ≤ g.value) _ _ (λ e. leb-true o x.value e))

map-from : (o : ℕ) (bs : List ℕ) → Holds (map_in o bs) (λ g. o ≤ g.value.offset)
unfolding map_in
map-from o bs = holds_on (λ g. o ≤ g.value) Q _ _ (name-from o bs) (λ p l. holds-past Q _ _ (λ _. holds-past Q _ _ (λ _. holds-past Q _ _ (λ _. holds-past Q _ _ (λ _. l)))))
  where
    Q : Got Map → Type 0
    Q g = o ≤ g.value.offset

maps-rise : (o k : ℕ) (bs : List ℕ) → Holds (maps_from o k bs) (λ g. Rises o g.value)
unfolding maps_from
maps-rise o zero bs = tt
maps-rise o (suc k) bs = holds_on (λ g. o ≤ g.value.offset) (λ g. Rises o g.value) _ _ (map-from o bs)
    (λ m l. holds_on (λ g. Rises (suc m.value.offset) g.value) (λ g. Rises o g.value) _ _ (maps-rise (suc m.value.offset) k m.more) (λ ms h. (l, h)))

maps-in-rise : (version : ℕ) (bs : List ℕ) → Holds (maps_in version bs) (λ g. Rises 0 g.value)
unfolding maps_in
maps-in-rise version bs = go (leb version_two version)
  where
    go : (b : Bool) → Holds {A = Got (List Map)} (elim b as (λ _. Option (Got (List Map))) [ true ↦ byte bs >>= λ k. maps_from 0 k.value k.more | false ↦ some (record { value = []; more = bs }) ]) (λ g. Rises 0 g.value)
    go true = holds-past (λ (g : Got (List Map)). Rises 0 g.value) _ _ (λ k. maps-rise 0 k.value k.more)
    go false = tt

abbrev AllRise : List Method → Type 0
AllRise ms = (m : Method) → Memᴰ m ms → Rises 0 m.maps

methods-rise : (version k : ℕ) (bs : List ℕ) → Holds (methods_in version k bs) (λ g. AllRise g.value)
unfolding methods_in
methods-rise version zero bs = λ m x. absurd (Memᴰ.not-nil x)
methods-rise version (suc k) bs = holds-past Q _ _ (λ s. holds-past Q _ _ (λ l. holds-past Q _ _ (λ _.
    holds_on (λ g. Rises 0 g.value) Q _ _ (maps-in-rise version (drop l.value l.more)) (λ maps h.
    holds_on Q Q _ _ (methods-rise version k maps.more) (λ ms hs. both _ ms.value h hs)))))
  where
    Q : Got (List Method) → Type 0
    Q g = AllRise g.value

    both : (x : Method) (ms : List Method) → Rises 0 x.maps → AllRise ms → AllRise (x ∷ ms)
    both x ms h hs m (Memᴰ.head z) = rw z h
    both x ms h hs m (Memᴰ.tail t) = hs m t

pub read-rises : (bs : List ℕ) (f : File) → read_file bs ≡ some f → (m : Method) → Memᴰ m f.methods → Rises 0 m.maps
unfolding read_file
read-rises bs f e = holds_at Q (read_file bs) f
    (holds-past Q _ _ (λ _. holds-past Q _ _ (λ v. holds-past Q _ _ (λ _. holds-past Q _ _ (λ n. holds-past Q _ _ (λ _. holds-past Q _ _ (λ c. holds-past Q _ _ (λ s.
    holds-past Q _ _ (λ k. holds-past Q _ _ (λ fs. holds-past Q _ _ (λ j. holds_on (λ g. AllRise g.value) Q _ _ (methods-rise v.value j.value j.more) (λ ms h.
    holds-past Q _ _ (λ _. holds-past Q _ _ (λ _. holds-past Q _ _ (λ _. h))))))))))))))) e
  where
    Q : File → Type 0
    Q g = AllRise g.methods
