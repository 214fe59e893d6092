-- In a verified method the points that have types are exactly those at which its instructions start. Every map and every target lies at one of them, and the types at
-- a map's point are the map's (`mapped-types`, Walk). The last instruction is a goto or a return. A verified method is never unmapped: word 15 is given only where the verifier would reject.
use Rattle.std.specs.Prelude.{◌≡◌, Bool, ◌⊎◌, ℕ, zero, suc, ◌+◌, length}
use Rattle.std.proofs.Math.Path.{refl, subst}
use Rattle.std.proofs.Common.{sym, ◌∙◌, ap, inl, inr, arith}
use Rattle.std.proofs.Math.Bool.{true, false, false≢true}
use Rattle.std.proofs.Math.Option.{Option, none, some, none-ne-some, some-injective}
use mathlib.Core.List.Memᴰ
use mathlib.Core.List.{List, [], ◌∷◌, ◌++◌, map, Memᴰ}
use Rattle.std.proofs.Math.Dec.{eqb}
use borrow.Author.Tests.{eqb-true, eq-eqb}
use Rattle.definition.specs.Classes.{Class, Map, Method}
use Rattle.definition.specs.Instructions.{Decoded, decode}
use Rattle.definition.specs.Lists.{to_list}
use Rattle.definition.specs.Maybe.{◌>>=◌}
use Rattle.definition.specs.Verifier.{Note, Onward, Turn, TypeState, after, finished, flow_into, flow_to_target, goes_on, map_at, map_types, notes_of_method, onto, start_at, target, types_at, types_in, unmapped}
use Rattle.definition.specs.declared.Kind.{Kind}
use Rattle.definition.specs.declared.Instruction.{Instruction}
use Rattle.definition.specs.declared.Instruction.TheVariants.{Return}
use Rattle.laws.specs.Options.{bind-some}
use Rattle.laws.specs.Sized.{within}
use Rattle.laws.specs.Walk.{Effected, Ends, Goes as Passes, On, Returned, Types, known, mapped-types, return-is, turn-cases, turned, types-cases, verified}
use Rattle.laws.specs.Points.{points_from, points, point-here, point-reads}
use Rattle.laws.specs.InOrder.{Goes, in_order, notes_at, notes-in-order, point_notes, together, turn-does}
use Rattle.laws.specs.Mapped.{AllMapped, HasMap, Mapped, all-mapped}

-- of lists that stand together each is there
together-each : (os : List (Option (List Note))) (ns : List Note) → together os ≡ some ns → (o : Option (List Note)) → Memᴰ o os → (a : List Note) × (o ≡ some a)
unfolding together
together-each [] ns h x never = elim never [ ]
together-each (o ∷ os) ns h x (Memᴰ.head z) = let a = bind-some _ _ h in (a.0, z ∙ a.1)
together-each (o ∷ os) ns h x (Memᴰ.tail m) = let a = bind-some _ _ h in let b = bind-some _ _ a.2 in together-each os b.0 b.1 x m

-- a map of the list is found at its offset, or an earlier one there
map_found : (ms : List Map) (x : Map) → Memᴰ x ms → (y : Map) × (map_at ms x.offset ≡ some y)
unfolding map_at
map_found [] x never = elim never [ ]
map_found (m ∷ ms) x (Memᴰ.head z) = (m, rw (eq-eqb m.offset x.offset (ap (λ (y : Map). y.offset) (sym z)), map_at) refl)
map_found (m ∷ ms) x (Memᴰ.tail t) = go (eqb m.offset x.offset) refl (map_found ms x t)
  where
    go : (b : Bool) → eqb m.offset x.offset ≡ b → (y : Map) × (map_at ms x.offset ≡ some y) → (y : Map) × (map_at (m ∷ ms) x.offset ≡ some y)
    go true e r = (m, rw (e, map_at) refl)
    go false e r = (r.0, rw (e, map_at) r.1)

module _ (version : ℕ) (code : List ℕ) (maps : List Map) (result : ℕ) where
  -- a point that has types, where an instruction is read, is an instruction's start
  types-start : (n p : ℕ) (left : List Map) (s : TypeState) (q : ℕ) (τ : TypeState) (i : Decoded) → Types version code maps result n p left s q ≡ some τ → decode version code q ≡ some i
      → Memᴰ q (points_from version code n p)
  types-start zero p left s q τ i h d = absurd (none-ne-some τ (unfold types_at in h))
  types-start (suc n) p left s q τ i h d = go (types-cases version code maps result n p left s q τ h) (λ r more u. types-start n r more u q τ i)
    where
      go : ((p ≡ q) × (s ≡ τ)) ⊎ On version code maps result n p left s q τ
          → ((r : ℕ) (more : List Map) (u : TypeState) → Types version code maps result n r more u q ≡ some τ → decode version code q ≡ some i → Memᴰ q (points_from version code n r))
          → Memᴰ q (points_from version code (suc n) p)
      go (inl e) ih = rw (e.0, point-here version code n q i d) (Memᴰ.head refl)
      go (inr o) ih =
          let c = turn-cases version code maps result p s o.t o.does in
          let z : o.r ≡ p + c.0.size = subst (λ (x : Onward). Goes version code maps result x (p + c.0.size)) o.onward (turn-does version code maps result c.0 p s o.t c.2).1 in
          rw (point-here version code n p c.0 c.1) (Memᴰ.tail (rw z at (ih o.r o.more o.u o.then d)))

  -- where the walk goes on behind a goto or return, an instruction that is read there has a map
  start-mapped : (p : ℕ) (o : Onward) → start_at version code maps result p ≡ some o → (j : Decoded) → decode version code p ≡ some j → HasMap version code maps p
  unfolding start_at
  start-mapped p o h j d = go (eqb p (length code)) refl h
    where
      go : (b : Bool) → eqb p (length code) ≡ b → (elim b as (λ _. Option Onward) [ true ↦ some finished | false ↦ map_at maps p >>= λ m. some (onto p (map_types m)) ]) ≡ some o → HasMap version code maps p
      go true e r = absurd (omega (arith, within version code p j d, eqb-true p (length code) e))
      go false e r = let a = bind-some _ _ r in (a.0, a.1)

  target-mapped : (o : Option ℕ) (s : TypeState) (ts : List Note) → flow_to_target version code maps result o s ≡ some ts → (p : ℕ) → o ≡ some p → HasMap version code maps p
  unfolding flow_to_target
  target-mapped none s ts h p e = absurd (none-ne-some p e)
  target-mapped (some q) s ts h p e = let a = bind-some _ _ h in (a.0, subst (λ (x : ℕ). map_at maps x ≡ some a.0) (some-injective q p e) a.1)

  nowhere : (i : Instruction) (kind : Kind) → i ≡ Return kind → target i ≡ none
  unfolding target
  nowhere i kind e = rw e refl

  -- an instruction whose turn is made is mapped
  turn-mapped : (q : ℕ) (s : TypeState) (t : Turn) (i : Decoded) → Returned version code maps result q s t i ⊎ Effected version code maps result q s t i → Mapped version code maps q i
  unfolding after
  turn-mapped q s t i (inl d) = record {
    there = λ p e. absurd (none-ne-some p (sym (nowhere i.instruction d.kind (return-is i.instruction d.kind d.is)) ∙ e));
    then = λ _. start-mapped (q + i.size) t.next d.then;
  }
  turn-mapped q s t i (inr d) = let a = bind-some _ _ d.then in record { there = target-mapped (target i.instruction) d.f.types a.0 a.1; then = behind a.0 (goes_on i.instruction) a.2 }
    where
      behind : (ts : List Note) (b : Bool) → (elim b as (λ _. Option Turn) [
        | true ↦ flow_into version code maps result (q + i.size) d.f.types >>= λ g. some (record { notes = d.f.notes ++ (ts ++ g.notes); next = onto (q + i.size) g.types })
        | false ↦ start_at version code maps result (q + i.size) >>= λ o. some (record { notes = d.f.notes ++ ts; next = o })
      ]) ≡ some t → b ≡ false → (j : Decoded) → decode version code (q + i.size) ≡ some j → HasMap version code maps (q + i.size)
      behind ts true h z = absurd (false≢true (sym z))
      behind ts false h z = let a = bind-some _ _ h in start-mapped (q + i.size) a.0 a.1

module _ (k : Class) (m : Method) (ns : List Note) (v : notes_of_method k m ≡ some ns) where
  -- each instruction's start has types
  pub point-types : (q : ℕ) → Memᴰ q (points k m) → (τ : TypeState) × (types_in k m q ≡ some τ)
  unfolding in_order point_notes
  point-types q x =
      let a = bind-some _ _ (notes-in-order k m ns v) in
      let b = bind-some _ _ a.2 in
      let c = together-each (map (notes_at k m) (points k m)) b.0 b.1 (notes_at k m q) (Memᴰ.map (notes_at k m) x) in
      let d = bind-some _ _ c.1 in
      (d.0, d.1)

  -- and what has types is an instruction's start
  pub types-point : (q : ℕ) (τ : TypeState) → types_in k m q ≡ some τ → Memᴰ q (points k m)
  types-point q τ h =
      let w = verified k m ns v in
      let n = known k m ns v q τ h in
      types-start k.version m.code m.maps m.signature.result (length m.code) 0 m.maps w.f.types q τ n.at (sym (w.types q) ∙ h) n.reads

  -- a map that isn't at an instruction's start is rejected
  pub maps-start : (x : Map) → Memᴰ x m.maps → Memᴰ x.offset (points k m)
  maps-start x t = let y = map_found m.maps x t in types-point x.offset (map_types y.0) (mapped-types k m ns v x.offset y.0 y.1)

  pub verified-mapped : AllMapped k m
  verified-mapped q x i d =
      let τ = point-types q x in
      let t = turned k m ns v q τ.0 τ.1 in
      let c = turn-cases k.version m.code m.maps m.signature.result q τ.0 t.t t.does in
      let z : c.0 ≡ i = some-injective _ _ (sym c.1 ∙ d) in
      subst (λ (j : Decoded). Mapped k.version m.code m.maps q j) z (turn-mapped k.version m.code m.maps m.signature.result q τ.0 t.t c.0 c.2)

  -- so is a target that isn't
  pub targets-start : (q : ℕ) → Memᴰ q (points k m) → (i : Decoded) → decode k.version m.code q ≡ some i → (p : ℕ) → target i.instruction ≡ some p → Memᴰ p (points k m)
  targets-start q x i d p e = let y = (verified-mapped q x i d).there p e in types-point p (map_types y.0) (mapped-types k m ns v p y.0 y.1)

  pub verified-never-unmapped : unmapped k m ≡ false
  verified-never-unmapped = all-mapped k m verified-mapped

  goes-on : (i : Instruction) (kind : Kind) → i ≡ Return kind → goes_on i ≡ true → ⊥
  unfolding goes_on
  goes-on i kind e g = false≢true (rw e at g)

  -- where an instruction goes on, another starts behind it
  pub next_start : (q : ℕ) (i : Decoded) → Memᴰ q (points k m) → decode k.version m.code q ≡ some i → goes_on i.instruction ≡ true → Memᴰ (q + i.size) (points k m)
  next_start q i x d g =
      let τ = point-types q x in
      let n = known k m ns v q τ.0 τ.1 in
      let same : n.at ≡ i = some-injective _ _ (sym n.reads ∙ d) in
      go n.at same n.way
    where
      go : (j : Decoded) → j ≡ i → Ends k.version m.code m.maps m.signature.result (types_in k m) ns (point-types q x).0 j
          ⊎ Passes k.version m.code m.maps m.signature.result (types_in k m) ns q (point-types q x).0 j → Memᴰ (q + i.size) (points k m)
      go j e (inl w) = absurd (goes-on j.instruction w.kind w.is (rw e g))
      go j e (inr w) =
          let on : goes_on j.instruction ≡ true = rw e g in
          let here : q + j.size ≡ q + i.size = ap (λ (y : Decoded). q + y.size) e in
          let a = w.next (q + j.size) (Memᴰ.append_right (to_list (target j.instruction)) (rw on (Memᴰ.head refl))) in
          rw here at (types-point (q + j.size) a.flows.types a.has)

  -- so the code ends with a goto or a return: no path runs off the end
  pub last-ends : (q : ℕ) (i : Decoded) → Memᴰ q (points k m) → decode k.version m.code q ≡ some i → q + i.size ≡ length m.code → goes_on i.instruction ≡ false
  last-ends q i x d e = go (goes_on i.instruction) refl
    where
      go : (b : Bool) → goes_on i.instruction ≡ b → b ≡ false
      go false g = refl
      go true g =
          let r = point-reads k.version m.code (length m.code) 0 (q + i.size) (next_start q i x d g) in
          absurd (omega (arith, within k.version m.code (q + i.size) r.0 r.1))
