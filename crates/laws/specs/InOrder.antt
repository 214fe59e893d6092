-- Every note that the paper asks for is among a method's, once for each time it is asked for, and in the paper's order: first those of the flow from entry; then,
-- instruction by instruction in the order of the code, its own, those of the flow into its target, those of the flow into the next point.
use Rattle.std.specs.Prelude.{◌≡◌, Bool, ◌⊎◌, length}
use Rattle.std.proofs.Math.Path.{refl, ap, subst}
use Rattle.std.proofs.Common.{sym, ◌∙◌, inl, inr, arith, eqb-true, ne_eqb}
use Rattle.std.proofs.Math.Bool.{true, false}
use Rattle.std.proofs.Math.Option.{Option, none, some, none-ne-some, some-injective}
use mathlib.Core.List.{List, [], ◌∷◌, ◌++◌, map, append-nil, Memᴰ}
use Prim.Native.Nat.{ℕ, zero, suc, ◌+◌, ◌≤◌, ◌<◌}
use Rattle.std.proofs.Math.Dec.{eqb}
use Rattle.definition.specs.Classes.{Class, Map, Method}
use Rattle.definition.specs.Instructions.{Decoded, decode}
use Rattle.definition.specs.Maybe.{◌>>=◌}
use Rattle.definition.specs.Verifier.{Flow, Note, Onward, Turn, TypeState, after, effect, entry_types, finished, flow_into, flow_to_target, goes_on, map_at, map_types, maps_past, notes_of, notes_of_method, onto, return_kind, returns, start_at, target, types_at, types_in, verify}
use Rattle.laws.specs.Options.{bind-some, some-bind, bind-at}
use Rattle.laws.specs.Sized.{sized}
use Rattle.laws.specs.Walk.{Continues, Effected, Notes, Returned, Stops, Turns, Types, Went, turn-cases, types-first, verified, went}
use Rattle.laws.specs.Points.{points_from, points, point-here, past-none, point-none}

-- lists of notes, each after those before it; none where one of them fails
unfoldable pub together : List (Option (List Note)) → Option (List Note)
together [] = some []
together (o ∷ os) = o >>= λ ns. together os >>= λ rs. some (ns ++ rs)

-- What the paper asks for at a point q of a method, where the types are as `types` says

module _ (version : ℕ) (code : List ℕ) (maps : List Map) (result : ℕ) where
  -- the flow of the types s into the next point p, where the instruction goes on to it
  unfoldable pub next_notes : Bool → ℕ → TypeState → Option (List Note)
  next_notes false p s = some []
  next_notes true p s = flow_into version code maps result p s >>= λ f. some f.notes

  -- the instruction i at point q, where the types are s: a return's own; of another its own, then the target's, then the next point's
  unfoldable pub instruction_notes : Decoded → ℕ → TypeState → Option (List Note)
  instruction_notes i q s = elim (return_kind i.instruction) [
    | some kind ↦ returns kind result s
    | none ↦ effect i.instruction s >>= λ f. flow_to_target version code maps result (target i.instruction) f.types >>= λ ts.
        next_notes (goes_on i.instruction) (q + i.size) f.types >>= λ gs. some (f.notes ++ (ts ++ gs))
  ]

  unfoldable pub point_notes : (ℕ → Option TypeState) → ℕ → Option (List Note)
  point_notes types q = types q >>= λ s. decode version code q >>= λ i. instruction_notes i q s

-- the flow from entry into point 0
unfoldable pub entry_notes : Class → Method → Option (List Note)
entry_notes k m = flow_into k.version m.code m.maps m.signature.result 0 (entry_types k m) >>= λ f. some f.notes

abbrev pub notes_at : Class → Method → ℕ → Option (List Note)
notes_at k m = point_notes k.version m.code m.maps m.signature.result (types_in k m)

-- The walk asks for the same

module _ (version : ℕ) (code : List ℕ) (maps : List Map) (result : ℕ) where
  abbrev pub Goes : Onward → ℕ → Type 0
  Goes finished p = p ≡ length code
  Goes (onto q u) p = q ≡ p

  pub start-goes : (p : ℕ) (o : Onward) → start_at version code maps result p ≡ some o → Goes o p
  unfolding start_at
  start-goes p o h = go (eqb p (length code)) refl h
    where
      go : (b : Bool) → eqb p (length code) ≡ b → (elim b as (λ _. Option Onward) [ true ↦ some finished | false ↦ map_at maps p >>= λ m. some (onto p (map_types m)) ]) ≡ some o → Goes o p
      go true e r = subst (λ (x : Onward). Goes x p) (some-injective _ _ r) (eqb-true p (length code) e)
      go false e r = let a = bind-some _ _ r in subst (λ (x : Onward). Goes x p) (some-injective _ _ a.2) refl

  -- a turn's notes, and where it goes on: to the next point, or nowhere at the end of the code
  abbrev pub Does : Decoded → ℕ → TypeState → Turn → Type 0
  Does i q s t = (instruction_notes version code maps result i q s ≡ some t.notes) × Goes t.next (q + i.size)

  record Nexts (f : Flow) (ts : List Note) (t : Turn) (b : Bool) (p : ℕ) : Type 0 where
    gs : List Note
    does : next_notes version code maps result b p f.types ≡ some gs
    all : f.notes ++ (ts ++ gs) ≡ t.notes
    goes : Goes t.next p

  nexts : (f : Flow) (ts : List Note) (t : Turn) (p : ℕ) (b : Bool) → (elim b as (λ _. Option Turn) [
    | true ↦ flow_into version code maps result p f.types >>= λ g. some (record { notes = f.notes ++ (ts ++ g.notes); next = onto p g.types })
    | false ↦ start_at version code maps result p >>= λ o. some (record { notes = f.notes ++ ts; next = o })
  ]) ≡ some t → Nexts f ts t b p
  unfolding next_notes
  nexts f ts t p true h =
      let a = bind-some _ _ h in
      subst (λ (x : Turn). Nexts f ts x true p) (some-injective _ _ a.2) (record { gs = a.0.notes; does = some-bind _ _ a.1 refl; all = refl; goes = refl })
  nexts f ts t p false h =
      let a = bind-some _ _ h in
      subst (λ (x : Turn). Nexts f ts x false p) (some-injective _ _ a.2)
      (record { gs = []; does = refl; all = ap (λ (x : List Note). f.notes ++ x) (append-nil ts); goes = start-goes p a.0 a.1 })

  pub turn-does : (i : Decoded) (q : ℕ) (s : TypeState) (t : Turn) → Returned version code maps result q s t i ⊎ Effected version code maps result q s t i → Does i q s t
  unfolding after instruction_notes
  turn-does i q s t (inl d) = (rw (d.is, instruction_notes) d.does, start-goes (q + i.size) t.next d.then)
  turn-does i q s t (inr d) =
      let a = bind-some _ _ d.then in
      let n = nexts d.f a.0 t (q + i.size) (goes_on i.instruction) a.2 in
      (rw (d.is, instruction_notes) (some-bind _ _ d.does (some-bind _ _ a.1 (some-bind _ _ n.does (ap some n.all)))), n.goes)

  -- a turn leaves the types at the points behind it to the walk after it
  pub types-past : (n p : ℕ) (left more : List Map) (s : TypeState) (t : Turn) (r : ℕ) (u : TypeState) → maps_past version code maps result p left ≡ some more → Turns version code maps result p s t
      → t.next ≡ onto r u → (q : ℕ) → p < q → Types version code maps result (suc n) p left s q ≡ Types version code maps result n r more u q
  unfolding types_at
  types-past n p left more s t r u m d e q l = bind-at _ _ more m ∙ (rw (ne_eqb p q (λ z. omega arith)) (bind-at _ _ t d ∙ (rw e refl)))

  abbrev notes_over : (ℕ → Option TypeState) → List ℕ → Option (List Note)
  notes_over types ps = together (map (point_notes version code maps result types) ps)

  -- the notes of the walk from point p on are those of the points from there, where the types are the walk's
  walk-in-order : (types : ℕ → Option TypeState) (n p : ℕ) (left : List Map) (s : TypeState) (ns : List Note) → Notes version code maps result n p left s ≡ some ns
      → ((q : ℕ) → p ≤ q → types q ≡ Types version code maps result n p left s q) → notes_over types (points_from version code n p) ≡ some ns
  unfolding together
  walk-in-order types zero p left s ns h e = absurd (none-ne-some ns (unfold verify in h))
  walk-in-order types (suc n) p left s ns h e =
      let w = went version code maps result n p left s ns h in
      let c = turn-cases version code maps result p s w.t w.does in
      let d = turn-does c.0 p s w.t c.2 in
      let first : types p ≡ some s = e p (omega arith) ∙ types-first version code maps result (suc n) p left s ns h in
      let r = rest w c.0 c.1 d.1 w.way (λ q more u xs. walk-in-order types n q more u xs) in
      rw (point-here version code n p c.0 c.1) (some-bind _ _ (here c.0 w.t.notes first c.1 d.0) (some-bind _ _ r.1 (ap some r.2)))
    where
      here : (i : Decoded) (ts : List Note) → types p ≡ some s → decode version code p ≡ some i → instruction_notes version code maps result i p s ≡ some ts → point_notes version code maps result types p ≡ some ts
      here i ts a b c = unfold point_notes in some-bind _ _ a (some-bind _ _ b c)

      rest : (w : Went version code maps result n p left s ns) (i : Decoded) → decode version code p ≡ some i → Goes w.t.next (p + i.size)
          → Stops version code maps result w.more w.t ns ⊎ Continues version code maps result n w.more w.t ns
          → ((q : ℕ) (more : List Map) (u : TypeState) (xs : List Note) → Notes version code maps result n q more u ≡ some xs
          → ((r : ℕ) → q ≤ r → types r ≡ Types version code maps result n q more u r) → notes_over types (points_from version code n q) ≡ some xs)
          → (rs : List Note) × (notes_over types (points_from version code n (p + i.size)) ≡ some rs) × (w.t.notes ++ rs ≡ ns)
      rest w i f g (inl c) ih =
          let l : p + i.size ≡ length code = subst (λ (o : Onward). Goes o (p + i.size)) c.ended g in
          ([], rw (point-none version code n (p + i.size) (past-none version code (p + i.size) (omega arith))) refl, append-nil w.t.notes ∙ c.all)
      rest w i f g (inr c) ih =
          let z : c.r ≡ p + i.size = subst (λ (o : Onward). Goes o (p + i.size)) c.onward g in
          let a : (q : ℕ) → c.r ≤ q → types q ≡ Types version code maps result n c.r w.more c.u q =
          λ q y. e q (omega (arith, sized version code p i f)) ∙ types-past n p left w.more s w.t c.r c.u w.passes w.does c.onward q (omega (arith, sized version code p i f)) in
          (c.rest, rw z at (ih c.r w.more c.u c.rest c.then a), c.all)

  -- Each instruction that is verified is followed by the end of the code or by another

  abbrev Followed : ℕ → List ℕ → Type 0
  Followed p ps = (p ≡ length code) ⊎ Memᴰ p ps

  pub walk_first : (n p : ℕ) (left : List Map) (s : TypeState) (ns : List Note) → Notes version code maps result n p left s ≡ some ns → Memᴰ p (points_from version code n p)
  walk_first zero p left s ns h = absurd (none-ne-some ns (unfold verify in h))
  walk_first (suc n) p left s ns h =
      let w = went version code maps result n p left s ns h in
      let c = turn-cases version code maps result p s w.t w.does in
      rw (point-here version code n p c.0 c.1) (mathlib.Core.List.Memᴰ.head refl)

  walk-followed : (n p : ℕ) (left : List Map) (s : TypeState) (ns : List Note) → Notes version code maps result n p left s ≡ some ns
      → (q : ℕ) → Memᴰ q (points_from version code n p) → (i : Decoded) → decode version code q ≡ some i → Followed (q + i.size) (points_from version code n p)
  walk-followed zero p left s ns h q m i d = absurd (none-ne-some ns (unfold verify in h))
  walk-followed (suc n) p left s ns h q m i d =
      let w = went version code maps result n p left s ns h in
      let c = turn-cases version code maps result p s w.t w.does in
      let x : Memᴰ q (p ∷ points_from version code n (p + c.0.size)) = rw (point-here version code n p c.0 c.1) at m in
      rw (point-here version code n p c.0 c.1) (go w c.0 c.1 (turn-does c.0 p s w.t c.2).1 w.way (mathlib.Core.List.Memᴰ.cases_cons x) (λ r more u xs. walk-followed n r more u xs))
    where
      same : (a : Decoded) → decode version code p ≡ some a → q ≡ p → q + i.size ≡ p + a.size
      same a f z = let e : a ≡ i = some-injective _ _ (sym f ∙ (rw z at d)) in cc

      go : (w : Went version code maps result n p left s ns) (a : Decoded) → decode version code p ≡ some a → Goes w.t.next (p + a.size)
          → Stops version code maps result w.more w.t ns ⊎ Continues version code maps result n w.more w.t ns
          → (q ≡ p) ⊎ Memᴰ q (points_from version code n (p + a.size))
          → ((r : ℕ) (more : List Map) (u : TypeState) (xs : List Note) → Notes version code maps result n r more u ≡ some xs
          → (x : ℕ) → Memᴰ x (points_from version code n r) → (j : Decoded) → decode version code x ≡ some j → Followed (x + j.size) (points_from version code n r))
          → Followed (q + i.size) (p ∷ points_from version code n (p + a.size))
      go w a f g (inl c) (inl z) ih = inl (same a f z ∙ subst (λ (o : Onward). Goes o (p + a.size)) c.ended g)
      go w a f g (inl c) (inr x) ih =
          let l : p + a.size ≡ length code = subst (λ (o : Onward). Goes o (p + a.size)) c.ended g in
          let y : Memᴰ q [] = rw (point-none version code n (p + a.size) (past-none version code (p + a.size) (omega arith))) at x in
          absurd (mathlib.Core.List.Memᴰ.not-nil y)
      go w a f g (inr c) o ih =
          let z : c.r ≡ p + a.size = subst (λ (o : Onward). Goes o (p + a.size)) c.onward g in
          let v : Notes version code maps result n (p + a.size) w.more c.u ≡ some c.rest = rw z at c.then in
          further o (walk_first n (p + a.size) w.more c.u c.rest v) (λ x. ih (p + a.size) w.more c.u c.rest v q x i d)
        where
          further : (q ≡ p) ⊎ Memᴰ q (points_from version code n (p + a.size)) → Memᴰ (p + a.size) (points_from version code n (p + a.size))
              → (Memᴰ q (points_from version code n (p + a.size)) → Followed (q + i.size) (points_from version code n (p + a.size)))
              → Followed (q + i.size) (p ∷ points_from version code n (p + a.size))
          further (inl z) first ih = inr (rw (same a f z) (mathlib.Core.List.Memᴰ.tail {xs = points_from version code n (p + a.size)} first))
          further (inr x) first ih = elim (ih x) [ inl e ↦ inl e | inr y ↦ inr (mathlib.Core.List.Memᴰ.tail y) ]

-- The list of a method's notes

unfoldable pub in_order : Class → Method → Option (List Note)
in_order k m = entry_notes k m >>= λ es. together (map (notes_at k m) (points k m)) >>= λ rs. some (es ++ rs)

pub notes-in-order : (k : Class) (m : Method) (ns : List Note) → notes_of_method k m ≡ some ns → in_order k m ≡ some ns
unfolding in_order entry_notes
notes-in-order k m ns v =
    let w = verified k m ns v in
    some-bind _ _ (some-bind _ _ w.enters refl) (some-bind _ _
    (walk-in-order k.version m.code m.maps m.signature.result (types_in k m) (length m.code) 0 m.maps w.f.types w.rest w.walks (λ q _. w.types q))
    (ap some w.all))

-- and the points are those of all its instructions: from 0, one after the other, to the end of the code
pub record Throughout (k : Class) (m : Method) : Type 0 where
  pub from_first : Memᴰ 0 (points k m)
  pub to_last : (q : ℕ) → Memᴰ q (points k m) → (i : Decoded) → decode k.version m.code q ≡ some i → (q + i.size ≡ length m.code) ⊎ Memᴰ (q + i.size) (points k m)

pub points-throughout : (k : Class) (m : Method) (ns : List Note) → notes_of_method k m ≡ some ns → Throughout k m
points-throughout k m ns v =
    let w = verified k m ns v in
    record {
      from_first = walk_first k.version m.code m.maps m.signature.result (length m.code) 0 m.maps w.f.types w.rest w.walks;
      to_last = walk-followed k.version m.code m.maps m.signature.result (length m.code) 0 m.maps w.f.types w.rest w.walks;
    }

-- of a class the methods' notes, in the methods' order
pub class-in-order : (k : Class) (ms : List Method) → notes_of k ms ≡ together (map (notes_of_method k) ms)
unfolding notes_of together
class-in-order k [] = refl
class-in-order k (m ∷ ms) = ap (λ (o : Option (List Note)). notes_of_method k m >>= λ ns. o >>= λ rs. some (ns ++ rs)) (class-in-order k ms)
