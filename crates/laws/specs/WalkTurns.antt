-- What a turn of the verifier's walk is: a return, or an effect with the flows into its target and into the next point; and where it goes on.
use Rattle.std.specs.Prelude.{◌≡◌, Bool, ◌⊎◌, ℕ, ◌+◌, ◌≤◌, ◌<◌, length, eqb}
use Rattle.std.proofs.Math.Path.{refl, sym, ap}
use Rattle.std.proofs.Common.{◌∙◌, arith, eq-eqb}
use Rattle.std.proofs.Math.Bool.{true, false}
use Rattle.std.proofs.lemmas.Bool.{false≢true}
use Rattle.std.proofs.Math.Option.{Option, none, some, none-ne-some, some-injective}
use mathlib.Core.List.Memᴰ
use mathlib.Core.List.{List, [], ◌∷◌, ◌++◌, Memᴰ}
use Rattle.std.proofs.Math.Logic.{inl, inr}
use Rattle.definition.specs.Classes.{Map}
use Rattle.definition.specs.Instructions.{Decoded, decode}
use Rattle.definition.specs.Maybe.{◌>>=◌}
use Rattle.definition.specs.Lists.{to_list}
use Rattle.definition.specs.Verifier.{Flow, Note, Onward, Turn, TypeState, after, effect, finished, flow_into, flow_to_target, goes_on, map_at, map_types, meet_map, onto, return_kind, returns, start_at, target, turn, types_at, verify}
use Rattle.definition.specs.declared.Kind.{Kind}
use Rattle.definition.specs.declared.Instruction.{Instruction}
use Rattle.definition.specs.declared.Instruction.TheVariants.{AconstNull, Sipush, Load, Store, Pop, Dup, Arithmetic, Getfield, Putfield, Invokevirtual, New, Return, Branch}
use Rattle.laws.specs.Options.{bind-some}
use Rattle.laws.specs.Sized.{sized}

-- an instruction with a return's kind is that return
pub return-is : (i : Instruction) (kind : Kind) → return_kind i ≡ some kind → i ≡ Return kind
unfolding return_kind
return-is AconstNull kind h = absurd (none-ne-some kind h)
return-is (Sipush n) kind h = absurd (none-ne-some kind h)
return-is (Load a n) kind h = absurd (none-ne-some kind h)
return-is (Store a n) kind h = absurd (none-ne-some kind h)
return-is Pop kind h = absurd (none-ne-some kind h)
return-is Dup kind h = absurd (none-ne-some kind h)
return-is (Arithmetic o) kind h = absurd (none-ne-some kind h)
return-is (Getfield c f t) kind h = absurd (none-ne-some kind h)
return-is (Putfield c f t) kind h = absurd (none-ne-some kind h)
return-is (Invokevirtual c s) kind h = absurd (none-ne-some kind h)
return-is (New c) kind h = absurd (none-ne-some kind h)
return-is (Branch c p) kind h = absurd (none-ne-some kind h)
return-is (Return a) kind h = ap Return (some-injective a kind h)

-- the points to which an instruction that is no return goes on from point q
abbrev pub successors : Decoded → ℕ → List ℕ
successors i q = to_list (target i.instruction) ++ elim (goes_on i.instruction) as (λ _. List ℕ) [ true ↦ (q + i.size) ∷ [] | false ↦ [] ]

pub nothing : (left : List Map) → length left ≤ 0 → (q : ℕ) (m : Map) → map_at left q ≡ some m → ⊥
unfolding map_at
nothing [] l q m e = none-ne-some m e
nothing (x ∷ xs) l q m e = omega arith

pub eqb-differs : (p q : ℕ) → eqb p q ≡ false → p ≡ q → ⊥
eqb-differs p q z e = false≢true (sym z ∙ eq-eqb p q e)

-- where the walk goes on, and the types there
unfoldable pub point_of : Onward → ℕ
point_of finished = 0
point_of (onto p s) = p

unfoldable pub types_of : Onward → Option TypeState
types_of finished = none
types_of (onto p s) = some s

module _ (version : ℕ) (code : List ℕ) (maps : List Map) (result : ℕ) where
  abbrev pub Turns : ℕ → TypeState → Turn → Type 0
  Turns p s t = turn version code maps result p s ≡ some t

  abbrev pub Types : ℕ → ℕ → List Map → TypeState → ℕ → Option TypeState
  Types = types_at version code maps result

  abbrev pub Notes : ℕ → ℕ → List Map → TypeState → Option (List Note)
  Notes = verify version code maps result

  -- What a turn is: a return, or an effect and its flows

  pub record Returned (p : ℕ) (s : TypeState) (t : Turn) (i : Decoded) : Type 0 where
    pub kind : Kind
    pub is : return_kind i.instruction ≡ some kind
    pub does : returns kind result s ≡ some t.notes
    pub then : start_at version code maps result (p + i.size) ≡ some t.next

  pub record Effected (p : ℕ) (s : TypeState) (t : Turn) (i : Decoded) : Type 0 where
    pub is : return_kind i.instruction ≡ none
    pub f : Flow
    pub does : effect i.instruction s ≡ some f
    pub then : after version code maps result i.instruction (p + i.size) f ≡ some t

  pub turn-cases : (p : ℕ) (s : TypeState) (t : Turn) → Turns p s t → (i : Decoded) × (decode version code p ≡ some i) × (Returned p s t i ⊎ Effected p s t i)
  unfolding turn
  turn-cases p s t h = let a = bind-some _ _ h in (a.0, a.1, go a.0 (return_kind a.0.instruction) refl a.2)
    where
      go : (i : Decoded) (o : Option Kind) → return_kind i.instruction ≡ o → (elim o as (λ _. Option Turn) [
        | some kind ↦ returns kind result s >>= λ ns. start_at version code maps result (p + i.size) >>= λ w. some (record { notes = ns; next = w })
        | none ↦ effect i.instruction s >>= λ f. after version code maps result i.instruction (p + i.size) f
      ]) ≡ some t → Returned p s t i ⊎ Effected p s t i
      go i (some kind) e r =
          let a = bind-some _ _ r in
          let b = bind-some _ _ a.2 in
          let z : record { notes = a.0; next = b.0 } ≡ t = some-injective _ _ b.2 in
          let zn : a.0 ≡ t.notes = ap (λ (x : Turn). x.notes) z in
          let zo : b.0 ≡ t.next = ap (λ (x : Turn). x.next) z in
          inl (record { kind = kind; is = e; does = rw zn at a.1; then = rw zo at b.1 })
      go i none e r = let a = bind-some _ _ r in inr (record { is = e; f = a.0; does = a.1; then = a.2 })

  -- after an effect: the notes into the target, and those into the next point or none
  pub record Target (f : Flow) (t : Turn) (i : Decoded) : Type 0 where
    pub ts : List Note
    pub does : flow_to_target version code maps result (target i.instruction) f.types ≡ some ts
    pub posted : (n : Note) → Memᴰ n ts → Memᴰ n t.notes

  pub record Next (p : ℕ) (f : Flow) (t : Turn) : Type 0 where
    pub g : Flow
    pub does : flow_into version code maps result p f.types ≡ some g
    pub posted : (n : Note) → Memᴰ n g.notes → Memᴰ n t.notes
    pub onward : t.next ≡ onto p g.types

  pub record After (p : ℕ) (f : Flow) (t : Turn) (i : Decoded) : Type 0 where
    pub own : (n : Note) → Memᴰ n f.notes → Memᴰ n t.notes
    pub there : Target f t i
    pub then : ((goes_on i.instruction ≡ true) × Next p f t) ⊎ ((goes_on i.instruction ≡ false) × (start_at version code maps result p ≡ some t.next))

  pub after-cases : (p : ℕ) (f : Flow) (t : Turn) (i : Decoded) → after version code maps result i.instruction p f ≡ some t → After p f t i
  unfolding after
  after-cases p f t i h = let a = bind-some _ _ h in go a.0 a.1 (goes_on i.instruction) refl a.2
    where
      go : (ts : List Note) → flow_to_target version code maps result (target i.instruction) f.types ≡ some ts → (b : Bool) → goes_on i.instruction ≡ b → (elim b as (λ _. Option Turn) [
        | true ↦ flow_into version code maps result p f.types >>= λ g. some (record { notes = f.notes ++ (ts ++ g.notes); next = onto p g.types })
        | false ↦ start_at version code maps result p >>= λ o. some (record { notes = f.notes ++ ts; next = o })
      ]) ≡ some t → After p f t i
      go ts d true e r =
          let a = bind-some _ _ r in
          let z : record { notes = f.notes ++ (ts ++ a.0.notes); next = onto p a.0.types } ≡ t = some-injective _ _ a.2 in
          let zn : f.notes ++ (ts ++ a.0.notes) ≡ t.notes = ap (λ (x : Turn). x.notes) z in
          let zo : onto p a.0.types ≡ t.next = ap (λ (x : Turn). x.next) z in
          record {
            own = λ n m. rw zn at (Memᴰ.append_left (ts ++ a.0.notes) m);
            there = record { ts = ts; does = d; posted = λ n m. rw zn at (Memᴰ.append_right f.notes (Memᴰ.append_left a.0.notes m)) };
            then = inl (e, record { g = a.0; does = a.1; posted = λ n m. rw zn at (Memᴰ.append_right f.notes (Memᴰ.append_right ts m)); onward = sym zo });
          }
      go ts d false e r =
          let a = bind-some _ _ r in
          let z : record { notes = f.notes ++ ts; next = a.0 } ≡ t = some-injective _ _ a.2 in
          let zn : f.notes ++ ts ≡ t.notes = ap (λ (x : Turn). x.notes) z in
          let zo : a.0 ≡ t.next = ap (λ (x : Turn). x.next) z in
          record {
            own = λ n m. rw zn at (Memᴰ.append_left ts m);
            there = record { ts = ts; does = d; posted = λ n m. rw zn at (Memᴰ.append_right f.notes m) };
            then = inr (e, rw zo at a.1);
          }

  -- Where a turn goes on: behind its point, and with the types of the map that is there

  pub record Landed (p q : ℕ) (u : TypeState) : Type 0 where
    pub behind : p < q
    pub mapped : (m : Map) → map_at maps q ≡ some m → u ≡ map_types m

  pub into-mapped : (q : ℕ) (s : TypeState) (g : Flow) → flow_into version code maps result q s ≡ some g → (m : Map) → map_at maps q ≡ some m → g.types ≡ map_types m
  unfolding flow_into
  into-mapped q s g h m e = go (map_at maps q) e h
    where
      go : (o : Option Map) → o ≡ some m → (elim o as (λ _. Option Flow) [
        | none ↦ some (record { types = s; notes = [] })
        | some x ↦ meet_map s x >>= λ ns. some (record { types = map_types x; notes = ns })
      ]) ≡ some g → g.types ≡ map_types m
      go none a r = absurd (none-ne-some m a)
      go (some x) a r =
          let b = bind-some _ _ r in
          let z : record { types = map_types x; notes = b.0 } ≡ g = some-injective _ _ b.2 in
          let zt : map_types x ≡ g.types = ap (λ (y : Flow). y.types) z in
          let zm : x ≡ m = some-injective x m a in
          rw zm at (sym zt)

  pub start-cases : (p : ℕ) (q : ℕ) (u : TypeState) → start_at version code maps result p ≡ some (onto q u) → (p ≡ q) × ((m : Map) → map_at maps q ≡ some m → u ≡ map_types m)
  unfolding start_at point_of types_of
  start-cases p q u h = go (eqb p (length code)) h
    where
      inner : (m : Map) → map_at maps p ≡ some m → onto p (map_types m) ≡ onto q u → (p ≡ q) × ((x : Map) → map_at maps q ≡ some x → u ≡ map_types x)
      inner m e z =
          let zp : p ≡ q = ap point_of z in
          let zt : some (map_types m) ≡ some u = ap types_of z in
          (zp, λ x d. let zx : m ≡ x = some-injective m x (rw (zp, d) at (sym e)) in rw zx at (sym (some-injective _ _ zt)))

      go : (b : Bool) → (elim b as (λ _. Option Onward) [ true ↦ some finished | false ↦ map_at maps p >>= λ m. some (onto p (map_types m)) ]) ≡ some (onto q u) → (p ≡ q) × ((m : Map) → map_at maps q ≡ some m → u ≡ map_types m)
      go true r = let z : none ≡ some u = ap types_of (some-injective _ _ r) in absurd (none-ne-some u z)
      go false r = let a = bind-some _ _ r in inner a.0 a.1 (some-injective _ _ a.2)

  pub landed : (p : ℕ) (s : TypeState) (t : Turn) → Turns p s t → (q : ℕ) (u : TypeState) → t.next ≡ onto q u → Landed p q u
  unfolding point_of types_of
  landed p s t h q u e = let a = turn-cases p s t h in go a.0 a.1 a.2
    where
      behind : (i : Decoded) → decode version code p ≡ some i → p + i.size ≡ q → p < q
      behind i r z = omega (arith, sized version code p i r)

      starts : (i : Decoded) → decode version code p ≡ some i → start_at version code maps result (p + i.size) ≡ some t.next → Landed p q u
      starts i r d = let a = start-cases (p + i.size) q u (rw e at d) in record { behind = behind i r a.0; mapped = a.1 }

      go : (i : Decoded) → decode version code p ≡ some i → Returned p s t i ⊎ Effected p s t i → Landed p q u
      go i r (inl d) = starts i r d.then
      go i r (inr d) = let a = after-cases (p + i.size) d.f t i d.then in elim a.then [
        | inl (b, n) ↦
            let z : onto (p + i.size) n.g.types ≡ onto q u = cc in
            let zp : p + i.size ≡ q = ap point_of z in
            let zt : n.g.types ≡ u = some-injective _ _ (ap types_of z) in
            record { behind = behind i r zp; mapped = λ m x. rw zt at (into-mapped (p + i.size) d.f.types n.g n.does m (rw zp x)) }
        | inr (b, n) ↦ starts i r n
      ]
