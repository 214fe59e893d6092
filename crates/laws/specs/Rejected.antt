-- Why the verifier rejects a method whose targets and followers have maps (`AllMapped`, word 15's passing) and whose maps rise, as a file's do: entry types that don't
-- fit the map at point 0; a point to which the code leads where no instruction is read, the end of the code included; types that don't fit an instruction; what an
-- instruction leaves doesn't fit the map of a successor; a map that isn't at an instruction's start. Never for want of a map. And each of these is rejected.
use Rattle.std.proofs.Math.Path.{◌≡◌, refl}
use Rattle.std.proofs.Common.{sym, ◌∙◌, subst, arith}
use Rattle.std.specs.Prelude.{Bool, true, false, ◌⊎◌, ℕ, ◌+◌, length}
use Rattle.std.proofs.Math.Option.{Option, none, some, none-ne-some, some-injective}
use mathlib.Core.List.Memᴰ
use mathlib.Core.List.{List, [], ◌++◌, Memᴰ}
use Rattle.std.proofs.Math.Logic.{inl, inr}
use Rattle.definition.specs.Lists.{to_list}
use Rattle.definition.specs.Classes.{Class, Map, Method}
use Rattle.definition.specs.Instructions.{Decoded, decode}
use Rattle.definition.specs.Maybe.{◌>>=◌}
use Rattle.definition.specs.Verifier.{Flow, Note, Onward, Turn, TypeState, after, effect, entry_types, flow_into, goes_on, map_at, map_types, meet_map, notes_of_method, onto, return_kind, returns, start_at, target, turn, types_in}
use Rattle.definition.specs.declared.Kind.{Kind}
use Rattle.definition.specs.declared.Instruction.{Instruction}
use Rattle.definition.specs.declared.Instruction.TheVariants.{Return}
use Rattle.laws.specs.Walk.{Effected, Ends, Goes as Passes, Returned, entry, known, return-is, successors, turn-cases, turned}
use Rattle.laws.specs.Points.{points, point-first, point-next, point-reads}
use Rattle.laws.specs.InOrder.{points-throughout}
use Rattle.laws.specs.Paths.{maps-start, next_start}
use Rattle.laws.specs.Mapped.{AllMapped, target-fails, start-fails}

-- In sequence: the first fails, or what follows it
pub bind-none : {A B : Type 0} (o : Option A) (f : A → Option B) → (o >>= f) ≡ none → (o ≡ none) ⊎ ((a : A) × (o ≡ some a) × (f a ≡ none))
unfolding ◌>>=◌
bind-none none f h = inl refl
bind-none (some a) f h = inr (a, refl, h)

pub mapped-none : {A B : Type 0} (o : Option A) (f : A → B) → (o >>= λ a. some (f a)) ≡ none → o ≡ none
unfolding ◌>>=◌
mapped-none none f h = refl
mapped-none (some a) f h = absurd (none-ne-some (f a) (sym h))

module _ (k : Class) (m : Method) where
  abbrev Reads : ℕ → Decoded → Type 0
  Reads q i = decode k.version m.code q ≡ some i

  -- a point to which the code leads: the first, and the one behind an instruction, but for the end of the code behind a goto or return
  pub data Comes : ℕ → Type 0 where
    first : Comes 0
    behind : (q : ℕ) (i : Decoded) → Memᴰ q (points k m) → Reads q i → (goes_on i.instruction ≡ false → q + i.size ≡ length m.code → ⊥) → Comes (q + i.size)

  -- the types s don't fit the instruction itself: a return, or another
  abbrev pub Unfit : Instruction → TypeState → Type 0
  Unfit i s = ((kind : Kind) × (return_kind i ≡ some kind) × (returns kind m.signature.result s ≡ none)) ⊎ ((return_kind i ≡ none) × (effect i s ≡ none))

  -- what the instruction i at point q leaves of the types s doesn't fit the map of a successor
  pub record Misfit (q : ℕ) (s : TypeState) (i : Decoded) : Type 0 where
    pub flows : Flow
    pub does : effect i.instruction s ≡ some flows
    pub point : ℕ
    pub successor : Memᴰ point (successors i q)
    pub map : Map
    pub there : map_at m.maps point ≡ some map
    pub fails : meet_map flows.types map ≡ none

  pub data Rejected : Type 0 where
    entry_misfits : (x : Map) → map_at m.maps 0 ≡ some x → meet_map (entry_types k m) x ≡ none → Rejected
    unread : (q : ℕ) → Comes q → decode k.version m.code q ≡ none → Rejected
    unfit : (q : ℕ) (s : TypeState) (i : Decoded) → types_in k m q ≡ some s → Reads q i → Unfit i.instruction s → Rejected
    misfits : (q : ℕ) (s : TypeState) (i : Decoded) → types_in k m q ≡ some s → Reads q i → return_kind i.instruction ≡ none → Misfit q s i → Rejected
    stray : (x : Map) → Memᴰ x m.maps → (Memᴰ x.offset (points k m) → ⊥) → Rejected

  pub comes-point : (q : ℕ) → Comes q → (i : Decoded) → Reads q i → Memᴰ q (points k m)
  comes-point q first i d = point-first k.version m.code (length m.code) 0 i (omega arith) d
  comes-point q (behind p j x e n) i d = point-next k.version m.code (length m.code) 0 p (omega arith) x j i e d

  pub flow-fails : (p : ℕ) (s : TypeState) → flow_into k.version m.code m.maps m.signature.result p s ≡ none → (x : Map) × (map_at m.maps p ≡ some x) × (meet_map s x ≡ none)
  unfolding flow_into
  flow-fails p s h = go (map_at m.maps p) refl h
    where
      go : (o : Option Map) → map_at m.maps p ≡ o → ◌≡◌ {A = Option Flow} (elim o as (λ _. Option Flow) [
        | none ↦ some (record { types = s; notes = [] })
        | some x ↦ meet_map s x >>= λ ns. some (record { types = map_types x; notes = ns })
      ]) none → (x : Map) × (map_at m.maps p ≡ some x) × (meet_map s x ≡ none)
      go none e r = absurd (none-ne-some _ (sym r))
      go (some x) e r = (x, e, mapped-none {B = Flow} (meet_map s x) (λ ns. record { types = map_types x; notes = ns }) r)

  returns-here : (i : Instruction) (kind : Kind) → return_kind i ≡ some kind → goes_on i ≡ false
  returns-here i kind e = rw (return-is i kind e) (unfold goes_on in refl)

  -- A turn that isn't made, at a point where an instruction is read

  module _ (all : AllMapped k m) (q : ℕ) (x : Memᴰ q (points k m)) (i : Decoded) (d : Reads q i) (s : TypeState) (has : types_in k m q ≡ some s) where
    -- behind a goto or return the code goes on and can't be read
    start-rejected : goes_on i.instruction ≡ false → start_at k.version m.code m.maps m.signature.result (q + i.size) ≡ none → Rejected
    start-rejected g h = let a = start-fails k m all q x i d g h in unread (q + i.size) (behind q i x d (λ _. a.1)) a.0

    after-rejected : (f : Flow) → return_kind i.instruction ≡ none → effect i.instruction s ≡ some f
        → after k.version m.code m.maps m.signature.result i.instruction (q + i.size) f ≡ none → Rejected
    unfolding after to_list
    after-rejected f z e h = elim (bind-none _ _ h) [
      | inl r ↦ there (target-fails k m all q x i d f.types r)
      | inr (ts, r, n) ↦ next ts (goes_on i.instruction) refl n
    ]
      where
        there : ((p : ℕ) × (y : Map) × (target i.instruction ≡ some p) × (map_at m.maps p ≡ some y) × (meet_map f.types y ≡ none)) → Rejected
        there (p, y, a, b, c) = misfits q s i has d z (record { flows = f; does = e; point = p; successor = rw a (Memᴰ.head refl); map = y; there = b; fails = c })

        next : (ts : List Note) (b : Bool) → goes_on i.instruction ≡ b → ◌≡◌ {A = Option Turn} (elim b as (λ _. Option Turn) [
          | true ↦ flow_into k.version m.code m.maps m.signature.result (q + i.size) f.types >>= λ g. some (record { notes = f.notes ++ (ts ++ g.notes); next = onto (q + i.size) g.types })
          | false ↦ start_at k.version m.code m.maps m.signature.result (q + i.size) >>= λ o. some (record { notes = f.notes ++ ts; next = o })
        ]) none → Rejected
        next ts true g n =
            let a = flow-fails (q + i.size) f.types (mapped-none {B = Turn} _ (λ (g : Flow). record { notes = f.notes ++ (ts ++ g.notes); next = onto (q + i.size) g.types }) n) in
            misfits q s i has d z (record { flows = f; does = e; point = q + i.size; successor = Memᴰ.append_right (to_list (target i.instruction)) (rw g (Memᴰ.head refl)); map = a.0; there = a.1; fails = a.2 })
        next ts false g n = start-rejected g (mapped-none {B = Turn} _ (λ (o : Onward). record { notes = f.notes ++ ts; next = o }) n)

    pub turn-rejected : turn k.version m.code m.maps m.signature.result q s ≡ none → Rejected
    unfolding turn
    turn-rejected h = go (return_kind i.instruction) refl (bound h)
      where
        step : Decoded → Option Turn
        step j = elim (return_kind j.instruction) as (λ _. Option Turn) [
          | some kind ↦ returns kind m.signature.result s >>= λ ns. start_at k.version m.code m.maps m.signature.result (q + j.size) >>= λ o. some (record { notes = ns; next = o })
          | none ↦ effect j.instruction s >>= λ f. after k.version m.code m.maps m.signature.result j.instruction (q + j.size) f
        ]

        bound : (decode k.version m.code q >>= step) ≡ none → step i ≡ none
        bound r = elim (bind-none _ _ r) [
          | inl e ↦ absurd (none-ne-some i (sym e ∙ d))
          | inr (j, e, z) ↦ subst (λ (y : Decoded). step y ≡ none) (some-injective j i (sym e ∙ d)) z
        ]

        go : (o : Option Kind) → return_kind i.instruction ≡ o → ◌≡◌ {A = Option Turn} (elim o as (λ _. Option Turn) [
          | some kind ↦ returns kind m.signature.result s >>= λ ns. start_at k.version m.code m.maps m.signature.result (q + i.size) >>= λ o. some (record { notes = ns; next = o })
          | none ↦ effect i.instruction s >>= λ f. after k.version m.code m.maps m.signature.result i.instruction (q + i.size) f
        ]) none → Rejected
        go (some kind) e r = elim (bind-none _ _ r) [
          | inl n ↦ unfit q s i has d (inl (kind, e, n))
          | inr (ns, _, n) ↦ start-rejected (returns-here i.instruction kind e) (mapped-none {B = Turn} _ (λ (o : Onward). record { notes = ns; next = o }) n)
        ]
        go none e r = elim (bind-none _ _ r) [ inl n ↦ unfit q s i has d (inr (e, n)) | inr (f, y, n) ↦ after-rejected f e y n ]

-- Whatever has such a reason is rejected

fits_not : (k : Class) (m : Method) (p : ℕ) (s : TypeState) (x : Map) → map_at m.maps p ≡ some x → meet_map s x ≡ none → (f : Flow) → flow_into k.version m.code m.maps m.signature.result p s ≡ some f → ⊥
unfolding flow_into ◌>>=◌
fits_not k m p s x e z f h = none-ne-some f ((rw (e, flow_into) (rw (z, ◌>>=◌) refl)) ∙ h)

module _ (k : Class) (m : Method) (ns : List Note) (v : notes_of_method k m ≡ some ns) where
  kind-of : (i : Instruction) (kind : Kind) → i ≡ Return kind → return_kind i ≡ some kind
  kind-of i kind e = rw e (unfold return_kind in refl)

  comes-read : (q : ℕ) → Comes k m q → Memᴰ q (points k m)
  comes-read q first = (points-throughout k m ns v).from_first
  comes-read q (behind p i x d n) = go (goes_on i.instruction) refl ((points-throughout k m ns v).to_last p x i d)
    where
      go : (b : Bool) → goes_on i.instruction ≡ b → (p + i.size ≡ length m.code) ⊎ Memᴰ (p + i.size) (points k m) → Memᴰ (p + i.size) (points k m)
      go true e o = next_start k m ns v p i x d e
      go false e (inl z) = absurd (n e z)
      go false e (inr y) = y

  fits : (q : ℕ) (s : TypeState) (i : Decoded) → types_in k m q ≡ some s → decode k.version m.code q ≡ some i → Unfit k m i.instruction s → ⊥
  fits q s i h d u =
      let t = turned k m ns v q s h in
      let c = turn-cases k.version m.code m.maps m.signature.result q s t.t t.does in
      go t.t (subst (λ (j : Decoded). Returned k.version m.code m.maps m.signature.result q s t.t j ⊎ Effected k.version m.code m.maps m.signature.result q s t.t j)
      (some-injective _ _ (sym c.1 ∙ d)) c.2) u
    where
      go : (t : Turn) → Returned k.version m.code m.maps m.signature.result q s t i ⊎ Effected k.version m.code m.maps m.signature.result q s t i → Unfit k m i.instruction s → ⊥
      go t (inl w) (inl (kind, e, n)) =
          let z : kind ≡ w.kind = some-injective _ _ (sym e ∙ w.is) in
          none-ne-some t.notes (sym n ∙ (rw z w.does))
      go t (inl w) (inr (e, n)) = none-ne-some w.kind (sym e ∙ w.is)
      go t (inr w) (inl (kind, e, n)) = none-ne-some kind (sym w.is ∙ e)
      go t (inr w) (inr (e, n)) = none-ne-some w.f (sym n ∙ w.does)

  passes : (q : ℕ) (s : TypeState) (i : Decoded) → types_in k m q ≡ some s → decode k.version m.code q ≡ some i → return_kind i.instruction ≡ none → Misfit k m q s i → ⊥
  passes q s i h d z f =
      let n = known k m ns v q s h in
      let same : n.at ≡ i = some-injective _ _ (sym n.reads ∙ d) in
      go (subst (λ (j : Decoded). Ends k.version m.code m.maps m.signature.result (types_in k m) ns s j ⊎ Passes k.version m.code m.maps m.signature.result (types_in k m) ns q s j) same n.way)
    where
      go : Ends k.version m.code m.maps m.signature.result (types_in k m) ns s i ⊎ Passes k.version m.code m.maps m.signature.result (types_in k m) ns q s i → ⊥
      go (inl w) = none-ne-some w.kind (sym z ∙ kind-of i.instruction w.kind w.is)
      go (inr w) =
          let e : w.flows ≡ f.flows = some-injective _ _ (sym w.does ∙ f.does) in
          let a = w.next f.point f.successor in
          fits_not k m f.point w.flows.types f.map f.there (rw e f.fails) a.flows a.does

pub for-rejected : (k : Class) (m : Method) → Rejected k m → (ns : List Note) → notes_of_method k m ≡ some ns → ⊥
for-rejected k m (entry_misfits x e z) ns v = let a = entry k m ns v in fits_not k m 0 (entry_types k m) x e z a.flows a.does
for-rejected k m (unread q c d) ns v = let r = point-reads k.version m.code (length m.code) 0 q (comes-read k m ns v q c) in none-ne-some r.0 (sym d ∙ r.1)
for-rejected k m (unfit q s i h d u) ns v = fits k m ns v q s i h d u
for-rejected k m (misfits q s i h d z f) ns v = passes k m ns v q s i h d z f
for-rejected k m (stray x t n) ns v = n (maps-start k m ns v x t)
