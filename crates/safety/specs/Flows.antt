-- What flows into a point conforms to the types there: these are the types that flow, or its map's, under notes that are posted.
use Rattle.std.specs.Prelude.{◌≡◌, refl, Bool, ℕ, eqb}
use Rattle.std.proofs.Common.{sym}
use Rattle.std.proofs.Math.Path.{ap}
use Rattle.std.proofs.Math.Bool.{true, false}
use Rattle.std.proofs.Math.Option.{Option, none, some, none-ne-some, some-injective}
use mathlib.Core.List.Memᴰ
use mathlib.Core.List.{List, [], ◌∷◌, ◌++◌, map, reverse, reverse-reverse}
use Rattle.std.proofs.Math.Logic.{inl, inr}
use Rattle.definition.specs.Classes.{Class, Map, Method}
use Rattle.definition.specs.Constraints.{World}
use Rattle.definition.specs.Lists.{Each}
use Rattle.definition.specs.Machine.{Value, int_value, null_value, object_value, empty_value, unlisted_value, Objects}
use Rattle.definition.specs.Maybe.{◌>>=◌}
use Rattle.definition.specs.Verifier.{Flow, Note, TypeState, VerifierType, type_int, type_null, type_class, type_of_name, types_in, flow_into, local_type, map_at, map_types, meet_all, meet_local, meet_map, meets}
use Rattle.laws.specs.Options.{bind-some, each_more, each-reverse}
use Rattle.laws.specs.Walk.{Into}
use Rattle.safety.specs.Places.{meet-name}
use Rattle.safety.specs.Valid.{Conforms, Exists, Later, Local, Noted, Flows, FlowsLocal, Verified, later-flows}

-- Values

module _ (w : World) (os : Objects) (l : ℕ) where
  pub flows-value : (a b : VerifierType) (v : Value) → Flows w l a b → Conforms w os l a v → Conforms w os l b v
  flows-value a b v (inl e) h = rw e at h
  flows-value a b v (inr m) h = rw m.is at (meet-name w os l m.name a v m.notes m.does m.posted h)

  conforms-exists : (t : VerifierType) (v : Value) → Conforms w os l t v → Exists os v
  conforms-exists t empty_value h = tt
  conforms-exists t (unlisted_value α β) h = tt
  conforms-exists t (int_value n) h = tt
  conforms-exists t null_value h = tt
  conforms-exists type_int (object_value o) h = absurd h
  conforms-exists type_null (object_value o) h = absurd h
  conforms-exists (type_class n) (object_value o) h = (h.object, h.there)

  flows-local : (a b : Option VerifierType) (v : Value) → FlowsLocal w l a b → Local w os l a v → Local w os l b v
  flows-local none none v f h = h
  flows-local (some a) none v f h = conforms-exists a v h
  flows-local none (some b) v f h = absurd f
  flows-local (some a) (some b) v f h = flows-value a b v f h

  each-flows : {A : Type 0} (F : A → A → Type 0) (R : A → Value → Type 0) → ((a b : A) (v : Value) → F a b → R a v → R b v) → (xs ys : List A) (vs : List Value) → Each F xs ys → Each R xs vs → Each R ys vs
  each-flows F R k [] [] vs f h = h
  each-flows F R k [] (y ∷ ys) vs f h = absurd f
  each-flows F R k (x ∷ xs) [] vs f h = absurd f
  each-flows F R k (x ∷ xs) (y ∷ ys) [] f h = absurd h
  each-flows F R k (x ∷ xs) (y ∷ ys) (v ∷ vs) f h = (k x y v f.0 h.0, each-flows F R k xs ys vs f.1 h.1)

  pub operands-flow : (ts us : List VerifierType) (vs : List Value) → Each (Flows w l) ts us → Each (Conforms w os l) ts vs → Each (Conforms w os l) us vs
  operands-flow ts us vs f h = each-flows (Flows w l) (Conforms w os l) flows-value ts us vs f h

  pub locals-flow : (ts us : List (Option VerifierType)) (vs : List Value) → Each (FlowsLocal w l) ts us → Each (Local w os l) ts vs → Each (Local w os l) us vs
  locals-flow ts us vs f h = each-flows (FlowsLocal w l) (Local w os l) flows-local ts us vs f h

-- Types

module _ (w : World) (l : ℕ) where
  local_same : (t : Option VerifierType) → FlowsLocal w l t t
  local_same none = tt
  local_same (some t) = inl refl

  each_same : {A : Type 0} (F : A → A → Type 0) → ((a : A) → F a a) → (xs : List A) → Each F xs xs
  each_same F k [] = tt
  each_same F k (x ∷ xs) = (k x, each_same F k xs)

  local-met : (t : Option VerifierType) (n : ℕ) (ns : List Note) → meet_local t n ≡ some ns → Noted w l ns → FlowsLocal w l t (local_type n)
  unfolding meet_local local_type
  local-met t n ns e p = go (eqb n 0) t e
    where
      go : (b : Bool) (t : Option VerifierType) → (elim b as (λ _. Option (List Note)) [ true ↦ some [] | false ↦ t >>= λ u. meets u n ]) ≡ some ns
          → FlowsLocal w l t (elim b as (λ _. Option VerifierType) [ true ↦ none | false ↦ some (type_of_name n) ])
      go true none r = tt
      go true (some u) r = tt
      go false none r = absurd (none-ne-some ns (unfold ◌>>=◌ in r))
      go false (some u) r = inr (record { name = n; notes = ns; is = refl; does = unfold ◌>>=◌ in r; posted = p })

  all-met : {A B : Type 0} (f : A → ℕ → Option (List Note)) (g : ℕ → B) (R : A → B → Type 0) → ((a : A) (n : ℕ) (ns : List Note) → f a n ≡ some ns → Noted w l ns → R a (g n))
      → (xs : List A) (ms : List ℕ) (ns : List Note) → meet_all f xs ms ≡ some ns → Noted w l ns → Each R xs (map g ms)
  unfolding meet_all
  all-met f g R k [] [] ns e p = tt
  all-met f g R k [] (m ∷ ms) ns e p = absurd (none-ne-some ns e)
  all-met f g R k (x ∷ xs) [] ns e p = absurd (none-ne-some ns e)
  all-met f g R k (x ∷ xs) (m ∷ ms) ns e p =
      let a = bind-some _ _ e in
      let b = bind-some _ _ a.2 in
      let z : a.0 ++ b.0 ≡ ns = some-injective _ _ b.2 in
      (k x m a.0 a.1 (λ n i. p n (rw z at (Memᴰ.append_left b.0 i))), all-met f g R k xs ms b.0 b.1 (λ n i. p n (rw z at (Memᴰ.append_right a.0 i))))

  -- the types s flow into τ
  pub record Reaches (s τ : TypeState) : Type 0 where
    pub operands : Each (Flows w l) s.operands τ.operands
    pub locals : Each (FlowsLocal w l) s.locals τ.locals

  map-met : (s : TypeState) (m : Map) (ns : List Note) → meet_map s m ≡ some ns → Noted w l ns → Reaches s (map_types m)
  unfolding meet_map
  map-met s m ns e p =
      let a = bind-some _ _ e in
      let b = bind-some _ _ a.2 in
      let z : a.0 ++ b.0 ≡ ns = some-injective _ _ b.2 in
      let os = all-met meets type_of_name (Flows w l) (λ t n x r q. inr (record { name = n; notes = x; is = refl; does = r; posted = q })) (reverse s.operands) m.operands b.0 b.1
      (λ n i. p n (rw z at (Memᴰ.append_right a.0 i))) in
      record {
        operands = rw (reverse-reverse s.operands) at (each-reverse (Flows w l) (reverse s.operands) (map type_of_name m.operands) os);
        locals = all-met meet_local local_type (FlowsLocal w l) local-met s.locals m.locals a.0 a.1 (λ n i. p n (rw z at (Memᴰ.append_left b.0 i)));
      }

  flows-into : (version : ℕ) (code : List ℕ) (maps : List Map) (result p : ℕ) (s : TypeState) (g : Flow) → flow_into version code maps result p s ≡ some g → Noted w l g.notes → Reaches s g.types
  unfolding flow_into
  flows-into version code maps result p s g e q = go (map_at maps p) e
    where
      go : (o : Option Map) → (elim o as (λ _. Option Flow) [
        | none ↦ some (record { types = s; notes = [] })
        | some x ↦ meet_map s x >>= λ ns. some (record { types = map_types x; notes = ns })
      ]) ≡ some g → Reaches s g.types
      go none r =
          let z : record { types = s; notes = [] } ≡ g = some-injective _ _ r in
          let zt : s ≡ g.types = ap (λ (x : Flow). x.types) z in
          rw (sym zt) (record { operands = each_same (Flows w l) (λ a. inl refl) s.operands; locals = each_same (FlowsLocal w l) local_same s.locals })
      go (some x) r =
          let a = bind-some _ _ r in
          let z : record { types = map_types x; notes = a.0 } ≡ g = some-injective _ _ a.2 in
          let zt : map_types x ≡ g.types = ap (λ (y : Flow). y.types) z in
          let zn : a.0 ≡ g.notes = ap (λ (y : Flow). y.notes) z in
          rw (sym zt) (map-met s x a.0 a.1 (λ n i. q n (rw zn at i)))

-- point p of the method has types, into which the types s flow
pub record Lands (w : World) (k : Class) (m : Method) (p : ℕ) (s : TypeState) : Type 0 where
  pub τ : TypeState
  pub types : types_in k m p ≡ some τ
  pub reaches : Reaches w k.loader s τ

pub lands : (w : World) (k : Class) (m : Method) (ve : Verified w k m) (p : ℕ) (s : TypeState)
    → Into k.version m.code m.maps m.signature.result (types_in k m) ve.notes p s → Lands w k m p s
lands w k m ve p s i = record {
  τ = i.flows.types;
  types = i.has;
  reaches = flows-into w k.loader k.version m.code m.maps m.signature.result p s i.flows i.does (λ n x. ve.posted n (i.posted n x));
}

module _ {v w : World} {os qs : Objects} (z : Later v os w qs) where
  later-flows-local : (l : ℕ) (a b : Option VerifierType) → FlowsLocal v l a b → FlowsLocal w l a b
  later-flows-local l none none h = tt
  later-flows-local l (some a) none h = tt
  later-flows-local l none (some b) h = h
  later-flows-local l (some a) (some b) h = later-flows z l a b h

  pub later-lands : {k : Class} {m : Method} {p : ℕ} {s : TypeState} → Lands v k m p s → Lands w k m p s
  later-lands {k} {m} {p} {s} h = record {
    τ = h.τ;
    types = h.types;
    reaches = record {
      operands = each_more (later-flows z k.loader) s.operands h.τ.operands h.reaches.operands;
      locals = each_more (later-flows-local k.loader) s.locals h.τ.locals h.reaches.locals;
    };
  }
