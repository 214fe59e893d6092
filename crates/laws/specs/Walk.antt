-- What is known of the verifier's walk over a method: `notes_of_method` and `types_in` by these laws alone, but for InOrder, Paths and Reasons, which follow the walk itself. The entry types flow into
-- point 0. At a point that has types the instruction reads; it is a return that fits the result type, or has an effect, and the types that it
-- leaves flow into each of its successors, which has types: these, or its map's. All notes of that are among the method's.
use Rattle.std.specs.Prelude.{◌≡◌, Bool, ◌⊎◌, length, leb, ltb}
use Rattle.std.proofs.Math.Path.{refl, ap, subst}
use Rattle.std.proofs.Common.{sym, ◌∙◌, subst₂, arith}
use Rattle.std.proofs.Math.Bool.{true, false}
use Rattle.std.proofs.lemmas.Bool.{false≢true}
use Rattle.std.proofs.Math.Option.{Option, none, some, none-ne-some, some-injective}
use mathlib.Core.List.Memᴰ
use mathlib.Core.List.{List, [], ◌∷◌, ◌++◌, Memᴰ}
use Rattle.std.proofs.Math.Logic.{inl, inr}
use Prim.Native.Nat.{ℕ, zero, suc, ◌+◌, ◌≤◌}
use Rattle.std.proofs.Math.Dec.{eqb}
use borrow.Author.Tests.{eqb-true, eq-eqb, ne_eqb, leb-true}
use Rattle.definition.specs.Classes.{Class, Map, Method}
use Rattle.definition.specs.Instructions.{Decoded, decode}
use Rattle.definition.specs.Maybe.{◌>>=◌, need}
use Rattle.definition.specs.Lists.{to_list}
use Rattle.definition.specs.Verifier.{Flow, Note, Onward, Turn, TypeState, after, effect, entry_types, finished, flow_into, flow_to_target, goes_on, map_at, map_types, maps_past, meet_map, notes_of_method, onto, returns, start_at, target, turn, types_at, types_in, verify}
use Rattle.definition.specs.declared.Kind.{Kind}
use Rattle.definition.specs.declared.Instruction.{Instruction}
use Rattle.definition.specs.declared.Instruction.TheVariants.{Return}
use Rattle.laws.specs.Options.{bind-some, some-bind, need-true}
pub use Rattle.laws.specs.WalkTurns.{return-is, successors, Turns, Types, Notes, Returned, Effected, turn-cases}
use Rattle.laws.specs.WalkTurns.{After, after-cases, into-mapped, landed, nothing, eqb-differs, point_of, types_of}

-- What is known of point q, where the types are τ, in code whose points have the types `types` and whose notes are ns

module _ (version : ℕ) (code : List ℕ) (maps : List Map) (result : ℕ) (types : ℕ → Option TypeState) (ns : List Note) where
  -- the types s flow into point p
  pub record Into (p : ℕ) (s : TypeState) : Type 0 where
    pub flows : Flow
    pub does : flow_into version code maps result p s ≡ some flows
    pub posted : (n : Note) → Memᴰ n flows.notes → Memᴰ n ns
    pub has : types p ≡ some flows.types

  pub record Goes (q : ℕ) (τ : TypeState) (i : Decoded) : Type 0 where
    pub flows : Flow
    pub does : effect i.instruction τ ≡ some flows
    pub posted : (n : Note) → Memᴰ n flows.notes → Memᴰ n ns
    pub next : (p : ℕ) → Memᴰ p (successors i q) → Into p flows.types

  pub record Ends (τ : TypeState) (i : Decoded) : Type 0 where
    pub kind : Kind
    pub is : i.instruction ≡ Return kind
    pub made : List Note
    pub does : returns kind result τ ≡ some made
    pub posted : (n : Note) → Memᴰ n made → Memᴰ n ns

  pub record Known (q : ℕ) (τ : TypeState) : Type 0 where
    pub at : Decoded
    pub reads : decode version code q ≡ some at
    pub way : Ends τ at ⊎ Goes q τ at

  -- the same as the walk has it: a turn, and the types where it goes on
  pub record Turned (q : ℕ) (τ : TypeState) : Type 0 where
    pub t : Turn
    pub does : turn version code maps result q τ ≡ some t
    pub posted : (n : Note) → Memᴰ n t.notes → Memᴰ n ns
    pub next : (r : ℕ) (u : TypeState) → t.next ≡ onto r u → types r ≡ some u

module _ (version : ℕ) (code : List ℕ) (maps : List Map) (result : ℕ) where
  -- What is verified from a point on: a turn, at which all ends or which goes on to what is verified after it

  pub record Stops (left : List Map) (t : Turn) (ns : List Note) : Type 0 where
    pub ended : t.next ≡ finished
    pub none : length left ≤ 0
    pub all : t.notes ≡ ns

  pub record Continues (k : ℕ) (left : List Map) (t : Turn) (ns : List Note) : Type 0 where
    pub r : ℕ
    pub u : TypeState
    pub rest : List Note
    pub onward : t.next ≡ onto r u
    pub then : Notes version code maps result k r left u ≡ some rest
    pub all : t.notes ++ rest ≡ ns

  pub record Went (k p : ℕ) (left : List Map) (s : TypeState) (ns : List Note) : Type 0 where
    pub more : List Map
    pub t : Turn
    pub passes : maps_past version code maps result p left ≡ some more
    pub does : Turns version code maps result p s t
    pub way : Stops more t ns ⊎ Continues k more t ns

  pub went : (k p : ℕ) (left : List Map) (s : TypeState) (ns : List Note) → Notes version code maps result (suc k) p left s ≡ some ns → Went k p left s ns
  unfolding verify
  went k p left s ns h =
      let a = bind-some _ _ h in
      let b = bind-some _ _ a.2 in
      record { more = a.0; t = b.0; passes = a.1; does = b.1; way = go a.0 b.0 b.0.next refl b.2 }
    where
      go : (more : List Map) (t : Turn) (o : Onward) → t.next ≡ o → (elim o as (λ _. Option (List Note)) [
        | finished ↦ need (leb (length more) 0) >>= λ _. some t.notes
        | onto q u ↦ Notes version code maps result k q more u >>= λ ns. some (t.notes ++ ns)
      ]) ≡ some ns → Stops more t ns ⊎ Continues k more t ns
      go more t finished e r = let a = bind-some _ _ r in inl (record { ended = e; none = leb-true (length more) 0 (need-true _ a.1); all = some-injective _ _ a.2 })
      go more t (onto q u) e r = let a = bind-some _ _ r in inr (record { r = q; u = u; rest = a.0; onward = e; then = a.1; all = some-injective _ _ a.2 })

  -- the types at a point, here or further on
  pub record On (k p : ℕ) (left : List Map) (s : TypeState) (q : ℕ) (τ : TypeState) : Type 0 where
    pub more : List Map
    pub t : Turn
    pub r : ℕ
    pub u : TypeState
    pub passes : maps_past version code maps result p left ≡ some more
    pub does : Turns version code maps result p s t
    pub onward : t.next ≡ onto r u
    pub then : Types version code maps result k r more u q ≡ some τ

  pub types-cases : (k p : ℕ) (left : List Map) (s : TypeState) (q : ℕ) (τ : TypeState) → Types version code maps result (suc k) p left s q ≡ some τ → ((p ≡ q) × (s ≡ τ)) ⊎ On k p left s q τ
  unfolding types_at
  types-cases k p left s q τ h = let a = bind-some _ _ h in go a.0 a.1 (eqb p q) refl a.2
    where
      further : (more : List Map) → maps_past version code maps result p left ≡ some more → (t : Turn) → Turns version code maps result p s t → (o : Onward) → t.next ≡ o
          → (elim o as (λ _. Option TypeState) [ finished ↦ none | onto r u ↦ Types version code maps result k r more u q ]) ≡ some τ → On k p left s q τ
      further more m t d finished e x = absurd (none-ne-some τ x)
      further more m t d (onto r u) e x = record { more = more; t = t; r = r; u = u; passes = m; does = d; onward = e; then = x }

      go : (more : List Map) → maps_past version code maps result p left ≡ some more → (b : Bool) → eqb p q ≡ b
          → (elim b as (λ _. Option TypeState) [ true ↦ some s | false ↦ turn version code maps result p s >>= λ t. elim t.next as (λ _. Option TypeState) [ finished ↦ none | onto r u ↦ Types version code maps result k r more u q ] ]) ≡ some τ
          → ((p ≡ q) × (s ≡ τ)) ⊎ On k p left s q τ
      go more m true e x = inl (eqb-true p q e, some-injective s τ x)
      go more m false e x = let a = bind-some _ _ x in inr (further more m a.0 a.1 a.0.next refl a.2)

  pub types-here : (k p : ℕ) (left more : List Map) (s : TypeState) → maps_past version code maps result p left ≡ some more → Types version code maps result (suc k) p left s p ≡ some s
  unfolding types_at
  types-here k p left more s m = some-bind _ _ m (rw (eq-eqb p p refl) refl)

  pub types-on : (k p : ℕ) (left : List Map) (s : TypeState) (q : ℕ) (τ : TypeState) → (p ≡ q → ⊥) → On k p left s q τ → Types version code maps result (suc k) p left s q ≡ some τ
  unfolding types_at
  types-on k p left s q τ l o = some-bind _ _ o.passes (rw (ne_eqb p q l) (some-bind _ _ o.does (rw o.onward o.then)))

  pub types-first : (k p : ℕ) (left : List Map) (s : TypeState) (ns : List Note) → Notes version code maps result k p left s ≡ some ns → Types version code maps result k p left s p ≡ some s
  types-first zero p left s ns h = absurd (none-ne-some ns (unfold verify in h))
  types-first (suc k) p left s ns h = let w = went k p left s ns h in types-here k p left w.more s w.passes

  -- no point before the one where the walk stands has types
  types-le : (k p : ℕ) (left : List Map) (s : TypeState) (q : ℕ) (τ : TypeState) → Types version code maps result k p left s q ≡ some τ → p ≤ q
  types-le zero p left s q τ h = absurd (none-ne-some τ (unfold types_at in h))
  types-le (suc k) p left s q τ h = elim (types-cases k p left s q τ h) [
    | inl e ↦ omega (arith, e.0)
    | inr o ↦ omega (arith, types-le k o.r o.more o.u q τ o.then, (landed version code maps result p s o.t o.does o.r o.u o.onward).behind)
  ]

  -- The maps left are the method's from the point on where the walk stands, which has its map's types

  record Standing (p : ℕ) (left : List Map) (s : TypeState) : Type 0 where
    left_there : (q : ℕ) → p ≤ q → map_at left q ≡ map_at maps q
    mapped : (m : Map) → map_at left p ≡ some m → s ≡ map_types m

  past_same : (p : ℕ) (left more : List Map) → maps_past version code maps result p left ≡ some more → (q : ℕ) → (p ≡ q → ⊥) → map_at more q ≡ map_at left q
  unfolding maps_past map_at
  past_same p [] more h q n = rw (← some-injective _ _ h) refl
  past_same p (m ∷ ms) more h q n = go (eqb m.offset p) refl h
    where
      go : (b : Bool) → eqb m.offset p ≡ b → (elim b as (λ _. Option (List Map)) [ true ↦ some ms | false ↦ need (ltb p m.offset) >>= λ _. some (m ∷ ms) ]) ≡ some more → map_at more q ≡ map_at (m ∷ ms) q
      go true e x =
          let z : ms ≡ more = some-injective _ _ x in
          let ne : eqb m.offset q ≡ false = ne_eqb m.offset q (λ y. n (cc (eqb-true m.offset p e))) in
          rw (← z, ne, map_at) refl
      go false e x = let a = bind-some _ _ x in rw (← some-injective _ _ a.2) refl

  stands_on : (p : ℕ) (left more : List Map) (s : TypeState) (t : Turn) (r : ℕ) (u : TypeState) → maps_past version code maps result p left ≡ some more → Turns version code maps result p s t → t.next ≡ onto r u
      → Standing p left s → Standing r more u
  stands_on p left more s t r u m d e st =
      let l = landed version code maps result p s t d r u e in
      let same : (q : ℕ) → r ≤ q → map_at more q ≡ map_at maps q = λ q x. let b = l.behind in past_same p left more m q (λ y. omega arith) ∙ st.left_there q (omega arith) in
      record { left_there = same; mapped = λ x y. l.mapped x (sym (same r (omega arith)) ∙ y) }

  -- every map's point has its types
  visited : (k p : ℕ) (left : List Map) (s : TypeState) (ns : List Note) → Notes version code maps result k p left s ≡ some ns → Standing p left s
      → (q : ℕ) (m : Map) → map_at left q ≡ some m → Types version code maps result k p left s q ≡ some (map_types m)
  visited zero p left s ns h st q m e = absurd (none-ne-some ns (unfold verify in h))
  visited (suc k) p left s ns h st q m e = let w = went k p left s ns h in go w w.way (eqb p q) refl (λ r more u rest. visited k r more u rest)
    where
      go : (w : Went k p left s ns) → Stops w.more w.t ns ⊎ Continues k w.more w.t ns → (b : Bool) → eqb p q ≡ b
          → ((r : ℕ) (more : List Map) (u : TypeState) (rest : List Note) → Notes version code maps result k r more u ≡ some rest → Standing r more u → (x : ℕ) (y : Map) → map_at more x ≡ some y → Types version code maps result k r more u x ≡ some (map_types y))
          → Types version code maps result (suc k) p left s q ≡ some (map_types m)
      go w c true z ih =
          let pq : p ≡ q = eqb-true p q z in
          let here : Types version code maps result (suc k) p left s p ≡ some s = types-here k p left w.more s w.passes in
          let sm : s ≡ map_types m = st.mapped m (rw (← pq) at e) in
          subst (λ x. Types version code maps result (suc k) p left s x ≡ some (map_types m)) pq (here ∙ ap some sm)
      go w (inl c) false z ih = absurd (nothing w.more c.none q m (past_same p left w.more w.passes q (eqb-differs p q z) ∙ e))
      go w (inr c) false z ih =
          let d : p ≡ q → ⊥ = eqb-differs p q z in
          types-on k p left s q (map_types m) d (record {
            more = w.more;
            t = w.t;
            r = c.r;
            u = c.u;
            passes = w.passes;
            does = w.does;
            onward = c.onward;
            then = ih c.r w.more c.u c.rest c.then (stands_on p left w.more s w.t c.r c.u w.passes w.does c.onward st) q m (past_same p left w.more w.passes q d ∙ e);
          })

  -- where the walk has been, a turn was made, its notes are posted, and its next point has types
  turns : (k p : ℕ) (left : List Map) (s : TypeState) (ns : List Note) (q : ℕ) (τ : TypeState) → Notes version code maps result k p left s ≡ some ns → Types version code maps result k p left s q ≡ some τ
      → Turned version code maps result (Types version code maps result k p left s) ns q τ
  unfolding point_of types_of
  turns zero p left s ns q τ v h = absurd (none-ne-some τ (unfold types_at in h))
  turns (suc k) p left s ns q τ v h = let w = went k p left s ns v in go w w.way (types-cases k p left s q τ h) (λ r more u rest. turns k r more u rest q τ)
    where
      later : (w : Went k p left s ns) (r : ℕ) (u : TypeState) → w.t.next ≡ onto r u → (x : ℕ) (σ : TypeState) → Types version code maps result k r w.more u x ≡ some σ → Types version code maps result (suc k) p left s x ≡ some σ
      later w r u e x σ a =
          let b = (landed version code maps result p s w.t w.does r u e).behind in
          let c = types-le k r w.more u x σ a in
          types-on k p left s x σ (λ y. omega arith) (record { more = w.more; t = w.t; r = r; u = u; passes = w.passes; does = w.does; onward = e; then = a })

      here : (w : Went k p left s ns) → Stops w.more w.t ns ⊎ Continues k w.more w.t ns → Turned version code maps result (Types version code maps result (suc k) p left s) ns p s
      here w (inl c) = record {
        t = w.t;
        does = w.does;
        posted = λ n m. rw c.all at m;
        next = λ r u e. let z : some u ≡ none = ap types_of (sym e ∙ c.ended) in absurd (none-ne-some u (sym z));
      }
      here w (inr c) = record {
        t = w.t;
        does = w.does;
        posted = λ n m. rw c.all at (Memᴰ.append_left c.rest m);
        next = λ r u e.
            let z : onto c.r c.u ≡ onto r u = sym c.onward ∙ e in
            let zr : c.r ≡ r = ap point_of z in
            let zu : c.u ≡ u = some-injective _ _ (ap types_of z) in
            rw (zr, zu) at (later w c.r c.u c.onward c.r c.u (types-first k c.r w.more c.u c.rest c.then));
      }

      go : (w : Went k p left s ns) → Stops w.more w.t ns ⊎ Continues k w.more w.t ns → ((p ≡ q) × (s ≡ τ)) ⊎ On k p left s q τ
          → ((r : ℕ) (more : List Map) (u : TypeState) (rest : List Note) → Notes version code maps result k r more u ≡ some rest → Types version code maps result k r more u q ≡ some τ → Turned version code maps result (Types version code maps result k r more u) rest q τ)
          → Turned version code maps result (Types version code maps result (suc k) p left s) ns q τ
      go w c (inl e) ih = subst₂ (λ x y. Turned version code maps result (Types version code maps result (suc k) p left s) ns x y) e.0 e.1 (here w c)
      go w (inl c) (inr o) ih =
          let zt : w.t ≡ o.t = some-injective _ _ (sym w.does ∙ o.does) in
          let z : some o.u ≡ none = ap types_of (sym o.onward ∙ (rw zt at c.ended)) in
          absurd (none-ne-some o.u (sym z))
      go w (inr c) (inr o) ih =
          let zt : o.t ≡ w.t = some-injective _ _ (sym o.does ∙ w.does) in
          let zm : o.more ≡ w.more = some-injective _ _ (sym o.passes ∙ w.passes) in
          let z : onto o.r o.u ≡ onto c.r c.u = sym (rw zt at o.onward) ∙ c.onward in
          let zr : o.r ≡ c.r = ap point_of z in
          let zu : o.u ≡ c.u = some-injective _ _ (ap types_of z) in
          let d = ih c.r w.more c.u c.rest c.then (rw (zr, zu, zm) at o.then) in
          record {
            t = d.t;
            does = d.does;
            posted = λ n m. rw c.all at (Memᴰ.append_right w.t.notes (d.posted n m));
            next = λ r u e. later w c.r c.u c.onward r u (d.next r u e);
          }

  -- what a turn says, where all points with maps have their types
  module _ (types : ℕ → Option TypeState) (ns : List Note) (mapped : (p : ℕ) (m : Map) → map_at maps p ≡ some m → types p ≡ some (map_types m)) where
    into-target : (p : ℕ) (s : TypeState) (ts : List Note) → flow_to_target version code maps result (some p) s ≡ some ts → ((n : Note) → Memᴰ n ts → Memᴰ n ns) → Into version code maps result types ns p s
    unfolding flow_to_target flow_into
    into-target p s ts h posted = let a = bind-some _ _ h in go a.0 a.1 a.2
      where
        go : (m : Map) → map_at maps p ≡ some m → meet_map s m ≡ some ts → Into version code maps result types ns p s
        go m e d = record { flows = record { types = map_types m; notes = ts }; does = rw (e, flow_into) (some-bind _ _ d refl); posted = posted; has = mapped p m e }

    known_of : (q : ℕ) (τ : TypeState) → Turned version code maps result types ns q τ → Known version code maps result types ns q τ
    unfolding to_list
    known_of q τ d = let a = turn-cases version code maps result q τ d.t d.does in record { at = a.0; reads = a.1; way = go a.0 a.2 }
      where
        flows : (i : Decoded) (e : Effected version code maps result q τ d.t i) → After version code maps result (q + i.size) e.f d.t i → (p : ℕ) → Memᴰ p (successors i q) → Into version code maps result types ns p e.f.types
        flows i e a = each (target i.instruction) refl (goes_on i.instruction) refl
          where
            straight : (p : ℕ) (b : Bool) → goes_on i.instruction ≡ b → Memᴰ p (elim b as (λ _. List ℕ) [ true ↦ (q + i.size) ∷ [] | false ↦ [] ]) → Into version code maps result types ns p e.f.types
            straight p true g (Memᴰ.tail never) = elim never [ ]
            straight p false g never = elim never [ ]
            straight p true g (Memᴰ.head z) = elim a.then [
              | inl (y, n) ↦ rw z (record { flows = n.g; does = n.does; posted = λ x m. d.posted x (n.posted x m); has = d.next (q + i.size) n.g.types n.onward })
              | inr (y, n) ↦ absurd (false≢true (sym y ∙ g))
            ]

            each : (o : Option ℕ) → target i.instruction ≡ o → (b : Bool) → goes_on i.instruction ≡ b
                → (p : ℕ) → Memᴰ p (to_list o ++ elim b as (λ _. List ℕ) [ true ↦ (q + i.size) ∷ [] | false ↦ [] ]) → Into version code maps result types ns p e.f.types
            each none t b g p m = straight p b g m
            each (some x) t b g p (Memᴰ.head z) = rw z (into-target x e.f.types a.there.ts (rw t at a.there.does) (λ n m. d.posted n (a.there.posted n m)))
            each (some x) t b g p (Memᴰ.tail m) = straight p b g m

        go : (i : Decoded) → Returned version code maps result q τ d.t i ⊎ Effected version code maps result q τ d.t i → Ends version code maps result types ns τ i ⊎ Goes version code maps result types ns q τ i
        go i (inl e) = inl (record { kind = e.kind; is = return-is i.instruction e.kind e.is; made = d.t.notes; does = e.does; posted = d.posted })
        go i (inr e) =
            let a = after-cases version code maps result (q + i.size) e.f d.t i e.then in
            inr (record { flows = e.f; does = e.does; posted = λ n m. d.posted n (a.own n m); next = flows i e a })

  -- Types that have P throughout, the entry's, those of maps and those that effects leave, make notes that have N

  module _ (P : TypeState → Type 0) (N : List Note → Type 0) (empty : N []) (join : (a b : List Note) → N a → N b → N (a ++ b))
      (on : (p : ℕ) (i : Decoded) (s : TypeState) (f : Flow) → decode version code p ≡ some i → P s → effect i.instruction s ≡ some f → P f.types × N f.notes)
      (last : (kind : Kind) (s : TypeState) (a : List Note) → P s → returns kind result s ≡ some a → N a)
      (at_map : (p : ℕ) (x : Map) → map_at maps p ≡ some x → P (map_types x))
      (to_map : (p : ℕ) (x : Map) (s : TypeState) (a : List Note) → map_at maps p ≡ some x → P s → meet_map s x ≡ some a → N a) where
    abbrev OnwardHas : Onward → Type 0
    OnwardHas finished = Unit {0}
    OnwardHas (onto p s) = P s

    abbrev FlowHas : Flow → Type 0
    FlowHas f = P f.types × N f.notes

    abbrev TurnHas : Turn → Type 0
    TurnHas t = N t.notes × OnwardHas t.next

    into-has : (p : ℕ) (s : TypeState) (f : Flow) → P s → flow_into version code maps result p s ≡ some f → FlowHas f
    unfolding flow_into
    into-has p s f h d = go (map_at maps p) refl d
      where
        go : (o : Option Map) → map_at maps p ≡ o → (elim o as (λ _. Option Flow) [
          | none ↦ some (record { types = s; notes = [] })
          | some x ↦ meet_map s x >>= λ ns. some (record { types = map_types x; notes = ns })
        ]) ≡ some f → FlowHas f
        go none e r = subst FlowHas (some-injective _ _ r) (h, empty)
        go (some x) e r = let b = bind-some _ _ r in subst FlowHas (some-injective _ _ b.2) (at_map p x e, to_map p x s b.0 e h b.1)

    target-has : (o : Option ℕ) (s : TypeState) (ts : List Note) → P s → flow_to_target version code maps result o s ≡ some ts → N ts
    unfolding flow_to_target
    target-has none s ts h d = subst N (some-injective _ _ d) empty
    target-has (some p) s ts h d = let a = bind-some _ _ d in to_map p a.0 s ts a.1 h a.2

    start_has : (p : ℕ) (o : Onward) → start_at version code maps result p ≡ some o → OnwardHas o
    unfolding start_at
    start_has p o d = go (eqb p (length code)) d
      where
        go : (b : Bool) → (elim b as (λ _. Option Onward) [ true ↦ some finished | false ↦ map_at maps p >>= λ m. some (onto p (map_types m)) ]) ≡ some o → OnwardHas o
        go true r = subst OnwardHas (some-injective _ _ r) tt
        go false r = let a = bind-some _ _ r in subst OnwardHas (some-injective _ _ a.2) (at_map p a.0 a.1)

    after-has : (i : Instruction) (p : ℕ) (f : Flow) (t : Turn) → FlowHas f → after version code maps result i p f ≡ some t → TurnHas t
    unfolding after
    after-has i p f t h d = let a = bind-some _ _ d in go a.0 (target-has (target i) f.types a.0 h.0 a.1) (goes_on i) a.2
      where
        go : (ts : List Note) → N ts → (b : Bool) → (elim b as (λ _. Option Turn) [
          | true ↦ flow_into version code maps result p f.types >>= λ g. some (record { notes = f.notes ++ (ts ++ g.notes); next = onto p g.types })
          | false ↦ start_at version code maps result p >>= λ o. some (record { notes = f.notes ++ ts; next = o })
        ]) ≡ some t → TurnHas t
        go ts n true r =
            let a = bind-some _ _ r in
            let g = into-has p f.types a.0 h.0 a.1 in
            subst TurnHas (some-injective _ _ a.2) (join f.notes (ts ++ a.0.notes) h.1 (join ts a.0.notes n g.1), g.0)
        go ts n false r = let a = bind-some _ _ r in subst TurnHas (some-injective _ _ a.2) (join f.notes ts h.1 n, start_has p a.0 a.1)

    turn-has : (p : ℕ) (s : TypeState) (t : Turn) → P s → Turns version code maps result p s t → TurnHas t
    turn-has p s t h d = let a = turn-cases version code maps result p s t d in elim a.2 [
      | inl r ↦ (last r.kind s t.notes h r.does, start_has (p + a.0.size) t.next r.then)
      | inr e ↦ after-has a.0.instruction (p + a.0.size) e.f t (on p a.0 s e.f a.1 h e.does) e.then
    ]

    verify-has : (k p : ℕ) (left : List Map) (s : TypeState) (ns : List Note) → P s → Notes version code maps result k p left s ≡ some ns → N ns
    verify-has zero p left s ns h v = absurd (none-ne-some ns (unfold verify in v))
    verify-has (suc k) p left s ns h v = let w = went k p left s ns v in go w (turn-has p s w.t h w.does) w.way (λ r more u rest. verify-has k r more u rest)
      where
        go : (w : Went k p left s ns) → TurnHas w.t → Stops w.more w.t ns ⊎ Continues k w.more w.t ns
            → ((r : ℕ) (more : List Map) (u : TypeState) (rest : List Note) → P u → Notes version code maps result k r more u ≡ some rest → N rest) → N ns
        go w x (inl c) ih = subst N c.all x.0
        go w x (inr c) ih = subst N c.all (join w.t.notes c.rest x.0 (ih c.r w.more c.u c.rest (subst OnwardHas c.onward x.1) c.then))

  standing : (s : TypeState) (f : Flow) → flow_into version code maps result 0 s ≡ some f → Standing 0 maps f.types
  standing s f h = record { left_there = λ q l. refl; mapped = λ m e. into-mapped version code maps result 0 s f h m e }

-- What is verified of a method

pub record Verified (k : Class) (m : Method) (ns : List Note) : Type 0 where
  pub f : Flow
  pub rest : List Note
  pub enters : flow_into k.version m.code m.maps m.signature.result 0 (entry_types k m) ≡ some f
  pub walks : verify k.version m.code m.maps m.signature.result (length m.code) 0 m.maps f.types ≡ some rest
  pub all : f.notes ++ rest ≡ ns
  pub types : (q : ℕ) → types_in k m q ≡ types_at k.version m.code m.maps m.signature.result (length m.code) 0 m.maps f.types q

pub verified : (k : Class) (m : Method) (ns : List Note) → notes_of_method k m ≡ some ns → Verified k m ns
unfolding notes_of_method types_in ◌>>=◌
verified k m ns v =
    let a = bind-some _ _ v in
    let b = bind-some _ _ a.2 in
    go a.0 a.1 b.0 b.1 (some-injective _ _ b.2)
  where
    go : (f : Flow) → flow_into k.version m.code m.maps m.signature.result 0 (entry_types k m) ≡ some f
        → (rest : List Note) → verify k.version m.code m.maps m.signature.result (length m.code) 0 m.maps f.types ≡ some rest → f.notes ++ rest ≡ ns → Verified k m ns
    go f e rest w z = record { f = f; rest = rest; enters = e; walks = w; all = z; types = λ q. rw e refl }

module _ (k : Class) (m : Method) (ns : List Note) (v : notes_of_method k m ≡ some ns) where
  pub entry : Into k.version m.code m.maps m.signature.result (types_in k m) ns 0 (entry_types k m)
  entry =
      let w = verified k m ns v in
      record {
        flows = w.f;
        does = w.enters;
        posted = λ n x. rw w.all at (Memᴰ.append_left w.rest x);
        has = w.types 0 ∙ types-first k.version m.code m.maps m.signature.result (length m.code) 0 m.maps w.f.types w.rest w.walks;
      }

  -- at a mapped point the types are the map's
  pub mapped-types : (p : ℕ) (x : Map) → map_at m.maps p ≡ some x → types_in k m p ≡ some (map_types x)
  mapped-types p x e =
      let w = verified k m ns v in
      let st = standing k.version m.code m.maps m.signature.result (entry_types k m) w.f w.enters in
      w.types p ∙ visited k.version m.code m.maps m.signature.result (length m.code) 0 m.maps w.f.types w.rest w.walks st p x e

  pub turned : (q : ℕ) (τ : TypeState) → types_in k m q ≡ some τ → Turned k.version m.code m.maps m.signature.result (types_in k m) ns q τ
  turned q τ h =
      let w = verified k m ns v in
      let t = turns k.version m.code m.maps m.signature.result (length m.code) 0 m.maps w.f.types w.rest q τ w.walks (sym (w.types q) ∙ h) in
      record { t = t.t; does = t.does; posted = λ n x. rw w.all at (Memᴰ.append_right w.f.notes (t.posted n x)); next = λ r u e. w.types r ∙ t.next r u e }

  pub known : (q : ℕ) (τ : TypeState) → types_in k m q ≡ some τ → Known k.version m.code m.maps m.signature.result (types_in k m) ns q τ
  known q τ h = known_of k.version m.code m.maps m.signature.result (types_in k m) ns mapped-types q τ (turned q τ h)

  -- types that have P throughout make notes that have N
  pub notes-have : (P : TypeState → Type 0) (N : List Note → Type 0) → N [] → ((a b : List Note) → N a → N b → N (a ++ b))
      → ((p : ℕ) (i : Decoded) (s : TypeState) (f : Flow) → decode k.version m.code p ≡ some i → P s → effect i.instruction s ≡ some f → P f.types × N f.notes)
      → ((kind : Kind) (s : TypeState) (a : List Note) → P s → returns kind m.signature.result s ≡ some a → N a)
      → ((p : ℕ) (x : Map) → map_at m.maps p ≡ some x → P (map_types x))
      → ((p : ℕ) (x : Map) (s : TypeState) (a : List Note) → map_at m.maps p ≡ some x → P s → meet_map s x ≡ some a → N a)
      → P (entry_types k m) → N ns
  notes-have P N empty join on last at_map to_map h =
      let w = verified k m ns v in
      let e = into-has k.version m.code m.maps m.signature.result P N empty join on last at_map to_map 0 (entry_types k m) w.f h w.enters in
      subst N w.all (join w.f.notes w.rest e.1
      (verify-has k.version m.code m.maps m.signature.result P N empty join on last at_map to_map (length m.code) 0 m.maps w.f.types w.rest e.0 w.walks))

-- of its class a method's notes depend on the version and the name alone
pub notes-by-name : (j k : Class) (m : Method) → j.version ≡ k.version → j.name ≡ k.name → notes_of_method j m ≡ notes_of_method k m
unfolding notes_of_method
notes-by-name j k m v e = rw (v, e) refl
