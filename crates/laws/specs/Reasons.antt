-- The verifier rejects a method whose targets and followers have maps, and whose maps rise, only for the reasons of `Rejected`: the walk, step by step.
use Rattle.std.proofs.Math.Path.{◌≡◌, refl}
use Rattle.std.proofs.Common.{sym, ◌∙◌, ap, subst}
use Rattle.std.specs.Prelude.{Bool, ◌⊎◌, leb}
use Rattle.std.proofs.Math.Bool.{true, false, false≢true}
use Rattle.std.proofs.Math.Option.{Option, none, some, none-ne-some, some-injective}
use mathlib.Core.List.Memᴰ
use mathlib.Core.List.{List, [], ◌∷◌, ◌++◌, Memᴰ}
use Rattle.std.proofs.Math.Logic.{inl, inr}
use Prim.Native.Nat.{ℕ, zero, suc, ◌+◌, ◌≤◌, ◌<◌}
use native.Mathlib.Omega.{arith}
use Rattle.std.proofs.Math.ListN.{length}
use Rattle.std.proofs.Math.Dec.{eqb, ltb}
use borrow.Author.Tests.{eqb-true, eqb-false, eq-eqb, ltb-true, ltb-false}
use Rattle.definition.specs.Numbers.{version_two}
use Rattle.definition.specs.Lists.{any}
use Rattle.definition.specs.Classes.{Class, Map, Method}
use Rattle.definition.specs.File.{File, read_file, class_of}
use Rattle.definition.specs.Instructions.{Decoded, decode}
use Rattle.definition.specs.Maybe.{◌>>=◌, need}
use Rattle.definition.specs.Verifier.{Flow, Note, Onward, Turn, TypeState, after, entry_types, finished, flow_into, goes_on, map_at, map_types, maps_past, notes_of, notes_of_method, onto, start_at, turn, types_in, unmapped, verify}
use Rattle.laws.specs.Options.{bind-some, bind-at, need-true}
use Rattle.laws.specs.Tests.{any_false}
use Rattle.laws.specs.Sized.{within, sized}
use Rattle.laws.specs.Walk.{Effected, Returned, Turns, Types, turn-cases, types-here}
use Rattle.laws.specs.Points.{points, point-between, point-reads, past-none}
use Rattle.laws.specs.InOrder.{Goes, turn-does, types-past}
use Rattle.laws.specs.Mapped.{AllMapped, mapped-all}
use Rattle.laws.specs.Rejected.{Comes, Rejected, bind-none, mapped-none, comes-point, flow-fails, turn-rejected, first, behind, entry_misfits, unread, stray}
use Rattle.laws.specs.Rising.{Rises, read-rises, rises-at, rises-less}

module _ (k : Class) (m : Method) where
  -- The maps left at point p: a map before it is at no instruction's start

  record Left (p : ℕ) (left : List Map) : Type 0 where
    from : (x : Map) → Memᴰ x left → Memᴰ x m.maps
    rising : Rises 0 left
    before : (x : Map) → Memᴰ x left → x.offset < p → Memᴰ x.offset (points k m) → ⊥

  past-fails : (p : ℕ) (left : List Map) → maps_past k.version m.code m.maps m.signature.result p left ≡ none → (x : Map) × Memᴰ x left × (x.offset < p)
  unfolding maps_past need
  past-fails p [] h = absurd (none-ne-some [] (sym h))
  past-fails p (x ∷ xs) h = go (eqb x.offset p) refl h
    where
      go : (b : Bool) → eqb x.offset p ≡ b → ◌≡◌ {A = Option (List Map)} (elim b as (λ _. Option (List Map)) [ true ↦ some xs | false ↦ need (ltb p x.offset) >>= λ _. some (x ∷ xs) ]) none
          → (y : Map) × Memᴰ y (x ∷ xs) × (y.offset < p)
      go true e r = absurd (none-ne-some xs (sym r))
      go false e r = (x, Memᴰ.head refl, less (ltb p x.offset) refl (mapped-none _ (λ _. x ∷ xs) r))
        where
          less : (b : Bool) → ltb p x.offset ≡ b → need b ≡ none → x.offset < p
          less true f n = absurd (none-ne-some tt (sym n))
          less false f n = omega (arith, ltb-false p x.offset f, eqb-false x.offset p e)

  -- those that are left behind p lie behind it
  past-left : (p : ℕ) (left more : List Map) → maps_past k.version m.code m.maps m.signature.result p left ≡ some more → Rises 0 left
      → Rises 0 more × ((x : Map) → Memᴰ x more → Memᴰ x left × (p < x.offset))
  unfolding maps_past
  past-left p [] more h r = let z : [] ≡ more = some-injective _ _ h in rw (← z) (tt, (λ x t. absurd (Memᴰ.not-nil t)))
  past-left p (y ∷ ys) more h r = go (eqb y.offset p) refl h
    where
      Behind : List Map → Type 0
      Behind xs = Rises 0 xs × ((x : Map) → Memᴰ x xs → Memᴰ x (y ∷ ys) × (p < x.offset))

      each : p < y.offset → (x : Map) → Memᴰ x (y ∷ ys) → p < x.offset
      each l x t = omega (arith, rises-at y.offset (y ∷ ys) (omega arith, r.1) x t)

      go : (b : Bool) → eqb y.offset p ≡ b → (elim b as (λ _. Option (List Map)) [ true ↦ some ys | false ↦ need (ltb p y.offset) >>= λ _. some (y ∷ ys) ]) ≡ some more → Behind more
      go true e h = subst Behind (some-injective _ _ h)
          (rises-less 0 (suc y.offset) ys (omega arith) r.1, λ x t. (Memᴰ.tail t, omega (arith, rises-at (suc y.offset) ys r.1 x t, eqb-true y.offset p e)))
      go false e h = let a = bind-some _ _ h in subst Behind (some-injective _ _ a.2) (r, λ x t. (t, each (ltb-true p y.offset (need-true _ a.1)) x t))

  -- behind p's instruction
  left-on : (p : ℕ) (left more : List Map) (i : Decoded) → Memᴰ p (points k m) → decode k.version m.code p ≡ some i
      → maps_past k.version m.code m.maps m.signature.result p left ≡ some more → Left p left → Left (p + i.size) more
  left-on p left more i x d h l =
      let a = past-left p left more h l.rising in
      record {
        from = λ y t. l.from y (a.1 y t).0;
        rising = a.0;
        before = λ y t n z. omega (arith, (a.1 y t).1, point-between k.version m.code (length m.code) 0 p y.offset x z i d (a.1 y t).1);
      }

  -- where the walk goes on behind a goto or return, it isn't at the end of the code
  start-on : (p : ℕ) (o : Onward) (r : ℕ) (u : TypeState) → start_at k.version m.code m.maps m.signature.result p ≡ some o → o ≡ onto r u → p ≡ length m.code → ⊥
  unfolding start_at
  start-on p o r u h e z = go (eqb p (length m.code)) (eq-eqb p (length m.code) z) h
    where
      go : (b : Bool) → b ≡ true → (elim b as (λ _. Option Onward) [ true ↦ some finished | false ↦ map_at m.maps p >>= λ x. some (onto p (map_types x)) ]) ≡ some o → ⊥
      go true y h = let n : finished ≡ onto r u = some-injective _ _ h ∙ e in let w : ◌≡◌ {A = ℕ} 0 1 = cc in omega arith
      go false y h = false≢true y

  turn_on : (p : ℕ) (s : TypeState) (t : Turn) (i : Decoded) (r : ℕ) (u : TypeState) → Returned k.version m.code m.maps m.signature.result p s t i ⊎ Effected k.version m.code m.maps m.signature.result p s t i
      → t.next ≡ onto r u → goes_on i.instruction ≡ false → p + i.size ≡ length m.code → ⊥
  unfolding after
  turn_on p s t i r u (inl d) e g = start-on (p + i.size) t.next r u d.then e
  turn_on p s t i r u (inr d) e g = let a = bind-some _ _ d.then in go a.0 (goes_on i.instruction) g a.2
    where
      go : (ts : List Note) (b : Bool) → b ≡ false → (elim b as (λ _. Option Turn) [
        | true ↦ flow_into k.version m.code m.maps m.signature.result (p + i.size) d.f.types >>= λ g. some (record { notes = d.f.notes ++ (ts ++ g.notes); next = onto (p + i.size) g.types })
        | false ↦ start_at k.version m.code m.maps m.signature.result (p + i.size) >>= λ o. some (record { notes = d.f.notes ++ ts; next = o })
      ]) ≡ some t → p + i.size ≡ length m.code → ⊥
      go ts true y h = absurd (false≢true (sym y))
      go ts false y h = let a = bind-some _ _ h in start-on (p + i.size) a.0 r u a.1 (ap (λ (x : Turn). x.next) (some-injective _ _ a.2) ∙ e)

  -- a map that is left at the end
  last-stray : (p : ℕ) (left more : List Map) (i : Decoded) → Memᴰ p (points k m) → decode k.version m.code p ≡ some i → p + i.size ≡ length m.code
      → maps_past k.version m.code m.maps m.signature.result p left ≡ some more → Left p left → need (leb (length more) 0) ≡ none → Rejected k m
  unfolding need
  last-stray p left more i x d z h v n = go more (past-left p left more h v.rising).1 n
    where
      go : (ys : List Map) → ((y : Map) → Memᴰ y ys → Memᴰ y left × (p < y.offset)) → need (leb (length ys) 0) ≡ none → Rejected k m
      go [] f n = absurd (none-ne-some tt (sym n))
      go (y ∷ ys) f n =
          let a = f y (Memᴰ.head refl) in
          stray y (v.from y a.0) (λ w.
          let r = point-reads k.version m.code (length m.code) 0 y.offset w in
          omega (arith, within k.version m.code y.offset r.0 r.1, point-between k.version m.code (length m.code) 0 p y.offset x w i d a.1))

  module _ (all : AllMapped k m) where
    walk-rejected : (n p : ℕ) (left : List Map) (s : TypeState) → verify k.version m.code m.maps m.signature.result n p left s ≡ none → length m.code ≤ p + n → Comes k m p → Left p left
        → ((q : ℕ) → p ≤ q → types_in k m q ≡ Types k.version m.code m.maps m.signature.result n p left s q) → Rejected k m
    unfolding verify
    walk-rejected zero p left s h l c v e = unread p c (past-none k.version m.code p (omega arith))
    walk-rejected (suc n) p left s h l c v e = elim (bind-none _ _ h) [
      | inl a ↦ let x = past-fails p left a in stray x.0 (v.from x.0 x.1) (v.before x.0 x.1 x.2)
      | inr (more, a, b) ↦ read more a b (decode k.version m.code p) refl (λ r u. walk-rejected n r more u)
    ]
      where
        Later : List Map → Type 0
        Later more = (r : ℕ) (u : TypeState) → verify k.version m.code m.maps m.signature.result n r more u ≡ none → length m.code ≤ r + n → Comes k m r → Left r more
            → ((q : ℕ) → r ≤ q → types_in k m q ≡ Types k.version m.code m.maps m.signature.result n r more u q) → Rejected k m

        onward : (more : List Map) (t : Turn) → Option (List Note)
        onward more t = elim t.next as (λ _. Option (List Note)) [
          | finished ↦ need (leb (length more) 0) >>= λ _. some t.notes
          | onto q u ↦ verify k.version m.code m.maps m.signature.result n q more u >>= λ ns. some (t.notes ++ ns)
        ]

        went : (more : List Map) → maps_past k.version m.code m.maps m.signature.result p left ≡ some more → (i : Decoded) → decode k.version m.code p ≡ some i → Memᴰ p (points k m)
            → (t : Turn) → Turns k.version m.code m.maps m.signature.result p s t → Returned k.version m.code m.maps m.signature.result p s t i ⊎ Effected k.version m.code m.maps m.signature.result p s t i
            → Goes k.version m.code m.maps m.signature.result t.next (p + i.size) → onward more t ≡ none → Later more → Rejected k m
        went more a i d x t y w g z ih = each t.next refl z
          where
            each : (o : Onward) → t.next ≡ o → ◌≡◌ {A = Option (List Note)} (elim o as (λ _. Option (List Note)) [
              | finished ↦ need (leb (length more) 0) >>= λ _. some t.notes
              | onto q u ↦ verify k.version m.code m.maps m.signature.result n q more u >>= λ ns. some (t.notes ++ ns)
            ]) none → Rejected k m
            each finished f z = last-stray p left more i x d (subst (λ (o : Onward). Goes k.version m.code m.maps m.signature.result o (p + i.size)) f g) a v (mapped-none _ (λ _. t.notes) z)
            each (onto r u) f z =
                let same : r ≡ p + i.size = subst (λ (o : Onward). Goes k.version m.code m.maps m.signature.result o (p + i.size)) f g in
                let far = sized k.version m.code p i d in
                ih r u (mapped-none _ (λ ns. t.notes ++ ns) z) (omega arith)
                (subst (Comes k m) (sym same) (behind p i x d (turn_on p s t i r u w f)))
                (subst (λ (y : ℕ). Left y more) (sym same) (left-on p left more i x d a v))
                (λ q b. e q (omega arith) ∙ types-past k.version m.code m.maps m.signature.result n p left more s t r u a y f q (omega arith))

        read : (more : List Map) → maps_past k.version m.code m.maps m.signature.result p left ≡ some more → (turn k.version m.code m.maps m.signature.result p s >>= onward more) ≡ none
            → (o : Option Decoded) → decode k.version m.code p ≡ o → Later more → Rejected k m
        read more a b none d ih = unread p c d
        read more a b (some i) d ih =
            let x = comes-point k m p c i d in
            let has : types_in k m p ≡ some s = e p (omega arith) ∙ types-here k.version m.code m.maps m.signature.result n p left more s a in
            elim (bind-none _ _ b) [
              | inl z ↦ turn-rejected k m all p x i d s has z
              | inr (t, y, z) ↦
                  let w = turn-cases k.version m.code m.maps m.signature.result p s t y in
                  let way = subst (λ (j : Decoded). Returned k.version m.code m.maps m.signature.result p s t j ⊎ Effected k.version m.code m.maps m.signature.result p s t j)
                  (some-injective _ _ (sym w.1 ∙ d)) w.2 in
                  went more a i d x t y way (turn-does k.version m.code m.maps m.signature.result i p s t way).1 z ih
            ]

-- whatever the verifier rejects has such a reason
pub rejected-for : (k : Class) (m : Method) → AllMapped k m → Rises 0 m.maps → notes_of_method k m ≡ none → Rejected k m
unfolding notes_of_method types_in
rejected-for k m all rises h = elim (bind-none _ _ h) [
  | inl a ↦ let x = flow-fails k m 0 (entry_types k m) a in entry_misfits x.0 x.1 x.2
  | inr (f, a, b) ↦ walk-rejected k m all (length m.code) 0 m.maps f.types (mapped-none _ (λ ns. f.notes ++ ns) b) (omega arith) first
      (record { from = λ x t. t; rising = rises; before = λ x t l. absurd (omega arith) }) (λ q _. types f a q)
]
  where
    types : (f : Flow) → flow_into k.version m.code m.maps m.signature.result 0 (entry_types k m) ≡ some f
        → (q : ℕ) → types_in k m q ≡ Types k.version m.code m.maps m.signature.result (length m.code) 0 m.maps f.types q
    types f a q = bind-at _ _ f a

-- of a file of version 2 or later that word 15 lets pass: the verifier rejects a method only for such a reason
pub why-rejected : (l : ℕ) (bs : List ℕ) (f : File) → read_file bs ≡ some f → leb version_two f.version ≡ true → (m : Method) → Memᴰ m f.methods
    → unmapped (class_of l f) m ≡ false → notes_of_method (class_of l f) m ≡ none → Rejected (class_of l f) m
why-rejected l bs f e two m x u h = rejected-for (class_of l f) m (mapped-all (class_of l f) m two u) (read-rises bs f e m x) h

some-unverified : (k : Class) (ms : List Method) → notes_of k ms ≡ none → (m : Method) × Memᴰ m ms × (notes_of_method k m ≡ none)
unfolding notes_of
some-unverified k [] h = absurd (none-ne-some [] (sym h))
some-unverified k (m ∷ ms) h = elim (bind-none _ _ h) [
  | inl e ↦ (m, Memᴰ.head refl, e)
  | inr (ns, e, z) ↦ let r = some-unverified k ms (mapped-none _ (λ rs. ns ++ rs) z) in (r.0, Memᴰ.tail r.1, r.2)
]

-- so a file of version 2 or later that gets word 6, and not 15, has a method with such a reason
pub why-unverified : (l : ℕ) (bs : List ℕ) (f : File) → read_file bs ≡ some f → leb version_two f.version ≡ true → any (unmapped (class_of l f)) f.methods ≡ false
    → notes_of (class_of l f) f.methods ≡ none → (m : Method) × Memᴰ m f.methods × Rejected (class_of l f) m
why-unverified l bs f e two u h =
    let r = some-unverified (class_of l f) f.methods h in
    (r.0, r.1, why-rejected l bs f e two r.0 r.1 (any_false (unmapped (class_of l f)) f.methods u r.0 r.1) r.2)
