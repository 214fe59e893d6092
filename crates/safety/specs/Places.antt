-- Lemmas on places: what meets a name conforms to it, what ties carry, where fields are, what posting ties keeps.
use Rattle.std.specs.Prelude.{◌≡◌, refl, Bool, true, false, ◌&&◌, ◌||◌, ◌≢◌, ℕ, eqb}
use Rattle.std.proofs.Common.{sym, ap, ◌∙◌, inl, inr, eqb-true, ne_eqb}
use Rattle.std.proofs.Math.Option.{Option, some, none-ne-some, some-injective}
use mathlib.Core.List.Memᴰ
use mathlib.Core.List.{List, [], ◌∷◌, ◌++◌, append-nil, Memᴰ, append_assoc}
use Rattle.std.proofs.lemmas.Bool.{eqb-false}
use Rattle.definition.specs.Constraints.{Agrees, Tie, World, agrees_after, edges, new_tie, new_ties, posted, subtype_edges, tie_edges, tie_is}
use Rattle.definition.specs.Lists.{Each, any}
use Rattle.definition.specs.Machine.{Value, int_value, null_value, object_value, empty_value, unlisted_value, Objects}
use Rattle.definition.specs.Chains.{Chain, Edge, hop, stay}
use Rattle.definition.specs.Requests.{Request, at}
use Rattle.definition.specs.Verifier.{Note, VerifierType, meet_all, meet_class, meet_int, meets, type_class, type_int, type_null, type_of_name}
use Rattle.laws.specs.Agreement.{agrees-true}
use Rattle.laws.specs.Chains.{chain_more}
use Rattle.laws.specs.Options.{bind-some}
use Rattle.laws.specs.Growth.{tie-edges-more}
use Rattle.laws.specs.Tests.{and-true, any-true, or-true}
use Rattle.safety.specs.Conform.{Fits, Tied, fits_on, fits-tied, tie-turned}
use Rattle.safety.specs.Valid.{Conforms, Noted}

note-edge : (w : World) (e : Edge Request) → Memᴰ e (subtype_edges w.subtypes) → Memᴰ e (edges w)
unfolding edges
note-edge w e m = Memᴰ.append_right (tie_edges w.ties) m

pub meet-class : (w : World) (os : Objects) (l b : ℕ) (t : VerifierType) (v : Value) (ns : List Note) → meet_class b t ≡ some ns → Noted w l ns → Conforms w os l t v → Conforms w os l (type_class b) v
unfolding meet_class
meet-class w os l b type_int v ns e p h = absurd (none-ne-some ns e)
meet-class w os l b type_null empty_value ns e p h = h
meet-class w os l b type_null (unlisted_value α β) ns e p h = h
meet-class w os l b type_null (int_value n) ns e p h = h
meet-class w os l b type_null null_value ns e p h = h
meet-class w os l b type_null (object_value n) ns e p h = absurd h
meet-class w os l b (type_class a) empty_value ns e p h = h
meet-class w os l b (type_class a) (unlisted_value α β) ns e p h = h
meet-class w os l b (type_class a) (int_value n) ns e p h = h
meet-class w os l b (type_class a) null_value ns e p h = h
meet-class w os l b (type_class a) (object_value o) ns e p h = record { object = h.object; there = h.there; fits = go (eqb a b) refl e }
  where
    go : (t : Bool) → eqb a b ≡ t → (elim t as (λ _. Option (List Note)) [ true ↦ some [] | false ↦ some (record { low = a; high = b } ∷ []) ]) ≡ some ns → Fits w h.object.class (at l b)
    go true q r = rw (eqb-true a b q) at h.fits
    go false q r = fits_on h.fits (hop (stay refl) (note-edge w _ (p (record { low = a; high = b }) (rw (sym (some-injective _ _ r)) (Memᴰ.head refl)))))

pub of-int : type_of_name 1 ≡ type_int
unfolding type_of_name
of-int = refl

pub of-class : (n : ℕ) → n ≢ 1 → type_of_name n ≡ type_class n
unfolding type_of_name
of-class n h = rw (ne_eqb n 1 h, type_of_name) refl

-- a value whose type meets a name
pub meet-name : (w : World) (os : Objects) (l b : ℕ) (t : VerifierType) (v : Value) (ns : List Note) → meets t b ≡ some ns → Noted w l ns → Conforms w os l t v → Conforms w os l (type_of_name b) v
unfolding meets type_of_name meet_int
meet-name w os l b t v ns e p h = go (eqb b 1) t e h
  where
    go : (z : Bool) (t : VerifierType) → (elim z as (λ _. Option (List Note)) [ true ↦ meet_int t | false ↦ meet_class b t ]) ≡ some ns → Conforms w os l t v → Conforms w os l (elim z as (λ _. VerifierType) [ true ↦ type_int | false ↦ type_class b ]) v
    go true type_int r h = h
    go true type_null r h = absurd (none-ne-some ns r)
    go true (type_class a) r h = absurd (none-ne-some ns r)
    go false t r h = meet-class w os l b t v ns r p h

-- values whose types meet the names of a list, each its own
pub meet-names : (w : World) (os : Objects) (l : ℕ) (ts : List VerifierType) (bs : List ℕ) (vs : List Value) (ns : List Note) → meet_all meets ts bs ≡ some ns → Noted w l ns → Each (Conforms w os l) ts vs
    → Each (λ b v. Conforms w os l (type_of_name b) v) bs vs
unfolding meet_all
meet-names w os l [] [] [] ns e p h = tt
meet-names w os l [] [] (v ∷ vs) ns e p h = absurd h
meet-names w os l [] (b ∷ bs) vs ns e p h = absurd (none-ne-some ns e)
meet-names w os l (t ∷ ts) [] vs ns e p h = absurd (none-ne-some ns e)
meet-names w os l (t ∷ ts) (b ∷ bs) [] ns e p h = absurd h
meet-names w os l (t ∷ ts) (b ∷ bs) (v ∷ vs) ns e p h =
    let x = bind-some _ _ e in
    let y = bind-some _ _ x.2 in
    let q : Noted w l (x.0 ++ y.0) = rw (some-injective _ _ y.2) p in
    (meet-name w os l b t v x.0 x.1 (λ a m. q a (Memᴰ.append_left y.0 m)) h.0, meet-names w os l ts bs vs y.0 y.1 (λ a m. q a (Memᴰ.append_right x.0 m)) h.1)

-- ties carry a value over
pub carry : (w : World) (os : Objects) (l m n : ℕ) (v : Value) → (n ≢ 1 → Tied w (at l n) (at m n)) → Conforms w os l (type_of_name n) v → Conforms w os m (type_of_name n) v
unfolding type_of_name
carry w os l m n v t h = go (eqb n 1) refl v h
  where
    go : (z : Bool) → eqb n 1 ≡ z → (v : Value) → Conforms w os l (elim z as (λ _. VerifierType) [ true ↦ type_int | false ↦ type_class n ]) v → Conforms w os m (elim z as (λ _. VerifierType) [ true ↦ type_int | false ↦ type_class n ]) v
    go true e empty_value h = h
    go true e (unlisted_value α β) h = h
    go true e (int_value x) h = h
    go true e null_value h = h
    go true e (object_value o) h = h
    go false e empty_value h = h
    go false e (unlisted_value α β) h = h
    go false e (int_value x) h = h
    go false e null_value h = h
    go false e (object_value o) h = record { object = h.object; there = h.there; fits = fits-tied h.fits (t (eqb-false n 1 e)) }

-- Ties

tie-edge : (ts : List Tie) (t : Tie) → Memᴰ t ts → Memᴰ (record { from = at t.one t.name; to = at t.two t.name }) (tie_edges ts)
unfolding tie_edges
tie-edge [] t never = elim never [ ]
tie-edge (u ∷ ts) t (Memᴰ.head e) = Memᴰ.head (ap (λ (z : Tie). record { from = at z.one z.name; to = at z.two z.name }) e)
tie-edge (u ∷ ts) t (Memᴰ.tail m) = Memᴰ.tail (Memᴰ.tail (tie-edge ts t m))

tie-chain : (ts : List Tie) (l m n : ℕ) (t : Tie) → Memᴰ t ts → tie_is l m n t ≡ true → Chain (tie_edges ts) (at l n) (at m n)
unfolding tie_is
tie-chain ts l m n t i h = go (and-true (eqb t.name n) _ h)
  where
    go : (eqb t.name n ≡ true) × (((eqb t.one l && eqb t.two m) || (eqb t.one m && eqb t.two l)) ≡ true) → Chain (tie_edges ts) (at l n) (at m n)
    go (a, b) = elim (or-true (eqb t.one l && eqb t.two m) (eqb t.one m && eqb t.two l) b) [
      | inl x ↦ let y = and-true (eqb t.one l) (eqb t.two m) x in rw (sym (eqb-true t.name n a), sym (eqb-true t.one l y.0), sym (eqb-true t.two m y.1)) (hop (stay refl) (tie-edge ts t i))
      | inr x ↦ let y = and-true (eqb t.one m) (eqb t.two l) x in rw (sym (eqb-true t.name n a), sym (eqb-true t.one m y.0), sym (eqb-true t.two l y.1)) (hop (stay refl) (tie-turned ts _ (tie-edge ts t i)))
    ]

pub tie_there : (ts : List Tie) (l m n : ℕ) → n ≢ 1 → Chain (tie_edges (ts ++ new_tie ts l m n)) (at l n) (at m n)
unfolding new_tie
tie_there ts l m n h = go (eqb l m || eqb n 1 || any (tie_is l m n) ts) refl
  where
    Ts : Bool → List Tie
    Ts t = ts ++ (elim t as (λ _. List Tie) [ true ↦ [] | false ↦ record { one = l; two = m; name = n } ∷ [] ])

    old : Chain (tie_edges ts) (at l n) (at m n) → Chain (tie_edges (ts ++ [])) (at l n) (at m n)
    old c = rw append-nil c

    go : (t : Bool) → (eqb l m || eqb n 1 || any (tie_is l m n) ts) ≡ t → Chain (tie_edges (Ts t)) (at l n) (at m n)
    go true e = elim (or-true (eqb l m || eqb n 1) (any (tie_is l m n) ts) e) [
      | inl x ↦ elim (or-true (eqb l m) (eqb n 1) x) [ inl y ↦ stay (ap (λ (z : ℕ). at z n) (eqb-true l m y)) | inr y ↦ absurd (h (eqb-true n 1 y)) ]
      | inr x ↦ let y = any-true (tie_is l m n) ts x in old (tie-chain ts l m n y.0 y.1 y.2)
    ]
    go false e = hop (stay refl) (tie-edge _ _ (Memᴰ.append_right ts (Memᴰ.head refl)))

-- of names in turn, each is tied
pub ties-there : (ts : List Tie) (l m : ℕ) (ns : List ℕ) (n : ℕ) → Memᴰ n ns → n ≢ 1 → Chain (tie_edges (ts ++ new_ties ts l m ns)) (at l n) (at m n)
unfolding new_ties
ties-there ts l m [] n never h = elim never [ ]
ties-there ts l m (x ∷ ns) n (Memᴰ.head q) h =
    let us = new_tie ts l m x in
    let vs = new_ties (ts ++ us) l m ns in
    rw (q, sym (append_assoc ts us vs), tie-edges-more (ts ++ us) vs) (chain_more (λ e i. Memᴰ.append_left (tie_edges vs) i) (tie_there ts l m x (λ e. h (q ∙ e))))
ties-there ts l m (x ∷ ns) n (Memᴰ.tail k) h = rw append_assoc at (ties-there (ts ++ new_tie ts l m x) l m ns n k h)

-- agreement after posting
pub agrees-after : (w : World) (us : List Tie) → Agrees w → agrees_after w us ≡ true → Agrees (posted w us)
unfolding agrees_after
agrees-after w [] g h = rw append-nil g
agrees-after w (u ∷ us) g h = agrees-true (posted w (u ∷ us)) h

-- Where fields are
