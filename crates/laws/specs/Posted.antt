-- Notes are posted in turn: those of a later method or point after those before them, each unless it is there. Each is there afterwards.
use Rattle.std.specs.Prelude.{◌≡◌, Bool, false, ℕ}
use Rattle.std.proofs.Math.Path.{refl}
use Rattle.std.proofs.Common.{sym, ◌∙◌, ap}
use Rattle.std.proofs.Math.Bool.{true}
use mathlib.Core.List.{List, [], ◌∷◌, ◌++◌, append_assoc, append-nil, Memᴰ}
use borrow.Author.Tests.{eq-eqb}
use Rattle.definition.specs.Lists.{any}
use Rattle.definition.specs.Constraints.{Subtype}
use Rattle.definition.specs.Verifier.{Note}
use Rattle.definition.specs.Loading.{subtype_is, subtype_of, new_subtypes}
use Rattle.laws.specs.Tests.{any_append, any-right}

pub posted-in-turn : (ss : List Subtype) (l : ℕ) (ns rs : List Note) → new_subtypes ss l (ns ++ rs) ≡ new_subtypes ss l ns ++ new_subtypes (ss ++ new_subtypes ss l ns) l rs
unfolding new_subtypes
posted-in-turn ss l [] rs = ap (λ (z : List Subtype). new_subtypes z l rs) (sym (append-nil ss))
posted-in-turn ss l (n ∷ ns) rs = go (any (subtype_is l n) ss) (λ z. posted-in-turn z l ns rs)
  where
    New : Bool → List Note → List Subtype
    New t xs = elim t as (λ _. List Subtype) [ true ↦ new_subtypes ss l xs | false ↦ subtype_of l n ∷ new_subtypes (ss ++ (subtype_of l n ∷ [])) l xs ]

    go : (t : Bool) → ((z : List Subtype) → new_subtypes z l (ns ++ rs) ≡ new_subtypes z l ns ++ new_subtypes (z ++ new_subtypes z l ns) l rs) → New t (ns ++ rs) ≡ New t ns ++ new_subtypes (ss ++ New t ns) l rs
    go true ih = ih ss
    go false ih =
        let s = subtype_of l n in
        ap (λ (z : List Subtype). s ∷ z) (ih (ss ++ (s ∷ [])))
        ∙ ap (λ (z : List Subtype). s ∷ (new_subtypes (ss ++ (s ∷ [])) l ns ++ new_subtypes z l rs)) (append_assoc ss (s ∷ []) (new_subtypes (ss ++ (s ∷ [])) l ns))

-- one note: nothing where it is there, else it alone
pub posted-one : (ss : List Subtype) (l : ℕ) (n : Note) → new_subtypes ss l (n ∷ []) ≡ (elim (any (subtype_is l n) ss) as (λ _. List Subtype) [ true ↦ [] | false ↦ subtype_of l n ∷ [] ])
unfolding new_subtypes
posted-one ss l n = go (any (subtype_is l n) ss)
  where
    go : (t : Bool) → ◌≡◌ {A = List Subtype} (elim t as (λ _. List Subtype) [ true ↦ new_subtypes ss l [] | false ↦ subtype_of l n ∷ new_subtypes (ss ++ (subtype_of l n ∷ [])) l [] ])
        (elim t as (λ _. List Subtype) [ true ↦ [] | false ↦ subtype_of l n ∷ [] ])
    go true = refl
    go false = refl

there-more : (l : ℕ) (n : Note) (ss rs : List Subtype) → any (subtype_is l n) ss ≡ true → any (subtype_is l n) (ss ++ rs) ≡ true
there-more l n ss rs h = any_append (subtype_is l n) ss rs ∙ (rw h refl)

itself : (l : ℕ) (n : Note) (ss rs : List Subtype) → any (subtype_is l n) (ss ++ (subtype_of l n ∷ rs)) ≡ true
itself l n ss rs = any-right (subtype_is l n) ss (subtype_of l n ∷ rs) (unfold any in rw (same, any) refl)
  where
    same : subtype_is l n (subtype_of l n) ≡ true
    same = unfold subtype_is in rw (eq-eqb l l refl, eq-eqb n.low n.low refl, eq-eqb n.high n.high refl) refl

-- each note is there afterwards
pub posted-there : (ss : List Subtype) (l : ℕ) (ns : List Note) (n : Note) → Memᴰ n ns → any (subtype_is l n) (ss ++ new_subtypes ss l ns) ≡ true
unfolding new_subtypes
posted-there ss l [] n never = elim never [ ]
posted-there ss l (x ∷ ns) n m = go (any (subtype_is l x) ss) refl m (λ z t. posted-there z l ns n t)
  where
    New : Bool → List Subtype
    New t = elim t as (λ _. List Subtype) [ true ↦ new_subtypes ss l ns | false ↦ subtype_of l x ∷ new_subtypes (ss ++ (subtype_of l x ∷ [])) l ns ]

    go : (t : Bool) → any (subtype_is l x) ss ≡ t → Memᴰ n (x ∷ ns) → ((z : List Subtype) → Memᴰ n ns → any (subtype_is l n) (z ++ new_subtypes z l ns) ≡ true) → any (subtype_is l n) (ss ++ New t) ≡ true
    go true e (Memᴰ.head q) ih = rw q (there-more l x ss (new_subtypes ss l ns) e)
    go true e (Memᴰ.tail k) ih = ih ss k
    go false e (Memᴰ.head q) ih = rw q (itself l x ss (new_subtypes (ss ++ (subtype_of l x ∷ [])) l ns))
    go false e (Memᴰ.tail k) ih = rw append_assoc at (ih (ss ++ (subtype_of l x ∷ [])) k)
