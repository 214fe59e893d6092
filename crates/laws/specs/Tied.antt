-- The ties of a call or an override. Types are tied in turn, each argument and then the result, unless the type is int, the loaders are one, or the tie is there or
-- was posted a moment ago by the same call: what is posted are exactly those, in the order of the types. Each type is tied afterwards, no tie is posted twice, and
-- 'full' counts what is posted.
use Rattle.std.specs.Prelude.{◌≡◌, refl, Bool, true, false, not, ◌&&◌, ◌||◌, ℕ, ◌+◌, ◌≤◌, ◌<◌, length, eqb, leb}
use Rattle.std.proofs.Common.{sym, ap, ◌∙◌, arith, length-append, eqb-true, eq-eqb, ne_eqb, le-leb}
use Rattle.std.proofs.lemmas.Bool.{false≢true, eqb-false, lt-leb}
use Rattle.std.proofs.Math.Option.{Option, none, some}
use mathlib.Core.List.{List, [], ◌∷◌, ◌++◌, map, append_assoc, append-nil, Memᴰ}
use Rattle.std.proofs.lemmas.List.{length-map}
use Rattle.definition.specs.declared.Signature.{Signature}
use Rattle.definition.specs.Numbers.{name_int, tie_limit, word_full, word_clash}
use Rattle.definition.specs.Lists.{any}
use Rattle.definition.specs.declared.Refusal.TheVariants.{Word}
use Rattle.definition.specs.Answers.{refused, ok, ◌>>=◌, need}
use Rattle.definition.specs.Classes.{Base, Method, Selected, argument_types, signature_types, loader_of, selected}
use Rattle.definition.specs.Constraints.{Tie, World, new_tie, new_ties, signature_ties, tie_is, agrees_after, posted, post}
use Rattle.definition.specs.Loading.{override_tie, override_ties}
use Rattle.laws.specs.Tests.{any_append}

-- those of a list that pass
unfoldable pub those : {A : Type 0} → (A → Bool) → List A → List A
those f [] = []
those f (x ∷ xs) = elim (f x) [ true ↦ x ∷ those f xs | false ↦ those f xs ]

-- each number at its first place
unfoldable pub firsts : List ℕ → List ℕ
firsts [] = []
firsts (n ∷ ns) = n ∷ those (λ x. not (eqb n x)) (firsts ns)

abbrev pub tie_on : ℕ → ℕ → ℕ → Tie
tie_on l m n = record { one = l; two = m; name = n }

-- a type that is to be tied between two loaders: they aren't one, it isn't int, and the tie isn't there
unfoldable pub untied : List Tie → ℕ → ℕ → ℕ → Bool
untied ts l m n = not (eqb l m || eqb n name_int || any (tie_is l m n) ts)

pub untied-is : (ts : List Tie) (l m n : ℕ) → untied ts l m n ≡ true → (l ≡ m → ⊥) × (n ≡ name_int → ⊥) × (any (tie_is l m n) ts ≡ false)
unfolding untied
untied-is ts l m n h = go (eqb l m) (eqb n name_int) (any (tie_is l m n) ts) refl refl refl h
  where
    go : (a b k : Bool) → eqb l m ≡ a → eqb n name_int ≡ b → any (tie_is l m n) ts ≡ k → not (a || b || k) ≡ true → (l ≡ m → ⊥) × (n ≡ name_int → ⊥) × (any (tie_is l m n) ts ≡ false)
    go true b k p q r h = absurd (false≢true h)
    go false true k p q r h = absurd (false≢true h)
    go false false true p q r h = absurd (false≢true h)
    go false false false p q r h = (eqb-false l m p, eqb-false n name_int q, r)

pub is-untied : (ts : List Tie) (l m n : ℕ) → (l ≡ m → ⊥) → (n ≡ name_int → ⊥) → any (tie_is l m n) ts ≡ false → untied ts l m n ≡ true
unfolding untied
is-untied ts l m n p q r = rw (ne_eqb l m p, ne_eqb n name_int q, r) refl

-- one type: it alone, or nothing

Posts : Bool → Tie → List Tie
Posts t u = elim t as (λ _. List Tie) [ true ↦ u ∷ [] | false ↦ [] ]

new-one : (ts : List Tie) (l m n : ℕ) → new_tie ts l m n ≡ Posts (untied ts l m n) (tie_on l m n)
unfolding new_tie untied Posts
new-one ts l m n = go (eqb l m || eqb n name_int || any (tie_is l m n) ts)
  where
    go : (z : Bool) → ◌≡◌ {A = List Tie} (elim z as (λ _. List Tie) [ true ↦ [] | false ↦ tie_on l m n ∷ [] ]) (elim (not z) as (λ _. List Tie) [ true ↦ tie_on l m n ∷ [] | false ↦ [] ])
    go true = refl
    go false = refl

pub ties-one : (ts : List Tie) (l m n : ℕ) → new_ties ts l m (n ∷ []) ≡ (elim (untied ts l m n) as (λ _. List Tie) [ true ↦ tie_on l m n ∷ [] | false ↦ [] ])
unfolding new_ties Posts
ties-one ts l m n = append-nil (new_tie ts l m n) ∙ new-one ts l m n

-- later types after those before them
pub ties-in-turn : (ts : List Tie) (l m : ℕ) (ns rs : List ℕ) → new_ties ts l m (ns ++ rs) ≡ new_ties ts l m ns ++ new_ties (ts ++ new_ties ts l m ns) l m rs
unfolding new_ties
ties-in-turn ts l m [] rs = ap (λ (z : List Tie). new_ties z l m rs) (sym (append-nil ts))
ties-in-turn ts l m (n ∷ ns) rs =
    let us = new_tie ts l m n in
    ap (λ (z : List Tie). us ++ z) (ties-in-turn (ts ++ us) l m ns rs)
    ∙ ap (λ (z : List Tie). us ++ (new_ties (ts ++ us) l m ns ++ new_ties z l m rs)) (append_assoc ts us (new_ties (ts ++ us) l m ns))
    ∙ sym (append_assoc us (new_ties (ts ++ us) l m ns) (new_ties (ts ++ (us ++ new_ties (ts ++ us) l m ns)) l m rs))

-- What is posted, as a list: of the types, each at its first place, those that are to be tied

those-both : {A : Type 0} (p q r : A → Bool) → ((x : A) → (q x && p x) ≡ r x) → (xs : List A) → those p (those q xs) ≡ those r xs
unfolding those
those-both p q r h [] = refl
those-both {A} p q r h (x ∷ xs) = go (q x) (p x) refl (those-both p q r h xs) ∙ ap (λ (z : Bool). Part z (those r xs)) (h x)
  where
    Part : Bool → List A → List A
    Part z ys = elim z as (λ _. List A) [ true ↦ x ∷ ys | false ↦ ys ]

    go : (t u : Bool) → p x ≡ u → those p (those q xs) ≡ those r xs → those p (Part t (those q xs)) ≡ Part (t && u) (those r xs)
    go true true e ih = rw (e, those) (ap (λ (z : List A). x ∷ z) ih)
    go true false e ih = rw (e, those) ih
    go false u e ih = ih

neither : (p k z : Bool) → (not z && not (p || k)) ≡ not (p || (k || z))
neither true k true = refl
neither true k false = refl
neither false true true = refl
neither false true false = refl
neither false false true = refl
neither false false false = refl

tie-is : (l m n x : ℕ) → tie_is l m x (tie_on l m n) ≡ eqb n x
unfolding tie_is
tie-is l m n x = go (eqb n x) ((eqb l l && eqb m m) || (eqb l m && eqb m l)) (rw (eq-eqb l l refl, eq-eqb m m refl) refl)
  where
    go : (z w : Bool) → w ≡ true → (z && w) ≡ z
    go true w e = e
    go false w e = refl

any-alone : {A : Type 0} (f : A → Bool) (x : A) → any f (x ∷ []) ≡ f x
unfolding any
any-alone f x = go (f x)
  where
    go : (z : Bool) → (elim z as (λ _. Bool) [ true ↦ true | false ↦ false ]) ≡ z
    go true = refl
    go false = refl

any_last : (ts : List Tie) (l m n x : ℕ) → any (tie_is l m x) (ts ++ (tie_on l m n ∷ [])) ≡ (any (tie_is l m x) ts || eqb n x)
any_last ts l m n x = any_append (tie_is l m x) ts (tie_on l m n ∷ []) ∙ ap (λ (z : Bool). any (tie_is l m x) ts || z) (any-alone (tie_is l m x) (tie_on l m n) ∙ tie-is l m n x)

untied-after : (ts : List Tie) (l m n x : ℕ) → (not (eqb n x) && untied ts l m x) ≡ untied (ts ++ (tie_on l m n ∷ [])) l m x
unfolding untied
untied-after ts l m n x =
    neither (eqb l m || eqb x name_int) (any (tie_is l m x) ts) (eqb n x)
    ∙ ap (λ (z : Bool). not (eqb l m || eqb x name_int || z)) (sym (any_last ts l m n x))

untied-other : (ts : List Tie) (l m n x : ℕ) → untied ts l m n ≡ false → (not (eqb n x) && untied ts l m x) ≡ untied ts l m x
untied-other ts l m n x h = go (eqb n x) refl
  where
    go : (z : Bool) → eqb n x ≡ z → (not z && untied ts l m x) ≡ untied ts l m x
    go true e = sym (ap (untied ts l m) (sym (eqb-true n x e)) ∙ h)
    go false e = refl

pub ties-are : (ts : List Tie) (l m : ℕ) (ns : List ℕ) → new_ties ts l m ns ≡ map (tie_on l m) (those (untied ts l m) (firsts ns))
unfolding new_ties firsts those Posts
ties-are ts l m [] = refl
ties-are ts l m (n ∷ ns) =
    ap (λ (us : List Tie). us ++ new_ties (ts ++ us) l m ns) (new-one ts l m n) ∙ go (untied ts l m n) refl (λ zs. ties-are zs l m ns)
  where
    other : List ℕ
    other = those (λ x. not (eqb n x)) (firsts ns)

    go : (t : Bool) → untied ts l m n ≡ t → ((zs : List Tie) → new_ties zs l m ns ≡ map (tie_on l m) (those (untied zs l m) (firsts ns)))
        → Posts t (tie_on l m n) ++ new_ties (ts ++ Posts t (tie_on l m n)) l m ns ≡ map (tie_on l m) (elim t as (λ _. List ℕ) [ true ↦ n ∷ those (untied ts l m) other | false ↦ those (untied ts l m) other ])
    go true e ih =
        ap (λ (z : List Tie). tie_on l m n ∷ z) (ih (ts ++ (tie_on l m n ∷ []))
        ∙ ap (λ (z : List ℕ). map (tie_on l m) z) (sym (those-both (untied ts l m) (λ x. not (eqb n x)) (untied (ts ++ (tie_on l m n ∷ [])) l m) (untied-after ts l m n) (firsts ns))))
    go false e ih =
        ap (λ (z : List Tie). new_ties z l m ns) (append-nil ts)
        ∙ ih ts
        ∙ ap (λ (z : List ℕ). map (tie_on l m) z) (sym (those-both (untied ts l m) (λ x. not (eqb n x)) (untied ts l m) (λ x. untied-other ts l m n x e) (firsts ns)))

-- as many as there are such types
pub ties-counted : (ts : List Tie) (l m : ℕ) (ns : List ℕ) → length (new_ties ts l m ns) ≡ length (those (untied ts l m) (firsts ns))
ties-counted ts l m ns = ap length (ties-are ts l m ns) ∙ length-map (those (untied ts l m) (firsts ns)) (tie_on l m)

-- Each type is tied afterwards: it was, or it is posted

tied-after : (ts : List Tie) (l m n : ℕ) → (l ≡ m → ⊥) → (n ≡ name_int → ⊥) → any (tie_is l m n) (ts ++ new_tie ts l m n) ≡ true
unfolding Posts
tied-after ts l m n p q = ap (λ (us : List Tie). any (tie_is l m n) (ts ++ us)) (new-one ts l m n) ∙ go (any (tie_is l m n) ts) refl
  where
    go : (k : Bool) → any (tie_is l m n) ts ≡ k → any (tie_is l m n) (ts ++ Posts (untied ts l m n) (tie_on l m n)) ≡ true
    go true r = any_append (tie_is l m n) ts (Posts (untied ts l m n) (tie_on l m n)) ∙ (rw r refl)
    go false r = rw (is-untied ts l m n p q r) (any_last ts l m n n ∙ (rw (r, eq-eqb n n refl) refl))

pub ties-there : (ts : List Tie) (l m : ℕ) (ns : List ℕ) (n : ℕ) → Memᴰ n ns → (l ≡ m → ⊥) → (n ≡ name_int → ⊥) → any (tie_is l m n) (ts ++ new_ties ts l m ns) ≡ true
unfolding new_ties
ties-there ts l m [] n never p q = elim never [ ]
ties-there ts l m (x ∷ ns) n (Memᴰ.head z) p q =
    let us = new_tie ts l m x in
    let h : any (tie_is l m n) (ts ++ us) ≡ true = rw z (tied-after ts l m x p (λ e. q (z ∙ e))) in
    ap (any (tie_is l m n)) (sym (append_assoc ts us (new_ties (ts ++ us) l m ns))) ∙ any_append (tie_is l m n) (ts ++ us) (new_ties (ts ++ us) l m ns) ∙ (rw h refl)
ties-there ts l m (x ∷ ns) n (Memᴰ.tail k) p q =
    let us = new_tie ts l m x in
    ap (any (tie_is l m n)) (sym (append_assoc ts us (new_ties (ts ++ us) l m ns))) ∙ ties-there (ts ++ us) l m ns n k p q

-- None is posted that was there, or was posted before it

abbrev pub Fresh : List Tie → List Tie → Type 0
Fresh ts [] = Unit {0}
Fresh ts (u ∷ us) = (any (tie_is u.one u.two u.name) ts ≡ false) × Fresh (ts ++ (u ∷ [])) us

fresh-both : (ts us vs : List Tie) → Fresh ts us → Fresh (ts ++ us) vs → Fresh ts (us ++ vs)
fresh-both ts [] vs h k = rw append-nil at k
fresh-both ts (u ∷ us) vs h k = (h.0, fresh-both (ts ++ (u ∷ [])) us vs h.1 (rw append_assoc k))

new-fresh : (ts : List Tie) (l m n : ℕ) → Fresh ts (new_tie ts l m n)
unfolding Posts
new-fresh ts l m n = rw new-one (go (untied ts l m n) refl)
  where
    go : (t : Bool) → untied ts l m n ≡ t → Fresh ts (Posts t (tie_on l m n))
    go true e = ((untied-is ts l m n e).2, tt)
    go false e = tt

pub ties-fresh : (ts : List Tie) (l m : ℕ) (ns : List ℕ) → Fresh ts (new_ties ts l m ns)
unfolding new_ties
ties-fresh ts l m [] = tt
ties-fresh ts l m (n ∷ ns) = fresh-both ts (new_tie ts l m n) (new_ties (ts ++ new_tie ts l m n) l m ns) (new-fresh ts l m n) (ties-fresh (ts ++ new_tie ts l m n) l m ns)

-- A signature's, between loaders l and m: of its arguments in turn, then of its result

pub record Tied (ts : List Tie) (l m : ℕ) (s : Signature) (us : List Tie) : Type 0 where
  pub exactly : us ≡ map (tie_on l m) (those (untied ts l m) (firsts (signature_types s)))
  pub there : (n : ℕ) → Memᴰ n (signature_types s) → (l ≡ m → ⊥) → (n ≡ name_int → ⊥) → any (tie_is l m n) (ts ++ us) ≡ true
  pub fresh : Fresh ts us

pub signature-tied : (ts : List Tie) (l m : ℕ) (s : Signature) → Tied ts l m s (signature_ties ts l m s)
unfolding signature_ties
signature-tied ts l m s = record { exactly = ties-are ts l m (signature_types s); there = ties-there ts l m (signature_types s); fresh = ties-fresh ts l m (signature_types s) }

pub signature-in-turn : (ts : List Tie) (l m : ℕ) (s : Signature) → signature_ties ts l m s ≡ new_ties ts l m (argument_types s) ++ new_ties (ts ++ new_ties ts l m (argument_types s)) l m (s.result ∷ [])
unfolding signature_ties
signature-in-turn ts l m s = ties-in-turn ts l m (argument_types s) (s.result ∷ [])

-- Overrides, of a class of loader l below class p: of each method in turn, between l and the loader of the class whose method it overrides

pub override-tied : (b : Base) (l p : ℕ) (ts : List Tie) (s : Signature) (y : Selected) → selected b s p ≡ some y → Tied ts l (loader_of b y.class) s (override_tie b l p ts s)
unfolding override_tie
override-tied b l p ts s y e = rw (e, override_tie) (signature-tied ts l (loader_of b y.class) s)

-- a method that overrides none ties nothing
pub override-none : (b : Base) (l p : ℕ) (ts : List Tie) (s : Signature) → selected b s p ≡ none → override_tie b l p ts s ≡ []
unfolding override_tie
override-none b l p ts s e = rw (e, override_tie) refl

pub overrides-one : (b : Base) (l p : ℕ) (ts : List Tie) (m : Method) → override_ties b l p ts (m ∷ []) ≡ override_tie b l p ts m.signature
unfolding override_ties
overrides-one b l p ts m = append-nil (override_tie b l p ts m.signature)

pub overrides-in-turn : (b : Base) (l p : ℕ) (ts : List Tie) (ms ns : List Method) → override_ties b l p ts (ms ++ ns) ≡ override_ties b l p ts ms ++ override_ties b l p (ts ++ override_ties b l p ts ms) ns
unfolding override_ties
overrides-in-turn b l p ts [] ns = ap (λ (z : List Tie). override_ties b l p z ns) (sym (append-nil ts))
overrides-in-turn b l p ts (m ∷ ms) ns =
    let us = override_tie b l p ts m.signature in
    ap (λ (z : List Tie). us ++ z) (overrides-in-turn b l p (ts ++ us) ms ns)
    ∙ ap (λ (z : List Tie). us ++ (override_ties b l p (ts ++ us) ms ++ override_ties b l p z ns)) (append_assoc ts us (override_ties b l p (ts ++ us) ms))
    ∙ sym (append_assoc us (override_ties b l p (ts ++ us) ms) (override_ties b l p (ts ++ (us ++ override_ties b l p (ts ++ us) ms)) ns))

pub overrides-there : (b : Base) (l p : ℕ) (ts : List Tie) (ms : List Method) (m : Method) (y : Selected) (n : ℕ) → Memᴰ m ms → selected b m.signature p ≡ some y
    → Memᴰ n (signature_types m.signature) → (l ≡ loader_of b y.class → ⊥) → (n ≡ name_int → ⊥) → any (tie_is l (loader_of b y.class) n) (ts ++ override_ties b l p ts ms) ≡ true
unfolding override_ties
overrides-there b l p ts [] m y n never e k d q = elim never [ ]
overrides-there b l p ts (x ∷ ms) m y n (Memᴰ.head z) e k d q =
    let us = override_tie b l p ts x.signature in
    let f = tie_is l (loader_of b y.class) n in
    let h : any f (ts ++ us) ≡ true = rw (← z) ((override-tied b l p ts m.signature y e).there n k d q) in
    ap (any f) (sym (append_assoc ts us (override_ties b l p (ts ++ us) ms))) ∙ any_append f (ts ++ us) (override_ties b l p (ts ++ us) ms) ∙ (rw h refl)
overrides-there b l p ts (x ∷ ms) m y n (Memᴰ.tail t) e k d q =
    let us = override_tie b l p ts x.signature in
    ap (any (tie_is l (loader_of b y.class) n)) (sym (append_assoc ts us (override_ties b l p (ts ++ us) ms))) ∙ overrides-there b l p (ts ++ us) ms m y n t e k d q

override-fresh : (b : Base) (l p : ℕ) (ts : List Tie) (s : Signature) → Fresh ts (override_tie b l p ts s)
override-fresh b l p ts s = go (selected b s p) refl
  where
    go : (o : Option Selected) → selected b s p ≡ o → Fresh ts (override_tie b l p ts s)
    go none e = rw (override-none b l p ts s e) tt
    go (some y) e = (override-tied b l p ts s y e).fresh

pub overrides-fresh : (b : Base) (l p : ℕ) (ts : List Tie) (ms : List Method) → Fresh ts (override_ties b l p ts ms)
unfolding override_ties
overrides-fresh b l p ts [] = tt
overrides-fresh b l p ts (m ∷ ms) =
    let us = override_tie b l p ts m.signature in
    fresh-both ts us (override_ties b l p (ts ++ us) ms) (override-fresh b l p ts m.signature) (overrides-fresh b l p (ts ++ us) ms)

-- 'Full', of a call: the ties that are there, and of the signature's types, each once, those that are to be tied

abbrev pub ties_after : World → ℕ → ℕ → Signature → ℕ
ties_after w l m s = length w.ties + length (those (untied w.ties l m) (firsts (signature_types s)))

ties-after : (w : World) (l m : ℕ) (s : Signature) → length (w.ties ++ signature_ties w.ties l m s) ≡ ties_after w l m s
unfolding signature_ties
ties-after w l m s = omega (arith, length-append w.ties (new_ties w.ties l m (signature_types s)), ties-counted w.ties l m (signature_types s))

pub ties-full : (w : World) (room : Bool) (l m : ℕ) (s : Signature) → tie_limit < ties_after w l m s → post w room (signature_ties w.ties l m s) ≡ refused (Word word_full)
unfolding post need ◌>>=◌
ties-full w room l m s h =
    let us = signature_ties w.ties l m s in
    let q : leb (length (w.ties ++ us)) tie_limit ≡ false = lt-leb (length (w.ties ++ us)) tie_limit (rw (ties-after w l m s) h) in
    rw q refl

pub ties-room : (w : World) (l m : ℕ) (s : Signature) → ties_after w l m s ≤ tie_limit
    → post w true (signature_ties w.ties l m s) ≡ (need (agrees_after w (signature_ties w.ties l m s)) (Word word_clash) >>= λ _. ok (posted w (signature_ties w.ties l m s)))
unfolding post need ◌>>=◌
ties-room w l m s h =
    let us = signature_ties w.ties l m s in
    let q : leb (length (w.ties ++ us)) tie_limit ≡ true = le-leb (length (w.ties ++ us)) tie_limit (rw (ties-after w l m s) h) in
    rw q refl
