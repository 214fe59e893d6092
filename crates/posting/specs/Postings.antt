-- Ties that a step posts: at most five, between two loaders.
use Rattle.std.proofs.Math.Path.{◌≡◌, refl, sym, ap, subst}
use Rattle.std.proofs.Common.{◌∙◌, arith, add-one, length-set, drop_of_length-le, length-append}
use Rattle.std.specs.Prelude.{Bool, ◌||◌, ◌&&◌, ◌≢◌, length, get_or, drop, eqb}
use Rattle.std.proofs.Math.Bool.{true, false, not}
use Rattle.std.proofs.lemmas.Bool.{false≢true}
use mathlib.Core.List.{List, [], ◌∷◌, ◌++◌, map, append-nil, append_assoc}
use Prim.Native.Nat.{ℕ, suc, ◌+◌, ◌-◌, ◌≤◌, ◌<◌}
use Rattle.std.proofs.lemmas.List.{length-map}
use Rattle.std.proofs.Math.Seq.{drop-cons}
use borrow.Author.Tests.{eq-eqb, ne_eqb}
use Rattle.definition.specs.declared.Arguments.{Arguments}
use Rattle.definition.specs.declared.Arguments.TheVariants.{NoArguments, OneArgument, TwoArguments, ThreeArguments, FourArguments}
use Rattle.definition.specs.Lists.{any, write_rows}
use Rattle.definition.specs.Classes.{types_of}
use Rattle.definition.specs.Constraints.{Tie, World, posted, tie_is, new_tie, new_ties}
use Rattle.definition.specs.Machine.{Objects, Frame}
use Rattle.definition.specs.Tables.{tie, put_tie}
use Rattle.instructions.specs.declared.Plan.{Plan}
use Rattle.instructions.specs.declared.Plan.TheVariants.{Refuse, Keep, Jump, Above, Local, Give, Finish, Field, Enter, Make}
use Rattle.instructions.specs.Plans.{meaning}
use Rattle.std.specs.Prelude.{Option, Some, None}
use Rattle.posting.specs.declared.Ties.{Ties}

-- what a step posts: nothing, or ties
abbrev pub Posting : Type 0
Posting = Option Ties

abbrev pub tied : ℕ → ℕ → Arguments → ℕ → Posting
tied l m ns n = Some (record { one = l; two = m; names = ns; last = n })

-- the names that they are on
unfoldable pub names_of : Posting → List ℕ
names_of None = []
names_of (Some t) = types_of t.names ++ (t.last ∷ [])

unfoldable pub to_post : Posting → List Tie
to_post None = []
to_post (Some t) = map (tie t.one t.two) (types_of t.names ++ (t.last ∷ []))

-- they are between those loaders
abbrev pub Between : ℕ → ℕ → Posting → Type 0
Between l m p = to_post p ≡ map (tie l m) (names_of p)

-- a tie on that name between two different loaders is new
unfoldable pub is_new : List Tie → ℕ → ℕ → ℕ → Bool
is_new ts l m n = not (eqb n 1 || any (tie_is l m n) ts)

unfoldable pub is_named : ℕ → ℕ → Bool
is_named n x = eqb x n

-- Names one after another

pub few-names : (ns : Arguments) → length (types_of ns) ≤ 4
few-names NoArguments = omega arith
few-names (OneArgument a) = omega arith
few-names (TwoArguments a b) = omega arith
few-names (ThreeArguments a b c) = omega arith
few-names (FourArguments a b c d) = omega arith

pub ties-counted : (l m : ℕ) (ns : Arguments) (n : ℕ) → length (to_post (tied l m ns n)) ≡ length (types_of ns) + 1
unfolding to_post
ties-counted l m ns n = length-map (types_of ns ++ (n ∷ [])) (tie l m) ∙ length-append (types_of ns) (n ∷ [])

pub names-counted : (p : Posting) (l m : ℕ) (ns : Arguments) (n : ℕ) → p ≡ tied l m ns n → length (to_post p) ≡ length (types_of ns) + 1
names-counted p l m ns n e = ap (λ q. length (to_post q)) e ∙ ties-counted l m ns n

module _ (xs ys : List ℕ) (i : ℕ) where
  pub names_more : i < length xs → drop i xs ++ ys ≡ get_or xs i 0 ∷ (drop (i + 1) xs ++ ys)
  names_more h = rw (drop-cons xs i 0 h, add-one) refl

  pub names-end : length xs ≤ i → drop i xs ++ ys ≡ ys
  names-end h = rw (drop_of_length-le xs h) refl

module _ (n : ℕ) (xs : List ℕ) (last i : ℕ) where
  pub among-here : i < length xs → get_or xs i 0 ≡ n → any (is_named n) (drop i xs ++ (last ∷ [])) ≡ true
  unfolding any is_named
  among-here h e = rw (names_more xs (last ∷ []) i h, any, eq-eqb _ _ e) refl

  pub among_later : i < length xs → (get_or xs i 0 ≢ n) → any (is_named n) (drop i xs ++ (last ∷ [])) ≡ any (is_named n) (drop (i + 1) xs ++ (last ∷ []))
  unfolding any is_named
  among_later h e = rw (names_more xs (last ∷ []) i h, any, ne_eqb _ _ e) refl

  pub among-last : length xs ≤ i → any (is_named n) (drop i xs ++ (last ∷ [])) ≡ eqb last n
  unfolding any is_named
  among-last h = rw (names-end xs (last ∷ []) i h) (go (eqb last n))
    where
      go : (u : Bool) → (elim u as (λ _. Bool) [ true ↦ true | false ↦ false ]) ≡ u
      go true = refl
      go false = refl

-- The rows of ties on names, the last written first

pub put-long : (t : List ℕ) (i : ℕ) (u : Tie) → length (put_tie t i u) ≡ length t
unfolding put_tie
put-long t i u = simp length-set refl

module _ (l m : ℕ) (xs : List ℕ) (n : ℕ) (t : List ℕ) where
  -- the ties on the names from i on, written from row n + i on
  abbrev pub rows_from : ℕ → List ℕ
  rows_from i = write_rows put_tie (map (tie l m) (drop i xs)) (n + i) t

  pub writes-none : (i : ℕ) → length xs ≤ i → t ≡ rows_from i
  unfolding write_rows
  writes-none i h = rw (drop_of_length-le xs h) refl

  pub writes_more : (i : ℕ) (u : List ℕ) → 0 < i → i ≤ length xs → u ≡ rows_from i → put_tie u (n + (i - 1)) (tie l m (get_or xs (i - 1) 0)) ≡ rows_from (i - 1)
  unfolding write_rows
  writes_more i u h k e =
      let a : i ≡ suc (i - 1) = omega (arith, h) in
      let b : n + i ≡ suc (n + (i - 1)) = omega (arith, h) in
      let f : u ≡ write_rows put_tie (map (tie l m) (drop (suc (i - 1)) xs)) (suc (n + (i - 1))) t = rw (← a, ← b) e in
      rw (f, drop-cons xs (i - 1) 0 (omega (arith, h, k))) refl

  pub writes-all : rows_from 0 ≡ write_rows put_tie (map (tie l m) xs) n t
  writes-all = let e : n + 0 ≡ n = omega arith in rw e refl

-- the last row, and then those before it
pub writes-last : (l m : ℕ) (xs : List ℕ) (last n k : ℕ) (t : List ℕ) → k ≡ n + length xs
    → write_rows put_tie (map (tie l m) xs) n (put_tie t k (tie l m last)) ≡ write_rows put_tie (map (tie l m) (xs ++ (last ∷ []))) n t
unfolding write_rows
writes-last l m [] last n k t e = let z : k ≡ n = omega (arith, e) in rw z refl
writes-last l m (x ∷ xs) last n k t e = ap (λ u. put_tie u n (tie l m x)) (writes-last l m xs last (suc n) k t (omega (arith, e)))

-- New ties, by the loaders and by whether they are new

pub ties-same : (ts : List Tie) (l m : ℕ) (ns : List ℕ) → l ≡ m → new_ties ts l m ns ≡ []
unfolding new_ties new_tie
ties-same ts l m [] e = refl
ties-same ts l m (n ∷ ns) e = rw (new_ties, new_tie, eq-eqb l m e, append-nil ts) (ties-same ts l m ns e)

-- among ties between those loaders, one on a name is there if the name is
any-after : {A : Type 0} (f : A → Bool) (xs ys : List A) → any f (xs ++ ys) ≡ (any f xs || any f ys)
unfolding any
any-after f [] ys = refl
any-after {A} f (x ∷ xs) ys = go (f x) (any-after f xs ys)
  where
    go : (u : Bool) → any f (xs ++ ys) ≡ (any f xs || any f ys)
        → ◌≡◌ {A = Bool} (elim u as (λ _. Bool) [ true ↦ true | false ↦ any f (xs ++ ys) ]) ((elim u as (λ _. Bool) [ true ↦ true | false ↦ any f xs ]) || any f ys)
    go true e = refl
    go false e = e

tie-named : (l m n x : ℕ) → tie_is l m n (tie l m x) ≡ is_named n x
unfolding tie_is is_named
tie-named l m n x = rw (eq-eqb l l refl, eq-eqb m m refl) (go (eqb x n))
  where
    go : (u : Bool) → (u && (true || (eqb l m && eqb m l))) ≡ u
    go true = refl
    go false = refl

any-named : (l m n : ℕ) (ns : List ℕ) → any (tie_is l m n) (map (tie l m) ns) ≡ any (is_named n) ns
unfolding any
any-named l m n [] = refl
any-named l m n (x ∷ ns) = λ i. elim (tie-named l m n x i) as (λ _. Bool) [ true ↦ true | false ↦ any-named l m n ns i ]

module _ (ts : List Tie) (l m n : ℕ) (us : List Tie) (ns : List ℕ) (differ : l ≢ m) (are : us ≡ map (tie l m) ns) where
  known : any (tie_is l m n) (ts ++ us) ≡ (any (tie_is l m n) ts || any (is_named n) ns)
  known = rw are (rw (← any-named l m n ns) (any-after (tie_is l m n) ts (map (tie l m) ns)))

  pub tie-known : is_new ts l m n ≡ false → new_tie (ts ++ us) l m n ≡ []
  unfolding new_tie is_new
  tie-known h = rw (ne_eqb l m differ, known, new_tie) (go (eqb n 1) (any (tie_is l m n) ts) (any (is_named n) ns) h)
    where
      go : (u v w : Bool) → not (u || v) ≡ false → ◌≡◌ {A = List Tie} (elim (false || u || (v || w)) as (λ _. List Tie) [ true ↦ [] | false ↦ tie l m n ∷ [] ]) ([])
      go true v w h = refl
      go false true w h = refl
      go false false w h = absurd (false≢true (sym h))

  pub tie-among : any (is_named n) ns ≡ true → new_tie (ts ++ us) l m n ≡ []
  unfolding new_tie
  tie-among h = rw (ne_eqb l m differ, known, h, new_tie) (go (eqb n 1) (any (tie_is l m n) ts))
    where
      go : (u v : Bool) → ◌≡◌ {A = List Tie} (elim (false || u || (v || true)) as (λ _. List Tie) [ true ↦ [] | false ↦ tie l m n ∷ [] ]) ([])
      go true v = refl
      go false true = refl
      go false false = refl

  pub tie-new : is_new ts l m n ≡ true → any (is_named n) ns ≡ false → new_tie (ts ++ us) l m n ≡ tie l m n ∷ []
  unfolding new_tie is_new
  tie-new h k = rw (ne_eqb l m differ, known, k, new_tie) (go (eqb n 1) (any (tie_is l m n) ts) h)
    where
      go : (u v : Bool) → not (u || v) ≡ true → ◌≡◌ {A = List Tie} (elim (false || u || (v || false)) as (λ _. List Tie) [ true ↦ [] | false ↦ tie l m n ∷ [] ]) (tie l m n ∷ [])
      go true v h = absurd (false≢true h)
      go false true h = absurd (false≢true h)
      go false false h = refl

-- A name more

abbrev pub Added : List Tie → ℕ → ℕ → ℕ → Posting → Posting → Type 0
Added ts l m n p r = Between l m r × (to_post r ≡ to_post p ++ new_tie (ts ++ to_post p) l m n)

module _ (ts : List Tie) (l m n : ℕ) (p : Posting) (differ : l ≢ m) (between : Between l m p) where
  pub adds-known : is_new ts l m n ≡ false → Added ts l m n p p
  adds-known h = (between, rw (tie-known ts l m n (to_post p) (names_of p) differ between h, append-nil (to_post p)) refl)

  pub adds-among : (a b : ℕ) (ns : Arguments) (last : ℕ) → p ≡ tied a b ns last → any (is_named n) (types_of ns ++ (last ∷ [])) ≡ true → Added ts l m n p (tied a b ns last)
  unfolding names_of
  adds-among a b ns last e h =
      let g : any (is_named n) (names_of p) ≡ true = ap (λ q. any (is_named n) (names_of q)) e ∙ h in
      let same : Added ts l m n p p = (between, rw (tie-among ts l m n (to_post p) (names_of p) differ between g, append-nil (to_post p)) refl) in
      subst (λ q. Added ts l m n p q) e same

  pub adds-first : p ≡ None → is_new ts l m n ≡ true → Added ts l m n p (tied l m NoArguments n)
  unfolding names_of to_post any
  adds-first e h =
      let g : any (is_named n) (names_of p) ≡ false = ap (λ q. any (is_named n) (names_of q)) e in
      (refl, rw (tie-new ts l m n (to_post p) (names_of p) differ between h g) (ap (λ q. to_post q ++ (tie l m n ∷ [])) (sym e)))

  pub adds-next : (a b : ℕ) (ns us : Arguments) (last : ℕ) → p ≡ tied a b ns last → is_new ts l m n ≡ true → any (is_named n) (types_of ns ++ (last ∷ [])) ≡ false
      → types_of us ≡ types_of ns ++ (last ∷ []) → Added ts l m n p (tied l m us n)
  unfolding names_of to_post
  adds-next a b ns us last e h k f =
      let g : any (is_named n) (names_of p) ≡ false = ap (λ q. any (is_named n) (names_of q)) e ∙ k in
      let names : types_of us ≡ names_of p = f ∙ ap names_of (sym e) in
      (refl, rw (tie-new ts l m n (to_post p) (names_of p) differ between h g, between, names) (map_last (names_of p)))
    where
      map_last : (xs : List ℕ) → map (tie l m) (xs ++ (n ∷ [])) ≡ map (tie l m) xs ++ (tie l m n ∷ [])
      map_last [] = refl
      map_last (x ∷ xs) = ap (λ (r : List Tie). tie l m x ∷ r) (map_last xs)

-- One name after another: us are posted, and the names from i on and the last are still to come

module _ (ts : List Tie) (l m : ℕ) (xs : List ℕ) (last : ℕ) where
  abbrev pub Left : List Tie → ℕ → Type 0
  Left us i = us ++ new_ties (ts ++ us) l m (drop i xs ++ (last ∷ [])) ≡ new_ties ts l m (xs ++ (last ∷ []))

  next-tie : (us vs : List Tie) (n : ℕ) (ns : List ℕ) → vs ≡ us ++ new_tie (ts ++ us) l m n → vs ++ new_ties (ts ++ vs) l m ns ≡ us ++ new_ties (ts ++ us) l m (n ∷ ns)
  unfolding new_ties
  next-tie us vs n ns e =
      let u = new_tie (ts ++ us) l m n in
      rw e (append_assoc us u (new_ties (ts ++ (us ++ u)) l m ns) ∙ ap (λ (r : List Tie). us ++ (u ++ new_ties r l m ns)) (sym (append_assoc ts us u)))

  pub first-left : Left [] 0
  first-left = rw (append-nil ts) refl

  pub next-left : (us vs : List Tie) (i n : ℕ) → i < length xs → n ≡ get_or xs i 0 → Left us i → vs ≡ us ++ new_tie (ts ++ us) l m n → Left vs (i + 1)
  next-left us vs i n h e left is =
      next-tie us vs n (drop (i + 1) xs ++ (last ∷ [])) is
      ∙ (ap (λ (r : List ℕ). us ++ new_ties (ts ++ us) l m r) (ap (λ k. k ∷ (drop (i + 1) xs ++ (last ∷ []))) e ∙ sym (names_more xs (last ∷ []) i h)) ∙ left)

  pub last-left : (us vs : List Tie) (i : ℕ) → length xs ≤ i → Left us i → vs ≡ us ++ new_tie (ts ++ us) l m last → vs ≡ new_ties ts l m (xs ++ (last ∷ []))
  unfolding new_ties
  last-left us vs i h left is =
      sym (append-nil vs)
      ∙ (next-tie us vs last [] is
      ∙ (ap (λ (r : List ℕ). us ++ new_ties (ts ++ us) l m r) (sym (names-end xs (last ∷ []) i h)) ∙ left))

-- What is posted with a plan: nothing with a refusal

abbrev pub Quiet : List Tie → Plan → Type 0
Quiet us (Refuse r) = us ≡ []
Quiet us (Keep d) = Unit {0}
Quiet us (Jump d p) = Unit {0}
Quiet us (Above d v) = Unit {0}
Quiet us (Local d j v) = Unit {0}
Quiet us (Give v) = Unit {0}
Quiet us (Finish v) = Unit {0}
Quiet us (Field d o j v) = Unit {0}
Quiet us (Enter d e) = Unit {0}
Quiet us (Make d c o) = Unit {0}

abbrev pub quietly : Posting → Plan → Posting
quietly x (Refuse r) = None
quietly x (Keep d) = x
quietly x (Jump d p) = x
quietly x (Above d v) = x
quietly x (Local d j v) = x
quietly x (Give v) = x
quietly x (Finish v) = x
quietly x (Field d o j v) = x
quietly x (Enter d e) = x
quietly x (Make d c o) = x

pub quietly-quiet : (x : Posting) (p : Plan) → Quiet (to_post (quietly x p)) p
unfolding to_post
quietly-quiet x (Refuse r) = refl
quietly-quiet x (Keep d) = tt
quietly-quiet x (Jump d p) = tt
quietly-quiet x (Above d v) = tt
quietly-quiet x (Local d j v) = tt
quietly-quiet x (Give v) = tt
quietly-quiet x (Finish v) = tt
quietly-quiet x (Field d o j v) = tt
quietly-quiet x (Enter d e) = tt
quietly-quiet x (Make d c o) = tt

pub quietly-means : (task : ℕ) (w : World) (os : Objects) (fs : List Frame) (F : List ℕ) (b q : ℕ) (x : Posting) (p : Plan)
    → meaning task (posted w (to_post (quietly x p))) os fs F b q p ≡ meaning task (posted w (to_post x)) os fs F b q p
unfolding meaning
quietly-means task w os fs F b q x (Refuse r) = refl
quietly-means task w os fs F b q x (Keep d) = refl
quietly-means task w os fs F b q x (Jump d p) = refl
quietly-means task w os fs F b q x (Above d v) = refl
quietly-means task w os fs F b q x (Local d j v) = refl
quietly-means task w os fs F b q x (Give v) = refl
quietly-means task w os fs F b q x (Finish v) = refl
quietly-means task w os fs F b q x (Field d o j v) = refl
quietly-means task w os fs F b q x (Enter d e) = refl
quietly-means task w os fs F b q x (Make d c o) = refl

pub quietly-few : (x : Posting) (p : Plan) → length (to_post (quietly x p)) ≤ length (to_post x)
unfolding to_post
quietly-few x (Refuse r) = omega arith
quietly-few x (Keep d) = omega arith
quietly-few x (Jump d p) = omega arith
quietly-few x (Above d v) = omega arith
quietly-few x (Local d j v) = omega arith
quietly-few x (Give v) = omega arith
quietly-few x (Finish v) = omega arith
quietly-few x (Field d o j v) = omega arith
quietly-few x (Enter d e) = omega arith
quietly-few x (Make d c o) = omega arith
