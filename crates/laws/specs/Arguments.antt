-- The arguments of a call: what is popped for them, and the locals that they fill.
use Rattle.std.specs.Prelude.{◌≡◌, refl, ℕ, zero, suc, ◌+◌, ◌<◌, length}
use Rattle.std.proofs.Common.{sym, ap, ◌∙◌, arith, length-append}
use Rattle.std.proofs.Math.Option.{Option, none, some, none-ne-some, some-injective}
use mathlib.Core.List.{List, [], ◌∷◌, ◌++◌, reverse_aux}
use Rattle.std.proofs.Math.ListN.{get_elem?}
use Rattle.definition.specs.Lists.{Each, filled}
use Rattle.definition.specs.Maybe.{◌>>=◌}
use Rattle.definition.specs.Verifier.{pop, pop_all}
use Rattle.laws.specs.Options.{bind-some}

abbrev pub PoppedAll : Type 0 → Type 0
PoppedAll A = record { all : List A; more : List A }

-- What was pushed last is popped first

pub aux-last : {A : Type 0} (xs : List A) (x : A) (ms : List A) → reverse_aux (xs ++ (x ∷ [])) ms ≡ x ∷ reverse_aux xs ms
aux-last [] x ms = refl
aux-last (y ∷ xs) x ms = aux-last xs x (y ∷ ms)

pub aux-nth : {A : Type 0} (xs ms : List A) (i : ℕ) → get_elem? (reverse_aux xs ms) (length xs + i) ≡ get_elem? ms i
aux-nth [] ms i = let z : 0 + i ≡ i = omega arith in ap (get_elem? ms) z
aux-nth (x ∷ xs) ms i = let z : suc (length xs) + i ≡ length xs + suc i = omega arith in ap (get_elem? (reverse_aux xs (x ∷ ms))) z ∙ aux-nth xs (x ∷ ms) (suc i)

-- past its end a list has none
pub nth_past : {A : Type 0} (xs : List A) (i : ℕ) → length xs < i → get_elem? xs i ≡ none
nth_past [] i h = refl
nth_past (x ∷ xs) zero h = absurd (omega arith)
nth_past (x ∷ xs) (suc i) h = nth_past xs i (omega arith)

pub pop-some-is : {A : Type 0} (xs : List A) (p : record { top : A; more : List A }) → pop xs ≡ some p → xs ≡ p.top ∷ p.more
unfolding pop
pop-some-is [] p e = absurd (none-ne-some p e)
pop-some-is (x ∷ xs) p e = ap (λ q. q.top ∷ q.more) (some-injective _ _ e)

pub popped-is : {A : Type 0} (n : ℕ) (xs : List A) (p : PoppedAll A) → pop_all n xs ≡ some p → (length p.all ≡ n) × (xs ≡ reverse_aux p.all p.more)
unfolding pop_all
popped-is {A} zero xs p e = rw (sym (some-injective _ _ e)) (refl, refl)
popped-is {A} (suc n) xs p e =
    let a = bind-some _ _ e in
    let b = bind-some _ _ a.2 in
    let i = popped-is n a.0.more b.0 b.1 in
    let l : length (b.0.all ++ (a.0.top ∷ [])) ≡ suc n = omega (arith, length-append b.0.all (a.0.top ∷ []), i.0) in
    rw (sym (some-injective _ _ b.2)) (l, pop-some-is xs a.0 a.1 ∙ ap (λ (r : List A). a.0.top ∷ r) i.1 ∙ sym (aux-last b.0.all a.0.top b.0.more))

-- n can be popped, if there are as many
pub popped-few : {A : Type 0} (n : ℕ) (xs : List A) → pop_all n xs ≡ none → length xs < n
unfolding pop_all pop ◌>>=◌
popped-few zero xs e = absurd (none-ne-some _ (sym e))
popped-few (suc n) [] e = omega arith
popped-few {A} (suc n) (x ∷ xs) e = go (pop_all n xs) refl e (popped-few n xs)
  where
    go : (o : Option (PoppedAll A)) → pop_all n xs ≡ o → ◌>>=◌ {B = PoppedAll A} o (λ q. some (record { all = q.all ++ (x ∷ []); more = q.more })) ≡ none → (pop_all n xs ≡ none → length xs < n) → suc (length xs) < suc n
    go none q h ih = omega (arith, ih q)
    go (some p) q h ih = absurd (none-ne-some _ (sym h))

-- Lists that go along with each other are popped, and fill, alike

pub each_last : {A B : Type 0} (R : A → B → Type 0) (xs : List A) (ys : List B) (x : A) (y : B) → Each R xs ys → R x y → Each R (xs ++ (x ∷ [])) (ys ++ (y ∷ []))
each_last R [] [] x y h r = (r, tt)
each_last R [] (v ∷ ys) x y h r = absurd h
each_last R (u ∷ xs) [] x y h r = absurd h
each_last R (u ∷ xs) (v ∷ ys) x y h r = (h.0, each_last R xs ys x y h.1 r)

pub record PoppedAlike {A B : Type 0} (R : A → B → Type 0) (n : ℕ) (p : PoppedAll A) (ys : List B) : Type 0 where
  pub popped : PoppedAll B
  pub is : pop_all n ys ≡ some popped
  pub all : Each R p.all popped.all
  pub more : Each R p.more popped.more

pub each-popped : {A B : Type 0} (R : A → B → Type 0) (n : ℕ) (xs : List A) (ys : List B) → Each R xs ys → (p : PoppedAll A) → pop_all n xs ≡ some p → PoppedAlike R n p ys
unfolding pop_all pop ◌>>=◌
each-popped R zero xs ys h p e = rw (sym (some-injective _ _ e)) (record { popped = record { all = []; more = ys }; is = refl; all = tt; more = h })
each-popped R (suc n) [] ys h p e = absurd (none-ne-some p e)
each-popped R (suc n) (x ∷ xs) [] h p e = absurd h
each-popped R (suc n) (x ∷ xs) (y ∷ ys) h p e =
    let b = bind-some _ _ e in
    let i = each-popped R n xs ys h.1 b.0 b.1 in
    rw (sym (some-injective _ _ b.2)) (record {
      popped = record { all = i.popped.all ++ (y ∷ []); more = i.popped.more };
      is = rw i.is refl;
      all = each_last R b.0.all i.popped.all x y i.all h.0;
      more = i.more;
    })

pub filled-length : {A : Type 0} (k : ℕ) (d : A) (xs : List A) → length (filled k d xs) ≡ k
unfolding filled
filled-length zero d xs = refl
filled-length (suc k) d [] = ap suc (filled-length k d [])
filled-length (suc k) d (x ∷ xs) = ap suc (filled-length k d xs)

pub each-filled : {A B : Type 0} (R : A → B → Type 0) (k : ℕ) (d : A) (e : B) (xs : List A) (ys : List B) → R d e → Each R xs ys → Each R (filled k d xs) (filled k e ys)
unfolding filled
each-filled R zero d e xs ys r h = tt
each-filled R (suc k) d e [] [] r h = (r, each-filled R k d e [] [] r tt)
each-filled R (suc k) d e [] (y ∷ ys) r h = absurd h
each-filled R (suc k) d e (x ∷ xs) [] r h = absurd h
each-filled R (suc k) d e (x ∷ xs) (y ∷ ys) r h = (h.0, each-filled R k d e xs ys r h.1)
