-- A tie that is posted joins the groups of its two ends: all of both get the lower number, and no other request's group changes.
use Rattle.std.specs.Prelude.{◌≡◌, refl, Bool, true, ◌⊎◌, ℕ, zero, suc, ◌<◌, ◌≤◌, length, ltb}
use Rattle.std.proofs.Math.Path.{sym, ap}
use Rattle.std.proofs.Common.{◌∙◌, subst, inr}
use Rattle.std.proofs.Math.Bool.{false}
use Rattle.std.proofs.Math.Option.{Option, none, some, some-injective, none-ne-some}
use mathlib.Core.List.{List, [], ◌∷◌, ◌++◌, Memᴰ}
use Rattle.std.proofs.Math.Logic.{inl}
use native.Mathlib.Omega.{arith}
use Rattle.std.proofs.Math.ListN.{get_elem?}
use borrow.Author.Tests.{ltb-true, ltb-false, lt-ltb}
use Rattle.definition.specs.Chains.{Chain, Edge, stay, hop}
use Rattle.definition.specs.Requests.{Request}
use Rattle.definition.specs.Constraints.{Tie, tie_edges}
use Rattle.definition.specs.Instructions.{pick}
use Rattle.definition.specs.Groups.{lesser, group_of}
use Rattle.laws.specs.Chains.{chain-join, chain_more}
use Rattle.laws.specs.Agreement.{nth-more}
use Rattle.laws.specs.Growth.{tie-edges-more}
use Rattle.laws.specs.Groups.{one_of, two_of, tied-back, GroupNumber, group-lowest, lowest-group, joined-some, Named, named-grouped, unnamed-none}

-- The lesser of a number and another, if there is one

lesser-first : (n : ℕ) (o : Option ℕ) → lesser n o ≤ n
unfolding lesser
lesser-first n none = omega arith
lesser-first n (some m) = by (ltb m n) refl
  where
    by : (t : Bool) → ltb m n ≡ t → pick t m n ≤ n
    by true e = unfold pick in omega (arith, ltb-true m n e)
    by false e = unfold pick in omega arith

lesser-second : (n m : ℕ) → lesser n (some m) ≤ m
unfolding lesser
lesser-second n m = by (ltb m n) refl
  where
    by : (t : Bool) → ltb m n ≡ t → pick t m n ≤ m
    by true e = unfold pick in omega arith
    by false e = unfold pick in omega (arith, ltb-false m n e)

lesser-either : (n : ℕ) (o : Option ℕ) → (lesser n o ≡ n) ⊎ (o ≡ some (lesser n o))
unfolding lesser
lesser-either n none = inl refl
lesser-either n (some m) = by (ltb m n)
  where
    by : (t : Bool) → (pick t m n ≡ n) ⊎ (some m ≡ some (pick t m n))
    by true = inr (unfold pick in refl)
    by false = inl (unfold pick in refl)

-- Rows with one more

last_row : {A : Type 0} (xs : List A) (x : A) → get_elem? (xs ++ (x ∷ [])) (length xs) ≡ some x
last_row [] x = refl
last_row (y ∷ xs) x = last_row xs x

split_rows : {A B : Type 0} (xs : List A) (ys : List B) (x v : A) (y w : B) (i : ℕ) → length ys ≡ length xs → get_elem? (xs ++ (x ∷ [])) i ≡ some v → get_elem? (ys ++ (y ∷ [])) i ≡ some w
    → ((get_elem? xs i ≡ some v) × (get_elem? ys i ≡ some w)) ⊎ ((x ≡ v) × (y ≡ w))
split_rows [] [] x v y w zero l a b = inr (some-injective x v a, some-injective y w b)
split_rows [] [] x v y w (suc i) l a b = absurd (none-ne-some v a)
split_rows [] (z ∷ ys) x v y w i l a b = absurd (omega arith)
split_rows (z ∷ xs) [] x v y w i l a b = absurd (omega arith)
split_rows (z ∷ xs) (q ∷ ys) x v y w zero l a b = inl (a, b)
split_rows (z ∷ xs) (q ∷ ys) x v y w (suc i) l a b = split_rows xs ys x v y w i (omega (arith, l)) a b

-- Tie u with number k is posted behind the ties ts with numbers ns

module _ (ts : List Tie) (ns : List ℕ) (u : Tie) (k : ℕ) where
  abbrev pub ties_with : List Tie
  ties_with = ts ++ (u ∷ [])

  abbrev pub numbers_with : List ℕ
  numbers_with = ns ++ (k ∷ [])

  -- of the groups of its ends
  abbrev pub Near : Request → Type 0
  Near a = Chain (tie_edges ts) a (one_of u) ⊎ Chain (tie_edges ts) a (two_of u)

  older : {a b : Request} → Chain (tie_edges ts) a b → Chain (tie_edges ties_with) a b
  older c = chain_more (λ e m. rw (tie-edges-more ts (u ∷ [])) (mathlib.Core.List.Memᴰ.append_left (tie_edges (u ∷ [])) m)) c

  over : Chain (tie_edges ties_with) (two_of u) (one_of u)
  over =
      let m : Memᴰ (record { from = two_of u; to = one_of u }) (tie_edges (u ∷ [])) = unfold tie_edges in mathlib.Core.List.Memᴰ.tail (mathlib.Core.List.Memᴰ.head refl) in
      let n : Memᴰ (record { from = two_of u; to = one_of u }) (tie_edges ties_with) = rw (tie-edges-more ts (u ∷ [])) (mathlib.Core.List.Memᴰ.append_right (tie_edges ts) m) in
      hop (stay refl) n

  near-one : (a : Request) → Near a → Chain (tie_edges ties_with) a (one_of u)
  near-one a (inl c) = older c
  near-one a (inr c) = chain-join (older c) over

  -- a chain that goes over the tie comes from one end's group and ends in the other's
  abbrev Over : Request → Request → Type 0
  Over a b = Chain (tie_edges ts) a b ⊎ (Near a × Near b)

  near_on : (a b : Request) → Near a → Chain (tie_edges ts) a b → Near b
  near_on a b (inl c) d = inl (chain-join (tied-back ts d) c)
  near_on a b (inr c) d = inr (chain-join (tied-back ts d) c)

  over-edge : (a b c : Request) → Over a b → Memᴰ (record { from = b; to = c }) (tie_edges ties_with) → Over a c
  over-edge a b c o m = at_edge o (mathlib.Core.List.Memᴰ.append_cases (tie_edges ts) (rw (tie-edges-more ts (u ∷ [])) at m))
    where
      near-end : Over a b → Near b → Near c → Over a c
      near-end (inl d) n p = inr (near_on b a n (tied-back ts d), p)
      near-end (inr (n, q)) _ p = inr (n, p)

      new : Over a b → Memᴰ {A = Edge Request} (record { from = b; to = c }) (record { from = one_of u; to = two_of u } ∷ record { from = two_of u; to = one_of u } ∷ []) → Over a c
      new o (mathlib.Core.List.Memᴰ.head q) = near-end o (inl (stay (ap (λ (e : Edge Request). e.from) q))) (inr (stay (ap (λ (e : Edge Request). e.to) q)))
      new o (mathlib.Core.List.Memᴰ.tail (mathlib.Core.List.Memᴰ.head q)) = near-end o (inr (stay (ap (λ (e : Edge Request). e.from) q))) (inl (stay (ap (λ (e : Edge Request). e.to) q)))
      new o (mathlib.Core.List.Memᴰ.tail (mathlib.Core.List.Memᴰ.tail q)) = absurd (mathlib.Core.List.Memᴰ.not-nil q)

      at_edge : Over a b → Memᴰ (record { from = b; to = c }) (tie_edges ts) ⊎ Memᴰ (record { from = b; to = c }) (tie_edges (u ∷ [])) → Over a c
      at_edge (inl d) (inl m) = inl (hop d m)
      at_edge (inr (n, p)) (inl m) = inr (n, near_on b c p (hop (stay refl) m))
      at_edge o (inr m) = new o (unfold tie_edges in m)

  goes_over : {a b : Request} → Chain (tie_edges ties_with) a b → Over a b
  goes_over (stay e) = inl (stay e)
  goes_over (hop d m) = over-edge _ _ _ (goes_over d) m

  abbrev lower : ℕ
  lower = lesser (lesser k (group_of ts ns (two_of u))) (group_of ts ns (one_of u))

  lower-one : (g : ℕ) → group_of ts ns (one_of u) ≡ some g → lower ≤ g
  lower-one g e = rw e (lesser-second (lesser k (group_of ts ns (two_of u))) g)

  lower-two : (g : ℕ) → group_of ts ns (two_of u) ≡ some g → lower ≤ g
  lower-two g e =
      let a : lower ≤ lesser k (group_of ts ns (two_of u)) = lesser-first (lesser k (group_of ts ns (two_of u))) (group_of ts ns (one_of u)) in
      let b : lesser k (group_of ts ns (two_of u)) ≤ g = rw e (lesser-second k g) in
      omega (arith, a, b)

  lower-new : lower ≤ k
  lower-new =
      omega (arith, lesser-first (lesser k (group_of ts ns (two_of u))) (group_of ts ns (one_of u)), lesser-first k (group_of ts ns (two_of u)))

  -- the number that both groups then have: the lowest of those of its ends, if any, and its own
  pub posted-group : length ns ≡ length ts → (a : Request) → Near a → group_of ties_with numbers_with a ≡ some (lesser (lesser k (group_of ts ns (two_of u))) (group_of ts ns (one_of u)))
  posted-group l a near = lowest-group ties_with numbers_with a lower (there (lesser-either (lesser k (group_of ts ns (two_of u))) (group_of ts ns (one_of u))))
    where
      least : (v : Tie) (n i : ℕ) → get_elem? ties_with i ≡ some v → get_elem? numbers_with i ≡ some n → Chain (tie_edges ties_with) a (one_of v) → lower ≤ n
      least v n i x y c = at_row (split_rows ts ns u v k n i l x y)
        where
          from : (get_elem? ts i ≡ some v) × (get_elem? ns i ≡ some n) → Near (one_of v) → lower ≤ n
          from (x, y) (inl d) =
              let g = joined-some ts ns (one_of u) v n i x y (tied-back ts d) in
              omega (arith, lower-one g.0 g.1, (group-lowest ts ns (one_of u) g.0 g.1).least v n i x y (tied-back ts d))
          from (x, y) (inr d) =
              let g = joined-some ts ns (two_of u) v n i x y (tied-back ts d) in
              omega (arith, lower-two g.0 g.1, (group-lowest ts ns (two_of u) g.0 g.1).least v n i x y (tied-back ts d))

          at_row : ((get_elem? ts i ≡ some v) × (get_elem? ns i ≡ some n)) ⊎ ((u ≡ v) × (k ≡ n)) → lower ≤ n
          at_row (inl r) = from r (elim (goes_over c) as (λ _. Near (one_of v)) [ inl d ↦ near_on a (one_of v) near d | inr p ↦ p.1 ])
          at_row (inr (e, f)) = omega (arith, lower-new, f)

      old : (m : ℕ) (b : Request) → Chain (tie_edges ties_with) a b → group_of ts ns b ≡ some m → m ≡ lower → GroupNumber ties_with numbers_with a lower
      old m b c e q =
          let x = group-lowest ts ns b m e in
          record {
            tie = x.tie;
            row = record { row = x.row.row; tie = nth-more ts (u ∷ []) x.row.row x.tie x.row.tie; number = nth-more ns (k ∷ []) x.row.row m x.row.number ∙ ap some q };
            chain = chain-join c (older x.chain);
            least = least;
          }

      own : k ≡ lower → GroupNumber ties_with numbers_with a lower
      own q = record {
        tie = u;
        row = record { row = length ts; tie = last_row ts u; number = ap (get_elem? numbers_with) (sym l) ∙ (last_row ns k ∙ ap some q) };
        chain = near-one a near;
        least = least;
      }

      there : (lower ≡ lesser k (group_of ts ns (two_of u))) ⊎ (group_of ts ns (one_of u) ≡ some lower) → GroupNumber ties_with numbers_with a lower
      there (inr e) = old lower (one_of u) (near-one a near) e refl
      there (inl e) = second (lesser-either k (group_of ts ns (two_of u)))
        where
          second : (lesser k (group_of ts ns (two_of u)) ≡ k) ⊎ (group_of ts ns (two_of u) ≡ some (lesser k (group_of ts ns (two_of u)))) → GroupNumber ties_with numbers_with a lower
          second (inl f) = own (sym f ∙ sym e)
          second (inr f) = old (lesser k (group_of ts ns (two_of u))) (two_of u) (chain-join (near-one a near) (tied-back ties_with over)) f (sym e)

  -- no other request's group changes
  pub others_keep : length ns ≡ length ts → (a : Request) → (Near a → ⊥) → group_of ties_with numbers_with a ≡ group_of ts ns a
  others_keep l a far = go (group_of ts ns a) refl
    where
      same : {b : Request} → Chain (tie_edges ties_with) a b → Chain (tie_edges ts) a b
      same c = elim (goes_over c) [ inl d ↦ d | inr p ↦ absurd (far p.0) ]

      unnamed : group_of ts ns a ≡ none → Named ties_with a → ⊥
      unnamed e (v, m, x) = by (mathlib.Core.List.Memᴰ.append_cases ts m)
        where
          by : Memᴰ v ts ⊎ Memᴰ v (u ∷ []) → ⊥
          by (inl m) = let g = named-grouped ts ns a l (v, m, x) in none-ne-some g.0 (sym e ∙ g.1)
          by (inr (mathlib.Core.List.Memᴰ.head q)) = far (end (subst (λ (z : Tie). (one_of z ≡ a) ⊎ (two_of z ≡ a)) q x))
            where
              end : (one_of u ≡ a) ⊎ (two_of u ≡ a) → Near a
              end (inl e) = inl (stay (sym e))
              end (inr e) = inr (stay (sym e))
          by (inr (mathlib.Core.List.Memᴰ.tail m)) = mathlib.Core.List.Memᴰ.not-nil m

      go : (o : Option ℕ) → group_of ts ns a ≡ o → group_of ties_with numbers_with a ≡ o
      go none e = unnamed-none ties_with numbers_with a (unnamed e)
      go (some g) e =
          let x = group-lowest ts ns a g e in
          lowest-group ties_with numbers_with a g (record {
            tie = x.tie;
            row = record { row = x.row.row; tie = nth-more ts (u ∷ []) x.row.row x.tie x.row.tie; number = nth-more ns (k ∷ []) x.row.row g x.row.number };
            chain = older x.chain;
            least = λ v n i p q c. least v n i c (split_rows ts ns u v k n i l p q) x;
          })
        where
          least : (v : Tie) (n i : ℕ) → Chain (tie_edges ties_with) a (one_of v) → ((get_elem? ts i ≡ some v) × (get_elem? ns i ≡ some n)) ⊎ ((u ≡ v) × (k ≡ n)) → GroupNumber ts ns a g → g ≤ n
          least v n i c (inl (p, q)) x = x.least v n i p q (same c)
          least v n i c (inr (p, q)) x = absurd (far (inl (subst (λ (z : Tie). Chain (tie_edges ts) a (one_of z)) (sym p) (same c))))

  -- both its ends had a group, and its own number is higher: all of both get the lower
  pub ends-joined : length ns ≡ length ts → (g h : ℕ) → group_of ts ns (one_of u) ≡ some g → group_of ts ns (two_of u) ≡ some h → h < k
      → (a : Request) → Near a → group_of ties_with numbers_with a ≡ some (lesser g (some h))
  ends-joined l g h e f q a near =
      let z : lesser k (some h) ≡ h = unfold lesser in rw (lt-ltb h k q) (unfold pick in refl) in
      posted-group l a near ∙ ((λ i. some (lesser (lesser k (f i)) (e i))) ∙ ap some (ap (λ (z : ℕ). lesser z (some g)) z ∙ either g h))
    where
      either : (g h : ℕ) → lesser h (some g) ≡ lesser g (some h)
      either g h =
          let a = lesser-first h (some g) in
          let b = lesser-second h g in
          let c = lesser-first g (some h) in
          let d = lesser-second g h in
          by (lesser-either h (some g)) (lesser-either g (some h)) a b c d
        where
          by : (lesser h (some g) ≡ h) ⊎ (◌≡◌ {A = Option ℕ} (some g) (some (lesser h (some g)))) → (lesser g (some h) ≡ g) ⊎ (◌≡◌ {A = Option ℕ} (some h) (some (lesser g (some h))))
              → lesser h (some g) ≤ h → lesser h (some g) ≤ g → lesser g (some h) ≤ g → lesser g (some h) ≤ h → lesser h (some g) ≡ lesser g (some h)
          by (inl x) (inl y) a b c d = omega (arith, x, y, a, b, c, d)
          by (inl x) (inr y) a b c d = x ∙ some-injective _ _ y
          by (inr x) (inl y) a b c d = sym (some-injective _ _ x) ∙ sym y
          by (inr x) (inr y) a b c d = let x' : g ≡ lesser h (some g) = some-injective _ _ x in let y' : h ≡ lesser g (some h) = some-injective _ _ y in omega (arith, x', y', a, b, c, d)
