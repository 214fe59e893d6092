-- Rows that name requests one after the other: each shares its root with the row that stands for its request.
use mathlib.Core.Path.{◌≡◌, refl, sym, ap, subst, ◌∙◌}
use mathlib.Core.Bool.{Bool, true, false, false≢true}
use mathlib.Core.List.{List}
use mathlib.Core.Logic.{◌⊎◌, inl, inr}
use Prim.Native.Nat.{ℕ, zero, suc, ◌+◌, ◌*◌, ◌<◌, ◌≤◌}
use native.Mathlib.Nat.{add-zero}
use native.Mathlib.Omega.{arith}
use lib.ListN.{length, get_or, set, length-set, replicate, length-replicate, get_or-replicate}
use lib.Seq.{get_or-set_same, get_or-set_other}
use lib.Dec.{eqb, ltb}
use borrow.Author.Tests.{eqb-true, eqb-false, le-ltb, lt-ltb, ltb-true}
use Rattle.definition.specs.Lists.{every}
use Rattle.definition.specs.Tables.{tie_at}
use Rattle.definition.specs.Broken.{tie_fits}
use Rattle.groups.specs.Roots.{Root, SameRoot, United}
use Rattle.groups.specs.Claims.{Claim, fresh, joins, Claimed, Loaders}
use Rattle.groups.proofs.Rooting.{root-low, root-top, root-one, root-along, same-on, turn-same, united-keeps, united-same, united-within, united-root, united-long, united-sound}

-- nothing is named yet, and nothing leads down
pub claimed-none : (R D : ℕ → ℕ → Type 0) (firsts : List ℕ) → ((x : ℕ) → x < length firsts → get_or firsts x 0 ≡ 0) → ((j x : ℕ) → D j x → ⊥) → Claimed R D 0 firsts (replicate 256 65535)
claimed-none R D firsts blank empty = record {
  ups_long = length-replicate {A = ℕ} 256 65535;
  claims = λ x m h e. absurd (omega (arith, e, blank x h));
  joint = λ j x d. absurd (empty j x d);
  sound = λ p h l. absurd (omega (arith, l, h, get_or-replicate {A = ℕ} 256 p 65535 0 h));
  still = λ p l h. omega (arith, h, get_or-replicate {A = ℕ} 256 p 65535 0 h);
}

-- what is named may be said in other words, and of more rows
pub claimed-as : {R D E : ℕ → ℕ → Type 0} {k n : ℕ} {firsts ups : List ℕ} → k ≤ n → ((j x : ℕ) → D j x → E j x) → ((j x : ℕ) → E j x → D j x) → Claimed R D k firsts ups → Claimed R E n firsts ups
claimed-as l f g s = record {
  ups_long = s.ups_long;
  claims = λ x m h e. let r = s.claims x m h e in (r.0, f r.0 x r.1, r.2, omega (arith, r.3));
  joint = λ j x d. s.joint j x (g j x d);
  sound = s.sound;
  still = λ p h m. s.still p (omega arith) m;
}

-- what stands at a key is one more than a row's number
pub few-firsts : {R D : ℕ → ℕ → Type 0} {k : ℕ} {firsts ups : List ℕ} → Claimed R D k firsts ups → k ≤ 256 → (x : ℕ) → x < length firsts → get_or firsts x 0 ≤ 256
few-firsts {R} {D} {k} {firsts} {ups} s few x h = go (get_or firsts x 0) refl
  where
    go : (f : ℕ) → get_or firsts x 0 ≡ f → f ≤ 256
    go zero e = omega arith
    go (suc m) e = omega (arith, (s.claims x m h e).3)

-- one row more names a request
abbrev pub Also : (ℕ → ℕ → Type 0) → ℕ → ℕ → ℕ → ℕ → Type 0
Also D key i j x = D j x ⊎ ((j ≡ i) × (x ≡ key))

-- row i, whose root is `low`, names the request of a key, which those share that named it before
module _ (R D : ℕ → ℕ → Type 0) (self : (a : ℕ) → R a a) (on : (a b c : ℕ) → R a b → R b c → R a c) (back : (a b : ℕ) → R a b → R b a)
    {firsts ups : List ℕ} (k key i low : ℕ) (few : k ≤ 256) (key_fits : key < length firsts) (fits : i < k) (s : Claimed R D k firsts ups) (lead : Root ups i low)
    (shares : (m : ℕ) → D m key → R i m) where
  low_fits : low < k
  low_fits = omega (arith, root-low lead)

  along : {x r : ℕ} → x < k → Root ups x r → R x r
  along h = root-along R 256 self on s.sound (omega arith)

  -- what stands at each key where the key has `r`
  here : (r : ℕ) → get_or (set firsts key (r + 1)) key 0 ≡ suc r
  here r = omega (arith, get_or-set_same firsts key (r + 1) 0 key_fits)

  claims-more : (r : ℕ) → R i r → r < k → (x m : ℕ) → x < length (set firsts key (r + 1)) → get_or (set firsts key (r + 1)) x 0 ≡ suc m → (j : ℕ) × Also D key i j x × R j m × (m < k)
  claims-more r rel l x m h e = go (eqb x key) refl
    where
      go : (t : Bool) → eqb x key ≡ t → (j : ℕ) × Also D key i j x × R j m × (m < k)
      go true q =
          let z : x ≡ key = eqb-true x key q in
          let w : get_or (set firsts key (r + 1)) key 0 ≡ suc m = subst (λ (y : ℕ). get_or (set firsts key (r + 1)) y 0 ≡ suc m) z e in
          let v : r ≡ m = omega (arith, here r, w) in
          (i, inr (refl, z), subst (λ (y : ℕ). R i y) v rel, omega (arith, v, l))
      go false q =
          let o = s.claims x m (omega (arith, h, length-set firsts key (r + 1))) (sym (get_or-set_other firsts key x (r + 1) 0 (eqb-false x key q)) ∙ e) in
          (o.0, inl o.1, o.2, o.3)

  -- each row shares its root with what stands at its key, where those of this key share theirs with r
  joint-more : (ups' : List ℕ) (r : ℕ) → ((j m : ℕ) → SameRoot ups j m → SameRoot ups' j m) → ((j m : ℕ) → get_or firsts key 0 ≡ suc m → SameRoot ups j m → SameRoot ups' j r) → SameRoot ups' i r
      → (j x : ℕ) → Also D key i j x → (m : ℕ) × (get_or (set firsts key (r + 1)) x 0 ≡ suc m) × SameRoot ups' j m
  joint-more ups' r keeps meets mine j x (inl d) = go (eqb x key) refl (s.joint j x d)
    where
      go : (t : Bool) → eqb x key ≡ t → (m : ℕ) × (get_or firsts x 0 ≡ suc m) × SameRoot ups j m → (m : ℕ) × (get_or (set firsts key (r + 1)) x 0 ≡ suc m) × SameRoot ups' j m
      go true q (m, e, o) =
          let z : x ≡ key = eqb-true x key q in
          (r, subst (λ (y : ℕ). get_or (set firsts key (r + 1)) y 0 ≡ suc r) (sym z) (here r), meets j m (subst (λ (y : ℕ). get_or firsts y 0 ≡ suc m) z e) o)
      go false q (m, e, o) = (m, get_or-set_other firsts key x (r + 1) 0 (eqb-false x key q) ∙ e, keeps j m o)
  joint-more ups' r keeps meets mine j x (inr (e, z)) = (r, subst (λ (y : ℕ). get_or (set firsts key (r + 1)) y 0 ≡ suc r) (sym z) (here r), subst (λ (y : ℕ). SameRoot ups' y r) (sym e) mine)

  first_more : get_or firsts key 0 ≡ 0 → Claimed R (Also D key i) k (set firsts key (low + 1)) ups
  first_more none = record {
    ups_long = s.ups_long;
    claims = claims-more low (along fits lead) low_fits;
    joint = joint-more ups low (λ j m o. o) (λ j m e o. absurd (omega (arith, e, none))) (record { root = low; one = lead; two = root-top lead });
    sound = s.sound;
    still = s.still;
  }

  module _ {ups' : List ℕ} (j : ℕ) (e : get_or firsts key 0 ≡ suc j) (u : United ups low j ups') where
    theirs : (a : ℕ) × D a key × R a j × (j < k)
    theirs = s.claims key j key_fits e

    one : low < length ups
    one = omega (arith, low_fits, s.ups_long)

    two : j < length ups
    two = omega (arith, theirs.3, s.ups_long)

    between : R low j
    between = on low i j (back i low (along fits lead)) (on i theirs.0 j (shares theirs.0 theirs.1) theirs.2)

    lowest : R low u.low
    lowest = go u.roots
      where
        go : (Root ups low u.low × Root ups j u.high) ⊎ (Root ups low u.high × Root ups j u.low) → R low u.low
        go (inl r) = along low_fits r.0
        go (inr r) = on low j u.low between (along theirs.3 r.1)

    down : SameRoot ups' low u.low
    down = let r = united-root u one two in record { root = u.low; one = r; two = root-top r }

    mine : SameRoot ups' i u.low
    mine = same-on (united-keeps u one two (record { root = low; one = lead; two = root-top lead })) down

    pub lead-more : Root ups' i u.low
    lead-more = subst (λ (r : ℕ). Root ups' i r) (root-one mine.two (root-top (united-root u one two))) mine.one

    higher : (p : ℕ) → k ≤ p → p < 256 → p ≤ get_or ups' p 0
    higher p l h = rw (u.is, get_or-set_other ups u.high p u.low 0 (λ z. omega (arith, z, (united-within u one two k low_fits theirs.3).1))) (s.still p l h)

    pub join_more : Claimed R (Also D key i) k (set firsts key (u.low + 1)) ups'
    join_more = record {
      ups_long = united-long u one two ∙ s.ups_long;
      claims = claims-more u.low (on i low u.low (along fits lead) lowest) (united-within u one two k low_fits theirs.3).0;
      joint = joint-more ups' u.low (λ a m o. united-keeps u one two o)
          (λ a m q o. same-on (united-keeps u one two (subst (λ (y : ℕ). SameRoot ups a y) (same_row m q) o)) (same-on (turn-same (united-same u one two)) down)) mine;
      sound = λ p h. united-sound u one two R self on back between (λ a l. s.sound a (omega (arith, l, s.ups_long))) p (omega (arith, h, s.ups_long));
      still = higher;
    }
      where
        same_row : (m : ℕ) → get_or firsts key 0 ≡ suc m → m ≡ j
        same_row m q = omega (arith, q, e)

  pub claimed-more : {firsts' ups' : List ℕ} {r : ℕ} → Claim firsts ups key low firsts' ups' r → Claimed R (Also D key i) k firsts' ups' × Root ups' i r
  claimed-more (fresh e f u q) = rw (f, u, q) (first_more e, lead)
  claimed-more (joins j e f (u, q)) = rw (f, q) (join_more j e u, lead-more j e u)

pub claim-long : {firsts ups firsts' ups' : List ℕ} {key low r : ℕ} → Claim firsts ups key low firsts' ups' r → length firsts' ≡ length firsts
claim-long {firsts} {ups} {firsts'} {ups'} {key} {low} {r} (fresh e f u q) = ap length f ∙ length-set firsts key (r + 1)
claim-long {firsts} {ups} {firsts'} {ups'} {key} {low} {r} (joins j e f u) = ap length f ∙ length-set firsts key (r + 1)

-- A row's two loaders

pub fits-one : (ties : List ℕ) (i : ℕ) → 16 ≤ get_or ties (i * 3) 0 → false ≡ tie_fits (tie_at ties i)
unfolding tie_fits tie_at every
fits-one ties i h = rw (le-ltb (get_or ties (i * 3) 0) 16 h, every) refl

pub fits-two : (ties : List ℕ) (i : ℕ) → get_or ties (i * 3) 0 < 16 → ltb (get_or ties (i * 3 + 1) 0) 16 ≡ tie_fits (tie_at ties i)
unfolding tie_fits tie_at every
fits-two ties i h = rw (lt-ltb (get_or ties (i * 3) 0) 16 h, every) (go (ltb (get_or ties (i * 3 + 1) 0) 16))
  where
    go : (t : Bool) → t ≡ elim t as (λ _. Bool) [ true ↦ true | false ↦ false ]
    go true = refl
    go false = refl

pub fits-loaders : (ties : List ℕ) (i : ℕ) → tie_fits (tie_at ties i) ≡ true → Loaders ties i
unfolding tie_fits tie_at every
fits-loaders ties i h = both (ltb (get_or ties (i * 3) 0) 16) refl (ltb (get_or ties (i * 3 + 1) 0) 16) refl h
  where
    both : (s : Bool) → ltb (get_or ties (i * 3) 0) 16 ≡ s → (t : Bool) → ltb (get_or ties (i * 3 + 1) 0) 16 ≡ t
        → elim s as (λ _. Bool) [ true ↦ elim t as (λ _. Bool) [ true ↦ true | false ↦ false ] | false ↦ false ] ≡ true → Loaders ties i
    both true p true q h = (subst (λ (x : ℕ). get_or ties x 0 < 16) (sym (add-zero (i * 3))) (ltb-true _ _ p), ltb-true _ _ q)
    both true p false q h = absurd (false≢true h)
    both false p t q h = absurd (false≢true h)
