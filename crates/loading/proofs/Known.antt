-- The numbers of a load: without them it is refused with 3, and with them it is refused with another word if at all.
use mathlib.Core.Path.{◌≡◌, refl, sym, ap, subst, ◌∙◌}
use mathlib.Core.Bool.{Bool, true, false, false≢true, ◌&&◌}
use mathlib.Core.List.{List}
use Prim.Native.Nat.{ℕ, ◌≤◌, ◌<◌}
use lib.ListN.{length, get_or}
use lib.Dec.{leb, ltb}
use borrow.Author.Tests.{leb-true, leb-false, ltb-true, ltb-false, le-leb, lt-leb, lt-ltb, le-ltb}
use Rattle.definition.specs.declared.Refusal.TheVariants.{Word}
use Rattle.definition.specs.Answers.{refused, number, ◌>>=◌, need}
use Rattle.definition.specs.Tables.{Tables, view}
use Rattle.definition.specs.Broken.{broken}
use Rattle.definition.specs.Calls.{define_rows, load_rows}
use Rattle.definition.specs.Loading.{recorded}
use Rattle.laws.specs.Refusals.{Refuses}
use Rattle.resolution.specs.Quick.{class-there, class-past}
use Rattle.entries.specs.World.{quick_world}
use Rattle.loading.specs.declared.loads.Load.{Load}
use Rattle.loading.specs.declared.loads.Load.TheVariants.{Define, Record}
use Rattle.loading.specs.Plans.{load_of, Lent, known}
use Rattle.loading.proofs.Carried.{define-known}
use Rattle.loading.proofs.Recorded.{no-loader, no_name, no-class, record-unknown, record-known}

pub record KnownEntry (l n c k : ℕ) : Type 0 where
  pub loader : l < 16
  pub name : 2 ≤ n
  pub class : c < k

pub known-entry : (l n c k : ℕ) → (ltb l 16 && leb 2 n && ltb c k) ≡ true → KnownEntry l n c k
known-entry l n c k h = go (ltb l 16) refl (leb 2 n) refl (ltb c k) refl h
  where
    go : (x : Bool) → ltb l 16 ≡ x → (y : Bool) → leb 2 n ≡ y → (z : Bool) → ltb c k ≡ z → (x && y && z) ≡ true → KnownEntry l n c k
    go true a true b true d q = record { loader = ltb-true l 16 a; name = leb-true 2 n b; class = ltb-true c k d }
    go true a true b false d q = absurd (false≢true q)
    go true a false b z d q = absurd (false≢true q)
    go false a y b z d q = absurd (false≢true q)

module _ (x : Load) (counts : List ℕ) where
  pub define-loader : (l : ℕ) → x ≡ Define l → known x counts ≡ true → l < 16
  unfolding known
  define-loader l e h = ltb-true l 16 (sym (ap (λ (y : Load). known y counts) e) ∙ h)

  pub define-lent : (l : ℕ) (u v : List ℕ) → x ≡ Define l → Lent x u v → (length u ≡ 888) × (length v ≡ 768)
  unfolding Lent
  define-lent l u v e h = subst (λ (y : Load). Lent y u v) e h

  pub define-tested : (l : ℕ) → x ≡ Define l → ltb l 16 ≡ known x counts
  unfolding known
  define-tested l e = sym (ap (λ (y : Load). known y counts) e)

  module _ (l n c : ℕ) (e : x ≡ Record l n c) where
    whole : (ltb l 16 && leb 2 n && ltb c (get_or counts 0 0)) ≡ known x counts
    unfolding known
    whole = sym (ap (λ (y : Load). known y counts) e)

    pub record-entry : known x counts ≡ true → KnownEntry l n c (get_or counts 0 0)
    record-entry h = known-entry l n c (get_or counts 0 0) (whole ∙ h)

    pub record-no-loader : 16 ≤ l → false ≡ known x counts
    record-no-loader h = let z : (ltb l 16 && leb 2 n && ltb c (get_or counts 0 0)) ≡ false = rw (le-ltb l 16 h) refl in sym z ∙ whole

    pub record-no-name : l < 16 → n < 2 → false ≡ known x counts
    record-no-name h k = let z : (ltb l 16 && leb 2 n && ltb c (get_or counts 0 0)) ≡ false = rw (lt-ltb l 16 h, lt-leb 2 n k) refl in sym z ∙ whole

    pub record-tested : l < 16 → 2 ≤ n → ltb c (get_or counts 0 0) ≡ known x counts
    record-tested h k = let z : (ltb l 16 && leb 2 n && ltb c (get_or counts 0 0)) ≡ ltb c (get_or counts 0 0) = rw (lt-ltb l 16 h, le-leb 2 n k) refl in sym z ∙ whole

module _ (t : Tables) (sound : broken t ≡ false) (bs : List ℕ) where
  pub load-unknown : (x : Load) → known x t.counts ≡ false → load_rows (load_of x bs) (view t) ≡ refused (Word 3)
  unfolding known load_of define_rows need ◌>>=◌
  load-unknown (Define l) h = rw h
  load-unknown (Record l n c) h = record-unknown t l n c sound (go (ltb l 16) refl (leb 2 n) refl (ltb c (get_or t.counts 0 0)) refl h)
    where
      go : (x : Bool) → ltb l 16 ≡ x → (y : Bool) → leb 2 n ≡ y → (z : Bool) → ltb c (get_or t.counts 0 0) ≡ z → (x && y && z) ≡ false
          → refused (Word 3) ≡ recorded l n c (quick_world t)
      go true a true b true d q = cc
      go true a true b false d q =
          no-class l n c (quick_world t) (ltb-true l 16 a) (leb-true 2 n b) (class-past t.counts t.classes t.kept t.cache c (ltb-false c (get_or t.counts 0 0) d))
      go true a false b z d q = no_name l n c (quick_world t) (ltb-true l 16 a) (leb-false 2 n b)
      go false a y b z d q = no-loader l n c (quick_world t) (ltb-false l 16 a)

  pub load-known : (x : Load) → known x t.counts ≡ true → Refuses (λ r. number r ≡ 3 → ⊥) (load_rows (load_of x bs) (view t))
  unfolding known load_of
  load-known (Define l) h = define-known t l bs sound (ltb-true l 16 h)
  load-known (Record l n c) h =
      let k = known-entry l n c (get_or t.counts 0 0) h in
      record-known t l n c sound k.loader k.name _ (class-there t.counts t.classes t.kept t.cache c k.class)
