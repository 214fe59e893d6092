-- Classes whose files are of version 1 are read the same by both machines, and none of their instructions branches.
use Rattle.std.specs.Prelude.{◌≡◌, refl, Bool, true, false, List, [], ◌∷◌, map, ℕ, zero, suc, ◌+◌, length, take, drop, leb, ltb}
use Rattle.std.proofs.Common.{sym, ap, eqb-true}
use Rattle.std.proofs.lemmas.Bool.{false≢true}
use Rattle.std.proofs.Math.Option.{Option, none, some, none-ne-some, some-injective}
use Rattle.std.proofs.Math.ListN.{get_elem?}
use Rattle.definition.specs.declared.Refusal.{Refusal}
use Rattle.definition.specs.declared.Refusal.TheVariants.{Word}
use Rattle.definition.specs.Numbers.{word_stuck, loader_limit, field_limit}
use Rattle.definition.specs.Lists.{every, any, all_from, is_some}
use Rattle.definition.specs.Answers.{Result, ok, ◌>>=◌, take?}
use Rattle.definition.specs.Maybe as Maybe
use Rattle.definition.specs.Classes.{Base, Class, super_of}
use Rattle.definition.specs.Constraints.{World}
use Rattle.definition.specs.File.{File, class_of, object_class}
use Rattle.definition.specs.Instructions.{Decoded}
use Rattle.definition.specs.Machine.{Frame, Now, now}
use Rattle.definition.specs.Tables.{ClassRow, file_at, class_at, size_of}
use Rattle.definition.specs.Broken.{is_object, class_fits, classes_fit}
use Rattle.laws.specs.Options.{bind-some, holds_at}
use Rattle.laws.specs.Results.{bind_ok, ok-inj, take-ok}
use Rattle.layout.specs.Tests.{All, every_true, is-some}
use Rattle.definition.specs.First.Files.{first_decode}
use Rattle.definition.specs.First.Machine.{first_now}
use Rattle.definition.specs.First.Tables.{first_file_at, first_class_at}
use Rattle.definition.specs.First.Broken.{first_class_fits, first_classes_fit}
use Rattle.first.specs.SameFiles.{later_file, Old, Straight, same_read, read-early, read-old, same-decode, decode-straight}

-- the row's bytes begin with version 2 or 3
unfoldable pub later_row : List ℕ → ClassRow → Bool
later_row bs k = later_file (take k.size (drop k.start bs))

-- no row's do
abbrev pub Early : List ℕ → List ClassRow → Type 0
Early bs ks = All (λ k. later_row bs k ≡ false) ks

pub early : (bs : List ℕ) (ks : List ClassRow) → any (later_row bs) ks ≡ false → Early bs ks
unfolding any
early bs [] h = tt
early bs (k ∷ ks) h = go (later_row bs k) refl h (early bs ks)
  where
    go : (t : Bool) → later_row bs k ≡ t → (elim t as (λ _. Bool) [ true ↦ true | false ↦ any (later_row bs) ks ]) ≡ false → (any (later_row bs) ks ≡ false → Early bs ks) → Early bs (k ∷ ks)
    go true e q ih = absurd (false≢true (sym q))
    go false e q ih = (e, ih q)

same-file : (bs : List ℕ) (k : ClassRow) → later_row bs k ≡ false → first_file_at bs k ≡ file_at bs k
unfolding first_file_at file_at later_row
same-file bs k h = ap (λ (f : Option File). Maybe.◌>>=◌ (Maybe.need (leb (k.start + k.size) (length bs))) (λ _. f)) (same_read (take k.size (drop k.start bs)) h)

same_class : (bs : List ℕ) (k : ClassRow) → later_row bs k ≡ false → first_class_at bs k ≡ class_at bs k
unfolding first_class_at class_at
same_class bs k h = ap (λ (o : Option File). elim o as (λ _. Class) [ none ↦ object_class | some f ↦ class_of k.loader f ]) (same-file bs k h)

pub same-classes : (bs : List ℕ) (ks : List ClassRow) → Early bs ks → map (first_class_at bs) ks ≡ map (class_at bs) ks
same-classes bs [] h = refl
same-classes bs (k ∷ ks) h = λ i. same_class bs k h.0 i ∷ same-classes bs ks h.1 i

class-old : (bs : List ℕ) (k : ClassRow) → later_row bs k ≡ false → Old (class_at bs k).version
unfolding class_at file_at later_row
class-old bs k h = go (file_at bs k) refl
  where
    go : (o : Option File) → file_at bs k ≡ o → Old (elim o as (λ _. Class) [ none ↦ object_class | some f ↦ class_of k.loader f ]).version
    go none e = refl
    go (some f) e = let a = bind-some _ _ e in (read-old k.loader (take k.size (drop k.start bs)) h f a.2).0

pub classes-old : (bs : List ℕ) (ks : List ClassRow) → Early bs ks → (c : ℕ) (k : Class) → get_elem? (map (class_at bs) ks) c ≡ some k → Old k.version
classes-old bs [] h c k e = absurd (none-ne-some k e)
classes-old bs (r ∷ ks) h zero k e = rw (some-injective _ _ e) at (class-old bs r h.0)
classes-old bs (r ∷ ks) h (suc c) k e = classes-old bs ks h.1 c k e

-- 'Broken' asks the same of them

same-fits : (b : Base) (bs : List ℕ) (c : ℕ) (k : ClassRow) → later_row bs k ≡ false → first_class_fits b bs c k ≡ class_fits b bs c k
unfolding first_class_fits class_fits
same-fits b bs c k h = λ i. every (ltb k.loader loader_limit ∷ is_some (same-file bs k h i) ∷ is_some (super_of b c) ∷ leb (size_of b c) field_limit ∷ [])

same_from : (b : Base) (bs : List ℕ) (c : ℕ) (ks : List ClassRow) → Early bs ks → all_from (first_class_fits b bs) c ks ≡ all_from (class_fits b bs) c ks
unfolding all_from
same_from b bs c [] h = refl
same_from b bs c (k ∷ ks) h = λ i. elim (same-fits b bs c k h.0 i) as (λ _. Bool) [ true ↦ same_from b bs (suc c) ks h.1 i | false ↦ false ]

pub same-classes-fit : (b : Base) (bs : List ℕ) (ks : List ClassRow) → Early bs ks → first_classes_fit b bs ks ≡ classes_fit b bs ks
unfolding first_classes_fit classes_fit
same-classes-fit b bs [] h = refl
same-classes-fit b bs (k ∷ ks) h = λ i. every (is_object k ∷ same_from b bs 1 ks h.1 i ∷ [])

-- and what the first document's test passes is of version 1

row-early : (bs : List ℕ) (k : ClassRow) → is_some (first_file_at bs k) ≡ true → later_row bs k ≡ false
unfolding first_file_at later_row
row-early bs k h = let f = is-some _ h in let a = bind-some _ _ f.1 in read-early (take k.size (drop k.start bs)) f.0 a.2

class-early : (b : Base) (bs : List ℕ) (c : ℕ) (k : ClassRow) → first_class_fits b bs c k ≡ true → later_row bs k ≡ false
unfolding first_class_fits
class-early b bs c k e = row-early bs k (every_true _ e).1.0

from-early : (b : Base) (bs : List ℕ) (c : ℕ) (ks : List ClassRow) → all_from (first_class_fits b bs) c ks ≡ true → Early bs ks
unfolding all_from
from-early b bs c [] h = tt
from-early b bs c (k ∷ ks) h = go (first_class_fits b bs c k) refl h (from-early b bs (suc c) ks)
  where
    go : (t : Bool) → first_class_fits b bs c k ≡ t → (elim t as (λ _. Bool) [ true ↦ all_from (first_class_fits b bs) (suc c) ks | false ↦ false ]) ≡ true
        → (all_from (first_class_fits b bs) (suc c) ks ≡ true → Early bs ks) → Early bs (k ∷ ks)
    go true e q ih = (class-early b bs c k e, ih q)
    go false e q ih = absurd (false≢true q)

pub object-early : (bs : List ℕ) (k : ClassRow) → is_object k ≡ true → later_row bs k ≡ false
unfolding is_object later_row later_file
object-early bs k h = rw (eqb-true k.size 0 (every_true _ h).1.1.0) refl

pub fits-early : (b : Base) (bs : List ℕ) (ks : List ClassRow) → first_classes_fit b bs ks ≡ true → Early bs ks
unfolding first_classes_fit
fits-early b bs [] h = tt
fits-early b bs (k ∷ ks) h = let p = every_true _ h in (object-early bs k p.0, from-early b bs 1 ks p.1.0)

-- The instruction at a frame's point

take_in : {A B : Type 0} (o : Option A) (w : Refusal) (f g : A → Result B) → ((a : A) → o ≡ some a → f a ≡ g a) → (take? o w >>= f) ≡ (take? o w >>= g)
unfolding ◌>>=◌ take?
take_in none w f g k = refl
take_in (some a) w f g k = k a refl

pub same-now : (w : World) (f : Frame) → ((c : ℕ) (k : Class) → get_elem? w.base.classes c ≡ some k → Old k.version) → first_now w f ≡ now w f
unfolding first_now now
same-now w f old = take_in _ _ _ _ (λ k e. take_in _ _ _ _ (λ m _. ap (λ (o : Option Decoded). take? o (Word word_stuck) >>= λ i. ok (record { the_class = k; method = m; at = i })) (same-decode k.version m.code f.point (old f.class k e))))

pub now-straight : (w : World) (f : Frame) (n : Now) → first_now w f ≡ ok n → Straight n.at.instruction
unfolding first_now
now-straight w f n e =
    let a = bind_ok _ _ e in
    let b = bind_ok _ _ a.2 in
    let c = bind_ok _ _ b.2 in
    rw (sym (ap (λ (y : Now). y.at) (ok-inj c.2))) (holds_at (λ i. Straight i.instruction) (first_decode b.0.code f.point) c.0 (decode-straight b.0.code f.point) (take-ok _ _ c.1))
