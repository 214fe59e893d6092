-- A define, a record, a start, a drop, a sweep and a tried load refuse with the first cause that applies.
use Rattle.std.specs.Prelude.{◌≡◌, Bool, ◌&&◌, ◌||◌, ℕ, ◌+◌, length, ltb}
use Rattle.std.proofs.Math.Path.{refl, sym}
use Rattle.std.proofs.Common.{◌∙◌, arith, eq-eqb}
use Rattle.std.proofs.Math.Bool.{true, false, not, not-not}
use Rattle.std.proofs.Math.Option.{Option, none, some}
use mathlib.Core.List.{List, [], ◌∷◌}
use Rattle.std.proofs.Math.ListN.{get_elem?}
use Rattle.std.proofs.Math.Dec.{eqb, leb}
use Rattle.definition.specs.declared.Refusal.{Refusal}
use Rattle.definition.specs.declared.Refusal.TheVariants.{Word}
use Rattle.definition.specs.declared.Reply.{Reply}
use Rattle.definition.specs.Requests.{at}
use Rattle.definition.specs.Answers.{number, wanted, Result, refused, ok, ◌>>=◌, need, take?}
use Rattle.definition.specs.Classes.{find, selected, start_signature}
use Rattle.definition.specs.Constraints.{World, agrees}
use Rattle.definition.specs.Lists.{any, is_none}
use Rattle.definition.specs.Machine.{roomless, share_used}
use Rattle.definition.specs.Loading.{with_entry, define, recorded, started}
use Rattle.definition.specs.Verifier.{unmapped, notes_of}
use Rattle.definition.specs.File.{File, read_file, class_of}
use Rattle.definition.specs.Tables.{Level, Rows, world_of, frames_in}
use Rattle.definition.specs.Calls.{define_rows, record_rows, start_rows, drop_rows, sweep_rows, taken_back, RowCall, row_define, row_record, row_start, row_drop, row_sweep, row_try, row_take_back, on_row_call, Given, Load, load_define, load_record, tried_with, try_rows}
use Rattle.definition.specs.Maybe as Maybe
use Rattle.laws.specs.Causes.{is_empty, Cause, cause, first, words, secondly, load_causes, is_some_and, define_passes, define_clashes, define_causes, record_causes, start_causes, row_causes}

-- the number of a result
unfoldable pub number_in : {A : Type 0} → Result A → ℕ
number_in (refused w) = number w
number_in (ok a) = 0

-- One test after another

module _ {B : Type 0} (cs : List Cause) where
  pub first-need : (t : Bool) (w : Refusal) (f : Unit {0} → Result B) → (t ≡ true → number_in (f tt) ≡ first cs) → number_in (need t w >>= f) ≡ first (cause (number w) (not t) ∷ cs)
  unfolding number_in first need ◌>>=◌
  first-need true w f h = h refl
  first-need false w f h = refl

  pub first-unless : (t : Bool) (w : Refusal) (f : Unit {0} → Result B) → number_in (f tt) ≡ first cs → number_in (need (not t) w >>= f) ≡ first (cause (number w) t ∷ cs)
  unfolding number_in first need ◌>>=◌
  first-unless true w f h = refl
  first-unless false w f h = h

  pub first-take : {A : Type 0} (o : Option A) (w : Refusal) (f : A → Result B) → ((a : A) → o ≡ some a → number_in (f a) ≡ first cs) → number_in (take? o w >>= f) ≡ first (cause (number w) (is_none o) ∷ cs)
  unfolding number_in first take? ◌>>=◌ is_none
  first-take none w f h = refl
  first-take (some a) w f h = h a refl

pub first-skip : (n : ℕ) (cs : List Cause) → first (cause n false ∷ cs) ≡ first cs
unfolding first
first-skip n cs = refl

pub first-or : (n : ℕ) (a b : Bool) (cs : List Cause) → first (cause n (a || b) ∷ cs) ≡ first (cause n a ∷ cause n b ∷ cs)
unfolding first
first-or n true b cs = refl
first-or n false b cs = refl

-- what is always given back changes no number
pub number-on : {A B : Type 0} (o : Result A) (f : A → B) → number_in (o >>= λ a. ok (f a)) ≡ number_in o
unfolding number_in ◌>>=◌
number-on (refused w) f = refl
number-on (ok a) f = refl

pub number_ok : {A : Type 0} (a : A) → number_in (ok a) ≡ first []
unfolding number_in first
number_ok a = refl

-- what is there is taken
pub number-there : {A B : Type 0} (cs : List Cause) (o : Option A) (w : Refusal) (f : A → Result B) {a : A} → o ≡ some a → number_in (f a) ≡ first cs → number_in (take? o w >>= f) ≡ first cs
unfolding take? ◌>>=◌
number-there cs o w f e h = rw e h

-- A load whose first cause is 'unknown', tried with a list of n numbers: 'short list' is one more cause, straight after it

-- a word that no cause has is not the first
pub first-other : (w : ℕ) (cs : List Cause) → eqb 0 w ≡ false → any (λ (v : ℕ). eqb v w) (words cs) ≡ false → eqb (first cs) w ≡ false
unfolding first any
first-other w [] z h = z
first-other w (c ∷ cs) z h = go c.applies (eqb c.word w) refl h (first-other w cs z)
  where
    go : (a b : Bool) → eqb c.word w ≡ b → ◌≡◌ {A = Bool} (elim b as (λ _. Bool) [ true ↦ true | false ↦ any (λ (v : ℕ). eqb v w) (words cs) ]) false
        → (any (λ (v : ℕ). eqb v w) (words cs) ≡ false → eqb (first cs) w ≡ false) → eqb (elim a as (λ _. ℕ) [ true ↦ c.word | false ↦ first cs ]) w ≡ false
    go a true e h ih = cc
    go true false e h ih = e
    go false false e h ih = ih h

module _ (n : ℕ) (r : Rows) where
  number-tried : (o : Result (Given Reply)) (a : Bool) (cs : List Cause) → number_in o ≡ first (cause 3 a ∷ cs) → any (λ (v : ℕ). eqb v 3) (words cs) ≡ false
      → number_in (tried_with n r o) ≡ first (cause 3 a ∷ cause 16 (ltb n 512) ∷ cs)
  unfolding tried_with number_in first number
  number-tried (ok g) true cs h u = absurd (omega arith)
  number-tried (ok g) false cs h u = go (ltb n 512)
    where
      go : (s : Bool) → number_in {A = Given Reply} (elim s as (λ _. Result (Given Reply)) [ true ↦ refused (Word 16) | false ↦ ok (record { answer = g.answer; rows = r }) ]) ≡ first (cause 16 s ∷ cs)
      go true = refl
      go false = h
  number-tried (refused w) a cs h u = by a (ltb n 512) (eqb (number w) 3) refl h
    where
      by : (a s b : Bool) → eqb (number w) 3 ≡ b → number w ≡ first (cause 3 a ∷ cs)
          → number_in {A = Given Reply} (elim (s && not b) as (λ _. Result (Given Reply)) [ true ↦ refused (Word 16) | false ↦ refused w ]) ≡ first (cause 3 a ∷ cause 16 s ∷ cs)
      by true true true e h = h
      by true s false e h = cc (eq-eqb (number w) 3 h)
      by true false true e h = h
      by false s true e h = cc (first-other 3 cs refl u)
      by false true false e h = refl
      by false false false e h = h

-- Loading and starting

module _ (r : Rows) where
  abbrev W : World
  W = world_of r

  define-class : (l : ℕ) (bs : List ℕ) (f : File) → number_in (define (leb (length r.kept + length bs) 16384) (class_of l f) W)
      ≡ first (cause 15 (any (unmapped (class_of l f)) f.methods)
      ∷ cause 6 (is_none (notes_of (class_of l f) f.methods))
      ∷ cause 4 (not (is_none (find r.cache (at l f.name))))
      ∷ cause 5 (is_none (find r.cache (at l f.super)))
      ∷ cause 10 (is_some_and (find r.cache (at l f.super)) (λ p. is_some_and (notes_of (class_of l f) f.methods) (define_passes r l f bs p)))
      ∷ cause 9 (is_some_and (find r.cache (at l f.super)) (λ p. is_some_and (notes_of (class_of l f) f.methods) (define_clashes r l f p)))
      ∷ [])
  unfolding define define_passes define_clashes number
  define-class l bs f =
      first-unless _ (any (unmapped (class_of l f)) f.methods) (Word 15) _
      (first-take _ (notes_of (class_of l f) f.methods) (Word 6) _ (λ ns e. first-need _ (is_none (find r.cache (at l f.name))) (Word 4) _ (λ _.
      first-take _ (find r.cache (at l f.super)) (wanted (at l f.super)) _ (λ p q. rw (q, e)
      (first-need _ _ (Word 10) _ (λ _. first-need [] _ (Word 9) _ (λ _. number_ok _)))))))

  define-first : (l : ℕ) (bs : List ℕ) → number_in (define_rows l bs r) ≡ first (define_causes l bs r)
  unfolding define_rows define_causes number Maybe.◌>>=◌
  define-first l bs = first-need _ (ltb l 16) (Word 3) _ (λ _. first-take _ (read_file bs) (Word 2) _ (λ f e. rw e (number-on (define _ (class_of l f) W) _ ∙ define-class l bs f)))

  entry_first : (l n c : ℕ) (o : Option ℕ) → number_in {A = World} (elim o as (λ _. Result World) [
    | some d ↦ need (eqb d c) (Word 4) >>= λ _. ok W
    | none ↦ need (ltb (length r.cache) 256) (Word 10) >>= λ _. need (agrees (with_entry W (at l n) c)) (Word 9) >>= λ _. ok (with_entry W (at l n) c)
  ]) ≡ first (cause 4 (is_some_and o (λ d. not (eqb d c))) ∷ cause 10 (is_none o && not (ltb (length r.cache) 256)) ∷ cause 9 (is_none o && not (agrees (with_entry W (at l n) c))) ∷ [])
  unfolding is_none number
  entry_first l n c none = first-need _ _ (Word 10) _ (λ _. first-need [] _ (Word 9) _ (λ _. number_ok _)) ∙ sym (first-skip 4 _)
  entry_first l n c (some d) = first-need _ (eqb d c) (Word 4) _ (λ _. number_ok W ∙ sym (first-skip 10 _ ∙ first-skip 9 _))

  record-first : (l n c : ℕ) → number_in (record_rows l n c r) ≡ first (record_causes l n c r)
  unfolding record_rows record_causes recorded number
  record-first l n c = number-on (recorded l n c W) _ ∙ first-need _ (ltb l 16 && leb 2 n) (Word 3) _ (λ _. first-take _ (get_elem? W.base.classes c) (Word 3) _ (λ k e. rw e
      (first-need _ (eqb k.name n) (Word 13) _ (λ _. entry_first l n c (find r.cache (at l n)))))) ∙ sym (first-or 3 _ _ _)

  started-first : (k l n m v : ℕ) → number_in (started k l n m v W r.objects (frames_in k r)) ≡ first (cause 3 (not (ltb l 16 && leb 2 n && leb 1 m)) ∷ cause 12 (not (leb (length (frames_in k r)) 0))
      ∷ cause 5 (is_none (find r.cache (at l n))) ∷ cause 7 (is_some_and (find r.cache (at l n)) (λ c. is_none (selected W.base (start_signature m) c)))
      ∷ cause 18 (share_used k r.objects) ∷ cause 10 (roomless k r.objects) ∷ [])
  unfolding started number
  started-first k l n m v = first-need _ (ltb l 16 && leb 2 n && leb 1 m) (Word 3) _ (λ _. first-need _ _ (Word 12) _ (λ _. first-take _ (find r.cache (at l n)) (wanted (at l n)) _ (λ c q. rw q
      (first-take _ (selected W.base (start_signature m) c) (Word 7) _ (λ _ _.
      first-need _ (not (share_used k r.objects)) (Word 18) _ (λ _. first-need [] (not (roomless k r.objects)) (Word 10) _ (λ _. number_ok _))
      ∙ (λ i. first (cause 18 (not-not (share_used k r.objects) i) ∷ cause 10 (not-not (roomless k r.objects) i) ∷ [])))))))

  start_first : (k l n m v : ℕ) → number_in (start_rows k l n m v r) ≡ first (start_causes k l n m r)
  unfolding start_rows start_causes number
  start_first k l n m v = first-need _ (ltb k 2) (Word 3) _ (λ _. number-on (started k l n m v W r.objects (frames_in k r)) _ ∙ started-first k l n m v) ∙ sym (first-or 3 _ _ _)

  drop-first : (k : ℕ) → number_in (drop_rows k r) ≡ first (cause 3 (not (ltb k 2)) ∷ [])
  unfolding drop_rows number
  drop-first k = first-need [] (ltb k 2) (Word 3) _ (λ _. number_ok _)

  try-first : (c : Load) (n : ℕ) → number_in (try_rows c n r) ≡ first (secondly (cause 16 (ltb n 512)) (load_causes c r))
  unfolding try_rows define_causes record_causes any
  try-first (load_define l bs) n = number-tried n r (define_rows l bs r) _ _ (define-first l bs) refl
  try-first (load_record l x c) n = number-tried n r (record_rows l x c r) _ _ (record-first l x c) refl

  back-first : (ls : List Level) → number_in (taken_back ls r) ≡ first (cause 19 (is_empty ls) ∷ [])
  unfolding taken_back first number number_in
  back-first [] = refl
  back-first (l ∷ ls) = refl

  pub rows-first : (c : RowCall) → number_in (on_row_call c r) ≡ first (row_causes c r)
  unfolding row_causes
  rows-first (row_define l bs) = define-first l bs
  rows-first (row_record l n c) = record-first l n c
  rows-first (row_start k l n m v) = start_first k l n m v
  rows-first (row_drop k) = drop-first k
  rows-first row_sweep = unfold sweep_rows first in number_ok _
  rows-first (row_try c n) = try-first c n
  rows-first row_take_back = back-first r.trace
