-- Answers: a value, or a refusal with its word.
use Rattle.std.specs.Prelude.{◌≡◌, Bool, ℕ}
use Rattle.std.proofs.Math.Path.{refl}
use Rattle.std.proofs.Math.Bool.{true, false}
use Rattle.std.proofs.Math.Option.{Option, none, some}
use Rattle.definition.specs.Answers.{Result, ◌>>=◌, need, take?, wanted, ok, refused}
use Rattle.definition.specs.Requests.{Request}
use Rattle.definition.specs.declared.Refusal.{Refusal}
use Rattle.definition.specs.declared.Refusal.TheVariants.{Word}

pub ok-inj : {A : Type 0} {a b : A} → Path (Result A) (ok a) (ok b) → a ≡ b
ok-inj e = cc

pub bind_ok : {A B : Type 0} (o : Result A) (f : A → Result B) {b : B} → (o >>= f) ≡ ok b → (a : A) × (o ≡ ok a) × (f a ≡ ok b)
unfolding ◌>>=◌
bind_ok (refused w) f {b} h = let z : ◌≡◌ {A = ℕ} 0 1 = cc in absurd (zero_one z)
  where
    zero_one : ◌≡◌ {A = ℕ} 0 1 → ⊥
    zero_one e = omega native.Mathlib.Omega.arith
bind_ok (ok a) f h = (a, refl, h)

pub need-ok : (t : Bool) (w : Refusal) {u : Unit {0}} → need t w ≡ ok u → t ≡ true
unfolding need
need-ok true w h = refl
need-ok false w h = cc

pub take-ok : {A : Type 0} (o : Option A) (w : Refusal) {a : A} → take? o w ≡ ok a → o ≡ some a
unfolding take?
take-ok none w h = cc
take-ok (some a) w h = cc

-- What holds of an answer: it is not `stuck`, and a value has Q
abbrev pub NotStuck : Refusal → Type 0
NotStuck w = Path Refusal w (Word 14) → ⊥

abbrev pub Wp : {A : Type 0} → Result A → (A → Type 0) → Type 0
Wp (refused w) Q = NotStuck w
Wp (ok a) Q = Q a

pub not-word : (n : ℕ) → (n ≡ 14 → ⊥) → NotStuck (Word n)
not-word n h e = h (cc)

pub not-wanted : (r : Request) → NotStuck (wanted r)
not-wanted r e = let z : ◌≡◌ {A = ℕ} 0 1 = cc in omega native.Mathlib.Omega.arith

module _ {A B : Type 0} (Q : B → Type 0) where
  pub wp-bind : (o : Result A) (f : A → Result B) → Wp o (λ a. Wp (f a) Q) → Wp (o >>= f) Q
  unfolding ◌>>=◌
  wp-bind (refused w) f h = h
  wp-bind (ok a) f h = h

  pub wp-known : (o : Result A) (f : A → Result B) {a : A} → o ≡ ok a → Wp (f a) Q → Wp (o >>= f) Q
  unfolding ◌>>=◌
  wp-known o f e h = rw e h

  pub wp-take : (o : Option A) (w : Refusal) (f : A → Result B) → NotStuck w → ((a : A) → o ≡ some a → Wp (f a) Q) → Wp (take? o w >>= f) Q
  unfolding ◌>>=◌ take?
  wp-take none w f n h = n
  wp-take (some a) w f n h = h a refl

  pub wp-there : (o : Option A) (w : Refusal) (f : A → Result B) {a : A} → o ≡ some a → Wp (f a) Q → Wp (take? o w >>= f) Q
  unfolding ◌>>=◌ take?
  wp-there o w f e h = rw e h

module _ {B : Type 0} (Q : B → Type 0) where
  pub wp-need : (t : Bool) (w : Refusal) (f : Unit {0} → Result B) → NotStuck w → (t ≡ true → Wp (f tt) Q) → Wp (need t w >>= f) Q
  unfolding ◌>>=◌ need
  wp-need true w f n h = h refl
  wp-need false w f n h = n

  pub wp-sure : (t : Bool) (w : Refusal) (f : Unit {0} → Result B) → t ≡ true → Wp (f tt) Q → Wp (need t w >>= f) Q
  unfolding ◌>>=◌ need
  wp-sure t w f e h = rw e h
