-- Two answers that are alike: the same refusal, or values that stand in a relation; or the second is refused for the report's share, which the first document doesn't have. In
-- sequence what is alike stays alike.
use Rattle.std.specs.Prelude.{◌≡◌, ◌⊎◌, Bool}
use Rattle.std.proofs.Math.Path.{refl}
use Rattle.std.proofs.Math.Logic.{inl}
use Rattle.std.proofs.Common.{inr}
use Rattle.std.proofs.Math.Bool.{true, false}
use Rattle.definition.specs.Numbers.{word_share}
use Rattle.definition.specs.declared.Refusal.{Refusal}
use Rattle.definition.specs.declared.Refusal.TheVariants.{Word}
use Rattle.definition.specs.Answers.{Result, refused, ok, ◌>>=◌, need}

abbrev pub Likewise : {A B : Type 0} → (A → B → Type 0) → Result A → Result B → Type 0
Likewise R (refused v) (refused w) = (v ≡ w) ⊎ (w ≡ Word word_share)
Likewise R (refused v) (ok b) = ⊥
Likewise R (ok a) (refused w) = w ≡ Word word_share
Likewise R (ok a) (ok b) = R a b

-- whatever the first is
pub shared : {A B : Type 0} (R : A → B → Type 0) (o : Result A) (w : Refusal) → w ≡ Word word_share → Likewise R o (refused w)
shared R (refused v) w e = inr e
shared R (ok a) w e = e

-- after answers that are alike
pub both : {A B C D : Type 0} (R : A → B → Type 0) (Q : C → D → Type 0) (o : Result A) (p : Result B) (f : A → Result C) (g : B → Result D)
    → Likewise R o p → ((a : A) (b : B) → R a b → Likewise Q (f a) (g b)) → Likewise Q (o >>= f) (p >>= g)
unfolding ◌>>=◌
both R Q (refused v) (refused w) f g h k = h
both R Q (refused v) (ok b) f g h k = absurd h
both R Q (ok a) (refused w) f g h k = shared Q (f a) w h
both R Q (ok a) (ok b) f g h k = k a b h

module _ {C D : Type 0} (Q : C → D → Type 0) where
  -- after one answer, however each writes it
  pub after : {A : Type 0} (o p : Result A) → o ≡ p → (f : A → Result C) (g : A → Result D) → ((a : A) → Likewise Q (f a) (g a)) → Likewise Q (o >>= f) (p >>= g)
  unfolding ◌>>=◌
  after (refused w) p e f g k = rw (← e) (inl refl)
  after (ok a) p e f g k = rw (← e) (k a)

  -- where the value is known to be the answer's
  pub after-in : {A : Type 0} (o p : Result A) → o ≡ p → (f : A → Result C) (g : A → Result D) → ((a : A) → o ≡ ok a → Likewise Q (f a) (g a)) → Likewise Q (o >>= f) (p >>= g)
  unfolding ◌>>=◌
  after-in (refused w) p e f g k = rw (← e) (inl refl)
  after-in (ok a) p e f g k = rw (← e) (k a refl)

  -- after a test that passed
  pub passed : (t : Bool) (w : Refusal) (f : Unit {0} → Result C) (g : Unit {0} → Result D) → (t ≡ true → Likewise Q (f tt) (g tt))
      → Likewise Q (need t w >>= f) (need t w >>= g)
  unfolding ◌>>=◌ need
  passed true w f g k = k refl
  passed false w f g k = inl refl

  -- where the second asks for the share as well
  pub asked : {A : Type 0} (t : Bool) (o : Result A) (f : A → Result C) (g : Unit {0} → Result D) → (t ≡ true → Likewise Q (o >>= f) (g tt)) → Likewise Q (o >>= f) (need t (Word word_share) >>= g)
  unfolding ◌>>=◌ need
  asked true o f g h = h refl
  asked false o f g h = shared Q (o >>= f) (Word word_share) refl
