-- What holds of what a call on tables leaves, by what holds of the call on rows.
use Rattle.std.specs.Prelude.{◌≡◌, Bool, true, ℕ}
use Rattle.std.proofs.Math.Path.{refl}
use Rattle.std.proofs.Math.Bool.{false}
use Rattle.definition.specs.declared.Refusal.{Refusal}
use Rattle.definition.specs.declared.Refusal.TheVariants.{Word}
use Rattle.definition.specs.Answers.{Result, refused, ok, ◌>>=◌}
use Rattle.std.proofs.Common.{arith}
use Rattle.laws.specs.Results.{ok-inj}
use Rattle.definition.specs.Tables.{Tables, Rows, view, put}
use Rattle.definition.specs.Broken.{broken}
use Rattle.definition.specs.Calls.{Given, Done, done, carried, wrap}

module _ {A : Type 0} (deny : Refusal → A) (f : Rows → Result (Given A)) (t : Tables) (P : A → Tables → Type 0) where
  pub wrapped : (broken t ≡ true → P (deny (Word 1)) t) → ((w : Refusal) → f (view t) ≡ refused w → P (deny w) t)
      → (broken t ≡ false → (g : Given A) → f (view t) ≡ ok g → P g.answer (put g.rows t)) → P (wrap deny f t).answer (wrap deny f t).tables
  unfolding wrap carried
  wrapped x y z = go (broken t) refl
    where
      res : broken t ≡ false → (o : Result (Given A)) → f (view t) ≡ o → P (carried deny t o).answer (carried deny t o).tables
      res h (refused w) e = y w e
      res h (ok g) e = z h g e

      go : (b : Bool) → broken t ≡ b → P (elim b as (λ _. Done A) [ true ↦ done (deny (Word 1)) t | false ↦ carried deny t (f (view t)) ]).answer
          (elim b as (λ _. Done A) [ true ↦ done (deny (Word 1)) t | false ↦ carried deny t (f (view t)) ]).tables
      go true e = x e
      go false e = res e (f (view t)) refl

pub wrap-broken : {A : Type 0} (deny : Refusal → A) (f : Rows → Result (Given A)) (t : Tables) → broken t ≡ true → wrap deny f t ≡ done (deny (Word 1)) t
unfolding wrap
wrap-broken deny f t h = rw (h, wrap) refl

-- on a store that isn't broken the test makes no difference
pub wrap-carried : {A : Type 0} (deny : Refusal → A) (f : Rows → Result (Given A)) (t : Tables) → broken t ≡ false → wrap deny f t ≡ carried deny t (f (view t))
unfolding wrap
wrap-carried deny f t h = rw (h, wrap) refl

-- what holds of an accepted answer's value
abbrev pub Ok : {A : Type 0} → Result A → (A → Type 0) → Type 0
Ok (refused w) Q = Unit {0}
Ok (ok a) Q = Q a

pub then : {A B : Type 0} (Q : B → Type 0) (o : Result A) (f : A → Result B) → ((a : A) → o ≡ ok a → Ok (f a) Q) → Ok (o >>= f) Q
unfolding ◌>>=◌
then Q (refused w) f k = tt
then Q (ok a) f k = k a refl

pub ok_at : {A : Type 0} (Q : A → Type 0) (o : Result A) → Ok o Q → (a : A) → o ≡ ok a → Q a
ok_at Q (refused w) h a e = absurd (let z : ◌≡◌ {A = ℕ} 0 1 = cc in omega arith)
ok_at Q (ok b) h a e = rw (ok-inj e) at h
