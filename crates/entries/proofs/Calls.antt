-- Any call on tables by what it decides: a broken store, a refusal, and what is written.
use Rattle.std.proofs.Common.{◌≡◌, true, false, sym, refl, ap, ◌∙◌}
use Rattle.definition.specs.declared.Refusal.{Refusal}
use Rattle.definition.specs.declared.Refusal.TheVariants.{Word}
use Rattle.definition.specs.Answers.{Result, refused, ok}
use Rattle.definition.specs.Tables.{Tables, Rows, view, put}
use Rattle.definition.specs.Broken.{broken}
use Rattle.definition.specs.Calls.{Given, done, carried, wrap}
use Rattle.laws.specs.Wrapped.{wrap-carried}

module _ {A : Type 0} (deny : Refusal → A) (f : Rows → Result (Given A)) (t : Tables) where
  pub wrap-broken : broken t ≡ true → done (deny (Word 1)) t ≡ wrap deny f t
  unfolding wrap
  wrap-broken h = rw (h, wrap) refl

  module _ (sound : broken t ≡ false) where
    pub wrap-refused : (w : Refusal) → f (view t) ≡ refused w → done (deny w) t ≡ wrap deny f t
    unfolding carried
    wrap-refused w h = sym (wrap-carried deny f t sound ∙ rw h)

    pub wrap-given : (a : A) (r : Rows) (u : Tables) → f (view t) ≡ ok (record { answer = a; rows = r }) → put r t ≡ u → done a u ≡ wrap deny f t
    unfolding carried
    wrap-given a r u h e = sym (wrap-carried deny f t sound ∙ (rw h (ap (done a) e)))
