-- What a definition gives or doesn't, as a value of the code.
use Rattle.std.specs.Prelude.{◌≡◌, refl, Option, Some, None, Result, Ok, Err}
use Rattle.std.proofs.Math.Option as M
use Rattle.definition.specs.declared.Refusal.{Refusal}
use Rattle.definition.specs.Answers as D

abbrev pub optional : {A : Type 0} → M.Option A → Option A
optional M.none = None
optional (M.some x) = Some x

pub optional-none : {A : Type 0} (o : M.Option A) → optional o ≡ None → o ≡ M.none
optional-none M.none h = refl
optional-none (M.some x) h = cc

pub optional-some : {A : Type 0} (o : M.Option A) (x : A) → optional o ≡ Some x → o ≡ M.some x
optional-some M.none x h = cc
optional-some (M.some y) x h = cc

-- a definition's value or refusal
abbrev pub resulting : {A : Type 0} → D.Result A → Result A Refusal
resulting (D.refused w) = Err w
resulting (D.ok x) = Ok x

pub resulting-err : {A : Type 0} (r : D.Result A) (w : Refusal) → resulting r ≡ Err w → r ≡ D.refused w
resulting-err (D.refused v) w h = cc
resulting-err (D.ok x) w h = cc

pub resulting-ok : {A : Type 0} (r : D.Result A) (x : A) → resulting r ≡ Ok x → r ≡ D.ok x
resulting-ok (D.refused w) x h = cc
resulting-ok (D.ok y) x h = cc
