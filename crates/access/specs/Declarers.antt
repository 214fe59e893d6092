-- The loader of the class that declares what getfield, putfield or invokevirtual names: an access names it beside its plan, and ties are posted between it
-- and the frame class's loader.
use Rattle.std.specs.Prelude.{◌≡◌, ℕ}
use Rattle.std.proofs.Common.{sym}
use Rattle.std.proofs.Math.Option.{Option, none, some, none-ne-some, some-injective}
use Rattle.definition.specs.Maybe.{◌>>=◌}
use Rattle.definition.specs.Requests.{at}
use Rattle.definition.specs.Superclasses.{nearest}
use Rattle.definition.specs.Classes.{Base, find, super_of, loader_of, has_field, selected}
use Rattle.definition.specs.declared.Signature.{Signature}
use Rattle.definition.specs.declared.Instruction.{Instruction}
use Rattle.definition.specs.declared.Instruction.TheVariants.{AconstNull, Sipush, Load, Store, Pop, Dup, Arithmetic, Getfield, Putfield, Invokevirtual, New, Return, Branch}

-- the loader of the class that f gives of the class c in the cache under loader l
unfoldable pub loader_from : Base → ℕ → ℕ → (ℕ → Option ℕ) → Option ℕ
loader_from B l c f = find B.cache (at l c) >>= f >>= λ s. some (loader_of B s)

-- the class of the method of signature s that is selected from class e
unfoldable pub selected_class : Base → Signature → ℕ → Option ℕ
selected_class B s e = selected B s e >>= λ m. some m.class

-- the loader for an instruction of a frame whose class has loader l; an instruction that names no field and no method has none
abbrev pub declaring_loader : Base → ℕ → Instruction → Option ℕ
declaring_loader B l AconstNull = none
declaring_loader B l (Sipush n) = none
declaring_loader B l (Load k j) = none
declaring_loader B l (Store k j) = none
declaring_loader B l Pop = none
declaring_loader B l Dup = none
declaring_loader B l (Arithmetic o) = none
declaring_loader B l (Getfield c n t) = loader_from B l c (nearest (super_of B) (has_field B n t))
declaring_loader B l (Putfield c n t) = loader_from B l c (nearest (super_of B) (has_field B n t))
declaring_loader B l (Invokevirtual c s) = loader_from B l c (selected_class B s)
declaring_loader B l (New c) = none
declaring_loader B l (Return k) = none
declaring_loader B l (Branch c p) = none

module _ (B : Base) (l c : ℕ) (f : ℕ → Option ℕ) where
  -- no such class, no such member, or both
  pub loader-missing : find B.cache (at l c) ≡ none → loader_from B l c f ≡ none
  unfolding loader_from ◌>>=◌
  loader-missing h = rw h

  module _ (e : ℕ) (there : find B.cache (at l c) ≡ some e) where
    pub loader-absent : f e ≡ none → loader_from B l c f ≡ none
    unfolding loader_from ◌>>=◌
    loader-absent h = rw (there, h)

    pub loader-there : (s : ℕ) → f e ≡ some s → loader_from B l c f ≡ some (loader_of B s)
    unfolding loader_from ◌>>=◌
    loader-there s h = rw (there, h)

  -- it is the loader of a class
  loader-some : (one : ℕ) → some one ≡ loader_from B l c f → (s : ℕ) × (one ≡ loader_of B s)
  unfolding loader_from ◌>>=◌
  loader-some one h = cached (find B.cache (at l c)) h
    where
      member : (o : Option ℕ) → some one ≡ (o >>= λ s. some (loader_of B s)) → (s : ℕ) × (one ≡ loader_of B s)
      member none q = absurd (none-ne-some one (sym q))
      member (some s) q = (s, some-injective one (loader_of B s) q)

      cached : (o : Option ℕ) → some one ≡ (o >>= f >>= λ s. some (loader_of B s)) → (s : ℕ) × (one ≡ loader_of B s)
      cached none q = absurd (none-ne-some one (sym q))
      cached (some e) q = member (f e) q

module _ (B : Base) (s : Signature) (e : ℕ) where
  pub class-absent : selected B s e ≡ none → selected_class B s e ≡ none
  unfolding selected_class ◌>>=◌
  class-absent h = rw h

  pub class-there : (c j : ℕ) → selected B s e ≡ some (record { class = c; place = j }) → selected_class B s e ≡ some c
  unfolding selected_class ◌>>=◌
  class-there c j h = rw h

pub declaring-some : (B : Base) (l : ℕ) (i : Instruction) (one : ℕ) → some one ≡ declaring_loader B l i → (s : ℕ) × (one ≡ loader_of B s)
declaring-some B l AconstNull one h = absurd (none-ne-some one (sym h))
declaring-some B l (Sipush n) one h = absurd (none-ne-some one (sym h))
declaring-some B l (Load k j) one h = absurd (none-ne-some one (sym h))
declaring-some B l (Store k j) one h = absurd (none-ne-some one (sym h))
declaring-some B l Pop one h = absurd (none-ne-some one (sym h))
declaring-some B l Dup one h = absurd (none-ne-some one (sym h))
declaring-some B l (Arithmetic o) one h = absurd (none-ne-some one (sym h))
declaring-some B l (Getfield c n t) one h = loader-some B l c (nearest (super_of B) (has_field B n t)) one h
declaring-some B l (Putfield c n t) one h = loader-some B l c (nearest (super_of B) (has_field B n t)) one h
declaring-some B l (Invokevirtual c s) one h = loader-some B l c (selected_class B s) one h
declaring-some B l (New c) one h = absurd (none-ne-some one (sym h))
declaring-some B l (Return k) one h = absurd (none-ne-some one (sym h))
declaring-some B l (Branch c p) one h = absurd (none-ne-some one (sym h))
