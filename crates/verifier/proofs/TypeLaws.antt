-- The types that numbers stand for.
use mathlib.Core.Path.{◌≡◌, refl, sym, ap, ◌∙◌}
use mathlib.Core.Option.{Option, none, some}
use mathlib.Core.List.{List, [], ◌∷◌, map}
use mathlib.Core.Logic.{◌≢◌}
use mathlib.Core.Bool.{Bool, true, false}
use Prim.Native.Nat.{ℕ, zero, suc, ◌%◌, ◌-◌, ◌<◌, ◌≤◌}
use native.Mathlib.Omega.{arith}
use lib.ListN.{length, get_or, get_elem?, length-map, get_or-eq_default}
use lib.Dec.{eqb}
use borrow.Author.Tests.{eq-eqb, ne_eqb}
use Rattle.definition.specs.declared.Arguments.{Arguments}
use Rattle.definition.specs.declared.Arguments.TheVariants.{NoArguments, OneArgument, TwoArguments, ThreeArguments, FourArguments}
use Rattle.definition.specs.declared.Signature.{Signature}
use Rattle.definition.specs.Classes.{types_of as argument_list}
use Rattle.definition.specs.Instructions.{pick}
use Rattle.definition.specs.Lists.{filled, stack, rows}
use Rattle.definition.specs.Maybe.{◌>>=◌}
use Rattle.definition.specs.Verifier.{VerifierType, type_int, type_null, type_class, type_of_name, pop}
use Rattle.verifier.specs.declared.types.Popped.{Popped}
use Rattle.std.specs.Prelude as P
use Rattle.verifier.specs.Types.{type_of, local_of, operand_at, local_at, locals_of, types_of, argument_local, entry_of, popped, known_local}
use Rattle.layout.specs.Places.{stack_top, rows-there, rows-past}

-- A number's type

module _ (n : ℕ) where
  pub type-int : n ≡ 65536 → type_of n ≡ type_int
  unfolding type_of pick
  type-int h = rw (eq-eqb _ _ h)

  pub type-null : n ≡ 65537 → type_of n ≡ type_null
  unfolding type_of pick
  type-null h = rw h

  pub type-class : n ≢ 65536 → n ≢ 65537 → type_of n ≡ type_class (n % 65536)
  unfolding type_of pick
  type-class h k = rw (ne_eqb _ _ h, ne_eqb _ _ k)

  pub type-name : n < 65536 → type_of n ≡ type_class n
  type-name h = let e : n % 65536 ≡ n = omega arith in type-class (λ k. omega arith) (λ k. omega arith) ∙ rw e

  pub local-set : n ≢ 65538 → local_of n ≡ some (type_of n)
  unfolding local_of pick
  local-set h = rw (ne_eqb _ _ h)

  -- the type that a name stands for
  named : (t : Bool) → eqb n 1 ≡ t → type_of_name n ≡ pick t type_int (type_class n)
  unfolding type_of_name pick
  named true e = rw (type_of_name, e)
  named false e = rw (type_of_name, e)

  pub name-int : n ≡ 1 → type_of_name n ≡ type_int
  unfolding pick
  name-int h = named true (eq-eqb _ _ h)

  pub name-class : n ≢ 1 → type_of_name n ≡ type_class n
  unfolding pick
  name-class h = named false (ne_eqb _ _ h)

-- Operands and locals

pub pop-empty : (g : ℕ → VerifierType) (d : ℕ) → d ≡ 0 → pop (stack g d) ≡ none
unfolding pop stack
pop-empty g d h = rw h

pub pop-top : (g : ℕ → VerifierType) (d : ℕ) → d ≢ 0 → pop (stack g d) ≡ some (record { top = g (d - 1); more = stack g (d - 1) })
unfolding pop
pop-top g d h = rw (stack_top g d (omega arith))

-- popped and pushed again
again : Option (record { top : VerifierType; more : List VerifierType }) → List VerifierType
again none = []
again (some r) = r.top ∷ r.more

pub pop-whole :
    (xs : List VerifierType) (t : VerifierType) (more : List VerifierType) → pop xs ≡ some (record { top = t; more = more }) → xs ≡ t ∷ more
unfolding pop again
pop-whole xs t more e = whole xs ∙ ap again e
  where
    whole : (l : List VerifierType) → l ≡ again (pop l)
    whole [] = refl
    whole (x ∷ l) = refl

module _ (o : List ℕ) (r : P.Option Popped) (m : Option (record { top : VerifierType; more : List VerifierType })) (e : popped o r ≡ m) where
  pub popped-empty : r ≡ P.None → m ≡ none
  unfolding popped
  popped-empty h = sym e ∙ ap (popped o) h

  pub popped-top : {p : Popped} → r ≡ P.Some p → m ≡ some (record { top = type_of p.top; more = stack (operand_at o) p.below })
  unfolding popped
  popped-top h = sym e ∙ ap (popped o) h

module _ (l : List ℕ) (i : ℕ) where
  pub local-at : i < 8 → get_elem? (locals_of l) i ≡ some (local_at l i)
  unfolding locals_of
  local-at h = rows-there (local_at l) 8 i h

  pub local-past : 8 ≤ i → get_elem? (locals_of l) i ≡ none
  unfolding locals_of
  local-past h = rows-past (local_at l) 8 0 i h

  pub known_at : i < 8 → known_local (locals_of l) i ≡ local_of (get_or l i 0)
  unfolding known_local locals_of local_at ◌>>=◌
  known_at h = rw (rows-there (local_at l) 8 i h)

  pub known_past : 8 ≤ i → known_local (locals_of l) i ≡ none
  unfolding known_local locals_of ◌>>=◌
  known_past h = rw (rows-past (local_at l) 8 0 i h)

unset : local_of 65538 ≡ none
unfolding local_of pick
unset = refl

mapped-there : {A B : Type 0} (f : A → B) (xs : List A) (i : ℕ) (d : A) (e : B) → i < length xs → get_or (map f xs) i e ≡ f (get_or xs i d)
mapped-there f [] i d e h = absurd (omega arith)
mapped-there f (x ∷ xs) zero d e h = refl
mapped-there f (x ∷ xs) (suc i) d e h = mapped-there f xs i d e (omega arith)

-- the local of an argument has its type; where there is no such argument, it is unset
module _ (a : Arguments) (i : ℕ) where
  pub argument-there : (n : ℕ) → i < length (argument_list a) → type_of n ≡ type_of_name (get_or (argument_list a) i 0) → n < 65537 → local_of n ≡ argument_local a i
  unfolding argument_local
  argument-there n h e l = local-set n (λ k. omega arith) ∙ ap some e ∙ sym (mapped-there (λ m. some (type_of_name m)) (argument_list a) i 0 none h)

  pub argument-past : length (argument_list a) ≤ i → local_of 65538 ≡ argument_local a i
  unfolding argument_local
  argument-past h =
      let l : length (map (λ m. some (type_of_name m)) (argument_list a)) ≤ i = omega (arith, length-map (argument_list a) (λ m. some (type_of_name m))) in
      unset ∙ sym (get_or-eq_default (map (λ m. some (type_of_name m)) (argument_list a)) none l)

-- no method has an argument number 4
locals-of :
    (own : ℕ) (a : Arguments) → filled 8 none (some (type_class own) ∷ map (λ n. some (type_of_name n)) (argument_list a))
    ≡ some (type_class own) ∷ argument_local a 0 ∷ argument_local a 1 ∷ argument_local a 2 ∷ argument_local a 3 ∷ none ∷ none ∷ none ∷ []
unfolding filled argument_local
locals-of own NoArguments = refl
locals-of own (OneArgument a) = refl
locals-of own (TwoArguments a b) = refl
locals-of own (ThreeArguments a b c) = refl
locals-of own (FourArguments a b c d) = refl

-- point 0: the own name and the argument types as numbers, the other locals unset
pub entry-is :
    (own : ℕ) (s : Signature) (first second third fourth fifth : ℕ) (o : List ℕ) → first ≡ own → first < 65536
    → local_of second ≡ argument_local s.arguments 0 → local_of third ≡ argument_local s.arguments 1
    → local_of fourth ≡ argument_local s.arguments 2 → local_of fifth ≡ argument_local s.arguments 3 →
    types_of (record {
      operands = o;
      depth = 0;
      locals = first ∷ second ∷ third ∷ fourth ∷ fifth ∷ 65538 ∷ 65538 ∷ 65538 ∷ [];
    }) ≡ entry_of own s
unfolding types_of entry_of stack locals_of rows local_at
entry-is own s first second third fourth fifth o e l p q r t =
    rw (locals-of own s.arguments, local-set first (λ k. omega arith), type-name first l, e, p, q, r, t, unset)
