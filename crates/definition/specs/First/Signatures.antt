-- The first document's signatures: a name, one argument type and a result. Which methods are alike, the method that is selected, the ties of a signature. Since paper 7 a signature has a list of
-- arguments; here what is said of it is said by the case of a list of one. No method that the first document reads has another list (`read_one`, crate first), and no call that it decodes (`decode-one`).
use Rattle.std.specs.Prelude.{Bool, false, ◌&&◌, List, [], ◌∷◌, ◌++◌, ℕ, eqb, leb}
use Rattle.std.proofs.Math.Option.{Option, none, some}
use Rattle.definition.specs.declared.Arguments.TheVariants.{NoArguments, OneArgument, TwoArguments, ThreeArguments, FourArguments}
use Rattle.definition.specs.declared.Signature.{Signature}
use Rattle.definition.specs.Numbers.{name_int}
use Rattle.definition.specs.Lists.{any, index_of}
use Rattle.definition.specs.Maybe.{◌>>=◌}
use Rattle.definition.specs.Superclasses.{nearest}
use Rattle.definition.specs.Classes.{signature, Base, Method, Selected, super_of, loader_of, methods_of}
use Rattle.definition.specs.Constraints.{Tie, new_ties}

-- what f says of the argument type; d for a list that is not of one, which version 1 can't have
unfoldable pub first_argument : {A : Type 0} → Signature → A → (ℕ → A) → A
first_argument s d f = elim s.arguments [
  | NoArguments ↦ d
  | OneArgument a ↦ f a
  | TwoArguments a b ↦ d
  | ThreeArguments a b c ↦ d
  | FourArguments a b c e ↦ d
]

-- a signature, the name and both types, is one value: from the file to the search, the call, the override and selection
abbrev pub first_signature : ℕ → ℕ → ℕ → Signature
first_signature n a r = signature n (OneArgument a) r

-- neither the name nor a type is 0
unfoldable pub first_is_named : Signature → Bool
first_is_named s = first_argument s false (λ a. leb 1 s.name && leb 1 a && leb 1 s.result)

-- Methods are alike in name and both types

unfoldable pub first_same_signature : Signature → Signature → Bool
first_same_signature s t = first_argument s false (λ a. first_argument t false (λ b. eqb s.name t.name && eqb a b && eqb s.result t.result))

unfoldable pub first_alike : Signature → Method → Bool
first_alike s m = first_same_signature m.signature s

-- class c declares a method alike
unfoldable pub first_has_method : Base → Signature → ℕ → Bool
first_has_method w s c = any (first_alike s) (methods_of w c)

-- the method found from class c: in the nearest class upward, c included, that declares a method alike, the first such
unfoldable pub first_selected : Base → Signature → ℕ → Option Selected
first_selected w s c = nearest (super_of w) (first_has_method w s) c >>= λ d. index_of (first_alike s) (methods_of w d) >>= λ j. some (record { class = d; place = j })

-- start's method is of (m, int, int)
abbrev pub first_start_signature : ℕ → Signature
first_start_signature m = first_signature m name_int name_int

-- the ties of a signature between two loaders: on its argument, then on its result
unfoldable pub first_signature_ties : List Tie → ℕ → ℕ → Signature → List Tie
first_signature_ties ts l m s = first_argument s [] (λ a. new_ties ts l m (a ∷ s.result ∷ []))

-- For each method, ties on argument and result between its loader l and that of the nearest superclass with a method alike, from p upward

unfoldable pub first_override_tie : Base → ℕ → ℕ → List Tie → Signature → List Tie
first_override_tie b l p ts s = elim (first_selected b s p) [ none ↦ [] | some y ↦ first_signature_ties ts l (loader_of b y.class) s ]

unfoldable pub first_override_ties : Base → ℕ → ℕ → List Tie → List Method → List Tie
first_override_ties b l p ts [] = []
first_override_ties b l p ts (m ∷ ms) = let us = first_override_tie b l p ts m.signature in us ++ first_override_ties b l p (ts ++ us) ms
