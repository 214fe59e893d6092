-- A signature with a list of one does today what the first document's signatures did: the same methods are alike to it and the same one is selected, whatever lists other methods have, and it posts the same ties.
use Rattle.std.specs.Prelude.{◌≡◌, refl, Bool, true, false, ◌&&◌, List, [], ◌∷◌, ◌++◌, ℕ, length, eqb}
use Rattle.std.proofs.Common.{sym, ap, ◌∙◌, arith}
use Rattle.std.proofs.Math.Option.{none, some}
use Rattle.definition.specs.declared.Arguments.{Arguments}
use Rattle.definition.specs.declared.Arguments.TheVariants.{NoArguments, OneArgument, TwoArguments, ThreeArguments, FourArguments}
use Rattle.definition.specs.declared.Signature.{Signature}
use Rattle.definition.specs.Lists.{any, doubled, index_of}
use Rattle.definition.specs.Maybe.{◌>>=◌}
use Rattle.definition.specs.Superclasses.{nearest}
use Rattle.definition.specs.Classes.{types_of, signature, is_named, Base, Method, super_of, loader_of, methods_of, alike, has_method, selected}
use Rattle.definition.specs.Constraints.{Tie, signature_ties}
use Rattle.definition.specs.File.{same_method}
use Rattle.definition.specs.Loading.{override_tie, override_ties}
use Rattle.laws.specs.Single.{Single, Singles, by-single, single-named, single-alike, single-apart}
use Rattle.definition.specs.First.Files.{first_same_method}
use Rattle.definition.specs.First.Signatures.{first_argument, first_signature, first_is_named, first_same_signature, first_alike, first_has_method, first_selected, first_signature_ties, first_override_tie, first_override_ties}

pub same-named : (s : Signature) → Single s → first_is_named s ≡ is_named s
unfolding first_is_named first_argument
same-named = by-single (λ s. first_is_named s ≡ is_named s) (λ n a r. sym (single-named n a r))

-- a signature with a list of one, beside any method's

one_alike : (n a r : ℕ) (m : Method) → first_alike (first_signature n a r) m ≡ alike (first_signature n a r) m
unfolding first_alike first_same_signature first_argument
one_alike n a r m = go m.signature.arguments refl
  where
    apart : (b : Arguments) → (length (types_of b) ≡ 1 → ⊥) → m.signature.arguments ≡ b → false ≡ alike (first_signature n a r) m
    apart b h e = sym (single-apart n a r m (λ k. h (ap (λ (x : Arguments). length (types_of x)) (sym e ∙ k.1))))

    go : (b : Arguments) → m.signature.arguments ≡ b → (elim b as (λ _. Bool) [
      | NoArguments ↦ false
      | OneArgument c ↦ eqb m.signature.name n && eqb c a && eqb m.signature.result r
      | TwoArguments c d ↦ false
      | ThreeArguments c d e ↦ false
      | FourArguments c d e f ↦ false
    ]) ≡ alike (first_signature n a r) m
    go NoArguments e = apart NoArguments (λ z. omega (arith, z)) e
    go (OneArgument b) e = sym (single-alike n a r m b e)
    go (TwoArguments b c) e = apart (TwoArguments b c) (λ z. omega (arith, z)) e
    go (ThreeArguments b c d) e = apart (ThreeArguments b c d) (λ z. omega (arith, z)) e
    go (FourArguments b c d f) e = apart (FourArguments b c d f) (λ z. omega (arith, z)) e

pub same_alike : (s : Signature) → Single s → (m : Method) → first_alike s m ≡ alike s m
same_alike s h m = by-single (λ t. first_alike t m ≡ alike t m) (λ n a r. one_alike n a r m) s h

-- methods of lists of one are doubled alike
pub same-doubled : (ms : List Method) → Singles ms → doubled first_same_method ms ≡ doubled same_method ms
unfolding doubled first_same_method same_method
same-doubled [] h = refl
same-doubled (m ∷ ms) h = λ i. elim (any (λ n. same_alike m.signature h.0 n i) ms) as (λ _. Bool) [ true ↦ true | false ↦ same-doubled ms h.1 i ]

pub same-selected : (b : Base) (s : Signature) → Single s → (c : ℕ) → first_selected b s c ≡ selected b s c
unfolding first_selected selected first_has_method has_method
same-selected b s h c = λ i. nearest (super_of b) (λ d. any (λ m. same_alike s h m i) (methods_of b d)) c >>= λ d. index_of (λ m. same_alike s h m i) (methods_of b d) >>= λ j. some (record { class = d; place = j })

pub same-ties : (ts : List Tie) (l m : ℕ) (s : Signature) → Single s → first_signature_ties ts l m s ≡ signature_ties ts l m s
unfolding first_signature_ties signature_ties first_argument
same-ties ts l m = by-single (λ s. first_signature_ties ts l m s ≡ signature_ties ts l m s) (λ n a r. refl)

pub same-override : (b : Base) (l p : ℕ) (ts : List Tie) (s : Signature) → Single s → first_override_tie b l p ts s ≡ override_tie b l p ts s
unfolding first_override_tie override_tie
same-override b l p ts s h = λ i. elim (same-selected b s h p i) as (λ _. List Tie) [ none ↦ [] | some y ↦ same-ties ts l (loader_of b y.class) s h i ]

pub same-overrides : (b : Base) (l p : ℕ) (ts : List Tie) (ms : List Method) → Singles ms → first_override_ties b l p ts ms ≡ override_ties b l p ts ms
unfolding first_override_ties override_ties
same-overrides b l p ts [] h = refl
same-overrides b l p ts (m ∷ ms) h =
    ap (λ (us : List Tie). us ++ first_override_ties b l p (ts ++ us) ms) (same-override b l p ts m.signature h.0)
    ∙ ap (λ (vs : List Tie). override_tie b l p ts m.signature ++ vs) (same-overrides b l p (ts ++ override_tie b l p ts m.signature) ms h.1)
