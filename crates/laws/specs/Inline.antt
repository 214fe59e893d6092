-- Lists of arguments inline, and how many ties a signature has: a count above 4 is as an unknown opcode, before version 3 there is no list, and the ties of a call,
-- or of a method that overrides one, are five at most, for each of its types one at most. Which they are: laws/Tied. What a call of one type finds: laws/OneArgument.
use Rattle.std.specs.Prelude.{◌≡◌, refl, Bool, true, false, ◌||◌, List, [], ◌∷◌, ◌++◌, length, get_or, eqb, leb}
use Rattle.std.proofs.Common.{sym, ap, ◌∙◌, arith, length-append}
use Rattle.std.proofs.Math.Option.{Option, none, some, none-ne-some}
use Prim.Native.Nat.{ℕ, suc, ◌+◌, ◌<◌, ◌≤◌}
use Rattle.std.proofs.lemmas.Bool.{lt-leb}
use Rattle.definition.specs.declared.Arguments.{Arguments}
use Rattle.definition.specs.declared.Arguments.TheVariants.{NoArguments, OneArgument, TwoArguments, ThreeArguments, FourArguments}
use Rattle.definition.specs.declared.Signature.{Signature}
use Rattle.definition.specs.declared.Opcode.TheVariants.{OpInvokevirtual, OpInvokevirtualList}
use Rattle.definition.specs.declared.Instruction.{Instruction}
use Rattle.definition.specs.Numbers.{version_three, argument_limit}
use Rattle.definition.specs.Lists.{any}
use Rattle.definition.specs.Maybe.{◌>>=◌, need}
use Rattle.definition.specs.Classes.{argument_types, signature_types, types_of}
use Rattle.definition.specs.Constraints.{Tie, new_tie, new_ties, signature_ties, tie_is}
use Rattle.definition.specs.File.{byte, one_in, list_in, arguments_in}
use Rattle.definition.specs.Instructions.{pick, opcode_of, inline_length, list_signature_at, instruction_of, Decoded, sized_as, decode}

-- the byte B6 says a list from version 3 on, one type before
pub invoke-read : (version : ℕ) → opcode_of version 0xB6 ≡ pick (leb version_three version) OpInvokevirtualList OpInvokevirtual
unfolding opcode_of pick
invoke-read version = refl

-- Before version 3 a method has one argument type, and so has a call

pub one-in : (version : ℕ) (bs : List ℕ) → leb version_three version ≡ false → arguments_in version bs ≡ one_in bs
unfolding arguments_in
one-in version bs h = rw (h, arguments_in) refl

pub one-inline : (version : ℕ) → leb version_three version ≡ false → opcode_of version 0xB6 ≡ OpInvokevirtual
one-inline version h = invoke-read version ∙ (rw h (unfold pick in refl))

-- A count above 4 is a bad file in a method, and can't be read inline

pub above-bad : (n : ℕ) (bs : List ℕ) → argument_limit < n → list_in (n ∷ bs) ≡ none
unfolding list_in byte ◌>>=◌ need
above-bad n bs h = rw (lt-leb n argument_limit h) refl

pub above-four : (s : List ℕ) (i : ℕ) → argument_limit < get_or s (i + 4) 0 → instruction_of s i OpInvokevirtualList ≡ none
unfolding instruction_of list_signature_at
above-four s i h = rw (lt-leb (get_or s (i + 4) 0) argument_limit h) (unfold need ◌>>=◌ in refl)

unread : (n : ℕ) (t : Bool) (x : Option Instruction) → x ≡ none → ◌≡◌ {A = Option Decoded} (elim t as (λ _. Option Decoded) [ true ↦ sized_as n x | false ↦ none ]) none
unfolding sized_as
unread n true none e = refl
unread n true (some i) e = absurd (none-ne-some i (sym e))
unread n false x e = refl

pub above-unread : (version : ℕ) (code : List ℕ) (p : ℕ) → leb version_three version ≡ true → get_or code p 0 ≡ 0xB6 → argument_limit < get_or code (p + 1 + 4) 0 → decode version code p ≡ none
unfolding decode
above-unread version code p v b h =
    let q : opcode_of version (get_or code p 0) ≡ OpInvokevirtualList = ap (opcode_of version) b ∙ invoke-read version ∙ (rw v (unfold pick in refl)) in
    let n = suc (inline_length code (p + 1) (opcode_of version (get_or code p 0))) in
    unread n (leb (p + n) (length code)) (instruction_of code (p + 1) (opcode_of version (get_or code p 0))) (ap (instruction_of code (p + 1)) q ∙ above-four code (p + 1) h)

-- At most four arguments, so five types and five ties

pub four-arguments : (a : Arguments) → length (types_of a) ≤ argument_limit
four-arguments NoArguments = omega arith
four-arguments (OneArgument a) = omega arith
four-arguments (TwoArguments a b) = omega arith
four-arguments (ThreeArguments a b c) = omega arith
four-arguments (FourArguments a b c d) = omega arith

pub one-tie : (ts : List Tie) (l m n : ℕ) → length (new_tie ts l m n) ≤ 1
unfolding new_tie
one-tie ts l m n = go (eqb l m || eqb n 1 || any (tie_is l m n) ts)
  where
    go : (z : Bool) → length {A = Tie} (elim z as (λ _. List Tie) [ true ↦ [] | false ↦ record { one = l; two = m; name = n } ∷ [] ]) ≤ 1
    go true = omega arith
    go false = omega arith

pub ties-few : (ts : List Tie) (l m : ℕ) (ns : List ℕ) → length (new_ties ts l m ns) ≤ length ns
unfolding new_ties
ties-few ts l m [] = omega arith
ties-few ts l m (n ∷ ns) =
    omega (arith, length-append (new_tie ts l m n) (new_ties (ts ++ new_tie ts l m n) l m ns), one-tie ts l m n, ties-few (ts ++ new_tie ts l m n) l m ns)

pub five-ties : (ts : List Tie) (l m : ℕ) (s : Signature) → length (signature_ties ts l m s) ≤ 5
unfolding signature_ties
five-ties ts l m s = omega (arith, ties-few ts l m (signature_types s), length-append (argument_types s) (s.result ∷ []), four-arguments s.arguments)
