-- Classes, the cache, and what is found upward of a class.
use Rattle.std.specs.Prelude.{Bool, true, false, ◌&&◌, List, [], ◌∷◌, ◌++◌, map, ℕ, zero, suc, eqb, leb, ltb}
use Rattle.std.proofs.Math.Option.{Option, none, some}
use Rattle.std.proofs.Math.ListN.{get_elem?}
use Rattle.definition.specs.Numbers.{name_int}
use Rattle.definition.specs.Lists.{any, all, index_of, same_list}
use Rattle.definition.specs.Maybe.{◌>>=◌}
use Rattle.definition.specs.Requests.{Request, at, same_request}
use Rattle.definition.specs.Superclasses.{nearest}
pub use Rattle.definition.specs.declared.Arguments.{Arguments}
pub use Rattle.definition.specs.declared.Arguments.TheVariants.{NoArguments, OneArgument, TwoArguments, ThreeArguments, FourArguments}
pub use Rattle.definition.specs.declared.Signature.{Signature}

pub record Field : Type 0 where
  pub name : ℕ
  pub type : ℕ

-- arguments are a list of types, of four at most
abbrev pub types_of : Arguments → List ℕ
types_of NoArguments = []
types_of (OneArgument a) = a ∷ []
types_of (TwoArguments a b) = a ∷ b ∷ []
types_of (ThreeArguments a b c) = a ∷ b ∷ c ∷ []
types_of (FourArguments a b c d) = a ∷ b ∷ c ∷ d ∷ []

-- the arguments of those types; there are none of more than four
unfoldable pub arguments_of : List ℕ → Option Arguments
arguments_of [] = some NoArguments
arguments_of (a ∷ []) = some (OneArgument a)
arguments_of (a ∷ b ∷ []) = some (TwoArguments a b)
arguments_of (a ∷ b ∷ c ∷ []) = some (ThreeArguments a b c)
arguments_of (a ∷ b ∷ c ∷ d ∷ []) = some (FourArguments a b c d)
arguments_of (a ∷ b ∷ c ∷ d ∷ e ∷ ts) = none

-- a signature, the name, the whole list and the result, is one value: from the file to the search, the call, the override and selection
abbrev pub signature : ℕ → Arguments → ℕ → Signature
signature n a r = record { name = n; arguments = a; result = r }

-- the types of its arguments, in their order
abbrev pub argument_types : Signature → List ℕ
argument_types s = types_of s.arguments

-- its types, in the order in which ties go on them: each argument in turn, then the result
abbrev pub signature_types : Signature → List ℕ
signature_types s = argument_types s ++ (s.result ∷ [])

-- neither the name nor a type is 0
unfoldable pub is_named : Signature → Bool
is_named s = leb 1 s.name && all (leb 1) (argument_types s) && leb 1 s.result

-- A map, the paper's word for a stack map frame: the types that a file gives a point of its code. The offset from the start of the code; the types of the eight
-- locals, 0 for unset; those of the operands, from the lowest.
pub record Map : Type 0 where
  pub offset : ℕ
  pub locals : List ℕ
  pub operands : List ℕ

pub record Method : Type 0 where
  pub signature : Signature
  pub code : List ℕ
  pub maps : List Map

-- `loader` is its defining loader, `version` its file's, `super` its superclass's name
pub record Class : Type 0 where
  pub loader : ℕ
  pub version : ℕ
  pub name : ℕ
  pub super : ℕ
  pub fields : List Field
  pub methods : List Method

-- the class of that number is what the request means
pub record Entry : Type 0 where
  pub request : Request
  pub class : ℕ

-- the classes by number, and the cache
pub record Base : Type 0 where
  pub classes : List Class
  pub cache : List Entry

-- The class that a request is cached as; of two rows for one request the lower is read

unfoldable pub find : List Entry → Request → Option ℕ
find [] r = none
find (e ∷ es) r = elim (same_request e.request r) [ true ↦ some e.class | false ↦ find es r ]

-- The direct superclass, looked up under the class's defining loader. Its number is lower, or there is none.

unfoldable pub lower : ℕ → ℕ → Option ℕ
lower c p = elim (ltb p c) [ true ↦ some p | false ↦ none ]

unfoldable pub super_of : Base → ℕ → Option ℕ
super_of w c = elim (get_elem? w.classes c) [
  | none ↦ none
  | some k ↦ elim (find w.cache (at k.loader k.super)) [ none ↦ none | some p ↦ lower c p ]
]

unfoldable pub loader_of : Base → ℕ → ℕ
loader_of w c = elim (get_elem? w.classes c) [ none ↦ 0 | some k ↦ k.loader ]

-- Fields of an object: those of the superclass, then the class's own, each with the class that declares it. Two of one name are two fields.

pub record Slot : Type 0 where
  pub owner : ℕ
  pub name : ℕ
  pub type : ℕ

unfoldable pub own_slots : Base → ℕ → List Slot
own_slots w c = elim (get_elem? w.classes c) [ none ↦ [] | some k ↦ map (λ f. record { owner = c; name = f.name; type = f.type }) k.fields ]

unfoldable pub slots_in : ℕ → Base → ℕ → List Slot
slots_in zero w c = own_slots w c
slots_in (suc n) w c = elim (super_of w c) [ none ↦ own_slots w c | some p ↦ slots_in n w p ++ own_slots w c ]

unfoldable pub slots : Base → ℕ → List Slot
slots w c = slots_in c w c

unfoldable pub slot_is : ℕ → ℕ → ℕ → Slot → Bool
slot_is d f t s = eqb s.owner d && eqb s.name f && eqb s.type t

-- class c declares a field of that name and type
unfoldable pub has_field : Base → ℕ → ℕ → ℕ → Bool
has_field w f t c = any (slot_is c f t) (own_slots w c)

-- Methods are alike if the name, the whole list and the result agree

unfoldable pub same_signature : Signature → Signature → Bool
same_signature s t = eqb s.name t.name && same_list (argument_types s) (argument_types t) && eqb s.result t.result

unfoldable pub alike : Signature → Method → Bool
alike s m = same_signature m.signature s

unfoldable pub methods_of : Base → ℕ → List Method
methods_of w c = elim (get_elem? w.classes c) [ none ↦ [] | some k ↦ k.methods ]

-- class c declares a method alike
unfoldable pub has_method : Base → Signature → ℕ → Bool
has_method w s c = any (alike s) (methods_of w c)

-- a method, by the class that declares it and its place there
pub record Selected : Type 0 where
  pub class : ℕ
  pub place : ℕ

-- the method found from class c: in the nearest class upward, c included, that declares a method alike, the first such
unfoldable pub selected : Base → Signature → ℕ → Option Selected
selected w s c = nearest (super_of w) (has_method w s) c >>= λ d. index_of (alike s) (methods_of w d) >>= λ j. some (record { class = d; place = j })

-- start's method is of (m, [int], int), whatever its file's version
abbrev pub start_signature : ℕ → Signature
start_signature m = signature m (OneArgument name_int) name_int
