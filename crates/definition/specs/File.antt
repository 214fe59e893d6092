-- The class file: bytes, big-endian, read as a class.
use Rattle.std.specs.Prelude.{Bool, true, false, not, ◌&&◌, List, [], ◌∷◌, ℕ, zero, suc, ◌+◌, ◌*◌, length, take, drop, eqb, leb}
use Rattle.std.proofs.Math.Option.{Option, none, some}
use Rattle.definition.specs.Numbers.{name_object, operand_limit, local_count, version_one, version_two, version_three, file_limit, member_limit, argument_limit, code_limit, byte_range}
use Rattle.definition.specs.Lists.{doubled}
use Rattle.definition.specs.Maybe.{◌>>=◌, need}
use Rattle.definition.specs.Classes.{Arguments, OneArgument, arguments_of, Signature, signature, Class, Field, Map, Method, alike}

pub record File : Type 0 where
  pub version : ℕ
  pub name : ℕ
  pub super : ℕ
  pub fields : List Field
  pub methods : List Method

-- what was read, and the bytes after it
pub record Got (A : Type 0) : Type 0 where
  pub value : A
  pub more : List ℕ

unfoldable pub byte : List ℕ → Option (Got ℕ)
byte [] = none
byte (b ∷ bs) = some (record { value = b; more = bs })

-- 16 bits
unfoldable pub short : List ℕ → Option (Got ℕ)
short bs = byte bs >>= λ a. byte a.more >>= λ b. some (record { value = a.value * byte_range + b.value; more = b.more })

-- a name or type of at least n
unfoldable pub name : ℕ → List ℕ → Option (Got ℕ)
name n bs = short bs >>= λ x. need (leb n x.value) >>= λ _. some x

-- a byte with a count, 0 to 8
unfoldable pub count : List ℕ → Option (Got ℕ)
count bs = byte bs >>= λ x. need (leb x.value member_limit) >>= λ _. some x

-- for each field its name and type
unfoldable pub fields_in : ℕ → List ℕ → Option (Got (List Field))
fields_in zero bs = some (record { value = []; more = bs })
fields_in (suc k) bs =
    name 1 bs >>= λ n. name 1 n.more >>= λ t. fields_in k t.more >>= λ fs.
    some (record { value = record { name = n.value; type = t.value } ∷ fs.value; more = fs.more })

-- k types of at least n
unfoldable pub names_in : ℕ → ℕ → List ℕ → Option (Got (List ℕ))
names_in n zero bs = some (record { value = []; more = bs })
names_in n (suc k) bs = name n bs >>= λ t. names_in n k t.more >>= λ ts. some (record { value = t.value ∷ ts.value; more = ts.more })

-- a byte with the count of arguments, 0 to 4, then their types
unfoldable pub list_in : List ℕ → Option (Got Arguments)
list_in bs =
    byte bs >>= λ k. need (leb k.value argument_limit) >>= λ _. names_in 1 k.value k.more >>= λ ts.
    arguments_of ts.value >>= λ a. some (record { value = a; more = ts.more })

-- the argument type alone, a list of one
unfoldable pub one_in : List ℕ → Option (Got Arguments)
one_in bs = name 1 bs >>= λ a. some (record { value = OneArgument a.value; more = a.more })

unfoldable pub arguments_in : ℕ → List ℕ → Option (Got Arguments)
arguments_in version bs = elim (leb version_three version) [ true ↦ list_in bs | false ↦ one_in bs ]

-- name, arguments, result type
unfoldable pub signature_in : ℕ → List ℕ → Option (Got Signature)
signature_in version bs =
    name 1 bs >>= λ n. arguments_in version n.more >>= λ a. name 1 a.more >>= λ r.
    some (record { value = signature n.value a.value r.value; more = r.more })

-- a map: its offset, which is o or more, eight local types, a byte with the operand count, 0 to 16, operand types, none 0
unfoldable pub map_in : ℕ → List ℕ → Option (Got Map)
map_in o bs =
    name o bs >>= λ p. names_in 0 local_count p.more >>= λ ls.
    byte ls.more >>= λ d. need (leb d.value operand_limit) >>= λ _. names_in 1 d.value d.more >>= λ os.
    some (record { value = record { offset = p.value; locals = ls.value; operands = os.value }; more = os.more })

-- k maps by rising offset, the first at o or later
unfoldable pub maps_from : ℕ → ℕ → List ℕ → Option (Got (List Map))
maps_from o zero bs = some (record { value = []; more = bs })
maps_from o (suc k) bs =
    map_in o bs >>= λ m. maps_from (suc m.value.offset) k m.more >>= λ ms. some (record { value = m.value ∷ ms.value; more = ms.more })

-- from version 2 on a byte with the count of maps, then the maps; version 1 has none
unfoldable pub maps_in : ℕ → List ℕ → Option (Got (List Map))
maps_in version bs = elim (leb version_two version) [ true ↦ byte bs >>= λ k. maps_from 0 k.value k.more | false ↦ some (record { value = []; more = bs }) ]

-- for each method its signature, code length (1 to 512), code, maps
unfoldable pub methods_in : ℕ → ℕ → List ℕ → Option (Got (List Method))
methods_in version zero bs = some (record { value = []; more = bs })
methods_in version (suc k) bs =
    signature_in version bs >>= λ s. short s.more >>= λ l.
    need (leb 1 l.value && leb l.value code_limit && leb l.value (length l.more)) >>= λ _.
    maps_in version (drop l.value l.more) >>= λ maps. methods_in version k maps.more >>= λ ms.
    some (record { value = record { signature = s.value; code = take l.value l.more; maps = maps.value } ∷ ms.value; more = ms.more })

unfoldable pub ends : List ℕ → Bool
ends [] = true
ends (x ∷ xs) = false

-- two fields of one name; two methods alike in name, list and result
unfoldable pub same_field : Field → Field → Bool
same_field f g = eqb g.name f.name

unfoldable pub same_method : Method → Method → Bool
same_method m n = alike m.signature n

-- version 1, 2 or 3, the length of all that follows it, both class names, fields, methods, nothing after, at most 4,096 bytes, none doubled
unfoldable pub read_file : List ℕ → Option File
read_file bs =
    need (leb (length bs) file_limit) >>= λ _. byte bs >>= λ v. need (leb version_one v.value && leb v.value version_three) >>= λ _.
    short v.more >>= λ n. need (eqb n.value (length n.more)) >>= λ _.
    name name_object n.more >>= λ c. name name_object c.more >>= λ s.
    count s.more >>= λ k. fields_in k.value k.more >>= λ fs.
    count fs.more >>= λ j. methods_in v.value j.value j.more >>= λ ms. need (ends ms.more) >>= λ _.
    need (not (doubled same_field fs.value)) >>= λ _. need (not (doubled same_method ms.value)) >>= λ _.
    some (record { version = v.value; name = c.value; super = s.value; fields = fs.value; methods = ms.value })

-- the class that a loader defines from a file
abbrev pub class_of : ℕ → File → Class
class_of l f = record { loader = l; version = f.version; name = f.name; super = f.super; fields = f.fields; methods = f.methods }

-- Object of loader 0, with no superclass, fields or methods; it has no file, so its version is none
abbrev pub object_class : Class
object_class = record { loader = 0; version = 0; name = name_object; super = 0; fields = []; methods = [] }
