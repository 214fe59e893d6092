-- A class file read at once, by fixed places. The reading is total: any bytes give a file, and bytes that read by the file rules
-- give the same file as the rules do (`quick-file` of Laws).
use Rattle.std.specs.Prelude.{◌≡◌, Bool, true, false, ◌&&◌, List, [], ℕ, zero, suc, ◌+◌, ◌-◌, ◌*◌, ◌≤◌, length, get_or, take, drop, eqb, leb, ltb}
use Rattle.std.specs.Prelude as P
use Rattle.std.proofs.Math.Option.{Option, none, some}
use Rattle.definition.specs.Lists.{rows}
use Rattle.definition.specs.declared.Arguments.{Arguments}
use Rattle.definition.specs.declared.Arguments.TheVariants.{OneArgument}
use Rattle.definition.specs.declared.Signature.{Signature}
use Rattle.definition.specs.Classes.{signature, Field, Map, Method}
use Rattle.definition.specs.Instructions.{pick, short_at}
use Rattle.definition.specs.File.{File}
use Rattle.cells.specs.Listed.{list_at}
use Rattle.classfile.specs.declared.MethodFound.{MethodFound}

-- The version byte, and after the length names and counts

unfoldable pub file_version : List ℕ → ℕ
file_version bs = get_or bs 0 0

unfoldable pub class_name : List ℕ → ℕ
class_name bs = short_at bs 3

unfoldable pub super_name : List ℕ → ℕ
super_name bs = short_at bs 5

unfoldable pub field_count : List ℕ → ℕ
field_count bs = get_or bs 7 0

-- Fields: four bytes each, name and type

unfoldable pub field_place : ℕ → ℕ
field_place i = 8 + 4 * i

unfoldable pub field_in : List ℕ → ℕ → Field
field_in bs i = record { name = short_at bs (field_place i); type = short_at bs (field_place i + 2) }

unfoldable pub quick_fields : List ℕ → List Field
quick_fields bs = rows (field_in bs) (field_count bs) 0

-- from field i on
abbrev pub fields_from : List ℕ → ℕ → List Field
fields_from bs i = rows (field_in bs) (field_count bs - i) i

-- Maps, off bytes that begin with the byte that counts them: offset, eight local types, a byte with the operand count, operand types

unfoldable pub map_count : List ℕ → ℕ
map_count ms = get_or ms 0 0

-- of the map that begins at place p
unfoldable pub map_depth : List ℕ → ℕ → ℕ
map_depth ms p = get_or ms (p + 18) 0

unfoldable pub map_end : List ℕ → ℕ → ℕ
map_end ms p = p + (19 + 2 * map_depth ms p)

-- type i of those from place p on
unfoldable pub type_at : List ℕ → ℕ → ℕ → ℕ
type_at ms p i = short_at ms (p + 2 * i)

unfoldable pub map_of : List ℕ → ℕ → Map
map_of ms p = record { offset = short_at ms p; locals = rows (type_at ms (p + 2)) 8 0; operands = rows (type_at ms (p + 19)) (map_depth ms p) 0 }

-- where map i begins
unfoldable pub map_place : List ℕ → ℕ → ℕ
map_place ms zero = 1
map_place ms (suc i) = map_end ms (map_place ms i)

unfoldable pub map_numbered : List ℕ → ℕ → Map
map_numbered ms i = map_of ms (map_place ms i)

unfoldable pub maps_of : List ℕ → List Map
maps_of ms = rows (map_numbered ms) (map_count ms) 0

-- Methods: one record after another, each with its signature, code length, code, and from version 2 on its maps

unfoldable pub method_count : List ℕ → ℕ
method_count bs = get_or bs (field_place (field_count bs)) 0

-- of the record that begins at place p: the byte with the count of its arguments, from version 3 on
unfoldable pub argument_number : List ℕ → ℕ → ℕ
argument_number bs p = get_or bs (p + 2) 0

-- how many bytes the arguments take: one type before version 3, from there on the byte with their count and as many types
unfoldable pub arguments_size : List ℕ → ℕ → ℕ
arguments_size bs p = pick (leb 3 (file_version bs)) (1 + 2 * argument_number bs p) 2

-- their types; a count above four reads as no arguments at all
unfoldable pub arguments_at : List ℕ → ℕ → Arguments
arguments_at bs p = pick (leb 3 (file_version bs)) (list_at bs (p + 3) (argument_number bs p)) (OneArgument (short_at bs (p + 2)))

-- behind the name and the arguments the result type, then the code length, then the code
unfoldable pub result_place : List ℕ → ℕ → ℕ
result_place bs p = p + 2 + arguments_size bs p

unfoldable pub quick_signature : List ℕ → ℕ → Signature
quick_signature bs p = signature (short_at bs p) (arguments_at bs p) (short_at bs (result_place bs p))

unfoldable pub code_length : List ℕ → ℕ → ℕ
code_length bs p = short_at bs (result_place bs p + 2)

unfoldable pub code_place : List ℕ → ℕ → ℕ
code_place bs p = result_place bs p + 4

-- the code, as much of it as the bytes have
unfoldable pub code_at : List ℕ → ℕ → List ℕ
code_at bs p = take (code_length bs p) (drop (code_place bs p) bs)

unfoldable pub code_end : List ℕ → ℕ → ℕ
code_end bs p = code_place bs p + code_length bs p

-- the bytes that begin with the count of the maps; none in version 1
unfoldable pub map_bytes : List ℕ → ℕ → List ℕ
map_bytes bs p = pick (leb 2 (file_version bs)) (drop (code_end bs p) bs) []

-- how many of them the maps take
unfoldable pub maps_size : List ℕ → ℕ → ℕ
maps_size bs p = pick (leb 2 (file_version bs)) (map_place (map_bytes bs p) (map_count (map_bytes bs p))) 0

unfoldable pub method_at : List ℕ → ℕ → Method
method_at bs p = record { signature = quick_signature bs p; code = code_at bs p; maps = maps_of (map_bytes bs p) }

unfoldable pub next_place : List ℕ → ℕ → ℕ
next_place bs p = code_end bs p + maps_size bs p

-- where the record of method j begins
unfoldable pub method_place : List ℕ → ℕ → ℕ
method_place bs zero = field_place (field_count bs) + 1
method_place bs (suc j) = next_place bs (method_place bs j)

-- p is the place of method j, and so low that no place after it is larger than 32 bits can say
pub record Placed (bs : List ℕ) (j p : ℕ) : Type 0 where
  pub place : p ≡ method_place bs j
  pub low : p ≤ 1029 + 200948 * j

unfoldable pub method_in : List ℕ → ℕ → Method
method_in bs j = method_at bs (method_place bs j)

unfoldable pub quick_methods : List ℕ → List Method
quick_methods bs = rows (method_in bs) (method_count bs) 0

-- from method j on
abbrev pub methods_from : List ℕ → ℕ → List Method
methods_from bs j = rows (method_in bs) (method_count bs - j) j

-- The file

unfoldable pub quick_file : List ℕ → File
quick_file bs = record { version = file_version bs; name = class_name bs; super = super_name bs; fields = quick_fields bs; methods = quick_methods bs }

-- Searches, as answers of functions

unfoldable pub field_is : ℕ → ℕ → Field → Bool
field_is n t f = eqb f.name n && eqb f.type t

unfoldable pub field_named : ℕ → Field → Bool
field_named n f = eqb f.name n

-- method j by its number and its place
unfoldable pub method_found : List ℕ → Option ℕ → P.Option MethodFound
method_found bs none = P.None
method_found bs (some j) = P.Some (record { number = j; place = method_place bs j })

-- where the record of method j begins, if there is one
unfoldable pub numbered_place : List ℕ → ℕ → Option ℕ
numbered_place bs j = elim (ltb j (method_count bs)) [ true ↦ some (method_place bs j) | false ↦ none ]

-- the bytes from start, size many, if they are there, else none at all
unfoldable pub part_of : List ℕ → ℕ → ℕ → List ℕ
part_of bs start size = elim (leb (start + size) (length bs)) [ true ↦ take size (drop start bs) | false ↦ [] ]
