-- The numbers that the paper and docs/STORE.md fix, each named once. Code has the same names as constants (src/numbers.rt); `all_numbers` there
-- promises that the two are equal.
use Rattle.std.specs.Prelude.{List, [], ◌∷◌, ℕ, ◌+◌, ◌*◌}

-- Words of refusal

abbrev pub word_broken : ℕ
word_broken = 1

abbrev pub word_file : ℕ
word_file = 2

abbrev pub word_unknown : ℕ
word_unknown = 3

abbrev pub word_taken : ℕ
word_taken = 4

abbrev pub word_wanted : ℕ
word_wanted = 5

abbrev pub word_unverified : ℕ
word_unverified = 6

abbrev pub word_absent : ℕ
word_absent = 7

-- reserved: the first document's define gave it for a field name that a superclass has, which is allowed since paper 6 (`never-hidden`, crate unbroken)
abbrev pub word_hidden : ℕ
word_hidden = 8

abbrev pub word_clash : ℕ
word_clash = 9

abbrev pub word_full : ℕ
word_full = 10

abbrev pub word_null : ℕ
word_null = 11

abbrev pub word_busy : ℕ
word_busy = 12

abbrev pub word_misnamed : ℕ
word_misnamed = 13

abbrev pub word_stuck : ℕ
word_stuck = 14

abbrev pub word_unmapped : ℕ
word_unmapped = 15

abbrev pub word_short : ℕ
word_short = 16

abbrev pub word_divisor : ℕ
word_divisor = 17

-- 'share used': the report has as many objects as it may have
abbrev pub word_share : ℕ
word_share = 18

-- 'too late': no load is left that can be taken back
abbrev pub word_late : ℕ
word_late = 19

-- 'offers': too many offered loads, or some that can't be read
abbrev pub word_offers : ℕ
word_offers = 20

-- Names: 0 is none; others than these are free

abbrev pub name_int : ℕ
name_int = 1

abbrev pub name_object : ℕ
name_object = 2

-- Limits: loaders are 0 to 15, tasks 0 (the quote) and 1 (the report)

abbrev pub loader_limit : ℕ
loader_limit = 16

abbrev pub task_limit : ℕ
task_limit = 2

abbrev pub class_limit : ℕ
class_limit = 64

abbrev pub kept_limit : ℕ
kept_limit = 16384

abbrev pub cache_limit : ℕ
cache_limit = 256

abbrev pub tie_limit : ℕ
tie_limit = 256

abbrev pub subtype_limit : ℕ
subtype_limit = 256

abbrev pub object_limit : ℕ
object_limit = 256

-- objects of the report: the rest is kept for quotes
abbrev pub share_limit : ℕ
share_limit = 192

-- fields of an object, inherited ones included
abbrev pub field_limit : ℕ
field_limit = 16

-- frames of a task
abbrev pub frame_limit : ℕ
frame_limit = 32

abbrev pub operand_limit : ℕ
operand_limit = 16

-- locals of a frame, always all of them
abbrev pub local_count : ℕ
local_count = 8

-- steps of a run
abbrev pub run_limit : ℕ
run_limit = 65535

-- loads that can be taken back
abbrev pub trace_limit : ℕ
trace_limit = 32

-- the numbers that the list lent to a tried load has room for: one for each row of ties and of subtype constraints
abbrev pub list_limit : ℕ
list_limit = 512

-- loads offered to a search
abbrev pub offer_limit : ℕ
offer_limit = 8

-- The file: its version, its bytes, the fields or methods that it declares, the bytes of a method's code

abbrev pub version_one : ℕ
version_one = 1

-- the first with branches and maps, imul and idiv
abbrev pub version_two : ℕ
version_two = 2

-- the first with lists of arguments
abbrev pub version_three : ℕ
version_three = 3

abbrev pub file_limit : ℕ
file_limit = 4096

abbrev pub member_limit : ℕ
member_limit = 8

-- the arguments of a method
abbrev pub argument_limit : ℕ
argument_limit = 4

abbrev pub code_limit : ℕ
code_limit = 512

-- The cells of counts; of the eight counts those of the tasks' frames stand last, the quote's, then the report's

abbrev pub count_classes : ℕ
count_classes = 0

abbrev pub count_kept : ℕ
count_kept = 1

abbrev pub count_cache : ℕ
count_cache = 2

abbrev pub count_ties : ℕ
count_ties = 3

abbrev pub count_subtypes : ℕ
count_subtypes = 4

abbrev pub count_objects : ℕ
count_objects = 5

abbrev pub count_frames : ℕ
count_frames = 6

-- behind them, the owners of the object rows: 0 of a free row, else 1 and the task that made the object
abbrev pub owners_cell : ℕ
owners_cell = count_frames + task_limit

-- behind those, the numbers of the tie rows, then the numbers of the rows of subtype constraints
abbrev pub tie_numbers_cell : ℕ
tie_numbers_cell = owners_cell + object_limit

abbrev pub subtype_numbers_cell : ℕ
subtype_numbers_cell = tie_numbers_cell + tie_limit

-- behind those, how many loads can be taken back, then the trace: for each of them, the oldest first, the first five counts before it
abbrev pub loads_cell : ℕ
loads_cell = subtype_numbers_cell + subtype_limit

abbrev pub trace_cell : ℕ
trace_cell = loads_cell + 1

abbrev pub level_cells : ℕ
level_cells = 5

-- behind that, the group of each tie's row
abbrev pub groups_cell : ℕ
groups_cell = trace_cell + trace_limit * level_cells

-- Rows: cells of a row of classes, cache, ties and subtypes; of a value; of an object and of a frame, and where in them something stands

abbrev pub row_cells : ℕ
row_cells = 3

abbrev pub value_cells : ℕ
value_cells = 2

-- a row of offers, which no store has
abbrev pub offer_cells : ℕ
offer_cells = 4

-- an object: its class, then its fields
abbrev pub fields_cell : ℕ
fields_cell = 1

abbrev pub object_cells : ℕ
object_cells = fields_cell + value_cells * field_limit

-- a frame: its class, its method's place, the point, the operand count, then locals, then operands
abbrev pub method_cell : ℕ
method_cell = 1

abbrev pub point_cell : ℕ
point_cell = 2

abbrev pub depth_cell : ℕ
depth_cell = 3

abbrev pub locals_cell : ℕ
locals_cell = 4

abbrev pub operands_cell : ℕ
operands_cell = locals_cell + value_cells * local_count

abbrev pub frame_cells : ℕ
frame_cells = operands_cell + value_cells * operand_limit

-- The published lengths

abbrev pub counts_length : ℕ
counts_length = groups_cell + tie_limit

abbrev pub classes_length : ℕ
classes_length = class_limit * row_cells

abbrev pub kept_length : ℕ
kept_length = kept_limit

abbrev pub cache_length : ℕ
cache_length = cache_limit * row_cells

abbrev pub ties_length : ℕ
ties_length = tie_limit * row_cells

abbrev pub subtypes_length : ℕ
subtypes_length = subtype_limit * row_cells

abbrev pub objects_length : ℕ
objects_length = object_limit * object_cells

abbrev pub frames_length : ℕ
frames_length = task_limit * frame_limit * frame_cells

-- Kinds of values

abbrev pub kind_empty : ℕ
kind_empty = 0

abbrev pub kind_int : ℕ
kind_int = 1

abbrev pub kind_null : ℕ
kind_null = 2

abbrev pub kind_object : ℕ
kind_object = 3

-- Widths of numbers

abbrev pub byte_range : ℕ
byte_range = 256

abbrev pub short_range : ℕ
short_range = 65536

-- ints wrap here
abbrev pub int_range : ℕ
int_range = 4294967296

-- ints below this are read as they are, others as negative
abbrev pub sign_bit : ℕ
sign_bit = 2147483648

-- All of them, as src/numbers.rt lists its constants
abbrev pub all_words : List ℕ
all_words =
    word_broken ∷ word_file ∷ word_unknown ∷ word_taken ∷ word_wanted ∷ word_unverified ∷ word_absent ∷ word_hidden
    ∷ word_clash ∷ word_full ∷ word_null ∷ word_busy ∷ word_misnamed ∷ word_stuck ∷ word_unmapped ∷ word_short ∷ word_divisor
    ∷ word_share ∷ word_late ∷ word_offers ∷ []

abbrev pub all_limits : List ℕ
all_limits =
    name_int ∷ name_object ∷ loader_limit ∷ task_limit ∷ class_limit ∷ kept_limit ∷ cache_limit ∷ tie_limit ∷ subtype_limit
    ∷ object_limit ∷ share_limit ∷ field_limit ∷ frame_limit ∷ operand_limit ∷ local_count ∷ run_limit ∷ trace_limit
    ∷ list_limit ∷ offer_limit ∷ version_one ∷ version_two ∷ version_three ∷ file_limit ∷ member_limit ∷ argument_limit
    ∷ code_limit ∷ []

abbrev pub all_cells : List ℕ
all_cells =
    count_classes ∷ count_kept ∷ count_cache ∷ count_ties ∷ count_subtypes ∷ count_objects ∷ count_frames ∷ owners_cell
    ∷ tie_numbers_cell ∷ subtype_numbers_cell ∷ loads_cell ∷ trace_cell ∷ level_cells ∷ groups_cell ∷ row_cells ∷ value_cells
    ∷ offer_cells ∷ fields_cell ∷ object_cells ∷ method_cell ∷ point_cell ∷ depth_cell ∷ locals_cell ∷ operands_cell
    ∷ frame_cells ∷ []

abbrev pub all_lengths : List ℕ
all_lengths =
    counts_length ∷ classes_length ∷ kept_length ∷ cache_length ∷ ties_length ∷ subtypes_length ∷ objects_length
    ∷ frames_length ∷ kind_empty ∷ kind_int ∷ kind_null ∷ kind_object ∷ byte_range ∷ short_range ∷ int_range ∷ sign_bit ∷ []

-- Those that stood before offers were searched
abbrev pub all_numbers : List ℕ
all_numbers =
    word_broken ∷ word_file ∷ word_unknown ∷ word_taken ∷ word_wanted ∷ word_unverified
    ∷ word_absent ∷ word_hidden ∷ word_clash ∷ word_full ∷ word_null ∷ word_busy
    ∷ word_misnamed ∷ word_stuck ∷ word_unmapped ∷ word_short ∷ word_divisor ∷ word_share ∷ word_late ∷ name_int ∷ name_object ∷ loader_limit ∷ task_limit
    ∷ class_limit ∷ kept_limit ∷ cache_limit ∷ tie_limit ∷ subtype_limit ∷ object_limit ∷ share_limit
    ∷ field_limit ∷ frame_limit ∷ operand_limit ∷ local_count ∷ run_limit ∷ trace_limit ∷ list_limit ∷ version_one ∷ version_two ∷ version_three
    ∷ file_limit ∷ member_limit ∷ argument_limit ∷ code_limit ∷ count_classes ∷ count_kept ∷ count_cache
    ∷ count_ties ∷ count_subtypes ∷ count_objects ∷ count_frames ∷ owners_cell ∷ tie_numbers_cell ∷ subtype_numbers_cell ∷ loads_cell ∷ trace_cell ∷ level_cells ∷ groups_cell ∷ row_cells ∷ value_cells
    ∷ fields_cell ∷ object_cells ∷ method_cell ∷ point_cell ∷ depth_cell ∷ locals_cell
    ∷ operands_cell ∷ frame_cells ∷ counts_length ∷ classes_length ∷ kept_length ∷ cache_length
    ∷ ties_length ∷ subtypes_length ∷ objects_length ∷ frames_length ∷ kind_empty ∷ kind_int
    ∷ kind_null ∷ kind_object ∷ byte_range ∷ short_range ∷ int_range ∷ sign_bit
    ∷ []
