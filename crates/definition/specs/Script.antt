-- boxscript: calls read off lines of bytes, and answers printed as lines.
use Rattle.std.specs.Prelude.{true, false, ◌&&◌, List, [], ◌∷◌, ◌++◌, ℕ, zero, suc, ◌+◌, ◌-◌, ◌*◌, ◌/◌, ◌%◌, length, ℤ, pos, negsuc, eqb, leb, ltb}
use Rattle.std.proofs.Math.Option.{Option, none, some}
use Rattle.definition.specs.Numbers.{short_range, int_range, sign_bit}
use Rattle.definition.specs.Maybe.{◌>>=◌, need}
use Rattle.definition.specs.Answers.{signed, Details, Reply, details}
use Rattle.definition.specs.Tables.{Tables, view}
use Rattle.definition.specs.Calls.{turn, Done, boot, Call, call_define, call_record, call_start, call_step, call_drop, perform}

-- Numbers: one or more decimal digits, leading zeros allowed

unfoldable pub digit : ℕ → Option ℕ
digit b = need (leb 48 b && leb b 57) >>= λ _. some (b - 48)

unfoldable pub digits : ℕ → List ℕ → Option ℕ
digits n [] = some n
digits n (b ∷ bs) = digit b >>= λ d. digits (n * 10 + d) bs

unfoldable pub decimal : List ℕ → Option ℕ
decimal [] = none
decimal (b ∷ bs) = digits 0 (b ∷ bs)

-- at most m
unfoldable pub up_to : ℕ → List ℕ → Option ℕ
up_to m bs = decimal bs >>= λ n. need (leb n m) >>= λ _. some n

abbrev pub short : List ℕ → Option ℕ
short bs = up_to (short_range - 1) bs

-- an int, as 32 bits; it may have a minus
unfoldable pub int : List ℕ → Option ℕ
int [] = none
int (b ∷ bs) = elim (eqb b 45) [
  | true ↦ up_to sign_bit bs >>= λ n. some ((int_range - n) % int_range)
  | false ↦ up_to (sign_bit - 1) (b ∷ bs)
]

-- A file: one or more pairs of hexadecimal digits, of either case

unfoldable pub hex_digit : ℕ → Option ℕ
hex_digit b = elim (leb 48 b && leb b 57) [
  | true ↦ some (b - 48)
  | false ↦ elim (leb 65 b && leb b 70) [
    | true ↦ some (b - 55)
    | false ↦ need (leb 97 b && leb b 102) >>= λ _. some (b - 87)
  ]
]

unfoldable pub hex_pairs : List ℕ → Option (List ℕ)
hex_pairs [] = some []
hex_pairs (a ∷ []) = none
hex_pairs (a ∷ b ∷ bs) = hex_digit a >>= λ x. hex_digit b >>= λ y. hex_pairs bs >>= λ rest. some ((x * 16 + y) ∷ rest)

unfoldable pub file : List ℕ → Option (List ℕ)
file [] = none
file (b ∷ bs) = hex_pairs (b ∷ bs)

-- Fields: the parts of a line between single spaces

unfoldable pub grow : ℕ → List (List ℕ) → List (List ℕ)
grow b [] = (b ∷ []) ∷ []
grow b (f ∷ fs) = (b ∷ f) ∷ fs

unfoldable pub fields : List ℕ → List (List ℕ)
fields [] = [] ∷ []
fields (b ∷ bs) = elim (eqb b 32) [ true ↦ [] ∷ fields bs | false ↦ grow b (fields bs) ]

-- A line's letter and call

pub record Line : Type 0 where
  pub letter : ℕ
  pub call : Call

abbrev pub line : ℕ → Call → Option Line
line b c = some (record { letter = b; call = c })

-- R loader name class; D loader file; S task loader class method int; N; X task
unfoldable pub command : ℕ → List (List ℕ) → Option Line
command b [] = need (eqb b 78) >>= λ _. line b call_step
command b (x ∷ []) = need (eqb b 88) >>= λ _. short x >>= λ k. line b (call_drop k)
command b (x ∷ y ∷ []) = need (eqb b 68) >>= λ _. short x >>= λ l. file y >>= λ bs. line b (call_define l bs)
command b (x ∷ y ∷ z ∷ []) = need (eqb b 82) >>= λ _. short x >>= λ l. short y >>= λ n. short z >>= λ c. line b (call_record l n c)
command b (x ∷ y ∷ z ∷ u ∷ []) = none
command b (x ∷ y ∷ z ∷ u ∷ v ∷ []) =
    need (eqb b 83) >>= λ _. short x >>= λ k. short y >>= λ l. short z >>= λ n. short u >>= λ m. int v >>= λ i. line b (call_start k l n m i)
command b (x ∷ y ∷ z ∷ u ∷ v ∷ w ∷ xs) = none

-- the first field is one letter
unfoldable pub command_of : List (List ℕ) → Option Line
command_of [] = none
command_of ([] ∷ fs) = none
command_of ((b ∷ []) ∷ fs) = command b fs
command_of ((b ∷ c ∷ bs) ∷ fs) = none

-- a line of more than 65,536 bytes is one it can't read
unfoldable pub read_line : List ℕ → Option Line
read_line bs = need (leb (length bs) 65536) >>= λ _. command_of (fields bs)

-- Printing

-- decimal digits, with at most `fuel` of them before the last
unfoldable pub printed : ℕ → ℕ → List ℕ
printed zero n = (48 + n % 10) ∷ []
printed (suc k) n = elim (ltb n 10) [ true ↦ (48 + n) ∷ [] | false ↦ printed k (n / 10) ++ ((48 + n % 10) ∷ []) ]

abbrev pub printed_nat : ℕ → List ℕ
printed_nat n = printed 9 n

unfoldable pub printed_int : ℤ → List ℕ
printed_int (pos n) = printed_nat n
printed_int (negsuc n) = 45 ∷ printed_nat (suc n)

-- letter, refusal number, three details, of which the third may be an int
unfoldable pub printed_line : ℕ → Details → List ℕ
printed_line b d =
    b ∷ 32 ∷ printed_nat d.refusal ++ (32 ∷ printed_int (pos d.one)) ++ (32 ∷ printed_int (pos d.two)) ++ (32 ∷ printed_int (signed d.three))
    ++ (10 ∷ [])

-- A line carried out: the tables after it and what is printed; a line it can't read ends the script

pub record Turned : Type 0 where
  pub output : List ℕ
  pub tables : Tables

unfoldable pub turned : ℕ → Tables → Done Reply → Turned
turned b t d = record { output = printed_line b (details (turn (view t)) d.answer); tables = d.tables }

unfoldable pub carry_out : List ℕ → Tables → Option Turned
carry_out bs t = read_line bs >>= λ l. some (turned l.letter t (perform l.call t))

unfoldable pub script : List (List ℕ) → Tables → List ℕ
script [] t = []
script (l ∷ ls) t = elim (carry_out l t) [ none ↦ [] | some x ↦ x.output ++ script ls x.tables ]

-- The whole program: the input's lines end at byte 10, a last one without it is read; boot, then the lines

unfoldable pub lines_of : List ℕ → List (List ℕ)
lines_of [] = []
lines_of (b ∷ bs) = elim (eqb b 10) [ true ↦ [] ∷ lines_of bs | false ↦ grow b (lines_of bs) ]

unfoldable pub boxscript : Tables → List ℕ → List ℕ
boxscript zeros input = script (lines_of input) (boot zeros).tables
