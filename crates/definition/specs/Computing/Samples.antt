-- Sample class files and call lists: the paper's file F, and those of the proved cases.
use Rattle.std.specs.Prelude.{List, [], ◌∷◌, ◌++◌, ℕ, zero, suc, ◌/◌, ◌%◌, length}
use Rattle.definition.specs.Calls.{Call, call_define, call_record}

-- 16 bits, big-endian
unfoldable pub two : ℕ → List ℕ
two n = n / 256 ∷ n % 256 ∷ []

unfoldable pub method : ℕ → ℕ → ℕ → List ℕ → List ℕ
method n a r code = two n ++ two a ++ two r ++ two (length code) ++ code

-- a class of name n below s, without fields, with k methods
unfoldable pub file_of : ℕ → ℕ → ℕ → List ℕ → List ℕ
file_of n s k ms = let body = two n ++ two s ++ (0 ∷ k ∷ ms) in 1 ∷ two (length body) ++ body

unfoldable pub plain : ℕ → ℕ → List ℕ
plain n s = file_of n s 0 []

-- the paper's file F: class 10, whose method 20 returns its int
unfoldable pub file_f : List ℕ
file_f = 0x01 ∷ 0x00 ∷ 0x11 ∷ 0x00 ∷ 0x0A ∷ 0x00 ∷ 0x02 ∷ 0x00 ∷ 0x01 ∷ 0x00 ∷ 0x14 ∷ 0x00 ∷ 0x01 ∷ 0x00 ∷ 0x01 ∷ 0x00 ∷ 0x03 ∷ 0x15 ∷ 0x01 ∷ 0xAC ∷ []

-- a class with method 30, (12) → int: where it overrides across loaders, the two are tied on 12
unfoldable pub taker : ℕ → ℕ → List ℕ
taker n s = file_of n s 1 (method 30 12 1 (0x11 ∷ 0 ∷ 0 ∷ 0xAC ∷ []))

-- class 10 with method 20, (int) → int
unfoldable pub coded : List ℕ → List ℕ
coded code = file_of 10 2 1 (method 20 1 1 code)

-- a class whose method returns a 13 where a 12 is demanded: 13 below 12
unfoldable pub lifts : List ℕ
lifts = file_of 50 2 1 (method 31 13 12 (0x19 ∷ 1 ∷ 0xB0 ∷ []))

-- n pushes and a return
unfoldable pub pushes : ℕ → List ℕ
pushes zero = 0xAC ∷ []
pushes (suc n) = 0x11 ∷ 0 ∷ 0 ∷ pushes n

-- (1,2), (2,2), (3,2) recorded as class 0
unfoldable pub ready : List Call
ready = call_record 1 2 0 ∷ call_record 2 2 0 ∷ call_record 3 2 0 ∷ []

-- ready, and a tie 1–2 on 12
unfoldable pub tied12 : List Call
tied12 = ready ++ call_define 1 (taker 40 2) ∷ call_record 2 40 1 ∷ call_define 2 (taker 41 40) ∷ []

-- ready, and ties 1–2 and 2–3 on 12
unfoldable pub tied123 : List Call
tied123 = tied12 ++ call_record 3 41 2 ∷ call_define 3 (taker 42 41) ∷ []

-- Fields

-- k fields of type int, their names from n on
unfoldable pub ints : ℕ → ℕ → List ℕ
ints zero n = []
ints (suc k) n = two n ++ two 1 ++ ints k (suc n)

-- a class of name n below s with f fields and k methods
unfoldable pub fielded : ℕ → ℕ → ℕ → List ℕ → ℕ → List ℕ → List ℕ
fielded n s f fs k ms = let body = two n ++ two s ++ (f ∷ fs) ++ (k ∷ ms) in 1 ∷ two (length body) ++ body

-- code: the int v into this one's field 5 of class c, 3 steps; an int out of it, 2 steps

unfoldable pub into : ℕ → ℕ → List ℕ
into c v = 0x19 ∷ 0 ∷ 0x11 ∷ two v ++ (0xB5 ∷ two c) ++ two 5 ++ two 1

unfoldable pub from : ℕ → List ℕ
from c = 0x19 ∷ 0 ∷ 0xB4 ∷ two c ++ two 5 ++ two 1
