-- Decoding by the bytes that are left at a point: none, too few for what stands inline, or enough.
use mathlib.Core.Path.{◌≡◌, refl, sym, ap, ◌∙◌}
use mathlib.Core.Bool.{Bool, true, false}
use mathlib.Core.Option.{Option, none, some}
use mathlib.Core.List.{List}
use Prim.Native.Nat.{ℕ, suc, ◌+◌, ◌-◌, ◌<◌, ◌≤◌}
use native.Mathlib.Omega.{arith}
use native.Mathlib.Numerals.{add-one}
use lib.ListN.{length, get_or}
use lib.Dec.{leb, ltb}
use borrow.Author.Tests.{le-leb, lt-leb, lt-ltb, le-ltb, leb-true}
use Rattle.definition.specs.declared.Opcode.{Opcode}
use Rattle.definition.specs.declared.Instruction.{Instruction}
use Rattle.definition.specs.Instructions.{Decoded, opcode_of, inline_length, extend, instruction_of, sized_as, decode}
use Rattle.verifier.specs.declared.decoding.Reading.{Reading}
use Rattle.std.specs.Prelude as P
use Rattle.verifier.specs.Decoding.{reading_of, decoded_of}

module _ (version : ℕ) (code : List ℕ) (p : ℕ) where
  there : Opcode
  there = opcode_of version (get_or code p 0)

  by-room :
      (t : Bool) → leb (p + suc (inline_length code (p + 1) there)) (length code) ≡ t →
      decode version code p ≡ (elim t [ true ↦ sized_as (suc (inline_length code (p + 1) there)) (instruction_of code (p + 1) there) | false ↦ none ])
  unfolding decode there
  by-room t e = rw (← e)

  pub decode-past : length code ≤ p → decode version code p ≡ none
  decode-past h = by-room false (lt-leb (p + suc (inline_length code (p + 1) there)) (length code) (omega arith))

  module _ (o : Opcode) (n : ℕ) (e : o ≡ opcode_of version (get_or code p 0)) (l : n ≡ inline_length code (p + 1) o) (h : p < length code) where
    length-there : inline_length code (p + 1) there ≡ n
    unfolding there
    length-there = rw (← e, ← l)

    pub decode-cut : length code - p ≤ n → decode version code p ≡ none
    decode-cut k = by-room false (lt-leb (p + suc (inline_length code (p + 1) there)) (length code) (omega (arith, length-there)))

    pub decode-whole : n < length code - p → decode version code p ≡ sized_as (n + 1) (instruction_of code (p + 1) o)
    unfolding there
    decode-whole k = by-room true (le-leb (p + suc (inline_length code (p + 1) there)) (length code) (omega (arith, length-there))) ∙ rw (length-there, add-one n, e)

-- an instruction that was decoded: its size, and itself
bytes : Option Decoded → ℕ
bytes none = 0
bytes (some d) = d.size

itself : Option Decoded → Option Instruction
itself none = none
itself (some d) = some d.instruction

module _ (d : Decoded) (n : ℕ) where
  size_is : (m : Option Instruction) → sized_as n m ≡ some d → d.size ≡ n
  unfolding sized_as bytes
  size_is none q = let z : ◌≡◌ {A = ℕ} 0 1 = cc in absurd (omega arith)
  size_is (some i) q = ap bytes (sym q)

  itself-is : (m : Option Instruction) → sized_as n m ≡ some d → m ≡ some d.instruction
  unfolding sized_as itself
  itself-is none q = let z : ◌≡◌ {A = ℕ} 0 1 = cc in absurd (omega arith)
  itself-is (some i) q = ap itself q

module _ (version : ℕ) (code : List ℕ) (p : ℕ) (d : Decoded) (e : decode version code p ≡ some d) where
  -- there is room for its inline bytes
  room : leb (p + suc (inline_length code (p + 1) (there version code p))) (length code) ≡ true
  room = go (leb (p + suc (inline_length code (p + 1) (there version code p))) (length code)) refl
    where
      go : (t : Bool) → leb (p + suc (inline_length code (p + 1) (there version code p))) (length code) ≡ t → t ≡ true
      go true q = refl
      go false q = let f : ◌≡◌ {A = Option Decoded} none (some d) = sym (by-room version code p false q) ∙ e in cc

  decode-sized : sized_as (suc (inline_length code (p + 1) (there version code p))) (instruction_of code (p + 1) (there version code p)) ≡ some d
  decode-sized = sym (by-room version code p true room) ∙ e

  -- its size goes by its opcode
  pub decode-size : d.size ≡ suc (inline_length code (p + 1) (opcode_of version (get_or code p 0)))
  unfolding there
  decode-size = size_is d _ _ decode-sized

  pub decode-instruction : instruction_of code (p + 1) (opcode_of version (get_or code p 0)) ≡ some d.instruction
  unfolding there
  decode-instruction = itself-is d _ _ decode-sized

  -- it stands before the end, and has a byte or more
  pub decode-within : (p + d.size ≤ length code) × (1 ≤ d.size)
  unfolding there
  decode-within =
      let l : p + suc (inline_length code (p + 1) (there version code p)) ≤ length code = leb-true (p + suc (inline_length code (p + 1) (there version code p))) (length code) room in
      rw decode-size (l, omega arith)

-- what decoding answers, read back
pub decode_is : (m : Option Decoded) (r : P.Option Reading) → r ≡ reading_of m → m ≡ decoded_of r
unfolding reading_of decoded_of
decode_is m r e = same m ∙ ap decoded_of (sym e)
  where
    same : (k : Option Decoded) → k ≡ decoded_of (reading_of k)
    same none = refl
    same (some d) = refl

module _ (version : ℕ) (code : List ℕ) (p : ℕ) (r : P.Option Reading) (e : r ≡ reading_of (decode version code p)) (m : Reading) (h : r ≡ P.Some m) where
  pub decode-at : decode version code p ≡ some (record { instruction = m.instruction; size = m.size })
  unfolding decoded_of
  decode-at = decode_is (decode version code p) r e ∙ rw h

  pub at-within : p + m.size ≤ length code
  at-within = (decode-within version code p (record { instruction = m.instruction; size = m.size }) decode-at).0

-- the sign of 16 bits
module _ (n : ℕ) where
  by_sign : (t : Bool) → ltb n 32768 ≡ t → extend n ≡ (elim t [ true ↦ n | false ↦ n + 4294901760 ])
  unfolding extend
  by_sign t e = rw (← e)

  pub extend-low : n < 32768 → extend n ≡ n
  extend-low h = by_sign true (lt-ltb _ _ h)

  pub extend-high : 32768 ≤ n → extend n ≡ n + 4294901760
  extend-high h = by_sign false (le-ltb _ _ h)
