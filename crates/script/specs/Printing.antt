-- Bytes written into a table one after another, and how long a printed number is.
use Rattle.std.specs.Prelude.{◌≡◌, refl, Bool, true, false, ◌≢◌, List, [], ◌∷◌, ◌++◌, ℕ, zero, suc, ◌+◌, ◌-◌, ◌/◌, ◌%◌, ◌≤◌, ◌<◌, length, set, ℤ, pos, negsuc, ltb}
use Rattle.std.proofs.Common.{sym, ◌∙◌, pos_of_ne-zero, length-append, lt-ltb, le-ltb}
use native.Mathlib.Omega.{arith}
use Rattle.std.proofs.Math.Numerals.{add-one}
use Rattle.definition.specs.Numbers.{sign_bit}
use Rattle.definition.specs.Lists.{write_rows}
use Rattle.definition.specs.declared.Details.{Details}
use Rattle.definition.specs.Answers.{signed, line}
use Rattle.definition.specs.Script.{printed, printed_int, printed_line}
use Rattle.layout.specs.Cells.{cell-rows, rows-parts}

-- the line of a letter, a refusal's number and three details, the last of them an int
unfoldable pub line_of : ℕ → ℕ → ℕ → ℕ → ℕ → List ℕ
line_of letter refusal one two three = printed_line letter (line refusal one two three)

pub signed-small : (n : ℕ) → n < sign_bit → signed n ≡ pos n
unfolding signed
signed-small n h = rw (lt-ltb n sign_bit h, signed)

-- a line written at a table's front, of that length
pub record Printed (bs : List ℕ) (r : ℕ) (before after : List ℕ) : Type 0 where
  pub size : r ≡ length bs
  pub table : after ≡ write_rows set bs 0 before

-- bytes written from place `at` on; `next` is the place after them
pub record Wrote (bs : List ℕ) (at next : ℕ) (before after : List ℕ) : Type 0 where
  pub place : next ≡ at + length bs
  pub table : after ≡ write_rows set bs at before

-- Laws

pub wrote-both : (xs ys : List ℕ) (i j k : ℕ) (t u v : List ℕ) → Wrote xs i j t u → Wrote ys j k u v → Wrote (xs ++ ys) i k t v
wrote-both xs ys i j k t u v p q = record {
  place = omega (arith, p.place, q.place, length-append xs ys);
  table = q.table ∙ rw (p.place, p.table) (sym (rows-parts cell-rows xs ys i t));
}

pub wrote-byte : (x i : ℕ) (t u : List ℕ) → u ≡ set t i x → Wrote (x ∷ []) i (i + 1) t u
unfolding write_rows
wrote-byte x i t u e = record { place = refl; table = e }

pub printed-line : (bs : List ℕ) (r : ℕ) (t u : List ℕ) → Wrote bs 0 r t u → Printed bs r t u
printed-line bs r t u w = record { size = omega (arith, w.place); table = w.table }

-- the last digit, and those before it

pub printed-last : (n : ℕ) → printed 0 n ≡ (48 + n % 10) ∷ []
unfolding printed
printed-last n = refl

pub printed-one : (k n : ℕ) → 0 < k → n < 10 → printed k n ≡ (48 + n) ∷ []
unfolding printed
printed-one zero n p h = absurd (omega arith)
printed-one (suc k) n p h = rw (lt-ltb n 10 h, printed)

pub printed-more : (k n : ℕ) → 0 < k → 10 ≤ n → printed k n ≡ printed (k - 1) (n / 10) ++ ((48 + n % 10) ∷ [])
unfolding printed
printed-more zero n p h = absurd (omega arith)
printed-more (suc k) n p h = let e : suc k - 1 ≡ k = omega arith in rw (le-ltb n 10 h, printed, e)

pub printed-length : (k n : ℕ) → length (printed k n) ≤ k + 1
unfolding printed
printed-length zero n = omega arith
printed-length (suc k) n = step (ltb n 10) (printed-length k (n / 10))
  where
    step : (t : Bool) → length (printed k (n / 10)) ≤ k + 1
        → length {A = ℕ} (elim t as (λ _. List ℕ) [ true ↦ (48 + n) ∷ [] | false ↦ printed k (n / 10) ++ ((48 + n % 10) ∷ []) ]) ≤ suc k + 1
    step true r = omega arith
    step false r = omega (arith, length-append (printed k (n / 10)) ((48 + n % 10) ∷ []))

-- digits written: the last alone, or after those before it
module _ (k n at : ℕ) (t : List ℕ) where
  pub digits_last : (u : List ℕ) → k ≡ 0 → u ≡ set t at (48 + n % 10) → Wrote (printed k n) at (at + 1) t u
  digits_last u z e = rw (z, printed-last n) (wrote-byte (48 + n % 10) at t u e)

  pub digits-one : (u : List ℕ) → k ≢ 0 → n < 10 → u ≡ set t at (48 + n) → Wrote (printed k n) at (at + 1) t u
  digits-one u p h e = rw (printed-one k n (pos_of_ne-zero p) h) (wrote-byte (48 + n) at t u e)

  pub digits_more : (j : ℕ) (u v : List ℕ) → k ≢ 0 → 10 ≤ n → Wrote (printed (k - 1) (n / 10)) at j t u → v ≡ set u j (48 + n % 10)
      → Wrote (printed k n) at (j + 1) t v
  digits_more j u v p h w e =
      rw (printed-more k n (pos_of_ne-zero p) h)
      (wrote-both (printed (k - 1) (n / 10)) ((48 + n % 10) ∷ []) at j (j + 1) t u v w (wrote-byte (48 + n % 10) j u v e))

  pub digits-end : (j : ℕ) (u : List ℕ) → Wrote (printed k n) at j t u → j ≤ at + (k + 1)
  digits-end j u w = omega (arith, w.place, printed-length k n)

-- a space and a number, or an int
module _ (n at r : ℕ) (t u : List ℕ) (space : u ≡ set t at 32) where
  pub number-wrote : (v : List ℕ) → Wrote (printed 9 n) (at + 1) r u v → Wrote (32 ∷ printed_int (pos n)) at r t v
  unfolding printed_int
  number-wrote v w = wrote-both (32 ∷ []) (printed 9 n) at (at + 1) r t u v (wrote-byte 32 at t u space) w

  pub minus-wrote : (v w : List ℕ) → 2147483648 ≤ n → v ≡ set u (at + 1) 45 → Wrote (printed 9 (4294967295 - n + 1)) (at + 2) r v w
      → Wrote (32 ∷ printed_int (signed n)) at r t w
  unfolding printed_int signed
  minus-wrote v w h e d =
      let two : at + 1 + 1 ≡ at + 2 = omega arith in
      let digits : Wrote (printed 9 (suc (4294967295 - n))) (at + 1 + 1) r v w = rw (two, ← add-one (4294967295 - n)) d in
      let minus : Wrote (45 ∷ printed 9 (suc (4294967295 - n))) (at + 1) r u w =
      wrote-both (45 ∷ []) (printed 9 (suc (4294967295 - n))) (at + 1) (at + 1 + 1) r u v w (wrote-byte 45 (at + 1) u v e) digits in
      rw (le-ltb n 2147483648 h, signed)
      (wrote-both (32 ∷ []) (45 ∷ printed 9 (suc (4294967295 - n))) at (at + 1) r t u w (wrote-byte 32 at t u space) minus)

pub number-end : (n at r : ℕ) (t u : List ℕ) → Wrote (32 ∷ printed_int (pos n)) at r t u → r ≤ at + 11
unfolding printed_int
number-end n at r t u w = omega (arith, w.place, printed-length 9 n)

int-length : (z : ℤ) → length (printed_int z) ≤ 11
unfolding printed_int
int-length (pos n) = omega (arith, printed-length 9 n)
int-length (negsuc n) = omega (arith, printed-length 9 (suc n))

pub int-end : (n at r : ℕ) (t u : List ℕ) → Wrote (32 ∷ printed_int (signed n)) at r t u → r ≤ at + 12
int-end n at r t u w = omega (arith, w.place, int-length (signed n))

-- a line has at most 64 bytes
pub line-short : (b : ℕ) (d : Details) → length (printed_line b d) ≤ 64
unfolding printed_line
line-short b d =
    let h : List ℕ = b ∷ 32 ∷ printed 9 d.refusal in
    let i : List ℕ = 32 ∷ printed_int (pos d.one) in
    let j : List ℕ = 32 ∷ printed_int (pos d.two) in
    let k : List ℕ = 32 ∷ printed_int (signed d.three) in
    omega (arith, length-append (h ++ i ++ j ++ k) (10 ∷ []), length-append (h ++ i ++ j) k, length-append (h ++ i) j, length-append h i, printed-length 9 d.refusal, int-length (pos d.one), int-length (pos d.two), int-length (signed d.three))

-- a line written part by part
pub line_wrote : (letter refusal one two three a b c d : ℕ) (t t₁ t₂ t₃ t₄ t₅ t₆ : List ℕ) → t₁ ≡ set t 0 letter
    → Wrote (32 ∷ printed_int (pos refusal)) 1 a t₁ t₂ → Wrote (32 ∷ printed_int (pos one)) a b t₂ t₃ → Wrote (32 ∷ printed_int (pos two)) b c t₃ t₄
    → Wrote (32 ∷ printed_int (signed three)) c d t₄ t₅ → t₆ ≡ set t₅ d 10 → Printed (line_of letter refusal one two three) (d + 1) t t₆
unfolding line_of printed_line printed_int
line_wrote letter refusal one two three a b c d t t₁ t₂ t₃ t₄ t₅ t₆ l r x y z e =
    let h : List ℕ = letter ∷ 32 ∷ printed 9 refusal in
    let i : List ℕ = 32 ∷ printed_int (pos one) in
    let j : List ℕ = 32 ∷ printed_int (pos two) in
    let k : List ℕ = 32 ∷ printed_int (signed three) in
    let first : Wrote h 0 a t t₂ = wrote-both (letter ∷ []) (32 ∷ printed 9 refusal) 0 1 a t t₁ t₂ (wrote-byte letter 0 t t₁ l) r in
    let second : Wrote (h ++ i) 0 b t t₃ = wrote-both h i 0 a b t t₂ t₃ first x in
    let third : Wrote (h ++ i ++ j) 0 c t t₄ = wrote-both (h ++ i) j 0 b c t t₃ t₄ second y in
    let fourth : Wrote (h ++ i ++ j ++ k) 0 d t t₅ = wrote-both (h ++ i ++ j) k 0 c d t t₄ t₅ third z in
    printed-line (line_of letter refusal one two three) (d + 1) t t₆
    (wrote-both (h ++ i ++ j ++ k) (10 ∷ []) 0 d (d + 1) t t₅ t₆ fourth (wrote-byte 10 d t₅ t₆ e))
