-- Hexadecimal read byte by byte, and its laws: digits in pairs are a file of the bytes that the pairs stand for, all else is no file.
use Rattle.std.specs.Prelude.{◌≡◌, ◌↔◌, IsTrue, EachIndex, slice_index, refl, Bool, true, false, ◌&&◌, ◌⊎◌, ◌≢◌, List, [], ◌∷◌, ℕ, zero, suc, ◌+◌, ◌-◌, ◌*◌, ◌/◌, ◌%◌, ◌<◌, ◌≤◌, length, get_or, set, take, drop, leb, ltb, eqb}
use Rattle.std.proofs.Common.{sym, ap, ◌∙◌, inl, inr, arith, add-one, drop_of_length-le, take_all}
use Rattle.std.proofs.lemmas.Bool.{false≢true}
use Rattle.std.proofs.Math.Option.{Option, none, some}
use borrow.Author.Tests.{leb-true, le-leb, lt-leb, eqb-true, eqb-false}
use Rattle.std.specs.Option.{unwrap_or}
use Rattle.std.specs.Option as Std-Option
use Rattle.std.specs.Prelude as Std
use Rattle.cells.specs.Optional.{optional}
use Rattle.definition.specs.Lists.{all, is_some, write_rows}
use Rattle.definition.specs.Maybe.{◌>>=◌, need}
use Rattle.definition.specs.Script.{hex_digit, hex_pairs, file}
use Rattle.layout.specs.Cells.{cell-rows, rows-copy}
use Rattle.script.specs.Numbers.{bind-none}
use Rattle.script.specs.Parts.{next-byte}

-- a digit's value; 16 if it is no digit
unfoldable pub value_in : Option ℕ → ℕ
value_in none = 16
value_in (some d) = d

unfoldable pub hex_value : ℕ → ℕ
hex_value b = value_in (hex_digit b)

abbrev pub is_hex : ℕ → Bool
is_hex b = is_some (hex_digit b)

unfoldable pub pair_of : ℕ → ℕ → ℕ
pair_of a b = (hex_value a * 16 + hex_value b) % 256

unfoldable pub pair_value : List ℕ → ℕ → ℕ
pair_value s i = pair_of (get_or s i 0) (get_or s (i + 1) 0)

-- each pair's byte, whatever the digits are
unfoldable pub quick_pairs : List ℕ → List ℕ
quick_pairs [] = []
quick_pairs (a ∷ []) = []
quick_pairs (a ∷ b ∷ bs) = pair_of a b ∷ quick_pairs bs

-- Laws of a digit

pub value_or : (o : Option ℕ) → unwrap_or (optional o) 16 ≡ value_in o
unfolding value_in
value_or none = refl
value_or (some d) = refl

pub digit_some : (o : Option ℕ) → Std-Option.is_some (optional o) ≡ is_some o
unfolding is_some
digit_some none = refl
digit_some (some d) = refl

between : (a b c : ℕ) → (leb a b && leb b c) ≡ true → (a ≤ b) × (b ≤ c)
between a b c e = step (leb a b) refl e
  where
    step : (t : Bool) → leb a b ≡ t → (t && leb b c) ≡ true → (a ≤ b) × (b ≤ c)
    step true q e = (leb-true a b q, leb-true b c e)
    step false q e = absurd (false≢true e)

digit_low : (b d : ℕ) → hex_digit b ≡ some d → d < 16
unfolding hex_digit ◌>>=◌ need
digit_low b d e = first (leb 48 b && leb b 57) refl e
  where
    lower : (lo hi base : ℕ) → (leb lo b && leb b hi) ≡ true → some (b - base) ≡ some d → hi < base + 16 → d < 16
    lower lo hi base q e h = let same : b - base ≡ d = cc in let w = between lo b hi q in omega (arith, w.1)

    last : (t : Bool) → (leb 97 b && leb b 102) ≡ t → (need t >>= λ _. some (b - 87)) ≡ some d → d < 16
    last true q e = lower 97 102 87 q e (omega arith)
    last false q e = let z : ◌≡◌ {A = ℕ} 0 1 = cc in absurd (omega arith)

    second : (t : Bool) → (leb 65 b && leb b 70) ≡ t
        → elim t as (λ _. Option ℕ) [ true ↦ some (b - 55) | false ↦ need (leb 97 b && leb b 102) >>= λ _. some (b - 87) ] ≡ some d → d < 16
    second true q e = lower 65 70 55 q e (omega arith)
    second false q e = last (leb 97 b && leb b 102) refl e

    first : (t : Bool) → (leb 48 b && leb b 57) ≡ t
        → elim t as (λ _. Option ℕ) [ true ↦ some (b - 48) | false ↦ elim (leb 65 b && leb b 70) as (λ _. Option ℕ) [ true ↦ some (b - 55) | false ↦ need (leb 97 b && leb b 102) >>= λ _. some (b - 87) ] ] ≡ some d → d < 16
    first true q e = lower 48 57 48 q e (omega arith)
    first false q e = second (leb 65 b && leb b 70) refl e

-- a digit's value is below 16
value-low : (b : ℕ) → is_hex b ≡ true → hex_value b < 16
unfolding is_some hex_value value_in
value-low b e = step (hex_digit b) refl e
  where
    step : (o : Option ℕ) → hex_digit b ≡ o → is_some o ≡ true → value_in o < 16
    step none q e = absurd (false≢true e)
    step (some d) q e = digit_low b d q

-- a byte's value, or 16
pub value-taken : (r : Std.Option ℕ) (b n : ℕ) → r ≡ optional (hex_digit b) → n ≡ unwrap_or r 16 → n ≡ hex_value b
unfolding hex_value
value-taken r b n e q = q ∙ rw e (value_or (hex_digit b))

pub digit-is : (b : ℕ) → is_hex b ≡ true → hex_digit b ≡ some (hex_value b)
unfolding is_some hex_value value_in
digit-is b e = step (hex_digit b) e
  where
    step : (o : Option ℕ) → is_some o ≡ true → o ≡ some (value_in o)
    step none e = absurd (false≢true e)
    step (some d) e = refl

pub digit-none : (b : ℕ) → is_hex b ≡ false → hex_digit b ≡ none
unfolding is_some
digit-none b e = step (hex_digit b) e
  where
    step : (o : Option ℕ) → is_some o ≡ false → o ≡ none
    step none e = refl
    step (some d) e = absurd (false≢true (sym e))

inside : (a b c : ℕ) → a ≤ b → b ≤ c → (leb a b && leb b c) ≡ true
inside a b c h k = rw (le-leb a b h, le-leb b c k)

under : (a b c : ℕ) → b < a → (leb a b && leb b c) ≡ false
under a b c h = rw (lt-leb a b h)

over : (a b c : ℕ) → a ≤ b → c < b → (leb a b && leb b c) ≡ false
over a b c h k = rw (le-leb a b h, lt-leb b c k)

module _ (b : ℕ) where
  pub value-digit : 48 ≤ b → b ≤ 57 → hex_digit b ≡ some (b - 48)
  unfolding hex_digit
  value-digit h k = rw (inside 48 b 57 h k, hex_digit)

  pub value-upper : 65 ≤ b → b ≤ 70 → hex_digit b ≡ some (b - 65 + 10)
  unfolding hex_digit
  value-upper h k = let same : b - 55 ≡ b - 65 + 10 = omega arith in rw (over 48 b 57 (omega arith) (omega arith), inside 65 b 70 h k, hex_digit, same)

  pub value-lower : 97 ≤ b → b ≤ 102 → hex_digit b ≡ some (b - 97 + 10)
  unfolding hex_digit need ◌>>=◌
  value-lower h k =
      let same : b - 87 ≡ b - 97 + 10 = omega arith in
      rw (over 48 b 57 (omega arith) (omega arith), over 65 b 70 (omega arith) (omega arith), inside 97 b 102 h k, hex_digit, same)

  pub value-below : b < 48 → hex_digit b ≡ none
  unfolding hex_digit need ◌>>=◌
  value-below h = rw (under 48 b 57 h, under 65 b 70 (omega arith), under 97 b 102 (omega arith), hex_digit)

  pub value-first : 57 < b → b < 65 → hex_digit b ≡ none
  unfolding hex_digit need ◌>>=◌
  value-first h k = rw (over 48 b 57 (omega arith) h, under 65 b 70 k, under 97 b 102 (omega arith), hex_digit)

  pub value-second : 70 < b → b < 97 → hex_digit b ≡ none
  unfolding hex_digit need ◌>>=◌
  value-second h k = rw (over 48 b 57 (omega arith) (omega arith), over 65 b 70 (omega arith) h, under 97 b 102 k, hex_digit)

  pub value-above : 102 < b → hex_digit b ≡ none
  unfolding hex_digit need ◌>>=◌
  value-above h = rw (over 48 b 57 (omega arith) (omega arith), over 65 b 70 (omega arith) (omega arith), over 97 b 102 (omega arith) h, hex_digit)

-- all bytes of a line are digits, or one of them is none

hexes-each : (s : List ℕ) → EachIndex s (λ k. IsTrue (is_hex (slice_index s k))) → all is_hex s ≡ true
unfolding all
hexes-each [] h = refl
hexes-each (b ∷ bs) h = step (is_hex b) (h 0 (omega arith)) (hexes-each bs (λ i k. h (suc i) (omega arith)))
  where
    step : (t : Bool) → IsTrue t → all is_hex bs ≡ true → elim t as (λ _. Bool) [ true ↦ all is_hex bs | false ↦ false ] ≡ true
    step true h r = r
    step false h r = absurd (false≢true h)

hexes-every : (s : List ℕ) → all is_hex s ≡ true → EachIndex s (λ k. IsTrue (is_hex (slice_index s k)))
unfolding all
hexes-every [] e i h = absurd (omega arith)
hexes-every (b ∷ bs) e i h = step (is_hex b) refl e (hexes-every bs) i h
  where
    step : (t : Bool) → is_hex b ≡ t → elim t as (λ _. Bool) [ true ↦ all is_hex bs | false ↦ false ] ≡ true → (all is_hex bs ≡ true → EachIndex bs (λ k. IsTrue (is_hex (slice_index bs k))))
        → (i : ℕ) → i < length (b ∷ bs) → IsTrue (is_hex (slice_index (b ∷ bs) i))
    step true q e r zero h = q
    step true q e r (suc i) h = r e i (omega arith)
    step false q e r i h = absurd (false≢true e)

pub hexes-are : (s : List ℕ) (t : Bool) → (IsTrue t ↔ EachIndex s (λ k. IsTrue (is_hex (slice_index s k)))) → t ≡ all is_hex s
hexes-are s true e = sym (hexes-each s (e.0 refl))
hexes-are s false e = step (all is_hex s) refl
  where
    step : (t : Bool) → all is_hex s ≡ t → false ≡ t
    step true q = e.1 (hexes-every s q)
    step false q = refl

-- the digits from place i on, by the value of the first

low-hex : (b : ℕ) → hex_value b ≤ 15 → is_hex b ≡ true
unfolding is_some hex_value value_in
low-hex b h = step (hex_digit b) h
  where
    step : (o : Option ℕ) → value_in o ≤ 15 → is_some o ≡ true
    step none h = absurd (omega arith)
    step (some d) h = refl

high-hex : (b : ℕ) → 15 < hex_value b → is_hex b ≡ false
unfolding is_some hex_value value_in
high-hex b h = step (hex_digit b) refl h
  where
    step : (o : Option ℕ) → hex_digit b ≡ o → 15 < value_in o → is_some o ≡ false
    step none q h = refl
    step (some d) q h = absurd (omega (arith, digit_low b d q))

module _ (s : List ℕ) (i : ℕ) where
  pub hexes-bad : i < length s → 15 < hex_value (get_or s i 0) → all is_hex (drop i s) ≡ false
  unfolding all
  hexes-bad h v = rw (next-byte s i h, all, high-hex _ v)

  pub hexes-later : i < length s → hex_value (get_or s i 0) ≤ 15 → all is_hex (drop i s) ≡ all is_hex (drop (i + 1) s)
  unfolding all
  hexes-later h v = rw (next-byte s i h, all, low-hex _ v)

  pub hexes-end : length s ≤ i → all is_hex (drop i s) ≡ true
  unfolding all
  hexes-end h = rw (drop_of_length-le s h)

-- Laws of pairs

paired : Option ℕ → Option ℕ → Option (List ℕ) → Option (List ℕ)
paired p q o = p >>= λ x. q >>= λ y. o >>= λ rest. some ((x * 16 + y) ∷ rest)

paired-some : (x y : ℕ) (bs : List ℕ) → paired (some x) (some y) (some bs) ≡ some ((x * 16 + y) ∷ bs)
unfolding paired ◌>>=◌
paired-some x y bs = refl

-- if one of the three is none
paired_none : (p q : Option ℕ) (o : Option (List ℕ)) → (p ≡ none) ⊎ ((q ≡ none) ⊎ (o ≡ none)) → paired p q o ≡ none
unfolding paired ◌>>=◌
paired_none p q o (inl e) = rw e
paired_none p q o (inr (inl e)) = bind-none p _ (λ x. rw e)
paired_none p q o (inr (inr e)) = bind-none p _ (λ x. bind-none q _ (λ y. rw e))

pairs-more : (a b : ℕ) (bs : List ℕ) → hex_pairs (a ∷ b ∷ bs) ≡ paired (hex_digit a) (hex_digit b) (hex_pairs bs)
unfolding hex_pairs paired
pairs-more a b bs = refl

pair-whole : (a b : ℕ) → is_hex a ≡ true → is_hex b ≡ true → hex_value a * 16 + hex_value b ≡ pair_of a b
unfolding pair_of
pair-whole a b p q = omega (arith, value-low a p, value-low b q)

pub pairs-all : (s : List ℕ) → all is_hex s ≡ true → length s % 2 ≡ 0 → hex_pairs s ≡ some (quick_pairs s)
unfolding all hex_pairs quick_pairs
pairs-all [] h l = refl
pairs-all (a ∷ []) h l = absurd (omega arith)
pairs-all (a ∷ b ∷ bs) h l = step (is_hex a) (is_hex b) refl refl h (λ k. pairs-all bs k (omega arith))
  where
    step : (x y : Bool) → is_hex a ≡ x → is_hex b ≡ y
        → elim x as (λ _. Bool) [ true ↦ elim y as (λ _. Bool) [ true ↦ all is_hex bs | false ↦ false ] | false ↦ false ] ≡ true
        → (all is_hex bs ≡ true → hex_pairs bs ≡ some (quick_pairs bs)) → hex_pairs (a ∷ b ∷ bs) ≡ some (pair_of a b ∷ quick_pairs bs)
    step true true p q h r =
        pairs-more a b bs ∙ rw (digit-is a p, digit-is b q, r h, ← pair-whole a b p q) (paired-some (hex_value a) (hex_value b) (quick_pairs bs))
    step true false p q h r = absurd (false≢true h)
    step false y p q h r = absurd (false≢true h)

pub pairs-bad : (s : List ℕ) → all is_hex s ≡ false → hex_pairs s ≡ none
unfolding all hex_pairs
pairs-bad [] h = absurd (false≢true (sym h))
pairs-bad (a ∷ []) h = refl
pairs-bad (a ∷ b ∷ bs) h = pairs-more a b bs ∙ paired_none (hex_digit a) (hex_digit b) (hex_pairs bs) (step (is_hex a) (is_hex b) refl refl h (pairs-bad bs))
  where
    step : (x y : Bool) → is_hex a ≡ x → is_hex b ≡ y
        → elim x as (λ _. Bool) [ true ↦ elim y as (λ _. Bool) [ true ↦ all is_hex bs | false ↦ false ] | false ↦ false ] ≡ false
        → (all is_hex bs ≡ false → hex_pairs bs ≡ none) → (hex_digit a ≡ none) ⊎ ((hex_digit b ≡ none) ⊎ (hex_pairs bs ≡ none))
    step true true p q h r = inr (inr (r h))
    step true false p q h r = inr (inl (digit-none b q))
    step false y p q h r = inl (digit-none a p)

pub pairs-odd : (s : List ℕ) → length s % 2 ≢ 0 → hex_pairs s ≡ none
unfolding hex_pairs
pairs-odd [] h = absurd (h refl)
pairs-odd (a ∷ []) h = refl
pairs-odd (a ∷ b ∷ bs) h =
    pairs-more a b bs ∙ paired_none (hex_digit a) (hex_digit b) (hex_pairs bs) (inr (inr (pairs-odd bs (λ e. h (omega (arith, e))))))

-- Laws of the bytes

pub pairs-length : (s : List ℕ) → length (quick_pairs s) ≡ length s / 2
unfolding quick_pairs
pairs-length [] = refl
pairs-length (a ∷ []) = refl
pairs-length (a ∷ b ∷ bs) = let r = pairs-length bs in omega (arith, r)

pub pairs-at : (s : List ℕ) (j : ℕ) → j < length s / 2 → get_or (quick_pairs s) j 0 ≡ pair_value s (j * 2)
unfolding quick_pairs pair_value
pairs-at [] j h = absurd (omega arith)
pairs-at (a ∷ []) j h = absurd (omega arith)
pairs-at (a ∷ b ∷ bs) zero h = refl
pairs-at (a ∷ b ∷ bs) (suc j) h =
    let low : suc j * 2 ≡ suc (suc (j * 2)) = omega arith in
    let high : suc j * 2 + 1 ≡ suc (suc (j * 2 + 1)) = omega arith in
    pairs-at bs j (omega arith) ∙ rw (high, low)

-- the bytes written one by one
pub pair-written : (s t : List ℕ) (i : ℕ) → i < length s / 2
    → set (write_rows set (take i (quick_pairs s)) 0 t) i (pair_value s (i * 2)) ≡ write_rows set (take (i + 1) (quick_pairs s)) 0 t
pair-written s t i h =
    let e : 0 + i ≡ i = omega arith in
    rw (add-one i, rows-copy cell-rows (quick_pairs s) 0 0 i t (omega (arith, pairs-length s)), e, pairs-at s i h)

pub pairs-written : (s : List ℕ) (i : ℕ) → length s / 2 ≤ i → take i (quick_pairs s) ≡ quick_pairs s
pairs-written s i h = take_all i (quick_pairs s) (omega (arith, pairs-length s))

-- Laws of a file

pub file-empty : (s : List ℕ) → length s ≡ 0 → file s ≡ none
unfolding file
file-empty [] h = refl
file-empty (b ∷ bs) h = absurd (omega arith)

file-pairs : (s : List ℕ) → length s ≢ 0 → file s ≡ hex_pairs s
unfolding file
file-pairs [] h = absurd (h refl)
file-pairs (b ∷ bs) h = refl

pub file-odd : (s : List ℕ) → length s % 2 ≢ 0 → file s ≡ none
file-odd s h = file-pairs s (λ e. h (omega (arith, e))) ∙ pairs-odd s h

pub file-bad : (s : List ℕ) → all is_hex s ≡ false → file s ≡ none
unfolding file
file-bad [] h = refl
file-bad (b ∷ bs) h = pairs-bad (b ∷ bs) h

pub file-all : (s : List ℕ) → length s ≢ 0 → length s % 2 ≡ 0 → all is_hex s ≡ true → file s ≡ some (quick_pairs s)
file-all s h e a = file-pairs s h ∙ pairs-all s a e

-- bytes of a file's number are a file if they are all digits
pub file-said : (s : List ℕ) (t : Bool) → length s ≢ 0 → length s % 2 ≡ 0 → t ≡ all is_hex s → t ≡ is_some (file s)
unfolding is_some
file-said s true h k e = rw (file-all s h k (sym e))
file-said s false h k e = rw (file-bad s (sym e))

-- a file is the bytes of its pairs
pub file-quick : (s : List ℕ) → is_some (file s) ≡ true → file s ≡ some (quick_pairs s)
unfolding is_some
file-quick s h = step (eqb (length s) 0) (eqb (length s % 2) 0) (all is_hex s) refl refl refl
  where
    not_none : file s ≡ none → ⊥
    not_none e = false≢true (ap is_some (sym e) ∙ h)

    step : (x y z : Bool) → eqb (length s) 0 ≡ x → eqb (length s % 2) 0 ≡ y → all is_hex s ≡ z → file s ≡ some (quick_pairs s)
    step true y z p q r = absurd (not_none (file-empty s (eqb-true (length s) 0 p)))
    step false false z p q r = absurd (not_none (file-odd s (eqb-false (length s % 2) 0 q)))
    step false true false p q r = absurd (not_none (file-bad s r))
    step false true true p q r = file-all s (eqb-false (length s) 0 p) (eqb-true (length s % 2) 0 q) r

pub file-none : (s : List ℕ) → is_some (file s) ≡ false → file s ≡ none
unfolding is_some
file-none s h = step (file s) h
  where
    step : (o : Option (List ℕ)) → is_some o ≡ false → o ≡ none
    step none h = refl
    step (some bs) h = absurd (false≢true (sym h))
