-- Lines of an input carried out one after another, while the output has room: what that leaves, and that its output is the script's.
use Rattle.std.proofs.Math.Path.{◌≡◌, refl, sym, ap}
use Rattle.std.proofs.Common.{subst, ◌∙◌, length-append, length-take, drop-drop, le-leb, leb-true}
use Rattle.std.specs.Prelude.{Bool, take, drop, leb}
use Rattle.std.proofs.Math.Bool.{true, false}
use Rattle.std.proofs.Math.Option.{Option, none, some}
use mathlib.Core.List.{List, [], ◌∷◌, ◌++◌, append_assoc}
use Prim.Native.Nat.{ℕ, zero, suc, ◌+◌, ◌-◌, ◌≤◌, ◌<◌}
use native.Mathlib.Omega.{arith}
use Rattle.std.proofs.Math.ListN.{length, length-drop}
use Rattle.std.proofs.Math.Seq.{take-length}
use Rattle.std.proofs.lemmas.Bool.{lt-leb}
use Rattle.definition.specs.Maybe.{◌>>=◌}
use Rattle.definition.specs.Answers.{details}
use Rattle.definition.specs.Tables.{Tables, view}
use Rattle.definition.specs.Calls.{turn, perform}
use Rattle.definition.specs.Script.{Line, Turned, turned, read_line, carry_out, script, lines_of}
use Rattle.script.specs.Lines.{line-long}
use Rattle.script.specs.Printing.{line-short}
use Rattle.lines.specs.Ready.{Cut, first_line, Kind, whole, long, only, Within, first-none, first_kind, kind-within, line_length, lines-first, lines-whole, lines-only, length-beyond}

-- how many bytes were read, what was printed, the tables, and whether a line couldn't be read
pub record Carried : Type 0 where
  pub read : ℕ
  pub output : List ℕ
  pub tables : Tables
  pub ended : Bool

abbrev pub stopped : Bool → Tables → Carried
stopped e t = record { read = 0; output = []; tables = t; ended = e }

abbrev pub before : Cut → Turned → Carried → Carried
before c x p = record { read = c.size + p.read; output = x.output ++ p.output; tables = p.tables; ended = p.ended }

abbrev pub on_turned : (ℕ → List ℕ → Tables → Carried) → ℕ → List ℕ → Tables → Cut → Option Turned → Carried
on_turned go room s t c none = stopped true t
on_turned go room s t c (some x) = before c x (go (room - length x.output) (drop c.size s) x.tables)

abbrev pub on_line : (ℕ → List ℕ → Tables → Carried) → ℕ → List ℕ → Tables → Option Cut → Carried
on_line go room s t none = stopped false t
on_line go room s t (some c) = on_turned go room s t c (carry_out (take c.bytes s) t)

module _ (last : Bool) where
  -- line by line while the output has room for 64 bytes, which no line exceeds; each line takes a byte at least
  unfoldable pub carry_from : ℕ → ℕ → List ℕ → Tables → Carried
  carry_from zero room s t = stopped false t
  carry_from (suc k) room s t = elim (leb 64 room) as (λ _. Carried) [ true ↦ on_line (carry_from k) room s t (first_line last s) | false ↦ stopped false t ]

  unfoldable pub carry_lines : ℕ → List ℕ → Tables → Carried
  carry_lines room s t = carry_from (length s) room s t

-- Laws

module _ (last : Bool) where
  full : (k room : ℕ) (s : List ℕ) (t : Tables) → room < 64 → carry_from last k room s t ≡ stopped false t
  unfolding carry_from
  full zero room s t h = refl
  full (suc k) room s t h = rw (lt-leb 64 room h, carry_from)

  line-next : (k room : ℕ) (s : List ℕ) (t : Tables) → 64 ≤ room → carry_from last (suc k) room s t ≡ on_line (carry_from last k) room s t (first_line last s)
  unfolding carry_from
  line-next k room s t h = rw (le-leb 64 room h, carry_from)

  waits : (k room : ℕ) (s : List ℕ) (t : Tables) → first_line last s ≡ none → carry_from last k room s t ≡ stopped false t
  unfolding carry_from
  waits zero room s t e = refl
  waits (suc k) room s t e = step (leb 64 room)
    where
      step : (b : Bool) → elim b as (λ _. Carried) [ true ↦ on_line (carry_from last k) room s t (first_line last s) | false ↦ stopped false t ] ≡ stopped false t
      step true = rw e
      step false = refl

  -- as much fuel as there are bytes is enough
  fuel : (j k room : ℕ) (s : List ℕ) (t : Tables) → length s ≤ j → length s ≤ k → carry_from last j room s t ≡ carry_from last k room s t
  unfolding carry_from
  fuel zero k room [] t p q = sym (waits k room [] t (first-none last))
  fuel zero k room (b ∷ bs) t p q = absurd (omega arith)
  fuel (suc j) zero room [] t p q = waits (suc j) room [] t (first-none last)
  fuel (suc j) zero room (b ∷ bs) t p q = absurd (omega arith)
  fuel (suc j) (suc k) room s t p q =
      ap (λ (x : Carried). elim (leb 64 room) as (λ _. Carried) [ true ↦ x | false ↦ stopped false t ]) (line (first_line last s) refl (λ r u v f g. fuel j k r u v f g))
    where
      Same : Type 0
      Same = (r : ℕ) (u : List ℕ) (v : Tables) → length u ≤ j → length u ≤ k → carry_from last j r u v ≡ carry_from last k r u v

      turned : (c : Cut) → Within s c → Same → (x : Option Turned) → on_turned (carry_from last j) room s t c x ≡ on_turned (carry_from last k) room s t c x
      turned c w e none = refl
      turned c w e (some x) =
          ap (before c x) (e (room - length x.output) (drop c.size s) x.tables (omega (arith, w.some, length-drop c.size s)) (omega (arith, w.some, length-drop c.size s)))

      line : (o : Option Cut) → first_line last s ≡ o → Same → on_line (carry_from last j) room s t o ≡ on_line (carry_from last k) room s t o
      line none f e = refl
      line (some c) f e = turned c (kind-within last s c (first_kind last s c f)) e (carry_out (take c.bytes s) t)

  pub carry-full : (room : ℕ) (s : List ℕ) (t : Tables) → room < 64 → carry_lines last room s t ≡ stopped false t
  unfolding carry_lines
  carry-full room s t h = full (length s) room s t h

  pub carry-waits : (room : ℕ) (s : List ℕ) (t : Tables) → first_line last s ≡ none → carry_lines last room s t ≡ stopped false t
  unfolding carry_lines
  carry-waits room s t e = waits (length s) room s t e

  -- the first line that is ready is carried out, then those after it
  pub carry-line : (room : ℕ) (s : List ℕ) (t : Tables) (c : Cut) → 64 ≤ room → first_line last s ≡ some c
      → carry_lines last room s t ≡ on_turned (carry_lines last) room s t c (carry_out (take c.bytes s) t)
  unfolding carry_lines
  carry-line room [] t c h e = let absent : none ≡ some c = sym (first-none last) ∙ e in let z : ◌≡◌ {A = ℕ} 0 1 = cc in absurd (omega arith)
  carry-line room (b ∷ bs) t c h e =
      line-next (length bs) room (b ∷ bs) t h ∙ ap (on_line (carry_from last (length bs)) room (b ∷ bs) t) e ∙ turned (carry_out (take c.bytes (b ∷ bs)) t)
    where
      turned : (x : Option Turned) → on_turned (carry_from last (length bs)) room (b ∷ bs) t c x ≡ on_turned (carry_lines last) room (b ∷ bs) t c x
      turned none = refl
      turned (some x) =
          let w = kind-within last (b ∷ bs) c (first_kind last (b ∷ bs) c e) in
          let l = length-drop c.size (b ∷ bs) in
          ap (before c x) (fuel (length bs) (length (drop c.size (b ∷ bs))) (room - length x.output) (drop c.size (b ∷ bs)) x.tables (omega (arith, w.some, l)) (omega arith))

-- a line's bytes are few
pub turned-short : (l : List ℕ) (t : Tables) (x : Turned) → carry_out l t ≡ some x → length x.output ≤ 64
unfolding carry_out turned ◌>>=◌
turned-short l t x e = step (read_line l) e
  where
    step : (o : Option Line) → (o >>= λ l. some (turned l.letter t (perform l.call t))) ≡ some x → length x.output ≤ 64
    step none e = let z : ◌≡◌ {A = ℕ} 0 1 = cc in absurd (omega arith)
    step (some l) e =
        let same : turned l.letter t (perform l.call t) ≡ x = cc in
        subst (λ (y : Turned). length y.output ≤ 64) same (line-short l.letter (details (turn (view t)) (perform l.call t).answer))

-- Bounds: no more is read than there is, and no more written than there is room for

module _ (last : Bool) where
  pub record Bounded (n m : ℕ) (p : Carried) : Type 0 where
    pub read : p.read ≤ n
    pub written : length p.output ≤ m

  pub bounded : (k room : ℕ) (s : List ℕ) (t : Tables) → Bounded (length s) room (carry_from last k room s t)
  unfolding carry_from
  bounded zero room s t = record { read = omega arith; written = omega arith }
  bounded (suc k) room s t = step (leb 64 room) refl (λ r u v. bounded k r u v)
    where
      Next : Type 0
      Next = (r : ℕ) (u : List ℕ) (v : Tables) → Bounded (length u) r (carry_from last k r u v)

      line : 64 ≤ room → Next → (c : Cut) → Within s c → (o : Option Turned) → carry_out (take c.bytes s) t ≡ o → Bounded (length s) room (on_turned (carry_from last k) room s t c o)
      line h next c w none e = record { read = omega arith; written = omega arith }
      line h next c w (some x) e =
          let b = next (room - length x.output) (drop c.size s) x.tables in
          let p = carry_from last k (room - length x.output) (drop c.size s) x.tables in
          record {
            read = omega (arith, b.read, w.size, length-drop c.size s);
            written = omega (arith, b.written, turned-short (take c.bytes s) t x e, length-append x.output p.output);
          }

      first : 64 ≤ room → Next → (o : Option Cut) → first_line last s ≡ o → Bounded (length s) room (on_line (carry_from last k) room s t o)
      first h next none e = record { read = omega arith; written = omega arith }
      first h next (some c) e = line h next c (kind-within last s c (first_kind last s c e)) (carry_out (take c.bytes s) t) refl

      step : (b : Bool) → leb 64 room ≡ b → Next
          → Bounded (length s) room (elim b as (λ _. Carried) [ true ↦ on_line (carry_from last k) room s t (first_line last s) | false ↦ stopped false t ])
      step true q next = first (leb-true 64 room q) next (first_line last s) refl
      step false q next = record { read = omega arith; written = omega arith }

-- The output is the script's

-- nothing follows a line that can't be read
unfoldable pub followed : Bool → List ℕ → List ℕ
followed true bs = []
followed false bs = bs

abbrev onward : Option Turned → (Turned → List ℕ) → List ℕ
onward none f = []
onward (some x) f = f x

script-line : (l : List ℕ) (ls : List (List ℕ)) (t : Tables) → script (l ∷ ls) t ≡ onward (carry_out l t) (λ x. x.output ++ script ls x.tables)
unfolding script
script-line l ls t = step (carry_out l t)
  where
    step : (o : Option Turned) → elim o as (λ _. List ℕ) [ none ↦ [] | some x ↦ x.output ++ script ls x.tables ] ≡ onward o (λ x. x.output ++ script ls x.tables)
    step none = refl
    step (some x) = refl

long-none : (l : List ℕ) (t : Tables) → 65536 < length l → carry_out l t ≡ none
unfolding carry_out ◌>>=◌
long-none l t h = rw (line-long l h)

-- a line that is ready is the first of the whole input's lines, whatever follows
module _ (last : Bool) (rest : List ℕ) (closed : last ≡ true → rest ≡ []) (t : Tables) where
  abbrev AsScript : List ℕ → Cut → Type 0
  AsScript s c = script (lines_of (s ++ rest)) t ≡ onward (carry_out (take c.bytes s) t) (λ x. x.output ++ script (lines_of (drop c.size s ++ rest)) x.tables)

  by-line : (s l r : List ℕ) → lines_of s ≡ l ∷ lines_of r → script (lines_of s) t ≡ onward (carry_out l t) (λ x. x.output ++ script (lines_of r) x.tables)
  by-line s l r e = ap (λ (ls : List (List ℕ)). script ls t) e ∙ script-line l (lines_of r) t

  -- a line of too many bytes is not read, and no more of it makes it one that is
  beyond : (b : ℕ) (bs : List ℕ) → 65536 < length (b ∷ bs) → line_length (b ∷ bs) ≡ length (b ∷ bs) → script (lines_of (b ∷ bs ++ rest)) t ≡ []
  beyond b bs h l =
      let s = b ∷ bs ++ rest in
      let n = line_length s in
      let far : length (b ∷ bs) ≤ n = length-beyond (b ∷ bs) rest l in
      let all : length s ≡ length (b ∷ bs) + length rest = length-append (b ∷ bs) rest in
      by-line s (take n s) (drop (suc n) s) (lines-first b (bs ++ rest)) ∙ rw (long-none (take n s) t (omega (arith, length-take n s)))

  first-script : (s : List ℕ) (c : Cut) → Kind last s c → AsScript s c
  first-script [] c (whole h e) = absurd (omega arith)
  first-script [] c (long h l e) = absurd (omega arith)
  first-script [] c (only q h l e) = absurd (omega arith)
  first-script (b ∷ bs) c (whole h e) = rw e (by-line (b ∷ bs ++ rest) _ _ (lines-whole (b ∷ bs) rest h))
  first-script (b ∷ bs) c (long h l e) = rw (e, beyond b bs h l, take-length (b ∷ bs), long-none (b ∷ bs) t h)
  first-script (b ∷ bs) c (only q h l e) = rw (e, closed q) (by-line (b ∷ bs ++ []) _ _ (lines-only (b ∷ bs) h l))

-- what was printed, and the script of what is left with what follows it, is the script of the whole
module _ (last : Bool) (rest : List ℕ) (closed : last ≡ true → rest ≡ []) where
  abbrev Continued : List ℕ → Tables → Carried → Type 0
  Continued s t p = script (lines_of (s ++ rest)) t ≡ p.output ++ followed p.ended (script (lines_of (drop p.read s ++ rest)) p.tables)

  continued : (k room : ℕ) (s : List ℕ) (t : Tables) → Continued s t (carry_from last k room s t)
  unfolding followed carry_from
  continued zero room s t = refl
  continued (suc k) room s t = step (leb 64 room) refl (λ r u v. continued k r u v)
    where
      Next : Type 0
      Next = (r : ℕ) (u : List ℕ) (v : Tables) → Continued u v (carry_from last k r u v)

      turned : (c : Cut) → AsScript last rest closed t s c → Next → (o : Option Turned) → carry_out (take c.bytes s) t ≡ o → Continued s t (on_turned (carry_from last k) room s t c o)
      turned c e next none q = e ∙ rw q
      turned c e next (some x) q =
          let p = carry_from last k (room - length x.output) (drop c.size s) x.tables in
          let left : script (lines_of (drop c.size s ++ rest)) x.tables ≡ p.output ++ followed p.ended (script (lines_of (drop (c.size + p.read) s ++ rest)) p.tables) =
          rw (drop-drop p.read c.size s) at (next (room - length x.output) (drop c.size s) x.tables) in
          e ∙ rw q (ap (λ (bs : List ℕ). x.output ++ bs) left ∙ sym (append_assoc x.output p.output _))

      line : Next → (o : Option Cut) → first_line last s ≡ o → Continued s t (on_line (carry_from last k) room s t o)
      line next none q = refl
      line next (some c) q = turned c (first-script last rest closed t s c (first_kind last s c q)) next (carry_out (take c.bytes s) t) refl

      step : (b : Bool) → leb 64 room ≡ b → Next
          → Continued s t (elim b as (λ _. Carried) [ true ↦ on_line (carry_from last k) room s t (first_line last s) | false ↦ stopped false t ])
      step true q next = line next (first_line last s) refl
      step false q next = refl

  pub carry-script : (room : ℕ) (s : List ℕ) (t : Tables) → Continued s t (carry_lines last room s t)
  unfolding carry_lines
  carry-script room s t = continued (length s) room s t
