-- What carrying out an input's lines tells: how far it came, the tables, and the output table; line by line it is what the whole input tells.
use Rattle.std.proofs.Math.Path.{◌≡◌, refl, ap}
use Rattle.std.proofs.Common.{sym, ◌∙◌, arith, length-append, length-drop}
use Rattle.std.specs.Prelude as Std
use Rattle.std.specs.Prelude.{Some, None, Bool, false, List, ◌++◌, ℕ, ◌+◌, ◌-◌, ◌≤◌, ◌<◌, take, drop}
use Rattle.std.proofs.Math.Bool.{true}
use Rattle.std.proofs.Math.Option.{Option, none, some}
use Rattle.std.proofs.Math.ListN.{length, set, length-set}
use Rattle.std.proofs.Math.Seq.{drop-drop}
use Rattle.definition.specs.Lists.{write_rows}
use Rattle.definition.specs.Tables.{Tables}
use Rattle.definition.specs.Script.{Turned, carry_out}
use Rattle.cells.specs.Optional.{optional, optional-none, optional-some}
use Rattle.script.specs.Printing.{wrote-both}
use Rattle.layout.specs.Places.{write_rows-length}
use Rattle.lines.specs.Carried.{Left, left, printed_on, carried_on}
use Rattle.lines.specs.Ready.{Cut, first_line, first_kind, kind-within}
use Rattle.lines.specs.Scripts.{Carried, stopped, before, on_turned, carry_lines, carry-full, carry-waits, carry-line, turned-short, bounded}
use Rattle.lines.specs.Windows.{part_of, put_part, part-all, put_same, put-part}
pub use Rattle.lines.specs.declared.Progress.{Progress}

-- what carrying out leaves: how far it came, the tables, and the output table with the printed bytes from a place on
pub record Told : Type 0 where
  pub read : ℕ
  pub written : ℕ
  pub ended : Bool
  pub tables : Tables
  pub output : List ℕ

abbrev pub told : Progress → Tables → List ℕ → Told
told r t out = record { read = r.read; written = r.written; ended = r.ended; tables = t; output = out }

unfoldable pub told_of : List ℕ → Carried → Told
told_of out p = record { read = p.read; written = length p.output; ended = p.ended; tables = p.tables; output = write_rows set p.output 0 out }

-- the same with what was read and written before it
unfoldable pub told_from : ℕ → ℕ → List ℕ → Carried → Told
told_from at from out p =
    record { read = at + p.read; written = from + length p.output; ended = p.ended; tables = p.tables; output = write_rows set p.output from out }

-- Laws

pub told-start : (out : List ℕ) (p : Carried) → told_from 0 0 out p ≡ told_of out p
unfolding told_from told_of
told-start out p = let e : 0 + p.read ≡ p.read = omega arith in let f : 0 + length p.output ≡ length p.output = omega arith in rw (e, f)

pub told-stopped : (at from : ℕ) (e : Bool) (t : Tables) (out : List ℕ) → told (record { read = at; written = from; ended = e }) t out ≡ told_from at from out (stopped e t)
unfolding told_from write_rows
told-stopped at from e t out = let p : at + 0 ≡ at = omega arith in let q : from + 0 ≡ from = omega arith in rw (p, q)

told-before : (at from : ℕ) (out : List ℕ) (c : Cut) (x : Turned) (p : Carried)
    → told_from at from out (before c x p) ≡ told_from (at + c.size) (from + length x.output) (write_rows set x.output from out) p
unfolding told_from
told-before at from out c x p =
    let e : at + (c.size + p.read) ≡ at + c.size + p.read = omega arith in
    let f : from + length (x.output ++ p.output) ≡ from + length x.output + length p.output = omega (arith, length-append x.output p.output) in
    let g : write_rows set (x.output ++ p.output) from out ≡ write_rows set p.output (from + length x.output) (write_rows set x.output from out) =
    sym (wrote-both x.output p.output from (from + length x.output) (from + length x.output + length p.output) out (write_rows set x.output from out)
    (write_rows set p.output (from + length x.output) (write_rows set x.output from out)) (record { place = refl; table = refl }) (record { place = refl; table = refl })).table in
    rw (e, f, g)

-- the next line, which a table's part from a place on begins with
pub next-ready : (last : Bool) (s : List ℕ) (at : ℕ) (c : Cut) (r : Std.Option Cut) → r ≡ optional (first_line last (part_of at s)) → r ≡ Some c → first_line last (drop at s) ≡ some c
next-ready last s at c r p q = rw (← part-all at s) (optional-some (first_line last (part_of at s)) c (sym p ∙ q))

-- a line that is ready lies within what is left
pub record Reach (s : List ℕ) (at b k : ℕ) : Type 0 where
  pub bytes : at + b ≤ at + k
  pub some : at < at + k
  pub most : at + k ≤ length s

pub ready-reach : (last : Bool) (s : List ℕ) (at : ℕ) (c : Cut) → at ≤ length s → first_line last (drop at s) ≡ some c → Reach s at c.bytes c.size
ready-reach last s at c h e =
    let w = kind-within last (drop at s) c (first_kind last (drop at s) c e) in
    record { bytes = omega (arith, w.bytes); some = omega (arith, w.some); most = omega (arith, w.size, length-drop at s) }

pub told-begins : (last : Bool) (s out : List ℕ) (t : Tables) → told_from 0 0 out (carry_lines last (length out - 0) (drop 0 s) t) ≡ told_of out (carry_lines last (length out) s t)
told-begins last s out t = let e : length out - 0 ≡ length out = omega arith in rw e (told-start out (carry_lines last (length out) s t))

module _ (last : Bool) (s : List ℕ) (at from : ℕ) (out : List ℕ) (t : Tables) where
  abbrev Rest : Told
  Rest = told_from at from out (carry_lines last (length out - from) (drop at s) t)

  pub told-waits : (r : Std.Option Cut) → r ≡ optional (first_line last (part_of at s)) → r ≡ None → told (record { read = at; written = from; ended = false }) t out ≡ Rest
  told-waits r p q =
      let e : first_line last (drop at s) ≡ none = rw (← part-all at s) (optional-none (first_line last (part_of at s)) (sym p ∙ q)) in
      rw (carry-waits last (length out - from) (drop at s) t e) (told-stopped at from false t out)

  pub told-full : length out - from < 64 → told (record { read = at; written = from; ended = false }) t out ≡ Rest
  told-full h = rw (carry-full last (length out - from) (drop at s) t h) (told-stopped at from false t out)

  -- the next line, carried out
  module _ (next : Cut) (ready : first_line last (drop at s) ≡ some next) (room : 64 ≤ length out - from) (r : Std.Option ℕ) (u : Tables) (ys : List ℕ)
      (made : left r u ys ≡ carried_on t (part_of from out) (carry_out (take (at + next.bytes - at) (drop at s)) t)) where
    line_made : (o : Option Turned) → carry_out (take (at + next.bytes - at) (drop at s)) t ≡ o
        → carry_lines last (length out - from) (drop at s) t ≡ on_turned (carry_lines last) (length out - from) (drop at s) t next o
    line_made o e =
        let same : at + next.bytes - at ≡ next.bytes = omega arith in
        carry-line last (length out - from) (drop at s) t next room ready ∙ ap (on_turned (carry_lines last) (length out - from) (drop at s) t next) (rw same at e)

    pub told-ends : r ≡ None → told (record { read = at; written = from; ended = true }) u (put_part from out ys) ≡ Rest
    unfolding carried_on printed_on
    told-ends e = step (carry_out (take (at + next.bytes - at) (drop at s)) t) refl made
      where
        step : (o : Option Turned) → carry_out (take (at + next.bytes - at) (drop at s)) t ≡ o → left r u ys ≡ carried_on t (part_of from out) o
            → told (record { read = at; written = from; ended = true }) u (put_part from out ys) ≡ Rest
        step none p m =
            let same : u ≡ t = ap (λ (l : Left). l.tables) m in
            let whole : ys ≡ part_of from out = ap (λ (l : Left). l.output) m in
            rw (line_made none p, same, whole, put_same from out) (told-stopped at from true t out)
        step (some x) p m =
            let kind : r ≡ Some (length x.output) = ap (λ (l : Left). l.answer) m in
            let z : ◌≡◌ {A = ℕ} 0 1 = cc in absurd (omega arith)

    pub told-small : (n : ℕ) → r ≡ Some n → n ≤ 64
    unfolding carried_on printed_on
    told-small n e = step (carry_out (take (at + next.bytes - at) (drop at s)) t) refl made
      where
        step : (o : Option Turned) → carry_out (take (at + next.bytes - at) (drop at s)) t ≡ o → left r u ys ≡ carried_on t (part_of from out) o → n ≤ 64
        step none p m = let kind : r ≡ None = ap (λ (l : Left). l.answer) m in let z : ◌≡◌ {A = ℕ} 0 1 = cc in absurd (omega arith)
        step (some x) p m = let kind : r ≡ Some (length x.output) = ap (λ (l : Left). l.answer) m in let same : length x.output ≡ n = cc in omega (arith, turned-short (take (at + next.bytes - at) (drop at s)) t x p)

    pub told-goes-on : (n : ℕ) → r ≡ Some n
        → told_from (at + next.size) (from + n) (put_part from out ys) (carry_lines last (length (put_part from out ys) - (from + n)) (drop (at + next.size) s) u) ≡ Rest
    unfolding carried_on printed_on
    told-goes-on n e = step (carry_out (take (at + next.bytes - at) (drop at s)) t) refl made
      where
        step : (o : Option Turned) → carry_out (take (at + next.bytes - at) (drop at s)) t ≡ o → left r u ys ≡ carried_on t (part_of from out) o
            → told_from (at + next.size) (from + n) (put_part from out ys) (carry_lines last (length (put_part from out ys) - (from + n)) (drop (at + next.size) s) u) ≡ Rest
        step none p m = let kind : r ≡ None = ap (λ (l : Left). l.answer) m in let z : ◌≡◌ {A = ℕ} 0 1 = cc in absurd (omega arith)
        step (some x) p m =
            let kind : r ≡ Some (length x.output) = ap (λ (l : Left). l.answer) m in
            let size : n ≡ length x.output = cc in
            let same : u ≡ x.tables = ap (λ (l : Left). l.tables) m in
            let bytes : ys ≡ write_rows set x.output 0 (part_of from out) = ap (λ (l : Left). l.output) m in
            let fits : from + length x.output ≤ length out = omega (arith, turned-short (take (at + next.bytes - at) (drop at s)) t x p) in
            let whole : put_part from out ys ≡ write_rows set x.output from out = rw bytes (put-part from out x.output fits) in
            let left_over : length (write_rows set x.output from out) - (from + length x.output) ≡ length out - from - length x.output = omega (arith, write_rows-length set length-set x.output from out) in
            rw (line_made (some x) p, whole, size, same, left_over, ← drop-drop next.size at s) (sym (told-before at from out next x _))

-- what is told of an input lies within it and within the output
pub record Inside (n m : ℕ) (r : Progress) : Type 0 where
  pub read : r.read ≤ n
  pub written : r.written ≤ m

pub told-within : (last : Bool) (s out after : List ℕ) (t u : Tables) (r : Progress) → told r u after ≡ told_of out (carry_lines last (length out) s t) → Inside (length s) (length out) r
unfolding told_of carry_lines
told-within last s out after t u r e =
    let b = bounded last (length s) (length out) s t in
    record { read = rw (ap (λ (x : Told). x.read) e) b.read; written = rw (ap (λ (x : Told). x.written) e) b.written }
