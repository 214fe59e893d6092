-- What a line of a script leaves: how many bytes it printed or that it can't be read, the tables, and the output table with the bytes at
-- its front.
use Rattle.std.specs.Prelude as Std
use Rattle.std.specs.Prelude.{◌≡◌, refl, Some, None, List, ℕ, length, set, get_or, take}
use Rattle.std.proofs.Common.{ap, subst, ◌∙◌}
use Rattle.std.proofs.Math.Option.{Option, none, some}
use Rattle.definition.specs.Lists.{write_rows}
use Rattle.definition.specs.Maybe.{◌>>=◌}
use Rattle.definition.specs.declared.Reply.{Reply}
use Rattle.definition.specs.Answers.{details}
use Rattle.definition.specs.Tables.{Tables, view}
use Rattle.definition.specs.Calls.{Call, done, turn, perform}
use Rattle.definition.specs.Script.{Line, Turned, printed_line, turned, read_line, carry_out}
use Rattle.definition.specs.declared.Details.{Details}
use Rattle.script.specs.Printing as printing
use Rattle.script.specs.Printing.{line_of}
use Rattle.script.specs.Facts.{line-facts}
use Rattle.tasks.specs.Turns.{turn_of, turn_is}
use Rattle.calls.specs.Made.{call_of}
use Rattle.lines.specs.Asked.{Command, call_by, file_size, Heard}

pub record Left : Type 0 where
  pub answer : Std.Option ℕ
  pub tables : Tables
  pub output : List ℕ

abbrev pub left : Std.Option ℕ → Tables → List ℕ → Left
left r t out = record { answer = r; tables = t; output = out }

-- a line carried out
unfoldable pub printed_on : List ℕ → Turned → Left
printed_on out x = left (Some (length x.output)) x.tables (write_rows set x.output 0 out)

-- a line that can't be read changes nothing
unfoldable pub carried_on : Tables → List ℕ → Option Turned → Left
carried_on t out none = left None t out
carried_on t out (some x) = printed_on out x

-- Laws

-- the call made, and its answer printed
pub answered : (b : ℕ) (t u : Tables) (c : Call) (k : ℕ) (r : Reply) (d : Details) (n : ℕ) (out after : List ℕ) → done r u ≡ perform c t → k ≡ turn_of t.counts
    → d ≡ details k r → printing.Printed (line_of b d.refusal d.one d.two d.three) n out after
    → left (Some n) u after ≡ printed_on out (turned b t (perform c t))
unfolding printed_on turned line_of
answered b t u c k r d n out after made turns e p =
    let reads : line_of b d.refusal d.one d.two d.three ≡ printed_line b (details (turn (view t)) (perform c t).answer) =
    ap (printed_line b) (e ∙ (rw (turns, turn_is t, ← made))) in
    rw (p.size, p.table, reads, ← made)

-- the call that was read is the line's
pub line-carried : (s : List ℕ) (t : Tables) (out : List ℕ) (r : Std.Option Command) (file : List ℕ) (c : Command) → Heard (read_line s) r file → r ≡ Some c
    → printed_on out (turned (get_or s 0 0) t (perform (call_of (call_by c) (take (file_size c) file)) t)) ≡ carried_on t out (carry_out s t)
unfolding Heard carry_out carried_on ◌>>=◌
line-carried s t out r file c h e = step (read_line s) refl (subst (λ (a : Std.Option Command). Heard (read_line s) a file) e h)
  where
    step : (o : Option Line) → read_line s ≡ o → Heard o (Some c) file
        → printed_on out (turned (get_or s 0 0) t (perform (call_of (call_by c) (take (file_size c) file)) t)) ≡ carried_on t out (o >>= λ l. some (turned l.letter t (perform l.call t)))
    step none q x = absurd x
    step (some l) q x = rw (x.1, ← (line-facts s l q).letter)

pub line-unread : (s : List ℕ) (t : Tables) (out : List ℕ) (r : Std.Option Command) (file : List ℕ) → Heard (read_line s) r file → r ≡ None
    → left None t out ≡ carried_on t out (carry_out s t)
unfolding Heard carry_out carried_on ◌>>=◌
line-unread s t out r file h e = step (read_line s) (subst (λ (a : Std.Option Command). Heard (read_line s) a file) e h)
  where
    step : (o : Option Line) → Heard o None file → left None t out ≡ carried_on t out (o >>= λ l. some (turned l.letter t (perform l.call t)))
    step none x = refl
    step (some l) x = absurd x
