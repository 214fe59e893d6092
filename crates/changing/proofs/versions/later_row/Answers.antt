-- A row without bytes, one that starts past the kept bytes, and the first byte.
use mathlib.Core.Path.{sym, ap, ◌∙◌}
use Prim.Native.Nat.{ℕ}
use native.Mathlib.Omega.{arith}
use lib.ListN.{get_or}
use Rattle.changing.proofs.Later.{no-file, past-kept, early-byte, late-byte}
use Rattle.changing.proofs.versions.later_row.Goals as goal

pub returns-then-at-eq0 : goal.returns-then-at-eq0
returns-then-at-eq0 c =
    let args = c.args in
    rw (← c.from-row.ensures) (no-file args.classes.now args.kept.now args.n c.from-row.result (sym c.at.ensures ∙ c.if-at-eq0.true))

pub returns-then-n-start : goal.returns-then-n-start
returns-then-n-start c =
    let args = c.args in
    rw (← c.from-row.ensures) (past-kept args.classes.now args.kept.now args.n c.from-row.result (omega (arith, c.at-start.ensures, c.if-n-start.true)))

pub returns-then-version-lt-VERSION_TWO : goal.returns-then-version-lt-VERSION_TWO
returns-then-version-lt-VERSION_TWO c =
    let args = c.args in
    rw (← c.from-row.ensures)
    (early-byte args.classes.now args.kept.now args.n c.from-row.result (λ e. c.if-at-eq0.false (c.at.ensures ∙ e)) (omega (arith, c.at-start.ensures, c.if-n-start.false)) _
    (c.at-version.ensures ∙ ap (λ (i : ℕ). get_or args.kept.now i 0) (c.from.ensures ∙ c.at-start.ensures)) c.if-version-lt-VERSION_TWO.true)

pub returns : goal.returns
returns c =
    let args = c.args in
    rw (← c.from-row.ensures)
    (late-byte args.classes.now args.kept.now args.n c.from-row.result (λ e. c.if-at-eq0.false (c.at.ensures ∙ e)) (omega (arith, c.at-start.ensures, c.if-n-start.false)) _
    (c.at-version.ensures ∙ ap (λ (i : ℕ). get_or args.kept.now i 0) (c.from.ensures ∙ c.at-start.ensures)) c.if-version-lt-VERSION_TWO.false)
