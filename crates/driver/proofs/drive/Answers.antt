-- Boot, and the list if it is accepted; what is then left is safe.
use mathlib.Core.Path.{sym, ◌∙◌}
use Rattle.definition.specs.Calls.{perform}
use Rattle.driver.specs.Laws.{drive-refused, drive-accepted}
use Rattle.driver.specs.Safely.{drive-safe}
use Rattle.driver.proofs.drive.Goals as goal

pub returns-then-not-is_accepted : goal.returns-then-not-is_accepted
unfolding perform
returns-then-not-is_accepted c =
    let all = drive-safe _ _ _ _ _ _ (drive-refused _ _ _ _ _ c.boot-reply.ensures (sym c.is_accepted.ensures ∙ c.if-not-is_accepted.true)) in record { left = all.0; safe = all.1 }

pub returns : goal.returns
unfolding perform
returns c =
    let all = drive-safe _ _ _ _ _ _ (drive-accepted _ _ _ _ _ c.boot-reply.ensures (sym c.is_accepted.ensures ∙ c.if-not-is_accepted.false) _ c.perform_rows-performed.ensures) in record { left = all.0; safe = all.1 }
