-- Nothing flows where there is no target; else the target has a map, and it is met.
use mathlib.Core.Path.{refl, sym, ◌∙◌}
use Rattle.rows.specs.Posting.{post_notes}
use Rattle.cells.specs.Optional.{optional-none, optional-some}
use Rattle.verifier.specs.Trace.{target_trace, posting}
use Rattle.verifier.proofs.PostingLaws.{posting-same}
use Rattle.verifier.proofs.TurnLaws.{target-bare, target-mapped}
use Rattle.verifier.proofs.turns.flow_to_target.Goals as goal

pub returns-in_default : goal.returns-in_default
unfolding target_trace posting post_notes
returns-in_default c = λ n. rw (optional-none _ (sym c.target_of.ensures ∙ c.in_default.is)) refl

pub returns-in_default-find_map : goal.returns-in_default-find_map
unfolding posting post_notes
returns-in_default-find_map c =
    λ n. rw (target-bare _ n _ _ c.find_map.ensures c.in_default-find_map.is _ _ _ (optional-some _ _ (sym c.target_of.ensures ∙ c.in-Some.is)) c.from.ensures) refl

pub returns : goal.returns
returns c =
    λ n. posting-same _ _ _ _ _
    (target-mapped _ n _ _ c.find_map.ensures _ c.in-Some-find_map.is _ _ _ (optional-some _ _ (sym c.target_of.ensures ∙ c.in-Some.is)) c.from.ensures)
    c.meet_map.ensures
