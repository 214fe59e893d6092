-- No room, then no ties under one loader, then full, then a clash, and else the plan with its ties.
use Rattle.std.proofs.Common.{refl, sym, ◌∙◌}
use Rattle.definition.specs.Constraints.{agrees}
use Rattle.unbroken.specs.Steps.{news-between}
use Rattle.posting.specs.Postings.{to_post, ties-same}
use Rattle.execution.specs.Decisions.{settle-no-room, settle-none, settle-full, settle-clash, settle-agrees}
use Rattle.execution.proofs.settling.settle.Goals as goal

pub returns-then-not-room : goal.returns-then-not-room
returns-then-not-room c = rw (c.refused.ensures.0, c.refused.ensures.1) (settle-no-room _ _ _ _ _ _ _ c.requires.0.ties _ _ c.if-not-room.true)

pub returns-then-one-two : goal.returns-then-one-two
unfolding to_post
returns-then-one-two c =
    rw (c.decided.ensures.0, c.decided.ensures.1) (settle-none _ _ _ _ _ _ _ c.requires.0.ties _ _ (sym (ties-same _ _ _ _ c.if-one-two.true)) _ c.if-not-room.false refl)

pub returns-then-k-eq0 : goal.returns-then-k-eq0
returns-then-k-eq0 c =
    rw (c.decided-then-k-eq0.ensures.0, c.decided-then-k-eq0.ensures.1) (settle-none _ _ _ _ _ _ _ c.requires.0.ties _ _ (c.new_ties-posting.ensures ∙ rw c.at-n.ensures) _ c.if-not-room.false (sym c.tie_number-k.ensures.0 ∙ c.if-k-eq0.true))

pub returns-then-n-k-gt-TIE_LIMIT : goal.returns-then-n-k-gt-TIE_LIMIT
returns-then-n-k-gt-TIE_LIMIT c =
    rw (c.refused-then-n-k-gt-TIE_LIMIT.ensures.0, c.refused-then-n-k-gt-TIE_LIMIT.ensures.1) (settle-full _ _ _ _ _ _ _ c.requires.0.ties _ _ (c.new_ties-posting.ensures ∙ rw c.at-n.ensures) _ c.if-not-room.false (rw (← c.at-n.ensures, ← c.tie_number-k.ensures.0) c.if-n-k-gt-TIE_LIMIT.true))

pub check_ties-requires : goal.check_ties-requires
check_ties-requires c =
    let args = c.args in
    let pre = c.requires in
    (pre.0, pre.1, rw (← c.at-n.ensures, ← c.tie_number-k.ensures.0) c.if-n-k-gt-TIE_LIMIT.false, pre.2, rw c.new_ties-posting.ensures (news-between _ args.one args.two _ pre.3 pre.4))

pub returns-then-not-agreed : goal.returns-then-not-agreed
unfolding agrees
returns-then-not-agreed c =
    rw (c.refused-then-not-agreed.ensures.0, c.refused-then-not-agreed.ensures.1) (settle-clash _ _ _ _ _ _ _ c.requires.0.ties _ _ (c.new_ties-posting.ensures ∙ rw c.at-n.ensures) _ c.if-not-room.false (rw (← c.at-n.ensures, ← c.tie_number-k.ensures.0) c.if-n-k-gt-TIE_LIMIT.false) (λ e. c.if-k-eq0.false (c.tie_number-k.ensures.0 ∙ e)) (sym (c.agreed.ensures ∙ c.check_ties.ensures.exactly) ∙ c.if-not-agreed.true))

pub returns : goal.returns
unfolding agrees
returns c =
    rw (c.decided-2.ensures.0, c.decided-2.ensures.1) (settle-agrees _ _ _ _ _ _ _ c.requires.0.ties _ _ (c.new_ties-posting.ensures ∙ rw c.at-n.ensures) _ c.if-not-room.false (rw (← c.at-n.ensures, ← c.tie_number-k.ensures.0) c.if-n-k-gt-TIE_LIMIT.false) (sym (c.agreed.ensures ∙ c.check_ties.ensures.exactly) ∙ c.if-not-agreed.false))
