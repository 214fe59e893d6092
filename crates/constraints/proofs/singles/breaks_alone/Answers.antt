-- Both requests are cached, and the second's class is bad for the first's.
use mathlib.Core.Path.{sym, ◌∙◌}
use mathlib.Core.Logic.{⊎_elim}
use Rattle.constraints.proofs.Alones.{alone-from, alone-to, alone-both}
use Rattle.constraints.proofs.singles.breaks_alone.Goals as goal

pub returns-then-cached-a : goal.returns-then-cached-a
returns-then-cached-a c =
    sym (⊎_elim (λ h. alone-from _ _ _ _ _ _ _ _ c.place-a.ensures.0 h) (λ h. alone-to _ _ _ _ _ _ _ _ c.place-a.ensures.0 _ c.place-b.ensures.0 h.0 h.1) c.then-cached-a.either)

pub returns : goal.returns
returns c =
    c.is_bad_for.ensures
    ∙ sym (alone-both _ _ _ _ _ _ _ _ c.place-a.ensures.0 _ c.place-b.ensures.0 c.if-cached-a.false c.if-cached-b.false _ _ c.place.ensures.0 c.place-2.ensures.0)
