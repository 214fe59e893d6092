-- Posting the notes of a walk, step by step: what comes first is posted first, and a rejection ends it. What callers learn from the answer and the rows.
use Rattle.std.specs.Prelude.{Result, Err, IsErrAnd}
use Rattle.std.proofs.lemmas.Result.{err_from_is_err_and}
use mathlib.Core.Path.{◌≡◌, refl, sym, ap, ◌∙◌}
use mathlib.Core.Bool.{Bool, true, false}
use mathlib.Core.Option.{none, some}
use mathlib.Core.List.{List}
use Prim.Native.Nat.{ℕ}
use Rattle.definition.specs.Instructions.{pick}
use Rattle.definition.specs.Verifier.{Note}
use Rattle.rows.specs.Posting.{Noted, post_notes}
use Rattle.rows.specs.Laws.{post-append}
use Rattle.verifier.specs.Trace.{Trace, after, followed, Turned, refused, once, Verification, verification, posting, Turning, turning, taking, granted, accepted_notes}

pub posting-after : (l : ℕ) (ns : List Note) (w : Trace) (k : Noted) → posting l (after ns w) k ≡ posting l w (post_notes l ns k)
unfolding posting after
posting-after l ns w k = ap (verification w.accepts) (post-append l ns w.notes k)

pub posting-same : (l : ℕ) (w v : Trace) (k : Noted) (r : Verification) → v ≡ w → r ≡ posting l w k → r ≡ posting l v k
posting-same l w v k r e h = rw e h

module _ (l : ℕ) (w : Trace) (k : Noted) where
  pub posting-followed-on : (v : Trace) → w.accepts ≡ true → posting l (followed w v) k ≡ posting l v (posting l w k).rows
  unfolding followed pick posting
  posting-followed-on v e = rw e (posting-after l w.notes v k)

  pub posting-followed-stop : (v : Trace) → w.accepts ≡ false → posting l (followed w v) k ≡ posting l w k
  unfolding followed pick
  posting-followed-stop v e = rw e refl

  pub taking-once-on : (t : Turned) → w.accepts ≡ true → taking l (once w t) k ≡ taking l t (posting l w k).rows
  unfolding once pick taking posting
  taking-once-on t e = rw e (ap (turning t.next) (post-append l w.notes t.notes k))

  pub taking-once-stop : (t : Turned) → w.accepts ≡ false → taking l (once w t) k ≡ turning refused (posting l w k).rows
  unfolding once pick taking posting
  taking-once-stop t e = rw e refl

-- by the answer on the first part: it accepts or not, and leaves the rows j
module _ (l : ℕ) (w : Trace) (k j : Noted) (a : Bool) (e : verification a j ≡ posting l w k) where
  accepts-is : w.accepts ≡ a
  unfolding posting
  accepts-is = sym (ap (λ (v : Verification). v.accepts) e)

  rows_are : (posting l w k).rows ≡ j
  rows_are = sym (ap (λ (v : Verification). v.rows) e)

  -- the whole is that part and the rest
  module _ (v whole : Trace) (p : whole ≡ followed w v) where
    pub then-on : a ≡ true → (r : Verification) → r ≡ posting l v j → r ≡ posting l whole k
    then-on h r q = q ∙ sym (ap (λ (x : Trace). posting l x k) p ∙ posting-followed-on l w k v (accepts-is ∙ h) ∙ ap (posting l v) rows_are)

    pub then-stop : a ≡ false → verification a j ≡ posting l whole k
    then-stop h = e ∙ sym (ap (λ (x : Trace). posting l x k) p ∙ posting-followed-stop l w k v (accepts-is ∙ h))

  module _ (t whole : Turned) (p : whole ≡ once w t) where
    pub once-on : a ≡ true → (r : Turning) → r ≡ taking l t j → r ≡ taking l whole k
    once-on h r q = q ∙ sym (ap (λ (x : Turned). taking l x k) p ∙ taking-once-on l w k t (accepts-is ∙ h) ∙ ap (taking l t) rows_are)

    pub once-stop : a ≡ false → (r : Turning) → r ≡ turning refused j → r ≡ taking l whole k
    once-stop h r q = q ∙ sym (ap (λ (x : Turned). taking l x k) p ∙ taking-once-stop l w k t (accepts-is ∙ h) ∙ ap (turning refused) rows_are)

-- For callers: what the verifier says, by the answer and the rows

module _ (l : ℕ) (w : Trace) (k r : Noted) where
  -- the notes are posted, whatever the answer
  pub rows-say : (a : Bool) → verification a r ≡ posting l w k → r ≡ post_notes l w.notes k
  unfolding posting
  rows-say a e = ap (λ (v : Verification). v.rows) e

  pub answer-says : (a : Bool) → verification a r ≡ posting l w k → accepted_notes w ≡ granted a w.notes
  unfolding posting accepted_notes
  answer-says a e = ap (λ (v : Verification). granted v.accepts w.notes) (sym e)

  pub accepted-says : verification true r ≡ posting l w k → accepted_notes w ≡ some w.notes
  unfolding granted
  accepted-says e = answer-says true e

  pub rejected-says : verification false r ≡ posting l w k → accepted_notes w ≡ none
  unfolding granted
  rejected-says e = answer-says false e

-- what the exit of a `?` returns
pub exits : {T E : Type 0} (r : Result T E) (e : E) → IsErrAnd r (λ y. y ≡ e) → r ≡ Err e
exits r e h = let p = err_from_is_err_and r h in rw (p.1, p.2) refl
