-- Of equal lengths the target becomes the source; of others it stays.
use Rattle.std.specs.Prelude.{◌≡◌, List, ◌++◌, length, take, drop}
use Rattle.std.proofs.Common.{sym, ◌∙◌, arith, append-nil, drop_of_length-le}
use lib.Seq.{take_all}
use Rattle.copying.specs.Copied.{copied-whole, copied_none}
use Rattle.copying.proofs.copy.Goals as goal

-- a table over the whole of another
over-whole : {A : Type 0} (xs t : List A) → length xs ≡ length t → take (length t) xs ++ drop (length xs) t ≡ xs
over-whole xs t e = rw (take_all (length t) xs (omega (arith, e)), drop_of_length-le t {i = length xs} (omega (arith, e))) (append-nil xs)

pub returns-then-source-target : goal.returns-then-source-target
returns-then-source-target g c = c.copy.ensures ∙ over-whole _ _ c.if-source-target.true ∙ sym (copied-whole _ _ c.if-source-target.true)

pub returns-else-source-target : goal.returns-else-source-target
returns-else-source-target g c = sym (copied_none _ _ c.if-source-target.false)
