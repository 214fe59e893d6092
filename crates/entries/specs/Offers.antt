-- A load that is offered with a list of n numbers: 16 comes straight after 3, its first test. A load that isn't only tried needs no list: it is offered as with one
-- that is long enough.
use Rattle.std.specs.Prelude.{ℕ, true, false, not, ◌&&◌, ◌==◌, nat_lt}
use Rattle.definition.specs.Numbers.{word_unknown, word_short, list_limit}
use Rattle.definition.specs.declared.Reply.{Reply}
use Rattle.definition.specs.declared.Refusal.TheVariants.{Word}
use Rattle.definition.specs.Answers.{Result, refused, ok, number}
use Rattle.definition.specs.Tables.{Rows}
use Rattle.definition.specs.Calls.{Given, Load, load_rows}

unfoldable pub with_list : ℕ → Result (Given Reply) → Result (Given Reply)
with_list n (ok g) = elim (nat_lt n list_limit) [ true ↦ refused (Word word_short) | false ↦ ok g ]
with_list n (refused w) = elim (nat_lt n list_limit && not (number w == word_unknown)) [ true ↦ refused (Word word_short) | false ↦ refused w ]

unfoldable pub offered : ℕ → Load → Rows → Result (Given Reply)
offered n c r = with_list n (load_rows c r)
