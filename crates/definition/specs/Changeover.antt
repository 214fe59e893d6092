-- Changing over while quoting: tables of the first document's store are carried into today's tables, and from there calls answer as they did.
use Rattle.std.specs.Prelude.{◌≡◌, Bool, true, false, not, ◌&&◌, ◌||◌, List, [], ◌∷◌, ◌++◌, ℕ, ◌+◌, ◌*◌, get_or, replicate, eqb, leb}
use Rattle.std.proofs.Math.Option.{Option, none, some}
use Rattle.definition.specs.Numbers.{word_broken, word_hidden, word_share, version_two, version_three, object_limit, tie_limit, subtype_limit, trace_limit, level_cells, count_ties}
use Rattle.definition.specs.Lists.{filled}
use Rattle.definition.specs.Answers.{Word, Reply, Accepted, Denied, number_of, ends_in}
use Rattle.definition.specs.Groups.{groups_of}
use Rattle.definition.specs.Tables.{Tables, tables, shaped, ties_of}
use Rattle.definition.specs.Calls.{numbers_from, RowCall, row_define, row_record, row_start, row_drop, row_sweep, row_try, row_take_back, Call, call_boot, call_rows, call_step, call_run, Done, done, perform}
use Rattle.definition.specs.First.Tables.{FirstTables}
use Rattle.definition.specs.First.Broken.{first_broken}
use Rattle.definition.specs.First.Calls.{FirstReply, FirstRowCall, first_row_define, first_row_record, first_row_start, first_row_drop, FirstCall, first_call_boot, first_call_rows, first_call_step, first_call_run, first_perform}

-- Carried tables

-- no load that can be taken back
abbrev pub no_trace : List ℕ
no_trace = replicate (1 + trace_limit * level_cells) 0

-- ties numbered first, n of them, then subtype constraints, each in old order; no trace; and groups gs
abbrev pub ties_first : ℕ → List ℕ → List ℕ
ties_first n gs = numbers_from 0 tie_limit ++ (numbers_from n subtype_limit ++ (no_trace ++ gs))

-- the groups of ties numbered first, a cell for each row
abbrev pub groups_first : FirstTables → List ℕ
groups_first u = filled tie_limit 0 (groups_of (ties_of u) (numbers_from 0 (get_or u.counts count_ties 0)))

-- today's tables, but for the counts
abbrev pub with_counts : List ℕ → Tables → Tables
with_counts n t = tables n t.classes t.kept t.cache t.ties t.subtypes t.objects t.frames

-- every row as it stands; carried objects count as the quote's, task 0, whose owner cell is 1
abbrev pub carry : FirstTables → Tables
carry u = with_counts (u.counts ++ (replicate object_limit 1 ++ ties_first (get_or u.counts count_ties 0) (groups_first u))) u

-- The changeover fills the new tables, whatever they held. An old store broken by the first document's rules, or a new table of a wrong length, gets 1.
unfoldable pub changeover : FirstTables → Tables → Done Reply
changeover u t = elim (shaped t && not (first_broken u)) as (λ _. Done Reply) [ true ↦ done Accepted (carry u) | false ↦ done (Denied (Word word_broken)) t ]

-- What is claimed from there

-- the call of the first document that a call is; none for a call added later
unfoldable pub first_row_call_of : RowCall → Option FirstRowCall
first_row_call_of (row_define l bs) = some (first_row_define l bs)
first_row_call_of (row_record l n c) = some (first_row_record l n c)
first_row_call_of (row_start k l n m v) = some (first_row_start k l n m v)
first_row_call_of (row_drop k) = some (first_row_drop k)
first_row_call_of row_sweep = none
first_row_call_of (row_try c n) = none
first_row_call_of row_take_back = none

unfoldable pub first_call_of : Call → Option FirstCall
first_call_of call_boot = some first_call_boot
first_call_of (call_rows c) = elim (first_row_call_of c) [ none ↦ none | some b ↦ some (first_call_rows b) ]
first_call_of call_step = some first_call_step
first_call_of (call_run n) = some (first_call_run n)

-- the bytes begin with version 2 or 3
unfoldable pub later_file : List ℕ → Bool
later_file [] = false
later_file (b ∷ bs) = leb version_two b && leb b version_three

unfoldable pub brings_later : FirstCall → Bool
brings_later first_call_boot = false
brings_later (first_call_rows (first_row_define l bs)) = later_file bs
brings_later (first_call_rows (first_row_record l n c)) = false
brings_later (first_call_rows (first_row_start k l n m v)) = false
brings_later (first_call_rows (first_row_drop k)) = false
brings_later first_call_step = false
brings_later (first_call_run n) = false

-- What came later is involved in a call, which the old store answers with a and today's with b: the file that it brings is of version 2 or 3; or the old store refuses it
-- with 8, for a hidden field; or today's refuses it with 18, or ends the run in 18, for a report's share.
unfoldable pub involved : FirstCall → FirstReply → Reply → Bool
involved c a b = brings_later c || (eqb (number_of a) word_hidden || (eqb (number_of b) word_share || eqb (ends_in b) word_share))

-- Each call gets the answer that the old store would have given, before the first call in which what came later is involved. The store after the calls before it is
-- each machine's own.
abbrev pub AnswersAsBefore : List Call → FirstTables → Tables → Type 0
AnswersAsBefore [] u t = Unit {0}
AnswersAsBefore (c ∷ cs) u t = (b : FirstCall) → first_call_of c ≡ some b → involved b (first_perform b u).answer (perform c t).answer ≡ false
    → ((perform c t).answer ≡ (first_perform b u).answer) × AnswersAsBefore cs (first_perform b u).tables (perform c t).tables
