-- Taking back loads, paper 10: what a list of calls after a boot answers, and how many rows and loads that can be taken back it leaves, from a boot of any tables
-- that boot accepts.
use Rattle.std.specs.Prelude.{◌≡◌, refl, List, [], ◌∷◌, ◌++◌, map, ℕ, zero, suc, length, replicate}
use Rattle.std.proofs.Common.{◌∙◌}
use Rattle.definition.specs.declared.Reply.TheVariants.{Accepted}
use Rattle.definition.specs.Tables.{Tables, Rows, cut_to, view, file_at, class_at}
use Rattle.definition.specs.Calls.{numbered_on, boot, Call, load_define, call_define, call_record, call_start, call_run, call_step, call_boot, call_drop, call_sweep, call_try, call_take_back, boot_rows, perform_all, try_rows, tried_with, taken_back, turn, turn_of, define_rows, entry_trace, record_rows, start_rows, drop_rows, sweep_rows, answer_of, step_task, step_on, step_rows}
use Rattle.unbroken.specs.OnRows.{accepted-shaped, same-booted}
use Rattle.definition.specs.Lists.{every, all, any, doubled, index_of, is_none, to_list, same_list, filled, rows}
use Rattle.definition.specs.Maybe as Maybe
use Rattle.definition.specs.Chains.{has, fires, rest, grow, reach_from, reach, leads}
use Rattle.definition.specs.Requests.{same_request}
use Rattle.definition.specs.Superclasses.{seek, nearest, below}
use Rattle.definition.specs.Classes.{find, lower, super_of, loader_of, own_slots, slots_in, slots, slot_is, has_field, same_signature, alike, methods_of, has_method, selected, is_named}
use Rattle.definition.specs.Constraints.{tie_edges, subtype_edges, edges, pair_agrees, row_agrees, agrees_over, agrees, tie_is, new_tie, new_ties, signature_ties, agrees_after, post}
use Rattle.definition.specs.File.{byte, short, name, count, fields_in, one_in, arguments_in, signature_in, names_in, map_in, maps_from, maps_in, methods_in, ends, same_field, same_method, read_file}
use Rattle.definition.specs.Instructions.{pick, opcode_of, inline_length, short_at, extend, instruction_of, sized_as, decode}
use Rattle.definition.specs.Verifier.{type_of_name, meet_class, meet_int, meets, meet_kind, pop, pop_all, effect, returns, return_kind, target, goes_on, map_at, local_type, meet_local, meet_all, meet_map, flow_into, flow_to_target, start_at, after, maps_past, verify, types_at, unmapped_from, unmapped, notes_of_method, notes_of}
use Rattle.definition.specs.Verifier as Verifier
use Rattle.definition.specs.Machine.{object_held, existing, in_use, unused, made, roomless, share_used, made_by, rewritten, changed, initial_value, new_object, pop!, pop_all!, int!, reference!, of_kind!, kind!, kinds!, compute, jumps, room!, object!, now, under!, give, execute, step}
use Rattle.definition.specs.Loading.{subtype_is, new_subtypes, override_tie, override_ties, define, recorded, started}
use Rattle.definition.specs.Sweeping.{named, roots, links_from, reached, swept_from, freed_from}
use Rattle.definition.specs.Computing.OnRows.{settle, on_rows, run_rows, perform_rows, perform_all_rows}
use Rattle.definition.specs.Computing.Samples.{file_f, two, method, file_of, plain, taker, coded, lifts, ready, tied12, tied123}
use Rattle.definition.specs.Answers.{number, number_of_step, number_of, ◌>>=◌, need, take?}

-- the calls after the boot, their answers' words, then classes, kept bytes, entries, ties, subtype constraints and loads that can be taken back, and the numbers of
-- the ties and of the subtype constraints
pub record BackCase : Type 0 where
  pub calls : List Call
  pub words : List ℕ
  pub left : List ℕ

abbrev pub backs : List Call → List ℕ → List ℕ → BackCase
backs c w l = record { calls = c; words = w; left = l }

-- n loaders, from l on, record name x as class c
unfoldable pub recorded! : ℕ → ℕ → ℕ → ℕ → List Call
recorded! zero l x c = []
recorded! (suc n) l x c = call_record l x c ∷ recorded! n (suc l) x c

-- 34 loads of which the first two are records of Object
unfoldable pub loads34 : List Call
loads34 = recorded! 15 1 2 0 ++ call_define 1 (plain 40 2) ∷ recorded! 14 2 40 1 ++ call_define 1 (plain 41 2) ∷ recorded! 3 2 41 2

abbrev pub back : ℕ → List Call
back n = replicate n call_take_back

abbrev fine : ℕ → List ℕ
fine n = replicate n 0

-- what a boot leaves, and no load
abbrev booted : List ℕ
booted = 1 ∷ 0 ∷ 1 ∷ 0 ∷ 0 ∷ 0 ∷ []

-- (1, 2) and file F are loaded and task 0 runs F, then class 12 is loaded
abbrev running : List Call
running = call_record 1 2 0 ∷ call_define 1 file_f ∷ call_start 0 1 10 20 7 ∷ call_define 1 (plain 12 2) ∷ []

-- its method makes a 99, which isn't loaded, and then class 12 is loaded
abbrev wanting : List Call
wanting = call_record 1 2 0 ∷ call_define 1 (coded (0xBB ∷ 0 ∷ 99 ∷ 0x3A ∷ 2 ∷ 0x11 ∷ 0 ∷ 0 ∷ 0xAC ∷ [])) ∷ call_start 0 1 10 20 7 ∷ call_define 1 (plain 12 2) ∷ []

unfoldable pub takings : List BackCase
takings =
    -- nothing was loaded
    backs (back 1) (19 ∷ []) booted
    -- a record and a define, each taken back; then it is too late
    ∷ backs (call_record 1 2 0 ∷ call_define 1 (plain 12 2) ∷ back 3) (fine 4 ++ 19 ∷ []) booted
    -- a record of what is there, a refused load and a try are no loads
    ∷ backs (call_record 1 2 0 ∷ call_record 1 2 0 ∷ back 2) (fine 3 ++ 19 ∷ []) booted
    ∷ backs (call_record 1 2 0 ∷ call_define 1 (plain 12 99) ∷ call_record 1 3 0 ∷ back 2) (0 ∷ 5 ∷ 13 ∷ 0 ∷ 19 ∷ []) booted
    ∷ backs (call_record 1 2 0 ∷ call_try (load_define 1 (plain 12 2)) 512 ∷ back 2) (fine 3 ++ 19 ∷ []) booted
    -- a define that overrides: its tie goes with it, and its number is given again
    ∷ backs tied12 (fine 6) (3 ∷ 42 ∷ 7 ∷ 1 ∷ 0 ∷ 6 ∷ 0 ∷ [])
    ∷ backs (tied12 ++ back 1) (fine 7) (2 ∷ 21 ∷ 6 ∷ 0 ∷ 0 ∷ 5 ∷ [])
    ∷ backs (tied12 ++ call_take_back ∷ call_define 2 (taker 41 40) ∷ []) (fine 8) (3 ∷ 42 ∷ 7 ∷ 1 ∷ 0 ∷ 6 ∷ 0 ∷ [])
    -- so does a subtype constraint; a tie that stands keeps its number
    ∷ backs (tied12 ++ call_define 1 lifts ∷ []) (fine 7) (4 ∷ 62 ∷ 8 ∷ 1 ∷ 1 ∷ 7 ∷ 0 ∷ 1 ∷ [])
    ∷ backs (tied12 ++ call_define 1 lifts ∷ back 1) (fine 8) (3 ∷ 42 ∷ 7 ∷ 1 ∷ 0 ∷ 6 ∷ 0 ∷ [])
    ∷ backs (call_record 1 2 0 ∷ call_define 1 lifts ∷ back 2) (fine 4) booted
    -- an idle step closes nothing, nor does a run that runs nothing or is refused
    ∷ backs (call_record 1 2 0 ∷ call_step ∷ back 1) (fine 3) booted
    ∷ backs (call_record 1 2 0 ∷ call_run 3 ∷ back 1) (fine 3) booted
    ∷ backs (call_record 1 2 0 ∷ call_run 0 ∷ back 1) (0 ∷ 3 ∷ 0 ∷ []) booted
    -- a drop of an empty task, a sweep that frees nothing, a start and a boot do; refused, none does
    ∷ backs (call_record 1 2 0 ∷ call_drop 0 ∷ back 1) (0 ∷ 0 ∷ 19 ∷ []) (1 ∷ 0 ∷ 2 ∷ 0 ∷ 0 ∷ 0 ∷ [])
    ∷ backs (call_record 1 2 0 ∷ call_drop 2 ∷ back 1) (0 ∷ 3 ∷ 0 ∷ []) booted
    ∷ backs (call_record 1 2 0 ∷ call_sweep ∷ back 1) (0 ∷ 0 ∷ 19 ∷ []) (1 ∷ 0 ∷ 2 ∷ 0 ∷ 0 ∷ 0 ∷ [])
    ∷ backs (call_record 1 2 0 ∷ call_define 1 file_f ∷ call_start 0 1 10 20 7 ∷ back 1) (fine 3 ++ 19 ∷ []) (2 ∷ 20 ∷ 3 ∷ 0 ∷ 0 ∷ 0 ∷ [])
    ∷ backs (call_record 1 2 0 ∷ call_start 0 1 10 20 7 ∷ back 1) (0 ∷ 5 ∷ 0 ∷ []) booted
    ∷ backs (call_record 1 2 0 ∷ call_boot ∷ back 1) (0 ∷ 0 ∷ 19 ∷ []) booted
    -- a class loaded while a task runs is taken back, but not what came before the start
    ∷ backs (running ++ back 2) (fine 5 ++ 19 ∷ []) (2 ∷ 20 ∷ 3 ∷ 0 ∷ 0 ∷ 0 ∷ [])
    -- a step that ran closes, and so does one that finished, alone or in a run
    ∷ backs (running ++ call_step ∷ back 1) (fine 5 ++ 19 ∷ []) (3 ∷ 29 ∷ 4 ∷ 0 ∷ 0 ∷ 0 ∷ [])
    ∷ backs (running ++ call_step ∷ call_define 1 (plain 13 2) ∷ call_step ∷ back 1) (fine 7 ++ 19 ∷ []) (4 ∷ 38 ∷ 5 ∷ 0 ∷ 0 ∷ 0 ∷ [])
    ∷ backs (running ++ call_run 9 ∷ back 1) (fine 5 ++ 19 ∷ []) (3 ∷ 29 ∷ 4 ∷ 0 ∷ 0 ∷ 0 ∷ [])
    -- a refused step doesn't, alone or in a run
    ∷ backs (wanting ++ call_step ∷ back 2) (fine 4 ++ 5 ∷ 0 ∷ 19 ∷ []) (2 ∷ 26 ∷ 3 ∷ 0 ∷ 0 ∷ 0 ∷ [])
    ∷ backs (wanting ++ call_run 9 ∷ back 2) (fine 6 ++ 19 ∷ []) (2 ∷ 26 ∷ 3 ∷ 0 ∷ 0 ∷ 0 ∷ [])
    -- of 34 loads 32 can be taken back, and the first two stay
    ∷ backs (loads34 ++ back 33) (fine 66 ++ 19 ∷ []) (1 ∷ 0 ∷ 3 ∷ 0 ∷ 0 ∷ 0 ∷ [])
    -- five taken back and five loaded again: none is lost but those two
    ∷ backs (loads34 ++ back 5 ++ call_define 1 (plain 42 2) ∷ recorded! 4 2 42 2 ++ back 33) (fine 76 ++ 19 ∷ []) (1 ∷ 0 ∷ 3 ∷ 0 ∷ 0 ∷ 0 ∷ [])
    ∷ []

unfoldable pub left_of : Rows → List ℕ
left_of r = length r.classes ∷ length r.kept ∷ length r.cache ∷ length r.ties ∷ length r.subtypes ∷ length r.trace ∷ r.numbers.ties ++ r.numbers.subtypes

-- on rows
computed : map (λ c. let g = perform_all_rows c.calls boot_rows in map number_of g.answer ++ left_of g.rows) takings ≡ map (λ c. c.words ++ c.left) takings
unfolding takings recorded! loads34 left_of numbered_on number number_of_step number_of ◌>>=◌ need take? define_rows entry_trace record_rows start_rows drop_rows answer_of step_task step_on step_rows turn_of turn find lower super_of loader_of own_slots slots_in slots slot_is has_field same_signature alike methods_of has_method selected tie_edges subtype_edges edges pair_agrees row_agrees agrees_over agrees tie_is new_tie new_ties signature_ties agrees_after post byte short name count fields_in one_in arguments_in signature_in names_in map_in maps_from maps_in methods_in ends same_field same_method read_file pick opcode_of inline_length short_at extend instruction_of sized_as decode every all any doubled index_of is_none to_list same_list filled subtype_is new_subtypes override_tie override_ties define recorded started existing initial_value new_object pop! pop_all! int! reference! kind! kinds! room! object! now under! give execute step Maybe.◌>>=◌ Maybe.need same_request has fires rest grow reach_from reach leads seek nearest below file_at class_at type_of_name meet_class meet_int meets pop pop_all is_named effect returns target goes_on map_at local_type meet_local meet_all meet_map flow_into flow_to_target start_at after Verifier.turn maps_past verify types_at unmapped_from unmapped notes_of settle on_rows run_rows perform_rows perform_all_rows two method file_of plain taker ready tied12 tied123 of_kind! compute jumps meet_kind return_kind notes_of_method unused made roomless share_used made_by rewritten changed object_held in_use named roots links_from reached swept_from freed_from sweep_rows file_f taken_back cut_to try_rows tried_with rows coded lifts
computed = refl

-- on tables: the words, and behind them what is left
pub taken-cases : (t : Tables) → (boot t).answer ≡ Accepted
    → map (λ c. let d = perform_all c.calls (boot t).tables in map number_of d.answer ++ left_of (view d.tables)) takings ≡ map (λ c. c.words ++ c.left) takings
taken-cases t h = each takings ∙ computed
  where
    each : (cs : List BackCase)
        → map (λ c. let d = perform_all c.calls (boot t).tables in map number_of d.answer ++ left_of (view d.tables)) cs
        ≡ map (λ c. let g = perform_all_rows c.calls boot_rows in map number_of g.answer ++ left_of g.rows) cs
    each [] = refl
    each (c ∷ cs) =
        let s = same-booted c.calls t (accepted-shaped t h) in
        λ i. (map number_of (s.0 i) ++ left_of (s.1.rows i)) ∷ each cs i
