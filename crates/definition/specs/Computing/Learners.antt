-- What learners do instead, and what the definitions do: each mistake would change one of these answers.
use Rattle.std.specs.Prelude.{◌≡◌, refl, false, List, [], ◌∷◌, ◌++◌, map, ℕ, replicate, set, get_or}
use Rattle.std.proofs.Math.Option.{none, some}
use Rattle.definition.specs.Numbers.{counts_length, count_ties}
use Rattle.definition.specs.Lists.{every, all, any, doubled, index_of, is_none, to_list, same_list, filled, rows, write_rows, write_stack, all_from}
use Rattle.definition.specs.Chains.{has, fires, rest, grow, reach_from, reach, leads}
use Rattle.definition.specs.Requests.{same_request}
use Rattle.definition.specs.Superclasses.{seek, nearest, below}
use Rattle.definition.specs.Classes.{find, lower, super_of, loader_of, own_slots, slots_in, slots, slot_is, has_field, same_signature, alike, methods_of, has_method, selected, is_named}
use Rattle.definition.specs.Constraints.{tie_edges, subtype_edges, edges, pair_agrees, row_agrees, agrees_over, agrees, tie_is, new_tie, new_ties, signature_ties, agrees_after, post}
use Rattle.definition.specs.File.{byte, short, name, count, fields_in, one_in, arguments_in, signature_in, names_in, map_in, maps_from, maps_in, methods_in, ends, same_field, same_method, read_file}
use Rattle.definition.specs.Instructions.{pick, opcode_of, inline_length, short_at, extend, instruction_of, sized_as, decode}
use Rattle.definition.specs.Verifier.{type_of_name, meet_class, meet_int, meets, meet_kind, pop, pop_all, effect, returns, return_kind, target, goes_on, map_at, local_type, meet_local, meet_all, meet_map, flow_into, flow_to_target, start_at, after, turn, maps_past, verify, types_at, unmapped_from, unmapped, notes_of_method, notes_of}
use Rattle.definition.specs.Machine.{object_held, existing, unused, made, rewritten, changed, roomless, share_used, made_by, initial_value, new_object, pop!, pop_all!, int!, reference!, of_kind!, kind!, kinds!, compute, jumps, room!, object!, now, under!, give, execute, step}
use Rattle.definition.specs.Loading.{subtype_is, new_subtypes, override_tie, override_ties, define, recorded, started}
use Rattle.definition.specs.Groups.{numbers_of_ties, lesser, lowest, group_of, cell_of, groups_of}
use Rattle.definition.specs.Tables.{file_at, class_at, tables, entry, tie, tie_at, subtype, with_ties, with_numbers, no_rows, number_at, put_number, put_numbers, put_trace, put_groups, counts_of, put, cut_to}
use Rattle.definition.specs.Broken.{groups_in}
use Rattle.definition.specs.Calls.{define_rows, entry_trace, record_rows, start_rows, drop_rows, answer_of, step_task, step_on, step_rows, carried, sweep_rows, taken_back}
use Rattle.definition.specs.Sweeping.{roots, links_from, reached, swept_from, freed_from}
use Rattle.definition.specs.Answers.{refused, number, number_of_step, number_of, ◌>>=◌, need, take?}
use Rattle.definition.specs.Computing.OnRows.{settle, on_rows, run_rows, perform_rows, perform_all_rows}
use Rattle.definition.specs.Computing.Samples.{two, method, ints, fielded, into, from, file_of, plain, file_f, taker, coded, lifts, pushes, ready, tied12, tied123}
use Rattle.definition.specs.Maybe as Maybe
use Rattle.definition.specs.Answers.{Refusal, Finished, Accepted, Defined, RanFor, Denied}
use Rattle.definition.specs.Tables.{Tables, row_numbers, level}
use Rattle.definition.specs.Broken.{is_object, classes_fit, entry_fits, in_turn, numbered, sound, level_fits, trace_fits}
use Rattle.definition.specs.Changeover.{carry}
use Rattle.definition.specs.Reasons.{tie_links, subtype_links, precedes, earlier, first_of, ended, along, best, best_from, of_length, shortest, reason_over, newer}
use Rattle.definition.specs.Calls.{boot_rows, numbered_on, Call, call_define, call_record, call_start, call_run, call_sweep, call_take_back}

-- the numbers of the answers to the calls, from a boot
unfoldable numbers : List Call → List ℕ
numbers cs = map number_of (perform_all_rows cs boot_rows).answer

-- Not only the constraints that touch the new request: (1,12) and (3,12) are joined through (2,12), which is not loaded
chain : numbers (tied123 ++ call_define 1 (plain 12 2) ∷ call_define 3 (plain 12 2) ∷ []) ≡ 0 ∷ 0 ∷ 0 ∷ 0 ∷ 0 ∷ 0 ∷ 0 ∷ 0 ∷ 0 ∷ 9 ∷ []
unfolding numbers every all any doubled index_of is_none to_list same_list filled same_request has fires rest grow reach_from reach leads seek nearest below find lower super_of loader_of own_slots slots_in slots slot_is has_field same_signature alike methods_of has_method selected tie_edges subtype_edges edges pair_agrees row_agrees agrees_over agrees tie_is new_tie new_ties signature_ties agrees_after post byte short name count fields_in one_in arguments_in signature_in names_in map_in maps_from maps_in methods_in ends same_field same_method read_file pick opcode_of inline_length short_at extend instruction_of sized_as decode type_of_name meet_class meet_int meets meet_kind pop pop_all is_named effect returns return_kind target goes_on map_at local_type meet_local meet_all meet_map flow_into flow_to_target start_at after turn maps_past verify types_at unmapped_from unmapped notes_of existing unused roomless share_used made_by initial_value new_object pop! pop_all! int! reference! kind! kinds! room! object! now under! give execute step subtype_is new_subtypes override_tie override_ties define recorded started file_at class_at define_rows entry_trace record_rows start_rows drop_rows answer_of step_task step_on step_rows number number_of_step number_of ◌>>=◌ need take? settle on_rows run_rows perform_rows perform_all_rows two method file_of plain file_f taker coded lifts pushes ready tied12 tied123 Maybe.◌>>=◌ Maybe.need notes_of_method of_kind! compute jumps
chain = refl

-- nor only upward from it: (1,13) leads to (2,12) through (1,12), which is not loaded
upward : numbers (tied12 ++ call_define 1 lifts ∷ call_define 2 (plain 12 2) ∷ call_define 1 (plain 13 2) ∷ []) ≡ 0 ∷ 0 ∷ 0 ∷ 0 ∷ 0 ∷ 0 ∷ 0 ∷ 0 ∷ 9 ∷ []
unfolding numbers every all any doubled index_of is_none to_list same_list filled same_request has fires rest grow reach_from reach leads seek nearest below find lower super_of loader_of own_slots slots_in slots slot_is has_field same_signature alike methods_of has_method selected tie_edges subtype_edges edges pair_agrees row_agrees agrees_over agrees tie_is new_tie new_ties signature_ties agrees_after post byte short name count fields_in one_in arguments_in signature_in names_in map_in maps_from maps_in methods_in ends same_field same_method read_file pick opcode_of inline_length short_at extend instruction_of sized_as decode type_of_name meet_class meet_int meets meet_kind pop pop_all is_named effect returns return_kind target goes_on map_at local_type meet_local meet_all meet_map flow_into flow_to_target start_at after turn maps_past verify types_at unmapped_from unmapped notes_of existing unused roomless share_used made_by initial_value new_object pop! pop_all! int! reference! kind! kinds! room! object! now under! give execute step subtype_is new_subtypes override_tie override_ties define recorded started file_at class_at define_rows entry_trace record_rows start_rows drop_rows answer_of step_task step_on step_rows number number_of_step number_of ◌>>=◌ need take? settle on_rows run_rows perform_rows perform_all_rows two method file_of plain file_f taker coded lifts pushes ready tied12 tied123 Maybe.◌>>=◌ Maybe.need notes_of_method of_kind! compute jumps
upward = refl

-- The superclass of 41 is looked up under loader 2, its defining loader, which means another class by 40 than loader 3, under which 41 is started
supers : numbers (ready ++ call_define 1 (coded (0x15 ∷ 1 ∷ 0xAC ∷ [])) ∷ call_record 2 10 1 ∷ call_define 2 (plain 41 10) ∷ call_define 3 (plain 10 2) ∷ call_record 3 41 2 ∷ call_start 0 3 41 20 5 ∷ [])
    ≡ 0 ∷ 0 ∷ 0 ∷ 0 ∷ 0 ∷ 0 ∷ 0 ∷ 0 ∷ 0 ∷ []
unfolding numbers every all any doubled index_of is_none to_list same_list filled same_request has fires rest grow reach_from reach leads seek nearest below find lower super_of loader_of own_slots slots_in slots slot_is has_field same_signature alike methods_of has_method selected tie_edges subtype_edges edges pair_agrees row_agrees agrees_over agrees tie_is new_tie new_ties signature_ties agrees_after post byte short name count fields_in one_in arguments_in signature_in names_in map_in maps_from maps_in methods_in ends same_field same_method read_file pick opcode_of inline_length short_at extend instruction_of sized_as decode type_of_name meet_class meet_int meets meet_kind pop pop_all is_named effect returns return_kind target goes_on map_at local_type meet_local meet_all meet_map flow_into flow_to_target start_at after turn maps_past verify types_at unmapped_from unmapped notes_of existing unused roomless share_used made_by initial_value new_object pop! pop_all! int! reference! kind! kinds! room! object! now under! give execute step subtype_is new_subtypes override_tie override_ties define recorded started file_at class_at define_rows entry_trace record_rows start_rows drop_rows answer_of step_task step_on step_rows number number_of_step number_of ◌>>=◌ need take? settle on_rows run_rows perform_rows perform_all_rows two method file_of plain file_f taker coded lifts pushes ready tied12 tied123 Maybe.◌>>=◌ Maybe.need notes_of_method of_kind! compute jumps
supers = refl

-- A method that overrides across loaders ties its argument (12) and its result (13): later loads are held to both
returning : ℕ → ℕ → List ℕ
returning n s = file_of n s 1 (method 30 12 13 (0x01 ∷ 0xB0 ∷ []))

overrides : numbers (ready ++ call_define 1 (returning 40 2) ∷ call_record 2 40 1 ∷ call_define 2 (returning 41 40) ∷ call_define 1 (plain 12 2) ∷ call_define 2 (plain 12 2) ∷ call_define 1 (plain 13 2) ∷ call_define 2 (plain 13 2) ∷ [])
    ≡ 0 ∷ 0 ∷ 0 ∷ 0 ∷ 0 ∷ 0 ∷ 0 ∷ 9 ∷ 0 ∷ 9 ∷ []
unfolding numbers returning every all any doubled index_of is_none to_list same_list filled same_request has fires rest grow reach_from reach leads seek nearest below find lower super_of loader_of own_slots slots_in slots slot_is has_field same_signature alike methods_of has_method selected tie_edges subtype_edges edges pair_agrees row_agrees agrees_over agrees tie_is new_tie new_ties signature_ties agrees_after post byte short name count fields_in one_in arguments_in signature_in names_in map_in maps_from maps_in methods_in ends same_field same_method read_file pick opcode_of inline_length short_at extend instruction_of sized_as decode type_of_name meet_class meet_int meets meet_kind pop pop_all is_named effect returns return_kind target goes_on map_at local_type meet_local meet_all meet_map flow_into flow_to_target start_at after turn maps_past verify types_at unmapped_from unmapped notes_of existing unused roomless share_used made_by initial_value new_object pop! pop_all! int! reference! kind! kinds! room! object! now under! give execute step subtype_is new_subtypes override_tie override_ties define recorded started file_at class_at define_rows entry_trace record_rows start_rows drop_rows answer_of step_task step_on step_rows number number_of_step number_of ◌>>=◌ need take? settle on_rows run_rows perform_rows perform_all_rows two method file_of plain file_f taker coded lifts pushes ready tied12 tied123 Maybe.◌>>=◌ Maybe.need notes_of_method of_kind! compute jumps
overrides = refl

-- A define's notes are posted before its ties: here 12 below 13 gets number 0, the ties on 12 and 13 get 1 and 2
notes-first : (perform_all_rows (ready ++ call_define 1 (returning 40 2) ∷ call_record 2 40 1 ∷ call_define 2 (file_of 41 40 1 (method 30 12 13 (0x19 ∷ 1 ∷ 0xB0 ∷ []))) ∷ []) boot_rows).rows.numbers
    ≡ row_numbers (1 ∷ 2 ∷ []) (0 ∷ [])
unfolding rows numbered_on returning every all any doubled index_of is_none to_list same_list filled same_request has fires rest grow reach_from reach leads seek nearest below find lower super_of loader_of own_slots slots_in slots slot_is has_field same_signature alike methods_of has_method selected tie_edges subtype_edges edges pair_agrees row_agrees agrees_over agrees tie_is new_tie new_ties signature_ties agrees_after post byte short name count fields_in one_in arguments_in signature_in names_in map_in maps_from maps_in methods_in ends same_field same_method read_file pick opcode_of inline_length short_at extend instruction_of sized_as decode type_of_name meet_class meet_int meets meet_kind pop pop_all is_named effect returns return_kind target goes_on map_at local_type meet_local meet_all meet_map flow_into flow_to_target start_at after turn maps_past verify types_at unmapped_from unmapped notes_of existing unused roomless share_used made_by initial_value new_object pop! pop_all! int! reference! kind! kinds! room! object! now under! give execute step subtype_is new_subtypes override_tie override_ties define recorded started file_at class_at define_rows entry_trace record_rows start_rows drop_rows answer_of step_task step_on step_rows number number_of_step number_of ◌>>=◌ need take? settle on_rows run_rows perform_rows perform_all_rows two method file_of plain file_f taker coded lifts pushes ready tied12 tied123 Maybe.◌>>=◌ Maybe.need notes_of_method of_kind! compute jumps
notes-first = refl

-- A group has the lowest number of its ties, not their place: the ties of numbers 1 and 2 are joined by that of number 4
groups-lowest : groups_of (tie 1 2 12 ∷ tie 3 4 12 ∷ tie 2 3 12 ∷ []) (1 ∷ 2 ∷ 4 ∷ []) ≡ 1 ∷ 1 ∷ 1 ∷ []
unfolding numbers_of_ties lesser lowest group_of cell_of groups_of has fires rest grow reach_from reach same_request tie_edges pick
groups-lowest = refl

-- Where the tie that joined them is taken back, the two groups part: of three rows in group 0 the first two are left
groups-part : groups_in (put (with_ties (tie 1 2 12 ∷ tie 3 4 12 ∷ []) (with_numbers (row_numbers (0 ∷ 1 ∷ []) []) no_rows)) (tables (set (replicate counts_length 0) count_ties 3) [] [] [] [] [] [] [])) ≡ 0 ∷ 1 ∷ []
unfolding put put_groups put_trace put_numbers put_number number_at counts_of write_rows write_stack rows numbers_of_ties lesser lowest group_of cell_of groups_of has fires rest grow reach_from reach same_request tie_edges pick
groups-part = refl

-- Two classes of one name are two classes
names : numbers (tied12 ++ call_define 1 (plain 12 2) ∷ call_define 3 (plain 12 2) ∷ call_record 2 12 4 ∷ call_record 2 12 3 ∷ []) ≡ 0 ∷ 0 ∷ 0 ∷ 0 ∷ 0 ∷ 0 ∷ 0 ∷ 0 ∷ 9 ∷ 0 ∷ []
unfolding numbers every all any doubled index_of is_none to_list same_list filled same_request has fires rest grow reach_from reach leads seek nearest below find lower super_of loader_of own_slots slots_in slots slot_is has_field same_signature alike methods_of has_method selected tie_edges subtype_edges edges pair_agrees row_agrees agrees_over agrees tie_is new_tie new_ties signature_ties agrees_after post byte short name count fields_in one_in arguments_in signature_in names_in map_in maps_from maps_in methods_in ends same_field same_method read_file pick opcode_of inline_length short_at extend instruction_of sized_as decode type_of_name meet_class meet_int meets meet_kind pop pop_all is_named effect returns return_kind target goes_on map_at local_type meet_local meet_all meet_map flow_into flow_to_target start_at after turn maps_past verify types_at unmapped_from unmapped notes_of existing unused roomless share_used made_by initial_value new_object pop! pop_all! int! reference! kind! kinds! room! object! now under! give execute step subtype_is new_subtypes override_tie override_ties define recorded started file_at class_at define_rows entry_trace record_rows start_rows drop_rows answer_of step_task step_on step_rows number number_of_step number_of ◌>>=◌ need take? settle on_rows run_rows perform_rows perform_all_rows two method file_of plain file_f taker coded lifts pushes ready tied12 tied123 Maybe.◌>>=◌ Maybe.need notes_of_method of_kind! compute jumps
names = refl

-- Nothing is posted and then refused: a refusal leaves the tables as they were
refused-leaves : (t : Tables) (w : Refusal) → carried Denied t (refused w) ≡ record { answer = Denied w; tables = t }
unfolding carried
refused-leaves t w = refl

-- A field goes by the class that resolution finds, by name and type: 42 is below 41 below 40, all with a field 5, 42's of type 40. 9 goes into 40's and 4 into 41's, through an object of class 42; then 40's is read, and
-- by class 42 the nearest int, 41's: 9 − 4
hiding : List Call
hiding = ready ++ call_define 1 (fielded 40 2 1 (ints 1 5) 0 []) ∷ call_define 1 (fielded 41 40 1 (ints 1 5) 0 [])
    ∷ call_define 1 (fielded 42 41 1 (two 5 ++ two 40) 1 (method 20 1 1 (into 40 9 ++ into 41 4 ++ from 40 ++ from 42 ++ (0x64 ∷ 0xAC ∷ [])))) ∷ []

fields : (perform_all_rows (hiding ++ call_start 0 1 42 20 7 ∷ call_run 12 ∷ []) boot_rows).answer
    ≡ Accepted ∷ Accepted ∷ Accepted ∷ Defined 1 ∷ Defined 2 ∷ Defined 3 ∷ Accepted ∷ RanFor 11 (Finished 0 5) ∷ []
unfolding fielded into from ints hiding every all any doubled index_of is_none to_list same_list filled same_request has fires rest grow reach_from reach leads seek nearest below find lower super_of loader_of own_slots slots_in slots slot_is has_field same_signature alike methods_of has_method selected tie_edges subtype_edges edges pair_agrees row_agrees agrees_over agrees tie_is new_tie new_ties signature_ties agrees_after post byte short name count fields_in one_in arguments_in signature_in names_in map_in maps_from maps_in methods_in ends same_field same_method read_file pick opcode_of inline_length short_at extend instruction_of sized_as decode type_of_name meet_class meet_int meets meet_kind pop pop_all is_named effect returns return_kind target goes_on map_at local_type meet_local meet_all meet_map flow_into flow_to_target start_at after turn maps_past verify types_at unmapped_from unmapped notes_of existing object_held made rewritten changed unused roomless share_used made_by initial_value new_object pop! pop_all! int! reference! kind! kinds! room! object! now under! give execute step subtype_is new_subtypes override_tie override_ties define recorded started file_at class_at define_rows entry_trace record_rows start_rows drop_rows answer_of step_task step_on step_rows number number_of_step number_of ◌>>=◌ need take? settle on_rows run_rows perform_rows perform_all_rows two method file_of plain file_f taker coded lifts pushes ready tied12 tied123 Maybe.◌>>=◌ Maybe.need notes_of_method of_kind! compute jumps
fields = refl

-- A load taken back takes the numbers of its constraints with it
taken-numbers : (perform_all_rows (ready ++ call_define 1 (returning 40 2) ∷ call_record 2 40 1 ∷ call_define 2 (file_of 41 40 1 (method 30 12 13 (0x19 ∷ 1 ∷ 0xB0 ∷ []))) ∷ call_take_back ∷ []) boot_rows).rows.numbers ≡ row_numbers [] []
unfolding rows taken_back cut_to numbered_on returning every all any doubled index_of is_none to_list same_list filled same_request has fires rest grow reach_from reach leads seek nearest below find lower super_of loader_of own_slots slots_in slots slot_is has_field same_signature alike methods_of has_method selected tie_edges subtype_edges edges pair_agrees row_agrees agrees_over agrees tie_is new_tie new_ties signature_ties agrees_after post byte short name count fields_in one_in arguments_in signature_in names_in map_in maps_from maps_in methods_in ends same_field same_method read_file pick opcode_of inline_length short_at extend instruction_of sized_as decode type_of_name meet_class meet_int meets meet_kind pop pop_all is_named effect returns return_kind target goes_on map_at local_type meet_local meet_all meet_map flow_into flow_to_target start_at after turn maps_past verify types_at unmapped_from unmapped notes_of existing unused roomless share_used made_by initial_value new_object pop! pop_all! int! reference! kind! kinds! room! object! now under! give execute step subtype_is new_subtypes override_tie override_ties define recorded started file_at class_at define_rows entry_trace record_rows start_rows drop_rows answer_of step_task step_on step_rows number number_of_step number_of ◌>>=◌ need take? settle on_rows run_rows perform_rows perform_all_rows two method file_of plain file_f taker coded lifts pushes ready tied12 tied123 Maybe.◌>>=◌ Maybe.need notes_of_method of_kind! compute jumps
taken-numbers = refl

-- A sweep that frees nothing closes the loads before it all the same
swept-late : numbers (call_record 1 2 0 ∷ call_sweep ∷ call_take_back ∷ []) ≡ 0 ∷ 0 ∷ 19 ∷ []
unfolding numbers every all any same_request has fires rest grow reach_from reach leads find below tie_edges subtype_edges edges pair_agrees row_agrees agrees_over agrees agrees_after recorded file_at class_at entry_trace record_rows sweep_rows taken_back cut_to links_from roots reached swept_from freed_from number number_of ◌>>=◌ need take? settle on_rows perform_rows perform_all_rows Maybe.◌>>=◌ Maybe.need read_file byte
swept-late = refl

-- Loads are taken back in turn: the second finds what the first left, and no class is there
taken-in-turn : trace_fits (level 0 0 0 0 0 ∷ level 1 0 1 0 0 ∷ []) boot_rows ≡ false
unfolding cut_to is_object classes_fit entry_fits in_turn numbered sound level_fits trace_fits every all all_from made_by
taken-in-turn = refl

-- A changeover numbers carried ties first, 0 to 2, then carried subtype constraints, 3 and 4; the groups are those of the ties so numbered; every object is the quote's, and no load is there
carried-marks : map (λ i. get_or (carry (tables (1 ∷ 0 ∷ 1 ∷ 3 ∷ 2 ∷ 0 ∷ 0 ∷ 0 ∷ []) [] [] [] (1 ∷ 2 ∷ 12 ∷ 1 ∷ 2 ∷ 13 ∷ 3 ∷ 2 ∷ 13 ∷ []) [] [] [])).counts i 0)
    (264 ∷ 265 ∷ 266 ∷ 520 ∷ 521 ∷ 937 ∷ 938 ∷ 939 ∷ 940 ∷ 8 ∷ 263 ∷ 776 ∷ []) ≡ 0 ∷ 1 ∷ 2 ∷ 3 ∷ 4 ∷ 0 ∷ 1 ∷ 1 ∷ 0 ∷ 1 ∷ 1 ∷ 0 ∷ []
unfolding rows filled tie_at numbers_of_ties lesser lowest group_of cell_of groups_of has fires rest grow reach_from reach same_request tie_edges pick
carried-marks = refl

-- The shortest reason, and of those the one with the newest row at the earliest difference. Ties on 12, rows 0, 2 and 3: 1–3, 3–2, 4–2; row 1: 13 below 12 in 4.
-- Loaded are (1,12), (2,12) and (4,13), as three classes. The ties 2 ∷ 0 come before the same two read from (1,12), before rows 1 ∷ 3, though one of these is the
-- newest of all, and before whatever is longer
newest-reason : (let T = tie_links (tie 1 3 12 ∷ tie 3 2 12 ∷ tie 4 2 12 ∷ []) (0 ∷ 2 ∷ 3 ∷ []) in
    reason_over newer (λ c. none) (entry 1 12 1 ∷ entry 2 12 2 ∷ entry 4 13 3 ∷ []) T (T ++ subtype_links (subtype 4 13 12 ∷ []) (1 ∷ []))) ≡ some (2 ∷ 0 ∷ [])
unfolding reason_over shortest of_length best_from best along ended first_of earlier precedes tie_links subtype_links find below nearest seek same_request Maybe.◌>>=◌
newest-reason = refl
