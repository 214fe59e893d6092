-- Cases of version 3 files with maps and branches, and of orders that no other case tells: of notes on arguments, of a map's operands and of what flows into them, of locals past the third,
-- of more than four maps, of argument types 0 and methods alike in a list.
use Rattle.std.specs.Prelude.{◌≡◌, refl, true, false, List, [], ◌∷◌, ◌++◌, ℕ, pos, length}
use Rattle.definition.specs.Lists.{every, all, any, doubled, index_of, is_some, is_none, to_list, same_list, filled}
use Rattle.definition.specs.Maybe as Maybe
use Rattle.definition.specs.Chains.{has, fires, rest, grow, reach_from, reach, leads}
use Rattle.definition.specs.Requests.{same_request}
use Rattle.definition.specs.Answers.{ends_in, shown, details, step_details, refusal_details, signed, int_bits, less, number, number_of_step, number_of, ◌>>=◌, need, take?}
use Rattle.definition.specs.Superclasses.{seek, nearest, below}
use Rattle.definition.specs.Classes.{find, lower, super_of, loader_of, own_slots, slots_in, slots, slot_is, has_field, arguments_of, same_signature, alike, methods_of, has_method, selected, is_named}
use Rattle.definition.specs.Constraints.{tie_edges, subtype_edges, edges, pair_agrees, row_agrees, agrees_over, agrees, tie_is, new_tie, new_ties, signature_ties, agrees_after, post}
use Rattle.definition.specs.File.{byte, short, name, count, fields_in, one_in, list_in, arguments_in, signature_in, names_in, map_in, maps_from, maps_in, methods_in, ends, same_field, same_method, read_file}
use Rattle.definition.specs.Instructions.{pick, opcode_of, inline_length, short_at, shorts_at, list_signature_at, extend, instruction_of, sized_as, decode}
use Rattle.definition.specs.Verifier.{type_of_name, meet_class, meet_int, meets, meet_kind, pop, pop_all, effect, returns, return_kind, target, goes_on, map_at, local_type, meet_local, meet_all, meet_map, flow_into, flow_to_target, start_at, after, maps_past, verify, types_at, unmapped_from, unmapped, notes_of_method, notes_of}
use Rattle.definition.specs.Verifier as Verifier
use Rattle.definition.specs.Machine.{object_held, existing, in_use, unused, made, roomless, share_used, made_by, rewritten, changed, initial_value, new_object, pop!, pop_all!, int!, reference!, of_kind!, kind!, kinds!, compute, jumps, room!, object!, now, under!, give, execute, step}
use Rattle.definition.specs.Loading.{subtype_is, new_subtypes, override_tie, override_ties, define, recorded, started}
use Rattle.definition.specs.Sweeping.{named, roots, links_from, reached, swept_from, freed_from}
use Rattle.definition.specs.Tables.{Tables, subtype, file_at, class_at}
use Rattle.definition.specs.declared.Reply.TheVariants.{Accepted}
use Rattle.definition.specs.Calls.{boot, call_define, call_start, call_step, call_run, turn, turn_of, define_rows, record_rows, start_rows, drop_rows, sweep_rows, answer_of, step_task, step_on, step_rows}
use Rattle.definition.specs.Computing.OnRows.{settle, on_rows, run_rows, perform_rows, perform_all_rows}
use Rattle.definition.specs.Computing.Samples.{file_f, two, method, file_of, plain, taker, coded, lifts, pushes, ready, tied12, tied123}
use Rattle.cases.specs.Cases.{Case, case, line, no, class, numbers_from, accepted, Right}
use Rattle.layout.specs.Tests.{All}
use Rattle.unbroken.specs.OnRows.{OneStep}
use Rattle.cases.specs.Computed.{size}
use Rattle.cases.specs.Seen.{seen, meant, computed-seen}
use Rattle.cases.specs.Proved.{right}
use Rattle.cases.specs.Branches.{twos, stand, point, countdown, zeroed}
use Rattle.cases.specs.Arguments.{types, method3, file3, invoke}

-- a method with its list, and k maps
unfoldable pub mapped3 : ℕ → List ℕ → List ℕ → ℕ → List ℕ → List ℕ
mapped3 n ts code k maps = two n ++ (length ts ∷ types ts) ++ two 1 ++ two (length code) ++ code ++ (k ∷ maps)

-- class 10 with that method 20
unfoldable pub later3 : List ℕ → List ℕ → ℕ → List ℕ → List ℕ
later3 ts code k maps = file3 10 2 1 (mapped3 20 ts code k maps)

-- five gotos, each to the next instruction, then 0
unfoldable pub hops : List ℕ
hops = 0xA7 ∷ 0 ∷ 3 ∷ 0xA7 ∷ 0 ∷ 6 ∷ 0xA7 ∷ 0 ∷ 9 ∷ 0xA7 ∷ 0 ∷ 12 ∷ 0xA7 ∷ 0 ∷ 15 ∷ zeroed

-- a 16 and a 17 are pushed, and stand at 4 where the map says a 12 and, on top of it, a 13
unfoldable pub stacked : List ℕ
stacked = later3 (16 ∷ 17 ∷ []) (0x19 ∷ 1 ∷ 0x19 ∷ 2 ∷ 0x57 ∷ 0x57 ∷ zeroed) 1 (stand 4 10 16 17 (12 ∷ 13 ∷ []))

-- local 3 is set, is an int at the map, and is read behind it
unfoldable pub fourth : List ℕ
fourth = later3 (1 ∷ []) (0x15 ∷ 1 ∷ 0x36 ∷ 3 ∷ 0x15 ∷ 3 ∷ 0xAC ∷ []) 1 (two 4 ++ twos (10 ∷ 1 ∷ 0 ∷ 1 ∷ 0 ∷ 0 ∷ 0 ∷ 0 ∷ []) ++ (0 ∷ []))

-- a call with an int and a null on this
unfoldable pub nulled : List ℕ → List ℕ → List ℕ
nulled code ts = later3 (1 ∷ []) ((0x19 ∷ 0 ∷ code) ++ invoke 10 ts 1 ++ (0xAC ∷ [])) 0 []

unfoldable pub versions : List Case
versions =
    -- version 3 has branches and maps, as version 2 has: the loop that counts down
    case 1 (ready ++ call_define 1 (later3 (1 ∷ []) countdown 2 (point 0 1 ++ point 16 1)) ∷ call_start 0 1 10 20 3 ∷ call_run 24 ∷ []) [] [] (0 ∷ []) call_step (line 0 2 0 (pos 0)) (0 ∷ []) false
    ∷ case 1 ready [] [] [] (call_define 1 (later3 (1 ∷ []) countdown 1 (point 0 1))) (no 15) [] true
    -- more than four maps
    ∷ case 2 (ready ++ call_define 1 (later3 (1 ∷ []) hops 5 (point 3 1 ++ point 6 1 ++ point 9 1 ++ point 12 1 ++ point 15 1)) ∷ call_start 0 1 10 20 3 ∷ call_run 6 ∷ []) [] [] (0 ∷ []) call_step (line 0 2 0 (pos 0)) (0 ∷ []) false
    -- notes on arguments in their order
    ∷ case 3 (ready ++ call_define 1 (later3 (16 ∷ 17 ∷ []) ((0x19 ∷ 0 ∷ 0x19 ∷ 1 ∷ 0x19 ∷ 2 ∷ []) ++ invoke 10 (12 ∷ 13 ∷ []) 1 ++ (0xAC ∷ [])) 0 []) ∷ []) [] (subtype 1 16 12 ∷ subtype 1 17 13 ∷ []) []
    (call_define 1 (plain 10 2)) (no 4) [] true
    -- a map lists its operands from the lowest, and what flows into them is noted from the lowest
    ∷ case 4 (ready ++ call_define 1 stacked ∷ []) [] (subtype 1 16 12 ∷ subtype 1 17 13 ∷ []) [] (call_define 1 (plain 10 2)) (no 4) [] true
    -- every local has its type at a map
    ∷ case 5 (ready ++ call_define 1 fourth ∷ call_start 0 1 10 20 7 ∷ call_run 3 ∷ []) [] [] (0 ∷ []) call_step (line 0 2 0 (pos 7)) (0 ∷ []) false
    -- an argument type 0, the first or a later one: a bad file in a method, rejected inline
    ∷ case 6 ready [] [] [] (call_define 1 (later3 (0 ∷ []) zeroed 0 [])) (no 2) [] true
    ∷ case 6 ready [] [] [] (call_define 1 (later3 (1 ∷ 0 ∷ []) zeroed 0 [])) (no 2) [] true
    ∷ case 6 ready [] [] [] (call_define 1 (nulled (0x01 ∷ []) (0 ∷ []))) (no 6) [] true
    ∷ case 6 ready [] [] [] (call_define 1 (nulled (0x15 ∷ 1 ∷ 0x01 ∷ []) (1 ∷ 0 ∷ []))) (no 6) [] true
    ∷ case 6 ready [] [] [] (call_define 1 (nulled (0x15 ∷ 1 ∷ 0x01 ∷ []) (1 ∷ 12 ∷ []))) (class 1) [] false
    -- two methods alike in name, list and result: a bad file; with another list they aren't alike
    ∷ case 7 ready [] [] [] (call_define 1 (file3 10 2 2 (method3 20 (1 ∷ 1 ∷ []) 1 zeroed ++ method3 20 (1 ∷ 1 ∷ []) 1 zeroed))) (no 2) [] true
    ∷ case 7 ready [] [] [] (call_define 1 (file3 10 2 2 (method3 20 (1 ∷ 1 ∷ []) 1 zeroed ++ method3 20 (1 ∷ []) 1 zeroed))) (class 1) [] false
    ∷ []

computed : All (λ c. seen c ≡ meant c) versions
unfolding versions mapped3 later3 hops stacked fourth nulled twos stand point countdown zeroed types method3 file3 invoke seen meant size accepted ends_in is_some signed int_bits less shown number number_of_step number_of refusal_details step_details details ◌>>=◌ need take? define_rows record_rows start_rows drop_rows answer_of step_task step_on step_rows turn_of turn find lower super_of loader_of own_slots slots_in slots slot_is has_field same_signature alike methods_of has_method selected tie_edges subtype_edges edges pair_agrees row_agrees agrees_over agrees tie_is new_tie new_ties signature_ties agrees_after post byte short name count fields_in one_in list_in arguments_of arguments_in signature_in names_in map_in maps_from maps_in methods_in ends same_field same_method read_file pick opcode_of inline_length short_at shorts_at list_signature_at extend instruction_of sized_as decode every all any doubled index_of is_none to_list same_list filled subtype_is new_subtypes override_tie override_ties define recorded started existing initial_value new_object pop! pop_all! int! reference! kind! kinds! room! object! now under! give execute step Maybe.◌>>=◌ Maybe.need same_request has fires rest grow reach_from reach leads seek nearest below file_at class_at type_of_name meet_class meet_int meets pop pop_all is_named effect returns target goes_on map_at local_type meet_local meet_all meet_map flow_into flow_to_target start_at after Verifier.turn maps_past verify types_at unmapped_from unmapped notes_of settle on_rows run_rows perform_rows perform_all_rows two method file_of plain file_f taker coded lifts pushes ready tied12 tied123 of_kind! compute jumps meet_kind return_kind notes_of_method unused made roomless share_used made_by rewritten changed object_held in_use numbers_from named roots links_from reached swept_from freed_from sweep_rows
computed = (refl, (refl, (refl, (refl, (refl, (refl, (refl, (refl, (refl, (refl, (refl, (refl, (refl, tt)))))))))))))

steps : All (λ c. OneStep c.last) versions
unfolding versions
steps = (tt, (tt, (tt, (tt, (tt, (tt, (tt, (tt, (tt, (tt, (tt, (tt, (tt, tt)))))))))))))

-- from a boot of any tables that boot accepts
pub version-cases : (t : Tables) → (boot t).answer ≡ Accepted → Right versions t
version-cases t a = right versions (computed-seen versions computed steps) t a
