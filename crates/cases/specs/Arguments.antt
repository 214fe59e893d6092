-- Proved cases of paper 7: lists of arguments.
use Rattle.std.specs.Prelude.{◌≡◌, refl, true, false, List, [], ◌∷◌, ◌++◌, ℕ, zero, suc, ◌+◌, pos, length, take}
use Rattle.definition.specs.Lists.{every, all, any, doubled, index_of, is_some, is_none, to_list, same_list, filled}
use Rattle.definition.specs.Maybe as Maybe
use Rattle.definition.specs.Chains.{has, fires, rest, grow, reach_from, reach, leads}
use Rattle.definition.specs.Requests.{same_request}
use Rattle.definition.specs.Answers.{ends_in, shown, details, step_details, refusal_details, signed, int_bits, less, number, number_of_step, number_of, ◌>>=◌, need, take?}
use Rattle.definition.specs.Superclasses.{seek, nearest, below}
use Rattle.definition.specs.Classes.{find, lower, super_of, loader_of, own_slots, slots_in, slots, slot_is, has_field, arguments_of, same_signature, alike, methods_of, has_method, selected, is_named}
use Rattle.definition.specs.Constraints.{tie_edges, subtype_edges, edges, pair_agrees, row_agrees, agrees_over, agrees, tie_is, new_tie, new_ties, signature_ties, agrees_after, post}
use Rattle.definition.specs.File.{byte, short, name, count, fields_in, one_in, list_in, arguments_in, signature_in, names_in, map_in, maps_from, maps_in, methods_in, ends, same_field, same_method, read_file}
use Rattle.definition.specs.Instructions.{pick, opcode_of, inline_length, short_at, shorts_at, list_signature_at, extend, instruction_of, sized_as, decode}
use Rattle.definition.specs.Verifier.{type_of_name, meet_class, meet_int, meets, meet_kind, pop, pop_all, effect, returns, return_kind, target, goes_on, map_at, local_type, meet_local, meet_all, meet_map, flow_into, flow_to_target, start_at, after, maps_past, verify, types_at, unmapped_from, unmapped, notes_of_method, notes_of}
use Rattle.definition.specs.Verifier as Verifier
use Rattle.definition.specs.Machine.{object_held, existing, in_use, unused, made, roomless, share_used, made_by, rewritten, changed, initial_value, new_object, pop!, pop_all!, int!, reference!, of_kind!, kind!, kinds!, compute, jumps, room!, object!, now, under!, give, execute, step}
use Rattle.definition.specs.Loading.{subtype_is, new_subtypes, override_tie, override_ties, define, recorded, started}
use Rattle.definition.specs.Sweeping.{named, roots, links_from, reached, swept_from, freed_from}
use Rattle.definition.specs.Tables.{Tables, tie, file_at, class_at}
use Rattle.definition.specs.Constraints.{Tie}
use Rattle.definition.specs.declared.Reply.TheVariants.{Accepted}
use Rattle.definition.specs.Calls.{Call, boot, call_define, call_record, call_start, call_step, call_run, turn, turn_of, define_rows, entry_trace, record_rows, start_rows, drop_rows, sweep_rows, answer_of, step_task, step_on, step_rows}
use Rattle.definition.specs.Computing.OnRows.{settle, on_rows, run_rows, perform_rows, perform_all_rows}
use Rattle.definition.specs.Computing.Samples.{file_f, two, method, file_of, plain, taker, coded, lifts, pushes, ready, tied12, tied123}
use Rattle.cases.specs.Cases.{Case, case, line, no, class, numbers_from, accepted, Right}
use Rattle.layout.specs.Tests.{All}
use Rattle.unbroken.specs.OnRows.{OneStep}
use Rattle.cases.specs.Computed.{size}
use Rattle.cases.specs.Seen.{seen, meant, computed-seen}
use Rattle.cases.specs.Proved.{right}

-- Sample files of version 3

-- 16 bits each
unfoldable pub types : List ℕ → List ℕ
types [] = []
types (t ∷ ts) = two t ++ types ts

-- a method with its list, without maps
unfoldable pub method3 : ℕ → List ℕ → ℕ → List ℕ → List ℕ
method3 n ts r code = two n ++ (length ts ∷ types ts) ++ two r ++ two (length code) ++ code ++ (0 ∷ [])

unfoldable pub file3 : ℕ → ℕ → ℕ → List ℕ → List ℕ
file3 n s k ms = let body = two n ++ two s ++ (0 ∷ k ∷ ms) in 3 ∷ two (length body) ++ body

-- a call of class c's method 25 with a list
unfoldable pub invoke : ℕ → List ℕ → ℕ → List ℕ
invoke c ts r = (0xB6 ∷ two c) ++ two 25 ++ (length ts ∷ types ts) ++ two r

-- class 10 of version 3: method 20 pushes this, does `code` and calls method 25, which takes ints and returns one
unfoldable pub caller : List ℕ → List ℕ → List ℕ → List ℕ
caller code ts inner = file3 10 2 2 (method3 20 (1 ∷ []) 1 ((0x19 ∷ 0 ∷ code) ++ invoke 10 ts 1 ++ (0xAC ∷ [])) ++ method3 25 ts 1 inner)

-- its argument, 3 and 4: the first less the product of the others. 5 steps to the call, 6 in it, then the return
unfoldable pub several : List Call
several = ready ++ call_define 1 (caller (0x15 ∷ 1 ∷ 0x11 ∷ 0 ∷ 3 ∷ 0x11 ∷ 0 ∷ 4 ∷ []) (1 ∷ 1 ∷ 1 ∷ []) (0x15 ∷ 1 ∷ 0x15 ∷ 2 ∷ 0x15 ∷ 3 ∷ 0x68 ∷ 0x64 ∷ 0xAC ∷ []))
    ∷ call_start 0 1 10 20 20 ∷ call_run 11 ∷ []

-- no argument, and four, of which the last is given back
unfoldable pub none4 : List Call
none4 = ready ++ call_define 1 (caller [] [] (0x11 ∷ 0 ∷ 7 ∷ 0xAC ∷ []))
    ∷ call_define 2 (caller (0x15 ∷ 1 ∷ 0x15 ∷ 1 ∷ 0x15 ∷ 1 ∷ 0x11 ∷ 0 ∷ 9 ∷ []) (1 ∷ 1 ∷ 1 ∷ 1 ∷ []) (0x15 ∷ 4 ∷ 0xAC ∷ [])) ∷ []

-- a call from version 1 of a one-argument method of version 3: class 11 makes a 10 and calls its method 25
unfoldable pub early : List Call
early = ready ++ call_define 1 (file3 10 2 1 (method3 25 (1 ∷ []) 1 (0x15 ∷ 1 ∷ 0xAC ∷ [])))
    ∷ call_define 1 (file_of 11 2 1 (method 20 1 1 ((0xBB ∷ two 10) ++ (0x15 ∷ 1 ∷ 0xB6 ∷ two 10) ++ two 25 ++ two 1 ++ two 1 ++ (0xAC ∷ []))))
    ∷ call_start 0 1 11 20 5 ∷ call_run 5 ∷ []

-- a class with method 25 of a list: where it overrides across loaders, the two are tied on each type
unfoldable pub overriding : List ℕ → ℕ → List Call
overriding ts r = ready ++ call_define 1 (file3 40 2 1 (method3 25 ts r (0x01 ∷ 0xB0 ∷ []))) ∷ call_record 2 40 1 ∷ call_define 2 (file3 41 40 1 (method3 25 ts r (0x01 ∷ 0xB0 ∷ []))) ∷ []

-- class 10 with method 20, (int) → int, of version 3
unfoldable pub rates3 : List ℕ → List ℕ
rates3 code = file3 10 2 1 (method3 20 (1 ∷ []) 1 code)

-- a call of class 10's method 25 with four ints, of which the code has n bytes
unfoldable pub cut : ℕ → List ℕ
cut n = take n (invoke 10 (1 ∷ 1 ∷ 1 ∷ 1 ∷ []) 1)

-- 252 ties: class 40 of loader 1 has seven methods of four types each, and the nine loaders from 2 on have classes that override them. Loader 11 knows class 43 of
-- loader 1, whose method 25 has five types, and method 24 four of them, one twice

-- k methods of names from n on and types from t on, four each
unfoldable pub fours : ℕ → ℕ → ℕ → List ℕ
fours zero n t = []
fours (suc k) n t = method3 n (t ∷ (t + 1) ∷ (t + 2) ∷ []) (t + 3) (0x01 ∷ 0xB0 ∷ []) ++ fours k (n + 1) (t + 4)

unfoldable pub five : List ℕ
five = method3 25 (12 ∷ 13 ∷ 14 ∷ 15 ∷ []) 16 (0x01 ∷ 0xB0 ∷ [])

unfoldable pub twice : List ℕ
twice = method3 24 (12 ∷ 13 ∷ 14 ∷ 12 ∷ []) 15 (0x01 ∷ 0xB0 ∷ [])

-- a call of each of k loaders from l on
unfoldable pub loaders : (ℕ → Call) → ℕ → ℕ → List Call
loaders f zero l = []
loaders f (suc k) l = f l ∷ loaders f k (l + 1)

unfoldable pub crowded : List Call
crowded = call_record 1 2 0 ∷ call_record 11 2 0 ∷ call_define 1 (file3 40 2 7 (fours 7 26 100)) ∷ call_define 1 (file3 43 2 2 (five ++ twice)) ∷ call_record 11 43 2
    ∷ loaders (λ l. call_record l 40 1) 9 2 ++ loaders (λ l. call_define l (file3 41 40 7 (fours 7 26 100))) 9 2

-- class 42 makes a 43 and calls its method 25 with nulls
unfoldable pub calling : List ℕ
calling = file3 42 2 1 (method3 20 (1 ∷ []) 1 ((0xBB ∷ two 43) ++ (0x01 ∷ 0x01 ∷ 0x01 ∷ 0x01 ∷ []) ++ invoke 43 (12 ∷ 13 ∷ 14 ∷ 15 ∷ []) 16 ++ (0x57 ∷ 0x15 ∷ 1 ∷ 0xAC ∷ [])))

-- k ties of loader l with 1, their names from n on; and those of k loaders from l on

unfoldable pub ties_with : ℕ → ℕ → ℕ → List Tie
ties_with zero l n = []
ties_with (suc k) l n = tie l 1 n ∷ ties_with k l (n + 1)

unfoldable pub crowd : ℕ → ℕ → List Tie
crowd zero l = []
crowd (suc k) l = ties_with 28 l 100 ++ crowd k (l + 1)

unfoldable pub listings : List Case
listings =
    -- three arguments in their order: 20 − 3 · 4
    case 1 several [] [] (0 ∷ []) call_step (line 0 2 0 (pos 8)) (0 ∷ []) false
    -- none; four
    ∷ case 2 (none4 ++ call_start 0 1 10 20 5 ∷ call_run 4 ∷ []) [] [] (0 ∷ []) call_step (line 0 2 0 (pos 7)) (0 ∷ []) false
    ∷ case 2 (none4 ++ call_start 0 2 10 20 5 ∷ call_run 8 ∷ []) [] [] (0 ∷ []) call_step (line 0 2 0 (pos 9)) (0 ∷ []) false
    -- a call from version 1 meets a one-argument method of version 3
    ∷ case 3 early [] [] (0 ∷ 1 ∷ []) call_step (line 0 2 0 (pos 5)) (0 ∷ 1 ∷ []) false
    -- ties on each argument in turn, then the result, one on a name; later loads are held to them: on the result's name, one that repeats, the third argument's
    ∷ case 4 (overriding (12 ∷ 13 ∷ 14 ∷ 15 ∷ []) 16 ++ call_define 1 (plain 16 2) ∷ []) (tie 2 1 12 ∷ tie 2 1 13 ∷ tie 2 1 14 ∷ tie 2 1 15 ∷ tie 2 1 16 ∷ []) [] [] (call_define 2 (plain 16 2)) (no 9) [] true
    ∷ case 4 (overriding (12 ∷ 1 ∷ 13 ∷ 12 ∷ []) 13 ++ call_define 1 (plain 12 2) ∷ []) (tie 2 1 12 ∷ tie 2 1 13 ∷ []) [] [] (call_define 2 (plain 12 2)) (no 9) [] true
    ∷ case 4 (overriding (12 ∷ 13 ∷ 14 ∷ 15 ∷ []) 16 ++ call_define 1 (plain 14 2) ∷ []) (tie 2 1 12 ∷ tie 2 1 13 ∷ tie 2 1 14 ∷ tie 2 1 15 ∷ tie 2 1 16 ∷ []) [] [] (call_define 2 (plain 14 2)) (no 9) [] true
    -- a count of five is a bad file in a method, and inline as an unknown opcode: behind a return it needs no map, a call that can be read does
    ∷ case 5 ready [] [] [] (call_define 1 (file3 10 2 1 (method3 20 (1 ∷ 1 ∷ 1 ∷ 1 ∷ 1 ∷ []) 1 (0x15 ∷ 1 ∷ 0xAC ∷ [])))) (no 2) [] true
    ∷ case 5 ready [] [] [] (call_define 1 (rates3 ((0x15 ∷ 1 ∷ 0xAC ∷ []) ++ invoke 10 (1 ∷ 1 ∷ 1 ∷ 1 ∷ 1 ∷ []) 1 ++ (0xAC ∷ [])))) (no 6) [] true
    ∷ case 5 ready [] [] [] (call_define 1 (rates3 ((0x15 ∷ 1 ∷ 0xAC ∷ []) ++ invoke 10 (1 ∷ 1 ∷ 1 ∷ 1 ∷ []) 1 ++ (0xAC ∷ [])))) (no 15) [] true
    -- a call whose count, or whose types, the end of the code cuts off: where the code goes on to it, and behind a return
    ∷ case 5 ready [] [] [] (call_define 1 (rates3 ((0x19 ∷ 0 ∷ []) ++ cut 5))) (no 6) [] true
    ∷ case 5 ready [] [] [] (call_define 1 (rates3 ((0x15 ∷ 1 ∷ 0xAC ∷ []) ++ cut 5))) (no 6) [] true
    ∷ case 5 ready [] [] [] (call_define 1 (rates3 ((0x19 ∷ 0 ∷ 0x15 ∷ 1 ∷ 0x15 ∷ 1 ∷ 0x15 ∷ 1 ∷ 0x15 ∷ 1 ∷ []) ++ cut 13))) (no 6) [] true
    ∷ case 5 ready [] [] [] (call_define 1 (rates3 ((0x15 ∷ 1 ∷ 0xAC ∷ []) ++ cut 13))) (no 6) [] true
    -- 252 ties, so there is room for four: where an override or a call wants five it is full, and none is posted; four of five types have room, where one repeats
    ∷ case 6 crowded (crowd 9 2) [] [] (call_define 11 (file3 44 43 1 five)) (no 10) [] true
    ∷ case 6 (crowded ++ call_define 11 calling ∷ call_start 0 11 42 20 7 ∷ call_run 5 ∷ []) (crowd 9 2) [] (0 ∷ 1 ∷ []) call_step (no 10) (0 ∷ 1 ∷ []) true
    ∷ case 6 crowded (crowd 9 2) [] [] (call_define 11 (file3 44 43 1 twice)) (class 12) [] false
    ∷ []

listed : All (λ c. seen c ≡ meant c) listings
unfolding listings types method3 file3 invoke caller several none4 early overriding rates3 cut fours five twice loaders crowded calling ties_with crowd seen meant size accepted ends_in is_some signed int_bits less shown number number_of_step number_of refusal_details step_details details ◌>>=◌ need take? define_rows entry_trace record_rows start_rows drop_rows answer_of step_task step_on step_rows turn_of turn find lower super_of loader_of own_slots slots_in slots slot_is has_field same_signature alike methods_of has_method selected tie_edges subtype_edges edges pair_agrees row_agrees agrees_over agrees tie_is new_tie new_ties signature_ties agrees_after post byte short name count fields_in one_in list_in arguments_of arguments_in signature_in names_in map_in maps_from maps_in methods_in ends same_field same_method read_file pick opcode_of inline_length short_at shorts_at list_signature_at extend instruction_of sized_as decode every all any doubled index_of is_none to_list same_list filled subtype_is new_subtypes override_tie override_ties define recorded started existing initial_value new_object pop! pop_all! int! reference! kind! kinds! room! object! now under! give execute step Maybe.◌>>=◌ Maybe.need same_request has fires rest grow reach_from reach leads seek nearest below file_at class_at type_of_name meet_class meet_int meets pop pop_all is_named effect returns target goes_on map_at local_type meet_local meet_all meet_map flow_into flow_to_target start_at after Verifier.turn maps_past verify types_at unmapped_from unmapped notes_of settle on_rows run_rows perform_rows perform_all_rows two method file_of plain file_f taker coded lifts pushes ready tied12 tied123 of_kind! compute jumps meet_kind return_kind notes_of_method unused made roomless share_used made_by rewritten changed object_held in_use numbers_from named roots links_from reached swept_from freed_from sweep_rows
listed = (refl, (refl, (refl, (refl, (refl, (refl, (refl, (refl, (refl, (refl, (refl, (refl, (refl, (refl, (refl, (refl, (refl, tt)))))))))))))))))

steps : All (λ c. OneStep c.last) listings
unfolding listings
steps = (tt, (tt, (tt, (tt, (tt, (tt, (tt, (tt, (tt, (tt, (tt, (tt, (tt, (tt, (tt, (tt, (tt, tt)))))))))))))))))

-- from a boot of any tables that boot accepts
pub listed-cases : (t : Tables) → (boot t).answer ≡ Accepted → Right listings t
listed-cases t a = right listings (computed-seen listings listed steps) t a
