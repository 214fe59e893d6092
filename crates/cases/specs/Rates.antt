-- Rates, paper 4: imul and idiv, a table of its own, under the statement of P1 to P10.
use Rattle.std.specs.Prelude.{◌≡◌, refl, true, false, List, [], ◌∷◌, ◌++◌, ℕ, pos, negsuc}
use Rattle.std.proofs.Math.Option.{some}
use Rattle.std.proofs.Common.{inl}
use Rattle.std.proofs.Math.ListN.{get_elem?}
use Rattle.definition.specs.Lists.{every, all, any, doubled, index_of, is_some, is_none, to_list, same_list, filled}
use Rattle.definition.specs.Maybe as Maybe
use Rattle.definition.specs.Chains.{has, fires, rest, grow, reach_from, reach, leads}
use Rattle.definition.specs.Requests.{same_request}
use Rattle.definition.specs.Answers.{ends_in, shown, details, step_details, refusal_details, signed, int_bits, less, number, number_of_step, number_of, ◌>>=◌, need, take?}
use Rattle.definition.specs.Superclasses.{seek, nearest, below}
use Rattle.definition.specs.Classes.{find, lower, super_of, loader_of, own_slots, slots_in, slots, slot_is, has_field, same_signature, alike, methods_of, has_method, selected, is_named}
use Rattle.definition.specs.Constraints.{tie_edges, subtype_edges, edges, pair_agrees, row_agrees, agrees_over, agrees, tie_is, new_tie, new_ties, signature_ties, agrees_after, post}
use Rattle.definition.specs.File.{byte, short, name, count, fields_in, one_in, arguments_in, signature_in, names_in, map_in, maps_from, maps_in, methods_in, ends, same_field, same_method, read_file}
use Rattle.definition.specs.Instructions.{pick, opcode_of, inline_length, short_at, extend, instruction_of, sized_as, decode}
use Rattle.definition.specs.Verifier.{type_of_name, meet_class, meet_int, meets, meet_kind, pop, pop_all, effect, returns, return_kind, target, goes_on, map_at, local_type, meet_local, meet_all, meet_map, flow_into, flow_to_target, start_at, after, maps_past, verify, types_at, unmapped_from, unmapped, notes_of_method, notes_of}
use Rattle.definition.specs.Verifier as Verifier
use Rattle.definition.specs.Machine.{object_held, existing, in_use, unused, made, roomless, share_used, made_by, rewritten, changed, initial_value, new_object, pop!, pop_all!, int!, reference!, of_kind!, kind!, kinds!, compute, jumps, room!, object!, now, under!, give, execute, step}
use Rattle.definition.specs.Loading.{subtype_is, new_subtypes, override_tie, override_ties, define, recorded, started}
use Rattle.definition.specs.Sweeping.{named, roots, links_from, reached, swept_from, freed_from}
use Rattle.definition.specs.Tables.{Tables, view, file_at, class_at}
use Rattle.definition.specs.declared.Reply.TheVariants.{Accepted}
use Rattle.definition.specs.Calls.{Call, boot, perform, call_define, call_start, call_step, call_run, turn, turn_of, define_rows, entry_trace, record_rows, start_rows, drop_rows, sweep_rows, answer_of, step_task, step_on, step_rows}
use Rattle.definition.specs.Computing.OnRows.{settle, on_rows, run_rows, perform_rows, perform_all_rows}
use Rattle.definition.specs.Computing.Samples.{file_f, two, method, file_of, plain, taker, coded, lifts, pushes, ready, tied12, tied123}
use Rattle.cases.specs.Cases.{Case, case, line, no, numbers_from, accepted, Right, answered, after_last}
use Rattle.cases.specs.Computed.{rows_before, rows_after, answered_rows, size, same, other, Computed}
use Rattle.cases.specs.Proved.{right}
use Rattle.cases.specs.Branches.{class2, later}

-- local 1 and n under an operator, whose result is given back
unfoldable pub with : ℕ → ℕ → List ℕ
with n o = 0x15 ∷ 1 ∷ 0x11 ∷ two n ++ (o ∷ 0xAC ∷ [])

-- local 1 times itself
unfoldable pub squared : List ℕ
squared = 0x15 ∷ 1 ∷ 0x15 ∷ 1 ∷ 0x68 ∷ 0xAC ∷ []

-- v divided by n in a file of version 2, up to its idiv
unfoldable pub dividing : ℕ → ℕ → List Call
dividing v n = ready ++ call_define 1 (later 1 (with n 0x6C) 0 []) ∷ call_start 0 1 10 20 v ∷ call_run 2 ∷ []

-- and past it
unfoldable pub divided : ℕ → ℕ → List Call
divided v n = dividing v n ++ call_run 1 ∷ []

unfoldable pub rates : List Case
rates =
    -- toward zero: −7 / 2 is −3, 7 / −2 is −3, −7 / −2 is 3, 7 / 2 is 3
    case 1 (divided 4294967289 2) [] [] (0 ∷ []) call_step (line 0 2 0 (negsuc 2)) (0 ∷ []) false
    ∷ case 1 (divided 7 65534) [] [] (0 ∷ []) call_step (line 0 2 0 (negsuc 2)) (0 ∷ []) false
    ∷ case 1 (divided 4294967289 65534) [] [] (0 ∷ []) call_step (line 0 2 0 (pos 3)) (0 ∷ []) false
    ∷ case 1 (divided 7 2) [] [] (0 ∷ []) call_step (line 0 2 0 (pos 3)) (0 ∷ []) false
    -- the least int divided by −1 is itself
    ∷ case 2 (divided 2147483648 65535) [] [] (0 ∷ []) call_step (line 0 2 0 (negsuc 2147483647)) (0 ∷ []) false
    -- 46,341 times itself wraps to −2,147,479,015
    ∷ case 3 (ready ++ call_define 1 (later 1 squared 0 []) ∷ call_start 0 1 10 20 46341 ∷ call_run 3 ∷ []) [] [] (0 ∷ []) call_step (line 0 2 0 (negsuc 2147479014)) (0 ∷ []) false
    -- a divisor 0
    ∷ case 4 (dividing 7 0) [] [] (0 ∷ []) call_step (no 17) (0 ∷ []) true
    ∷ case 4 (dividing 0 0) [] [] (0 ∷ []) call_step (no 17) (0 ∷ []) true
    -- in version 1 both are unknown opcodes
    ∷ case 5 ready [] [] [] (call_define 1 (coded squared)) (no 6) [] true
    ∷ case 5 ready [] [] [] (call_define 1 (coded (with 2 0x6C))) (no 6) [] true
    -- one operand alone, and a reference for an int, are rejected
    ∷ case 6 ready [] [] [] (call_define 1 (later 1 (0x15 ∷ 1 ∷ 0x68 ∷ 0xAC ∷ []) 0 [])) (no 6) [] true
    ∷ case 6 ready [] [] [] (call_define 1 (later 1 (0x19 ∷ 0 ∷ 0x15 ∷ 1 ∷ 0x6C ∷ 0xAC ∷ []) 0 [])) (no 6) [] true
    ∷ []

rated : Computed rates
unfolding rates with squared dividing divided class2 later rows_before rows_after answered_rows size accepted ends_in is_some signed int_bits less shown number number_of_step number_of refusal_details step_details details ◌>>=◌ need take? define_rows entry_trace record_rows start_rows drop_rows answer_of step_task step_on step_rows turn_of turn find lower super_of loader_of own_slots slots_in slots slot_is has_field same_signature alike methods_of has_method selected tie_edges subtype_edges edges pair_agrees row_agrees agrees_over agrees tie_is new_tie new_ties signature_ties agrees_after post byte short name count fields_in one_in arguments_in signature_in names_in map_in maps_from maps_in methods_in ends same_field same_method read_file pick opcode_of inline_length short_at extend instruction_of sized_as decode every all any doubled index_of is_none to_list same_list filled subtype_is new_subtypes override_tie override_ties define recorded started existing initial_value new_object pop! pop_all! int! reference! kind! kinds! room! object! now under! give execute step Maybe.◌>>=◌ Maybe.need same_request has fires rest grow reach_from reach leads seek nearest below file_at class_at type_of_name meet_class meet_int meets pop pop_all is_named effect returns target goes_on map_at local_type meet_local meet_all meet_map flow_into flow_to_target start_at after Verifier.turn maps_past verify types_at unmapped_from unmapped notes_of settle on_rows run_rows perform_rows perform_all_rows two method file_of plain file_f taker coded lifts pushes ready tied12 tied123 of_kind! compute jumps meet_kind return_kind notes_of_method unused made roomless share_used made_by rewritten changed object_held in_use numbers_from named roots links_from reached swept_from freed_from sweep_rows
rated = record {
  answers = refl;
  prepared = refl;
  ties = refl;
  subtypes = refl;
  objects = refl;
  left = refl;
  stays = (other refl, (other refl, (other refl, (other refl, (other refl, (other refl, (same (inl refl), (same (inl refl), (same (inl refl), (same (inl refl), (same (inl refl), (same (inl refl), tt))))))))))));
  steps = (tt, (tt, (tt, (tt, (tt, (tt, (tt, (tt, (tt, (tt, (tt, (tt, tt))))))))))));
}

-- from a boot of any tables that boot accepts
pub rate-cases : (t : Tables) → (boot t).answer ≡ Accepted → Right rates t
rate-cases t a = right rates rated t a

-- what is refused there is refused likewise when it is tried again
pub rate-again : (t : Tables) → (boot t).answer ≡ Accepted → (i : ℕ) (c : Case) → get_elem? rates i ≡ some c → c.unchanged ≡ true
    → shown (details (turn (view (after_last t c))) (perform c.last (after_last t c)).answer) ≡ answered t c
unfolding answered
rate-again t a i c e u = rw ((rate-cases t a).unchanged i c e u) refl
