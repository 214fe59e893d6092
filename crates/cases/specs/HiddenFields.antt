-- Hidden fields, paper 6: a table of its own, under the statement of P1 to P10.
use Rattle.std.specs.Prelude.{◌≡◌, refl, true, false, List, [], ◌∷◌, ◌++◌, ℕ, pos}
use Rattle.std.proofs.Common.{inl}
use Rattle.definition.specs.Lists.{every, all, any, doubled, index_of, is_some, is_none, to_list, same_list, filled}
use Rattle.definition.specs.Maybe as Maybe
use Rattle.definition.specs.Chains.{has, fires, rest, grow, reach_from, reach, leads}
use Rattle.definition.specs.Requests.{same_request}
use Rattle.definition.specs.Answers.{Shown, ends_in, shown, details, step_details, refusal_details, signed, int_bits, less, number, number_of_step, number_of, ◌>>=◌, need, take?}
use Rattle.definition.specs.Superclasses.{seek, nearest, below}
use Rattle.definition.specs.Classes.{find, lower, super_of, loader_of, own_slots, slots_in, slots, slot_is, has_field, same_signature, alike, methods_of, has_method, selected, is_named}
use Rattle.definition.specs.Constraints.{tie_edges, subtype_edges, edges, pair_agrees, row_agrees, agrees_over, agrees, tie_is, new_tie, new_ties, signature_ties, agrees_after, post}
use Rattle.definition.specs.File.{byte, short, name, count, fields_in, one_in, arguments_in, signature_in, names_in, map_in, maps_from, maps_in, methods_in, ends, same_field, same_method, read_file}
use Rattle.definition.specs.Instructions.{pick, opcode_of, inline_length, short_at, extend, instruction_of, sized_as, decode}
use Rattle.definition.specs.Verifier.{type_of_name, meet_class, meet_int, meets, meet_kind, pop, pop_all, effect, returns, return_kind, target, goes_on, map_at, local_type, meet_local, meet_all, meet_map, flow_into, flow_to_target, start_at, after, maps_past, verify, types_at, unmapped_from, unmapped, notes_of_method, notes_of}
use Rattle.definition.specs.Verifier as Verifier
use Rattle.definition.specs.Machine.{object_held, existing, in_use, unused, made, roomless, share_used, made_by, rewritten, changed, initial_value, new_object, pop!, pop_all!, int!, reference!, of_kind!, kind!, kinds!, compute, jumps, room!, object!, now, under!, give, execute, step}
use Rattle.definition.specs.Loading.{subtype_is, new_subtypes, override_tie, override_ties, define, recorded, started}
use Rattle.definition.specs.Sweeping.{named, roots, links_from, reached, swept_from, freed_from}
use Rattle.definition.specs.Tables.{Tables, subtype, file_at, class_at}
use Rattle.definition.specs.declared.Reply.TheVariants.{Accepted}
use Rattle.definition.specs.Calls.{Call, boot, call_define, call_record, call_start, call_step, call_run, turn, turn_of, define_rows, entry_trace, record_rows, start_rows, drop_rows, sweep_rows, answer_of, step_task, step_on, step_rows}
use Rattle.definition.specs.Computing.OnRows.{settle, on_rows, run_rows, perform_rows, perform_all_rows}
use Rattle.definition.specs.Computing.Samples.{file_f, two, method, ints, fielded, into, from, file_of, plain, taker, coded, lifts, pushes, ready, tied12, tied123}
use Rattle.cases.specs.Cases.{Case, case, line, class, no, numbers_from, accepted, Right}
use Rattle.cases.specs.Computed.{rows_before, rows_after, answered_rows, size, same, other, Computed}
use Rattle.cases.specs.Proved.{right}

-- the shared class 10, whose field 5 is an int
unfoldable pub policy : List ℕ
policy = fielded 10 2 1 (ints 1 5) 0 []

-- class 11 below 10 with a field 5 of its own: a in the shared one, b in its own, and class c's is read: 8 steps and the return
unfoldable pub insured : ℕ → ℕ → ℕ → List ℕ
insured a b c = fielded 11 10 1 (ints 1 5) 1 (method 20 1 1 (into 10 a ++ into 11 b ++ from c ++ (0xAC ∷ [])))

unfoldable pub twice : ℕ → List Call
twice c = ready ++ call_define 1 policy ∷ call_define 1 (insured 3 4 c) ∷ call_start 0 1 11 20 7 ∷ call_run 8 ∷ []

-- class 11's field 5 is of type 10 and holds this one. Class 11 is named, and of its fields of type int the nearest is class 10's: 6 steps, then code and the return
unfoldable pub typed : ℕ → List ℕ → List Call
typed n code = ready ++ call_define 1 policy
    ∷ call_define 1 (fielded 11 10 1 (two 5 ++ two 10) 1 (method 20 1 1 (into 11 3 ++ (0x19 ∷ 0 ∷ 0x19 ∷ 0 ∷ 0xB5 ∷ two 11) ++ two 5 ++ two 10 ++ code ++ (0xAC ∷ []))))
    ∷ call_start 0 1 11 20 7 ∷ call_run n ∷ []

-- class 12 below 11 below 10, each with a field 5: 3, 4 and 6 in them from the top, and class c's is read: 11 steps and the return
unfoldable pub threes : ℕ → List Call
threes c = ready ++ call_define 1 policy ∷ call_define 1 (fielded 11 10 1 (ints 1 5) 0 [])
    ∷ call_define 1 (fielded 12 11 1 (ints 1 5) 1 (method 20 1 1 (into 10 3 ++ into 11 4 ++ into 12 6 ++ from c ++ (0xAC ∷ [])))) ∷ call_start 0 1 12 20 7 ∷ call_run 11 ∷ []

-- loaders 2 and 3 extend loader 1's class 10, each with a class 11 of its own; a quote of the one, then of the other
unfoldable pub insurers : List Call
insurers = ready ++ call_define 1 policy ∷ call_record 2 10 1 ∷ call_record 3 10 1 ∷ call_define 2 (insured 3 4 10) ∷ call_define 3 (insured 5 6 11)
    ∷ call_start 0 2 11 20 7 ∷ call_run 8 ∷ []

-- 16 fields: eight of class 10, and eight of class 11 by the same names
unfoldable pub eight : List Call
eight = ready ++ call_define 1 (fielded 10 2 8 (ints 8 5) 0 []) ∷ call_define 1 (fielded 11 10 8 (ints 8 5) 0 []) ∷ []

-- a step in which the quote finishes with n
abbrev pub gives : ℕ → Shown
gives n = line 0 2 0 (pos n)

unfoldable pub hidings : List Case
hidings =
    -- same name and type in class and superclass: written through both, read back apart
    case 1 (twice 10) [] (subtype 1 11 10 ∷ []) (0 ∷ []) call_step (gives 3) (0 ∷ []) false
    ∷ case 1 (twice 11) [] (subtype 1 11 10 ∷ []) (0 ∷ []) call_step (gives 4) (0 ∷ []) false
    -- same name, other type: by name and type the nearer one is passed over, and is a place of its own
    ∷ case 2 (typed 8 (from 11)) [] (subtype 1 11 10 ∷ []) (0 ∷ []) call_step (gives 3) (0 ∷ []) false
    ∷ case 2 (typed 9 ((0x19 ∷ 0 ∷ 0xB4 ∷ two 11) ++ two 5 ++ two 10 ++ (0xB4 ∷ two 10) ++ two 5 ++ two 1)) [] (subtype 1 11 10 ∷ []) (0 ∷ []) call_step (gives 3) (0 ∷ []) false
    -- hidden twice in a line of three
    ∷ case 3 (threes 10) [] (subtype 1 12 10 ∷ subtype 1 12 11 ∷ []) (0 ∷ []) call_step (gives 3) (0 ∷ []) false
    ∷ case 3 (threes 11) [] (subtype 1 12 10 ∷ subtype 1 12 11 ∷ []) (0 ∷ []) call_step (gives 4) (0 ∷ []) false
    ∷ case 3 (threes 12) [] (subtype 1 12 10 ∷ subtype 1 12 11 ∷ []) (0 ∷ []) call_step (gives 6) (0 ∷ []) false
    -- two insurers' classes below a shared one: the one reads the shared field, the other its own
    ∷ case 4 insurers [] (subtype 2 11 10 ∷ subtype 3 11 10 ∷ []) (0 ∷ []) call_step (gives 3) (0 ∷ []) false
    ∷ case 4 (insurers ++ call_step ∷ call_start 0 3 11 20 7 ∷ call_run 8 ∷ []) [] (subtype 2 11 10 ∷ subtype 3 11 10 ∷ []) (0 ∷ 1 ∷ []) call_step (gives 6) (0 ∷ 1 ∷ []) false
    -- 16 fields by hiding pass, 17 are too many
    ∷ case 5 eight [] [] [] (call_define 1 (fielded 12 11 0 [] 0 [])) (class 3) [] false
    ∷ case 5 eight [] [] [] (call_define 1 (fielded 12 11 1 (ints 1 5) 0 [])) (no 10) [] true
    ∷ []

hidden : Computed hidings
unfolding hidings ints fielded policy into from insured threes twice typed insurers eight rows_before rows_after answered_rows size accepted ends_in is_some signed int_bits less shown number number_of_step number_of refusal_details step_details details ◌>>=◌ need take? define_rows entry_trace record_rows start_rows drop_rows answer_of step_task step_on step_rows turn_of turn find lower super_of loader_of own_slots slots_in slots slot_is has_field same_signature alike methods_of has_method selected tie_edges subtype_edges edges pair_agrees row_agrees agrees_over agrees tie_is new_tie new_ties signature_ties agrees_after post byte short name count fields_in one_in arguments_in signature_in names_in map_in maps_from maps_in methods_in ends same_field same_method read_file pick opcode_of inline_length short_at extend instruction_of sized_as decode every all any doubled index_of is_none to_list same_list filled subtype_is new_subtypes override_tie override_ties define recorded started existing initial_value new_object pop! pop_all! int! reference! kind! kinds! room! object! now under! give execute step Maybe.◌>>=◌ Maybe.need same_request has fires rest grow reach_from reach leads seek nearest below file_at class_at type_of_name meet_class meet_int meets pop pop_all is_named effect returns target goes_on map_at local_type meet_local meet_all meet_map flow_into flow_to_target start_at after Verifier.turn maps_past verify types_at unmapped_from unmapped notes_of settle on_rows run_rows perform_rows perform_all_rows two method file_of plain file_f taker coded lifts pushes ready tied12 tied123 of_kind! compute jumps meet_kind return_kind notes_of_method unused made roomless share_used made_by rewritten changed object_held in_use numbers_from named roots links_from reached swept_from freed_from sweep_rows
hidden = record {
  answers = refl;
  prepared = refl;
  ties = refl;
  subtypes = refl;
  objects = refl;
  left = refl;
  stays = (other refl, (other refl, (other refl, (other refl, (other refl, (other refl, (other refl, (other refl, (other refl, (other refl, (same (inl refl), tt)))))))))));
  steps = (tt, (tt, (tt, (tt, (tt, (tt, (tt, (tt, (tt, (tt, (tt, tt)))))))))));
}

-- from a boot of any tables that boot accepts
pub hidden-cases : (t : Tables) → (boot t).answer ≡ Accepted → Right hidings t
hidden-cases t a = right hidings hidden t a
