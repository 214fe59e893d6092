-- Choices and loops, paper 2: a table of its own, under the statement of P1 to P10.
use Rattle.std.specs.Prelude.{◌≡◌, refl, true, false, List, [], ◌∷◌, ◌++◌, ℕ, length, replicate, pos}
use Rattle.std.proofs.Common.{inl, inr}
use Rattle.definition.specs.Lists.{every, all, any, doubled, index_of, is_some, is_none, to_list, same_list, filled}
use Rattle.definition.specs.Maybe as Maybe
use Rattle.definition.specs.Chains.{has, fires, rest, grow, reach_from, reach, leads}
use Rattle.definition.specs.Requests.{same_request}
use Rattle.definition.specs.Answers.{ends_in, shown, details, step_details, refusal_details, signed, less, number, number_of_step, number_of, ◌>>=◌, need, take?}
use Rattle.definition.specs.Superclasses.{seek, nearest, below}
use Rattle.definition.specs.Classes.{find, lower, super_of, loader_of, own_slots, slots_in, slots, slot_is, has_field, same_signature, alike, methods_of, has_method, selected, is_named}
use Rattle.definition.specs.Constraints.{tie_edges, subtype_edges, edges, pair_agrees, row_agrees, agrees_over, agrees, tie_is, new_tie, new_ties, signature_ties, agrees_after, post}
use Rattle.definition.specs.File.{byte, short, name, count, fields_in, one_in, arguments_in, signature_in, names_in, map_in, maps_from, maps_in, methods_in, ends, same_field, same_method, read_file}
use Rattle.definition.specs.Instructions.{pick, opcode_of, inline_length, short_at, extend, instruction_of, sized_as, decode}
use Rattle.definition.specs.Verifier.{type_of_name, meet_class, meet_int, meets, meet_kind, pop, pop_all, effect, returns, return_kind, target, goes_on, map_at, local_type, meet_local, meet_all, meet_map, flow_into, flow_to_target, start_at, after, maps_past, verify, types_at, unmapped_from, unmapped, notes_of_method, notes_of}
use Rattle.definition.specs.Verifier as Verifier
use Rattle.definition.specs.Machine.{object_held, existing, in_use, unused, made, roomless, share_used, made_by, rewritten, changed, initial_value, new_object, pop!, pop_all!, int!, reference!, of_kind!, kind!, kinds!, compute, jumps, room!, object!, now, under!, give, execute, step}
use Rattle.definition.specs.Loading.{subtype_is, new_subtypes, override_tie, override_ties, define, recorded, started}
use Rattle.definition.specs.Sweeping.{named, roots, links_from, reached, swept_from, freed_from}
use Rattle.definition.specs.Tables.{Tables, subtype, file_at, class_at}
use Rattle.definition.specs.declared.Reply.TheVariants.{Accepted}
use Rattle.definition.specs.Calls.{boot, call_define, call_start, call_step, call_run, call_sweep, turn, turn_of, define_rows, entry_trace, record_rows, start_rows, drop_rows, sweep_rows, answer_of, step_task, step_on, step_rows}
use Rattle.definition.specs.Computing.OnRows.{settle, on_rows, run_rows, perform_rows, perform_all_rows}
use Rattle.definition.specs.Computing.Samples.{file_f, two, method, file_of, plain, taker, coded, lifts, pushes, ready, tied12, tied123}
use Rattle.cases.specs.Cases.{Case, case, line, no, numbers_from, accepted, Right}
use Rattle.cases.specs.Computed.{rows_before, rows_after, answered_rows, size, same, other, Computed}
use Rattle.cases.specs.Proved.{right}
use Rattle.cases.specs.Sweeps.{freed, freed_in, unfreed}

-- class 10 below Object of version 2, with j methods
unfoldable pub class2 : ℕ → List ℕ → List ℕ
class2 j ms = let body = two 10 ++ two 2 ++ (0 ∷ j ∷ ms) in 2 ∷ two (length body) ++ body

-- with method 20 of argument a and result int, and k maps
unfoldable pub later : ℕ → List ℕ → ℕ → List ℕ → List ℕ
later a code k maps = class2 1 (method 20 a 1 code ++ (k ∷ maps))

-- with two methods, (int) → int, without maps
unfoldable pub both : List ℕ → List ℕ → List ℕ
both c d = class2 2 (method 20 1 1 c ++ (0 ∷ []) ++ method 21 1 1 d ++ (0 ∷ []))

unfoldable pub twos : List ℕ → List ℕ
twos [] = []
twos (n ∷ ns) = two n ++ twos ns

-- a map at point p: locals 0 to 2 of types a, b, c, the others unset; operands of types os
unfoldable pub stand : ℕ → ℕ → ℕ → ℕ → List ℕ → List ℕ
stand p a b c os = two p ++ twos (a ∷ b ∷ c ∷ 0 ∷ 0 ∷ 0 ∷ 0 ∷ 0 ∷ []) ++ (length os ∷ twos os)

-- local 0 is a 10, local 1 of type a, the others unset; no operands
unfoldable pub point : ℕ → ℕ → List ℕ
point p a = stand p 10 a 0 []

-- counts local 1 down to 0: ifeq 16, from 13 goto 0
unfoldable pub countdown : List ℕ
countdown = 0x15 ∷ 1 ∷ 0x99 ∷ 0 ∷ 16 ∷ 0x15 ∷ 1 ∷ 0x11 ∷ 0 ∷ 1 ∷ 0x64 ∷ 0x36 ∷ 1 ∷ 0xA7 ∷ 0 ∷ 0 ∷ 0x15 ∷ 1 ∷ 0xAC ∷ []

-- 2 if local 1 is less than 0, else 1
unfoldable pub negative : List ℕ
negative = 0x15 ∷ 1 ∷ 0x11 ∷ 0 ∷ 0 ∷ 0xA1 ∷ 0 ∷ 12 ∷ 0x11 ∷ 0 ∷ 1 ∷ 0xAC ∷ 0x11 ∷ 0 ∷ 2 ∷ 0xAC ∷ []

-- gives 0
unfoldable pub zeroed : List ℕ
zeroed = 0x11 ∷ 0 ∷ 0 ∷ 0xAC ∷ []

unfoldable pub counting : List ℕ
counting = later 1 countdown 2 (point 0 1 ++ point 16 1)

-- a new 13 if local 1 isn't 0, else a new 14; at 14 either stands where the map says a 12
unfoldable pub joining : List ℕ
joining =
    later 1 (0x15 ∷ 1 ∷ 0x99 ∷ 0 ∷ 11 ∷ 0xBB ∷ 0 ∷ 13 ∷ 0xA7 ∷ 0 ∷ 14 ∷ 0xBB ∷ 0 ∷ 14 ∷ 0x57 ∷ zeroed) 2 (point 11 1 ++ stand 14 10 1 0 (12 ∷ []))

-- sets local 2 if local 1 isn't 0; at 10 both ways meet, and `code` follows
unfoldable pub partly : List ℕ → ℕ → List ℕ
partly code c = later 1 (0x15 ∷ 1 ∷ 0x99 ∷ 0 ∷ 10 ∷ 0x11 ∷ 0 ∷ 1 ∷ 0x36 ∷ 2 ∷ code) 1 (stand 10 10 1 c [])

-- from entry a 10 stands where the map says an 11, and a 13 where it says a 12; then getfield of class 15 on local 0
unfoldable pub entering : List ℕ
entering = later 13 (0x19 ∷ 0 ∷ 0xB4 ∷ 0 ∷ 15 ∷ 0 ∷ 5 ∷ 0 ∷ 1 ∷ 0xAC ∷ []) 1 (stand 0 11 12 0 [])

-- ifeq 10, where the map says a 12; the next point's, at 6, says a 14
unfoldable pub parting : List ℕ
parting = later 13 (0x11 ∷ 0 ∷ 0 ∷ 0x99 ∷ 0 ∷ 10 ∷ zeroed ++ zeroed) 2 (point 6 14 ++ point 10 12)

-- getfield of class 15 and type 14 on a 13; the map behind it says a 12 for the 13 in local 1, and a 16 for the operand
unfoldable pub following : List ℕ
following = later 13 (0x19 ∷ 1 ∷ 0xB4 ∷ 0 ∷ 15 ∷ 0 ∷ 5 ∷ 0 ∷ 14 ∷ 0x57 ∷ zeroed) 1 (stand 9 10 12 0 (16 ∷ []))

-- a new 10 in local 2, which is unset from 5 on
unfoldable pub forgetting : List ℕ
forgetting = later 1 (0xBB ∷ 0 ∷ 10 ∷ 0x3A ∷ 2 ∷ zeroed) 1 (point 5 1)

-- ifeq 1, into the middle of the first instruction
unfoldable pub inside : List ℕ
inside = 0x11 ∷ 0 ∷ 0 ∷ 0x99 ∷ 0 ∷ 1 ∷ zeroed

abbrev held : Case
held = case 12 (ready ++ call_define 1 forgetting ∷ call_start 0 1 10 20 0 ∷ call_run 2 ∷ []) [] [] (0 ∷ 1 ∷ []) call_sweep (freed 0) (0 ∷ 1 ∷ []) true

unfoldable pub branches : List Case
branches =
    -- a loop that counts down; started with 3 it takes 25 steps, 7 for each round, then 4
    case 1 ready [] [] [] (call_define 1 counting) (line 0 1 0 (pos 0)) [] false
    ∷ case 2 (ready ++ call_define 1 counting ∷ call_start 0 1 10 20 3 ∷ call_run 24 ∷ []) [] [] (0 ∷ []) call_step (line 0 2 0 (pos 0)) (0 ∷ []) false
    -- if_icmplt compares signed ints
    ∷ case 3 (ready ++ call_define 1 (later 1 negative 1 (point 12 1)) ∷ call_start 0 1 10 20 4294967295 ∷ call_run 4 ∷ []) [] [] (0 ∷ []) call_step (line 0 2 0 (pos 2)) (0 ∷ []) false
    ∷ case 3 (ready ++ call_define 1 (later 1 negative 1 (point 12 1)) ∷ call_start 0 1 10 20 0 ∷ call_run 4 ∷ []) [] [] (0 ∷ []) call_step (line 0 2 0 (pos 1)) (0 ∷ []) false
    -- a target, and an instruction after a return, without a map
    ∷ case 4 ready [] [] [] (call_define 1 (later 1 countdown 1 (point 0 1))) (no 15) [] true
    ∷ case 4 ready [] [] [] (call_define 1 (later 1 (zeroed ++ zeroed) 0 [])) (no 15) [] true
    -- a target inside an instruction: without a map, with one; and one past the end
    ∷ case 5 ready [] [] [] (call_define 1 (later 1 inside 0 [])) (no 15) [] true
    ∷ case 5 ready [] [] [] (call_define 1 (later 1 inside 1 (point 1 1))) (no 6) [] true
    ∷ case 5 ready [] [] [] (call_define 1 (later 1 (0xA7 ∷ 0 ∷ 9 ∷ []) 0 [])) (no 15) [] true
    ∷ case 5 ready [] [] [] (call_define 1 (later 1 (0xA7 ∷ 0 ∷ 9 ∷ []) 1 (point 9 1))) (no 6) [] true
    -- 15 before 6: a method that can't be verified, and a later one that is unmapped or not
    ∷ case 6 ready [] [] [] (call_define 1 (both (0xAC ∷ []) (zeroed ++ zeroed))) (no 15) [] true
    ∷ case 6 ready [] [] [] (call_define 1 (both (0xAC ∷ []) zeroed)) (no 6) [] true
    -- an unknown opcode or a cut-off instruction after a return needs no map, nor does what stands behind an unknown opcode
    ∷ case 7 ready [] [] [] (call_define 1 (later 1 (zeroed ++ 0xFF ∷ []) 0 [])) (no 6) [] true
    ∷ case 7 ready [] [] [] (call_define 1 (later 1 (zeroed ++ 0x11 ∷ 0 ∷ []) 0 [])) (no 6) [] true
    ∷ case 7 ready [] [] [] (call_define 1 (later 1 (0xFF ∷ zeroed ++ zeroed) 0 [])) (no 6) [] true
    -- a map inside an instruction; one that doesn't fit, in a local, in the number of operands
    ∷ case 8 ready [] [] [] (call_define 1 (later 1 countdown 3 (point 0 1 ++ point 16 1 ++ point 17 1))) (no 6) [] true
    ∷ case 8 ready [] [] [] (call_define 1 (later 1 countdown 2 (point 0 1 ++ point 16 10))) (no 6) [] true
    ∷ case 8 ready [] [] [] (call_define 1 (later 1 countdown 2 (point 0 1 ++ stand 16 10 1 0 (1 ∷ [])))) (no 6) [] true
    -- an if as the last instruction runs off the end
    ∷ case 9 ready [] [] [] (call_define 1 (later 1 (0x11 ∷ 0 ∷ 0 ∷ 0x99 ∷ 0 ∷ 0 ∷ []) 1 (point 0 1))) (no 6) [] true
    -- offsets that don't rise, 17 operands, an operand type 0: a bad file; 16 operands aren't
    ∷ case 10 ready [] [] [] (call_define 1 (later 1 countdown 2 (point 16 1 ++ point 0 1))) (no 2) [] true
    ∷ case 10 ready [] [] [] (call_define 1 (later 1 countdown 2 (point 0 1 ++ point 0 1))) (no 2) [] true
    ∷ case 10 ready [] [] [] (call_define 1 (later 1 zeroed 1 (stand 0 10 1 0 (replicate 17 1)))) (no 2) [] true
    ∷ case 10 ready [] [] [] (call_define 1 (later 1 zeroed 1 (stand 0 10 1 0 (replicate 16 1)))) (no 6) [] true
    ∷ case 10 ready [] [] [] (call_define 1 (later 1 zeroed 1 (stand 0 10 1 0 (0 ∷ [])))) (no 2) [] true
    -- in version 1 branches are unknown opcodes, and a return stands last alone
    ∷ case 11 ready [] [] [] (call_define 1 (coded countdown)) (no 6) [] true
    ∷ case 11 ready [] [] [] (call_define 1 (coded (0xA7 ∷ 0 ∷ 0 ∷ []))) (no 6) [] true
    ∷ case 11 ready [] [] [] (call_define 1 (coded (zeroed ++ zeroed))) (no 6) [] true
    -- a local that is set on one way alone is unset where both meet: the map can't say int, and the code behind can't load it
    ∷ case 12 ready [] [] [] (call_define 1 (partly zeroed 0)) (line 0 1 0 (pos 0)) [] false
    ∷ case 12 (ready ++ call_define 1 (partly zeroed 0) ∷ call_start 0 1 10 20 1 ∷ call_run 5 ∷ []) [] [] (0 ∷ []) call_step (line 0 2 0 (pos 0)) (0 ∷ []) false
    ∷ case 12 ready [] [] [] (call_define 1 (partly zeroed 1)) (no 6) [] true
    ∷ case 12 ready [] [] [] (call_define 1 (partly (0x15 ∷ 2 ∷ 0xAC ∷ []) 0)) (no 6) [] true
    -- what an unset local holds is kept by a sweep
    ∷ held
    -- notes from entry come first, then the points'
    ∷ case 13 (ready ++ call_define 1 entering ∷ []) [] (subtype 1 10 11 ∷ subtype 1 13 12 ∷ subtype 1 11 15 ∷ []) [] (call_define 1 (plain 10 2)) (no 4) [] true
    -- the target's before the next point's
    ∷ case 13 (ready ++ call_define 1 parting ∷ []) [] (subtype 1 13 12 ∷ subtype 1 13 14 ∷ []) [] (call_define 1 (plain 10 2)) (no 4) [] true
    -- the point's own, then those of locals, then those of operands
    ∷ case 13 (ready ++ call_define 1 following ∷ []) [] (subtype 1 13 15 ∷ subtype 1 13 12 ∷ subtype 1 14 16 ∷ []) [] (call_define 1 (plain 10 2)) (no 4) [] true
    -- a class can't stand where the map says int
    ∷ case 13 ready [] [] [] (call_define 1 (later 13 zeroed 1 (point 0 1))) (no 6) [] true
    -- a map joins a 13 and a 14 as a 12: accepted, and either clashes later unless it is below 12
    ∷ case 14 (ready ++ call_define 1 joining ∷ call_define 1 (plain 12 2) ∷ []) [] (subtype 1 13 12 ∷ subtype 1 14 12 ∷ []) [] (call_define 1 (plain 13 2)) (no 9) [] true
    ∷ case 14 (ready ++ call_define 1 joining ∷ call_define 1 (plain 12 2) ∷ []) [] (subtype 1 13 12 ∷ subtype 1 14 12 ∷ []) [] (call_define 1 (plain 14 2)) (no 9) [] true
    ∷ case 14 (ready ++ call_define 1 joining ∷ call_define 1 (plain 12 2) ∷ []) [] (subtype 1 13 12 ∷ subtype 1 14 12 ∷ []) [] (call_define 1 (plain 13 12)) (line 0 3 0 (pos 0)) [] false
    ∷ []

branched : Computed branches
unfolding freed_in branches class2 later both twos stand point countdown negative zeroed counting joining partly entering parting following inside forgetting rows_before rows_after answered_rows size accepted ends_in is_some signed less shown number number_of_step number_of refusal_details step_details details ◌>>=◌ need take? define_rows entry_trace record_rows start_rows drop_rows answer_of step_task step_on step_rows turn_of turn find lower super_of loader_of own_slots slots_in slots slot_is has_field same_signature alike methods_of has_method selected tie_edges subtype_edges edges pair_agrees row_agrees agrees_over agrees tie_is new_tie new_ties signature_ties agrees_after post byte short name count fields_in one_in arguments_in signature_in names_in map_in maps_from maps_in methods_in ends same_field same_method read_file pick opcode_of inline_length short_at extend instruction_of sized_as decode every all any doubled index_of is_none to_list same_list filled subtype_is new_subtypes override_tie override_ties define recorded started existing initial_value new_object pop! pop_all! int! reference! kind! kinds! room! object! now under! give execute step Maybe.◌>>=◌ Maybe.need same_request has fires rest grow reach_from reach leads seek nearest below file_at class_at type_of_name meet_class meet_int meets pop pop_all is_named effect returns target goes_on map_at local_type meet_local meet_all meet_map flow_into flow_to_target start_at after Verifier.turn maps_past verify types_at unmapped_from unmapped notes_of settle on_rows run_rows perform_rows perform_all_rows two method file_of plain file_f taker coded lifts pushes ready tied12 tied123 of_kind! compute jumps meet_kind return_kind notes_of_method unused made roomless share_used made_by rewritten changed object_held in_use numbers_from named roots links_from reached swept_from freed_from sweep_rows
branched = record {
  answers = refl;
  prepared = refl;
  ties = refl;
  subtypes = refl;
  objects = refl;
  left = refl;
  stays = (other refl, (other refl, (other refl, (other refl, (same (inl refl), (same (inl refl), (same (inl refl), (same (inl refl), (same (inl refl), (same (inl refl), (same (inl refl), (same (inl refl), (same (inl refl), (same (inl refl), (same (inl refl), (same (inl refl), (same (inl refl), (same (inl refl), (same (inl refl), (same (inl refl), (same (inl refl), (same (inl refl), (same (inl refl), (same (inl refl), (same (inl refl), (same (inl refl), (same (inl refl), (other refl, (other refl, (same (inl refl), (same (inl refl), (same (inr (unfreed held refl refl refl)), (same (inl refl), (same (inl refl), (same (inl refl), (same (inl refl), (same (inl refl), (same (inl refl), (other refl, tt)))))))))))))))))))))))))))))))))))))));
  steps = (tt, (tt, (tt, (tt, (tt, (tt, (tt, (tt, (tt, (tt, (tt, (tt, (tt, (tt, (tt, (tt, (tt, (tt, (tt, (tt, (tt, (tt, (tt, (tt, (tt, (tt, (tt, (tt, (tt, (tt, (tt, (tt, (tt, (tt, (tt, (tt, (tt, (tt, (tt, tt)))))))))))))))))))))))))))))))))))))));
}

-- from a boot of any tables that boot accepts
pub branch-cases : (t : Tables) → (boot t).answer ≡ Accepted → Right branches t
branch-cases t a = right branches branched t a
