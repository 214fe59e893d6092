-- Why a load clashed, papers 3, 9 and 13: the chains of P5, P6 and P7 and of loads beside them, the shortest and of those the newest, from a boot of any tables that
-- boot accepts.
use Rattle.std.specs.Prelude.{◌≡◌, refl, true, List, [], ◌∷◌, ◌++◌, map, ℕ, suc, replicate, take, eqb}
use Rattle.std.proofs.Common.{ap, ◌∙◌}
use Rattle.definition.specs.declared.Reply.TheVariants.{Accepted}
use Rattle.definition.specs.Lists.{every, all, any, doubled, index_of, is_some, is_none, to_list, same_list, filled, rows, write_rows}
use Rattle.definition.specs.Maybe as Maybe
use Rattle.definition.specs.Chains.{has, fires, rest, grow, reach_from, reach, leads}
use Rattle.definition.specs.Requests.{same_request}
use Rattle.definition.specs.Answers.{number, number_of, ◌>>=◌, need, take?}
use Rattle.definition.specs.Superclasses.{seek, nearest, below}
use Rattle.definition.specs.Classes.{find, lower, super_of, loader_of, own_slots, slots_in, slots, slot_is, has_field, same_signature, alike, methods_of, has_method, selected, is_named}
use Rattle.definition.specs.Constraints.{tie_edges, subtype_edges, edges, pair_agrees, row_agrees, agrees_over, agrees, tie_is, new_tie, new_ties, signature_ties, agrees_after, post}
use Rattle.definition.specs.File.{byte, short, name, count, fields_in, one_in, arguments_in, signature_in, names_in, map_in, maps_from, maps_in, methods_in, ends, same_field, same_method, read_file}
use Rattle.definition.specs.Instructions.{pick, opcode_of, inline_length, short_at, extend, instruction_of, sized_as, decode}
use Rattle.definition.specs.Verifier.{type_of_name, meet_class, meet_int, meets, meet_kind, pop, pop_all, effect, returns, return_kind, target, goes_on, map_at, local_type, meet_local, meet_all, meet_map, flow_into, flow_to_target, start_at, after, maps_past, verify, types_at, unmapped_from, unmapped, notes_of_method, notes_of}
use Rattle.definition.specs.Verifier as Verifier
use Rattle.definition.specs.Loading.{subtype_is, new_subtypes, override_tie, override_ties, define, recorded}
use Rattle.definition.specs.Tables.{Tables, Rows, file_at, class_at}
use Rattle.definition.specs.Calls.{Call, call_define, call_record, Load, load_define, load_record, tried_with, try_rows, numbered_on, boot_rows, boot, perform_all, define_rows, entry_trace, record_rows}
use Rattle.definition.specs.Reasons.{Tried, tie_links, subtype_links, precedes, earlier, first_of, ended, along, best, best_from, of_length, shortest, reason_over, reason, listed, after_define, reason_after, tried, try_load_rows, try_load}
use Rattle.definition.specs.Computing.OnRows.{settle, on_rows, perform_rows, perform_all_rows}
use Rattle.definition.specs.Computing.Samples.{two, method, file_of, plain, taker, lifts, ready, tied12, tied123}
use Rattle.unbroken.specs.OnRows.{accepted-shaped, same-booted}

-- a case's number, what goes before, the load that is tried, how many numbers the lent list has, the answer's word, and the rows of the chain
pub record TriedCase : Type 0 where
  pub p : ℕ
  pub before : List Call
  pub load : Load
  pub room : ℕ
  pub word : ℕ
  pub chain : List ℕ

abbrev tries : ℕ → List Call → Load → ℕ → ℕ → List ℕ → TriedCase
tries p b l n w c = record { p = p; before = b; load = l; room = n; word = w; chain = c }

-- a tie 1–2 on 12, and (1,12) loaded; and that tie still to be posted, with (1,12) and (2,12) loaded

abbrev tied_one : List Call
tied_one = tied12 ++ call_define 1 (plain 12 2) ∷ []

abbrev untied : List Call
untied = ready ++ call_define 1 (taker 40 2) ∷ call_record 2 40 1 ∷ call_define 1 (plain 12 2) ∷ call_define 2 (plain 12 2) ∷ []

-- a class of name n below s with method 30, (t) → int: as `taker`, where t is 12
abbrev passer : ℕ → ℕ → ℕ → List ℕ
passer t n s = file_of n s 1 (method 30 t 1 (0x11 ∷ 0 ∷ 0 ∷ 0xAC ∷ []))

-- ties on 12, in the order of their rows: 1–3, 1–4, 4–2, 3–2, so that 1 and 2 are tied by way of 3 and by way of 4; and (1,12) loaded
abbrev crossed : List Call
crossed =
    ready
    ++ call_define 1 (taker 40 2) ∷ call_record 3 40 1 ∷ call_define 3 (taker 41 40) ∷ call_record 4 40 1 ∷ call_define 4 (taker 42 40)
    ∷ call_record 2 42 3 ∷ call_define 2 (taker 43 42) ∷ call_record 2 41 2 ∷ call_define 2 (taker 44 41) ∷ call_define 1 (plain 12 2) ∷ []

-- ties 2–3 and then 1–2 on 12, and (1,12) loaded
abbrev tied_back : List Call
tied_back =
    ready
    ++ call_define 2 (taker 40 2) ∷ call_record 3 40 1 ∷ call_define 3 (taker 41 40) ∷ call_record 1 40 1 ∷ call_define 1 (taker 42 40) ∷ call_define 1 (plain 12 2) ∷ []

-- ties on 12, in the order of their rows: 1–3, 1–2, 2–3; and (1,12) loaded
abbrev direct : List Call
direct =
    ready
    ++ call_define 1 (taker 40 2) ∷ call_record 3 40 1 ∷ call_define 3 (taker 41 40) ∷ call_record 2 40 1 ∷ call_define 2 (taker 42 40)
    ∷ call_record 3 42 3 ∷ call_define 3 (taker 43 42) ∷ call_define 1 (plain 12 2) ∷ []

-- (l,13) loaded as class c + 1, which loader 5 makes below class c, whose name is 12
abbrev lowered : ℕ → ℕ → List Call
lowered l c = call_record 5 12 c ∷ call_define 5 (plain 13 12) ∷ call_record l 13 (suc c) ∷ []

-- 13 below 12 in 3, then ties 1–2 and 2–3 on 12; (1,12) loaded, and (3,13) as a class below it
abbrev lifted : List Call
lifted =
    ready
    ++ call_define 3 lifts ∷ call_define 1 (taker 40 2) ∷ call_record 2 40 2 ∷ call_define 2 (taker 41 40) ∷ call_record 3 41 3 ∷ call_define 3 (taker 42 41)
    ∷ call_define 1 (plain 12 2) ∷ lowered 3 5

-- ties 1–2 and 1–3 on 12, then 13 below 12 in 1; (3,12) loaded, and (1,13) as a class below it
abbrev mixed : List Call
mixed =
    tied12
    ++ call_record 3 40 1 ∷ call_define 3 (taker 42 40) ∷ call_define 1 lifts ∷ call_define 3 (plain 12 2) ∷ lowered 1 5

-- a tie 1–3 on 12, then 13 below 12 in 4, then ties 3–2 and 2–4 on 12; (1,12) loaded, and (4,13) as a class below it
abbrev apart : List Call
apart =
    ready
    ++ call_define 1 (taker 40 2) ∷ call_record 3 40 1 ∷ call_define 3 (taker 41 40) ∷ call_record 4 2 0 ∷ call_define 4 lifts ∷ call_record 2 41 2
    ∷ call_define 2 (taker 42 41) ∷ call_record 4 42 4 ∷ call_define 4 (taker 43 42) ∷ call_define 1 (plain 12 2) ∷ lowered 4 6

-- ties 1–3 and 3–2 on 41, with (1,41) loaded; and a tie 1–2 on 12 still to be posted, with (1,12) and (2,12) loaded
abbrev around : List Call
around =
    ready
    ++ call_define 1 (passer 41 43 2) ∷ call_record 3 43 1 ∷ call_define 3 (passer 41 44 43) ∷ call_record 2 44 2 ∷ call_define 2 (passer 41 45 44)
    ∷ call_define 1 (taker 40 2) ∷ call_record 2 40 4 ∷ call_define 1 (plain 12 2) ∷ call_define 2 (plain 12 2) ∷ call_define 1 (plain 41 2) ∷ []

unfoldable pub tryings : List TriedCase
tryings =
    -- P5: the tie
    tries 5 tied_one (load_define 2 (plain 12 2)) 512 9 (0 ∷ [])
    -- so does a record of another loader's class
    ∷ tries 5 (tied_one ++ call_define 3 (plain 12 2) ∷ []) (load_record 2 12 4) 512 9 (0 ∷ [])
    -- and a record of the same class is accepted: nothing is listed
    ∷ tries 5 tied_one (load_record 2 12 3) 512 0 []
    -- P6: both ties, read from (3,12), whose row is newer; so too where (1,12) is the new request
    ∷ tries 6 (tied123 ++ call_define 1 (plain 12 2) ∷ []) (load_define 3 (plain 12 2)) 512 9 (1 ∷ 0 ∷ [])
    ∷ tries 6 (tied123 ++ call_define 3 (plain 12 2) ∷ []) (load_define 1 (plain 12 2)) 512 9 (1 ∷ 0 ∷ [])
    -- P7: the subtype constraint, then the tie; and a load that is accepted
    ∷ tries 7 (tied12 ++ call_define 1 lifts ∷ call_define 2 (plain 12 2) ∷ []) (load_define 1 (plain 13 2)) 512 9 (1 ∷ 0 ∷ [])
    ∷ tries 7 (tied12 ++ call_define 1 lifts ∷ call_define 2 (plain 12 2) ∷ call_record 1 12 4 ∷ []) (load_define 1 (plain 13 12)) 512 0 []
    -- the load's own subtype constraint, numbered after the stored tie, and then that tie
    ∷ tries 7 (tied12 ++ call_define 1 (plain 13 2) ∷ call_define 2 (plain 12 2) ∷ []) (load_define 1 lifts) 512 9 (1 ∷ 0 ∷ [])
    -- the load's own tie alone: the new request, (2,41), isn't in the chain
    ∷ tries 5 untied (load_define 2 (taker 41 40)) 512 9 (0 ∷ [])
    -- of two ways and both readings of each, the one with the newer row where they first differ: not the newer row at the end
    ∷ tries 6 crossed (load_define 2 (plain 12 2)) 512 9 (3 ∷ 0 ∷ [])
    -- ties are read from either end, whichever loader is lower: here from (1,12), not from the new request
    ∷ tries 6 tied_back (load_define 3 (plain 12 2)) 512 9 (1 ∷ 0 ∷ [])
    -- the shortest: one tie, though the two others are newer; one subtype constraint, though the two ties are
    ∷ tries 6 direct (load_define 3 (plain 12 2)) 512 9 (0 ∷ [])
    ∷ tries 7 lifted (load_define 3 (plain 12 2)) 512 9 (0 ∷ [])
    -- a subtype constraint and a tie before two ties, 1 ∷ 0
    ∷ tries 7 mixed (load_define 2 (plain 12 2)) 512 9 (2 ∷ 0 ∷ [])
    -- two ties before a subtype constraint and a tie, 1 ∷ 3, though these have the newest row of all
    ∷ tries 7 apart (load_define 2 (plain 12 2)) 512 9 (2 ∷ 0 ∷ [])
    -- the load's own tie, though the new request is in a longer chain of stored ones
    ∷ tries 5 around (load_define 2 (taker 41 40)) 512 9 (2 ∷ [])
    -- a list of 511 numbers is short, whatever the load would get but 3
    ∷ tries 5 tied_one (load_define 2 (plain 12 2)) 511 16 []
    ∷ tries 5 tied_one (load_record 2 12 3) 511 16 []
    ∷ tries 5 tied_one (load_define 1 (plain 12 2)) 511 16 []
    ∷ tries 5 tied_one (load_define 1 (plain 12 2)) 512 4 []
    ∷ tries 5 tied_one (load_define 16 (plain 12 2)) 511 3 []
    ∷ []

-- on rows, with a list of zeros
unfoldable pub tried_rows : TriedCase → Tried
tried_rows c = try_load_rows c.load (replicate c.room 0) (perform_all_rows c.before boot_rows).rows

-- the word, and the chain: as many numbers of the list as the answer tells
unfoldable pub told : Tried → List ℕ
told d = number_of d.answer ∷ take d.count d.list

unfoldable pub expected : TriedCase → List ℕ
expected c = c.word ∷ c.chain

computed : map (λ c. told (tried_rows c)) tryings ≡ map expected tryings
unfolding told expected tryings tried_rows try_load_rows try_rows tried_with tried listed after_define reason_after reason reason_over shortest of_length best_from best along ended first_of earlier precedes tie_links subtype_links numbered_on rows write_rows every all any doubled index_of is_some is_none to_list same_list filled Maybe.◌>>=◌ Maybe.need has fires rest grow reach_from reach leads same_request number number_of ◌>>=◌ need take? seek nearest below find lower super_of loader_of own_slots slots_in slots slot_is has_field same_signature alike methods_of has_method selected is_named tie_edges subtype_edges edges pair_agrees row_agrees agrees_over agrees tie_is new_tie new_ties signature_ties agrees_after post byte short name count fields_in one_in arguments_in signature_in names_in map_in maps_from maps_in methods_in ends same_field same_method read_file pick opcode_of inline_length short_at extend instruction_of sized_as decode type_of_name meet_class meet_int meets meet_kind pop pop_all effect returns return_kind target goes_on map_at local_type meet_local meet_all meet_map flow_into flow_to_target start_at after maps_past verify types_at unmapped_from unmapped notes_of_method notes_of subtype_is new_subtypes override_tie override_ties define recorded file_at class_at define_rows entry_trace record_rows settle on_rows perform_rows perform_all_rows two method file_of plain taker lifts ready tied12 tied123 Verifier.turn
computed = refl

-- every call that goes before is accepted, so the chains that a case speaks of are there
accepted-before : all (λ c. all (λ a. eqb (number_of a) 0) (perform_all_rows c.before boot_rows).answer) tryings ≡ true
unfolding tryings numbered_on rows every all any doubled index_of is_some is_none to_list same_list filled Maybe.◌>>=◌ Maybe.need has fires rest grow reach_from reach leads same_request number number_of ◌>>=◌ need take? seek nearest below find lower super_of loader_of own_slots slots_in slots slot_is has_field same_signature alike methods_of has_method selected is_named tie_edges subtype_edges edges pair_agrees row_agrees agrees_over agrees tie_is new_tie new_ties signature_ties agrees_after post byte short name count fields_in one_in arguments_in signature_in names_in map_in maps_from maps_in methods_in ends same_field same_method read_file pick opcode_of inline_length short_at extend instruction_of sized_as decode type_of_name meet_class meet_int meets meet_kind pop pop_all effect returns return_kind target goes_on map_at local_type meet_local meet_all meet_map flow_into flow_to_target start_at after maps_past verify types_at unmapped_from unmapped notes_of_method notes_of subtype_is new_subtypes override_tie override_ties define recorded file_at class_at define_rows entry_trace record_rows settle on_rows perform_rows perform_all_rows two method file_of plain taker lifts ready tied12 tied123 Verifier.turn
accepted-before = refl

-- on tables
unfoldable pub tried_on : Tables → TriedCase → Tried
tried_on t c = try_load c.load (replicate c.room 0) (perform_all c.before (boot t).tables).tables

on-rows : (t : Tables) → (boot t).answer ≡ Accepted → (c : TriedCase) → tried_on t c ≡ tried_rows c
unfolding tried_on tried_rows try_load
on-rows t h c =
    let s = (same-booted c.before t (accepted-shaped t h)).1 in
    rw (s.unbroken, try_load) (ap (λ (r : Rows). try_load_rows c.load (replicate c.room 0) r) s.rows)

pub tried-cases : (t : Tables) → (boot t).answer ≡ Accepted → map (λ c. told (tried_on t c)) tryings ≡ map expected tryings
tried-cases t h = each tryings ∙ computed
  where
    each : (cs : List TriedCase) → map (λ c. told (tried_on t c)) cs ≡ map (λ c. told (tried_rows c)) cs
    each [] = refl
    each (c ∷ cs) = λ i. told (on-rows t h c i) ∷ each cs i
