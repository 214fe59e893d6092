-- Traces that are no list of loads, paper 10: which count as broken, and what taking one back leaves where it doesn't. On tables of the published lengths, with counts
-- within their limits and the right groups, that show these rows.
use Rattle.std.specs.Prelude.{◌≡◌, refl, Bool, ℕ, ◌<◌, get_or, replicate}
use Rattle.std.proofs.Math.Path.{ap}
use Rattle.std.proofs.Common.{◌∙◌, arith}
use Rattle.std.proofs.Math.Bool.{true, false, not}
use mathlib.Core.List.{List, [], ◌∷◌, ◌++◌, map}
use Rattle.definition.specs.Lists.{every, all, all_from, any, doubled, index_of, is_some, is_none, to_list, same_list, filled, rows}
use Rattle.definition.specs.Maybe as Maybe
use Rattle.definition.specs.Chains.{has, fires, rest, grow, reach_from, reach, leads}
use Rattle.definition.specs.Requests.{same_request}
use Rattle.definition.specs.Answers.{ends_in, number_of, ◌>>=◌, need, take?}
use Rattle.definition.specs.Superclasses.{seek, nearest, below}
use Rattle.definition.specs.Classes.{find, lower, super_of, loader_of, own_slots, slots_in, slots, slot_is, has_field, same_signature, alike, methods_of, has_method, selected, is_named}
use Rattle.definition.specs.Constraints.{tie_edges, subtype_edges, edges, pair_agrees, row_agrees, agrees_over, agrees, tie_is, new_tie, new_ties, signature_ties, agrees_after, post}
use Rattle.definition.specs.File.{byte, short, name, count, fields_in, one_in, arguments_in, signature_in, names_in, maps_in, methods_in, ends, same_field, same_method, read_file}
use Rattle.definition.specs.Instructions.{pick, opcode_of, inline_length, short_at, extend, instruction_of, sized_as, decode}
use Rattle.definition.specs.Verifier.{type_of_name, meet_class, meet_int, meets, meet_kind, pop, pop_all, effect, returns, return_kind, target, goes_on, map_at, flow_into, flow_to_target, start_at, after, maps_past, verify, types_at, unmapped_from, unmapped, notes_of_method, notes_of}
use Rattle.definition.specs.Verifier as Verifier
use Rattle.definition.specs.Machine.{free, owned, made_by, rewritten, jumps, step, empty_value}
use Rattle.definition.specs.Loading.{subtype_is, new_subtypes, override_tie, override_ties, define, recorded, started}
use Rattle.definition.specs.Tables.{Tables, shaped, Rows, with_objects, file_at, class_at, view, Level, level, frame, with_frames, with_trace, cut_to}
use Rattle.definition.specs.Broken.{within, is_object, class_fits, classes_fit, entry_fits, tie_fits, subtype_fits, value_fits, local_fits, object_fits, frame_fits, next, others, in_turn, numbered, sound, trace_fits, grouped, whole, broken, level_fits}
use Rattle.definition.specs.Calls.{numbered_on, call_define, boot_rows, turn, define_rows, entry_trace, record_rows, start_rows, perform, call_record, call_take_back, taken_back}
use Rattle.definition.specs.Computing.OnRows.{settle, on_rows, run_rows, perform_rows, perform_all_rows}
use Rattle.definition.specs.Computing.Samples.{file_f, two, method, file_of, plain, taker, lifts, ready, tied12, tied123}
use Rattle.layout.specs.Tests.{All}
use Rattle.unbroken.specs.OnRows.{same-perform}
use Rattle.definition.specs.Numbers.{loads_cell}
use Rattle.layout.specs.Unbroken.{unbroken}
use Rattle.cases.specs.TakenBack.{left_of}

-- (1, 2) is Object; then classes 12, 13 and 14, of which 14 stands below 12: four classes, 27 kept bytes, five entries
unfoldable pub three : Rows
three = (perform_all_rows (call_record 1 2 0 ∷ call_define 1 (plain 12 2) ∷ call_define 1 (plain 13 2) ∷ call_define 1 (plain 14 12) ∷ []) boot_rows).rows

-- a tie of number 0 and a subtype constraint of number 1: four classes, 62 kept bytes, eight entries; and the other way round, with 20 kept bytes first
unfoldable pub tie_first : Rows
tie_first = (perform_all_rows (tied12 ++ call_define 1 lifts ∷ []) boot_rows).rows

unfoldable pub tie_last : Rows
tie_last = (perform_all_rows (call_record 1 2 0 ∷ call_define 1 lifts ∷ call_record 2 2 0 ∷ call_define 1 (taker 40 2) ∷ call_record 2 40 2 ∷ call_define 2 (taker 41 40) ∷ []) boot_rows).rows

-- one object, of class c; one frame of it
abbrev holds : ℕ → Rows → Rows
holds c r = with_objects (owned 0 (record { class = c; values = [] }) ∷ []) r

abbrev runs : ℕ → ℕ → Rows → Rows
runs k c r = with_frames k (frame c 0 0 [] (replicate 8 empty_value) ∷ []) r

-- rows that aren't broken, and what is left of them after a taking back, as `left_of` counts it
pub record Taken : Type 0 where
  pub rows : Rows
  pub left : List ℕ

abbrev takes : List Level → Rows → List ℕ → Taken
takes ls r n = record { rows = with_trace ls r; left = n }

unfoldable pub fine : List Taken
fine =
    -- the load itself; two classes at once; nothing
    takes (level 3 18 4 0 0 ∷ []) three (3 ∷ 18 ∷ 4 ∷ 0 ∷ 0 ∷ 0 ∷ [])
    ∷ takes (level 2 9 3 0 0 ∷ []) three (2 ∷ 9 ∷ 3 ∷ 0 ∷ 0 ∷ 0 ∷ [])
    ∷ takes (level 4 27 5 0 0 ∷ []) three (4 ∷ 27 ∷ 5 ∷ 0 ∷ 0 ∷ 0 ∷ [])
    -- in turn, the latest first, and the other waits
    ∷ takes (level 3 18 4 0 0 ∷ level 2 9 3 0 0 ∷ []) three (3 ∷ 18 ∷ 4 ∷ 0 ∷ 0 ∷ 1 ∷ [])
    -- bytes that no class has, a class without its entry, and no class at all
    ∷ takes (level 3 20 4 0 0 ∷ []) three (3 ∷ 20 ∷ 4 ∷ 0 ∷ 0 ∷ 0 ∷ [])
    ∷ takes (level 4 27 4 0 0 ∷ []) three (4 ∷ 27 ∷ 4 ∷ 0 ∷ 0 ∷ 0 ∷ [])
    ∷ takes (level 0 0 0 0 0 ∷ []) three (0 ∷ 0 ∷ 0 ∷ 0 ∷ 0 ∷ 0 ∷ [])
    -- objects and frames of a class that stays, and a free row
    ∷ takes (level 3 18 4 0 0 ∷ []) (holds 2 three) (3 ∷ 18 ∷ 4 ∷ 0 ∷ 0 ∷ 0 ∷ [])
    ∷ takes (level 3 18 4 0 0 ∷ []) (runs 0 2 (runs 1 2 three)) (3 ∷ 18 ∷ 4 ∷ 0 ∷ 0 ∷ 0 ∷ [])
    ∷ takes (level 3 18 4 0 0 ∷ []) (with_objects (free ∷ []) three) (3 ∷ 18 ∷ 4 ∷ 0 ∷ 0 ∷ 0 ∷ [])
    -- the row of the higher number alone
    ∷ takes (level 4 62 8 1 0 ∷ []) tie_first (4 ∷ 62 ∷ 8 ∷ 1 ∷ 0 ∷ 0 ∷ 0 ∷ [])
    ∷ takes (level 4 62 7 0 1 ∷ []) tie_last (4 ∷ 62 ∷ 7 ∷ 0 ∷ 1 ∷ 0 ∷ 0 ∷ [])
    ∷ []

unfoldable pub hurt : List Rows
hurt =
    -- rows that aren't there: of each count one more than there are
    with_trace (level 5 27 5 0 0 ∷ []) three
    ∷ with_trace (level 4 28 5 0 0 ∷ []) three
    ∷ with_trace (level 4 27 6 0 0 ∷ []) three
    ∷ with_trace (level 4 27 5 1 0 ∷ []) three
    ∷ with_trace (level 4 27 5 0 1 ∷ []) three
    -- there, but not where the later load was taken back
    ∷ with_trace (level 2 9 3 0 0 ∷ level 3 18 4 0 0 ∷ []) three
    ∷ with_trace (level 3 18 4 0 0 ∷ level 4 27 5 0 0 ∷ []) three
    -- an entry of a class that goes; a file that is cut; a superclass whose entry goes
    ∷ with_trace (level 3 18 5 0 0 ∷ []) three
    ∷ with_trace (level 3 17 4 0 0 ∷ []) three
    ∷ with_trace (level 4 27 2 0 0 ∷ []) three
    -- the same at the second turn
    ∷ with_trace (level 3 18 4 0 0 ∷ level 2 8 3 0 0 ∷ []) three
    -- an object that no frame reaches, and a frame of either task, of a class that goes
    ∷ with_trace (level 3 18 4 0 0 ∷ []) (holds 3 three)
    ∷ with_trace (level 3 18 4 0 0 ∷ []) (runs 0 3 three)
    ∷ with_trace (level 3 18 4 0 0 ∷ []) (runs 1 3 three)
    ∷ with_trace (level 3 18 4 0 0 ∷ level 2 9 3 0 0 ∷ []) (holds 2 three)
    -- the row of the lower number alone
    ∷ with_trace (level 4 62 8 0 1 ∷ []) tie_first
    ∷ with_trace (level 4 62 7 1 0 ∷ []) tie_last
    ∷ []

unfoldable pub fits : Rows → Bool
fits r = every (sound r ∷ trace_fits r.trace r ∷ [])

-- the word that a taking back is answered with, then what is left: on rows, and on tables
unfoldable pub taken_of : Rows → List ℕ
taken_of r = let g = perform_rows call_take_back r in number_of g.answer ∷ left_of g.rows

unfoldable pub taken_on : Tables → List ℕ
taken_on t = let d = perform call_take_back t in number_of d.answer ∷ left_of (view d.tables)

record Computed : Type 0 where
  whole : map (λ c. fits c.rows) fine ≡ map (λ _. true) fine
  taken : map (λ c. taken_of c.rows) fine ≡ map (λ c. 0 ∷ c.left) fine
  broken : map fits hurt ≡ map (λ _. false) hurt

computed : Computed
unfolding three tie_first tie_last fine hurt fits left_of taken_back cut_to level_fits trace_fits taken_of is_object class_fits classes_fit entry_fits tie_fits subtype_fits value_fits local_fits object_fits frame_fits next others in_turn numbered sound all_from ends_in is_some number_of ◌>>=◌ need take? define_rows entry_trace record_rows start_rows find lower super_of loader_of own_slots slots_in slots slot_is has_field same_signature alike methods_of has_method selected tie_edges subtype_edges edges pair_agrees row_agrees agrees_over agrees tie_is new_tie new_ties signature_ties agrees_after post byte short name count fields_in one_in arguments_in signature_in names_in maps_in methods_in ends same_field same_method read_file pick opcode_of inline_length short_at extend instruction_of sized_as decode every all any doubled index_of is_none to_list same_list filled subtype_is new_subtypes override_tie override_ties define recorded started step Maybe.◌>>=◌ Maybe.need same_request has fires rest grow reach_from reach leads seek nearest below file_at class_at type_of_name meet_class meet_int meets pop pop_all is_named effect returns target goes_on map_at flow_into flow_to_target start_at after Verifier.turn maps_past verify types_at unmapped_from unmapped notes_of settle on_rows run_rows perform_rows perform_all_rows two method file_of plain file_f taker lifts ready tied12 tied123 jumps meet_kind return_kind notes_of_method made_by rewritten numbered_on rows
computed = record { whole = refl; taken = refl; broken = refl }

-- On tables

head : {A : Type 0} → A → List A → A
head a [] = a
head a (x ∷ xs) = x

tail : {A : Type 0} → List A → List A
tail [] = []
tail (x ∷ xs) = xs

module _ (t : Tables) (s : shaped t ≡ true) (w : within t.counts ≡ true) (g : grouped t ≡ true) where
  broken-is : (r : Rows) → view t ≡ r → (b : Bool) → fits r ≡ b → broken t ≡ not b
  unfolding broken whole every fits
  broken-is r e b h = rw (s, w, g, e) (ap not h)

  pub record Right : Type 0 where
    pub kept : All (λ c. view t ≡ c.rows → (broken t ≡ false) × (taken_on t ≡ 0 ∷ c.left)) fine
    pub refused : All (λ r. view t ≡ r → broken t ≡ true) hurt

  taken-shows : (r : Rows) → view t ≡ r → fits r ≡ true → taken_on t ≡ taken_of r
  unfolding taken_on taken_of
  taken-shows r e h =
      let d = same-perform call_take_back t r (record { unbroken = broken-is r e true h; rows = e }) in
      λ i. number_of (d.0 i) ∷ left_of (d.1.rows i)

  each-kept : (cs : List Taken) → map (λ c. fits c.rows) cs ≡ map (λ _. true) cs → map (λ c. taken_of c.rows) cs ≡ map (λ c. 0 ∷ c.left) cs
      → All (λ c. view t ≡ c.rows → (broken t ≡ false) × (taken_on t ≡ 0 ∷ c.left)) cs
  unfolding head tail
  each-kept [] p q = tt
  each-kept (c ∷ cs) p q =
      let h = ap (head true) p in
      ((λ e. (broken-is c.rows e true h, taken-shows c.rows e h ∙ ap (head []) q)), each-kept cs (ap tail p) (ap tail q))

  each-refused : (rs : List Rows) → map fits rs ≡ map (λ _. false) rs → All (λ r. view t ≡ r → broken t ≡ true) rs
  unfolding head tail
  each-refused [] p = tt
  each-refused (r ∷ rs) p = ((λ e. broken-is r e false (ap (head true) p)), each-refused rs (ap tail p))

  pub level-cases : Right
  level-cases = record { kept = each-kept fine computed.whole computed.taken; refused = each-refused hurt computed.broken }

-- more than 32 loads are broken, whatever else the tables hold
pub many-loads : (t : Tables) → 32 < get_or t.counts loads_cell 0 → broken t ≡ true
many-loads t m = go (broken t) refl
  where
    go : (b : Bool) → broken t ≡ b → broken t ≡ true
    go true e = e
    go false e = absurd (omega (arith, m, (unbroken t e).counts.trace))
