-- Changing over while quoting, paper 12: old tables that show these rows are carried over, and this is what the new ones then say and answer, whatever they held.
use Rattle.std.specs.Prelude.{◌≡◌, refl, Bool, true, false, not, ℕ}
use Rattle.std.proofs.Common.{ap, ◌∙◌, inr}
use mathlib.Core.List.{List, [], ◌∷◌, ◌++◌, map}
use Rattle.definition.specs.declared.Refusal.TheVariants.{Word}
use Rattle.definition.specs.declared.Answer.TheVariants.{Idle, Ran, Finished}
use Rattle.definition.specs.declared.Reply.{Reply}
use Rattle.definition.specs.declared.Reply.TheVariants.{Accepted, Stepped, Denied}
use Rattle.definition.specs.Answers.{number, number_of_step, number_of, Result, refused, ok, ◌>>=◌, need, take?}
use Rattle.definition.specs.Groups.{numbers_of_ties, lesser, lowest, group_of, cell_of, groups_of}
use Rattle.definition.specs.Loading.{subtype_is, new_subtypes, override_tie, override_ties, define, recorded, started}
use Rattle.definition.specs.Tables.{Tables, shaped, Rows, class_row, entry, owner_of, cut_to, view, file_at, class_at}
use Rattle.definition.specs.Broken.{is_object, entry_fits, tie_fits, subtype_fits, groups_in}
use Rattle.definition.specs.Calls.{numbered_on, Call, call_boot, call_step, call_take_back, perform_all, try_rows, tried_with, taken_back, turn, turn_of, define_rows, entry_trace, record_rows, start_rows, drop_rows, sweep_rows, answer_of, step_task, step_on, step_rows}
use Rattle.definition.specs.Changeover.{changeover}
use Rattle.definition.specs.Computing.Samples.{two, method, file_of, plain, taker, lifts}
use Rattle.definition.specs.First.Signatures.{first_argument, first_is_named, first_same_signature, first_alike, first_has_method, first_selected, first_signature_ties, first_override_tie, first_override_ties}
use Rattle.definition.specs.First.Files.{first_signature_in, first_methods_in, first_same_method, first_read_file, first_opcode_of, first_inline_length, first_decode}
use Rattle.definition.specs.First.Verifier.{first_effect, first_verify, first_types_at, first_notes_of_method, first_notes_of, first_hides, first_define}
use Rattle.definition.specs.First.Machine.{first_existing, first_object!, first_compute, first_now, first_give, first_execute, first_step, first_started}
use Rattle.definition.specs.First.Tables.{FirstTables, FirstRows, first_rows_of, first_no_rows, first_shaped, first_file_at, first_class_at, first_view}
use Rattle.definition.specs.First.Broken.{first_class_fits, first_classes_fit, first_value_fits, first_local_fits, first_object_fits, first_frame_fits, first_sound, first_within, first_whole, first_broken}
use Rattle.definition.specs.First.Calls.{FirstGiven, first_boot_rows, FirstRowCall, first_row_define, first_row_record, first_row_start, first_on_row_call, first_define_rows, first_record_rows, first_start_rows, first_drop_rows, first_step_task, first_step_on, first_step_rows}
use Rattle.definition.specs.Lists.{every, all, all_from, any, is_some, doubled, index_of, is_none, to_list, same_list, filled, rows}
use Rattle.definition.specs.Maybe as Maybe
use Rattle.definition.specs.Chains.{has, fires, rest, grow, reach_from, reach, leads}
use Rattle.definition.specs.Requests.{same_request}
use Rattle.definition.specs.Superclasses.{seek, nearest, below}
use Rattle.definition.specs.Classes.{find, lower, super_of, loader_of, own_slots, slots_in, slots, slot_is, has_field, same_signature, alike, methods_of, has_method, selected, is_named}
use Rattle.definition.specs.Constraints.{tie_edges, subtype_edges, edges, pair_agrees, row_agrees, agrees_over, agrees, tie_is, new_tie, new_ties, signature_ties, agrees_after, post}
use Rattle.definition.specs.File.{byte, short, name, count, fields_in, one_in, arguments_in, signature_in, names_in, map_in, maps_from, maps_in, methods_in, ends, same_field, same_method, read_file}
use Rattle.definition.specs.Instructions.{pick, opcode_of, inline_length, short_at, extend, instruction_of, sized_as, decode}
use Rattle.definition.specs.Verifier.{type_of_name, meet_class, meet_int, meets, meet_kind, pop, pop_all, effect, returns, return_kind, target, goes_on, map_at, local_type, meet_local, meet_all, meet_map, flow_into, flow_to_target, start_at, after, maps_past, verify, types_at, unmapped_from, unmapped, notes_of_method, notes_of}
use Rattle.definition.specs.Verifier as Verifier
use Rattle.definition.specs.Machine.{object_held, existing, in_use, unused, made, roomless, share_used, made_by, rewritten, changed, initial_value, new_object, pop!, pop_all!, int!, reference!, of_kind!, kind!, kinds!, compute, jumps, room!, object!, now, under!, give, execute, step}
use Rattle.definition.specs.Sweeping.{named, roots, links_from, reached, swept_from, freed_from}
use Rattle.definition.specs.Computing.OnRows.{settle, on_rows, run_rows, perform_rows, perform_all_rows}
use Rattle.layout.specs.Tests.{All}
use Rattle.unbroken.specs.Groups.{groups-right}
use Rattle.unbroken.specs.OnRows.{Shows, same-all}
use Rattle.first.specs.Changeover.{changeover-filled, filled-changeover, refused-changeover, carried_rows, carried-rows, carried-whole}

-- Old stores, made by the first document's calls on rows

pub data OldMove : Type 0 where
  asks : FirstRowCall → OldMove
  steps : OldMove

abbrev settled : {A : Type 0} → FirstRows → Result (FirstGiven A) → FirstRows
settled r (refused w) = r
settled r (ok g) = g.rows

unfoldable pub old_after : List OldMove → FirstRows → FirstRows
old_after [] r = r
old_after (asks c ∷ ms) r = old_after ms (settled r (first_on_row_call c r))
old_after (steps ∷ ms) r = old_after ms (settled r (first_step_rows r))

-- class 10: method 20 makes an object, then hands its int to method 21, which returns it
unfoldable pub calling : List ℕ
calling = file_of 10 2 2 (method 20 1 1 (0xBB ∷ 0 ∷ 10 ∷ 0x3A ∷ 2 ∷ 0x19 ∷ 0 ∷ 0x15 ∷ 1 ∷ 0xB6 ∷ 0 ∷ 10 ∷ 0 ∷ 21 ∷ 0 ∷ 1 ∷ 0 ∷ 1 ∷ 0xAC ∷ []) ++ method 21 1 1 (0x15 ∷ 1 ∷ 0xAC ∷ []))

-- A note is posted and then a tie; a report makes two objects; a quote is half run, in a frame that another waits for
unfoldable pub half_moves : List OldMove
half_moves =
    asks (first_row_record 1 2 0) ∷ asks (first_row_record 2 2 0) ∷ asks (first_row_define 1 lifts)
    ∷ asks (first_row_define 1 (taker 40 2)) ∷ asks (first_row_record 2 40 2) ∷ asks (first_row_define 2 (taker 41 40))
    ∷ asks (first_row_define 1 calling) ∷ asks (first_row_start 1 1 10 20 5) ∷ steps
    ∷ asks (first_row_start 0 1 10 20 7) ∷ steps ∷ steps ∷ steps ∷ steps ∷ steps ∷ steps ∷ []

unfoldable pub half_run : FirstRows
half_run = old_after half_moves first_boot_rows

-- class 10 below Object under loader 1, whose kept file has this version byte
unfoldable pub keeping : ℕ → FirstRows
keeping v = first_rows_of (class_row 0 0 0 ∷ class_row 1 0 9 ∷ []) (v ∷ 0 ∷ 6 ∷ 0 ∷ 10 ∷ 0 ∷ 2 ∷ 0 ∷ 0 ∷ []) (entry 0 2 0 ∷ entry 1 2 0 ∷ entry 1 10 1 ∷ []) [] [] [] [] []

-- the old store, the numbers of carried ties and subtype constraints, the ties' groups and the objects' owner cells, then calls and their answers
pub record ChangeCase : Type 0 where
  pub old : FirstRows
  pub ties : List ℕ
  pub subtypes : List ℕ
  pub groups : List ℕ
  pub owners : List ℕ
  pub calls : List Call
  pub replies : List Reply

abbrev change : FirstRows → List ℕ → List ℕ → List ℕ → List ℕ → List Call → List Reply → ChangeCase
change r t s g o c a = record { old = r; ties = t; subtypes = s; groups = g; owners = o; calls = c; replies = a }

unfoldable pub on_half : ChangeCase
on_half = change half_run (0 ∷ []) (1 ∷ []) (0 ∷ []) (1 ∷ 1 ∷ 1 ∷ 1 ∷ []) (call_step ∷ call_step ∷ call_step ∷ call_take_back ∷ []) (Stepped (Ran 0) ∷ Stepped (Finished 0 7) ∷ Stepped (Ran 1) ∷ Denied (Word 19) ∷ [])

unfoldable pub changes : List ChangeCase
changes =
    -- the tie is numbered first, every object is the quote's, the quote goes on where it was and ends with its int; then the report goes on, and no load can be taken back
    on_half
    -- tables of zeros, before any boot
    ∷ change first_no_rows [] [] [] [] (call_step ∷ call_boot ∷ []) (Stepped Idle ∷ Accepted ∷ [])
    -- a kept file of version 1
    ∷ change (keeping 1) [] [] [] [] (call_take_back ∷ call_step ∷ []) (Denied (Word 19) ∷ Stepped Idle ∷ [])
    ∷ []

-- of version 2 or 3: today's store may keep it, the first document's is broken
unfoldable pub refusals : List FirstRows
refusals = keeping 2 ∷ keeping 3 ∷ []

unfoldable pub marks_of : Rows → List (List ℕ)
marks_of r = r.numbers.ties ∷ r.numbers.subtypes ∷ groups_of r.ties r.numbers.ties ∷ map owner_of r.objects ∷ []

unfoldable pub marks : ChangeCase → List (List ℕ)
marks c = c.ties ∷ c.subtypes ∷ c.groups ∷ c.owners ∷ []

record Computed : Type 0 where
  whole : map (λ c. first_sound c.old) changes ≡ map (λ _. true) changes
  marked : map (λ c. marks_of (carried_rows c.old)) changes ≡ map marks changes
  answered : map (λ c. (perform_all_rows c.calls (carried_rows c.old)).answer) changes ≡ map (λ c. c.replies) changes
  broken : map first_sound refusals ≡ map (λ _. false) refusals

computed : Computed
unfolding old_after calling half_moves half_run keeping on_half changes refusals marks_of marks owner_of numbers_of_ties lesser lowest group_of cell_of groups_of is_object entry_fits tie_fits subtype_fits all_from is_some first_argument first_is_named first_same_signature first_alike first_has_method first_selected first_signature_ties first_override_tie first_override_ties first_signature_in first_methods_in first_same_method first_read_file first_opcode_of first_inline_length first_decode first_effect first_verify first_types_at first_notes_of_method first_notes_of first_hides first_define first_existing first_object! first_compute first_now first_give first_execute first_step first_started first_file_at first_class_at first_class_fits first_classes_fit first_value_fits first_local_fits first_object_fits first_frame_fits first_sound first_define_rows first_record_rows first_start_rows first_drop_rows first_step_task first_step_on first_step_rows numbered_on number number_of_step number_of ◌>>=◌ need take? define_rows entry_trace record_rows start_rows drop_rows answer_of step_task step_on step_rows turn_of turn find lower super_of loader_of own_slots slots_in slots slot_is has_field same_signature alike methods_of has_method selected tie_edges subtype_edges edges pair_agrees row_agrees agrees_over agrees tie_is new_tie new_ties signature_ties agrees_after post byte short name count fields_in one_in arguments_in signature_in names_in map_in maps_from maps_in methods_in ends same_field same_method read_file pick opcode_of inline_length short_at extend instruction_of sized_as decode every all any doubled index_of is_none to_list same_list filled subtype_is new_subtypes override_tie override_ties define recorded started existing initial_value new_object pop! pop_all! int! reference! kind! kinds! room! object! now under! give execute step Maybe.◌>>=◌ Maybe.need same_request has fires rest grow reach_from reach leads seek nearest below file_at class_at type_of_name meet_class meet_int meets pop pop_all is_named effect returns target goes_on map_at local_type meet_local meet_all meet_map flow_into flow_to_target start_at after Verifier.turn maps_past verify types_at unmapped_from unmapped notes_of settle on_rows run_rows perform_rows perform_all_rows two method file_of plain taker of_kind! compute jumps meet_kind return_kind notes_of_method unused made roomless share_used made_by rewritten changed object_held in_use named roots links_from reached swept_from freed_from sweep_rows taken_back cut_to try_rows tried_with rows lifts
computed = record { whole = refl; marked = refl; answered = refl; broken = refl }

-- On old tables u of the published lengths, with counts within their limits, that show these rows, and new tables t of theirs

unbroken-is : (u : FirstTables) → first_shaped u ≡ true → first_within u.counts ≡ true → (r : FirstRows) → first_view u ≡ r → (b : Bool) → first_sound r ≡ b → first_broken u ≡ not b
unfolding first_broken first_whole every
unbroken-is u s w r e b h = rw (s, w, e, h) (go b)
  where
    go : (b : Bool) → not (every (b ∷ [])) ≡ not b
    go true = refl
    go false = refl

-- carried: accepted, with these numbers, groups and owners, and each call gets this answer
pub record Goes (u : FirstTables) (t : Tables) (c : ChangeCase) : Type 0 where
  pub accepted : (changeover u t).answer ≡ Accepted
  pub marked : marks_of (view (changeover u t).tables) ≡ marks c
  pub grouped : groups_in (changeover u t).tables ≡ c.groups
  pub answered : (perform_all c.calls (changeover u t).tables).answer ≡ c.replies

-- each case goes so, and the others are refused with 1, with the new tables as they were
pub record ChangesRight (u : FirstTables) (t : Tables) : Type 0 where
  pub carried : All (λ c. first_view u ≡ c.old → Goes u t c) changes
  pub refused : All (λ r. first_view u ≡ r → ((changeover u t).answer ≡ Denied (Word 1)) × ((changeover u t).tables ≡ t)) refusals

head : {A : Type 0} → A → List A → A
head a [] = a
head a (x ∷ xs) = x

tail : {A : Type 0} → List A → List A
tail [] = []
tail (x ∷ xs) = xs

third : List (List ℕ) → List ℕ
third xs = head [] (tail (tail xs))

-- by what is computed of the rows that the old tables show
pub goes-on : (u : FirstTables) (t : Tables) (r : FirstRows) → first_broken u ≡ false → first_view u ≡ r → shaped t ≡ true → (c : ChangeCase) → marks_of (carried_rows r) ≡ marks c
    → (perform_all_rows c.calls (carried_rows r)).answer ≡ c.replies → Goes u t c
unfolding marks_of marks third head tail
goes-on u t r b e n c m a =
    let f = filled-changeover u t n b in
    let left = (changeover-filled u t f).left in
    let shown : Shows (changeover u t).tables (carried_rows r) = record { unbroken = rw left (carried-whole u b).0; rows = ap view left ∙ (carried-rows u b ∙ ap carried_rows e) } in
    let marked : marks_of (view (changeover u t).tables) ≡ marks c = ap marks_of shown.rows ∙ m in
    record {
      accepted = f;
      marked = marked;
      grouped = groups-right (changeover u t).tables shown.unbroken ∙ ap third marked;
      answered = (same-all c.calls (changeover u t).tables (carried_rows r) shown).0 ∙ a;
    }

module _ (u : FirstTables) (t : Tables) (s : first_shaped u ≡ true) (w : first_within u.counts ≡ true) (n : shaped t ≡ true) where
  goes : (c : ChangeCase) → first_sound c.old ≡ true → marks_of (carried_rows c.old) ≡ marks c → (perform_all_rows c.calls (carried_rows c.old)).answer ≡ c.replies → first_view u ≡ c.old → Goes u t c
  goes c h m a e = goes-on u t c.old (unbroken-is u s w c.old e true h) e n c m a

  stays : (r : FirstRows) → first_sound r ≡ false → first_view u ≡ r → ((changeover u t).answer ≡ Denied (Word 1)) × ((changeover u t).tables ≡ t)
  stays r h e = let x = refused-changeover u t (inr (unbroken-is u s w r e false h)) in (x.answers, x.left)

  pub changeover-cases : ChangesRight u t
  unfolding head tail
  changeover-cases = record { carried = each changes computed.whole computed.marked computed.answered; refused = none refusals computed.broken }
    where
      each : (cs : List ChangeCase) → map (λ c. first_sound c.old) cs ≡ map (λ _. true) cs → map (λ c. marks_of (carried_rows c.old)) cs ≡ map marks cs
          → map (λ c. (perform_all_rows c.calls (carried_rows c.old)).answer) cs ≡ map (λ c. c.replies) cs → All (λ c. first_view u ≡ c.old → Goes u t c) cs
      each [] p q r = tt
      each (c ∷ cs) p q r = ((λ e. goes c (ap (head true) p) (ap (head []) q) (ap (head []) r) e), each cs (ap tail p) (ap tail q) (ap tail r))

      none : (rs : List FirstRows) → map first_sound rs ≡ map (λ _. false) rs → All (λ r. first_view u ≡ r → ((changeover u t).answer ≡ Denied (Word 1)) × ((changeover u t).tables ≡ t)) rs
      none [] p = tt
      none (r ∷ rs) p = ((λ e. stays r (ap (head true) p) e), none rs (ap tail p))
