-- The first case of a changeover from a boot: the old machine's calls, on any tables that its boot accepts, lead to an old store that shows those rows.
use Rattle.std.specs.Prelude.{◌≡◌, Bool, true, false, not, ◌&&◌, List, [], ◌∷◌, map, eqb, ℕ}
use Rattle.std.proofs.Math.Path.{refl}
use Rattle.std.proofs.Common.{sym, ap, ◌∙◌, inl, inr, arith}
use Rattle.std.proofs.lemmas.Bool.{false≢true, eqb-false}
use Rattle.definition.specs.declared.Refusal.TheVariants.{Word}
use Rattle.definition.specs.declared.Reply.TheVariants.{Accepted, Denied}
use Rattle.definition.specs.Answers.{number, number_of_step, number_of, Result, refused, ok, ◌>>=◌, need, take?}
use Rattle.definition.specs.Groups.{numbers_of_ties, lesser, lowest, group_of, cell_of, groups_of}
use Rattle.definition.specs.Loading.{subtype_is, new_subtypes, override_tie, override_ties, define, recorded, started}
use Rattle.definition.specs.Tables.{Tables, shaped, Rows, owner_of, cut_to, file_at, class_at}
use Rattle.definition.specs.Broken.{is_object, entry_fits, tie_fits, subtype_fits}
use Rattle.definition.specs.Calls.{numbered_on, boot_rows, boot, Call, call_rows, call_step, perform, Done, done, perform_all, try_rows, tried_with, taken_back, turn, turn_of, define_rows, entry_trace, record_rows, start_rows, drop_rows, sweep_rows, answer_of, step_task, step_on, step_rows}
use Rattle.definition.specs.Changeover.{carry, later_file, brings_later}
use Rattle.definition.specs.First.Signatures.{first_argument, first_is_named, first_same_signature, first_alike, first_has_method, first_selected, first_signature_ties, first_override_tie, first_override_ties}
use Rattle.definition.specs.First.Files.{first_signature_in, first_methods_in, first_same_method, first_read_file, first_opcode_of, first_inline_length, first_decode}
use Rattle.definition.specs.First.Verifier.{first_effect, first_verify, first_types_at, first_notes_of_method, first_notes_of, first_hides, first_define}
use Rattle.definition.specs.First.Machine.{first_existing, first_object!, first_compute, first_now, first_give, first_execute, first_step, first_started}
use Rattle.definition.specs.First.Tables.{FirstTables, FirstRows, first_shaped, first_put, first_file_at, first_class_at, first_view}
use Rattle.definition.specs.First.Broken.{first_class_fits, first_classes_fit, first_value_fits, first_local_fits, first_object_fits, first_frame_fits, first_sound, first_broken}
use Rattle.definition.specs.First.Calls.{FirstReply, FirstCall, first_call_rows, first_call_step, first_carried, first_wrap, first_boot, first_perform, first_perform_all, FirstGiven, first_boot_rows, FirstRowCall, first_row_define, first_row_record, first_row_start, first_row_drop, first_on_row_call, first_define_rows, first_record_rows, first_start_rows, first_drop_rows, first_step_task, first_step_on, first_step_rows}
use Rattle.definition.specs.Lists.{every, all, all_from, any, is_some, doubled, index_of, is_none, to_list, same_list, filled, rows}
use Rattle.definition.specs.Maybe as Maybe
use Rattle.definition.specs.Chains.{has, fires, rest, grow, reach_from, reach, leads}
use Rattle.definition.specs.Requests.{same_request}
use Rattle.definition.specs.Superclasses.{seek, nearest, below}
use Rattle.definition.specs.Classes.{find, lower, super_of, loader_of, own_slots, slots_in, slots, slot_is, has_field, same_signature, alike, methods_of, has_method, selected, is_named}
use Rattle.definition.specs.Constraints.{tie_edges, subtype_edges, edges, pair_agrees, row_agrees, agrees_over, agrees, tie_is, new_tie, new_ties, signature_ties, agrees_after, post}
use Rattle.definition.specs.File.{byte, short, name, count, fields_in, one_in, arguments_in, signature_in, names_in, map_in, maps_from, maps_in, methods_in, ends, same_field, same_method, read_file}
use Rattle.definition.specs.Instructions.{pick, opcode_of, inline_length, short_at, extend, instruction_of, sized_as, decode}
use Rattle.definition.specs.Verifier.{type_of_name, meet_class, meet_int, meets, meet_kind, pop, pop_all, effect, returns, return_kind, target, goes_on, map_at, local_type, meet_local, meet_all, meet_map, flow_into, flow_to_target, start_at, after, maps_past, verify, types_at, unmapped_from, unmapped, notes_of_method, notes_of}
use Rattle.definition.specs.Verifier as Verifier
use Rattle.definition.specs.Machine.{Object, Objects, free, owned, object_held, existing, in_use, unused, made, roomless, share_used, made_by, rewritten, changed, initial_value, new_object, pop!, pop_all!, int!, reference!, of_kind!, kind!, kinds!, compute, jumps, room!, object!, now, under!, give, execute, step}
use Rattle.definition.specs.Sweeping.{named, roots, links_from, reached, swept_from, freed_from}
use Rattle.definition.specs.Computing.OnRows.{settle, on_rows, run_rows, perform_rows, perform_all_rows}
use Rattle.definition.specs.Computing.Samples.{two, method, file_of, plain, taker, lifts}
use Rattle.unbroken.specs.OnRows.{Shows, same-perform, same-booted}
use Rattle.unbroken.specs.Unbroken.{kept-unbroken}
use Rattle.first.specs.SameObjects.{SameObjects, no_objects, same_object}
use Rattle.first.specs.SameRows as SameRows
use Rattle.first.specs.SameRows.{SameRows, BringsNone, today_row}
use Rattle.first.specs.Carries.{Carries, carrying, same-shaped, same-broken, same_store, unbroken-keeps-none}
use Rattle.first.specs.SameCalls.{same-boot, same-rows-call, same-step-tables}
use Rattle.first.specs.KeepsNone.{keeps-early, booted-early}
use Rattle.first.specs.Changeover.{carried_rows, carried-rows, carried-whole, fresh-share}
use Rattle.cases.specs.Changeover.{OldMove, asks, steps, old_after, calling, half_moves, half_run, on_half, marks_of, marks, Goes, goes-on}

-- what today's rows say of old ones

unfoldable pub held : Objects → List Object
held [] = []
held (free ∷ os) = held os
held (owned k x ∷ os) = x ∷ held os

abbrev stripped : Rows → FirstRows
stripped q = SameRows.plain (held q.objects) q

same-held : (os : List Object) (qs : Objects) → SameObjects os qs → os ≡ held qs
unfolding held
same-held os qs no_objects = refl
same-held os qs (same_object {k} {x} {os = os'} {qs = qs'} l h) = λ i. x ∷ same-held os' qs' h i

same-stripped : (r : FirstRows) (q : Rows) → SameRows r q → r ≡ stripped q
same-stripped r q s = s.rest ∙ ap (λ (os : List Object). SameRows.plain os q) (same-held r.objects q.objects s.objects)

-- old tables that show rows
pub record OldShows (v : FirstTables) (r : FirstRows) : Type 0 where
  pub sound : first_broken v ≡ false
  pub rows : first_view v ≡ r

abbrev pub call_of : OldMove → FirstCall
call_of (asks c) = first_call_rows c
call_of steps = first_call_step

abbrev today_of : OldMove → Call
today_of (asks c) = call_rows (today_row c)
today_of steps = call_step

-- carried afresh, today's machine moves the rows as the old one does
abbrev moved : OldMove → FirstRows → FirstRows
moved m r = stripped (perform_rows (today_of m) (carried_rows r)).rows

shown-after : (m : OldMove) (v : FirstTables) (r : FirstRows) → OldShows v r → Carries (first_perform (call_of m) v).tables (perform (today_of m) (carry v)).tables → OldShows (first_perform (call_of m) v).tables (moved m r)
shown-after m v r s k =
    let w = (carried-whole v s.sound).0 in
    let x = keeps-early (call_of m) v (unbroken-keeps-none v s.sound) in
    let sound : first_broken (first_perform (call_of m) v).tables ≡ false = same-broken _ _ k x ∙ kept-unbroken (today_of m) (carry v) w in
    let shown : Shows (carry v) (carried_rows r) = record { unbroken = w; rows = carried-rows v s.sound ∙ ap carried_rows s.rows } in
    let after = (same-perform (today_of m) (carry v) (carried_rows r) shown).1.rows in
    record { sound = sound; rows = same-stripped _ _ (same_store _ _ k.fronts x sound).rows ∙ ap stripped after }

-- the old machine's word for a call on rows
unfoldable pub word_in : Result (FirstGiven FirstReply) → ℕ
word_in (refused w) = number w
word_in (ok g) = number_of g.answer

old-word : (c : FirstRowCall) (v : FirstTables) (r : FirstRows) → OldShows v r → number_of (first_perform (first_call_rows c) v).answer ≡ word_in (first_on_row_call c r)
unfolding first_perform first_wrap
old-word c v r s = rw (s.sound, first_wrap) (go (first_on_row_call c (first_view v)) ∙ ap (λ (z : FirstRows). word_in (first_on_row_call c z)) s.rows)
  where
    go : (o : Result (FirstGiven FirstReply)) → number_of (first_carried Denied v o).answer ≡ word_in o
    go (refused w) = unfold first_carried word_in number_of in refl
    go (ok g) = unfold first_carried word_in in refl

-- a call that brings no later file and isn't answered with 8
abbrev Allowed : OldMove → FirstRows → Type 0
Allowed (asks c) r = BringsNone c × (eqb (word_in (first_on_row_call c r)) 8 ≡ false)
Allowed steps r = Unit {0}

move-shown : (m : OldMove) (v : FirstTables) (r : FirstRows) → OldShows v r → Allowed m r → OldShows (first_perform (call_of m) v).tables (moved m r)
unfolding first_perform perform number_of
move-shown (asks c) v r s a =
    shown-after (asks c) v r s (elim (same-rows-call c a.0 v (carry v) (carrying v) (unbroken-keeps-none v s.sound) (λ n. eqb-false _ _ a.1 (sym (old-word c v r s) ∙ n))) [
      | inl d ↦ d.tables
      | inr z ↦ absurd (fresh-share v s.sound (call_rows (today_row c)) z)
    ])
move-shown steps v r s a =
    shown-after steps v r s (elim (same-step-tables v (carry v) (carrying v) (unbroken-keeps-none v s.sound)) [
      | inl d ↦ d.tables
      | inr z ↦ absurd (fresh-share v s.sound call_step z)
    ])

-- lists of moves

abbrev pub moved_all : List OldMove → FirstRows → FirstRows
moved_all [] r = r
moved_all (m ∷ ms) r = moved_all ms (moved m r)

unfoldable pub allowed_in : List OldMove → FirstRows → Bool
allowed_in [] r = true
allowed_in (asks c ∷ ms) r = not (brings_later (first_call_rows c)) && (not (eqb (word_in (first_on_row_call c r)) 8) && allowed_in ms (moved (asks c) r))
allowed_in (steps ∷ ms) r = allowed_in ms (moved steps r)

both : (a b : Bool) → (a && b) ≡ true → (a ≡ true) × (b ≡ true)
both true b h = (refl, h)
both false b h = absurd (false≢true h)

not_so : (a : Bool) → not a ≡ true → a ≡ false
not_so true h = absurd (false≢true h)
not_so false h = refl

none-brought : (c : FirstRowCall) → brings_later (first_call_rows c) ≡ false → BringsNone c
unfolding brings_later
none-brought (first_row_define l bs) h = h
none-brought (first_row_record l n c) h = tt
none-brought (first_row_start k l n m v) h = tt
none-brought (first_row_drop k) h = tt

all_shown : (ms : List OldMove) (v : FirstTables) (r : FirstRows) → OldShows v r → allowed_in ms r ≡ true → OldShows (first_perform_all (map call_of ms) v).tables (moved_all ms r)
unfolding first_perform_all allowed_in
all_shown [] v r s h = s
all_shown (asks c ∷ ms) v r s h =
    let a = both _ _ h in
    let b = both _ _ a.1 in
    all_shown ms (first_perform (first_call_rows c) v).tables (moved (asks c) r) (move-shown (asks c) v r s (none-brought c (not_so _ a.0), not_so _ b.0)) b.1
all_shown (steps ∷ ms) v r s h = all_shown ms (first_perform first_call_step v).tables (moved steps r) (move-shown steps v r s tt) h

first-shaped : (u : FirstTables) → (first_boot u).answer ≡ Accepted → first_shaped u ≡ true
unfolding first_boot
first-shaped u = go (first_shaped u)
  where
    go : (b : Bool) → (elim b as (λ _. Done FirstReply) [ true ↦ done Accepted (first_put first_boot_rows u) | false ↦ done (Denied (Word 1)) u ]).answer ≡ Accepted → b ≡ true
    go true e = refl
    go false e = let z : ◌≡◌ {A = ℕ} 0 1 = cc in absurd (omega arith)

boot-shown : (u : FirstTables) → (first_boot u).answer ≡ Accepted → OldShows (first_boot u).tables first_boot_rows
unfolding held perform_all perform_all_rows
boot-shown u a =
    let k = (same-boot u (carry u) (carrying u)).tables in
    let x = booted-early u a in
    let booted : Shows (boot (carry u)).tables boot_rows = (same-booted [] (carry u) (sym (same-shaped u (carry u) (carrying u).fronts) ∙ first-shaped u a)).1 in
    let sound : first_broken (first_boot u).tables ≡ false = same-broken _ _ k x ∙ booted.unbroken in
    record { sound = sound; rows = same-stripped _ _ (same_store _ _ k.fronts x sound).rows ∙ ap stripped booted.rows }

-- the first case's moves, computed

record Half : Type 0 where
  allowed : allowed_in half_moves first_boot_rows ≡ true
  marked : marks_of (carried_rows (moved_all half_moves first_boot_rows)) ≡ marks on_half
  answered : (perform_all_rows on_half.calls (carried_rows (moved_all half_moves first_boot_rows))).answer ≡ on_half.replies

half : Half
unfolding on_half marks_of marks held word_in allowed_in brings_later later_file old_after calling half_moves half_run owner_of numbers_of_ties lesser lowest group_of cell_of groups_of is_object entry_fits tie_fits subtype_fits all_from is_some first_argument first_is_named first_same_signature first_alike first_has_method first_selected first_signature_ties first_override_tie first_override_ties first_signature_in first_methods_in first_same_method first_read_file first_opcode_of first_inline_length first_decode first_effect first_verify first_types_at first_notes_of_method first_notes_of first_hides first_define first_existing first_object! first_compute first_now first_give first_execute first_step first_started first_file_at first_class_at first_class_fits first_classes_fit first_value_fits first_local_fits first_object_fits first_frame_fits first_sound first_define_rows first_record_rows first_start_rows first_drop_rows first_step_task first_step_on first_step_rows numbered_on number number_of_step number_of ◌>>=◌ need take? define_rows entry_trace record_rows start_rows drop_rows answer_of step_task step_on step_rows turn_of turn find lower super_of loader_of own_slots slots_in slots slot_is has_field same_signature alike methods_of has_method selected tie_edges subtype_edges edges pair_agrees row_agrees agrees_over agrees tie_is new_tie new_ties signature_ties agrees_after post byte short name count fields_in one_in arguments_in signature_in names_in map_in maps_from maps_in methods_in ends same_field same_method read_file pick opcode_of inline_length short_at extend instruction_of sized_as decode every all any doubled index_of is_none to_list same_list filled subtype_is new_subtypes override_tie override_ties define recorded started existing initial_value new_object pop! pop_all! int! reference! kind! kinds! room! object! now under! give execute step Maybe.◌>>=◌ Maybe.need same_request has fires rest grow reach_from reach leads seek nearest below file_at class_at type_of_name meet_class meet_int meets pop pop_all is_named effect returns target goes_on map_at local_type meet_local meet_all meet_map flow_into flow_to_target start_at after Verifier.turn maps_past verify types_at unmapped_from unmapped notes_of settle on_rows run_rows perform_rows perform_all_rows two method file_of plain taker of_kind! compute jumps meet_kind return_kind notes_of_method unused made roomless share_used made_by rewritten changed object_held in_use named roots links_from reached swept_from freed_from sweep_rows taken_back cut_to try_rows tried_with rows lifts
half = record { allowed = refl; marked = refl; answered = refl }

-- whatever the old tables held before the old boot, and whatever the new ones hold
pub half-from-boot : (u : FirstTables) (t : Tables) → (first_boot u).answer ≡ Accepted → shaped t ≡ true → Goes (first_perform_all (map call_of half_moves) (first_boot u).tables).tables t on_half
half-from-boot u t a n =
    let s = all_shown half_moves (first_boot u).tables first_boot_rows (boot-shown u a) half.allowed in
    goes-on (first_perform_all (map call_of half_moves) (first_boot u).tables).tables t (moved_all half_moves first_boot_rows) s.sound s.rows n on_half half.marked half.answered
