-- What the machine answers on rows in the proved cases and in the paper's worked example: computed, a table at once.
use Rattle.std.specs.Prelude.{◌≡◌, refl, Bool, true, false, List, [], ◌∷◌, ◌++◌, map, ◌⊎◌, ℕ, ◌+◌, length, eqb}
use Rattle.std.proofs.Common.{sym, inl, inr}
use Rattle.std.proofs.lemmas.Bool.{false≢true}
use Rattle.std.proofs.Math.Option.{none, some}
use Rattle.definition.specs.Lists.{every, all, any, doubled, index_of, is_some, is_none, to_list, same_list, filled}
use Rattle.definition.specs.Maybe as Maybe
use Rattle.definition.specs.Chains.{has, fires, rest, grow, reach_from, reach, leads}
use Rattle.definition.specs.Requests.{same_request}
use Rattle.definition.specs.Answers.{ends_in, Shown, shown, details, step_details, refusal_details, signed, less, number, number_of_step, number_of, ◌>>=◌, need, take?}
use Rattle.definition.specs.Superclasses.{seek, nearest, below}
use Rattle.definition.specs.Classes.{find, lower, super_of, loader_of, own_slots, slots_in, slots, slot_is, has_field, same_signature, alike, methods_of, has_method, selected, is_named}
use Rattle.definition.specs.Constraints.{tie_edges, subtype_edges, edges, pair_agrees, row_agrees, agrees_over, agrees, tie_is, new_tie, new_ties, signature_ties, agrees_after, post}
use Rattle.definition.specs.File.{byte, short, name, count, fields_in, one_in, arguments_in, signature_in, names_in, map_in, maps_from, maps_in, methods_in, ends, same_field, same_method, read_file}
use Rattle.definition.specs.Instructions.{pick, opcode_of, inline_length, short_at, extend, instruction_of, sized_as, decode}
use Rattle.definition.specs.Verifier.{type_of_name, meet_class, meet_int, meets, meet_kind, pop, pop_all, effect, returns, return_kind, target, goes_on, map_at, local_type, meet_local, meet_all, meet_map, flow_into, flow_to_target, start_at, after, maps_past, verify, types_at, unmapped_from, unmapped, notes_of_method, notes_of}
use Rattle.definition.specs.Verifier as Verifier
use Rattle.definition.specs.Machine.{object_held, existing, in_use, unused, made, roomless, share_used, made_by, rewritten, changed, initial_value, new_object, pop!, pop_all!, int!, reference!, of_kind!, kind!, kinds!, compute, jumps, room!, object!, now, under!, give, execute, step}
use Rattle.definition.specs.Loading.{subtype_is, new_subtypes, override_tie, override_ties, define, recorded, started}
use Rattle.definition.specs.Sweeping.{named, roots, links_from, reached, swept_from, freed_from}
use Rattle.definition.specs.Tables.{Rows, file_at, class_at}
use Rattle.definition.specs.Calls.{turn, turn_of, boot_rows, define_rows, entry_trace, record_rows, start_rows, drop_rows, sweep_rows, answer_of, step_task, step_on, step_rows}
use Rattle.definition.specs.Computing.OnRows.{settle, on_rows, run_rows, perform_rows, perform_all_rows}
use Rattle.definition.specs.Computing.Samples.{file_f, two, method, file_of, plain, taker, coded, lifts, pushes, ready, tied12, tied123}
use Rattle.definition.specs.Script as Script
use Rattle.laws.specs.Refused.{refusal}
use Rattle.layout.specs.Tests.{All}
use Rattle.unbroken.specs.OnRows.{OneStep}
use Rattle.cases.specs.Cases.{Case, table, numbers_from, accepted, input, output}

-- the rows before and after a case's last call, and what it answers

unfoldable pub rows_before : Case → Rows
rows_before c = (perform_all_rows c.before boot_rows).rows

unfoldable pub rows_after : Case → Rows
rows_after c = (perform_rows c.last (rows_before c)).rows

unfoldable pub answered_rows : Case → Shown
answered_rows c = shown (details (turn (rows_before c)) (perform_rows c.last (rows_before c)).answer)

-- Whether rows stay. A call that changes something here changes the number of classes, cache entries, frames or objects.

unfoldable pub size : Rows → ℕ
size r = length r.classes + length r.cache + length r.quote + in_use r.objects

abbrev pub Stays : Case → Type 0
Stays c = (c.unchanged ≡ true → (is_some (refusal (perform_rows c.last (rows_before c)).answer) ≡ true) ⊎ (rows_after c ≡ rows_before c))
    × (c.unchanged ≡ false → eqb (size (rows_after c)) (size (rows_before c)) ≡ false)

pub impossible : {A : Type 0} → Path Bool false true → A
impossible e = absurd (false≢true e)

abbrev pub same : {A B : Type 0} → A → (Path Bool true true → A) × (Path Bool true false → B)
same p = ((λ _. p), (λ e. impossible (sym e)))

abbrev pub other : {A B : Type 0} → B → (Path Bool false true → A) × (Path Bool false false → B)
other p = ((λ e. impossible e), (λ _. p))

-- boxscript on rows
unfoldable pub script_rows : List (List ℕ) → Rows → List ℕ
script_rows [] r = []
script_rows (l ∷ ls) r = elim (Script.read_line l) [
  | none ↦ []
  | some x ↦ Script.printed_line x.letter (details (turn r) (perform_rows x.call r).answer) ++ script_rows ls (perform_rows x.call r).rows
]

pub record Computed (table : List Case) : Type 0 where
  pub answers : map answered_rows table ≡ map (λ c. c.expect) table
  pub prepared : map (λ c. accepted (perform_all_rows c.before boot_rows).answer) table ≡ map (λ _. true) table
  pub ties : map (λ c. (rows_before c).ties) table ≡ map (λ c. c.ties) table
  pub subtypes : map (λ c. (rows_before c).subtypes) table ≡ map (λ c. c.subtypes) table
  pub objects : map (λ c. numbers_from 0 (rows_before c).objects) table ≡ map (λ c. c.objects) table
  pub left : map (λ c. numbers_from 0 (rows_after c).objects) table ≡ map (λ c. c.left) table
  pub stays : All Stays table
  pub steps : All (λ c. OneStep c.last) table

pub computed : Computed table
unfolding rows_before rows_after answered_rows size accepted ends_in is_some signed less shown number number_of_step number_of refusal_details step_details details ◌>>=◌ need take? define_rows entry_trace record_rows start_rows drop_rows answer_of step_task step_on step_rows turn_of turn find lower super_of loader_of own_slots slots_in slots slot_is has_field same_signature alike methods_of has_method selected tie_edges subtype_edges edges pair_agrees row_agrees agrees_over agrees tie_is new_tie new_ties signature_ties agrees_after post byte short name count fields_in one_in arguments_in signature_in names_in map_in maps_from maps_in methods_in ends same_field same_method read_file pick opcode_of inline_length short_at extend instruction_of sized_as decode every all any doubled index_of is_none to_list same_list filled subtype_is new_subtypes override_tie override_ties define recorded started existing initial_value new_object pop! pop_all! int! reference! kind! kinds! room! object! now under! give execute step Maybe.◌>>=◌ Maybe.need same_request has fires rest grow reach_from reach leads seek nearest below file_at class_at type_of_name meet_class meet_int meets pop pop_all is_named effect returns target goes_on map_at local_type meet_local meet_all meet_map flow_into flow_to_target start_at after Verifier.turn maps_past verify types_at unmapped_from unmapped notes_of settle on_rows run_rows perform_rows perform_all_rows two method file_of plain file_f taker coded lifts pushes ready tied12 tied123 table of_kind! compute jumps meet_kind return_kind notes_of_method unused made roomless share_used made_by rewritten changed object_held in_use numbers_from named roots links_from reached swept_from freed_from sweep_rows
computed = record {
  answers = refl;
  prepared = refl;
  ties = refl;
  subtypes = refl;
  objects = refl;
  left = refl;
  stays = (
    same (inr refl),
    (
      same (inl refl),
      (
        other refl,
        (
          same (inl refl),
          (
            other refl,
            (
              other refl,
              (
                same (inr refl),
                (
                  same (inl refl),
                  (other refl, (same (inl refl), (other refl, (same (inl refl), (other refl, (other refl, (same (inl refl), (other refl, (same (inl refl), tt))))))))),
                ),
              ),
            ),
          ),
        ),
      ),
    ),
  );
  steps = (tt, (tt, (tt, (tt, (tt, (tt, (tt, (tt, (tt, (tt, (tt, (tt, (tt, (tt, (tt, (tt, (tt, tt)))))))))))))))));
}

-- the paper's worked example
pub printed : script_rows (Script.lines_of input) boot_rows ≡ output
unfolding input output script_rows ends_in is_some signed less shown number number_of_step number_of refusal_details step_details details ◌>>=◌ need take? define_rows entry_trace record_rows start_rows drop_rows answer_of step_task step_on step_rows turn_of turn find lower super_of loader_of own_slots slots_in slots slot_is has_field same_signature alike methods_of has_method selected tie_edges subtype_edges edges pair_agrees row_agrees agrees_over agrees tie_is new_tie new_ties signature_ties agrees_after post byte short name count fields_in one_in arguments_in signature_in names_in map_in maps_from maps_in methods_in ends same_field same_method read_file pick opcode_of inline_length short_at extend instruction_of sized_as decode every all any doubled index_of is_none to_list same_list filled subtype_is new_subtypes override_tie override_ties define recorded started existing initial_value new_object pop! pop_all! int! reference! kind! kinds! room! object! now under! give execute step Maybe.◌>>=◌ Maybe.need same_request has fires rest grow reach_from reach leads seek nearest below file_at class_at type_of_name meet_class meet_int meets pop pop_all is_named effect returns target goes_on map_at local_type meet_local meet_all meet_map flow_into flow_to_target start_at after Verifier.turn maps_past verify types_at unmapped_from unmapped notes_of settle on_rows run_rows perform_rows perform_all_rows two method file_of plain file_f taker coded lifts pushes ready tied12 tied123 Script.digit Script.digits Script.decimal Script.up_to Script.int Script.hex_digit Script.hex_pairs Script.file Script.grow Script.fields Script.command Script.command_of Script.read_line Script.printed Script.printed_int Script.printed_line Script.lines_of of_kind! compute jumps meet_kind return_kind notes_of_method unused made roomless share_used made_by object_held
printed = refl
