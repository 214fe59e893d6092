-- Dead objects: the worked cases of the paper on them, as a table under the same statement as P1 to P10. A class 10 has a field 5 of its own type, so that
-- objects can be linked.
use Rattle.std.specs.Prelude.{◌≡◌, refl, true, false, List, [], ◌∷◌, ◌++◌, ℕ, zero, suc, length, pos}
use Rattle.std.proofs.Common.{sym, ap, ◌∙◌, inl, inr}
use Rattle.definition.specs.Lists.{every, all, any, doubled, index_of, is_some, is_none, to_list, same_list, filled}
use Rattle.definition.specs.Maybe as Maybe
use Rattle.definition.specs.Chains.{has, fires, rest, grow, reach_from, reach, leads}
use Rattle.definition.specs.Requests.{same_request}
use Rattle.definition.specs.Answers.{ends_in, Shown, shown, details, step_details, refusal_details, signed, less, number, number_of_step, number_of, ◌>>=◌, need, take?}
use Rattle.definition.specs.Superclasses.{seek, nearest, below}
use Rattle.definition.specs.Classes.{find, lower, super_of, loader_of, own_slots, slots_in, slots, slot_is, has_field, same_signature, alike, methods_of, has_method, selected, is_named}
use Rattle.definition.specs.Constraints.{tie_edges, subtype_edges, edges, pair_agrees, row_agrees, agrees_over, agrees, tie_is, new_tie, new_ties, signature_ties, agrees_after, post}
use Rattle.definition.specs.File.{byte, short, name, count, fields_in, one_in, arguments_in, signature_in, names_in, map_in, maps_from, maps_in, methods_in, ends, same_field, same_method, read_file}
use Rattle.definition.specs.Instructions.{pick, opcode_of, inline_length, short_at, extend, instruction_of, sized_as, decode}
use Rattle.definition.specs.Verifier.{type_of_name, meet_class, meet_int, meets, meet_kind, pop, pop_all, effect, returns, return_kind, target, goes_on, map_at, local_type, meet_local, meet_all, meet_map, flow_into, flow_to_target, start_at, after, maps_past, verify, types_at, unmapped_from, unmapped, notes_of_method, notes_of}
use Rattle.definition.specs.Verifier as Verifier
use Rattle.definition.specs.Machine.{object_held, existing, in_use, unused, made, roomless, share_used, made_by, rewritten, changed, initial_value, new_object, pop!, pop_all!, int!, reference!, of_kind!, kind!, kinds!, compute, jumps, room!, object!, now, under!, give, execute, step}
use Rattle.definition.specs.Loading.{subtype_is, new_subtypes, override_tie, override_ties, define, recorded, started}
use Rattle.definition.specs.Sweeping.{named, roots, links_from, reached, swept_from, freed_from}
use Rattle.definition.specs.Tables.{Tables, Rows, with_trace, with_objects, file_at, class_at}
use Rattle.definition.specs.declared.Reply.TheVariants.{Accepted}
use Rattle.definition.specs.Calls.{boot, Call, call_define, call_start, call_run, call_drop, call_sweep, turn, turn_of, define_rows, entry_trace, record_rows, start_rows, drop_rows, sweep_rows, answer_of, step_task, step_on, step_rows}
use Rattle.definition.specs.Computing.OnRows.{settle, on_rows, run_rows, perform_rows, perform_all_rows}
use Rattle.definition.specs.Computing.Samples.{file_f, two, method, file_of, plain, taker, coded, lifts, pushes, ready, tied12, tied123}
use Rattle.laws.specs.Sweeps.{none-freed}
use Rattle.cases.specs.Cases.{Case, case, line, fine, no, numbers_from, accepted, Right}
use Rattle.cases.specs.Computed.{rows_before, rows_after, answered_rows, size, same, other, Computed}
use Rattle.cases.specs.Proved.{right}

-- a class 10 below Object with the field 5 of type 10, and methods
unfoldable pub node : ℕ → List ℕ → List ℕ
node k ms = let body = two 10 ++ two 2 ++ (1 ∷ []) ++ two 5 ++ two 10 ++ (k ∷ ms) in 1 ∷ two (length body) ++ body

-- its code: a new object into local j; local i's field becomes local j; local j becomes null; 0 is returned

unfoldable pub make : ℕ → List ℕ
make j = 0xBB ∷ 0 ∷ 10 ∷ 0x3A ∷ j ∷ []

unfoldable pub link : ℕ → ℕ → List ℕ
link i j = 0x19 ∷ i ∷ 0x19 ∷ j ∷ 0xB5 ∷ 0 ∷ 10 ∷ 0 ∷ 5 ∷ 0 ∷ 10 ∷ []

unfoldable pub clear : ℕ → List ℕ
clear j = 0x01 ∷ 0x3A ∷ j ∷ []

abbrev pub nought : List ℕ
nought = 0x11 ∷ 0 ∷ 0 ∷ 0xAC ∷ []

unfoldable pub running : List ℕ → List Call
running code = ready ++ call_define 1 (node 1 (method 20 1 1 code)) ∷ call_start 0 1 10 20 7 ∷ []

-- two objects that name each other, and no frame names either: 14 steps
unfoldable pub cycle : List Call
cycle = running (make 2 ++ make 3 ++ link 2 3 ++ link 3 2 ++ clear 2 ++ clear 3 ++ nought)

-- three objects in a row, of which local 2 names the first: 16 steps
unfoldable pub row : List Call
row = running (make 2 ++ make 3 ++ make 4 ++ link 2 3 ++ link 3 4 ++ clear 3 ++ clear 4 ++ nought)

-- an object stays on the operand stack while method 30 runs: 4 steps
unfoldable pub called : List Call
called = ready ++ call_define 1 (node 2 (method 20 1 1 (0xBB ∷ 0 ∷ 10 ∷ 0x19 ∷ 0 ∷ 0x15 ∷ 1 ∷ 0xB6 ∷ 0 ∷ 10 ∷ 0 ∷ 30 ∷ 0 ∷ 1 ∷ 0 ∷ 1 ∷ 0xAC ∷ []) ++ method 30 1 1 (0x15 ∷ 1 ∷ 0xAC ∷ [])))
    ∷ call_start 0 1 10 20 7 ∷ []

-- an object made and left n times over
unfoldable pub quoted : ℕ → List Call
quoted zero = []
quoted (suc n) = call_start 0 1 10 20 7 ∷ call_drop 0 ∷ quoted n

abbrev pub loaded : List Call
loaded = ready ++ call_define 1 file_f ∷ []

-- the numbers from o on, n of them
unfoldable pub up_from : ℕ → ℕ → List ℕ
up_from o zero = []
up_from o (suc n) = o ∷ up_from (suc o) n

-- a sweep that freed n
abbrev pub freed : ℕ → Shown
freed n = line 0 n 0 (pos 0)

-- those that leave the rows as they are

abbrev pub booted : Case
booted = case 1 [] [] [] [] call_sweep (freed 0) [] true

abbrev pub cycle_held : Case
cycle_held = case 2 (cycle ++ call_run 12 ∷ []) [] [] (0 ∷ 1 ∷ 2 ∷ []) call_sweep (freed 0) (0 ∷ 1 ∷ 2 ∷ []) true

abbrev pub row_held : Case
row_held = case 3 (row ++ call_run 16 ∷ []) [] [] (0 ∷ 1 ∷ 2 ∷ 3 ∷ []) call_sweep (freed 0) (0 ∷ 1 ∷ 2 ∷ 3 ∷ []) true

abbrev pub waiting_held : Case
waiting_held = case 5 (called ++ call_run 4 ∷ []) [] [] (0 ∷ 1 ∷ []) call_sweep (freed 0) (0 ∷ 1 ∷ []) true

abbrev pub taken_again : Case
taken_again = case 6 (loaded ++ quoted 2 ++ call_start 0 1 10 20 7 ∷ call_sweep ∷ call_start 1 1 10 20 7 ∷ []) [] [] (0 ∷ 2 ∷ []) call_sweep (freed 0) (0 ∷ 2 ∷ []) true

unfoldable pub sweeps : List Case
sweeps =
    -- after a boot
    booted
    -- a cycle that nobody reaches goes; this, object 0, stays
    ∷ case 2 (cycle ++ call_run 14 ∷ []) [] [] (0 ∷ 1 ∷ 2 ∷ []) call_sweep (freed 2) (0 ∷ []) false
    -- a cycle that a local reaches stays
    ∷ cycle_held
    -- a field of a field stays, and goes with what names it
    ∷ row_held
    ∷ case 3 (row ++ call_run 16 ∷ call_drop 0 ∷ []) [] [] (0 ∷ 1 ∷ 2 ∷ 3 ∷ []) call_sweep (freed 4) [] false
    -- what the report alone reaches stays
    ∷ case 4 (loaded ++ call_start 0 1 10 20 7 ∷ call_drop 0 ∷ call_start 1 1 10 20 7 ∷ []) [] [] (0 ∷ 1 ∷ []) call_sweep (freed 1) (1 ∷ []) false
    -- what a lower frame's operand names stays
    ∷ waiting_held
    -- the lowest number is taken again: objects 0 and 1 are freed, and the report's is number 0
    ∷ taken_again
    -- 256 objects: full; all are freed, and there is room again
    ∷ case 7 (loaded ++ quoted 256) [] [] (up_from 0 256) (call_start 0 1 10 20 7) (no 10) (up_from 0 256) true
    ∷ case 7 (loaded ++ quoted 256) [] [] (up_from 0 256) call_sweep (freed 256) [] false
    ∷ case 7 (loaded ++ quoted 256 ++ call_sweep ∷ []) [] [] [] (call_start 0 1 10 20 7) fine (0 ∷ []) false
    ∷ []

-- a sweep that frees none leaves the rows as they were, where no load can be taken back

unfoldable pub freed_in : Rows → ℕ
freed_in r = freed_from (reached r.objects (r.quote ++ r.report)) 0 r.objects

leaves : (r : Rows) → freed_in r ≡ 0 → r.trace ≡ [] → (perform_rows call_sweep r).rows ≡ r
unfolding freed_in perform_rows on_rows settle sweep_rows
leaves r z e = λ i. with_trace (sym e i) (with_objects (none-freed (reached r.objects (r.quote ++ r.report)) 0 r.objects z i) r)

pub unfreed : (c : Case) → c.last ≡ call_sweep → freed_in (rows_before c) ≡ 0 → (rows_before c).trace ≡ [] → rows_after c ≡ rows_before c
unfolding rows_after
unfreed c e z t = ap (λ (d : Call). (perform_rows d (rows_before c)).rows) e ∙ leaves (rows_before c) z t

swept : Computed sweeps
unfolding freed_in sweeps node make link clear running cycle row called quoted up_from rows_before rows_after answered_rows size accepted ends_in is_some signed less shown number number_of_step number_of refusal_details step_details details ◌>>=◌ need take? define_rows entry_trace record_rows start_rows drop_rows answer_of step_task step_on step_rows turn_of turn find lower super_of loader_of own_slots slots_in slots slot_is has_field same_signature alike methods_of has_method selected tie_edges subtype_edges edges pair_agrees row_agrees agrees_over agrees tie_is new_tie new_ties signature_ties agrees_after post byte short name count fields_in one_in arguments_in signature_in names_in map_in maps_from maps_in methods_in ends same_field same_method read_file pick opcode_of inline_length short_at extend instruction_of sized_as decode every all any doubled index_of is_none to_list same_list filled subtype_is new_subtypes override_tie override_ties define recorded started existing initial_value new_object pop! pop_all! int! reference! kind! kinds! room! object! now under! give execute step Maybe.◌>>=◌ Maybe.need same_request has fires rest grow reach_from reach leads seek nearest below file_at class_at type_of_name meet_class meet_int meets pop pop_all is_named effect returns target goes_on map_at local_type meet_local meet_all meet_map flow_into flow_to_target start_at after Verifier.turn maps_past verify types_at unmapped_from unmapped notes_of settle on_rows run_rows perform_rows perform_all_rows two method file_of plain file_f taker coded lifts pushes ready tied12 tied123 of_kind! compute jumps meet_kind return_kind notes_of_method unused made roomless share_used made_by rewritten changed object_held in_use numbers_from named roots links_from reached swept_from freed_from sweep_rows
swept = record {
  answers = refl;
  prepared = refl;
  ties = refl;
  subtypes = refl;
  objects = refl;
  left = refl;
  stays = (
    same (inr (unfreed booted refl refl refl)),
    (
      other refl,
      (
        same (inr (unfreed cycle_held refl refl refl)),
        (
          same (inr (unfreed row_held refl refl refl)),
          (other refl, (other refl, (same (inr (unfreed waiting_held refl refl refl)), (same (inr (unfreed taken_again refl refl refl)), (same (inl refl), (other refl, (other refl, tt))))))),
        ),
      ),
    ),
  );
  steps = (tt, (tt, (tt, (tt, (tt, (tt, (tt, (tt, (tt, (tt, (tt, tt)))))))))));
}

-- from a boot of any tables that boot accepts
pub sweep-cases : (t : Tables) → (boot t).answer ≡ Accepted → Right sweeps t
sweep-cases t a = right sweeps swept t a
