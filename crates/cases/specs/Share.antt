-- Room kept for quotes: worked cases, on tables that show so many objects of each task. Class 10 of loader 1 has method 20, which makes an object and then another.
use Rattle.std.specs.Prelude.{◌≡◌, refl, Bool, true, false, not, List, [], ◌∷◌, ◌++◌, map, ℕ, zero, suc, eqb}
use Rattle.std.proofs.Common.{ap, ◌∙◌}
use Rattle.definition.specs.Lists.{every, all, all_from, any, doubled, index_of, is_some, is_none, to_list, same_list, filled, rows}
use Rattle.definition.specs.Maybe as Maybe
use Rattle.definition.specs.Chains.{has, fires, rest, grow, reach_from, reach, leads}
use Rattle.definition.specs.Requests.{same_request}
use Rattle.definition.specs.declared.Reply.{Reply}
use Rattle.definition.specs.Answers.{ends_in, number, number_of_step, number_of, ◌>>=◌, need, take?}
use Rattle.definition.specs.Superclasses.{seek, nearest, below}
use Rattle.definition.specs.Classes.{find, lower, super_of, loader_of, own_slots, slots_in, slots, slot_is, has_field, same_signature, alike, methods_of, has_method, selected, is_named}
use Rattle.definition.specs.Constraints.{tie_edges, subtype_edges, edges, pair_agrees, row_agrees, agrees_over, agrees, tie_is, new_tie, new_ties, signature_ties, agrees_after, post}
use Rattle.definition.specs.File.{byte, short, name, count, fields_in, one_in, arguments_in, signature_in, names_in, map_in, maps_from, maps_in, methods_in, ends, same_field, same_method, read_file}
use Rattle.definition.specs.Instructions.{pick, opcode_of, inline_length, short_at, extend, instruction_of, sized_as, decode}
use Rattle.definition.specs.Verifier.{type_of_name, meet_class, meet_int, meets, meet_kind, pop, pop_all, effect, returns, return_kind, target, goes_on, map_at, local_type, meet_local, meet_all, meet_map, flow_into, flow_to_target, start_at, after, maps_past, verify, types_at, unmapped_from, unmapped, notes_of_method, notes_of}
use Rattle.definition.specs.Verifier as Verifier
use Rattle.definition.specs.Machine.{free, owned, Objects, object_held, existing, in_use, unused, made, roomless, share_used, made_by, rewritten, changed, initial_value, new_object, pop!, pop_all!, int!, reference!, of_kind!, kind!, kinds!, compute, jumps, room!, object!, now, under!, give, execute, step}
use Rattle.definition.specs.Loading.{subtype_is, new_subtypes, override_tie, override_ties, define, recorded, started}
use Rattle.definition.specs.Sweeping.{named, roots, links_from, reached, swept_from, freed_from}
use Rattle.definition.specs.Tables.{Tables, shaped, Rows, with_objects, file_at, class_at, view}
use Rattle.definition.specs.Broken.{within, is_object, class_fits, classes_fit, entry_fits, tie_fits, subtype_fits, value_fits, local_fits, object_fits, frame_fits, next, others, in_turn, numbered, sound, trace_fits, whole, broken}
use Rattle.definition.specs.Calls.{closed, numbered_on, Call, call_define, call_start, call_run, call_step, call_drop, call_sweep, boot_rows, turn, turn_of, define_rows, entry_trace, record_rows, start_rows, drop_rows, sweep_rows, answer_of, step_task, step_on, step_rows, perform, perform_all}
use Rattle.definition.specs.Computing.OnRows.{settle, on_rows, run_rows, perform_rows, perform_all_rows}
use Rattle.definition.specs.Computing.Samples.{file_f, two, method, file_of, plain, taker, coded, lifts, pushes, ready, tied12, tied123}
use Rattle.layout.specs.Tests.{All}
use Rattle.layout.specs.GroupedRows.{no-ties-grouped}
use Rattle.unbroken.specs.OnRows.{Shows, same-perform, same-all}

-- so many objects of task k, and so many free rows
unfoldable pub of : ℕ → ℕ → Objects
of k zero = []
of k (suc n) = owned k (record { class = 0; values = [] }) ∷ of k n

unfoldable pub unowned : ℕ → Objects
unowned zero = []
unowned (suc n) = free ∷ unowned n

-- class 10 is loaded, these are the objects, and no load can be taken back: what made an object closed it
unfoldable pub holding : Objects → Rows
holding os = closed (with_objects os (perform_all_rows (ready ++ call_define 1 (coded (0xBB ∷ 0 ∷ 10 ∷ 0x3A ∷ 2 ∷ 0xBB ∷ 0 ∷ 10 ∷ 0x3A ∷ 3 ∷ 0x11 ∷ 0 ∷ 0 ∷ 0xAC ∷ [])) ∷ []) boot_rows).rows)

-- objects, calls that go before, the call that is shown, and the word that it is refused with or that its run ends in, 0 if none
pub record ShareCase : Type 0 where
  pub objects : Objects
  pub before : List Call
  pub last : Call
  pub word : ℕ

abbrev shows : Objects → List Call → Call → ℕ → ShareCase
shows os cs c w = record { objects = os; before = cs; last = c; word = w }

abbrev starts : ℕ → Call
starts k = call_start k 1 10 20 7

unfoldable pub shares : List ShareCase
shares =
    -- 192 of the report: its start is refused; with 191 it isn't
    shows (of 1 192) [] (starts 1) 18
    ∷ shows (of 1 191) [] (starts 1) 0
    -- 18 before 10, and the quote is told 10 with 64 of its own
    ∷ shows (of 1 192 ++ of 0 64) [] (starts 1) 18
    ∷ shows (of 1 192 ++ of 0 64) [] (starts 0) 10
    -- the report is told 10 with fewer than 192
    ∷ shows (of 1 191 ++ of 0 65) [] (starts 1) 10
    -- neither the quote's objects nor free rows count
    ∷ shows (of 0 200 ++ of 1 2 ++ unowned 50) [] (starts 1) 0
    -- a drop gives nothing back, a sweep does
    ∷ shows (of 1 192) (call_drop 1 ∷ []) (starts 1) 18
    ∷ shows (of 1 192) (call_sweep ∷ []) (starts 1) 0
    -- 3, 12, 5 and 7 come first
    ∷ shows (of 1 192) [] (call_start 1 16 10 20 7) 3
    ∷ shows (of 1 191) (starts 1 ∷ []) (starts 1) 12
    ∷ shows (of 1 192) [] (call_start 1 1 11 20 7) 5
    ∷ shows (of 1 192) [] (call_start 1 1 10 21 7) 7
    -- new: the report's, the quote's beside as many, and a run that makes the last of the share
    ∷ shows (of 1 191) (starts 1 ∷ []) call_step 18
    ∷ shows (of 1 192) (starts 0 ∷ []) call_step 0
    ∷ shows (of 1 190) (starts 1 ∷ []) (call_run 4) 18
    ∷ []

unfoldable pub told : Reply → ℕ
told a = elim (eqb (number_of a) 0) [ true ↦ ends_in a | false ↦ number_of a ]

unfoldable pub told_rows : ShareCase → ℕ
told_rows c = told (perform_rows c.last (perform_all_rows c.before (holding c.objects)).rows).answer

record Computed : Type 0 where
  told : map told_rows shares ≡ map (λ c. c.word) shares
  whole : map (λ c. sound (holding c.objects)) shares ≡ map (λ _. true) shares
  few : sound (holding (of 1 192)) ≡ true
  many : sound (holding (of 1 193)) ≡ false
  quotes : sound (holding (of 0 256)) ≡ true
  untied : (os : Objects) → (holding os).ties ≡ []

computed : Computed
unfolding of unowned holding shares told told_rows is_object class_fits classes_fit entry_fits tie_fits subtype_fits value_fits local_fits object_fits frame_fits next others in_turn numbered sound all_from ends_in is_some number number_of_step number_of ◌>>=◌ need take? define_rows entry_trace record_rows start_rows drop_rows answer_of step_task step_on step_rows turn_of turn find lower super_of loader_of own_slots slots_in slots slot_is has_field same_signature alike methods_of has_method selected tie_edges subtype_edges edges pair_agrees row_agrees agrees_over agrees tie_is new_tie new_ties signature_ties agrees_after post byte short name count fields_in one_in arguments_in signature_in names_in map_in maps_from maps_in methods_in ends same_field same_method read_file pick opcode_of inline_length short_at extend instruction_of sized_as decode every all any doubled index_of is_none to_list same_list filled subtype_is new_subtypes override_tie override_ties define recorded started existing initial_value new_object pop! pop_all! int! reference! kind! kinds! room! object! now under! give execute step Maybe.◌>>=◌ Maybe.need same_request has fires rest grow reach_from reach leads seek nearest below file_at class_at type_of_name meet_class meet_int meets pop pop_all is_named effect returns target goes_on map_at local_type meet_local meet_all meet_map flow_into flow_to_target start_at after Verifier.turn maps_past verify types_at unmapped_from unmapped notes_of settle on_rows run_rows perform_rows perform_all_rows two method file_of plain file_f taker coded lifts pushes ready tied12 tied123 of_kind! compute jumps meet_kind return_kind notes_of_method unused made roomless share_used made_by rewritten changed object_held in_use named roots links_from reached swept_from freed_from sweep_rows numbered_on rows
computed = record { told = refl; whole = refl; few = refl; many = refl; quotes = refl; untied = λ os. refl }

-- On tables of the published lengths, with counts within their limits, that show these rows

unfoldable pub told_on : Tables → ShareCase → ℕ
told_on t c = told (perform c.last (perform_all c.before t).tables).answer

broken-is : (t : Tables) → shaped t ≡ true → within t.counts ≡ true → (os : Objects) → view t ≡ holding os → (b : Bool) → sound (holding os) ≡ b → broken t ≡ not b
unfolding broken whole every holding trace_fits
broken-is t s w os e b h = rw (s, w, no-ties-grouped t (ap (λ (r : Rows). r.ties) e ∙ computed.untied os), e, h) (go b)
  where
    go : (b : Bool) → not (every (b ∷ true ∷ true ∷ [])) ≡ not b
    go true = refl
    go false = refl

on-rows : (t : Tables) → shaped t ≡ true → within t.counts ≡ true → (c : ShareCase) → sound (holding c.objects) ≡ true → view t ≡ holding c.objects → told_on t c ≡ told_rows c
unfolding told_on told_rows
on-rows t s w c h e =
    let shown : Shows t (holding c.objects) = record { unbroken = broken-is t s w c.objects e true h; rows = e } in
    ap told (same-perform c.last _ _ (same-all c.before t (holding c.objects) shown).1).0

-- each case's word is told; and 192 of the report aren't too many, 193 are, nor are 256 of the quote
pub record ShareRight (t : Tables) : Type 0 where
  pub words : All (λ c. view t ≡ holding c.objects → told_on t c ≡ c.word) shares
  pub few : view t ≡ holding (of 1 192) → broken t ≡ false
  pub many : view t ≡ holding (of 1 193) → broken t ≡ true
  pub quotes : view t ≡ holding (of 0 256) → broken t ≡ false

head : {A : Type 0} → A → List A → A
head a [] = a
head a (x ∷ xs) = x

tail : {A : Type 0} → List A → List A
tail [] = []
tail (x ∷ xs) = xs

pub share-cases : (t : Tables) → shaped t ≡ true → within t.counts ≡ true → ShareRight t
unfolding head tail
share-cases t s w = record {
  words = each shares computed.told computed.whole;
  few = λ e. broken-is t s w _ e true computed.few;
  many = λ e. broken-is t s w _ e false computed.many;
  quotes = λ e. broken-is t s w _ e true computed.quotes;
}
  where
    each : (cs : List ShareCase) → map told_rows cs ≡ map (λ c. c.word) cs → map (λ c. sound (holding c.objects)) cs ≡ map (λ _. true) cs
        → All (λ c. view t ≡ holding c.objects → told_on t c ≡ c.word) cs
    each [] p q = tt
    each (c ∷ cs) p q = ((λ e. on-rows t s w c (ap (head true) q) e ∙ ap (head 0) p), each cs (ap tail p) (ap tail q))
