-- Groups beside the ties, paper 11: of ties and numbers as any store may hold them which groups are right, and which that are wrong make it broken; and which groups
-- a list of calls after a boot leaves, from a boot of any tables that boot accepts.
use Rattle.std.specs.Prelude.{◌≡◌, refl, Bool, true, false, ℕ}
use Rattle.std.proofs.Common.{sym, ◌∙◌, true≢false}
use Rattle.std.proofs.Math.Path.{ap}
use mathlib.Core.List.{List, [], ◌∷◌, ◌++◌, map}
use Rattle.definition.specs.declared.Reply.TheVariants.{Accepted}
use Rattle.definition.specs.Groups.{numbers_of_ties, lesser, lowest, group_of, cell_of, groups_of}
use Rattle.definition.specs.Tables.{Tables, Rows, tie, cut_to, view, file_at, class_at}
use Rattle.definition.specs.Broken.{groups_in, grouped, broken}
use Rattle.definition.specs.Calls.{boot, Call, call_define, call_record, call_start, call_step, call_take_back, boot_rows, numbered_on, perform_all, try_rows, tried_with, taken_back, turn, turn_of, define_rows, entry_trace, record_rows, start_rows, drop_rows, sweep_rows, answer_of, step_task, step_on, step_rows}
use Rattle.definition.specs.Answers.{number, number_of_step, number_of, ◌>>=◌, need, take?}
use Rattle.layout.specs.Tests.{All}
use Rattle.unbroken.specs.OnRows.{accepted-shaped, same-booted}
use Rattle.laws.specs.Members.{list_same}
use Rattle.unbroken.specs.Groups.{groups-right}
use Rattle.definition.specs.Lists.{every, all, any, doubled, index_of, is_none, to_list, same_list, filled, rows}
use Rattle.definition.specs.Maybe as Maybe
use Rattle.definition.specs.Chains.{has, fires, rest, grow, reach_from, reach, leads}
use Rattle.definition.specs.Requests.{same_request}
use Rattle.definition.specs.Superclasses.{seek, nearest, below}
use Rattle.definition.specs.Classes.{find, lower, super_of, loader_of, own_slots, slots_in, slots, slot_is, has_field, same_signature, alike, methods_of, has_method, selected, is_named}
use Rattle.definition.specs.Constraints.{Tie, tie_edges, subtype_edges, edges, pair_agrees, row_agrees, agrees_over, agrees, tie_is, new_tie, new_ties, signature_ties, agrees_after, post}
use Rattle.definition.specs.File.{byte, short, name, count, fields_in, one_in, arguments_in, signature_in, names_in, map_in, maps_from, maps_in, methods_in, ends, same_field, same_method, read_file}
use Rattle.definition.specs.Instructions.{pick, opcode_of, inline_length, short_at, extend, instruction_of, sized_as, decode}
use Rattle.definition.specs.Verifier.{type_of_name, meet_class, meet_int, meets, meet_kind, pop, pop_all, effect, returns, return_kind, target, goes_on, map_at, local_type, meet_local, meet_all, meet_map, flow_into, flow_to_target, start_at, after, maps_past, verify, types_at, unmapped_from, unmapped, notes_of_method, notes_of}
use Rattle.definition.specs.Verifier as Verifier
use Rattle.definition.specs.Machine.{object_held, existing, in_use, unused, made, roomless, share_used, made_by, rewritten, changed, initial_value, new_object, pop!, pop_all!, int!, reference!, of_kind!, kind!, kinds!, compute, jumps, room!, object!, now, under!, give, execute, step}
use Rattle.definition.specs.Loading.{subtype_is, new_subtypes, override_tie, override_ties, define, recorded, started}
use Rattle.definition.specs.Sweeping.{named, roots, links_from, reached, swept_from, freed_from}
use Rattle.definition.specs.Computing.OnRows.{settle, on_rows, run_rows, perform_rows, perform_all_rows}
use Rattle.definition.specs.Computing.Samples.{file_f, two, method, file_of, plain, taker, coded, lifts, ready, tied12, tied123}

-- ties with their numbers, the groups that are right, and some that are wrong
pub record GroupCase : Type 0 where
  pub ties : List Tie
  pub numbers : List ℕ
  pub right : List ℕ
  pub wrong : List (List ℕ)

abbrev grouping : List Tie → List ℕ → List ℕ → List (List ℕ) → GroupCase
grouping ts ns r ws = record { ties = ts; numbers = ns; right = r; wrong = ws }

unfoldable pub groupings : List GroupCase
groupings =
    -- no tie, and one
    grouping [] [] [] []
    ∷ grouping (tie 1 2 12 ∷ []) (0 ∷ []) (0 ∷ []) ((1 ∷ []) ∷ [])
    -- a chain: the right partition under the higher number, a group split
    ∷ grouping (tie 1 2 12 ∷ tie 2 3 12 ∷ []) (0 ∷ 1 ∷ []) (0 ∷ 0 ∷ []) ((1 ∷ 1 ∷ []) ∷ (0 ∷ 1 ∷ []) ∷ (1 ∷ 0 ∷ []) ∷ [])
    -- two groups under one number, or each under the other's
    ∷ grouping (tie 1 2 12 ∷ tie 3 4 12 ∷ []) (0 ∷ 1 ∷ []) (0 ∷ 1 ∷ []) ((0 ∷ 0 ∷ []) ∷ (1 ∷ 1 ∷ []) ∷ (1 ∷ 0 ∷ []) ∷ [])
    -- one name under two loaders isn't another's
    ∷ grouping (tie 1 2 12 ∷ tie 1 2 13 ∷ []) (0 ∷ 1 ∷ []) (0 ∷ 1 ∷ []) ((0 ∷ 0 ∷ []) ∷ [])
    -- subtype constraints 0 and 2 stand between: the row's place is not its number, and theirs is no tie's
    ∷ grouping (tie 1 2 12 ∷ tie 2 3 12 ∷ []) (1 ∷ 3 ∷ []) (1 ∷ 1 ∷ []) ((0 ∷ 0 ∷ []) ∷ (2 ∷ 2 ∷ []) ∷ (3 ∷ 3 ∷ []) ∷ [])
    -- the last joins the others: the groups that were before it, and its own number
    ∷ grouping (tie 1 2 12 ∷ tie 3 4 12 ∷ tie 2 3 12 ∷ []) (0 ∷ 1 ∷ 2 ∷ []) (0 ∷ 0 ∷ 0 ∷ []) ((0 ∷ 1 ∷ 0 ∷ []) ∷ (0 ∷ 1 ∷ 1 ∷ []) ∷ (0 ∷ 1 ∷ 2 ∷ []) ∷ (2 ∷ 2 ∷ 2 ∷ []) ∷ [])
    -- by its other end alone
    ∷ grouping (tie 1 2 12 ∷ tie 3 2 12 ∷ []) (0 ∷ 1 ∷ []) (0 ∷ 0 ∷ []) ((0 ∷ 1 ∷ []) ∷ [])
    ∷ grouping (tie 5 6 12 ∷ tie 3 4 12 ∷ tie 1 2 12 ∷ tie 2 3 12 ∷ tie 4 5 12 ∷ []) (0 ∷ 1 ∷ 2 ∷ 3 ∷ 4 ∷ []) (0 ∷ 0 ∷ 0 ∷ 0 ∷ 0 ∷ []) ((0 ∷ 1 ∷ 1 ∷ 1 ∷ 0 ∷ []) ∷ [])
    -- damaged rows count like others: equal loaders, int, a tie twice, and turned
    ∷ grouping (tie 1 1 12 ∷ tie 1 2 12 ∷ []) (0 ∷ 1 ∷ []) (0 ∷ 0 ∷ []) ((0 ∷ 1 ∷ []) ∷ [])
    ∷ grouping (tie 1 1 12 ∷ tie 2 2 12 ∷ []) (0 ∷ 1 ∷ []) (0 ∷ 1 ∷ []) ((0 ∷ 0 ∷ []) ∷ [])
    ∷ grouping (tie 1 2 1 ∷ tie 2 3 1 ∷ []) (0 ∷ 1 ∷ []) (0 ∷ 0 ∷ []) ((0 ∷ 1 ∷ []) ∷ [])
    ∷ grouping (tie 1 2 12 ∷ tie 1 2 12 ∷ tie 2 1 12 ∷ []) (0 ∷ 1 ∷ 2 ∷ []) (0 ∷ 0 ∷ 0 ∷ []) ((0 ∷ 1 ∷ 0 ∷ []) ∷ (0 ∷ 0 ∷ 2 ∷ []) ∷ [])
    ∷ []

right-made : map (λ c. groups_of c.ties c.numbers) groupings ≡ map (λ c. c.right) groupings
unfolding groupings numbers_of_ties lesser lowest group_of cell_of groups_of has fires rest grow reach_from reach same_request tie_edges pick
right-made = refl

wrong-told : map (λ c. map (λ gs. same_list gs c.right) c.wrong) groupings ≡ map (λ c. map (λ _. false) c.wrong) groupings
unfolding groupings same_list
wrong-told = refl

-- On tables that show these ties and numbers

abbrev head : {A : Type 0} → A → List A → A
head a [] = a
head a (x ∷ xs) = x

abbrev tail : {A : Type 0} → List A → List A
tail [] = []
tail (x ∷ xs) = xs

module _ (t : Tables) where
  abbrev Shown : GroupCase → Type 0
  Shown c = ((view t).ties ≡ c.ties) × ((view t).numbers.ties ≡ c.numbers)

  -- the right groups pass, and where the tables aren't broken they are there; with wrong ones the tables are broken
  pub record GroupRight (c : GroupCase) : Type 0 where
    pub pass : groups_in t ≡ c.right → grouped t ≡ true
    pub there : broken t ≡ false → groups_in t ≡ c.right
    pub wrong : All (λ gs. groups_in t ≡ gs → broken t ≡ true) c.wrong

  case-right : (c : GroupCase) → groups_of c.ties c.numbers ≡ c.right → map (λ gs. same_list gs c.right) c.wrong ≡ map (λ _. false) c.wrong → Shown c → GroupRight c
  case-right c e f s = record {
    pass = λ g. same-grouped (g ∙ sym made);
    there = λ h. groups-right t h ∙ made;
    wrong = each c.wrong f;
  }
    where
      made : groups_of (view t).ties (view t).numbers.ties ≡ c.right
      made = (λ i. groups_of (s.0 i) (s.1 i)) ∙ e

      same-grouped : groups_in t ≡ groups_of (view t).ties (view t).numbers.ties → grouped t ≡ true
      same-grouped q = unfold grouped in ap (λ (gs : List ℕ). same_list gs (groups_of (view t).ties (view t).numbers.ties)) q ∙ list_same (groups_of (view t).ties (view t).numbers.ties)

      one : (gs : List ℕ) → same_list gs c.right ≡ false → groups_in t ≡ gs → (b : Bool) → broken t ≡ b → broken t ≡ true
      one gs x q true z = z
      one gs x q false z = absurd (true≢false (sym (list_same c.right) ∙ (ap (λ (xs : List ℕ). same_list xs c.right) (sym (groups-right t z ∙ made) ∙ q) ∙ x)))

      each : (ws : List (List ℕ)) → map (λ gs. same_list gs c.right) ws ≡ map (λ _. false) ws → All (λ gs. groups_in t ≡ gs → broken t ≡ true) ws
      each [] p = tt
      each (gs ∷ ws) p = ((λ q. one gs (ap (head true) p) q (broken t) refl), each ws (ap tail p))

  pub group-cases : All (λ c. Shown c → GroupRight c) groupings
  group-cases = each groupings right-made wrong-told
    where
      each : (cs : List GroupCase) → map (λ c. groups_of c.ties c.numbers) cs ≡ map (λ c. c.right) cs
          → map (λ c. map (λ gs. same_list gs c.right) c.wrong) cs ≡ map (λ c. map (λ _. false) c.wrong) cs → All (λ c. Shown c → GroupRight c) cs
      each [] p q = tt
      each (c ∷ cs) p q = (case-right c (ap (head []) p) (ap (head []) q), each cs (ap tail p) (ap tail q))

-- Lists of calls after a boot: the groups that they leave

pub record CallsCase : Type 0 where
  pub calls : List Call
  pub groups : List ℕ

abbrev leaves : List Call → List ℕ → CallsCase
leaves cs gs = record { calls = cs; groups = gs }

-- ties 1–2 and 3–4 on 12; then loader 3 overrides a class of loader 2, which joins them
unfoldable pub apart : List Call
apart = ready ++ call_record 4 2 0 ∷ call_define 1 (taker 40 2) ∷ call_record 2 40 1 ∷ call_define 2 (taker 41 40) ∷ call_define 3 (taker 43 2) ∷ call_record 4 43 3 ∷ call_define 4 (taker 44 43) ∷ call_record 3 41 2 ∷ []

unfoldable pub joining : Call
joining = call_define 3 (taker 45 41)

-- loader 4 calls the method of loader 2's class, with null for its 12: the third step ties 4 and 2
unfoldable pub calling : List Call
calling = call_record 4 41 2 ∷ call_define 4 (file_of 46 2 1 (method 20 1 1 ((0xBB ∷ two 41) ++ (0x01 ∷ 0xB6 ∷ two 41) ++ two 30 ++ two 12 ++ two 1 ++ (0xAC ∷ [])))) ∷ call_start 0 4 46 20 7 ∷ call_step ∷ call_step ∷ []

unfoldable pub group_calls : List CallsCase
group_calls =
    leaves ready []
    ∷ leaves tied12 (0 ∷ [])
    ∷ leaves tied123 (0 ∷ 0 ∷ [])
    -- a tie behind a subtype constraint
    ∷ leaves (call_record 1 2 0 ∷ call_define 1 lifts ∷ call_record 2 2 0 ∷ call_define 1 (taker 40 2) ∷ call_record 2 40 2 ∷ call_define 2 (taker 41 40) ∷ []) (1 ∷ [])
    -- two groups; joined they have the lower number; taken back they part; and again
    ∷ leaves apart (0 ∷ 1 ∷ [])
    ∷ leaves (apart ++ joining ∷ []) (0 ∷ 0 ∷ 0 ∷ [])
    ∷ leaves (apart ++ joining ∷ call_take_back ∷ []) (0 ∷ 1 ∷ [])
    ∷ leaves (apart ++ joining ∷ call_take_back ∷ joining ∷ []) (0 ∷ 0 ∷ 0 ∷ [])
    -- a step joins them
    ∷ leaves (apart ++ calling) (0 ∷ 1 ∷ [])
    ∷ leaves (apart ++ calling ++ call_step ∷ []) (0 ∷ 0 ∷ 0 ∷ [])
    ∷ []

computed : map (λ c. groups_of (perform_all_rows c.calls boot_rows).rows.ties (perform_all_rows c.calls boot_rows).rows.numbers.ties) group_calls ≡ map (λ c. c.groups) group_calls
unfolding group_calls apart calling joining lifts numbered_on numbers_of_ties lesser lowest group_of cell_of groups_of recorded number number_of_step number_of ◌>>=◌ need take? define_rows entry_trace record_rows start_rows drop_rows answer_of step_task step_on step_rows turn_of turn find lower super_of loader_of own_slots slots_in slots slot_is has_field same_signature alike methods_of has_method selected tie_edges subtype_edges edges pair_agrees row_agrees agrees_over agrees tie_is new_tie new_ties signature_ties agrees_after post byte short name count fields_in one_in arguments_in signature_in names_in map_in maps_from maps_in methods_in ends same_field same_method read_file pick opcode_of inline_length short_at extend instruction_of sized_as decode every all any doubled index_of is_none to_list same_list filled subtype_is new_subtypes override_tie override_ties define started existing initial_value new_object pop! pop_all! int! reference! kind! kinds! room! object! now under! give execute step Maybe.◌>>=◌ Maybe.need same_request has fires rest grow reach_from reach leads seek nearest below file_at class_at type_of_name meet_class meet_int meets pop pop_all is_named effect returns target goes_on map_at local_type meet_local meet_all meet_map flow_into flow_to_target start_at after Verifier.turn maps_past verify types_at unmapped_from unmapped notes_of settle on_rows run_rows perform_rows perform_all_rows two method file_of plain taker ready tied12 tied123 of_kind! compute jumps meet_kind return_kind notes_of_method unused made roomless share_used made_by rewritten changed object_held in_use named roots links_from reached swept_from freed_from sweep_rows file_f taken_back cut_to try_rows tried_with rows coded
computed = refl

pub groups-left : (t : Tables) → (boot t).answer ≡ Accepted → map (λ c. groups_in (perform_all c.calls (boot t).tables).tables) group_calls ≡ map (λ c. c.groups) group_calls
groups-left t h = each group_calls ∙ computed
  where
    each : (cs : List CallsCase) → map (λ c. groups_in (perform_all c.calls (boot t).tables).tables) cs
        ≡ map (λ c. groups_of (perform_all_rows c.calls boot_rows).rows.ties (perform_all_rows c.calls boot_rows).rows.numbers.ties) cs
    each [] = refl
    each (c ∷ cs) =
        let s = (same-booted c.calls t (accepted-shaped t h)).1 in
        let e = groups-right (perform_all c.calls (boot t).tables).tables s.unbroken ∙ ap (λ (r : Rows). groups_of r.ties r.numbers.ties) s.rows in
        λ i. e i ∷ each cs i
