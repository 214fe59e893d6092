-- How could this load, paper 14: a box by the calls that lead to it from a boot, a wanted request, offers, what a search answers, and what it leaves of the second
-- store; from a boot of any tables that boot accepts, with any second store of the published lengths.
use Rattle.std.specs.Prelude.{◌≡◌, Bool, false, not, ◌&&◌, List, [], ◌∷◌, ◌++◌, map, ℕ, ◌+◌, length, replicate, ltb}
use Rattle.std.proofs.Math.Path.{refl, ap}
use Rattle.std.proofs.Common.{◌∙◌}
use Rattle.std.proofs.Math.Bool.{true}
use Rattle.std.proofs.Math.Option.{Option, none, some}
use Rattle.std.proofs.Math.Dec.{leb}
use Rattle.definition.specs.declared.Refusal.TheVariants.{Word}
use Rattle.definition.specs.declared.Reply.TheVariants.{Accepted}
use Rattle.definition.specs.Lists.{every, all, any, doubled, index_of, is_some, is_none, to_list, same_list, filled, rows}
use Rattle.definition.specs.Maybe as Maybe
use Rattle.definition.specs.Chains.{has, fires, rest, grow, reach_from, reach, leads}
use Rattle.definition.specs.Requests.{at, same_request}
use Rattle.definition.specs.Answers.{number, number_of, ◌>>=◌, need, take?}
use Rattle.definition.specs.Superclasses.{seek, nearest, below}
use Rattle.definition.specs.Classes.{find, lower, super_of, loader_of, own_slots, slots_in, slots, slot_is, has_field, same_signature, alike, methods_of, has_method, selected, is_named}
use Rattle.definition.specs.Constraints.{tie_edges, subtype_edges, edges, pair_agrees, row_agrees, agrees_over, agrees, tie_is, new_tie, new_ties, signature_ties, agrees_after, post}
use Rattle.definition.specs.File.{byte, short, name, count, fields_in, one_in, arguments_in, signature_in, names_in, map_in, maps_from, maps_in, methods_in, ends, same_field, same_method, read_file}
use Rattle.definition.specs.Instructions.{pick, opcode_of, inline_length, short_at, extend, instruction_of, sized_as, decode}
use Rattle.definition.specs.Verifier.{type_of_name, meet_class, meet_int, meets, meet_kind, pop, pop_all, effect, returns, return_kind, target, goes_on, map_at, local_type, meet_local, meet_all, meet_map, flow_into, flow_to_target, start_at, after, maps_past, verify, types_at, unmapped_from, unmapped, notes_of_method, notes_of}
use Rattle.definition.specs.Verifier as Verifier
use Rattle.definition.specs.Loading.{subtype_is, new_subtypes, override_tie, override_ties, define, recorded}
use Rattle.definition.specs.Tables.{Tables, shaped, Rows, view, file_at, class_at}
use Rattle.definition.specs.Broken.{broken}
use Rattle.definition.specs.Calls.{Call, call_define, call_record, Load, load_define, load_record, numbered_on, boot_rows, boot, perform_all, define_rows, entry_trace, record_rows}
use Rattle.definition.specs.Offers.{offer_of, offer_at, offers_from, offers_in, loaded, except, first_some, loaded_at, order_of, fewest, order}
use Rattle.definition.specs.Searching.{Sought, found, not_found, denied_search, Searched, calls_of, sought, settled, search}
use Rattle.definition.specs.Computing.OnRows.{settle, on_rows, perform_rows, perform_all_rows}
use Rattle.definition.specs.Computing.Samples.{two, method, file_of, plain, taker, lifts, ready, tied12}
use Rattle.unbroken.specs.Searched.{sought-by, second-fails, third}
use Rattle.unbroken.specs.OnRows.{Shows, accepted-shaped, same-booted, same-all}
use Rattle.cases.specs.TakenBack.{left_of, loads34, recorded! }

-- what goes before, the loader and the name that are wanted, the offers' cells and bytes, what is answered; and what the second store then has, as in `TakenBack`: classes,
-- kept bytes, entries, ties, subtype constraints, loads that can be taken back, and the numbers of constraints. A refused search leaves it, whatever it holds: nothing is said.
pub record SearchCase : Type 0 where
  pub before : List Call
  pub loader : ℕ
  pub name : ℕ
  pub cells : List ℕ
  pub files : List ℕ
  pub answer : Sought
  pub left : List ℕ

-- loads as offers: their files one behind the other, from byte k on

unfoldable pub cells_of : ℕ → List Load → List ℕ
cells_of k [] = []
cells_of k (load_define l bs ∷ cs) = 1 ∷ l ∷ k ∷ length bs ∷ cells_of (k + length bs) cs
cells_of k (load_record l n c ∷ cs) = 2 ∷ l ∷ n ∷ c ∷ cells_of k cs

unfoldable pub files_of : List Load → List ℕ
files_of [] = []
files_of (load_define l bs ∷ cs) = bs ++ files_of cs
files_of (load_record l n c ∷ cs) = files_of cs

abbrev wants : List Call → ℕ → ℕ → List Load → Sought → List ℕ → SearchCase
wants b l n cs a z = record { before = b; loader = l; name = n; cells = cells_of 0 cs; files = files_of cs; answer = a; left = z }

abbrev reads : List Call → ℕ → ℕ → List ℕ → List ℕ → Sought → SearchCase
reads b l n cells files a = record { before = b; loader = l; name = n; cells = cells; files = files; answer = a; left = [] }

-- ready leaves one class and four entries, by three loads
abbrev as_ready : List ℕ
as_ready = 1 ∷ 0 ∷ 4 ∷ 0 ∷ 0 ∷ 3 ∷ []

-- a define that is accepted after ready
abbrev fine : Load
fine = load_define 1 (plain 20 2)

-- a tie 1–2 on 12, and (1,12) loaded
abbrev tied_one : List Call
tied_one = tied12 ++ call_define 1 (plain 12 2) ∷ []

unfoldable pub searches : List SearchCase
searches =
    -- cached already: nothing is needed, whatever is offered
    wants ready 1 2 [] (found []) as_ready
    ∷ wants ready 1 2 (fine ∷ []) (found []) as_ready
    -- none: no offer; one for another request, which leaves no trace of having been tried; a request that nobody can cache
    ∷ wants ready 1 20 [] not_found as_ready
    ∷ wants ready 1 21 (fine ∷ []) not_found as_ready
    ∷ wants ready 15 65535 (fine ∷ load_define 15 (plain 20 2) ∷ []) not_found as_ready
    -- three files in the wrong order
    ∷ wants ready 1 22 (load_define 1 (plain 22 21) ∷ load_define 1 (plain 21 20) ∷ fine ∷ []) (found (2 ∷ 1 ∷ 0 ∷ [])) (4 ∷ 27 ∷ 7 ∷ 0 ∷ 0 ∷ 6 ∷ [])
    -- the fewest loads, though the lowest number could stand before
    ∷ wants ready 1 21 (fine ∷ load_define 1 (plain 21 2) ∷ []) (found (1 ∷ [])) (2 ∷ 9 ∷ 5 ∷ 0 ∷ 0 ∷ 4 ∷ [])
    -- then the lowest number at the first difference: 1, 3 before 2, 0, whose set is the lower; and of equal offers the lower
    ∷ wants ready 1 22 (load_define 1 (plain 22 20) ∷ load_define 1 (plain 21 2) ∷ fine ∷ load_define 1 (plain 22 21) ∷ []) (found (1 ∷ 3 ∷ [])) (3 ∷ 18 ∷ 6 ∷ 0 ∷ 0 ∷ 5 ∷ [])
    ∷ wants ready 1 20 (fine ∷ fine ∷ []) (found (0 ∷ [])) (2 ∷ 9 ∷ 5 ∷ 0 ∷ 0 ∷ 4 ∷ [])
    -- a record names a class by the number that the order gives it: 20 must be class 2, so 21 goes first
    ∷ wants ready 2 20 (fine ∷ load_define 1 (plain 21 2) ∷ load_record 2 20 2 ∷ []) (found (1 ∷ 0 ∷ 2 ∷ [])) (3 ∷ 18 ∷ 7 ∷ 0 ∷ 0 ∷ 6 ∷ [])
    -- a load that clashes isn't accepted; a record of the same class is
    ∷ wants tied_one 2 12 (load_define 2 (plain 12 2) ∷ load_record 2 12 3 ∷ []) (found (1 ∷ [])) (4 ∷ 51 ∷ 9 ∷ 1 ∷ 0 ∷ 8 ∷ 0 ∷ [])
    -- an offer of an unknown loader, of no class, of a bad file is read, and not accepted
    ∷ wants ready 1 20 (load_define 16 (plain 20 2) ∷ load_record 1 20 64 ∷ load_define 1 [] ∷ fine ∷ []) (found (3 ∷ [])) (2 ∷ 9 ∷ 5 ∷ 0 ∷ 0 ∷ 4 ∷ [])
    ∷ wants ready 1 20 (load_define 16 (plain 20 2) ∷ load_record 1 20 64 ∷ []) not_found as_ready
    -- of 34 loads on the box 32 can be taken back; one more on the second store pushes out the oldest
    ∷ wants loads34 4 41 (load_record 5 41 2 ∷ load_record 4 41 2 ∷ []) (found []) (3 ∷ 18 ∷ 35 ∷ 0 ∷ 0 ∷ 32 ∷ [])
    ∷ wants loads34 5 41 (load_record 5 41 2 ∷ []) (found (0 ∷ [])) (3 ∷ 18 ∷ 36 ∷ 0 ∷ 0 ∷ 32 ∷ [])
    -- 3 judges the wanted request alone, and comes before 20
    ∷ reads ready 16 20 (7 ∷ []) [] (denied_search (Word 3))
    ∷ reads ready 1 1 (7 ∷ []) [] (denied_search (Word 3))
    -- 20, also where it is cached already: cut off, no kind, a file outside the bytes by one, a name of 17 bits, nine
    ∷ reads ready 1 2 (2 ∷ 1 ∷ 2 ∷ []) [] (denied_search (Word 20))
    ∷ reads ready 1 20 (3 ∷ 1 ∷ 2 ∷ 0 ∷ []) [] (denied_search (Word 20))
    ∷ reads ready 1 20 (1 ∷ 1 ∷ 0 ∷ 10 ∷ []) (plain 20 2) (denied_search (Word 20))
    ∷ reads ready 1 20 (2 ∷ 1 ∷ 65536 ∷ 0 ∷ []) [] (denied_search (Word 20))
    ∷ reads ready 1 2 (cells_of 0 (replicate 9 (load_record 1 2 0))) [] (denied_search (Word 20))
    ∷ wants ready 1 2 (replicate 8 (load_record 1 2 0)) (found []) as_ready
    ∷ []

-- what is seen of a search: its answer, and what the second store has if it was written
pub record Seen : Type 0 where
  pub answer : Sought
  pub left : List ℕ

unfoldable pub seen : Sought → Rows → Seen
seen (found is) r = record { answer = found is; left = left_of r }
seen not_found r = record { answer = not_found; left = left_of r }
seen (denied_search w) r = record { answer = denied_search w; left = [] }

unfoldable pub expected : SearchCase → Seen
expected c = record { answer = c.answer; left = c.left }

-- on rows

unfoldable pub ordered_rows : List Load → Option (List ℕ) → Rows → Seen
ordered_rows offers none r = seen not_found r
ordered_rows offers (some is) r = seen (found is) (perform_all_rows (calls_of offers is) r).rows

unfoldable pub sought_rows : ℕ → ℕ → Option (List Load) → Rows → Seen
sought_rows l n none r = seen (denied_search (Word 20)) r
sought_rows l n (some offers) r = ordered_rows offers (order offers (at l n) r) r

unfoldable pub search_rows : SearchCase → Rows → Seen
search_rows c r = elim (ltb c.loader 16 && leb 2 c.name) as (λ _. Seen) [
  | false ↦ seen (denied_search (Word 3)) r
  | true ↦ sought_rows c.loader c.name (offers_in c.cells c.files) r
]

computed : map (λ c. search_rows c (perform_all_rows c.before boot_rows).rows) searches ≡ map expected searches
unfolding searches cells_of files_of seen expected ordered_rows sought_rows search_rows offer_of offer_at offers_from offers_in loaded except first_some loaded_at order_of fewest order calls_of left_of loads34 recorded! numbered_on rows every all any doubled index_of is_some is_none to_list same_list filled Maybe.◌>>=◌ Maybe.need has fires rest grow reach_from reach leads same_request number number_of ◌>>=◌ need take? seek nearest below find lower super_of loader_of own_slots slots_in slots slot_is has_field same_signature alike methods_of has_method selected is_named tie_edges subtype_edges edges pair_agrees row_agrees agrees_over agrees tie_is new_tie new_ties signature_ties agrees_after post byte short name count fields_in one_in arguments_in signature_in names_in map_in maps_from maps_in methods_in ends same_field same_method read_file pick opcode_of inline_length short_at extend instruction_of sized_as decode type_of_name meet_class meet_int meets meet_kind pop pop_all effect returns return_kind target goes_on map_at local_type meet_local meet_all meet_map flow_into flow_to_target start_at after maps_past verify types_at unmapped_from unmapped notes_of_method notes_of subtype_is new_subtypes override_tie override_ties define recorded file_at class_at define_rows entry_trace record_rows settle on_rows perform_rows perform_all_rows two method file_of plain taker ready tied12 Verifier.turn
computed = refl

-- on tables: the second store is u

abbrev told : Searched → Seen
told d = seen d.answer (view d.second)

unfoldable pub search_on : Tables → Tables → SearchCase → Seen
search_on t u c = told (search c.loader c.name c.cells c.files (perform_all c.before (boot t).tables).tables u)

module _ (t u : Tables) (c : SearchCase) where
  abbrev box : Tables
  box = (perform_all c.before (boot t).tables).tables

  abbrev r : Rows
  r = (perform_all_rows c.before boot_rows).rows

  on-rows : (boot t).answer ≡ Accepted → shaped u ≡ true → search_on t u c ≡ search_rows c r
  unfolding search_on search_rows
  on-rows h k = go (ltb c.loader 16 && leb 2 c.name) refl
    where
      s : Shows box r
      s = (same-booted c.before t (accepted-shaped t h)).1

      fit : (shaped u && not (broken box)) ≡ true
      fit = rw (k, s.unbroken) refl

      ordered : (offers : List Load) (o : Option (List ℕ)) → told (sought offers o box) ≡ ordered_rows offers o r
      ordered offers none = unfold sought ordered_rows in ap (seen not_found) s.rows
      ordered offers (some is) = unfold sought ordered_rows in ap (seen (found is)) (same-all (calls_of offers is) box r s).1.rows

      by-offers : (o : Option (List Load)) → told (sought-by c.loader c.name c.cells c.files box u o) ≡ sought_rows c.loader c.name o r
      by-offers none = unfold sought_rows seen in refl
      by-offers (some offers) =
          unfold sought_rows in
          ordered offers (order offers (at c.loader c.name) (view box)) ∙ ap (λ (x : Rows). ordered_rows offers (order offers (at c.loader c.name) x) r) s.rows

      go : (b : Bool) → (ltb c.loader 16 && leb 2 c.name) ≡ b → told (search c.loader c.name c.cells c.files box u)
          ≡ (elim b as (λ _. Seen) [ false ↦ seen (denied_search (Word 3)) r | true ↦ sought_rows c.loader c.name (offers_in c.cells c.files) r ])
      go false e = ap told (second-fails c.loader c.name c.cells c.files box u fit e) ∙ (unfold seen in refl)
      go true e = ap told (third c.loader c.name c.cells c.files box u fit e (offers_in c.cells c.files) refl) ∙ by-offers (offers_in c.cells c.files)

pub search-cases : (t u : Tables) → (boot t).answer ≡ Accepted → shaped u ≡ true → map (search_on t u) searches ≡ map expected searches
search-cases t u h k = each searches ∙ computed
  where
    each : (cs : List SearchCase) → map (search_on t u) cs ≡ map (λ c. search_rows c (perform_all_rows c.before boot_rows).rows) cs
    each [] = refl
    each (c ∷ cs) = λ i. on-rows t u c h k i ∷ each cs i
