-- Demand 3 of lists in which changeovers stand among the calls. A changeover fills this store from another, so it joins the list only where that other store comes from a boot too.
use Rattle.std.specs.Prelude.{◌≡◌, refl, true, false, List, [], ◌∷◌, ℕ, zero, suc}
use Rattle.std.proofs.Common.{sym, subst, arith}
use Rattle.std.proofs.Math.Option.{none, some, none-ne-some, some-injective}
use Rattle.std.proofs.Math.ListN.{get_elem?}
use Rattle.definition.specs.declared.Reply.{Reply}
use Rattle.definition.specs.declared.Reply.TheVariants.{Accepted}
use Rattle.definition.specs.Answers.{number_of, ends_in}
use Rattle.definition.specs.Tables.{Tables, view}
use Rattle.definition.specs.Calls.{boot, Call, Done, done, perform}
use Rattle.definition.specs.First.Tables.{FirstTables}
use Rattle.definition.specs.First.Calls.{FirstComesFromBoot}
use Rattle.definition.specs.Changeover.{changeover}
use Rattle.definition.specs.Histories.{ComesFromBoot, after_boot, after_call, after_changeover}
use Rattle.definition.specs.Misplaced.{misplaced}
use Rattle.definition.specs.Safety.{Safe}
use Rattle.layout.specs.Unbroken.{broken-false}
use Rattle.layout.specs.ReadBack.{true-shaped}
use Rattle.unbroken.specs.OnRows.{accepted-shaped}
use Rattle.first.specs.Changeover.{filled-changeover}
use Rattle.safety.specs.Misplaced.{valid-placed}
use Rattle.safety.specs.Words.{placed-words}
use Rattle.safety.specs.Sane.{Fine, Sane, boot-sane, perform-sane}
use Rattle.safety.specs.Carried.{filled-sane, history-unbroken}

pub data Item : Type 0 where
  item_call : Call → Item
  item_change : (u : FirstTables) → FirstComesFromBoot u → Item

unfoldable pub perform_item : Item → Tables → Done Reply
perform_item (item_call c) t = perform c t
perform_item (item_change u h) t = changeover u t

-- each item's answer, and the tables after the last
unfoldable pub perform_items : List Item → Tables → Done (List Reply)
perform_items [] t = done [] t
perform_items (c ∷ cs) t = let d = perform_item c t in let e = perform_items cs d.tables in done (d.answer ∷ e.answer) e.tables

-- a changeover of such an old store on tables that aren't broken is accepted
change-accepted : (u : FirstTables) → FirstComesFromBoot u → (t : Tables) → Sane t → (changeover u t).answer ≡ Accepted
change-accepted u h t s = filled-changeover u t (true-shaped t (broken-false t s.unbroken).0) (history-unbroken u h)

accepted-fine : (a : Reply) → a ≡ Accepted → Fine a
unfolding number_of ends_in
accepted-fine a e = subst Fine (sym e) ((λ z. omega arith), (λ z. omega arith))

item-sane : (c : Item) (t : Tables) → Sane t → Fine (perform_item c t).answer × Sane (perform_item c t).tables
unfolding perform_item
item-sane (item_call c) t s = perform-sane c t s
item-sane (item_change u h) t s = let a = change-accepted u h t s in (accepted-fine (changeover u t).answer a, filled-sane u t h a)

items-sane : (cs : List Item) (t : Tables) → Sane t → ((i : ℕ) (a : Reply) → get_elem? (perform_items cs t).answer i ≡ some a → Fine a) × Sane (perform_items cs t).tables
unfolding perform_items
items-sane [] t s = ((λ i a e. absurd (none-ne-some a e)), s)
items-sane (c ∷ cs) t s = let d = item-sane c t s in let e = items-sane cs (perform_item c t).tables d.1 in (each d.0 e.0, e.1)
  where
    each : Fine (perform_item c t).answer → ((i : ℕ) (a : Reply) → get_elem? (perform_items cs (perform_item c t).tables).answer i ≡ some a → Fine a)
        → (i : ℕ) (a : Reply) → get_elem? ((perform_item c t).answer ∷ (perform_items cs (perform_item c t).tables).answer) i ≡ some a → Fine a
    each f g zero a q = subst Fine (some-injective _ a q) f
    each f g (suc i) a q = g i a q

-- for every tables that boot accepts and every list of calls and such changeovers: nothing is misplaced, broken or stuck
pub safety-joined : (t : Tables) → (boot t).answer ≡ Accepted → (cs : List Item) → Safe (perform_items cs (boot t).tables)
unfolding misplaced
safety-joined t h cs =
    let s = items-sane cs (boot t).tables (boot-sane t (accepted-shaped t h)).1 in
    let r = view (perform_items cs (boot t).tables).tables in
    let p = valid-placed r s.1.valid in
    record { placed = p; words = placed-words r p; unbroken = s.1.unbroken; not_stuck = s.0 }

-- and the store that it leads to comes from a boot
pub joined-from-boot : (cs : List Item) (t : Tables) → Sane t → ComesFromBoot t → ComesFromBoot (perform_items cs t).tables
unfolding perform_item perform_items
joined-from-boot [] t s b = b
joined-from-boot (item_call c ∷ cs) t s b = joined-from-boot cs (perform c t).tables (perform-sane c t s).1 (after_call c t b)
joined-from-boot (item_change u h ∷ cs) t s b =
    let a = change-accepted u h t s in
    joined-from-boot cs (changeover u t).tables (filled-sane u t h a) (after_changeover u t h a)
