-- record, test by test: what each refusal and each acceptance says of the definition, what is admitted of it, and that what an entry writes is what the definition
-- puts.
use mathlib.Core.Path.{◌≡◌, refl, sym, ap, subst, ◌∙◌}
use mathlib.Core.Bool.{true, false}
use mathlib.Core.Option.{Option, none, some}
use mathlib.Core.List.{List, [], ◌++◌, append-nil}
use Prim.Native.Nat.{ℕ, ◌+◌, ◌-◌, ◌≤◌, ◌<◌}
use native.Mathlib.Omega.{arith}
use lib.ListN.{length, get_elem?, get_or, set, drop}
use lib.Seq.{set-get_or, get_or-set_other, get_or-drop}
use lib.Dec.{eqb, ltb}
use borrow.Author.Tests.{eq-eqb, ne_eqb, lt-ltb, le-ltb, le-leb, lt-leb}
use Rattle.definition.specs.declared.Refusal.{Refusal}
use Rattle.definition.specs.declared.Refusal.TheVariants.{Word}
use Rattle.definition.specs.declared.Reply.{Reply}
use Rattle.definition.specs.declared.Reply.TheVariants.{Accepted, Denied}
use Rattle.definition.specs.Numbers.{tie_numbers_cell, subtype_numbers_cell}
use Rattle.definition.specs.Lists.{rows, write_rows}
use Rattle.definition.specs.Requests.{at}
use Rattle.definition.specs.Classes.{Base, Class, find}
use Rattle.definition.specs.Constraints.{World, agrees}
use Rattle.definition.specs.Answers.{Result, refused, ok, number, ◌>>=◌, need, take?}
use Rattle.definition.specs.Loading.{with_entry, recorded}
use Rattle.definition.specs.Tables.{Tables, tables, row_numbers, put_three, tie_at, subtype_at, number_at, put_number, Rows, class_row_at, world_of, view, view_over, view_base}
use Rattle.definition.specs.Broken.{numbered, broken}
use Rattle.definition.specs.Calls.{Given, numbers_from, done, given, add_entry, record_rows, wrap, load_record}
use Rattle.definition.specs.Reasons.{reason, after_load, reason_after}
use Rattle.laws.specs.Refusals.{Refuses, on-bind, on_test}
use Rattle.layout.specs.NumberedRows.{none-numbered-on}
use Rattle.layout.specs.View.{count_at, put_view, remembering, entry-writes}
use Rattle.layout.specs.Places.{rows-cong}
use Rattle.layout.specs.Unbroken.{unbroken}
use Rattle.unbroken.specs.Groups.{groups-right, as-long, once}
use Rattle.constraints.specs.Laws.{Beside}
use Rattle.unbroken.specs.Traces.{entry-there}
use Rattle.resolution.specs.Quick.{quick_class, quick_base}
use Rattle.resolution.specs.Lookups.{name_in}
use Rattle.entries.specs.World.{world, quick_world, numbers_in, quick-world, loadable, numbers-turn}
use Rattle.entries.specs.Offers.{offered}
use Rattle.entries.proofs.Calls.{wrap-given}
use Rattle.entries.proofs.Offers.{reason-after}
use Rattle.loading.specs.declared.loads.Newcomer.{Newcomer}
use Rattle.std.specs.Prelude.{Ok, Err, Some, None}
use Rattle.loading.specs.Stages.{Plan}
use Rattle.loading.specs.Stages.{judged_world}
use Rattle.loading.specs.Entering.{Entry, Recorded}
use Rattle.loading.specs.Writing.{numbers_on, numbers_after, Grown}
use Rattle.loading.specs.Plans.{file_of, new_world, Placed, new_reply, counts_over, counts_with, written, Groupable, Newly, Admitted}
use Rattle.loading.proofs.Remembered.{counts-remembered}
use Rattle.loading.proofs.Copied.{base-entry}
use Rattle.loading.proofs.Admitted.{reply-entry, admits-refused, whole_by}

-- the entry of a request for a class that bears its name. Refusals: 4 10 9
unfoldable entered : ℕ → ℕ → ℕ → World → Result World
entered l n c w = elim (find w.base.cache (at l n)) [
  | some d ↦ need (eqb d c) (Word 4) >>= λ _. ok w
  | none ↦ need (ltb (length w.base.cache) 256) (Word 10) >>= λ _. judged_world (with_entry w (at l n) c)
]

-- Arguments

module _ (l n c : ℕ) (w : World) where
  pub no-loader : 16 ≤ l → refused (Word 3) ≡ recorded l n c w
  unfolding recorded need ◌>>=◌
  no-loader h = rw (le-ltb l 16 h)

  pub no_name : l < 16 → n < 2 → refused (Word 3) ≡ recorded l n c w
  unfolding recorded need ◌>>=◌
  no_name h k = rw (lt-ltb l 16 h, lt-leb 2 n k)

  pub no-class : l < 16 → 2 ≤ n → get_elem? w.base.classes c ≡ none → refused (Word 3) ≡ recorded l n c w
  unfolding recorded need take? ◌>>=◌
  no-class h k e = rw (lt-ltb l 16 h, le-leb 2 n k, e)

  module _ (h : l < 16) (j : 2 ≤ n) (k : Class) (e : get_elem? w.base.classes c ≡ some k) where
    pub misnamed : (k.name ≡ n → ⊥) → refused (Word 13) ≡ recorded l n c w
    unfolding recorded need take? ◌>>=◌
    misnamed d = rw (lt-ltb l 16 h, le-leb 2 n j, e, ne_eqb k.name n d)

    module _ (m : ℕ) (f : k.name ≡ m) (g : m ≡ n) where
      named : entered l m c w ≡ recorded l n c w
      unfolding recorded entered judged_world need take? ◌>>=◌
      named = let d : k.name ≡ n = f ∙ g in ap (λ (x : ℕ). entered l x c w) g ∙ rw (lt-ltb l 16 h, le-leb 2 n j, e, eq-eqb k.name n d)

      pub there : (d : ℕ) → find w.base.cache (at l m) ≡ some d → d ≡ c → ok w ≡ recorded l n c w
      unfolding entered need ◌>>=◌
      there d x q = let z : ok w ≡ entered l m c w = rw (x, entered, eq-eqb d c q) in z ∙ named

      pub taken : (d : ℕ) → find w.base.cache (at l m) ≡ some d → (d ≡ c → ⊥) → refused (Word 4) ≡ recorded l n c w
      unfolding entered need ◌>>=◌
      taken d x q = let z : refused (Word 4) ≡ entered l m c w = rw (x, entered, ne_eqb d c q) in z ∙ named

      module _ (free : find w.base.cache (at l m) ≡ none) where
        pub full : 256 ≤ length w.base.cache → refused (Word 10) ≡ recorded l n c w
        unfolding entered need ◌>>=◌
        full few = let z : refused (Word 10) ≡ entered l m c w = rw (free, entered, le-ltb (length w.base.cache) 256 few) in z ∙ named

        pub judged : length w.base.cache < 256 → judged_world (with_entry w (at l n) c) ≡ recorded l n c w
        unfolding entered need ◌>>=◌
        judged few =
            let z : judged_world (with_entry w (at l m) c) ≡ entered l m c w = rw (free, entered, lt-ltb (length w.base.cache) 256 few) in
            ap (λ (x : ℕ). judged_world (with_entry w (at l x) c)) (sym g) ∙ (z ∙ named)

-- once the arguments are known, no refusal is 3
module _ (l n c : ℕ) (w : World) where
  abbrev NotThree : Refusal → Type 0
  NotThree x = number x ≡ 3 → ⊥

  pub known : l < 16 → 2 ≤ n → (k : Class) → get_elem? w.base.classes c ≡ some k → Refuses NotThree (recorded l n c w)
  unfolding recorded need take? ◌>>=◌ number
  known h j k e = rw (lt-ltb l 16 h, le-leb 2 n j, e) (on_test NotThree (eqb k.name n) (Word 13) _ (λ _ z. omega arith) (λ _. go (find w.base.cache (at l n))))
    where
      go : (o : Option ℕ) → Refuses {A = World} NotThree (elim o as (λ _. Result World) [
        | some d ↦ need (eqb d c) (Word 4) >>= λ _. ok w
        | none ↦ need (ltb (length w.base.cache) 256) (Word 10) >>= λ _. need (agrees (with_entry w (at l n) c)) (Word 9) >>= λ _. ok (with_entry w (at l n) c)
      ])
      go none =
          on_test NotThree (ltb (length w.base.cache) 256) (Word 10) _ (λ _ z. omega arith)
          (λ _. on_test NotThree (agrees (with_entry w (at l n) c)) (Word 9) (λ _. ok (with_entry w (at l n) c)) (λ _ z. omega arith) (λ _. tt))
      go (some d) = on_test NotThree (eqb d c) (Word 4) (λ _. ok w) (λ _ z. omega arith) (λ _. tt)

-- Where no constraint is posted

-- the numbers that are read then are those that were there
no-numbers : (counts : List ℕ) (i j : ℕ) → i ≡ get_or counts 3 0 → j ≡ get_or counts 4 0 → numbers_after counts i j ≡ numbers_in counts
unfolding numbers_after rows
no-numbers counts i j e f =
    let p : i - get_or counts 3 0 ≡ 0 = omega (arith, e) in
    let q : j - get_or counts 4 0 ≡ 0 = omega (arith, f) in
    (λ x. row_numbers (rows (number_at tie_numbers_cell counts) (get_or counts 3 0) 0 ++ numbers_from (get_or counts 3 0 + j) (p x))
    (rows (number_at subtype_numbers_cell counts) (get_or counts 4 0) 0 ++ numbers_from (get_or counts 3 0 + get_or counts 4 0) (q x)))
    ∙ (λ x. row_numbers (append-nil (rows (number_at tie_numbers_cell counts) (get_or counts 3 0) 0) x) (append-nil (rows (number_at subtype_numbers_cell counts) (get_or counts 4 0) 0) x))

-- and the counts but that of entries are written as they were
entry-counts : (n : Newcomer) (counts : List ℕ) → n.tied ≡ get_or counts 3 0 → n.noted ≡ get_or counts 4 0
    → counts_over n (get_or counts 0 0) (get_or counts 1 0) counts counts ≡ set counts 2 (get_or counts 2 0 + 1)
unfolding counts_over numbers_on write_rows rows
entry-counts n counts e f =
    let p : n.tied - get_or counts 3 0 ≡ 0 = omega (arith, e) in
    let q : n.noted - get_or counts 4 0 ≡ 0 = omega (arith, f) in
    (λ x. write_rows (put_number tie_numbers_cell) (numbers_from (get_or counts 3 0 + n.noted) (p x)) (get_or counts 3 0)
    (write_rows (put_number subtype_numbers_cell) (numbers_from (get_or counts 3 0 + get_or counts 4 0) (q x)) (get_or counts 4 0)
    (set (set (set (set (set counts 4 (f x)) 3 (e x)) 2 (get_or counts 2 0 + 1)) 1 (get_or counts 1 0)) 0 (get_or counts 0 0))))
    ∙ (rw (set-get_or counts 4 0, set-get_or counts 3 0)
    (ap (λ (z : List ℕ). set z 0 (get_or counts 0 0)) (kept 1 (λ z. omega arith)) ∙ kept 0 (λ z. omega arith)))
  where
    kept : (i : ℕ) → (i ≡ 2 → ⊥) → set (set counts 2 (get_or counts 2 0 + 1)) i (get_or counts i 0) ≡ set counts 2 (get_or counts 2 0 + 1)
    kept i d = rw (← get_or-set_other counts 2 i (get_or counts 2 0 + 1) 0 d) (set-get_or (set counts 2 (get_or counts 2 0 + 1)) i 0)

-- The call

-- the groups beside the stored ties are right
pub stored-groups : (t : Tables) → broken t ≡ false → Beside t.ties (drop 937 t.counts) (get_or t.counts 3 0)
unfolding view view_over number_at
stored-groups t sound = record {
  numbers = (view t).numbers.ties;
  long = as-long t sound;
  once = once t sound;
  are = rows-cong (λ i. get_or (drop 937 t.counts) i 0) (number_at 937 t.counts) (get_or t.counts 3 0) 0 (λ i l h. get_or-drop 937 t.counts i 0) ∙ groups-right t sound;
}

module _ (t : Tables) (l n c : ℕ) (sound : broken t ≡ false) where
  from : (o : Result World) → o ≡ recorded l n c (quick_world t) → record_rows l n c (view t) ≡ (o >>= λ w. given Accepted (add_entry (view t) w))
  unfolding record_rows
  from o e = ap (λ (x : Result World). x >>= λ w. given Accepted (add_entry (view t) w)) (sym (e ∙ ap (recorded l n c) (quick-world t sound)))

  pub record-unknown : refused (Word 3) ≡ recorded l n c (quick_world t) → record_rows l n c (view t) ≡ refused (Word 3)
  unfolding ◌>>=◌
  record-unknown e = from (refused (Word 3)) e

  pub record-known : l < 16 → 2 ≤ n → (k : Class) → get_elem? (quick_world t).base.classes c ≡ some k → Refuses (λ x. number x ≡ 3 → ⊥) (record_rows l n c (view t))
  record-known h j k e =
      subst (λ (o : Result (Given Reply)). Refuses (λ x. number x ≡ 3 → ⊥) o) (sym (from (recorded l n c (quick_world t)) refl))
      (on-bind (λ x. number x ≡ 3 → ⊥) (recorded l n c (quick_world t)) _ (known l n c (quick_world t) h j k e) (λ _ _. tt))

  module _ (size : ℕ) (long : 512 ≤ size) where
    abbrev offer : Rows → Result (Given Reply)
    offer = offered size (load_record l n c)

    -- An entry that is up to agreement

    module _ (small : c ≤ 64) (new : Newcomer) (j : judged_world (with_entry (quick_world t) (at l n) c) ≡ recorded l n c (quick_world t)) (a : Entry t.counts l n c new) where
      abbrev base : Base
      base = quick_base t.counts t.classes t.kept t.cache

      -- the stored tables hold the store with it
      world_is : new_world new [] base t.ties t.subtypes ≡ with_entry (quick_world t) (at l n) c
      world_is =
          (λ i. world (base-entry new [] base a.above i) (rows (tie_at t.ties) (a.tied i) 0) (rows (subtype_at t.subtypes) (a.noted i) 0))
          ∙ (λ i. with_entry (quick_world t) (at (a.loader i) (a.name i)) (a.class i))

      clashes : agrees (new_world new [] base t.ties t.subtypes) ≡ false → record_rows l n c (view t) ≡ refused (Word 9)
      unfolding judged_world need ◌>>=◌
      clashes q = from (refused (Word 9)) (sym (rw (sym (ap agrees world_is) ∙ q) at (sym j)))

      made : agrees (new_world new [] base t.ties t.subtypes) ≡ true → ok (with_entry (quick_world t) (at l n) c) ≡ recorded l n c (quick_world t)
      unfolding judged_world need ◌>>=◌
      made q = sym (rw (sym (ap agrees world_is) ∙ q) at (sym j))

      grown : Grown t.counts new.tied new.noted
      grown =
          let few = loadable t sound in
          record { ties = omega (arith, a.tied); ties_few = omega (arith, a.tied, few.ties_few); subtypes = omega (arith, a.noted); subtypes_few = omega (arith, a.noted, few.subtypes_few) }

      -- the other counts are written as they were, and no row is numbered
      counts-are : counts_with new (count_at t 0) (count_at t 1) t.counts ≡ remembering (view_base t) t (set t.counts 2 (count_at t 2 + 1))
      counts-are = counts-remembered new (count_at t 0) (count_at t 1) (view_base t) t grown (unbroken t sound).counts.trace ∙ ap (remembering (view_base t) t) (entry-counts new t.counts a.tied a.noted)

      reply-is : new_reply new ≡ Accepted
      reply-is = sym (reply-entry new a.above)

      puts : agrees (new_world new [] base t.ties t.subtypes) ≡ true → done (new_reply new) (written (load_record l n c) new t t.ties t.subtypes) ≡ wrap Denied offer t
      unfolding written view ◌>>=◌
      puts q =
          (λ i. done (reply-is i)
          (tables (counts-are i) t.classes t.kept (put_three t.cache (count_at t 2) (a.loader i) (a.name i) (a.class i)) t.ties t.subtypes t.objects t.frames))
          ∙ wrap-given Denied offer t sound Accepted (add_entry (view t) (with_entry (world_of (view t)) (at l n) c))
          (tables (remembering (view_base t) t (set t.counts 2 (count_at t 2 + 1))) t.classes t.kept (put_three t.cache (count_at t 2) l n c) t.ties t.subtypes t.objects t.frames)
          (whole_by (load_record l n c) t size t.ties t.subtypes sound long _ (from (ok (with_entry (quick_world t) (at l n) c)) (made q)
          ∙ ap (λ (w : World). given Accepted (add_entry (view t) (with_entry w (at l n) c))) (quick-world t sound)))
          (entry-writes (view_base t) t l n c (unbroken t sound).groups)

      -- the numbers are the stored ones
      numbers-are : numbers_after t.counts new.tied new.noted ≡ numbers_in t.counts
      numbers-are = no-numbers t.counts new.tied new.noted a.tied a.noted

      lists : reason (new_world new [] base t.ties t.subtypes) (numbers_after t.counts new.tied new.noted)
          ≡ reason_after (view t) (after_load (load_record l n c) (world_of (view t)))
      unfolding view view_over
      lists =
          (λ i. reason (world_is i) (numbers-are i))
          ∙ (ap (λ (w : World). reason (with_entry w (at l n) c) (numbers_in t.counts)) (quick-world t sound)
          ∙ (ap (reason (with_entry (world_of (view t)) (at l n) c)) (sym (none-numbered-on (view t))) ∙ sym (reason-after (view t) _ (with_entry (world_of (view t)) (at l n) c) refl)))

      pub entry-newly : Newly (load_record l n c) t size t.ties t.subtypes new
      unfolding file_of Placed Groupable
      entry-newly = record {
        sound = sound;
        long = long;
        fits = record {
          sized = record { base = (loadable t sound).base; room = a.room; class = omega (arith, a.class, small); grown = grown };
          placed = subst (λ (x : ℕ). Placed x new [] t.counts base) (sym a.above) tt;
        };
        file = omega arith;
        clash = clashes;
        fine = puts;
        groups = subst (λ (x : ℕ). Beside t.ties (drop 937 t.counts) x) (sym a.tied) (stored-groups t sound);
        turn = ap numbered numbers-are ∙ numbers-turn t sound;
        listed = lists;
      }

    pub entry-admitted : c ≤ 64 → (d : Plan) → Recorded d t.counts l n c (quick_world t) → Admitted d (load_record l n c) t size t.ties t.subtypes
    unfolding Recorded Admitted view ◌>>=◌
    entry-admitted small (Err r) h = admits-refused (load_record l n c) t size t.ties t.subtypes sound long r (from (refused r) h.0) h.1
    entry-admitted small (Ok None) h =
        wrap-given Denied offer t sound Accepted (view t) t
        (whole_by (load_record l n c) t size t.ties t.subtypes sound long _ (from (ok (quick_world t)) h ∙ (ap (λ (w : World). given Accepted (add_entry (view t) w)) (quick-world t sound) ∙ ap (given Accepted) (entry-there (view t)))))
        (put_view t (unbroken t sound).groups)
    entry-admitted small (Ok (Some new)) h = entry-newly small new h.0 h.1

-- the name that a class's row gives
pub name-is : (counts classes kept : List ℕ) (c : ℕ) → c < get_or counts 0 0 → name_in counts classes kept c ≡ (quick_class kept (class_row_at classes c)).name
unfolding name_in
name-is counts classes kept c h = rw (lt-ltb c (get_or counts 0 0) h, name_in)
