-- A new entry tried on a copy of the cache: what the copies hold, what the check of agreement names of them, and why they don't agree.
use Rattle.std.proofs.Common.{◌≡◌, ℕ, zero, suc, ◌+◌, ◌*◌, ◌%◌, ◌<◌, ◌≤◌, Bool, true, false, eqb, ltb, List, [], ◌∷◌, ◌++◌, length, get_or, set, sym, refl, ap, ◌∙◌, subst, add-one, arith, length-append, length-set, get_or-set_other, get_or-set_same, ltb-false, ltb-true, lt-ltb, eqb-true}
use mathlib.Core.Option.{Option, none, some}
use lib.ListN.{get_elem?, get_or-eq_default}
use borrow.Author.Tests.{eqb-false}
use Rattle.definition.specs.Lists.{rows, write_rows}
use Rattle.definition.specs.Chains.{Edge}
use Rattle.definition.specs.Requests.{Request, at}
use Rattle.definition.specs.Classes.{Base, Class, Entry, super_of, find, lower}
use Rattle.definition.specs.Constraints.{World}
use Rattle.definition.specs.declared.Check.{Check}
use Rattle.definition.specs.Checks.{NamesOver}
use Rattle.definition.specs.Numbers.{counts_length}
use Rattle.definition.specs.Tables.{RowNumbers, put_three, entry, entry_at, put_entry, tie_at, subtype_at, class_row_at}
use Rattle.definition.specs.Broken.{numbered}
use Rattle.definition.specs.Reasons.{tie_links, subtype_links, reason_over, reason}
use Rattle.laws.specs.Agreement.{super-falls, find-more}
use Rattle.laws.specs.Earlier.{row_before}
use Rattle.layout.specs.Places.{rows-get_d, rows-length, write_rows-length}
use Rattle.layout.specs.Cells.{entry-rows, rows-after-last}
use Rattle.resolution.specs.Quick.{quick_class, quick_base}
use Rattle.resolution.specs.Lookups.{super_cell, cell-none, cell-some}
use Rattle.constraints.specs.Agreement.{super_in, new_of, new_in}
use Rattle.laws.specs.Options.{nth_last}
use Rattle.rows.specs.Numbers.{numbers_fit}
use Rattle.constraints.specs.Linking.{reason_in}
use Rattle.constraints.specs.Laws.{within}
use Rattle.entries.specs.World.{numbers_in, base_with, Searchable}
use Rattle.entries.specs.Entering.{Entered}
use Rattle.entries.proofs.Laws.{written-front, copied}

-- the cache with one more row
pub entries-more : (t : List ℕ) (n l m c : ℕ) → suc n * 3 ≤ length t
    → rows (entry_at (put_three t n l m c)) (n + 1) 0 ≡ rows (entry_at t) n 0 ++ (entry l m c ∷ [])
unfolding put_entry
entries-more t n l m c h = ap (λ (k : ℕ). rows (entry_at (put_three t n l m c)) k 0) (add-one n) ∙ rows-after-last entry-rows t n (entry l m c) h

-- Direct superclasses by a table

nth_past : {A : Type 0} (xs : List A) (i : ℕ) → length xs ≤ i → get_elem? xs i ≡ none
nth_past [] i h = refl
nth_past (x ∷ xs) zero h = absurd (omega arith)
nth_past (x ∷ xs) (suc i) h = nth_past xs i (omega arith)

nth-before : {A : Type 0} (xs ys : List A) (i : ℕ) → i < length xs → get_elem? (xs ++ ys) i ≡ get_elem? xs i
nth-before [] ys i h = absurd (omega arith)
nth-before (x ∷ xs) ys zero h = refl
nth-before (x ∷ xs) ys (suc i) h = nth-before xs ys i (omega arith)

no_cell : (t : List ℕ) (c : ℕ) → get_or t c 0 ≡ 0 → super_in t c ≡ none
unfolding super_in
no_cell t c e = rw (e, super_in)

a-cell : (t : List ℕ) (c p : ℕ) → p < c → get_or t c 0 ≡ p + 1 → super_in t c ≡ some p
unfolding super_in lower
a-cell t c p l e = rw (e ∙ add-one p, super_in) (rw (lt-ltb p c l, lower) refl)

no-class : (b : Base) (c : ℕ) → get_elem? b.classes c ≡ none → super_of b c ≡ none
unfolding super_of
no-class b c e = rw (e, super_of)

-- a table of all 64
pub supers-in : (b : Base) → length b.classes ≤ 64 → (c : ℕ) → super_in (rows (super_cell b) 64 0) c ≡ super_of b c
supers-in b h c = go (ltb c 64) refl
  where
    cell : c < 64 → get_or (rows (super_cell b) 64 0) c 0 ≡ super_cell b c
    cell l = let z : 0 + c ≡ c = omega arith in rw z at (rows-get_d (super_cell b) 64 0 c 0 l)

    inside : c < 64 → (o : Option ℕ) → super_of b c ≡ o → super_in (rows (super_cell b) 64 0) c ≡ o
    inside l none e = no_cell (rows (super_cell b) 64 0) c (cell l ∙ cell-none b c e)
    inside l (some p) e = a-cell (rows (super_cell b) 64 0) c p (super-falls b c p e) (cell l ∙ cell-some b c p e)

    go : (t : Bool) → ltb c 64 ≡ t → super_in (rows (super_cell b) 64 0) c ≡ super_of b c
    go true e = inside (ltb-true c 64 e) (super_of b c) refl
    go false e =
        let l : 64 ≤ c = ltb-false c 64 e in
        no_cell (rows (super_cell b) 64 0) c (get_or-eq_default (rows (super_cell b) 64 0) 0 {n = c} (omega (arith, rows-length (super_cell b) 64 0)))
        ∙ sym (no-class b c (nth_past b.classes c (omega arith)))

-- one class more
pub supers-more : (ks : List Class) (es : List Entry) (k : Class) (p : ℕ) (t : List ℕ) → length ks < length t → p < length ks
    → find es (at k.loader k.super) ≡ some p → ((c : ℕ) → super_in t c ≡ super_of (record { classes = ks; cache = es }) c)
    → (c : ℕ) → super_in (set t (length ks) (p + 1)) c ≡ super_of (record { classes = ks ++ (k ∷ []); cache = es }) c
unfolding super_of lower super_in
supers-more ks es k p t long less e s c = go (eqb c (length ks)) refl
  where
    here : super_in (set t (length ks) (p + 1)) (length ks) ≡ super_of (record { classes = ks ++ (k ∷ []); cache = es }) (length ks)
    here =
        a-cell (set t (length ks) (p + 1)) (length ks) p less (get_or-set_same t (length ks) (p + 1) 0 long)
        ∙ sym (rw (nth_last ks k, super_of) (rw e (rw (lt-ltb p (length ks) less, lower) refl)))

    base : Base
    base = record { classes = ks ++ (k ∷ []); cache = es }

    other : (c : ℕ) → (c ≡ length ks → ⊥) → super_of (record { classes = ks; cache = es }) c ≡ super_of base c
    other c q = before (ltb c (length ks)) refl
      where
        before : (b : Bool) → ltb c (length ks) ≡ b → super_of (record { classes = ks; cache = es }) c ≡ super_of base c
        before true l = rw (nth-before ks (k ∷ []) c (ltb-true c (length ks) l), super_of)
        before false l =
            let n : length ks ≤ c = ltb-false c (length ks) l in
            no-class (record { classes = ks; cache = es }) c (nth_past ks c n)
            ∙ sym (no-class base c (nth_past (ks ++ (k ∷ [])) c (omega (arith, length-append ks (k ∷ [])))))

    go : (b : Bool) → eqb c (length ks) ≡ b → super_in (set t (length ks) (p + 1)) c ≡ super_of base c
    go true q = rw (eqb-true c (length ks) q) here
    go false q =
        let n : c ≡ length ks → ⊥ = eqb-false c (length ks) q in
        ap (λ (x : ℕ). elim x as (λ _. Option ℕ) [ zero ↦ none | suc p ↦ lower c p ]) (get_or-set_other t (length ks) c (p + 1) 0 n) ∙ (s c ∙ other c n)

-- Why a store doesn't agree, over its tables, where the counts are within their limits, the table of superclasses has the store's, and the rows' numbers are in turn
pub reason-store : (w : World) (m : RowNumbers) (supers counts cache ties subtypes : List ℕ) → ((c : ℕ) → super_in supers c ≡ super_of w.base c)
    → w.base.cache ≡ rows (entry_at cache) (get_or counts 2 0) 0 → w.ties ≡ rows (tie_at ties) (get_or counts 3 0) 0
    → w.subtypes ≡ rows (subtype_at subtypes) (get_or counts 4 0) 0 → m ≡ numbers_in counts → get_or counts 2 0 ≤ 256 → get_or counts 3 0 ≤ 256 → get_or counts 4 0 ≤ 256
    → numbered m ≡ true → reason_in supers counts cache ties subtypes ≡ reason w m
unfolding reason_in numbers_fit reason
reason-store w m supers counts cache ties subtypes s e t u q h k l turn =
    let fit : numbered (numbers_in counts) ≡ true = ap numbered (sym q) ∙ turn in
    rw (fit, reason_in, within 256 (get_or counts 2 0) h, within 256 (get_or counts 3 0) k, within 256 (get_or counts 4 0) l)
    (λ i. reason_over row_before (λ c. s c i) (sym e i) (tie_links (sym t i) (sym q i).ties) (tie_links (sym t i) (sym q i).ties ++ subtype_links (sym u i) (sym q i).subtypes))

-- A store with one more entry: the copies hold it, and the test of agreement is the definition's, and the reason why there is none

module _ (counts classes kept cache : List ℕ) (ready : Searchable counts classes kept cache) (room : get_or counts 2 0 < 256)
    (l m c : ℕ) (zeros blank counted trial : List ℕ) (size : ℕ) (nl : length zeros ≡ size) (fits : 8 ≤ size) (el : length blank ≡ 768) (tried : Entered counts cache l m c zeros blank counted trial) where
  abbrev b : Base
  b = quick_base counts classes kept cache

  abbrev more : Base
  more = record { classes = b.classes; cache = b.cache ++ (entry l m c ∷ []) }

  -- the counts that are copied: those of the classes, and of the entries with one more
  counted-front : (i : ℕ) → i < 8 → get_or (write_rows set counts 0 zeros) i 0 ≡ get_or counts i 0
  counted-front i h = let z : 0 + i ≡ i = omega arith in rw z at (written-front counts 0 i zeros (omega (arith, ready.counts_long)) (omega arith))

  counted-classes : get_or counted 0 0 ≡ get_or counts 0 0
  counted-classes =
      ap (λ (x : List ℕ). get_or x 0 0) tried.count
      ∙ (get_or-set_other (write_rows set counts 0 zeros) 2 0 ((get_or counts 2 0 + 1) % 65536) 0 (λ e. omega arith) ∙ counted-front 0 (omega arith))

  counted-entries : get_or counted 2 0 ≡ get_or counts 2 0 + 1
  counted-entries =
      let z : (get_or counts 2 0 + 1) % 65536 ≡ get_or counts 2 0 + 1 = omega arith in
      ap (λ (x : List ℕ). get_or x 2 0) tried.count
      ∙ (get_or-set_same (write_rows set counts 0 zeros) 2 ((get_or counts 2 0 + 1) % 65536) 0 (omega (arith, write_rows-length set length-set counts 0 zeros)) ∙ z)

  -- all of them, where there is room
  pub counted_is : size ≡ counts_length → counted ≡ set counts 2 (get_or counts 2 0 + 1)
  counted_is nz =
      let z : (get_or counts 2 0 + 1) % 65536 ≡ get_or counts 2 0 + 1 = omega arith in
      tried.count ∙ (λ i. set (copied counts zeros (ready.counts_long ∙ sym (nl ∙ nz)) i) 2 (z i))

  pub counted-other : size ≡ counts_length → (j : ℕ) → (j ≡ 2 → ⊥) → get_or counted j 0 ≡ get_or counts j 0
  counted-other nz j h = ap (λ (x : List ℕ). get_or x j 0) (counted_is nz) ∙ get_or-set_other counts 2 j (get_or counts 2 0 + 1) 0 h

  trial-is : trial ≡ put_three cache (get_or counts 2 0) l m c
  trial-is = tried.row ∙ ap (λ (x : List ℕ). put_three x (get_or counts 2 0) l m c) (copied cache blank (ready.cache_long ∙ sym el))

  base_more : quick_base counted classes kept trial ≡ more
  unfolding quick_base
  base_more = rw (counted-classes, counted-entries, trial-is, entries-more cache (get_or counts 2 0) l m c (omega (arith, ready.cache_long)))

  classes-few : length b.classes ≡ get_or counts 0 0
  unfolding quick_base
  classes-few = rows-length (λ c. quick_class kept (class_row_at classes c)) (get_or counts 0 0) 0

  pub entries-are : (n : ℕ) → n ≡ get_or counted 2 0 → (n ≤ 256) × (rows (entry_at trial) n 0 ≡ more.cache)
  unfolding quick_base
  entries-are n h =
      let z : n ≡ get_or counts 2 0 + 1 = h ∙ counted-entries in
      (omega arith, (λ i. rows (entry_at (trial-is i)) (z i) 0) ∙ entries-more cache (get_or counts 2 0) l m c (omega (arith, ready.cache_long)))

  -- the newcomer is the last row
  new_is : (n new : ℕ) → n ≡ get_or counted 2 0 → new ≡ get_or counts 2 0 → new_in trial n new ≡ some (at l m)
  unfolding new_of put_entry
  new_is n new en ew =
      let z : n ≡ get_or counts 2 0 + 1 = en ∙ counted-entries in
      let row : entry_at trial new ≡ entry l m c =
      (λ i. entry_at (trial-is i) (ew i)) ∙ entry-rows.back cache (get_or counts 2 0) (entry l m c) (omega (arith, ready.cache_long)) tt in
      rw (within 256 n (entries-are n en).0, lt-ltb new n (omega arith), new_of) (ap (λ (e : Entry). some e.request) row)

  pub new-named : {sup : ℕ → Option ℕ} {es : List Entry} {ts ls : List (Edge Request)} {r : Check} (n new : ℕ) → n ≡ get_or counted 2 0 → new ≡ get_or counts 2 0
      → NamesOver sup es ts ls (new_in trial n new) r → NamesOver sup es ts ls (some (at l m)) r
  new-named {sup} {es} {ts} {ls} {r} n new en ew h = subst (λ (o : Option Request). NamesOver sup es ts ls o r) (new_is n new en ew) h

  module _ (empty supers : List ℕ) (long : length empty ≡ 64) (s : supers ≡ write_rows set (rows (super_cell (quick_base counted classes kept trial)) 64 0) 0 empty) where
    supers-filled : supers ≡ rows (super_cell more) 64 0
    supers-filled =
        s ∙ (copied (rows (super_cell (quick_base counted classes kept trial)) 64 0) empty (rows-length (super_cell (quick_base counted classes kept trial)) 64 0 ∙ sym long)
        ∙ ap (λ (x : Base). rows (super_cell x) 64 0) base_more)

    pub supers-are : (x : ℕ) → super_in supers x ≡ super_of more x
    supers-are x = ap (λ (y : List ℕ). super_in y x) supers-filled ∙ supers-in more (omega (arith, ready.classes_few, classes-few)) x

    -- define: a class k more, below p, whose cell says so
    module _ (k : Class) (p o : ℕ) (above : List ℕ) (few : get_or counts 0 0 < 64) (kl : l ≡ k.loader) (km : m ≡ k.name) (kc : c ≡ get_or counts 0 0) (ko : o ≡ c)
        (super : find b.cache (at k.loader k.super) ≡ some p) (ka : above ≡ set supers o (p + 1)) where
      class-is : c ≡ length b.classes
      class-is = kc ∙ sym classes-few

      pub cache-is : more.cache ≡ (base_with b k).cache
      cache-is =
          let row : ◌≡◌ {A = Entry} (entry l m c) (entry k.loader k.name (length b.classes)) = λ x. entry (kl x) (km x) (class-is x) in
          ap (λ (x : Entry). b.cache ++ (x ∷ [])) row

      pub above-are : (x : ℕ) → super_in above x ≡ super_of (base_with b k) x
      above-are x =
          let t : above ≡ set supers (length b.classes) (p + 1) = ka ∙ ap (λ (x : ℕ). set supers x (p + 1)) (ko ∙ class-is) in
          let less : p < length b.classes = omega (arith, ready.cached (at k.loader k.super) p super, classes-few) in
          let long64 : length supers ≡ 64 = ap length supers-filled ∙ rows-length (super_cell more) 64 0 in
          let old : (x : ℕ) → super_in supers x ≡ super_of (record { classes = b.classes; cache = (base_with b k).cache }) x =
          λ x. supers-are x ∙ ap (λ (y : List Entry). super_of (record { classes = b.classes; cache = y }) x) cache-is in
          ap (λ (y : List ℕ). super_in y x) t
          ∙ supers-more b.classes (base_with b k).cache k p supers (omega (arith, long64, classes-few)) less
          (find-more b.cache (entry k.loader k.name (length b.classes) ∷ []) (at k.loader k.super) p super) old x
