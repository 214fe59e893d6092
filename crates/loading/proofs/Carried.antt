-- define on tables: what is admitted of it, and that what a new class writes is what the definition puts.
use mathlib.Core.Path.{◌≡◌, refl, sym, ap, subst, ◌∙◌}
use mathlib.Core.Bool.{Bool, true, false}
use mathlib.Core.Option.{Option, none, some, some-injective}
use mathlib.Core.List.{List, [], ◌∷◌, ◌++◌, append-nil}
use Prim.Native.Nat.{ℕ, ◌+◌, ◌-◌, ◌<◌, ◌≤◌}
use native.Mathlib.Omega.{arith}
use lib.ListN.{length, get_or, set, take, drop, length-append, length-set}
use lib.Seq.{sets, get_or-set_same, get_or-set_other}
use lib.Dec.{leb, ltb, eqb}
use borrow.Author.Tests.{eqb-true}
use Rattle.definition.specs.declared.Refusal.TheVariants.{Word}
use Rattle.definition.specs.declared.Reply.{Reply}
use Rattle.definition.specs.declared.Reply.TheVariants.{Defined, Denied}
use Rattle.definition.specs.Numbers.{tie_numbers_cell, subtype_numbers_cell}
use Rattle.definition.specs.Lists.{rows, all, write_rows}
use Rattle.definition.specs.Requests.{at}
use Rattle.definition.specs.Classes.{Base, Class, find}
use Rattle.definition.specs.Constraints.{World, Tie, Subtype, agrees}
use Rattle.definition.specs.Answers.{Result, refused, ok, number, ◌>>=◌, need, take?}
use Rattle.definition.specs.File.{File, read_file, class_of}
use Rattle.definition.specs.Loading.{define, with_class}
use Rattle.definition.specs.Tables.{Tables, tables, put, put_three, tie_at, put_tie, subtype_at, put_subtype, put_number, Rows, world_of, ties_of, numbers_of, view, view_over, view_base}
use Rattle.definition.specs.Verifier.{notes_of}
use Rattle.definition.specs.Groups.{groups_of}
use Rattle.definition.specs.Broken.{tie_fits, broken}
use Rattle.definition.specs.Calls.{Given, numbers_from, Done, done, add_file, given, define_rows, wrap, load_define, call_define, perform}
use Rattle.definition.specs.Reasons.{reason, after_define, reason_after}
use Rattle.laws.specs.Options.{bind-some}
use Rattle.laws.specs.Refusals.{Refuses, on-bind}
use Rattle.layout.specs.Places.{rows-length, write_rows-length}
use Rattle.layout.specs.Cells.{tie-rows, subtype-rows, cells-sets}
use Rattle.layout.specs.NumberedRows.{numbers-before}
use Rattle.layout.specs.TracedRows.{put_trace-before}
use Rattle.layout.specs.GroupedRows.{SameGroups}
use Rattle.layout.specs.View.{count_at, kept-fill, classes-fill, remembering, regrouped-none, groups-unwritten, class-writes}
use Rattle.layout.specs.View as layout
use Rattle.layout.specs.Tests.{All, all-test, all_both}
use Rattle.layout.specs.Whole.{Between, tie-fits}
use Rattle.layout.specs.Unbroken.{unbroken, broken-false}
use Rattle.unbroken.specs.WholeRows.{ready, overs-between}
use Rattle.unbroken.specs.Unbroken.{kept-unbroken}
use Rattle.groups.specs.Numbered.{regrouped}
use Rattle.groups.specs.Kept.{regrouped-kept}
use Rattle.classfile.specs.Reading.{super_name, quick_file}
use Rattle.classfile.specs.Laws.{file-readable}
use Rattle.resolution.specs.Quick.{quick_base}
use Rattle.constraints.specs.Laws.{Beside}
use Rattle.entries.specs.World.{world, base_with, quick_world, quick-world, loadable}
use Rattle.entries.specs.Offers.{offered}
use Rattle.entries.proofs.Laws.{copied}
use Rattle.entries.proofs.Calls.{wrap-given}
use Rattle.entries.proofs.Offers.{reason-after}
use Rattle.loading.specs.declared.loads.Newcomer.{Newcomer}
use Rattle.std.specs.Prelude.{Ok, Err}
use Rattle.loading.specs.Stages.{ClassPlan, judged_world, defined_from, Placing, Decided}
use Rattle.loading.specs.Writing.{numbers_on, numbers_after, Grown}
use Rattle.loading.specs.Plans.{added, file_of, new_world, Placed, new_reply, counts_over, counts_with, grouped_with, written, Groupable, Newly, Admitted}
use Rattle.loading.proofs.Remembered.{counts-remembered}
use Rattle.loading.proofs.Numbered.{numbers-given, numbers-in-turn}
use Rattle.loading.proofs.Defined.{loader-known}
use Rattle.loading.proofs.Copied.{base-class}
use Rattle.loading.proofs.Admitted.{reply-class, admits-refused, whole_by}
use Rattle.loading.proofs.Recorded.{stored-groups}

-- groups are beside the same ties in another table
beside_same : (ties u groups : List ℕ) (n : ℕ) → rows (tie_at u) n 0 ≡ rows (tie_at ties) n 0 → Beside ties groups n → Beside u groups n
beside_same ties u groups n e b = record {
  numbers = b.numbers;
  long = b.long ∙ ap length (sym e);
  once = b.once;
  are = b.are ∙ ap (λ (ts : List Tie). groups_of ts b.numbers) (sym e);
}

-- no tie more
none-added : (ts us : List Tie) → length us ≡ 0 → ts ++ us ≡ ts
none-added ts [] h = append-nil ts
none-added ts (u ∷ us) h = absurd (omega (arith, h))

-- the call on rows, after the world is decided
rows-from : (l : ℕ) (bs : List ℕ) (r : Rows)
    → define_rows l bs r
    ≡ (defined_from l bs (leb (length r.kept + length bs) 16384) (world_of r) >>= λ w. given (Defined (length r.classes)) (add_file l bs r w))
unfolding define_rows defined_from need take? ◌>>=◌
rows-from l bs r = go (ltb l 16) (read_file bs)
  where
    go : (a : Bool) (o : Option File)
        → (need a (Word 3) >>= λ _. take? o (Word 2) >>= λ f. define (leb (length r.kept + length bs) 16384) (class_of l f) (world_of r) >>= λ w.
        given (Defined (length r.classes)) (add_file l bs r w))
        ≡ ((need a (Word 3) >>= λ _. take? o (Word 2) >>= λ f. define (leb (length r.kept + length bs) 16384) (class_of l f) (world_of r)) >>= λ w.
        given (Defined (length r.classes)) (add_file l bs r w))
    go false o = refl
    go true none = refl
    go true (some f) = refl

-- a file of which something is made has at most 4,096 bytes
file-fits : (l : ℕ) (bs : List ℕ) (w v : World) → after_define l bs w ≡ some v → length bs ≤ 4096
unfolding after_define
file-fits l bs w v h = let f = bind-some (read_file bs) _ h in (file-readable bs f.0 f.1).size

-- the ties of the store with a new class lie between loaders
after-between : (t : Tables) → broken t ≡ false → (l : ℕ) → l < 16 → (bs : List ℕ) (v : World) → after_define l bs (world_of (view t)) ≡ some v → All Between v.ties
unfolding after_define
after-between t sound l known bs v h =
    let f = bind-some (read_file bs) _ h in
    let ns = bind-some (notes_of (class_of l f.0) (class_of l f.0).methods) _ f.2 in
    let p = bind-some (find (world_of (view t)).base.cache (at l (class_of l f.0).super)) _ ns.2 in
    subst (λ (w : World). All Between w.ties) (some-injective _ v p.2)
    (all_both Between (view t).ties _ (unbroken t sound).sounds.ties
    (overs-between (world_of (view t)).base (ready (view t) (broken-false t sound).1).loaders l known p.0 (view t).ties f.0.methods))

module _ (t : Tables) (l : ℕ) (bs : List ℕ) (sound : broken t ≡ false) where
  abbrev room : Bool
  room = leb (count_at t 1 + length bs) 16384

  kept-count : length (view t).kept ≡ count_at t 1
  unfolding view view_over
  kept-count = (kept-fill t).count

  classes-count : length (view t).classes ≡ count_at t 0
  unfolding view view_over
  classes-count = (classes-fill t).count

  from : (o : Result World) → o ≡ defined_from l bs room (quick_world t) → define_rows l bs (view t) ≡ (o >>= λ w. given (Defined (count_at t 0)) (add_file l bs (view t) w))
  from o e =
      rows-from l bs (view t)
      ∙ (λ i. defined_from l bs (leb (kept-count i + length bs) 16384) (sym (quick-world t sound) i) >>= λ w. given (Defined (classes-count i)) (add_file l bs (view t) w))
      ∙ ap (λ (x : Result World). x >>= λ w. given (Defined (count_at t 0)) (add_file l bs (view t) w)) (sym e)

  -- with a loader that is there, no refusal is 3
  pub define-known : l < 16 → Refuses (λ x. number x ≡ 3 → ⊥) (define_rows l bs (view t))
  define-known h =
      subst (λ (o : Result (Given Reply)). Refuses (λ x. number x ≡ 3 → ⊥) o) (sym (from (defined_from l bs room (quick_world t)) refl))
      (on-bind (λ x. number x ≡ 3 → ⊥) (defined_from l bs room (quick_world t)) _ (loader-known l bs room (quick_world t) h) (λ _ _. tt))

  module _ (size : ℕ) (long : 512 ≤ size) (u v : List ℕ) where
    abbrev offer : Rows → Result (Given Reply)
    offer = offered size (load_define l bs)

    -- A class that is up to agreement

    module _ (n : Newcomer) (a : Placing (defined_from l bs room (quick_world t)) (after_define l bs (quick_world t)) (quick_world t) (class_of l (quick_file bs)) t.counts t.ties t.subtypes u v n) where
      abbrev k : Class
      k = class_of l (quick_file bs)

      abbrev us : List Tie
      us = a.ties

      abbrev ss : List Subtype
      ss = a.subtypes

      abbrev base : Base
      base = quick_base t.counts t.classes t.kept t.cache

      -- the copies hold the store with it
      world_is : new_world n bs base u v ≡ with_class (quick_world t) k us ss
      unfolding quick_file
      world_is =
          ap (λ (b : Base). world b (rows (tie_at u) n.tied 0) (rows (subtype_at v) n.noted 0))
          (base-class n bs base a.super a.above ∙ ap (λ (x : ℕ). base_with base (class_of x (quick_file bs))) a.loader)
          ∙ a.both

      clashes : agrees (new_world n bs base u v) ≡ false → define_rows l bs (view t) ≡ refused (Word 9)
      unfolding judged_world need ◌>>=◌
      clashes q = from (refused (Word 9)) (sym (rw (sym (ap agrees world_is) ∙ q) at (sym a.judged)))

      made : agrees (new_world n bs base u v) ≡ true → ok (with_class (quick_world t) k us ss) ≡ defined_from l bs room (quick_world t)
      unfolding judged_world need ◌>>=◌
      made q = sym (rw (sym (ap agrees world_is) ∙ q) at (sym a.judged))

      grown : Grown t.counts n.tied n.noted
      grown = record { ties = omega (arith, a.tied); ties_few = a.few.0; subtypes = omega (arith, a.noted); subtypes_few = a.few.1 }

      -- what was written is what is put

      abbrev counts5 : List ℕ
      counts5 = (count_at t 0 + 1) ∷ (count_at t 1 + length bs) ∷ (count_at t 2 + 1) ∷ (count_at t 3 + length us) ∷ (count_at t 4 + length ss) ∷ []

      abbrev numbered-with : ℕ → ℕ → ℕ → List ℕ → List ℕ
      numbered-with x m n c =
          write_rows (put_number tie_numbers_cell) (numbers_from x m) (count_at t 3)
          (write_rows (put_number subtype_numbers_cell) (numbers_from (count_at t 3 + count_at t 4) n) (count_at t 4) c)

      -- the counts before groups are made anew
      abbrev ungrouped : List ℕ
      ungrouped = remembering (view_base t) t (numbered-with (count_at t 3 + count_at t 4 + length ss) (length us) (length ss) (sets t.counts 0 counts5))

      abbrev left : Tables
      left =
          tables (layout.regrouped (view_base t) t (count_at t 3 + count_at t 4 + length ss) us ungrouped)
          (put_three t.classes (count_at t 0) l (count_at t 1) (length bs)) (write_rows set bs (count_at t 1) t.kept)
          (put_three t.cache (count_at t 2) k.loader k.name (count_at t 0)) (write_rows put_tie us (count_at t 3) t.ties)
          (write_rows put_subtype ss (count_at t 4) t.subtypes) t.objects t.frames

      ties-are : write_rows set (take 768 u) 0 t.ties ≡ write_rows put_tie us (count_at t 3) t.ties
      ties-are =
          ap (λ (z : List ℕ). write_rows set z 0 t.ties) a.tie_cells
          ∙ copied (write_rows put_tie us (count_at t 3) t.ties) t.ties (write_rows-length put_tie tie-rows.long us (count_at t 3) t.ties)

      subtypes-are : write_rows set v 0 t.subtypes ≡ write_rows put_subtype ss (count_at t 4) t.subtypes
      subtypes-are =
          ap (λ (z : List ℕ). write_rows set z 0 t.subtypes) a.subtype_cells
          ∙ copied (write_rows put_subtype ss (count_at t 4) t.subtypes) t.subtypes (write_rows-length put_subtype subtype-rows.long ss (count_at t 4) t.subtypes)

      over-are : counts_over n (count_at t 0 + 1) (count_at t 1 + length bs) t.counts t.counts
          ≡ numbered-with (count_at t 3 + count_at t 4 + length ss) (length us) (length ss) (sets t.counts 0 counts5)
      unfolding counts_over numbers_on
      over-are =
          let p : count_at t 3 + n.noted ≡ count_at t 3 + count_at t 4 + length ss = omega (arith, a.noted) in
          let q : n.tied - count_at t 3 ≡ length us = omega (arith, a.tied) in
          let r : n.noted - count_at t 4 ≡ length ss = omega (arith, a.noted) in
          let five : write_rows set ((count_at t 0 + 1) ∷ (count_at t 1 + length bs) ∷ (count_at t 2 + 1) ∷ n.tied ∷ n.noted ∷ []) 0 t.counts ≡ sets t.counts 0 counts5 =
          (λ z. write_rows set ((count_at t 0 + 1) ∷ (count_at t 1 + length bs) ∷ (count_at t 2 + 1) ∷ a.tied z ∷ a.noted z ∷ []) 0 t.counts) ∙ cells-sets counts5 0 t.counts in
          λ z. numbered-with (p z) (q z) (r z) (five z)

      counts-are : counts_with n (count_at t 0 + 1) (count_at t 1 + length bs) t.counts
          ≡ remembering (view_base t) t (numbered-with (count_at t 3 + count_at t 4 + length ss) (length us) (length ss) (sets t.counts 0 counts5))
      counts-are = counts-remembered n (count_at t 0 + 1) (count_at t 1 + length bs) (view_base t) t grown (unbroken t sound).counts.trace ∙ ap (remembering (view_base t) t) over-are

      -- what the definition leaves is not broken
      rows_are : agrees (new_world n bs base u v) ≡ true → define_rows l bs (view t) ≡ given (Defined (count_at t 0)) (add_file l bs (view t) (with_class (world_of (view t)) k us ss))
      unfolding ◌>>=◌
      rows_are q =
          from (ok (with_class (quick_world t) k us ss)) (made q)
          ∙ ap (λ (w : World). given (Defined (count_at t 0)) (add_file l bs (view t) (with_class w k us ss))) (quick-world t sound)

      left-puts : put (add_file l bs (view t) (with_class (world_of (view t)) k us ss)) t ≡ left
      unfolding view
      left-puts = class-writes (view_base t) t l bs k us ss (omega (arith, a.tied, a.few.0)) (omega (arith, a.noted, a.few.1))

      left-unbroken : agrees (new_world n bs base u v) ≡ true → broken left ≡ false
      unfolding perform
      left-unbroken q =
          subst (λ (d : Done Reply). broken d.tables ≡ false) (sym (wrap-given Denied (define_rows l bs) t sound (Defined (count_at t 0)) (add_file l bs (view t) (with_class (world_of (view t)) k us ss)) left (rows_are q) left-puts))
          (kept-unbroken (call_define l bs) t sound)

      -- groups made anew are those that it puts; where no tie was posted they stay

      abbrev five1 : List ℕ
      five1 = set t.counts 0 (count_at t 0 + 1)

      abbrev five2 : List ℕ
      five2 = set five1 1 (count_at t 1 + length bs)

      abbrev five3 : List ℕ
      five3 = set five2 2 (count_at t 2 + 1)

      abbrev five4 : List ℕ
      five4 = set five3 3 (count_at t 3 + length us)

      five-groups : SameGroups t.counts (sets t.counts 0 counts5)
      five-groups = λ j h.
          get_or-set_other five4 4 j (count_at t 4 + length ss) 0 (λ e. omega arith)
          ∙ (get_or-set_other five3 3 j (count_at t 3 + length us) 0 (λ e. omega arith)
          ∙ (get_or-set_other five2 2 j (count_at t 2 + 1) 0 (λ e. omega arith)
          ∙ (get_or-set_other five1 1 j (count_at t 1 + length bs) 0 (λ e. omega arith) ∙ get_or-set_other t.counts 0 j (count_at t 0 + 1) 0 (λ e. omega arith))))

      three-long : length five3 ≡ length t.counts
      three-long = simp length-set

      tied-now : get_or ungrouped 3 0 ≡ count_at t 3 + length us
      tied-now =
          put_trace-before _ (numbered-with (count_at t 3 + count_at t 4 + length ss) (length us) (length ss) (sets t.counts 0 counts5)) 3 (omega arith)
          ∙ (numbers-before tie_numbers_cell (numbers_from (count_at t 3 + count_at t 4 + length ss) (length us)) (count_at t 3)
          (write_rows (put_number subtype_numbers_cell) (numbers_from (count_at t 3 + count_at t 4) (length ss)) (count_at t 4) (sets t.counts 0 counts5)) 3 (omega arith)
          ∙ (numbers-before subtype_numbers_cell (numbers_from (count_at t 3 + count_at t 4) (length ss)) (count_at t 4) (sets t.counts 0 counts5) 3 (omega arith)
          ∙ (get_or-set_other five4 4 3 (count_at t 4 + length ss) 0 (λ e. omega arith) ∙ get_or-set_same five3 3 (count_at t 3 + length us) 0 (omega (arith, (unbroken t sound).lengths.counts, three-long)))))

      none_of : (xs : List Tie) → length xs ≡ 0 → xs ≡ []
      none_of [] e = refl
      none_of (x ∷ xs) e = absurd (omega arith)

      groups-are : agrees (new_world n bs base u v) ≡ true
          → grouped_with n t.counts (write_rows put_tie us (count_at t 3) t.ties) ungrouped ≡ layout.regrouped (view_base t) t (count_at t 3 + count_at t 4 + length ss) us ungrouped
      unfolding grouped_with
      groups-are q = go (eqb n.tied (count_at t 3)) refl
        where
          anew : List ℕ
          anew = regrouped ungrouped (write_rows put_tie us (count_at t 3) t.ties) (get_or ungrouped 3 0)

          go : (b : Bool) → eqb n.tied (count_at t 3) ≡ b → elim b as (λ _. List ℕ) [ true ↦ ungrouped | false ↦ anew ] ≡ layout.regrouped (view_base t) t (count_at t 3 + count_at t 4 + length ss) us ungrouped
          go true e =
              let none : us ≡ [] = none_of us (omega (arith, eqb-true n.tied (count_at t 3) e, a.tied)) in
              subst (λ (xs : List Tie). ungrouped ≡ layout.regrouped (view_base t) t (count_at t 3 + count_at t 4 + length ss) xs ungrouped) (sym none)
              (sym (regrouped-none (view_base t) t (count_at t 3 + count_at t 4 + length ss) ungrouped (unbroken t sound).groups
              (groups-unwritten (view_base t) t (count_at t 3 + count_at t 4 + length ss) (length us) (length ss) (sets t.counts 0 counts5) (omega (arith, a.tied, a.few.0)) (omega (arith, a.noted, a.few.1)) five-groups)))
          go false e =
              regrouped-kept (ties_of t ++ us) ((numbers_of t).ties ++ numbers_from (count_at t 3 + count_at t 4 + length ss) (length us)) ungrouped
              (put_three t.classes (count_at t 0) l (count_at t 1) (length bs)) (write_rows set bs (count_at t 1) t.kept) (put_three t.cache (count_at t 2) k.loader k.name (count_at t 0))
              (write_rows put_tie us (count_at t 3) t.ties) (write_rows put_subtype ss (count_at t 4) t.subtypes) t.objects t.frames (left-unbroken q)
              (length-append (ties_of t) us ∙ (ap (λ (x : ℕ). x + length us) (rows-length (tie_at t.ties) (count_at t 3) 0) ∙ sym tied-now))

      cells_are : agrees (new_world n bs base u v) ≡ true → written (load_define l bs) n t u v ≡ left
      unfolding written quick_file
      cells_are q = λ z. tables (((λ y. grouped_with n t.counts (ties-are y) (counts-are y)) ∙ groups-are q) z)
          (put_three t.classes (count_at t 0) (a.loader z) (count_at t 1) (length bs)) (write_rows set bs (count_at t 1) t.kept)
          (put_three t.cache (count_at t 2) (a.loader z) (a.name z) (a.class z)) (ties-are z) (subtypes-are z) t.objects t.frames

      reply-is : new_reply n ≡ Defined (count_at t 0)
      reply-is = sym (reply-class n (λ z. omega (arith, a.above))) ∙ ap (λ (x : ℕ). Defined x) a.class

      puts : agrees (new_world n bs base u v) ≡ true → done (new_reply n) (written (load_define l bs) n t u v) ≡ wrap Denied offer t
      puts q =
          (λ z. done (reply-is z) (cells_are q z))
          ∙ wrap-given Denied offer t sound (Defined (count_at t 0)) (add_file l bs (view t) (with_class (world_of (view t)) k us ss)) left
          (whole_by (load_define l bs) t size u v sound long _ (rows_are q)) left-puts

      -- the numbers of its rows, and what a try lists

      abbrev ts : List Tie
      ts = rows (tie_at u) n.tied 0

      abbrev ns : List Subtype
      ns = rows (subtype_at v) n.noted 0

      ti : length ts ≡ n.tied
      ti = rows-length (tie_at u) n.tied 0

      sj : length ns ≡ n.noted
      sj = rows-length (subtype_at v) n.noted 0

      rows_grown : Grown t.counts (length ts) (length ns)
      rows_grown = rw (ti, sj) grown

      lists : reason (new_world n bs base u v) (numbers_after t.counts n.tied n.noted) ≡ reason_after (view t) (after_define l bs (world_of (view t)))
      lists =
          ap (reason (new_world n bs base u v)) (sym (numbers-given t sound ts ns rows_grown ∙ (λ z. numbers_after t.counts (ti z) (sj z))))
          ∙ (sym (reason-after (view t) (after_define l bs (quick_world t)) (new_world n bs base u v) (a.after ∙ ap some (sym world_is)))
          ∙ ap (λ (y : World). reason_after (view t) (after_define l bs y)) (quick-world t sound))

      ties-fit : l < 16 → all tie_fits (rows (tie_at u) n.tied 0) ≡ true
      ties-fit known =
          all-test tie_fits Between tie-fits (rows (tie_at u) n.tied 0)
          (subst (λ (w : World). All Between w.ties) (sym world_is)
          (after-between t sound l known bs (with_class (quick_world t) k us ss) (ap (after_define l bs) (sym (quick-world t sound)) ∙ a.after)))

      -- if no tie is posted, its ties are the stored ones, and so are their groups
      stored-fit : n.tied ≡ get_or t.counts 3 0 → Beside u (drop 937 t.counts) n.tied
      stored-fit e =
          let same : ts ≡ rows (tie_at t.ties) n.tied 0 = ap (λ (w : World). w.ties) world_is ∙ (none-added (rows (tie_at t.ties) (get_or t.counts 3 0) 0) us (omega (arith, e, a.tied)) ∙ ap (λ (x : ℕ). rows (tie_at t.ties) x 0) (sym e)) in
          beside_same t.ties u (drop 937 t.counts) n.tied same (subst (λ (x : ℕ). Beside t.ties (drop 937 t.counts) x) (sym e) (stored-groups t sound))

      pub class-newly : l < 16 → Newly (load_define l bs) t size u v n
      unfolding file_of Placed quick_file Groupable
      class-newly known = record {
        sound = sound;
        long = long;
        fits = record {
          sized = record { base = (loadable t sound).base; room = a.entry_room; class = omega (arith, a.class, a.class_room); grown = grown };
          placed = subst (λ (x : ℕ). Placed x n bs t.counts base) (sym a.above)
              (a.name, a.class, a.class_room, ap (λ (x : ℕ). find base.cache (at x (super_name bs))) a.loader ∙ a.cached);
        };
        file = file-fits l bs (quick_world t) _ a.after;
        clash = clashes;
        fine = puts;
        groups = (ties-fit known, stored-fit);
        turn = rw (ti, sj) at (numbers-in-turn t sound ts ns rows_grown);
        listed = lists;
      }

    pub class-admitted : l < 16 → (d : ClassPlan)
        → Decided d (defined_from l bs room (quick_world t)) (after_define l bs (quick_world t)) t.counts t.ties t.subtypes u v (quick_world t) (class_of l (quick_file bs))
        → Admitted (added d) (load_define l bs) t size u v
    unfolding Decided Admitted ◌>>=◌
    class-admitted known (Err w) h = admits-refused (load_define l bs) t size u v sound long w (from (refused w) h.0) h.1
    class-admitted known (Ok n) h = class-newly n h known
