-- What a load can be refused for without a look at its code: there is no room for its file's bytes, its own request is cached already, or its superclass isn't under
-- its loader; or the class that it records has another name. Where that is so, it isn't accepted.
use Rattle.std.specs.Prelude.{◌≡◌, Bool, not, ◌&&◌, List, ℕ, ◌+◌, ◌*◌, length, eqb, leb, ltb}
use Rattle.std.proofs.Math.Path.{refl, sym}
use Rattle.std.proofs.Common.{ap, ◌∙◌}
use Rattle.std.proofs.Math.Bool.{true, false}
use Rattle.std.proofs.lemmas.Bool.{false≢true}
use Rattle.std.proofs.Math.Option.{Option, none, some, none-ne-some, some-injective}
use Rattle.std.proofs.Math.ListN.{get_or, get_elem?}
use borrow.Author.Tests.{eqb-true, eq-eqb, le-leb}
use Rattle.definition.specs.declared.Reply.{Reply}
use Rattle.definition.specs.Numbers.{count_kept, count_cache, loader_limit, kept_limit, file_limit, offer_cells}
use Rattle.definition.specs.Lists.{is_some, rows}
use Rattle.definition.specs.Instructions.{pick}
use Rattle.definition.specs.Answers.{Result, refused, ok}
use Rattle.definition.specs.Requests.{at}
use Rattle.definition.specs.Classes.{Base, Class, Entry, find}
use Rattle.definition.specs.File.{read_file}
use Rattle.definition.specs.Loading.{recorded}
use Rattle.definition.specs.Tables.{Tables, Rows, entry_at, view_over, view, world_of}
use Rattle.definition.specs.Broken.{broken}
use Rattle.definition.specs.Calls.{Given, Load, load_define, load_record, load_rows, define_rows, record_rows}
use Rattle.definition.specs.Offers.{loaded}
use Rattle.laws.specs.Results.{bind_ok, need-ok, take-ok}
use Rattle.layout.specs.Places.{rows-length}
use Rattle.unbroken.specs.Accepted.{defined-is}
use Rattle.classfile.specs.Reading.{class_name, super_name, part_of}
use Rattle.classfile.specs.Laws.{file-readable, name_of, super-of}
use Rattle.resolution.specs.Quick.{quick_of, either, class-there, class-past}
use Rattle.resolution.specs.Lookups.{name_in, class-name}
use Rattle.resolution.specs.Unbroken.{quick-base}
use Rattle.searching.specs.Offered.{cell_of, load_of, load_at}

-- a file's bytes, behind n that are kept
unfoldable pub could_keep : ℕ → List ℕ → Bool
could_keep n bs = leb (length bs) file_limit && leb (n + length bs) kept_limit

unfoldable pub could_define : ℕ → List Entry → ℕ → List ℕ → Bool
could_define n es l bs = ltb l loader_limit && (could_keep n bs && (is_some (find es (at l (super_name bs))) && not (is_some (find es (at l (class_name bs))))))

-- by the tables of the counts, classes, kept bytes and cache
unfoldable pub could_load : List ℕ → List ℕ → List ℕ → List ℕ → List ℕ → ℕ → ℕ → ℕ → ℕ → Bool
could_load counts classes kept cache files k l a b =
    pick (eqb k 1) (could_define (get_or counts count_kept 0) (rows (entry_at cache) (get_or counts count_cache 0) 0) l (part_of files a b)) (eqb (name_in counts classes kept b) a)

unfoldable pub could_at : List ℕ → List ℕ → List ℕ → List ℕ → List ℕ → List ℕ → ℕ → Bool
could_at counts classes kept cache cells files i =
    could_load counts classes kept cache files (get_or cells (i * offer_cells) 0) (cell_of cells i 1) (cell_of cells i 2) (cell_of cells i 3)

-- A load that is accepted

accepted : (c : Load) (r s : Rows) → loaded c r ≡ some s → (g : Given Reply) × (load_rows c r ≡ ok g)
unfolding loaded
accepted c r s h = go (load_rows c r) refl h
  where
    go : (o : Result (Given Reply)) → load_rows c r ≡ o → (elim o as (λ _. Option Rows) [ ok g ↦ some g.rows | refused w ↦ none ]) ≡ some s → (g : Given Reply) × (load_rows c r ≡ ok g)
    go (ok g) e k = (g, e)
    go (refused w) e k = absurd (none-ne-some s k)

pub could-define : (l : ℕ) (bs : List ℕ) (r s : Rows) → loaded (load_define l bs) r ≡ some s → could_define (length r.kept) r.cache l bs ≡ true
unfolding could_keep could_define define_rows is_some
could-define l bs r s h =
    let g = accepted (load_define l bs) r s h in
    let a = bind_ok _ _ g.1 in
    let b = bind_ok _ _ a.2 in
    let c = bind_ok _ _ b.2 in
    let f : read_file bs ≡ some b.0 = take-ok _ _ b.1 in
    let d = defined-is _ _ (world_of r) c.0 c.1 in
    let k : could_keep (length r.kept) bs ≡ true = λ i. le-leb (length bs) file_limit (file-readable bs b.0 f).size i && d.kept i in
    let x : find r.cache (at l (super_name bs)) ≡ some d.super = ap (λ (n : ℕ). find r.cache (at l n)) (super-of bs b.0 f) ∙ d.cached in
    let y : find r.cache (at l (class_name bs)) ≡ none = ap (λ (n : ℕ). find r.cache (at l n)) (name_of bs b.0 f) ∙ d.fresh in
    λ i. need-ok _ _ a.1 i && (k i && (is_some (x i) && not (is_some (y i))))

module _ (t : Tables) (h : broken t ≡ false) where
  classes-quick : (world_of (view t)).base ≡ quick_of t
  unfolding view view_over
  classes-quick = sym (quick-base t h)

  named : (c : ℕ) (k : Class) → get_elem? (quick_of t).classes c ≡ some k → name_in t.counts t.classes t.kept c ≡ k.name
  named c k e = either c (get_or t.counts 0 0)
      (λ l. sym (class-name t.counts t.classes t.kept c l) ∙ ap (λ (x : Class). x.name) (some-injective _ k (sym (class-there t.counts t.classes t.kept t.cache c l) ∙ e)))
      (λ l. absurd (none-ne-some k (sym (class-past t.counts t.classes t.kept t.cache c l) ∙ e)))

  pub could-record : (l n c : ℕ) (s : Rows) → loaded (load_record l n c) (view t) ≡ some s → eqb (name_in t.counts t.classes t.kept c) n ≡ true
  unfolding record_rows recorded
  could-record l n c s e =
      let g = accepted (load_record l n c) (view t) s e in
      let v = bind_ok _ _ g.1 in
      let a = bind_ok _ _ v.1 in
      let b = bind_ok _ _ a.2 in
      let d = bind_ok _ _ b.2 in
      eq-eqb _ n (named c b.0 (ap (λ (x : Base). get_elem? x.classes c) (sym classes-quick) ∙ take-ok _ _ b.1) ∙ eqb-true b.0.name n (need-ok _ _ d.1))

  shown-cache : (view t).cache ≡ rows (entry_at t.cache) (get_or t.counts count_cache 0) 0
  unfolding view view_over
  shown-cache = refl

  kept-many : length (view t).kept ≡ get_or t.counts count_kept 0
  unfolding view view_over
  kept-many = rows-length (λ i. get_or t.kept i 0) (get_or t.counts count_kept 0) 0

  load-not : (files : List ℕ) (k l a b : ℕ) → could_load t.counts t.classes t.kept t.cache files k l a b ≡ false → loaded (load_of files k l a b) (view t) ≡ none
  unfolding could_load load_of pick
  load-not files k l a b = go (eqb k 1)
    where
      go : (y : Bool) → pick y (could_define (get_or t.counts count_kept 0) (rows (entry_at t.cache) (get_or t.counts count_cache 0) 0) l (part_of files a b)) (eqb (name_in t.counts t.classes t.kept b) a) ≡ false
          → loaded (pick y (load_define l (part_of files a b)) (load_record l a b)) (view t) ≡ none
      go true e = by (loaded (load_define l (part_of files a b)) (view t)) refl
        where
          by : (o : Option Rows) → loaded (load_define l (part_of files a b)) (view t) ≡ o → o ≡ none
          by none q = refl
          by (some s) q = absurd (false≢true (sym e ∙ ((λ i. could_define (sym kept-many i) (sym shown-cache i) l (part_of files a b)) ∙ could-define l (part_of files a b) (view t) s q)))
      go false e = by (loaded (load_record l a b) (view t)) refl
        where
          by : (o : Option Rows) → loaded (load_record l a b) (view t) ≡ o → o ≡ none
          by none q = refl
          by (some s) q = absurd (false≢true (sym e ∙ could-record l a b s q))

  -- where it can be refused so, it isn't accepted
  pub could-not : (cells files : List ℕ) (i : ℕ) → could_at t.counts t.classes t.kept t.cache cells files i ≡ false → loaded (load_at cells files i) (view t) ≡ none
  unfolding could_at load_at
  could-not cells files i e = load-not files _ _ _ _ e
