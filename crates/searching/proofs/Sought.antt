-- The search's tests, in order, and what it answers and leaves where none fails.
use Rattle.std.specs.Prelude as code
use Rattle.std.specs.Prelude.{Some, None, Ok, Err}
use mathlib.Core.Path.{◌≡◌, refl, sym, ap, ◌∙◌}
use mathlib.Core.Bool.{Bool, true, false, not, false≢true, ◌&&◌}
use mathlib.Core.Option.{Option, none, some}
use mathlib.Core.List.{List}
use Prim.Native.Nat.{ℕ, ◌+◌, ◌/◌, ◌<◌, ◌≤◌}
use native.Mathlib.Omega.{arith}
use lib.ListN.{length, get_or}
use lib.Dec.{eqb, leb, ltb}
use borrow.Author.Tests.{eqb-true, eqb-false, lt-ltb, le-ltb, le-leb, lt-leb}
use Rattle.definition.specs.declared.Refusal.{Refusal}
use Rattle.definition.specs.declared.Refusal.TheVariants.{Word}
use Rattle.definition.specs.Numbers.{count_cache, loader_limit, name_object}
use Rattle.definition.specs.Lists.{rows, is_some}
use Rattle.definition.specs.Requests.{Request, at}
use Rattle.definition.specs.Classes.{find}
use Rattle.definition.specs.Tables.{Tables, shaped, entry_at, view_over, view}
use Rattle.definition.specs.Broken.{broken}
use Rattle.definition.specs.Calls.{Load, Call, perform_all}
use Rattle.definition.specs.Offers.{offers_in, order}
use Rattle.definition.specs.Searching.{found, searched, sought, search}
use Rattle.laws.specs.Orders.{order-works}
use Rattle.layout.specs.Tests.{All, all_more}
use Rattle.layout.specs.ReadBack.{shaped-true, true-shaped}
use Rattle.layout.specs.Unbroken.{unbroken}
use Rattle.unbroken.specs.Searched.{works-on, first-fails, second-fails, third}
use Rattle.copying.specs.Copied.{copied_tables, filled}
use Rattle.cells.specs.Optional.{optional, optional-none, optional-some}
use Rattle.searching.specs.Offered.{is_for_at, offers_of, offers-read, offers-count, offers-few}
use Rattle.searching.specs.Ordering.{Fewest, digits, cached_order, shortest_of}
use Rattle.searching.specs.Wanted.{NoneFor, order-unwanted}
use Rattle.searching.specs.Replayed.{numbers_in, numbers-back, loads_at, loads-calls}
use Rattle.searching.specs.Found.{sought_by, count_in, order_in, Clear, Denies}

-- a second store of the published lengths becomes a box that isn't broken
pub copied-box : (box second : Tables) → shaped second ≡ true → broken box ≡ false → copied_tables box second ≡ box
copied-box box second s h = filled box second (unbroken box h).lengths (shaped-true second s)

-- tables whose lengths stay keep those that are published
pub still-shaped : (t u : Tables) → shaped t ≡ true → length u.counts ≡ length t.counts → length u.classes ≡ length t.classes → length u.kept ≡ length t.kept
    → length u.cache ≡ length t.cache → length u.ties ≡ length t.ties → length u.subtypes ≡ length t.subtypes → length u.objects ≡ length t.objects
    → length u.frames ≡ length t.frames → shaped u ≡ true
still-shaped t u s a b c d e f g h =
    let l = shaped-true t s in
    true-shaped u (record {
      counts = a ∙ l.counts;
      classes = b ∙ l.classes;
      kept = c ∙ l.kept;
      cache = d ∙ l.cache;
      ties = e ∙ l.ties;
      subtypes = f ∙ l.subtypes;
      objects = g ∙ l.objects;
      frames = h ∙ l.frames;
    })

-- what is found, and made, on a copy of the box's

pub copy-whole : (box second v : Tables) → v ≡ copied_tables box second → shaped second ≡ true → broken box ≡ false → broken v ≡ false
copy-whole box second v e s h = ap broken (e ∙ copied-box box second s h) ∙ h

pub copy-order : (cells files : List ℕ) (q : Request) (box second v : Tables) (a : Fewest) → v ≡ copied_tables box second → shaped second ≡ true → broken box ≡ false
    → a ≡ shortest_of (order (offers_of cells files) q (view v)) → a ≡ shortest_of (order (offers_of cells files) q (view box))
copy-order cells files q box second v a e s h z = z ∙ ap (λ (t : Tables). shortest_of (order (offers_of cells files) q (view t))) (e ∙ copied-box box second s h)

pub copy-loads : (cs : List Call) (box second v u : Tables) → v ≡ copied_tables box second → shaped second ≡ true → broken box ≡ false
    → u ≡ (perform_all cs v).tables → u ≡ (perform_all cs box).tables
copy-loads cs box second v u e s h z = z ∙ ap (λ (t : Tables). (perform_all cs t).tables) (e ∙ copied-box box second s h)

-- no offer is for the request: the first i aren't, and then none is

module _ (cells files : List ℕ) (l m : ℕ) where
  abbrev pub NoneYet : ℕ → Type 0
  NoneYet i = (j : ℕ) → j < i → is_for_at cells files (at l m) j ≡ false

  pub none-start : NoneYet 0
  none-start j k = absurd (omega (arith, k))

  pub none_more : (i x : ℕ) → NoneYet i → x ≡ l → is_for_at cells files (at x m) i ≡ false → NoneYet (i + 1)
  none_more i x h e f j k = go (eqb j i) refl
    where
      go : (b : Bool) → eqb j i ≡ b → is_for_at cells files (at l m) j ≡ false
      go true q = ap (is_for_at cells files (at l m)) (eqb-true j i q) ∙ (ap (λ (y : ℕ). is_for_at cells files (at y m) i) (sym e) ∙ f)
      go false q = h j (omega (arith, k, eqb-false j i q))

  pub none_end : (i n : ℕ) → NoneYet i → n ≤ i → n ≡ length cells / 4 → NoneFor cells files (at l m)
  none_end i n h k e j w = h j (omega (arith, k, e, w))

pub loads-there : (o : Option ℕ) (f : code.Option ℕ) (n : ℕ) → f ≡ optional o → f ≡ Some n → Some (record { loads = 0; code = 0 }) ≡ shortest_of (cached_order o)
unfolding shortest_of cached_order digits
loads-there o f n e q = rw (optional-some o n (sym e ∙ q)) refl

pub loads-absent : (o : Option ℕ) (f : code.Option ℕ) → f ≡ optional o → f ≡ None → None ≡ shortest_of (cached_order o)
unfolding shortest_of cached_order
loads-absent o f e q = rw (optional-none o (sym e ∙ q)) refl

pub unwanted : (cells files : List ℕ) (l m : ℕ) (t : Tables) → is_some (offers_in cells files) ≡ true → NoneFor cells files (at l m) → (s : Fewest)
    → s ≡ shortest_of (cached_order (find (rows (entry_at t.cache) (get_or t.counts count_cache 0) 0) (at l m))) → s ≡ shortest_of (order (offers_of cells files) (at l m) (view t))
unfolding view view_over
unwanted cells files l m t reads h s e = e ∙ ap shortest_of (sym (order-unwanted cells files (at l m) reads h (view t)))

module _ (l n : ℕ) (cells files : List ℕ) (box second : Tables) where
  pub search-denied : (w : Refusal) → Denies l n cells files box second w → searched (sought_by (Err w)) second ≡ search l n cells files box second
  unfolding sought_by
  search-denied w e = sym e

  pub other-lengths : shaped second ≡ false → Denies l n cells files box second (Word 1)
  other-lengths e = first-fails l n cells files box second (ap (λ (b : Bool). b && not (broken box)) e)

  module _ (s : shaped second ≡ true) where
    pub broken-box : broken box ≡ true → Denies l n cells files box second (Word 1)
    broken-box e = first-fails l n cells files box second (λ i. s i && not (e i))

    module _ (h : broken box ≡ false) where
      first_holds : (shaped second && not (broken box)) ≡ true
      first_holds = λ i. s i && not (h i)

      pub no-loader : loader_limit ≤ l → Denies l n cells files box second (Word 3)
      no-loader e = second-fails l n cells files box second first_holds (ap (λ (b : Bool). b && leb name_object n) (le-ltb l loader_limit e))

      module _ (a : l < loader_limit) where
        pub no_name : n < name_object → Denies l n cells files box second (Word 3)
        no_name e = second-fails l n cells files box second first_holds (λ i. lt-ltb l loader_limit a i && lt-leb name_object n e i)

        module _ (b : name_object ≤ n) where
          second_holds : (ltb l loader_limit && leb name_object n) ≡ true
          second_holds = λ i. lt-ltb l loader_limit a i && le-leb name_object n b i

          pub unread : is_some (offers_in cells files) ≡ false → Denies l n cells files box second (Word 20)
          unfolding is_some
          unread e = third l n cells files box second first_holds second_holds none (go (offers_in cells files) e)
            where
              go : (o : Option (List Load)) → is_some o ≡ false → o ≡ none
              go none f = refl
              go (some cs) f = absurd (false≢true (sym f))

          pub cleared : is_some (offers_in cells files) ≡ true → Clear l n cells files box second
          cleared e = record {
            shapes = s;
            whole = h;
            loader = a;
            reads = e;
            seeks = third l n cells files box second first_holds second_holds (some (offers_of cells files)) (offers-read cells files e);
          }

  -- what is found, and the second store after those loads
  module _ (k : Clear l n cells files box second) where
    in-range : (is : List ℕ) → order (offers_of cells files) (at l n) (view box) ≡ some is → All (λ i. i < length cells / 4) is
    in-range is e =
        all_more (λ i m. omega (arith, m, offers-count cells files k.reads)) is
        (works-on (offers_of cells files) (at l n) box k.whole is (order-works (offers_of cells files) (at l n) (view box) is e)).offered

    made : (o : Option (List ℕ)) → order (offers_of cells files) (at l n) (view box) ≡ o
        → searched (sought_by (Ok (shortest_of o))) (perform_all (loads_at cells files (numbers_in (count_in (shortest_of o)) (order_in (shortest_of o)))) box).tables ≡ sought (offers_of cells files) o box
    unfolding sought_by shortest_of count_in order_in sought
    made none e = unfold numbers_in loads_at perform_all in refl
    made (some is) e =
        let few : All (λ i. i < 8) is = all_more (λ i m. omega (arith, m, offers-few cells files k.reads)) is (in-range is e) in
        (λ i. searched (found (numbers-back is few i)) (perform_all (loads_at cells files (numbers-back is few i)) box).tables)
        ∙ ap (λ (cs : List Call). searched (found is) (perform_all cs box).tables) (loads-calls cells files k.reads is (in-range is e))

    pub search-made : (m : ℕ) → m ≡ l → (s : Fewest) → s ≡ shortest_of (order (offers_of cells files) (at m n) (view box)) → (a b : ℕ) → a ≡ count_in s → b ≡ order_in s → (u : Tables)
        → u ≡ (perform_all (loads_at cells files (numbers_in a b)) box).tables → searched (sought_by (Ok s)) u ≡ search l n cells files box second
    search-made m x s e a b p q u d =
        let z : s ≡ shortest_of (order (offers_of cells files) (at l n) (view box)) = e ∙ ap (λ (y : ℕ). shortest_of (order (offers_of cells files) (at y n) (view box))) x in
        (λ i. searched (sought_by (Ok (z i))) ((d ∙ (λ j. (perform_all (loads_at cells files (numbers_in ((p ∙ ap count_in z) j) ((q ∙ ap order_in z) j))) box).tables)) i))
        ∙ (made (order (offers_of cells files) (at l n) (view box)) refl ∙ sym k.seeks)
