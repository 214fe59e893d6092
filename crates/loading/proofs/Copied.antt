-- A newcomer tried on copies: what they hold, whether the store with it agrees by them, and why not.
use mathlib.Core.Path.{◌≡◌, refl, sym, ap, subst, ◌∙◌}
use mathlib.Core.Bool.{true, ◌&&◌}
use mathlib.Core.Option.{some}
use mathlib.Core.List.{List, [], ◌∷◌, ◌++◌}
use Prim.Native.Nat.{ℕ, zero, suc, ◌+◌, ◌<◌, ◌≤◌}
use native.Mathlib.Omega.{arith}
use native.Mathlib.Numerals.{add-one}
use lib.ListN.{length, get_or, set, length-set}
use lib.Dec.{eqb}
use borrow.Author.Tests.{eqb-true}
use Rattle.definition.specs.Numbers.{counts_length}
use Rattle.definition.specs.Lists.{rows, write_rows}
use Rattle.definition.specs.Requests.{at}
use Rattle.definition.specs.Classes.{Base, super_of}
use Rattle.definition.specs.File.{class_of}
use Rattle.definition.specs.Tables.{put_three, entry, tie_at, subtype_at, entry_at}
use Rattle.definition.specs.Constraints.{agrees, edges, tie_edges, subtype_edges}
use Rattle.definition.specs.Broken.{numbered}
use Rattle.definition.specs.Reasons.{reason}
use Rattle.laws.specs.Agreement.{agrees-alone}
use Rattle.laws.specs.Tests.{and-true}
use Rattle.layout.specs.Places.{write_rows-length}
use Rattle.layout.specs.NumberedRows.{SameNumbers}
use Rattle.classfile.specs.Reading.{quick_file}
use Rattle.resolution.specs.Quick.{quick_base}
use Rattle.definition.specs.declared.Check.{Check}
use Rattle.definition.specs.Checks.{NamesOver, Names}
use Rattle.constraints.specs.Agreement.{super_in, entries_in, shared_in, led_in, new_in}
use Rattle.constraints.specs.Linking.{reason_in}
use Rattle.constraints.specs.Laws.{Beside, names-store}
use Rattle.entries.specs.World.{numbers_in, base_with, world}
use Rattle.entries.specs.Entering.{Tried}
use Rattle.entries.proofs.Laws.{written-front, written_behind}
use Rattle.entries.proofs.Trial.{counted_is, counted-other, entries-are, new-named, supers-are, cache-is, above-are, reason-store}
use Rattle.loading.specs.declared.loads.Newcomer.{Newcomer}
use Rattle.loading.specs.Plans.{new_base, new_world, Sized, Placed, Fitting, above_in, NewTried}
use Rattle.loading.specs.Writing.{numbers_on, numbers_after, Grown}
use Rattle.loading.proofs.Numbered.{counts-kept, numbers-read, numbers-same}

-- The base with a newcomer whose class is there, and with one whose class is new

module _ (n : Newcomer) (bs : List ℕ) (b : Base) where
  abbrev more : Base
  more = record { classes = b.classes; cache = b.cache ++ (entry n.loader n.name n.class ∷ []) }

  abbrev by : ℕ → Base
  by a = elim a as (λ _. Base) [ zero ↦ more | suc p ↦ base_with b (class_of n.loader (quick_file bs)) ]

  pub base-entry : n.above ≡ 0 → new_base n bs b ≡ record { classes = b.classes; cache = b.cache ++ (entry n.loader n.name n.class ∷ []) }
  unfolding new_base
  base-entry e = ap by e

  pub base-class : (p : ℕ) → n.above ≡ suc p → new_base n bs b ≡ base_with b (class_of n.loader (quick_file bs))
  unfolding new_base
  base-class p e = ap by e

module _ (counts classes kept cache bs : List ℕ) (n : Newcomer) (f : Fitting counts classes kept cache bs n) (zeros blank empty counted trial supers : List ℕ) (nl : 8 ≤ length zeros)
    (bl : length blank ≡ 768) (sl : length empty ≡ 64) (h : NewTried counts classes kept cache n zeros blank empty counted trial supers) where
  abbrev b : Base
  b = quick_base counts classes kept cache

  at-class : (p : ℕ) → n.above ≡ suc p → Placed (suc p) n bs counts b
  at-class p e = subst (λ (a : ℕ). Placed a n bs counts b) e f.placed

  entries-of : (m : ℕ) → m ≡ get_or counted 2 0 → (m ≤ 256) × (rows (entry_at trial) m 0 ≡ (more n bs b).cache)
  entries-of =
      entries-are counts classes kept cache f.sized.base f.sized.room n.loader n.name n.class zeros blank counted trial (length zeros) refl nl bl h.tried.entered

  module _ (p : ℕ) (e : n.above ≡ suc p) where
    cell : supers ≡ set h.filled n.class (p + 1)
    unfolding above_in
    cell = h.above ∙ (ap (λ (a : ℕ). above_in a n.class h.filled) e ∙ ap (set h.filled n.class) (sym (add-one p)))

    cache-of : (more n bs b).cache ≡ (base_with b (class_of n.loader (quick_file bs))).cache
    unfolding Placed quick_file
    cache-of =
        let q = at-class p e in
        cache-is counts classes kept cache f.sized.base f.sized.room n.loader n.name n.class zeros blank counted trial (length zeros) refl nl bl h.tried.entered empty
        h.filled sl h.tried.above (class_of n.loader (quick_file bs)) p n.class supers q.2 refl q.0 q.1 refl q.3 cell

    above_of : (x : ℕ) → super_in supers x ≡ super_of (base_with b (class_of n.loader (quick_file bs))) x
    unfolding Placed quick_file
    above_of =
        let q = at-class p e in
        above-are counts classes kept cache f.sized.base f.sized.room n.loader n.name n.class zeros blank counted trial (length zeros) refl nl bl h.tried.entered empty
        h.filled sl h.tried.above (class_of n.loader (quick_file bs)) p n.class supers q.2 refl q.0 q.1 refl q.3 cell

  new-cache : (more n bs b).cache ≡ (new_base n bs b).cache
  new-cache = go n.above refl
    where
      go : (a : ℕ) → n.above ≡ a → (more n bs b).cache ≡ (new_base n bs b).cache
      go zero e = ap (λ (x : Base). x.cache) (sym (base-entry n bs b e))
      go (suc p) e = cache-of p e ∙ ap (λ (x : Base). x.cache) (sym (base-class n bs b p e))

  new-supers : (x : ℕ) → super_in supers x ≡ super_of (new_base n bs b) x
  unfolding above_in
  new-supers x = go n.above refl
    where
      go : (a : ℕ) → n.above ≡ a → super_in supers x ≡ super_of (new_base n bs b) x
      go zero e =
          ap (λ (s : List ℕ). super_in s x) (h.above ∙ ap (λ (a : ℕ). above_in a n.class h.filled) e)
          ∙ (supers-are counts classes kept cache f.sized.base f.sized.room n.loader n.name n.class zeros blank counted trial (length zeros) refl nl bl h.tried.entered
          empty h.filled sl h.tried.above x ∙ ap (λ (y : Base). super_of y x) (sym (base-entry n bs b e)))
      go (suc p) e = above_of p e x ∙ ap (λ (y : Base). super_of y x) (sym (base-class n bs b p e))

  pub new-names : (ties groups subtypes : List ℕ) (m new : ℕ) (r : Check) → m ≡ get_or counted 2 0 → new ≡ get_or counts 2 0 → Beside ties groups n.tied
      → NamesOver (super_in supers) (entries_in trial m) (shared_in ties groups n.tied) (led_in ties groups n.tied subtypes n.noted) (new_in trial m new) r
      → Names (new_world n bs b ties subtypes) (some (at n.loader n.name)) r
  new-names ties groups subtypes m new r em ew g q =
      let es = entries-of m em in
      names-store (new_world n bs b ties subtypes) supers trial ties groups subtypes m n.tied n.noted (some (at n.loader n.name)) r new-supers (sym (es.1 ∙ new-cache)) refl refl es.0
      f.sized.grown.ties_few f.sized.grown.subtypes_few g
      (new-named counts classes kept cache f.sized.base f.sized.room n.loader n.name n.class zeros blank counted trial (length zeros) refl nl bl h.tried.entered m new em ew q)

-- What was tried

module _ (counts classes kept cache : List ℕ) (n : Newcomer) (l : ℕ) (z t e counted trial filled : List ℕ) (el : l ≡ n.loader)
    (h : Tried counts classes kept cache l n.name n.class z t e counted trial filled) where
  tried-as : Tried counts classes kept cache n.loader n.name n.class z t e counted trial filled
  tried-as = record {
    entered = record { count = h.entered.count; row = h.entered.row ∙ (λ i. put_three (write_rows set cache 0 t) (get_or counts 2 0) (el i) n.name n.class) };
    above = h.above;
  }

  pub entry-tried : n.above ≡ 0 → NewTried counts classes kept cache n z t e counted trial filled
  unfolding above_in
  entry-tried a = record { filled = filled; tried = tried-as; above = sym (ap (λ (x : ℕ). above_in x n.class filled) a) }

  pub class-tried : (n.above ≡ 0 → ⊥) → (o : ℕ) (supers : List ℕ) → o ≡ n.class → supers ≡ set filled o n.above → NewTried counts classes kept cache n z t e counted trial supers
  unfolding above_in
  class-tried k o supers eo s = record { filled = filled; tried = tried-as; above = s ∙ (ap (λ (x : ℕ). set filled x n.above) eo ∙ go n.above k) }
    where
      go : (a : ℕ) → (a ≡ 0 → ⊥) → set filled n.class a ≡ above_in a n.class filled
      go zero d = absurd (d refl)
      go (suc p) d = refl

-- With all counts copied, those of ties and of subtype constraints anew, and the new rows numbered on

module _ (counts classes kept cache : List ℕ) (n : Newcomer) (s : Sized counts classes kept cache n) (zeros blank empty counted trial supers : List ℕ) (nl : length zeros ≡ counts_length)
    (bl : length blank ≡ 768) (h : NewTried counts classes kept cache n zeros blank empty counted trial supers) where
  other : (x : ℕ) → (x ≡ 2 → ⊥) → get_or counted x 0 ≡ get_or counts x 0
  other x d =
      counted-other counts classes kept cache s.base s.room n.loader n.name n.class zeros blank counted trial counts_length nl (omega arith) bl h.tried.entered refl x d

  pub grown-kept : Grown counted n.tied n.noted
  grown-kept =
      let a = other 3 (λ e. omega arith) in
      let c = other 4 (λ e. omega arith) in
      record { ties = omega (arith, s.grown.ties); ties_few = s.grown.ties_few; subtypes = omega (arith, s.grown.subtypes); subtypes_few = s.grown.subtypes_few }

  long : length counted ≡ counts_length
  long =
      ap length (counted_is counts classes kept cache s.base s.room n.loader n.name n.class zeros blank counted trial counts_length nl (omega arith) bl h.tried.entered refl)
      ∙ (length-set counts 2 (get_or counts 2 0 + 1) ∙ s.base.counts_long)

  module _ (c d e : ℕ) (same : e ≡ get_or counted 2 0) (after : List ℕ)
      (made : after ≡ numbers_on counted n.tied n.noted (write_rows set (c ∷ d ∷ e ∷ n.tied ∷ n.noted ∷ []) 0 counted)) where
    abbrev five : List ℕ
    five = c ∷ d ∷ e ∷ n.tied ∷ n.noted ∷ []

    abbrev counts5 : List ℕ
    counts5 = write_rows set five 0 counted

    long5 : length counts5 ≡ counts_length
    long5 = write_rows-length set length-set five 0 counted ∙ long

    kept5 : SameNumbers counted counts5
    kept5 x m = written_behind five 0 counted x (omega arith)

    second : get_or counts5 2 0 ≡ e
    second = written-front five 0 2 counted (omega arith) (omega (arith, long))

    third : get_or counts5 3 0 ≡ n.tied
    third = written-front five 0 3 counted (omega arith) (omega (arith, long))

    fourth : get_or counts5 4 0 ≡ n.noted
    fourth = written-front five 0 4 counted (omega arith) (omega (arith, long))

    count_of : (x : ℕ) → x < 264 → get_or after x 0 ≡ get_or counts5 x 0
    count_of x m = ap (λ (y : List ℕ). get_or y x 0) made ∙ counts-kept counted counts5 n.tied n.noted grown-kept long5 kept5 third fourth x m

    numbers : numbers_after counts n.tied n.noted ≡ numbers_in after
    numbers = sym
        (ap numbers_in made
        ∙ (numbers-read counted counts5 n.tied n.noted grown-kept long5 kept5 third fourth
        ∙ numbers-same counts counted n.tied n.noted (other 3 (λ e. omega arith)) (other 4 (λ e. omega arith)) (λ x m. other x (λ e. omega arith))))

    pub new-reason : (bs : List ℕ) → Fitting counts classes kept cache bs n → length empty ≡ 64 → numbered (numbers_after counts n.tied n.noted) ≡ true → (ties subtypes : List ℕ)
        → reason_in supers after trial ties subtypes ≡ reason (new_world n bs (quick_base counts classes kept cache) ties subtypes) (numbers_after counts n.tied n.noted)
    new-reason bs f sl turn ties subtypes =
        let enough : 8 ≤ length zeros = omega (arith, nl) in
        let two : get_or after 2 0 ≡ get_or counted 2 0 = count_of 2 (omega arith) ∙ (second ∙ same) in
        let three : get_or after 3 0 ≡ n.tied = count_of 3 (omega arith) ∙ third in
        let four : get_or after 4 0 ≡ n.noted = count_of 4 (omega arith) ∙ fourth in
        let es = entries-of counts classes kept cache bs n f zeros blank empty counted trial supers enough bl sl h (get_or after 2 0) two in
        reason-store (new_world n bs (quick_base counts classes kept cache) ties subtypes) (numbers_after counts n.tied n.noted) supers after trial ties subtypes
        (new-supers counts classes kept cache bs n f zeros blank empty counted trial supers enough bl sl h)
        (sym (es.1 ∙ new-cache counts classes kept cache bs n f zeros blank empty counted trial supers enough bl sl h)) (ap (λ (x : ℕ). rows (tie_at ties) x 0) (sym three))
        (ap (λ (x : ℕ). rows (subtype_at subtypes) x 0) (sym four)) numbers es.0 (omega (arith, s.grown.ties_few)) (omega (arith, s.grown.subtypes_few)) turn

-- Without constraints the store with a newcomer agrees

pub agrees-free : (n : Newcomer) (bs : List ℕ) (b : Base) (u v : List ℕ) → (eqb n.tied 0 && eqb n.noted 0) ≡ true → true ≡ agrees (new_world n bs b u v)
unfolding agrees edges tie_edges subtype_edges rows
agrees-free n bs b u v h = let hs = and-true (eqb n.tied 0) (eqb n.noted 0) h in go n.tied n.noted (eqb-true n.tied 0 hs.0) (eqb-true n.noted 0 hs.1)
  where
    go : (s t : ℕ) → s ≡ 0 → t ≡ 0 → true ≡ agrees (world (new_base n bs b) (rows (tie_at u) s 0) (rows (subtype_at v) t 0))
    go zero zero d e = sym (agrees-alone (super_of (new_base n bs b)) (new_base n bs b).cache)
    go zero (suc t) d e = absurd (omega (arith, e))
    go (suc s) t d e = absurd (omega (arith, d))
