-- The search's parts that try no order: whether an offer is tried, the order of no loads, and the load of a row.
use Rattle.std.specs.Prelude as code
use Rattle.std.specs.Prelude.{Some, None, Ok, Err}
use mathlib.Core.Path.{◌≡◌, refl, sym, ap, ◌∙◌}
use mathlib.Core.Bool.{Bool, true, false, not, ◌&&◌}
use mathlib.Core.Option.{Option}
use mathlib.Core.List.{List}
use Prim.Native.Nat.{ℕ, zero, suc}
use native.Mathlib.Omega.{arith}
use lib.Dec.{eqb}
use borrow.Author.Tests.{eq-eqb, ne_eqb}
use Rattle.definition.specs.declared.Reply.{Reply}
use Rattle.definition.specs.Instructions.{pick}
use Rattle.definition.specs.Requests.{at}
use Rattle.definition.specs.Tables.{Tables}
use Rattle.definition.specs.Calls.{done, load_define, load_record, call_define, call_record, call_rows, perform}
use Rattle.laws.specs.Refusals.{load_call}
use Rattle.classfile.specs.Reading.{part_of}
use Rattle.cells.specs.Optional.{optional, optional-none, optional-some}
use Rattle.searching.specs.Offered.{load_of, is_for_at}
use Rattle.searching.specs.Ordering.{is_taken, taken_of, digits, ordered, cached_order, is_tried_at}

module _ (cells files : List ℕ) (l x m n i u : ℕ) where
  pub tried-used : (u ≡ 0 → ⊥) → false ≡ (eqb u 0 && is_tried_at cells files (at l m) n i)
  tried-used h = rw (ne_eqb u 0 h) refl

  pub tried-for : u ≡ 0 → x ≡ l → is_for_at cells files (at x m) i ≡ true → eqb n 0 ≡ (eqb u 0 && is_tried_at cells files (at l m) n i)
  tried-for h e f = rw (eq-eqb u 0 h) (go n (ap (λ (y : ℕ). is_for_at cells files (at y m) i) (sym e) ∙ f))
    where
      go : (k : ℕ) → is_for_at cells files (at l m) i ≡ true → eqb k 0 ≡ is_tried_at cells files (at l m) k i
      go zero g = unfold is_tried_at in (eq-eqb 0 0 refl ∙ sym g)
      go (suc k) g = unfold is_tried_at in (ne_eqb (suc k) 0 (λ z. omega arith) ∙ ap not (sym g))

  pub tried_other : u ≡ 0 → x ≡ l → is_for_at cells files (at x m) i ≡ false → not (eqb n 0) ≡ (eqb u 0 && is_tried_at cells files (at l m) n i)
  tried_other h e f = rw (eq-eqb u 0 h) (go n (ap (λ (y : ℕ). is_for_at cells files (at y m) i) (sym e) ∙ f))
    where
      go : (k : ℕ) → is_for_at cells files (at l m) i ≡ false → not (eqb k 0) ≡ is_tried_at cells files (at l m) k i
      go zero g = unfold is_tried_at in (ap not (eq-eqb 0 0 refl) ∙ sym g)
      go (suc k) g = unfold is_tried_at in (ap not (ne_eqb (suc k) 0 (λ z. omega arith)) ∙ ap not (sym g))

pub cached-there : (o : Option ℕ) (f : code.Option ℕ) (n : ℕ) → f ≡ optional o → f ≡ Some n → Some 0 ≡ ordered (cached_order o)
unfolding ordered cached_order digits
cached-there o f n e q = rw (optional-some o n (sym e ∙ q)) refl

pub cached-absent : (o : Option ℕ) (f : code.Option ℕ) → f ≡ optional o → f ≡ None → None ≡ ordered (cached_order o)
unfolding ordered cached_order
cached-absent o f e q = rw (optional-none o (sym e ∙ q)) refl

module _ (files : List ℕ) (k l a b : ℕ) (t u : Tables) (r : Reply) (v : Bool) (flag : v ≡ is_taken r) where
  pub load-define : k ≡ 1 → (m : ℕ) → m ≡ l → (f : List ℕ) → f ≡ part_of files a b → done r u ≡ perform (call_define m f) t → done v u ≡ taken_of (perform (call_rows (load_call (load_of files k l a b))) t)
  unfolding load_of pick
  load-define e m z f q p =
      (λ i. done (flag i) u)
      ∙ (ap taken_of p
      ∙ ((λ i. taken_of (perform (call_define (z i) (q i)) t)) ∙ sym (ap (λ (y : Bool). taken_of (perform (call_rows (load_call (pick y (load_define l (part_of files a b)) (load_record l a b)))) t)) (eq-eqb k 1 e))))

  pub load-record : (k ≡ 1 → ⊥) → (m c d : ℕ) → m ≡ l → c ≡ a → d ≡ b → done r u ≡ perform (call_record m c d) t → done v u ≡ taken_of (perform (call_rows (load_call (load_of files k l a b))) t)
  unfolding load_of pick
  load-record e m c d x y z p =
      (λ i. done (flag i) u)
      ∙ (ap taken_of p
      ∙ ((λ i. taken_of (perform (call_record (x i) (y i) (z i)) t)) ∙ sym (ap (λ (w : Bool). taken_of (perform (call_rows (load_call (pick w (load_define l (part_of files a b)) (load_record l a b)))) t)) (ne_eqb k 1 e))))
