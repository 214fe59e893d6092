-- The questions before a load: each case of the answers.
use Rattle.std.specs.Prelude as code
use Rattle.std.specs.Prelude.{Some, None, Ok, Err}
use mathlib.Core.Path.{◌≡◌, refl, sym, ap, ◌∙◌}
use mathlib.Core.Bool.{Bool, true, false, not, ◌&&◌}
use mathlib.Core.Option.{Option}
use mathlib.Core.List.{List}
use Prim.Native.Nat.{ℕ, ◌+◌, ◌<◌, ◌≤◌}
use lib.ListN.{length, get_or}
use lib.Dec.{eqb, leb}
use borrow.Author.Tests.{eq-eqb, ne_eqb, lt-ltb, le-ltb, le-leb, lt-leb}
use Rattle.definition.specs.Numbers.{count_kept, count_cache}
use Rattle.definition.specs.Lists.{is_some, rows}
use Rattle.definition.specs.Instructions.{pick}
use Rattle.definition.specs.Requests.{at}
use Rattle.definition.specs.Classes.{Entry, find}
use Rattle.definition.specs.Tables.{entry_at}
use Rattle.classfile.specs.Reading.{class_name, super_name, part_of}
use Rattle.cells.specs.Optional.{optional, optional-none, optional-some}
use Rattle.resolution.specs.Lookups.{name_in}
use Rattle.searching.specs.Could.{could_keep, could_define, could_load}

pub cached-yes : (o : Option ℕ) (f : code.Option ℕ) (n : ℕ) → f ≡ optional o → f ≡ Some n → true ≡ is_some o
unfolding is_some
cached-yes o f n e q = rw (optional-some o n (sym e ∙ q)) refl

pub cached-no : (o : Option ℕ) (f : code.Option ℕ) → f ≡ optional o → f ≡ None → false ≡ is_some o
unfolding is_some
cached-no o f e q = rw (optional-none o (sym e ∙ q)) refl

module _ (n : ℕ) (bs : List ℕ) where
  pub too_long : 4096 < length bs → false ≡ could_keep n bs
  unfolding could_keep
  too_long h = rw (lt-leb (length bs) 4096 h) refl

  pub by-room : length bs ≤ 4096 → (c : ℕ) → c ≡ n → (m : ℕ) → m ≡ c → leb (m + length bs) 16384 ≡ could_keep n bs
  unfolding could_keep
  by-room h c e m q = rw (le-leb (length bs) 4096 h) (ap (λ (x : ℕ). leb (x + length bs) 16384) (q ∙ e))

module _ (n : ℕ) (es : List Entry) (l : ℕ) (bs : List ℕ) where
  pub no-loader : 16 ≤ l → false ≡ could_define n es l bs
  unfolding could_define
  no-loader h = rw (le-ltb l 16 h, could_define) refl

  pub no-room : l < 16 → (k : Bool) → k ≡ could_keep n bs → k ≡ false → false ≡ could_define n es l bs
  unfolding could_define
  no-room h k e f = rw (lt-ltb l 16 h, could_define) (rw (sym e ∙ f) refl)

  module _ (h : l < 16) (k : Bool) (keeps : k ≡ could_keep n bs) (fits : k ≡ true) (s : ℕ) (is : s ≡ super_name bs) (u : Bool) (e : u ≡ is_some (find es (at l s))) where
    room-is : could_keep n bs ≡ true
    room-is = sym keeps ∙ fits

    super-is : is_some (find es (at l (super_name bs))) ≡ u
    super-is = ap (λ (x : ℕ). is_some (find es (at l x))) (sym is) ∙ sym e

    pub no-super : u ≡ false → false ≡ could_define n es l bs
    unfolding could_define
    no-super f = rw (lt-ltb l 16 h, could_define) (rw room-is (rw (super-is ∙ f) refl))

    pub its-name : u ≡ true → (m : ℕ) → m ≡ class_name bs → (v : Bool) → v ≡ is_some (find es (at l m)) → not v ≡ could_define n es l bs
    unfolding could_define
    its-name f m is v g = rw (lt-ltb l 16 h, could_define) (rw room-is (rw (super-is ∙ f) (ap not (g ∙ ap (λ (x : ℕ). is_some (find es (at l x))) is))))

module _ (counts classes kept cache files : List ℕ) (k l a b : ℕ) where
  pub could-file : k ≡ 1 → (m : ℕ) → m ≡ l → (f : List ℕ) → f ≡ part_of files a b → (r : Bool) → r ≡ could_define (get_or counts count_kept 0) (rows (entry_at cache) (get_or counts count_cache 0) 0) m f
      → r ≡ could_load counts classes kept cache files k l a b
  unfolding could_load pick
  could-file e m x f y r g = g ∙ ((λ i. could_define (get_or counts count_kept 0) (rows (entry_at cache) (get_or counts count_cache 0) 0) (x i) (y i)) ∙ sym (rw (eq-eqb k 1 e, could_load) refl))

  pub could-name : (k ≡ 1 → ⊥) → (d : ℕ) → d ≡ b → (own : ℕ) → own ≡ name_in counts classes kept d → (x : ℕ) → x ≡ own → (y : ℕ) → y ≡ a
      → eqb x y ≡ could_load counts classes kept cache files k l a b
  unfolding could_load pick
  could-name e d p own q x s y z = (λ i. eqb ((s ∙ (q ∙ ap (name_in counts classes kept) p)) i) (z i)) ∙ sym (rw (ne_eqb k 1 e, could_load) refl)

module _ (a b f : Bool) (e : f ≡ a) where
  pub worth-not : f ≡ false → false ≡ (a && b)
  worth-not h = rw (sym e ∙ h) refl

  pub worth-could : f ≡ true → (g : Bool) → g ≡ b → g ≡ (a && b)
  worth-could h g q = q ∙ sym (rw (sym e ∙ h) refl)
