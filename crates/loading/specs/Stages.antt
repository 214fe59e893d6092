-- define in stages, each of which may refuse: what a function of its own decides.
use Rattle.std.specs.Prelude.{◌≡◌, refl, Bool, true, false, not, List, [], ◌∷◌, ◌++◌, ℕ, suc, ◌+◌, ◌<◌, ◌≤◌, length, get_or, take, leb, ltb}
use Rattle.std.specs.Prelude as code
use Rattle.std.specs.Prelude.{Ok, Err}
use Rattle.std.proofs.Common.{ap}
use Rattle.std.proofs.Math.Option.{Option, none, some}
use Rattle.definition.specs.Tables.{tie_at, put_tie, subtype_at, put_subtype}
use Rattle.definition.specs.Lists.{every, any, is_none, rows, write_rows}
use Rattle.definition.specs.Requests.{at}
use Rattle.definition.specs.Classes.{Base, Class, find, slots}
use Rattle.definition.specs.Constraints.{World, Tie, Subtype, agrees}
use Rattle.definition.specs.Verifier.{Note, unmapped, notes_of}
use Rattle.definition.specs.declared.Refusal.{Refusal}
use Rattle.definition.specs.declared.Refusal.TheVariants.{Word}
use Rattle.definition.specs.Answers.{wanted, Result, refused, ok, number, ◌>>=◌, need, take?}
use Rattle.definition.specs.File.{read_file, class_of}
use Rattle.definition.specs.Loading.{override_ties, new_subtypes, with_class, define}
use Rattle.classfile.specs.Reading.{field_count}
use Rattle.entries.specs.World.{world, base_with}
use Rattle.loading.specs.declared.loads.Newcomer.{Newcomer}

-- What is decided of a load: a refusal, that nothing changes, or what is to be added; of a class it is one of the two others

abbrev pub Plan : Type 0
Plan = code.Result (code.Option Newcomer) Refusal

abbrev pub ClassPlan : Type 0
ClassPlan = code.Result Newcomer Refusal

-- define: the direct superclass. Refusals: 4 5
unfoldable pub super_for : Class → Base → Result ℕ
super_for k b =
    need (is_none (find b.cache (at k.loader k.name))) (Word 4) >>= λ _.
    take? (find b.cache (at k.loader k.super)) (wanted (at k.loader k.super))

-- a store that has room, judged by agreement
unfoldable pub judged_world : World → Result World
judged_world w = need (agrees w) (Word 9) >>= λ _. ok w

-- define: the constraints of a class below p, whose code has these notes. Refusals: 10 9
unfoldable pub posted_for : Bool → Class → World → List Note → ℕ → Result World
posted_for room k w ns p =
    (let us = override_ties w.base k.loader p w.ties k.methods in
    let ss = new_subtypes w.subtypes k.loader ns in
    need (every
    (room
    ∷ ltb (length w.base.classes) 64
    ∷ ltb (length w.base.cache) 256
    ∷ leb (length (w.ties ++ us)) 256
    ∷ leb (length (w.subtypes ++ ss)) 256
    ∷ leb (length (slots w.base p) + length k.fields) 16
    ∷ [])) (Word 10) >>= λ _.
    need (agrees (with_class w k us ss)) (Word 9) >>= λ _. ok (with_class w k us ss))

-- room for the file's bytes, the class, its entry, so many ties in all, and the fields of its objects, by the counts n
unfoldable pub room_for : Base → List ℕ → List ℕ → ℕ → ℕ → Bool
room_for b n bs p tied = every
    (leb (get_or n 1 0 + length bs) 16384
    ∷ ltb (get_or n 0 0) 64
    ∷ ltb (get_or n 2 0) 256
    ∷ leb tied 256
    ∷ leb (length (slots b p) + field_count bs) 16
    ∷ [])

-- the constraints of a class below p that are new
abbrev pub class_ties : Class → World → ℕ → List Tie
class_ties k w p = override_ties w.base k.loader p w.ties k.methods

abbrev pub new_notes : Class → World → List Note → List Subtype
new_notes k w ns = new_subtypes w.subtypes k.loader ns

pub define-stages : (room : Bool) (k : Class) (w : World)
    → define room k w
    ≡ (need (not (any (unmapped k) k.methods)) (Word 15) >>= λ _. take? (notes_of k k.methods) (Word 6) >>= λ ns. super_for k w.base >>= λ p. posted_for room k w ns p)
unfolding define super_for posted_for ◌>>=◌ need take?
define-stages room k w = ap (λ (r : Result World). need (not (any (unmapped k) k.methods)) (Word 15) >>= λ _. r) (go (notes_of k k.methods) (is_none (find w.base.cache (at k.loader k.name))) (find w.base.cache (at k.loader k.super)))
  where
    go : (o : Option (List Note)) (a : Bool) (q : Option ℕ)
        → (take? o (Word 6) >>= λ ns. need a (Word 4) >>= λ _. take? q (wanted (at k.loader k.super)) >>= λ p. posted_for room k w ns p)
        ≡ (take? o (Word 6) >>= λ ns. (need a (Word 4) >>= λ _. take? q (wanted (at k.loader k.super))) >>= λ p. posted_for room k w ns p)
    go none a q = refl
    go (some ns) false q = refl
    go (some ns) true none = refl
    go (some ns) true (some p) = refl

-- the superclass, then the constraints
unfoldable pub placed_for : Bool → Class → World → List Note → Result World
placed_for room k w ns = super_for k w.base >>= λ p. posted_for room k w ns p

-- define as a whole, of the bytes of a file
unfoldable pub defined_from : ℕ → List ℕ → Bool → World → Result World
defined_from l bs room w = need (ltb l 16) (Word 3) >>= λ _. take? (read_file bs) (Word 2) >>= λ f. define room (class_of l f) w

-- the store with the class and its constraints, whether it agrees or not
unfoldable pub placed_after : Class → World → List Note → Option World
placed_after k w ns = elim (find w.base.cache (at k.loader k.super)) [ none ↦ none | some p ↦ some (with_class w k (class_ties k w p) (new_notes k w ns)) ]

-- What a decision of define means but for agreement, of tables n, t and s, where u and v hold its constraints: the whole is refused, or it is up to agreement of
-- the store with the class and with the new ties and subtype constraints, so many in all

pub record Placing (o : Result World) (a : Option World) (w : World) (k : Class) (n t s u v : List ℕ) (new : Newcomer) : Type 0 where
  pub loader : new.loader ≡ k.loader
  pub name : new.name ≡ k.name
  pub class : new.class ≡ get_or n 0 0
  pub super : ℕ
  pub above : new.above ≡ suc super
  pub cached : find w.base.cache (at k.loader k.super) ≡ some super
  pub ties : List Tie
  pub subtypes : List Subtype
  pub judged : judged_world (with_class w k ties subtypes) ≡ o
  pub after : a ≡ some (with_class w k ties subtypes)
  pub both : world (base_with w.base k) (rows (tie_at u) new.tied 0) (rows (subtype_at v) new.noted 0) ≡ with_class w k ties subtypes
  pub tied : new.tied ≡ get_or n 3 0 + length ties
  pub noted : new.noted ≡ get_or n 4 0 + length subtypes
  pub few : (new.tied ≤ 256) × (new.noted ≤ 256)
  pub tie_cells : take 768 u ≡ write_rows put_tie ties (get_or n 3 0) t
  pub subtype_cells : v ≡ write_rows put_subtype subtypes (get_or n 4 0) s
  pub class_room : get_or n 0 0 < 64
  pub entry_room : get_or n 2 0 < 256

unfoldable pub Decided : ClassPlan → Result World → Option World → List ℕ → List ℕ → List ℕ → List ℕ → List ℕ → World → Class → Type 0
Decided (Err r) o a n t s u v w k = (refused r ≡ o) × (number r ≡ 9 → ⊥)
Decided (Ok new) o a n t s u v w k = Placing o a w k n t s u v new
