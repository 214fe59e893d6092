-- new: the plan that it answers, and that the plan is right where the numbers that it was given are the lowest unused and how many objects the task made.
use Rattle.std.specs.Prelude.{◌≡◌, refl, Bool, false, not, ◌&&◌, List, ◌≢◌, ℕ, ◌+◌, ◌<◌, ◌≤◌, length, leb}
use Rattle.std.proofs.Common.{sym, ◌∙◌}
use Rattle.std.proofs.Math.Bool.{true}
use Rattle.std.proofs.Math.Option.{none, some}
use Rattle.std.proofs.Math.Dec.{ltb}
use borrow.Author.Tests.{lt-ltb, ltb-true, ltb-false, le-leb, lt-leb}
use Rattle.definition.specs.Requests.{at}
use Rattle.definition.specs.Classes.{Base, Class, find}
use Rattle.definition.specs.declared.Instruction.TheVariants.{New}
use Rattle.definition.specs.Instructions.{pick}
use Rattle.definition.specs.declared.Refusal.TheVariants.{Word, Wanted}
use Rattle.definition.specs.Answers.{◌>>=◌, need, take?}
use Rattle.definition.specs.Machine.{Objects, unused, roomless, share_used, Frame, execute}
use Rattle.definition.specs.Tables.{tables, size_of, operand_at, frame_of, objects_of}
use Rattle.layout.specs.Places.{stack-length}
use Rattle.frames.specs.Unused.{unused_from, unused-is}
use Rattle.frames.specs.Made.{made_in, used_share, made-by-is, share-used-is}
use Rattle.instructions.specs.declared.Plan.{Plan}
use Rattle.instructions.specs.declared.Plan.TheVariants.{Refuse, Make}
use Rattle.instructions.specs.Plans.{decoded, meaning, Fit}
use Rattle.resolution.specs.Quick.{quick_base}
use Rattle.access.specs.Accesses.{world_in}

-- the plan of task j's new of class c under loader l, of a frame with d operands, where an object gets the number o and the task made m before it
unfoldable pub new_plan : Base → ℕ → ℕ → ℕ → ℕ → ℕ → ℕ → Plan
new_plan B j l c d o m = elim (find B.cache (at l c)) [
  | none ↦ Refuse (Wanted l c)
  | some e ↦ pick (used_share j m) (Refuse (Word 18)) (pick (ltb o 256 && ltb d 16) (Make d e o) (Refuse (Word 10)))
]

-- what is relied on: o is the lowest number unused, and m, unless task j is the quote, how many objects it made
abbrev pub RoomIs : List ℕ → ℕ → ℕ → ℕ → Type 0
RoomIs N j o m = (o ≡ unused_from N 0) × (j ≢ 0 → m ≡ made_in N j)

-- The plan r is that of task j's new; where o and m are what they should be it is right for the instruction, whatever constraints, frames below, class, point and size
-- there are, and where the class that is cached has no more fields than a row has room for it can be carried out
pub record Making (N L K E O F : List ℕ) (j b d loader c o m : ℕ) (r : Plan) : Type 0 where
  pub is : r ≡ new_plan (quick_base N L K E) j loader c d o m
  pub says : RoomIs N j o m → (I S : List ℕ) (fs : List Frame) (k : Class) (p n : ℕ) → k.loader ≡ loader
      → (let B = quick_base N L K E in let t = tables N L K E I S O F in
      meaning j (world_in B t) (objects_of B t) fs F b (p + n) r ≡ execute j (world_in B t) (objects_of B t) (frame_of F b p d) fs k (decoded (New c) n) (New c))
  pub fits : RoomIs N j o m → ((e : ℕ) → find (quick_base N L K E).cache (at loader c) ≡ some e → size_of (quick_base N L K E) e ≤ 16)
      → (I S : List ℕ) (k i : ℕ) → Fit (quick_base N L K E) (tables N L K E I S O F) k i r

-- a task may make an object just if the lowest number unused is below the limit
pub room-left : (task : ℕ) (os : Objects) (o : ℕ) → o ≡ unused os → not (roomless task os) ≡ ltb o 256
unfolding roomless
room-left task os o e = rw (← e) (go (ltb o 256) refl)
  where
    go : (u : Bool) → ltb o 256 ≡ u → not (leb 256 o) ≡ u
    go true q = rw (lt-leb 256 o (ltb-true o 256 q))
    go false q = rw (le-leb 256 o (ltb-false o 256 q))

module _ (N L K E O F : List ℕ) (j b d loader c o m : ℕ) where
  abbrev B : Base
  B = quick_base N L K E

  pub new-uncached : find B.cache (at loader c) ≡ none → Making N L K E O F j b d loader c o m (Refuse (Wanted loader c))
  unfolding meaning new_plan execute take? ◌>>=◌
  new-uncached h = record {
    is = rw (h, new_plan);
    says = λ u I S fs k p n e. rw (e, h);
    fits = λ u sizes I S k i. tt;
  }

  module _ (e : ℕ) (there : find B.cache (at loader c) ≡ some e) where
    share : RoomIs N j o m → (I S : List ℕ) → share_used j (objects_of B (tables N L K E I S O F)) ≡ used_share j m
    share u I S = let t = tables N L K E I S O F in sym (share-used-is j m (objects_of B t) (λ z. u.1 z ∙ made-by-is B t j))

    room : RoomIs N j o m → (I S : List ℕ) (p : ℕ)
        → (not (roomless j (objects_of B (tables N L K E I S O F))) && ltb (length (frame_of F b p d).operands) 16) ≡ (ltb o 256 && ltb d 16)
    unfolding frame_of
    room u I S p = rw (room-left j (objects_of B (tables N L K E I S O F)) o (u.0 ∙ unused-is B (tables N L K E I S O F)), stack-length (operand_at F b) d)

    pub new-share-used : used_share j m ≡ true → Making N L K E O F j b d loader c o m (Refuse (Word 18))
    unfolding meaning new_plan execute take? ◌>>=◌ need pick
    new-share-used h = record {
      is = rw (there, new_plan, h);
      says = λ u I S fs k p n q. rw (q, there, share u I S ∙ h);
      fits = λ u sizes I S k i. tt;
    }

    module _ (left : used_share j m ≡ false) where
      pub new-no-room : (ltb o 256 && ltb d 16) ≡ false → Making N L K E O F j b d loader c o m (Refuse (Word 10))
      unfolding meaning new_plan execute take? ◌>>=◌ need pick
      new-no-room h = record {
        is = rw (there, new_plan, left, h);
        says = λ u I S fs k p n q. rw (q, there, share u I S ∙ left, room u I S p ∙ h);
        fits = λ u sizes I S k i. tt;
      }

      pub new-made : o < 256 → d < 16 → Making N L K E O F j b d loader c o m (Make d e o)
      unfolding meaning new_plan execute take? ◌>>=◌ need pick frame_of
      new-made few low =
          let h : (ltb o 256 && ltb d 16) ≡ true = rw (lt-ltb o 256 few, lt-ltb d 16 low) in
          record {
            is = rw (there, new_plan, left, h);
            says = λ u I S fs k p n q. rw (q, there, share u I S ∙ left, room u I S p ∙ h, ← unused-is B (tables N L K E I S O F), ← u.0);
            fits = λ u sizes I S k i. (low, u.0, few, sizes e there);
          }
