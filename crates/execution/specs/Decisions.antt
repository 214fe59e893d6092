-- What a step decides: the ties that it posts and the plan that it then carries out, which together mean what the machine does.
use Rattle.std.proofs.Math.Path.{◌≡◌, refl, ap}
use Rattle.std.proofs.Common.{sym, ◌∙◌, arith, add-one, length-append}
use Rattle.std.specs.Prelude.{Bool, ◌&&◌, ◌≢◌, ◌⊎◌, ℕ, ◌+◌, ◌<◌, ◌≤◌, get_or, leb, ltb}
use Rattle.std.proofs.Math.Bool.{true, false}
use Rattle.std.proofs.Math.Option.{some}
use mathlib.Core.List.{List, [], ◌∷◌, ◌++◌, append-nil}
use Rattle.std.proofs.Math.Logic.{inl, inr}
use Rattle.std.proofs.Math.ListN.{length}
use borrow.Author.Tests.{le-leb, lt-leb}
use Rattle.definition.specs.Lists.{rows, stack}
use Rattle.definition.specs.Requests.{Request, at}
use Rattle.definition.specs.Classes.{Base, Class, find, loader_of}
use Rattle.definition.specs.Constraints.{Tie, World, posted, agrees, agrees_after, post}
use Rattle.definition.specs.declared.Instruction.{Instruction}
use Rattle.definition.specs.declared.Instruction.TheVariants.{New}
use Rattle.definition.specs.declared.Refusal.{Refusal}
use Rattle.definition.specs.declared.Refusal.TheVariants.{Word}
use Rattle.definition.specs.Answers.{Result, refused, ok, ◌>>=◌, need}
use Rattle.definition.specs.Machine.{Objects, Frame, execute}
use Rattle.definition.specs.Tables.{Tables, tables, tie_at, ties_of, size_of, frame_of, frame_in, objects_of}
use Rattle.layout.specs.Places.{rows-length, stack-length}
use Rattle.layout.specs.Unbroken.{Counts}
use Rattle.frames.specs.Unused.{unused_from}
use Rattle.frames.specs.Made.{made_in}
use Rattle.instructions.specs.declared.Plan.{Plan}
use Rattle.instructions.specs.declared.Plan.TheVariants.{Refuse, Keep, Jump, Above, Local, Give, Finish, Field, Enter, Make}
use Rattle.instructions.specs.Plans.{decoded, meaning, Fit, FrameOnly, Returning}
use Rattle.layout.specs.Whole.{All, Between}
use Rattle.resolution.specs.Quick.{quick_base}
use Rattle.access.specs.Declarers.{declaring-some}
use Rattle.access.specs.Accesses.{Answered, resolved, world_in, ties_on, accessed, Accessing, frame_room}
use Rattle.access.specs.Makings.{RoomIs, Making}
use Rattle.std.specs.Prelude as Rust
use Rattle.posting.specs.Postings.{Posting, to_post, Quiet, quietly, quietly-quiet, quietly-means, quietly-few}

-- Posting, case by case

module _ (w : World) (us : List Tie) where
  pub post-no-room : post w false us ≡ refused (Word 10)
  unfolding post need ◌>>=◌
  post-no-room = go (leb (length (w.ties ++ us)) 256)
    where
      go : (u : Bool) → ◌≡◌ {A = Result World} (need (u && false) (Word 10) >>= λ _. need (agrees_after w us) (Word 9) >>= λ _. ok (posted w us)) (refused (Word 10))
      go true = refl
      go false = refl

  module _ (n : ℕ) (count : length w.ties ≡ n) where
    total : length (w.ties ++ us) ≡ n + length us
    total = length-append w.ties us ∙ rw count

    pub post-full : 256 < n + length us → post w true us ≡ refused (Word 10)
    unfolding post need ◌>>=◌
    post-full h = rw (total, lt-leb (n + length us) 256 h)

    fits : n + length us ≤ 256 → post w true us ≡ (need (agrees_after w us) (Word 9) >>= λ _. ok (posted w us))
    unfolding post need ◌>>=◌
    fits h = rw (total, le-leb (n + length us) 256 h)

    pub post-clash : n + length us ≤ 256 → agrees_after w us ≡ false → post w true us ≡ refused (Word 9)
    unfolding need ◌>>=◌
    post-clash h a = fits h ∙ rw a

    pub post-agrees : n + length us ≤ 256 → agrees_after w us ≡ true → post w true us ≡ ok (posted w us)
    unfolding need ◌>>=◌
    post-agrees h a = fits h ∙ rw a

-- nothing that is added: nothing to test; with something added the new store is tested
module _ (w : World) where
  pub agrees-none : (us : List Tie) → length us ≡ 0 → agrees_after w us ≡ true
  unfolding agrees_after
  agrees-none [] h = refl
  agrees-none (u ∷ us) h = absurd (omega arith)

  pub agrees-some : (us : List Tie) → agrees (posted w us) ≡ true → agrees_after w us ≡ true
  unfolding agrees_after
  agrees-some [] h = refl
  agrees-some (u ∷ us) h = h

  pub agrees-not : (us : List Tie) → (length us ≡ 0 → ⊥) → agrees (posted w us) ≡ false → agrees_after w us ≡ false
  unfolding agrees_after
  agrees-not [] n h = absurd (n refl)
  agrees-not (u ∷ us) n h = h

-- the world of these tables: objects and frames are no part of it
abbrev bare : List ℕ → List ℕ → List ℕ → List ℕ → List ℕ → List ℕ → World
bare N L K E I S = world_in (quick_base N L K E) (tables N L K E I S [] [])

-- A plan whose ties may be posted, or the refusal that comes before it

pub record Settled (N L K E I S : List ℕ) (room : Bool) (us : List Tie) (plan : Plan) (x : Posting) (p : Plan) : Type 0 where
  pub says : (O F : List ℕ) (task : ℕ) (os : Objects) (fs : List Frame) (G : List ℕ) (b q : ℕ)
      → (let w = world_in (quick_base N L K E) (tables N L K E I S O F) in
      meaning task (posted w (to_post x)) os fs G b q p ≡ (post w room us >>= λ z. meaning task z os fs G b q plan))
  pub ties : get_or N 3 0 + length (to_post x) ≤ 256
  pub quiet : Quiet (to_post x) p
  pub either : ((p ≡ plan) × (room ≡ true)) ⊎ ((r : Refusal) × (p ≡ Refuse r))

module _ (N L K E I S : List ℕ) (room : Bool) (us : List Tie) (plan : Plan) (low : get_or N 3 0 ≤ 256) where
  pub settled-refused : (r : Refusal) → post (bare N L K E I S) room us ≡ refused r → Settled N L K E I S room us plan Rust.None (Refuse r)
  unfolding meaning to_post ◌>>=◌
  settled-refused r h = record { says = λ O F task os fs G b q. rw h; ties = omega arith; quiet = refl; either = inr (r, refl) }

  pub settled-posted : (x : Posting) → to_post x ≡ us → get_or N 3 0 + length us ≤ 256 → room ≡ true → post (bare N L K E I S) room us ≡ ok (posted (bare N L K E I S) us)
      → Settled N L K E I S room us plan (quietly x plan) plan
  unfolding ◌>>=◌
  settled-posted x e l y h = record {
    says = λ O F task os fs G b q. quietly-means task (bare N L K E I S) os fs G b q x plan ∙ (ap (λ (z : List Tie). meaning task (posted (bare N L K E I S) z) os fs G b q plan) e ∙ rw h);
    ties = omega (arith, quietly-few x plan, ap length e);
    quiet = quietly-quiet x plan;
    either = inl (refl, y);
  }

-- The cases: no room; and, where x are the ties that are new, the others
pub settle-no-room : (N L K E I S : List ℕ) (plan : Plan) → get_or N 3 0 ≤ 256 → (us : List Tie) (room : Bool) → room ≡ false → Settled N L K E I S room us plan Rust.None (Refuse (Word 10))
settle-no-room N L K E I S plan low us room e = settled-refused N L K E I S room us plan low (Word 10) (rw e (post-no-room (bare N L K E I S) us))

module _ (N L K E I S : List ℕ) (plan : Plan) (low : get_or N 3 0 ≤ 256) (us : List Tie) (x : Posting) (new : to_post x ≡ us) where
  count : length (ties_of (tables N L K E I S [] [])) ≡ get_or N 3 0
  count = rows-length (tie_at I) (get_or N 3 0) 0

  module _ (room : Bool) (free : room ≡ true) where
    pub settle-none : length (to_post x) ≡ 0 → Settled N L K E I S room us plan (quietly x plan) plan
    settle-none e =
        let z : length us ≡ 0 = rw new at e in
        settled-posted N L K E I S room us plan low x new (omega arith) free
        (rw free (post-agrees (bare N L K E I S) us (get_or N 3 0) count (omega arith) (agrees-none (bare N L K E I S) us z)))

    pub settle-full : 256 < get_or N 3 0 + length (to_post x) → Settled N L K E I S room us plan Rust.None (Refuse (Word 10))
    settle-full h =
        settled-refused N L K E I S room us plan low (Word 10) (rw free (post-full (bare N L K E I S) us (get_or N 3 0) count (rw new at h)))

    module _ (fit : get_or N 3 0 + length (to_post x) ≤ 256) where
      pub settle-clash : (length (to_post x) ≡ 0 → ⊥) → agrees (posted (bare N L K E I S) (to_post x)) ≡ false → Settled N L K E I S room us plan Rust.None (Refuse (Word 9))
      settle-clash n h =
          settled-refused N L K E I S room us plan low (Word 9)
          (rw free (post-clash (bare N L K E I S) us (get_or N 3 0) count (rw new at fit) (agrees-not (bare N L K E I S) us (λ e. n (rw new e)) (rw new at h))))

      pub settle-agrees : agrees (posted (bare N L K E I S) (to_post x)) ≡ true → Settled N L K E I S room us plan (quietly x plan) plan
      settle-agrees h =
          settled-posted N L K E I S room us plan low x new (rw new at fit) free
          (rw free (post-agrees (bare N L K E I S) us (get_or N 3 0) count (rw new at fit) (agrees-some (bare N L K E I S) us (rw new at h))))

-- The decision on one instruction of the frame in row m of task k, whose row begins at cell b and has d operands; its class has that loader

pub record Acted (N L K E I S O F : List ℕ) (k m b d loader : ℕ) (i : Instruction) (x : Posting) (p : Plan) : Type 0 where
  pub says : (c : Class) (y n : ℕ) → c.loader ≡ loader
      → (let B = quick_base N L K E in let t = tables N L K E I S O F in
      meaning k (posted (world_in B t) (to_post x)) (objects_of B t) (stack (frame_in F k) m) F b (y + n) p
      ≡ execute k (world_in B t) (objects_of B t) (frame_of F b y d) (stack (frame_in F k) m) c (decoded i n) i)
  pub ties : get_or N 3 0 + length (to_post x) ≤ 256
  pub quiet : Quiet (to_post x) p
  pub fits : d ≤ 16 → Fit (quick_base N L K E) (tables N L K E I S O F) k m p

posted-none : (w : World) → posted w [] ≡ w
posted-none w = λ i. record { base = w.base; ties = append-nil w.ties i; subtypes = w.subtypes }

nothing-quiet : (p : Plan) → Quiet [] p
nothing-quiet (Refuse r) = refl
nothing-quiet (Keep d) = tt
nothing-quiet (Jump d p) = tt
nothing-quiet (Above d v) = tt
nothing-quiet (Local d j v) = tt
nothing-quiet (Give v) = tt
nothing-quiet (Finish v) = tt
nothing-quiet (Field d o j v) = tt
nothing-quiet (Enter d e) = tt
nothing-quiet (Make d c o) = tt

module _ (N L K E I S O F : List ℕ) (k m b d loader : ℕ) (i : Instruction) (p : Plan) (low : get_or N 3 0 ≤ 256) where
  abbrev B : Base
  B = quick_base N L K E

  abbrev T : Tables
  T = tables N L K E I S O F

  -- an instruction of its own frame alone
  pub acted-frame : FrameOnly F b d i p → Acted N L K E I S O F k m b d loader i Rust.None p
  unfolding to_post
  acted-frame h = record {
    says = λ c y n e.
        h.says k (posted (world_in B T) []) (objects_of B T) (stack (frame_in F k) m) c y n
        ∙ ap (λ (w : World). execute k w (objects_of B T) (frame_of F b y d) (stack (frame_in F k) m) c (decoded i n) i) (posted-none (world_in B T));
    ties = omega arith;
    quiet = nothing-quiet p;
    fits = λ few. h.fits few B T k m;
  }

  pub acted-return : Returning F k m b d i p → Acted N L K E I S O F k m b d loader i Rust.None p
  unfolding to_post
  acted-return h = record {
    says = λ c y n e.
        h.says (posted (world_in B T) []) (objects_of B T) c y n
        ∙ ap (λ (w : World). execute k w (objects_of B T) (frame_of F b y d) (stack (frame_in F k) m) c (decoded i n) i) (posted-none (world_in B T));
    ties = omega arith;
    quiet = nothing-quiet p;
    fits = λ few. h.fits B T refl;
  }

  -- new, where o is the lowest number unused and z how many objects the task made: a class that is cached has no more fields than a row has room for
  pub acted-make : (c o z : ℕ) → i ≡ New c → RoomIs N k o z → Making N L K E O F k b d loader c o z p → ((e : ℕ) → find B.cache (at loader c) ≡ some e → size_of B e ≤ 16)
      → Acted N L K E I S O F k m b d loader i Rust.None p
  unfolding to_post
  acted-make c o z q u h sizes = record {
    says = λ a y n e.
        ap (λ (w : World). meaning k w (objects_of B T) (stack (frame_in F k) m) F b (y + n) p) (posted-none (world_in B T))
        ∙ rw q (h.says u I S (stack (frame_in F k) m) a y n e);
    ties = omega arith;
    quiet = nothing-quiet p;
    fits = λ few. h.fits u sizes I S k m;
  }

-- An access: what is missing is refused; what was found is settled with its ties

module _ (N L K E I S O F : List ℕ) (k m b d loader : ℕ) (i : Instruction) (room : List Frame → Bool) (types : List ℕ) (low : get_or N 3 0 ≤ 256) where
  pub acted-unresolved : (r : Refusal) → Accessing N L K E O F b d loader room types i (Rust.Err r) → Acted N L K E I S O F k m b d loader i Rust.None (Refuse r)
  unfolding to_post accessed meaning
  acted-unresolved r h = record {
    says = λ c y n e. h.says I S k (stack (frame_in F k) m) c y n e;
    ties = omega arith;
    quiet = refl;
    fits = λ few. tt;
  }

  pub acted-resolved : (one : ℕ) (plan p : Plan) (x : Posting) (z : Bool) → Accessing N L K E O F b d loader room types i (resolved one plan)
      → z ≡ room (stack (frame_in F k) m) → Settled N L K E I S z (ties_on (rows (tie_at I) (get_or N 3 0) 0) one loader types) plan x p
      → Acted N L K E I S O F k m b d loader i x p
  unfolding accessed
  acted-resolved one plan p x z h q s = record {
    says = λ c y n e.
        s.says O F k (objects_of (quick_base N L K E) (tables N L K E I S O F)) (stack (frame_in F k) m) F b (y + n)
        ∙ rw q (h.says I S k (stack (frame_in F k) m) c y n e);
    ties = s.ties;
    quiet = s.quiet;
    fits = λ few. chosen few s.either;
  }
    where
      chosen : d ≤ 16 → ((p ≡ plan) × (z ≡ true)) ⊎ ((r : Refusal) × (p ≡ Refuse r)) → Fit (quick_base N L K E) (tables N L K E I S O F) k m p
      chosen few (inl e) = rw e.0 (rw (stack-length (frame_in F k) m) at (h.fits few I S k (stack (frame_in F k) m) (sym q ∙ e.1)))
      chosen few (inr e) = rw e.1 tt

-- An access that is settled

abbrev pub AccessSettled : List ℕ → List ℕ → List ℕ → List ℕ → List ℕ → List ℕ → Bool → ℕ → List ℕ → Answered → Posting → Plan → Type 0
AccessSettled N L K E I S room loader types (Rust.Err r) x p = (x ≡ Rust.None) × (p ≡ Refuse r)
AccessSettled N L K E I S room loader types (Rust.Ok a) x p =
    Settled N L K E I S room (ties_on (rows (tie_at I) (get_or N 3 0) 0) a.loader loader types) a.plan x p

-- its loader is there
abbrev pub Narrow : Answered → Type 0
Narrow (Rust.Err r) = Unit {0}
Narrow (Rust.Ok a) = a.loader < 16

pub acted-access : (N L K E I S O F : List ℕ) (k m b d loader : ℕ) (i : Instruction) (room : List Frame → Bool) (types : List ℕ) (z : Bool) (a : Answered) (x : Posting) (p : Plan)
    → get_or N 3 0 ≤ 256 → Accessing N L K E O F b d loader room types i a → z ≡ room (stack (frame_in F k) m) → AccessSettled N L K E I S z loader types a x p
    → Acted N L K E I S O F k m b d loader i x p
acted-access N L K E I S O F k m b d loader i room types z (Rust.Err r) x p low h q s =
    rw (s.0, s.1) (acted-unresolved N L K E I S O F k m b d loader i room types low r h)
acted-access N L K E I S O F k m b d loader i room types z (Rust.Ok a) x p low h q s =
    acted-resolved N L K E I S O F k m b d loader i room types low a.loader a.plan p x z h q s

-- What deciding asks of the tables: counts within their limits, the ties' length, ties between loaders, no class of more than 16 fields in the cache, loaders that are there

pub record Usable (N L K E I : List ℕ) : Type 0 where
  pub counts : Counts N
  pub ties : length I ≡ 768
  pub between : All Between (rows (tie_at I) (get_or N 3 0) 0)
  pub sizes : (r : Request) (e : ℕ) → find (quick_base N L K E).cache r ≡ some e → size_of (quick_base N L K E) e ≤ 16
  pub loaders : (c : ℕ) → loader_of (quick_base N L K E) c < 16

-- what new of task k asks for is at hand: the lowest number unused may be sought from `from` on, and the task, unless it is the quote, made `number` objects
abbrev pub RoomFor : List ℕ → ℕ → ℕ → ℕ → Type 0
RoomFor N k from number = (unused_from N from ≡ unused_from N 0) × (k ≢ 0 → number ≡ made_in N k)

pub narrow : (N L K E I : List ℕ) → Usable N L K E I → (O F : List ℕ) (b d loader : ℕ) (room : List Frame → Bool) (types : List ℕ) (i : Instruction) (a : Answered)
    → Accessing N L K E O F b d loader room types i a → Narrow a
narrow N L K E I u O F b d loader room types i (Rust.Err r) h = tt
narrow N L K E I u O F b d loader room types i (Rust.Ok a) h = let s = declaring-some (quick_base N L K E) loader i a.loader h.declared in omega (arith, u.loaders s.0, s.1)

-- room for one frame more, where m are below
pub frames-room : (F : List ℕ) (k m : ℕ) → ltb (m + 1) 32 ≡ frame_room (stack (frame_in F k) m)
frames-room F k m = rw (stack-length (frame_in F k) m, add-one m)
