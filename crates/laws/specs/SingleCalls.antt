-- What a call with a list of one argument does, and a start, is what it did before paper 7: one argument is popped and its kind checked, ties go on it and on the result, and the frame that is
-- entered has this in local 0 and the argument in local 1. A call that is decoded in code of a version before 3 has such a list (`decode-single`).
use Rattle.std.specs.Prelude.{◌≡◌, not, ◌&&◌, List, [], ◌∷◌, ℕ, suc, length, leb, ltb}
use Rattle.std.proofs.Math.Path.{refl}
use Rattle.std.proofs.Math.Option.{none}
use Rattle.definition.specs.declared.Refusal.TheVariants.{Word}
use Rattle.definition.specs.declared.Instruction.TheVariants.{Invokevirtual}
use Rattle.definition.specs.Numbers.{word_unknown, word_absent, word_full, word_share, word_stuck, word_busy, name_int, name_object, loader_limit, frame_limit}
use Rattle.definition.specs.Lists.{filled}
use Rattle.definition.specs.Requests.{at}
use Rattle.definition.specs.Maybe as Maybe
use Rattle.definition.specs.Answers.{wanted, Result, refused, ok, ◌>>=◌, need, take?}
use Rattle.definition.specs.Classes.{Class, find, loader_of, selected}
use Rattle.definition.specs.Constraints.{World, post, signature_ties}
use Rattle.definition.specs.Instructions.{Decoded}
use Rattle.definition.specs.Verifier.{pop, pop_all}
use Rattle.definition.specs.Machine.{Value, empty_value, int_value, object_value, Objects, Frame, unused, made, roomless, share_used, new_object, entry_frame, pop!, pop_all!, kind!, kinds!, object!, past, execute}
use Rattle.definition.specs.Loading.{started}
use Rattle.laws.specs.Single.{single_signature}

abbrev Popped : Type 0
Popped = record { top : Value; more : List Value }

pub single-pop! : (vs : List Value) → pop_all! 1 vs ≡ (pop! vs >>= λ p. ok (record { all = p.top ∷ []; more = p.more }))
unfolding pop_all! pop! pop_all pop take? ◌>>=◌ Maybe.◌>>=◌
single-pop! [] = refl
single-pop! (v ∷ vs) = refl

pub single-kinds : (t : ℕ) (v : Value) → kinds! (t ∷ []) (v ∷ []) ≡ kind! t v
unfolding kinds!
single-kinds t v = go (kind! t v)
  where
    go : (o : Result (Unit {0})) → (o >>= λ _. ok tt) ≡ o
    go (refused w) = unfold ◌>>=◌ in refl
    go (ok u) = unfold ◌>>=◌ in refl

-- local 0 holds this and local 1 the argument, the rest begin empty
abbrev pub single_frame : ℕ → ℕ → ℕ → Value → Frame
single_frame c j o v = record {
  class = c;
  method = j;
  point = 0;
  operands = [];
  locals = object_value o ∷ v ∷ empty_value ∷ empty_value ∷ empty_value ∷ empty_value ∷ empty_value ∷ empty_value ∷ [];
}

pub single-frame : (c j o : ℕ) (v : Value) → entry_frame c j o (v ∷ []) ≡ single_frame c j o v
unfolding filled
single-frame c j o v = refl

-- the argument is popped, then the receiver, then the argument's kind checked; what comes then is g
pops : {B : Type 0} (a : ℕ) (g : List Value → Popped → Result B) (vs : List Value)
    → (pop_all! 1 vs >>= λ p. pop! p.more >>= λ q. kinds! (a ∷ []) p.all >>= λ _. g p.all q) ≡ (pop! vs >>= λ p. pop! p.more >>= λ q. kind! a p.top >>= λ _. g (p.top ∷ []) q)
unfolding pop_all! pop! pop_all pop take? ◌>>=◌ Maybe.◌>>=◌
pops a g [] = refl
pops a g (v ∷ vs) = λ i. pop! vs >>= λ q. single-kinds a v i >>= λ _. g (v ∷ []) q

module _ (task : ℕ) (w : World) (os : Objects) (f : Frame) (fs : List Frame) (k : Class) (i : Decoded) where
  pub single-call : (c n a r : ℕ) → execute task w os f fs k i (Invokevirtual c (single_signature n a r))
      ≡ (take? (find w.base.cache (at k.loader c)) (wanted (at k.loader c)) >>= λ e.
      take? (selected w.base (single_signature n a r) e) (Word word_absent) >>= λ d.
      post w (ltb (suc (length fs)) frame_limit) (signature_ties w.ties (loader_of w.base d.class) k.loader (single_signature n a r)) >>= λ w'.
      pop! f.operands >>= λ p. pop! p.more >>= λ q. kind! a p.top >>= λ _. object! w.base os e q.top >>= λ o.
      take? (selected w.base (single_signature n a r) o.object.class) (Word word_stuck) >>= λ m.
      ok (record { world = w'; objects = os; frames = single_frame m.class m.place o.number p.top ∷ past f i q.more f.locals ∷ fs; result = none }))
  unfolding execute filled
  single-call c n a r = λ j.
      take? (find w.base.cache (at k.loader c)) (wanted (at k.loader c)) >>= λ e.
      take? (selected w.base (single_signature n a r) e) (Word word_absent) >>= λ d.
      post w (ltb (suc (length fs)) frame_limit) (signature_ties w.ties (loader_of w.base d.class) k.loader (single_signature n a r)) >>= λ w'.
      pops a (λ vs q. object! w.base os e q.top >>= λ o. take? (selected w.base (single_signature n a r) o.object.class) (Word word_stuck) >>= λ m.
      ok (record { world = w'; objects = os; frames = entry_frame m.class m.place o.number vs ∷ past f i q.more f.locals ∷ fs; result = none })) f.operands j

-- start's method is of (m, int, int), its frame has the int in local 1
pub single-start : (k l n m v : ℕ) (w : World) (os : Objects) (fs : List Frame) → started k l n m v w os fs
    ≡ (need (ltb l loader_limit && leb name_object n && leb 1 m) (Word word_unknown) >>= λ _.
    need (leb (length fs) 0) (Word word_busy) >>= λ _.
    take? (find w.base.cache (at l n)) (wanted (at l n)) >>= λ c.
    take? (selected w.base (single_signature m name_int name_int) c) (Word word_absent) >>= λ s.
    need (not (share_used k os)) (Word word_share) >>= λ _.
    need (not (roomless k os)) (Word word_full) >>= λ _.
    ok (record { world = w; objects = made k (new_object w.base c) os; frames = single_frame s.class s.place (unused os) (int_value v) ∷ []; result = none }))
unfolding started filled
single-start k l n m v w os fs = refl
