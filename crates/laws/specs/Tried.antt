-- The tried loads: one that is accepted answers what the load does and leaves the rows as they are. A load that is refused with 9 would leave a store that
-- doesn't agree, with its entry and its constraints behind the stored ones.
use Rattle.std.proofs.Math.Path.{◌≡◌, refl, sym, ap}
use Rattle.std.proofs.Common.{◌∙◌, append-nil, arith}
use Rattle.std.specs.Prelude.{Bool, not, ◌&&◌, List, [], ◌∷◌, ◌++◌, ℕ, ◌≤◌, ◌<◌, length}
use Rattle.std.proofs.Math.Bool.{true, false}
use Rattle.std.proofs.lemmas.Bool.{false≢true}
use Rattle.std.proofs.Math.Option.{Option, none, some}
use Rattle.std.proofs.Math.Dec.{eqb, ltb}
use borrow.Author.Tests.{leb-true, lt-ltb, le-ltb, ltb-false, eqb-true, ne_eqb, eq-eqb}
use Rattle.definition.specs.declared.Refusal.{Refusal}
use Rattle.definition.specs.declared.Refusal.TheVariants.{Word}
use Rattle.definition.specs.declared.Reply.{Reply}
use Rattle.definition.specs.declared.Reply.TheVariants.{Denied}
use Rattle.definition.specs.Lists.{every}
use Rattle.definition.specs.Answers.{Result, ok, refused, need, ◌>>=◌, number}
use Rattle.definition.specs.Requests.{at}
use Rattle.definition.specs.Classes.{find}
use Rattle.definition.specs.Constraints.{Tie, Subtype, World, agrees}
use Rattle.definition.specs.Loading.{define, recorded, with_entry}
use Rattle.definition.specs.File.{read_file}
use Rattle.definition.specs.Tables.{Rows, world_of}
use Rattle.definition.specs.Calls.{Given, Load, load_define, load_record, load_rows, tried_with, try_rows, define_rows, record_rows}
use Rattle.definition.specs.Reasons.{after_define, after_load}
use Rattle.laws.specs.Options.{some-bind}
use Rattle.laws.specs.Wrapped.{Ok}
use Rattle.laws.specs.Refusals.{Refuses, unmoved, try-either, on-bind, on_test, on-take}

-- what holds of the rows holds of those that a try leaves
pub try-leaves : (Q : Rows → Type 0) (c : Load) (n : ℕ) (r : Rows) → Q r → Ok (try_rows c n r) (λ g. Q g.rows)
try-leaves Q c n r h = try-either (λ o. Ok o (λ g. Q g.rows)) c n r tt (go (load_rows c r))
  where
    go : (o : Result (Given Reply)) → Ok (unmoved r o) (λ g. Q g.rows)
    go (ok g) = h
    go (refused w) = tt

-- What a try answers, by what the load does

-- the answer of a call on rows
abbrev pub reply_of : Result (Given Reply) → Reply
reply_of (ok g) = g.answer
reply_of (refused x) = Denied x

module _ (n : ℕ) (r : Rows) where
  -- a refused load by two tests: the list is short, the word is 3
  abbrev refused_with : Refusal → Bool → Bool → Result (Given Reply)
  refused_with x s u = elim (s && not u) as (λ _. Result (Given Reply)) [ true ↦ refused (Word 16) | false ↦ refused x ]

  refused-with : (x : Refusal) {s u : Bool} → ltb n 512 ≡ s → eqb (number x) 3 ≡ u → tried_with n r (refused x) ≡ refused_with x s u
  unfolding tried_with
  refused-with x p q = λ i. refused_with x (p i) (q i)

  -- with a list of 512 numbers or more, what the load answers
  pub tried-long : (o : Result (Given Reply)) → 512 ≤ n → reply_of (tried_with n r o) ≡ reply_of o
  unfolding tried_with
  tried-long (ok g) h = rw (le-ltb n 512 h, tried_with) refl
  tried-long (refused x) h = ap reply_of (refused-with x (le-ltb n 512 h) refl)

  -- with a shorter list 16, but for 3, which comes first whatever the list

  pub tried-short : (o : Result (Given Reply)) → n < 512 → ((x : Refusal) → o ≡ refused x → number x ≡ 3 → ⊥) → tried_with n r o ≡ refused (Word 16)
  unfolding tried_with
  tried-short (ok g) h k = rw (lt-ltb n 512 h, tried_with) refl
  tried-short (refused x) h k = refused-with x (lt-ltb n 512 h) (ne_eqb (number x) 3 (k x refl))

  pub tried-unknown : (x : Refusal) → number x ≡ 3 → tried_with n r (refused x) ≡ refused x
  tried-unknown x e = refused-with x refl (eq-eqb (number x) 3 e) ∙ go (ltb n 512)
    where
      go : (s : Bool) → refused_with x s true ≡ refused x
      go true = refl
      go false = refl

  -- where it is refused with another word, the list is long enough, and the load is refused so
  pub tried_other : (o : Result (Given Reply)) (x : Refusal) → tried_with n r o ≡ refused x → (number x ≡ 16 → ⊥) → (number x ≡ 3 → ⊥) → (512 ≤ n) × (o ≡ refused x)
  unfolding tried_with number
  tried_other (ok g) x e short unknown = go (ltb n 512) refl e
    where
      go : (s : Bool) → ltb n 512 ≡ s → ◌≡◌ {A = Result (Given Reply)} (elim s as (λ _. Result (Given Reply)) [ true ↦ refused (Word 16) | false ↦ unmoved r (ok g) ]) (refused x) → (512 ≤ n) × (ok g ≡ refused x)
      go true q e = absurd (short (let z : x ≡ Word 16 = cc in ap number z))
      go false q e = absurd (let z : ◌≡◌ {A = ℕ} 0 1 = cc in omega arith)
  tried_other (refused w) x e short unknown = go (ltb n 512) (eqb (number w) 3) refl refl e
    where
      go : (s u : Bool) → ltb n 512 ≡ s → eqb (number w) 3 ≡ u → refused_with w s u ≡ refused x → (512 ≤ n) × (◌≡◌ {A = Result (Given Reply)} (refused w) (refused x))
      go true false q p e = absurd (short (let z : x ≡ Word 16 = cc in ap number z))
      go true true q p e = absurd (unknown (let z : w ≡ x = cc in sym (ap number z) ∙ eqb-true (number w) 3 p))
      go false u q p e = (ltb-false n 512 q, e)

-- what the load would leave
pub record Clashed (r : Rows) (after : Option World) : Type 0 where
  pub world : World
  pub left : after ≡ some world
  pub disagrees : agrees world ≡ false
  pub new_ties : List Tie
  pub new_subtypes : List Subtype
  pub ties : world.ties ≡ r.ties ++ new_ties
  pub subtypes : world.subtypes ≡ r.subtypes ++ new_subtypes
  pub tie_room : length r.ties ≤ 256 → length world.ties ≤ 256
  pub subtype_room : length r.subtypes ≤ 256 → length world.subtypes ≤ 256

abbrev On9 : Rows → Option World → Refusal → Type 0
On9 r after w = number w ≡ 9 → Clashed r after

every-on : (b : Bool) (bs : List Bool) → every (b ∷ bs) ≡ true → (b ≡ true) × (every bs ≡ true)
unfolding every
every-on true bs h = (refl, h)
every-on false bs h = absurd (false≢true h)

define-clash : (l : ℕ) (bs : List ℕ) (r : Rows) → Refuses (On9 r (after_load (load_define l bs) (world_of r))) (define_rows l bs r)
unfolding define_rows define after_define number
define-clash l bs r =
    on_test P _ _ _ (λ _ e. absurd (omega arith)) (λ _. on-take P _ _ _ (λ _ e. absurd (omega arith)) (λ f ef. on-bind P _ _
    (on_test P _ _ _ (λ _ e. absurd (omega arith)) (λ _. on-take P _ _ _ (λ _ e. absurd (omega arith)) (λ ns en. on_test P _ _ _ (λ _ e. absurd (omega arith)) (λ _.
    on-take P _ _ _ (λ _ e. absurd (omega arith)) (λ p ep. on_test P _ _ _ (λ _ e. absurd (omega arith)) (λ full.
    on_test P _ _ _ (λ a _.
    let x = every-on _ _ full in
    let y = every-on _ _ x.1 in
    let z = every-on _ _ y.1 in
    let u = every-on _ _ z.1 in
    let v = every-on _ _ u.1 in
    record {
      world = _;
      left = some-bind (read_file bs) _ ef (some-bind _ _ en (some-bind _ _ ep refl));
      disagrees = a;
      new_ties = _;
      new_subtypes = _;
      ties = refl;
      subtypes = refl;
      tie_room = λ _. leb-true _ _ u.0;
      subtype_room = λ _. leb-true _ _ v.0;
    }) (λ _. tt))))))) (λ _ _. tt)))
  where
    P : Refusal → Type 0
    P = On9 r (after_load (load_define l bs) (world_of r))

record-clash : (l n c : ℕ) (r : Rows) → Refuses (On9 r (after_load (load_record l n c) (world_of r))) (record_rows l n c r)
unfolding record_rows recorded number
record-clash l n c r =
    on-bind P _ _ (on_test P _ _ _ (λ _ e. absurd (omega arith)) (λ _. on-take P _ _ _ (λ _ e. absurd (omega arith)) (λ _ _. on_test P _ _ _ (λ _ e. absurd (omega arith)) (λ _. go (find r.cache (at l n)))))) (λ _ _. tt)
  where
    P : Refusal → Type 0
    P = On9 r (after_load (load_record l n c) (world_of r))

    go : (o : Option ℕ) → Refuses {A = World} P (elim o as (λ _. Result World) [
      | some d ↦ need (eqb d c) (Word 4) >>= λ _. ok (world_of r)
      | none ↦ need (ltb (length r.cache) 256) (Word 10) >>= λ _. need (agrees (with_entry (world_of r) (at l n) c)) (Word 9) >>= λ _. ok (with_entry (world_of r) (at l n) c)
    ])
    go none = on_test P _ _ _ (λ _ e. absurd (omega arith)) (λ _. on_test P _ _ _ (λ a _. record {
      world = with_entry (world_of r) (at l n) c;
      left = refl;
      disagrees = a;
      new_ties = [];
      new_subtypes = [];
      ties = sym (append-nil r.ties);
      subtypes = sym (append-nil r.subtypes);
      tie_room = λ h. h;
      subtype_room = λ h. h;
    }) (λ _. tt))
    go (some d) = on_test P _ _ _ (λ _ e. absurd (omega arith)) (λ _. tt)

pub load-clash : (c : Load) (r : Rows) → Refuses (On9 r (after_load c (world_of r))) (load_rows c r)
load-clash (load_define l bs) r = define-clash l bs r
load-clash (load_record l n c) r = record-clash l n c r
