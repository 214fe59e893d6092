-- What an accepted record and an accepted define did, over classes.
use Rattle.std.specs.Prelude.{◌≡◌, refl, Bool, true, List, ◌++◌, ◌⊎◌, ℕ, ◌+◌, ◌≤◌, ◌<◌, length, eqb, leb, ltb}
use Rattle.std.proofs.Common.{ap, ◌∙◌, inl, inr, eqb-true, leb-true, ltb-true}
use Rattle.std.proofs.Math.Option.{Option, none, some}
use Rattle.definition.specs.Answers.{Result, ◌>>=◌, need, ok}
use Rattle.definition.specs.Classes.{Class, find}
use Rattle.definition.specs.Constraints.{World, agrees}
use Rattle.definition.specs.Loading.{define, new_subtypes, override_ties, recorded, with_class, with_entry}
use Rattle.definition.specs.Requests.{at}
use Rattle.definition.specs.Tables.{size_of}
use Rattle.definition.specs.Verifier.{Note, notes_of}
use Rattle.definition.specs.declared.Refusal.TheVariants.{Word}
use Rattle.laws.specs.Growth.{nth-lt}
use Rattle.laws.specs.Results.{bind_ok, need-ok, ok-inj, take-ok}
use Rattle.laws.specs.Tests.{and-true, none_is}
use Rattle.layout.specs.Tests.{every_true}
use Rattle.definition.specs.Maybe as Maybe

-- the entry is new
pub record Entered (l n c : ℕ) (w v : World) : Type 0 where
  pub loader : l < 16
  pub class : c < length w.base.classes
  pub fresh : find w.base.cache (at l n) ≡ none
  pub room : length w.base.cache < 256
  pub is : with_entry w (at l n) c ≡ v

-- the entry was there
pub record Stood (l n c : ℕ) (w v : World) : Type 0 where
  pub cached : find w.base.cache (at l n) ≡ some c
  pub is : w ≡ v

pub recorded-is : (l n c : ℕ) (w v : World) → recorded l n c w ≡ ok v → Stood l n c w v ⊎ Entered l n c w v
unfolding recorded
recorded-is l n c w v e =
    let a = bind_ok _ _ e in
    let b = bind_ok _ _ a.2 in
    let d = bind_ok _ _ b.2 in
    go (ltb-true l 16 (and-true (ltb l 16) (leb 2 n) (need-ok _ _ a.1)).0) (nth-lt w.base.classes c b.0 (take-ok _ _ b.1)) (find w.base.cache (at l n)) refl d.2
  where
    go : l < 16 → c < length w.base.classes → (o : Option ℕ) → find w.base.cache (at l n) ≡ o
        → (elim o as (λ _. Result World) [ some d ↦ need (eqb d c) (Word 4) >>= λ _. ok w | none ↦ need (ltb (length w.base.cache) 256) (Word 10) >>= λ _. need (agrees (with_entry w (at l n) c)) (Word 9) >>= λ _. ok (with_entry w (at l n) c) ]) ≡ ok v
        → Stood l n c w v ⊎ Entered l n c w v
    go x y none q h = let p = bind_ok _ _ h in let u = bind_ok _ _ p.2 in inr (record { loader = x; class = y; fresh = q; room = ltb-true (length w.base.cache) 256 (need-ok _ _ p.1); is = ok-inj u.2 })
    go x y (some d) q h = let p = bind_ok _ _ h in inl (record { cached = q ∙ ap some (eqb-true d c (need-ok _ _ p.1)); is = ok-inj p.2 })

pub record DefineAccepted (room : Bool) (k : Class) (w v : World) : Type 0 where
  pub super : ℕ
  pub cached : find w.base.cache (at k.loader k.super) ≡ some super
  pub notes : List Note
  pub verified : notes_of k k.methods ≡ some notes
  pub fresh : find w.base.cache (at k.loader k.name) ≡ none
  pub kept : room ≡ true
  pub classes : length w.base.classes < 64
  pub cache : length w.base.cache < 256
  pub ties : length (w.ties ++ override_ties w.base k.loader super w.ties k.methods) ≤ 256
  pub subtypes : length (w.subtypes ++ new_subtypes w.subtypes k.loader notes) ≤ 256
  pub size : size_of w.base super + length k.fields ≤ 16
  pub is : with_class w k (override_ties w.base k.loader super w.ties k.methods) (new_subtypes w.subtypes k.loader notes) ≡ v

pub defined-is : (room : Bool) (k : Class) (w v : World) → define room k w ≡ ok v → DefineAccepted room k w v
unfolding define
defined-is room k w v e =
    let a = bind_ok _ _ e in
    let b = bind_ok _ _ a.2 in
    let c = bind_ok _ _ b.2 in
    let d = bind_ok _ _ c.2 in
    let f = bind_ok _ _ d.2 in
    let g = bind_ok _ _ f.2 in
    let p = every_true _ (need-ok _ _ f.1) in
    record {
      super = d.0;
      cached = take-ok _ _ d.1;
      notes = b.0;
      verified = take-ok _ _ b.1;
      fresh = none_is _ (need-ok _ _ c.1);
      kept = p.0;
      classes = ltb-true _ _ p.1.0;
      cache = ltb-true _ _ p.1.1.0;
      ties = leb-true _ _ p.1.1.1.0;
      subtypes = leb-true _ _ p.1.1.1.1.0;
      size = leb-true _ _ p.1.1.1.1.1.0;
      is = ok-inj g.2;
    }
