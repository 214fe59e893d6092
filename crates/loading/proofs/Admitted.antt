-- Any load by what is admitted and decided of it: what its words are, what is answered and written, and what a try of it lists.
use mathlib.Core.Path.{◌≡◌, refl, sym, ap, subst, ◌∙◌}
use mathlib.Core.Bool.{true, false}
use mathlib.Core.Option.{Option}
use mathlib.Core.List.{List}
use Prim.Native.Nat.{ℕ, zero, suc, ◌<◌, ◌≤◌}
use native.Mathlib.Omega.{arith}
use lib.ListN.{length, drop}
use Rattle.definition.specs.declared.Refusal.{Refusal}
use Rattle.definition.specs.declared.Refusal.TheVariants.{Word}
use Rattle.definition.specs.declared.Reply.{Reply}
use Rattle.definition.specs.declared.Reply.TheVariants.{Accepted, Defined, Denied}
use Rattle.definition.specs.Numbers.{groups_cell}
use Rattle.definition.specs.Answers.{Result, refused, number, number_of}
use Rattle.definition.specs.Constraints.{agrees}
use Rattle.definition.specs.Tables.{Tables, Rows, view}
use Rattle.definition.specs.Broken.{broken}
use Rattle.definition.specs.Calls.{Given, Load, load_define, load_record, load_rows}
use Rattle.definition.specs.Reasons.{reason, unlisted, listed, try_load}
use Rattle.laws.specs.Refusals.{Refuses}
use Rattle.resolution.specs.Quick.{quick_base}
use Rattle.constraints.specs.Laws.{Beside}
use Rattle.entries.specs.Offers.{with_list, offered}
use Rattle.entries.proofs.Calls.{wrap-broken, wrap-refused}
use Rattle.entries.proofs.Offers.{list-long, list-short, list-unknown, try-quiet, try-clash}
use Rattle.loading.specs.declared.loads.Newcomer.{Newcomer}
use Rattle.std.specs.Prelude.{Ok, Err, Some, None}
use Rattle.loading.specs.Stages.{Plan}
use Rattle.loading.specs.Writing.{numbers_after}
use Rattle.loading.specs.Plans.{file_of, new_world, Sized, new_reply, Groupable, Newly, Admitted, Adding, Planned, Grouping, PostsNone, Made, Ready}

module _ (c : Load) (t : Tables) (size : ℕ) (u v : List ℕ) where
  abbrev offer : Rows → Result (Given Reply)
  offer = offered size c

  -- Refusals

  pub admits-broken : broken t ≡ true → Admitted (Err (Word 1)) c t size u v
  unfolding Admitted number
  admits-broken h = (wrap-broken Denied offer t h, λ z. omega arith)

  module _ (sound : broken t ≡ false) where
    pub admits-unknown : load_rows c (view t) ≡ refused (Word 3) → Admitted (Err (Word 3)) c t size u v
    unfolding Admitted number offered
    admits-unknown e = (wrap-refused Denied offer t sound (Word 3) (ap (with_list size) e ∙ list-unknown size (Word 3) refl), λ z. omega arith)

    pub admits-short : size < 512 → Refuses (λ x. number x ≡ 3 → ⊥) (load_rows c (view t)) → Admitted (Err (Word 16)) c t size u v
    unfolding Admitted number offered
    admits-short h k = (wrap-refused Denied offer t sound (Word 16) (list-short size (load_rows c (view t)) h k), λ z. omega arith)

    pub whole_by : 512 ≤ size → (o : Result (Given Reply)) → load_rows c (view t) ≡ o → offer (view t) ≡ o
    unfolding offered
    whole_by long o e = list-long size (load_rows c (view t)) long ∙ e

    pub admits-refused : 512 ≤ size → (r : Refusal) → load_rows c (view t) ≡ refused r → (number r ≡ 9 → ⊥) → Admitted (Err r) c t size u v
    unfolding Admitted
    admits-refused long r e k = (wrap-refused Denied offer t sound r (whole_by long (refused r) e), k)

  -- Decided by agreement

  pub decides-refuse : (r : Refusal) → Admitted (Err r) c t size u v → Planned (Err r) c t size u v
  unfolding Admitted Planned
  decides-refuse r h = h.0

  pub decides-keep : Admitted (Ok None) c t size u v → Planned (Ok None) c t size u v
  unfolding Admitted Planned
  decides-keep h = h

  module _ (n : Newcomer) (h : Newly c t size u v n) where
    abbrev agreeing : Type 0
    agreeing = agrees (new_world n (file_of c) (quick_base t.counts t.classes t.kept t.cache) u v) ≡ true

    pub decides-add : agreeing → Planned (Ok (Some n)) c t size u v
    unfolding Planned
    decides-add a = record { newly = h; whole = h.fine a }

    pub decides-clash : agrees (new_world n (file_of c) (quick_base t.counts t.classes t.kept t.cache) u v) ≡ false → Planned (Err (Word 9)) c t size u v
    unfolding Planned
    decides-clash a = wrap-refused Denied offer t h.sound (Word 9) (whole_by h.sound h.long (refused (Word 9)) (h.clash a))

  pub admitted-ready : (p : Plan) → Admitted p c t size u v → Ready t.counts t.classes t.kept t.cache p
  unfolding Admitted Ready
  admitted-ready (Err r) h = tt
  admitted-ready (Ok None) h = tt
  admitted-ready (Ok (Some n)) h = h.fits.sized

-- What a plan holds of a newcomer

pub ready-new : {p : Plan} (counts classes kept cache : List ℕ) (n : Newcomer) → p ≡ Ok (Some n) → Ready counts classes kept cache p → Sized counts classes kept cache n
unfolding Ready
ready-new counts classes kept cache n e h = subst (λ (x : Plan). Ready counts classes kept cache x) e h

pub planned-new : {p : Plan} {c : Load} {t : Tables} {size : ℕ} {u v : List ℕ} (n : Newcomer) → p ≡ Ok (Some n) → Planned p c t size u v → Adding c t size u v n
unfolding Planned
planned-new {p} {c} {t} {size} {u} {v} n e h = subst (λ (x : Plan). Planned x c t size u v) e h

-- The reply

module _ (n : Newcomer) where
  abbrev by : ℕ → Reply
  by a = elim a as (λ _. Reply) [ zero ↦ Accepted | suc p ↦ Defined n.class ]

  pub reply-entry : n.above ≡ 0 → Accepted ≡ new_reply n
  unfolding new_reply
  reply-entry e = sym (ap by e)

  pub reply-class : (n.above ≡ 0 → ⊥) → Defined n.class ≡ new_reply n
  unfolding new_reply
  reply-class k = go n.above k
    where
      go : (a : ℕ) → (a ≡ 0 → ⊥) → Defined n.class ≡ by a
      go zero d = absurd (d refl)
      go (suc p) d = refl

-- The groups that a newcomer is judged by

-- of a define: made of its ties
pub made-grouping : (p : Plan) (l : ℕ) (bs : List ℕ) (t : Tables) (size : ℕ) (u v g : List ℕ) → Admitted p (load_define l bs) t size u v → Made p u g → Grouping p u g
unfolding Admitted Made Grouping Groupable
made-grouping (Err r) l bs t size u v g h m = tt
made-grouping (Ok None) l bs t size u v g h m = tt
made-grouping (Ok (Some n)) l bs t size u v g h m = m h.fits.sized.grown.ties_few h.groups.0

-- of a define that posts no tie: those beside the stored ties
pub kept-grouping : (p : Plan) (l : ℕ) (bs : List ℕ) (t : Tables) (size : ℕ) (u v g : List ℕ) → g ≡ drop groups_cell t.counts → PostsNone p t.counts → Admitted p (load_define l bs) t size u v → Grouping p u g
unfolding Admitted PostsNone Grouping Groupable
kept-grouping (Err r) l bs t size u v g e k h = tt
kept-grouping (Ok None) l bs t size u v g e k h = tt
kept-grouping (Ok (Some n)) l bs t size u v g e k h = subst (λ (x : List ℕ). Beside u x n.tied) (sym e) (h.groups.1 k)

-- of a record: those beside the stored ties
pub stored-grouping : (p : Plan) (l m k : ℕ) (t : Tables) (size : ℕ) (u v g : List ℕ) → g ≡ drop groups_cell t.counts → Admitted p (load_record l m k) t size u v → Grouping p u g
unfolding Admitted Grouping Groupable
stored-grouping (Err r) l m k t size u v g e h = tt
stored-grouping (Ok None) l m k t size u v g e h = tt
stored-grouping (Ok (Some n)) l m k t size u v g e h = subst (λ (x : List ℕ). Beside u x n.tied) (sym e) h.groups

-- Tried

new-number : (n : Newcomer) → number_of (new_reply n) ≡ 9 → ⊥
unfolding new_reply number_of
new-number n = go n.above
  where
    go : (a : ℕ) → number_of (elim a as (λ _. Reply) [ zero ↦ Accepted | suc p ↦ Defined n.class ]) ≡ 9 → ⊥
    go zero z = omega arith
    go (suc p) z = omega arith

module _ (c : Load) (out : List ℕ) (t : Tables) (u v : List ℕ) where
  pub tries-refused : (r : Refusal) → Admitted (Err r) c t (length out) u v → unlisted (Denied r) out ≡ try_load c out t
  unfolding Admitted number_of
  tries-refused r h = try-quiet c out t t (Denied r) h.0 h.1

  pub tries-kept : Admitted (Ok None) c t (length out) u v → unlisted Accepted out ≡ try_load c out t
  unfolding Admitted number_of
  tries-kept h = try-quiet c out t t Accepted h (λ z. omega arith)

  module _ (n : Newcomer) (h : Newly c t (length out) u v n) where
    pub tries-new : agrees (new_world n (file_of c) (quick_base t.counts t.classes t.kept t.cache) u v) ≡ true → unlisted (new_reply n) out ≡ try_load c out t
    tries-new a = try-quiet c out t _ (new_reply n) (h.fine a) (new-number n)

    pub tries-clash : agrees (new_world n (file_of c) (quick_base t.counts t.classes t.kept t.cache) u v) ≡ false
        → listed (Denied (Word 9)) (reason (new_world n (file_of c) (quick_base t.counts t.classes t.kept t.cache) u v) (numbers_after t.counts n.tied n.noted)) out
        ≡ try_load c out t
    tries-clash a = ap (λ (o : Option (List ℕ)). listed (Denied (Word 9)) o out) h.listed ∙ try-clash c out t h.sound h.long (h.clash a)
