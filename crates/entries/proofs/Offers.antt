-- Loads offered with a list: what the list decides, and what a load and a try are by what is offered.
use Rattle.std.proofs.Common.{◌≡◌, ℕ, ◌<◌, ◌≤◌, Bool, true, false, not, ◌&&◌, eqb, ltb, List, length, sym, refl, ap, ◌∙◌, arith, le-ltb, lt-ltb, eq-eqb, ne_eqb}
use mathlib.Core.Option.{Option, some}
use Rattle.definition.specs.declared.Refusal.{Refusal}
use Rattle.definition.specs.declared.Refusal.TheVariants.{Word}
use Rattle.definition.specs.declared.Reply.{Reply}
use Rattle.definition.specs.declared.Reply.TheVariants.{Denied}
use Rattle.definition.specs.Answers.{Result, refused, ok, number, number_of}
use Rattle.definition.specs.Constraints.{World}
use Rattle.definition.specs.Tables.{Tables, Rows, world_of, view}
use Rattle.definition.specs.Broken.{broken}
use Rattle.definition.specs.Calls.{Given, Done, done, carried, wrap, numbered_on, Load, load_rows, tried_with, try_rows, call_rows, call_try, perform}
use Rattle.definition.specs.Reasons.{reason, unlisted, listed, after_load, reason_after, tried, try_load}
use Rattle.laws.specs.Options.{bind-at}
use Rattle.laws.specs.Refusals.{Refuses, load_call, load-rows}
use Rattle.laws.specs.Wrapped.{wrap-broken, wrap-carried}
use Rattle.laws.specs.Tried.{reply_of}
use Rattle.unbroken.specs.Tried.{try-unbroken, try-answer, try-lists-none}
use Rattle.entries.specs.Offers.{with_list, offered}

-- a refused load by two tests: the list is short, the word is 3
abbrev refused_with : Refusal → Bool → Bool → Result (Given Reply)
refused_with x s u = elim (s && not u) as (λ _. Result (Given Reply)) [ true ↦ refused (Word 16) | false ↦ refused x ]

module _ (n : ℕ) where
  refused-with : (x : Refusal) {s u : Bool} → ltb n 512 ≡ s → eqb (number x) 3 ≡ u → with_list n (refused x) ≡ refused_with x s u
  unfolding with_list
  refused-with x p q = λ i. refused_with x (p i) (q i)

  -- with a list that is long enough, what the load gives
  pub list-long : (o : Result (Given Reply)) → 512 ≤ n → with_list n o ≡ o
  unfolding with_list
  list-long (ok g) h = rw (le-ltb n 512 h, with_list) refl
  list-long (refused x) h = refused-with x (le-ltb n 512 h) refl

  -- with a shorter one 16, but for 3
  pub list-short : (o : Result (Given Reply)) → n < 512 → Refuses (λ x. number x ≡ 3 → ⊥) o → with_list n o ≡ refused (Word 16)
  unfolding with_list
  list-short (ok g) h k = rw (lt-ltb n 512 h, with_list) refl
  list-short (refused x) h k = refused-with x (lt-ltb n 512 h) (ne_eqb (number x) 3 k)

  pub list-unknown : (x : Refusal) → number x ≡ 3 → with_list n (refused x) ≡ refused x
  list-unknown x e = refused-with x refl (eq-eqb (number x) 3 e) ∙ go (ltb n 512)
    where
      go : (s : Bool) → refused_with x s true ≡ refused x
      go true = refl
      go false = refl

-- the load itself
pub offered-whole : (c : Load) (t : Tables) → wrap Denied (offered 512 c) t ≡ perform (call_rows (load_call c)) t
unfolding perform offered
offered-whole c t =
    ap (λ (f : Rows → Result (Given Reply)). wrap Denied f t) (λ i r. list-long 512 (load_rows c r) (omega arith) i)
    ∙ ap (λ (f : Rows → Result (Given Reply)). wrap Denied f t) (sym (load-rows c))

-- a try answers what is offered
tried-reply : (n : ℕ) (r : Rows) (o : Result (Given Reply)) → reply_of (with_list n o) ≡ reply_of (tried_with n r o)
unfolding with_list tried_with
tried-reply n r (ok g) = go (ltb n 512)
  where
    go : (s : Bool) → reply_of (elim s as (λ _. Result (Given Reply)) [ true ↦ refused (Word 16) | false ↦ ok g ])
        ≡ reply_of (elim s as (λ _. Result (Given Reply)) [ true ↦ refused (Word 16) | false ↦ ok (record { answer = g.answer; rows = r }) ])
    go true = refl
    go false = refl
tried-reply n r (refused w) = refl

carried-reply : (t : Tables) (o : Result (Given Reply)) → (carried Denied t o).answer ≡ reply_of o
unfolding carried
carried-reply t (ok g) = refl
carried-reply t (refused w) = refl

pub offered-answer : (c : Load) (n : ℕ) (t : Tables) → (wrap Denied (offered n c) t).answer ≡ (perform (call_try c n) t).answer
unfolding perform offered try_rows
offered-answer c n t = go (broken t) refl
  where
    answer : Done Reply → Reply
    answer d = d.answer

    go : (b : Bool) → broken t ≡ b → (wrap Denied (offered n c) t).answer ≡ (wrap Denied (try_rows c n) t).answer
    go true h = ap answer (wrap-broken Denied (offered n c) t h) ∙ sym (ap answer (wrap-broken Denied (try_rows c n) t h))
    go false h =
        ap answer (wrap-carried Denied (offered n c) t h) ∙ (carried-reply t (offered n c (view t)) ∙ (tried-reply n (view t) (load_rows c (view t))
        ∙ sym (ap answer (wrap-carried Denied (try_rows c n) t h) ∙ carried-reply t (try_rows c n (view t)))))

-- A try by what is offered with its list: without a clash nothing is listed
pub try-quiet : (c : Load) (out : List ℕ) (t u : Tables) (a : Reply) → done a u ≡ wrap Denied (offered (length out) c) t → (number_of a ≡ 9 → ⊥) → unlisted a out ≡ try_load c out t
try-quiet c out t u a e k =
    let told : (try_load c out t).answer ≡ a = try-answer c out t ∙ sym (ap (λ (d : Done Reply). d.answer) e ∙ offered-answer c (length out) t) in
    sym (try-lists-none c out t (λ z. k (ap number_of (sym told) ∙ z)) ∙ ap (λ (x : Reply). unlisted x out) told)

-- and a clash lists the reason
pub try-clash : (c : Load) (out : List ℕ) (t : Tables) → broken t ≡ false → 512 ≤ length out → load_rows c (view t) ≡ refused (Word 9)
    → listed (Denied (Word 9)) (reason_after (view t) (after_load c (world_of (view t)))) out ≡ try_load c out t
unfolding tried try_rows tried_with number
try-clash c out t h l e =
    let same : try_rows c (length out) (view t) ≡ refused (Word 9) = ap (tried_with (length out) (view t)) e ∙ rw (le-ltb (length out) 512 l, tried_with) refl in
    sym (try-unbroken c out t h ∙ ap (λ (o : Result (Given Reply)). tried (view t) (after_load c (world_of (view t))) o out) same)

-- the reason of a store that a load would leave
pub reason-after : (r : Rows) (after : Option World) (w : World) → after ≡ some w → reason_after r after ≡ reason w (numbered_on w.ties w.subtypes r)
unfolding reason_after
reason-after r after w e = bind-at after (λ w. reason w (numbered_on w.ties w.subtypes r)) w e
