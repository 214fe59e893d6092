-- The invariant is kept by loads, starts and steps.
use Rattle.std.specs.Prelude.{◌≡◌, refl, Bool, true, List, [], ◌∷◌, map, ℕ, zero, suc, length, eqb, ltb}
use Rattle.std.proofs.Common.{sym, ap, ◌∙◌, arith}
use Rattle.std.proofs.Math.Option.{Option, none, some, none-ne-some, some-injective}
use mathlib.Core.List.Memᴰ
use Rattle.std.proofs.Math.ListN.{get_elem?}
use Rattle.definition.specs.declared.Signature.{Signature}
use Rattle.definition.specs.Answers.{Result, ◌>>=◌, need, ok, refused}
use Rattle.definition.specs.Chains.{fires, grow, has, rest, reach, reach_from}
use Rattle.definition.specs.Classes.{Class, Entry, find, loader_of, slots, super_of, Selected, start_signature}
use Rattle.definition.specs.Constraints.{World, agrees, edges, pair_agrees, row_agrees, subtype_edges, tie_edges, agrees_over}
use Rattle.definition.specs.Lists.{all}
use Rattle.definition.specs.Loading.{define, recorded, started, with_entry}
use Rattle.definition.specs.Machine.{Frame, Object, Progress, entry_frame, initial_value, int_value, new_object, Objects, unused, made}
use Rattle.definition.specs.Requests.{at, same_request}
use Rattle.definition.specs.declared.Refusal.TheVariants.{Word}
use Rattle.laws.specs.Agreement.{agrees-true, find-row, super-is}
use Rattle.laws.specs.Results.{Wp, not-wanted, not-word, wp-need, wp-take}
use Rattle.laws.specs.Tasks.{of-task}
use Rattle.laws.specs.Tests.{none_is}
use Rattle.safety.specs.Store.{Store, booted, in_task, in_world}
use Rattle.safety.specs.Loads.{linked-class, linked-entry, ss, us}
use Rattle.safety.specs.Operands.{as_int}
use Rattle.safety.specs.Later.{Kept, heap-grows, heap-made, later-made, later_same, zeros-conform, entered-top}
use Rattle.safety.specs.Valid.{Heap, Later, Linked, Stack, later-stack, rooted}
use Rattle.laws.specs.Growth.{Grows, grows-class, grows-entry}
use Rattle.laws.specs.Objects.{existing-none, numbered-same, made-there}
use Rattle.laws.specs.Members.{selected-at, SelectedAt}

boot-agrees : agrees booted.world ≡ true
unfolding agrees agrees_over reach reach_from all row_agrees pair_agrees find edges tie_edges subtype_edges has grow fires rest same_request
boot-agrees = refl

boot-own : find booted.world.base.cache (at 0 2) ≡ some 0
unfolding find same_request
boot-own = refl

boot-class : (c : ℕ) (k : Class) → get_elem? booted.world.base.classes c ≡ some k → (c ≡ 0) × (k ≡ record { loader = 0; version = 0; name = 2; super = 0; fields = []; methods = [] })
boot-class zero k h = (refl, sym (some-injective _ _ h))
boot-class (suc c) k h = absurd (none-ne-some k h)

boot-top : (x p : ℕ) → super_of booted.world.base x ≡ some p → ⊥
boot-top x p h = let s = super-is booted.world.base x p h in omega (arith, s.less, (boot-class x s.the_class s.is_class).0)

pub record Valid (s : Store) : Type 0 where
  pub linked : Linked s.world
  pub heap : Heap s.world s.objects
  pub quote : Stack s.world s.objects s.quote
  pub report : Stack s.world s.objects s.report

-- Loads
pub record Loaded (v w : World) : Type 0 where
  pub linked : Linked w
  pub grows : Grows v w

pub define-kept : (b : Bool) (k : Class) (v : World) → Linked v → Wp (define b k v) (Loaded v)
unfolding define us ss
define-kept b k v lk =
    wp-need (Loaded v) _ _ _ (not-word 15 (omega arith)) (λ _. wp-take (Loaded v) _ _ _ (not-word 6 (omega arith)) (λ ns vn. wp-need (Loaded v) _ _ _ (not-word 4 (omega arith)) (λ fr.
    wp-take (Loaded v) _ _ _ (not-wanted _) (λ p fp. wp-need (Loaded v) _ _ _ (not-word 10 (omega arith)) (λ _. wp-need (Loaded v) _ _ _ (not-word 9 (omega arith)) (λ g.
    record { linked = linked-class v k ns p lk vn (none_is _ fr) fp (agrees-true _ g); grows = grows-class v k _ _ }))))))

pub record-kept : (l n c : ℕ) (v : World) → Linked v → Wp (recorded l n c v) (Loaded v)
unfolding recorded
record-kept l n c v lk =
    wp-need (Loaded v) _ _ _ (not-word 3 (omega arith)) (λ _. wp-take (Loaded v) _ _ _ (not-word 3 (omega arith)) (λ k ck. wp-need (Loaded v) _ _ _ (not-word 13 (omega arith)) (λ _. go k ck (find v.base.cache (at l n)))))
  where
    go : (k : Class) → get_elem? v.base.classes c ≡ some k → (o : Option ℕ)
        → Wp (elim o as (λ _. Result World) [ some d ↦ need (eqb d c) (Word 4) >>= λ _. ok v | none ↦ need (ltb (length v.base.cache) 256) (Word 10) >>= λ _. need (agrees (with_entry v (at l n) c)) (Word 9) >>= λ _. ok (with_entry v (at l n) c) ]) (Loaded v)
    go k ck none = wp-need (Loaded v) _ _ _ (not-word 10 (omega arith)) (λ _. wp-need (Loaded v) _ _ _ (not-word 9 (omega arith)) (λ g. record { linked = linked-entry v (at l n) c k lk ck (agrees-true _ g); grows = grows-entry v (at l n) c }))
    go k ck (some d) = wp-need (Loaded v) _ _ _ (not-word 4 (omega arith)) (λ _. record { linked = lk; grows = (later_same v []).grows })

-- Starts
pub start-kept : (k l n m x : ℕ) (v : World) (os : Objects) (fs : List Frame) → Linked v → Heap v os → Wp (started k l n m x v os fs) (Kept v os)
unfolding started new_object
start-kept k l n m x v os fs lk hp =
    wp-need (Kept v os) _ _ _ (not-word 3 (omega arith)) (λ _. wp-need (Kept v os) _ _ _ (not-word 12 (omega arith)) (λ _. wp-take (Kept v os) _ _ _ (not-wanted _) (λ c fc.
    wp-take (Kept v os) _ _ _ (not-word 7 (omega arith)) (λ s fs.
    wp-need (Kept v os) _ _ _ (not-word 18 (omega arith)) (λ _. wp-need (Kept v os) _ _ _ (not-word 10 (omega arith)) (λ _. begun c s fc (selected-at v.base (start_signature m) c s fs)))))))
  where
    begun : (c : ℕ) (s : Selected) → find v.base.cache (at l n) ≡ some c → SelectedAt v.base (start_signature m) c s
        → Kept v os (record { world = v; objects = made k (record { class = c; values = map initial_value (slots v.base c) }) os; frames = entry_frame s.class s.place (unused os) (int_value x ∷ []) ∷ []; result = none })
    begun c s fc found =
        let b : Object = record { class = c; values = map initial_value (slots v.base c) } in
        let qs = made k b os in
        let ma = found.there in
        let r = lk.real (at l n) c fc in
        record {
          linked = lk;
          later = later-made v k b os;
          heap = heap-made v k b os hp (record { the_class = r.0; is_class = r.1; filled = zeros-conform v os (slots v.base c) });
          stack = (
            ma.the_class,
            ma.method,
            entered-top v qs lk (start_signature m) s ma (unused os) b (made-there k b os) found.above (int_value x ∷ []) (as_int v qs (loader_of v.base s.class) 1 (int_value x) refl tt, tt),
            ap (λ (z : Signature). z.result) ma.is_signature,
          );
        }

-- Calls

pub valid-world : (s : Store) (r : Result World) → Valid s → Wp r (Loaded s.world) → Valid (in_world s r)
valid-world s (refused w) v h = v
valid-world s (ok w) v h =
    let z : Later s.world s.objects w s.objects = record { grows = h.grows; objects = numbered-same s.objects } in
    record { linked = h.linked; heap = heap-grows s.world w (rooted v.linked) h.grows s.objects v.heap z; quote = later-stack z s.quote v.quote; report = later-stack z s.report v.report }

pub valid-task : (k : ℕ) (s : Store) (r : Result Progress) → Valid s → Wp r (Kept s.world s.objects) → Valid (in_task k s r)
valid-task k s (refused w) v h = v
valid-task k s (ok o) v h = record {
  linked = h.linked;
  heap = h.heap;
  quote = of-task (Stack o.world o.objects) k h.stack (later-stack h.later s.quote v.quote);
  report = of-task (Stack o.world o.objects) k (later-stack h.later s.report v.report) h.stack;
}

pub valid-booted : Valid booted
valid-booted = record {
  linked = record {
    agreed = agrees-true booted.world boot-agrees;
    own = λ c k h. let z = boot-class c k h in rw (z.0, z.1) boot-own;
    real = λ r c h. let z = find-row booted.world.base.cache r c h in (_, ap (get_elem? booted.world.base.classes) (sym z.3 ∙ ap (λ (e : Entry). e.class) (Memᴰ.eq_of_singleton z.1)));
    supers = λ c k h l. absurd (omega (arith, (boot-class c k h).0));
    verified = λ c j k m h e. absurd (none-ne-some m (rw (boot-class c k h).1 at e));
    over = λ g x p y t h s. absurd (boot-top x p s);
  };
  heap = λ o b e. absurd (none-ne-some b (sym (existing-none o) ∙ e));
  quote = tt;
  report = tt;
}
