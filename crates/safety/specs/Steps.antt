-- A step keeps the invariant, and is never stuck.
use Rattle.std.specs.Prelude.{◌≡◌, Bool, ◌≢◌, ℕ, suc, ◌+◌, ◌-◌, length, eqb, ltb}
use Rattle.std.proofs.Math.Path.{refl}
use Rattle.std.proofs.Common.{sym, ap, subst, arith}
use Rattle.std.proofs.Math.Bool.{true, false}
use Rattle.std.proofs.Math.Option.{Option, none, some, none-ne-some}
use mathlib.Core.List.Memᴰ
use mathlib.Core.List.{List, [], ◌∷◌, ◌++◌, map, Memᴰ}
use Rattle.std.proofs.Math.Logic.{inl, inr}
use Rattle.std.proofs.Math.ListN.{set}
use Rattle.definition.specs.declared.Signature.{Signature}
use Rattle.definition.specs.Answers.{less, ok, signed}
use Rattle.definition.specs.Classes.{Class, Method, has_field, has_method, loader_of, slots, super_of, Selected, argument_types, signature_types}
use Rattle.definition.specs.Constraints.{Agrees, Tie, World, new_tie, posted, signature_ties}
use Rattle.definition.specs.Instructions.{Decoded, pick}
use Rattle.definition.specs.Machine.{Frame, Object, Progress, Value, entry_frame, execute, initial_value, int_value, jumps, new_object, now, null_value, object_value, past, pop!, step, Objects, existing, unused, made, changed}
use Rattle.definition.specs.Requests.{at}
use Rattle.definition.specs.Superclasses.{Below, same}
use Rattle.definition.specs.Verifier.{Flow, Note, TypeState, VerifierType, goes_on, target, effect, flow, meet_class, meet_all, meets, pop, pop_all, type_class, type_int, type_null, type_of_name, types_in}
use Rattle.definition.specs.declared.Kind.{Kind}
use Rattle.definition.specs.declared.Operator.{Operator}
use Rattle.definition.specs.declared.Instruction.{Instruction}
use Rattle.definition.specs.declared.Condition.{Condition}
use Rattle.definition.specs.declared.Condition.TheVariants.{Always, IfZero, IfLess}
use Rattle.definition.specs.declared.Instruction.TheVariants.{AconstNull, Arithmetic, Branch, Dup, Getfield, Invokevirtual, Load, New, Pop, Putfield, Return, Sipush, Store}
use Rattle.laws.specs.Agreement.{super-falls}
use Rattle.laws.specs.Chains.{chain-join, chain_more}
use Rattle.laws.specs.Options.{bind-some, each_at, each_both, each_more, each-more-in, each_set}
use Rattle.laws.specs.Arguments.{PoppedAll}
use Rattle.laws.specs.Results.{Wp, not-wanted, not-word, wp-bind, wp-known, wp-need, wp-take, wp-there}
use Rattle.laws.specs.Upward.{below-trans, nearest-below, nearest-finds}
use Rattle.safety.specs.Conform.{Tied, fits-own, override, tied-turn}
use Rattle.safety.specs.Places.{carry, meet-class, meet-name, meet-names, tie_there, ties-there}
use Rattle.laws.specs.Walk.{Known, known, successors}
use Rattle.safety.specs.Flows.{Lands, lands, later-lands, operands-flow, locals-flow}
use Rattle.safety.specs.Valid.{Conforms, Flows, Heap, Later, Linked, Local, Noted, Stack, Top, Under, Verified, later-conforms, later-local, later-ops, later-under}
use Rattle.definition.specs.Lists.{Each, to_list}
use Rattle.laws.specs.Members.{MethodAt, selected-at, SelectedAt, nearest-selected}
use Rattle.laws.specs.Objects.{made-there}
use Rattle.safety.specs.Operands.{Popped, each-pop, int_of, of-kind, wp-compute, flow-is, kind-of, kinds-of, all-popped, wp-room, wp-post, wp-object, FieldAt, field_at}
use Rattle.safety.specs.Later.{ties-more, Kept, later_same, later-posted, heap-posted, linked-posted, later-changed, later-join, heap-changed, later-made, heap-made, zeros-conform, ConformAll, entered-top}
use Rattle.safety.specs.Returns.{each-ret}

-- the list on the right has as many, a first and others
record Cons {A B : Type 0} (R : A → B → Type 0) (x : A) (xs : List A) (ys : List B) : Type 0 where
  first : B
  rest : List B
  is : ys ≡ first ∷ rest
  fits : R x first
  others : Each R xs rest

each-cons : {A B : Type 0} (R : A → B → Type 0) (x : A) (xs : List A) (ys : List B) → Each R (x ∷ xs) ys → Cons R x xs ys
each-cons R x xs [] h = absurd h
each-cons R x xs (y ∷ ys) h = record { first = y; rest = ys; is = refl; fits = h.0; others = h.1 }

module _ (task : ℕ) (w : World) (os : Objects) (f : Frame) (fs : List Frame) (k : Class) (m : Method)
    (lk : Linked w) (hp : Heap w os) (tp : Top w os f k m) (un : Under w os k.loader m.signature.result fs) where
  -- the frame stands at point p, whose types the values' flow into, in a later store
  arrives : (v : World) (qs : Objects) → Later w os v qs → Linked v → Heap v qs → (p : ℕ) (s : TypeState) → Lands w k m p s
      → (o l : List Value) → Each (Conforms v qs k.loader) s.operands o → Each (Local v qs k.loader) s.locals l
      → Kept w os (record { world = v; objects = qs; frames = record { class = f.class; method = f.method; point = p; operands = o; locals = l } ∷ fs; result = none })
  arrives v qs z lv hv p s to o l a b =
      let at = later-lands z to in
      record {
        linked = lv;
        heap = hv;
        later = z;
        stack = (
          k,
          m,
          record {
            τ = at.τ;
            typed = record { is_class = z.grows.classes f.class k tp.typed.is_class; is_method = tp.typed.is_method; types = at.types };
            operands = operands-flow v qs k.loader s.operands at.τ.operands o at.reaches.operands a;
            locals = locals-flow v qs k.loader s.locals at.τ.locals l at.reaches.locals b;
          },
          later-under z k.loader m.signature.result fs un,
        );
      }

  module _ (i : Decoded) (fl : Flow) (nx : Lands w k m (f.point + i.size) fl.types) (nt : Noted w k.loader fl.notes) where
    -- the frame moves on, in a later store
    moved : (v : World) (qs : Objects) → Later w os v qs → Linked v → Heap v qs → (ts : List VerifierType) (ls : List (Option VerifierType)) (ns : List Note) → flow ts ls ns ≡ some fl
        → (o l : List Value) → Each (Conforms v qs k.loader) ts o → Each (Local v qs k.loader) ls l
        → Kept w os (record { world = v; objects = qs; frames = past f i o l ∷ fs; result = none })
    moved v qs z lv hv ts ls ns e o l a b =
        let q = flow-is ts ls ns fl e in
        arrives v qs z lv hv (f.point + i.size) fl.types nx o l (rw (sym q) a) (rw (sym q) b)

    -- the store stays
    stays : (ts : List VerifierType) (ls : List (Option VerifierType)) (ns : List Note) → flow ts ls ns ≡ some fl
        → (o l : List Value) → Each (Conforms w os k.loader) ts o → Each (Local w os k.loader) ls l
        → Kept w os (record { world = w; objects = os; frames = past f i o l ∷ fs; result = none })
    stays = moved w os (later_same w os) lk hp

    Q : Progress → Type 0
    Q = Kept w os

    ex-anull : effect AconstNull tp.τ ≡ some fl → Wp (execute task w os f fs k i AconstNull) Q
    unfolding execute effect Q
    ex-anull e = wp-room (Kept w os) _ _ (stays (type_null ∷ tp.τ.operands) tp.τ.locals [] e (null_value ∷ f.operands) f.locals (tt, tp.operands) tp.locals)

    ex-ipush : (n : ℕ) → effect (Sipush n) tp.τ ≡ some fl → Wp (execute task w os f fs k i (Sipush n)) Q
    unfolding execute effect Q
    ex-ipush n e = wp-room (Kept w os) _ _ (stays (type_int ∷ tp.τ.operands) tp.τ.locals [] e (int_value n ∷ f.operands) f.locals (tt, tp.operands) tp.locals)

    -- a local of the kind is pushed
    ex-load : (kind : Kind) (j : ℕ) → effect (Load kind j) tp.τ ≡ some fl → Wp (execute task w os f fs k i (Load kind j)) Q
    unfolding execute effect Q
    ex-load kind j e =
        let a = bind-some _ _ e in
        let b = bind-some _ _ a.2 in
        let c = bind-some _ _ b.2 in
        let y = each_at (Local w os k.loader) tp.τ.locals f.locals tp.locals j (some b.0) (rw b.1 at a.1) in
        wp-room (Kept w os) _ _ (wp-there (Kept w os) _ _ _ y.1 (wp-known (Kept w os) _ _ (of-kind w os k.loader kind b.0 y.0 c.1 y.2)
        (stays (b.0 ∷ tp.τ.operands) tp.τ.locals [] c.2 (y.0 ∷ f.operands) f.locals (y.2, tp.operands) tp.locals)))

    popped : {p : record { top : VerifierType; more : List VerifierType }} → pop tp.τ.operands ≡ some p → (q : Popped) × (pop! f.operands ≡ ok q) × Conforms w os k.loader p.top q.top × Each (Conforms w os k.loader) p.more q.more
    popped {p} e = each-pop (Conforms w os k.loader) tp.τ.operands f.operands p.top p.more e tp.operands

    -- an operand of the kind is stored
    ex-store : (kind : Kind) (j : ℕ) → effect (Store kind j) tp.τ ≡ some fl → Wp (execute task w os f fs k i (Store kind j)) Q
    unfolding execute effect Q
    ex-store kind j e =
        let a = bind-some _ _ e in
        let b = bind-some _ _ a.2 in
        let c = bind-some _ _ b.2 in
        let q = popped a.1 in
        let y = each_at (Local w os k.loader) tp.τ.locals f.locals tp.locals j c.0 c.1 in
        wp-known (Kept w os) _ _ q.1 (wp-known (Kept w os) _ _ (of-kind w os k.loader kind a.0.top q.0.top b.1 q.2) (wp-there (Kept w os) _ _ _ y.1
        (stays a.0.more (set tp.τ.locals j (some a.0.top)) [] c.2 q.0.more (set f.locals j q.0.top) q.3
        (each_both (Local w os k.loader) tp.τ.locals f.locals tp.locals j (some a.0.top) q.0.top q.2))))

    ex-pop : effect Pop tp.τ ≡ some fl → Wp (execute task w os f fs k i Pop) Q
    unfolding execute effect Q
    ex-pop e =
        let a = bind-some _ _ e in
        let q = popped a.1 in
        wp-known (Kept w os) _ _ q.1 (stays a.0.more tp.τ.locals [] a.2 q.0.more f.locals q.3 tp.locals)

    ex-dup : effect Dup tp.τ ≡ some fl → Wp (execute task w os f fs k i Dup) Q
    unfolding execute effect Q
    ex-dup e =
        let a = bind-some _ _ e in
        let q = popped a.1 in
        wp-room (Kept w os) _ _ (wp-known (Kept w os) _ _ q.1 (stays (a.0.top ∷ a.0.top ∷ a.0.more) tp.τ.locals [] a.2 (q.0.top ∷ q.0.top ∷ q.0.more) f.locals (q.2, (q.2, q.3)) tp.locals))

    -- two ints make one
    ex-arithmetic : (o : Operator) → effect (Arithmetic o) tp.τ ≡ some fl → Wp (execute task w os f fs k i (Arithmetic o)) Q
    unfolding execute effect Q
    ex-arithmetic o e =
        let p = bind-some _ _ e in
        let q = bind-some _ _ p.2 in
        let c = bind-some _ _ q.2 in
        let d = bind-some _ _ c.2 in
        let x = popped p.1 in
        let y = each-pop (Conforms w os k.loader) p.0.more x.0.more q.0.top q.0.more q.1 x.3 in
        let b = int_of w os k.loader p.0.top x.0.top c.1 x.2 in
        let a = int_of w os k.loader q.0.top y.0.top d.1 y.2 in
        wp-known (Kept w os) _ _ x.1 (wp-known (Kept w os) _ _ y.1 (wp-known (Kept w os) _ _ b.1 (wp-known (Kept w os) _ _ a.1 (wp-compute (Kept w os) o a.0 b.0 _ (λ n.
        stays (type_int ∷ q.0.more) tp.τ.locals [] d.2 (int_value n ∷ y.0.more) f.locals (tt, y.3) tp.locals)))))

    -- the notes of the instruction are posted
    noted : (ts : List VerifierType) (ls : List (Option VerifierType)) (ns : List Note) → flow ts ls ns ≡ some fl → Noted w k.loader ns
    noted ts ls ns e n x = nt n (rw (ap (λ (z : Flow). z.notes) (flow-is ts ls ns fl e)) at x)

    -- the place of a field that class d declares, in an object of a class below d
    do-getf : (c n t : ℕ) {p : record { top : VerifierType; more : List VerifierType }} {ns : List Note} → pop tp.τ.operands ≡ some p → meet_class c p.top ≡ some ns
        → flow (type_of_name t ∷ p.more) tp.τ.locals ns ≡ some fl → Wp (execute task w os f fs k i (Getfield c n t)) Q
    unfolding execute Q
    do-getf c n t {p} {ns} e₁ e₂ e =
        let q = popped e₁ in
        let cf : Conforms w os k.loader (type_class c) q.0.top = meet-class w os k.loader c p.top q.0.top ns e₂ (noted (type_of_name t ∷ p.more) tp.τ.locals ns e) q.2 in
        wp-take (Kept w os) _ _ _ (not-wanted _) (λ x fx. wp-take (Kept w os) _ _ _ (not-word 7 (omega arith)) (λ d fd.
        let us = new_tie w.ties (loader_of w.base d) k.loader t in
        wp-bind (Kept w os) _ _ (wp-post w true us _ lk.agreed (λ g.
        wp-known (Kept w os) _ _ q.1 (wp-bind (Kept w os) _ _ (wp-object w os k.loader c x q.0.top _ lk.agreed fx cf (λ o z th bl ve.
        let nb = nearest-below (super_of w.base) (super-falls w.base) (has_field w.base n t) x d fd in
        let fa = field_at w os z d n t nb.1 (below-trans bl nb.0) (hp o z th) in
        wp-there (Kept w os) _ _ _ fa.field.index (wp-there (Kept w os) _ _ _ fa.there
        (moved (posted w us) os (later-posted w os us) (linked-posted w us lk g) (heap-posted w os us hp) (type_of_name t ∷ p.more) tp.τ.locals ns e (fa.value ∷ q.0.more) f.locals (
          carry (posted w us) os (loader_of w.base d) k.loader t fa.value (λ h. tie_there w.ties (loader_of w.base d) k.loader t h) (later-conforms (later-posted w os us) (loader_of w.base d) (type_of_name t) fa.value fa.conforms),
          later-ops (later-posted w os us) k.loader p.more q.0.more q.3,
        )
        (each_more (later-local (later-posted w os us) k.loader) tp.τ.locals f.locals tp.locals))))))))))

    ex-getf : (c n t : ℕ) → effect (Getfield c n t) tp.τ ≡ some fl → Wp (execute task w os f fs k i (Getfield c n t)) Q
    unfolding effect
    ex-getf c n t e = let a = bind-some _ _ (bind-some _ _ e).2 in let b = bind-some _ _ a.2 in do-getf c n t a.1 b.1 b.2

    do-putf : (c n t : ℕ) {p q : record { top : VerifierType; more : List VerifierType }} {ns ms : List Note} → pop tp.τ.operands ≡ some p → pop p.more ≡ some q → meet_class c q.top ≡ some ns → meets p.top t ≡ some ms
        → flow q.more tp.τ.locals (ns ++ ms) ≡ some fl → Wp (execute task w os f fs k i (Putfield c n t)) Q
    unfolding execute Q
    do-putf c n t {p} {q} {ns} {ms} e₁ e₂ e₃ e₄ e =
        let x = popped e₁ in
        let y = each-pop (Conforms w os k.loader) p.more x.0.more q.top q.more e₂ x.3 in
        let nd = noted q.more tp.τ.locals (ns ++ ms) e in
        let cf : Conforms w os k.loader (type_class c) y.0.top = meet-class w os k.loader c q.top y.0.top ns e₃ (λ a h. nd a (Memᴰ.append_left ms h)) y.2 in
        let cv : Conforms w os k.loader (type_of_name t) x.0.top = meet-name w os k.loader t p.top x.0.top ms e₄ (λ a h. nd a (Memᴰ.append_right ns h)) x.2 in
        wp-take (Kept w os) _ _ _ (not-wanted _) (λ r fr. wp-take (Kept w os) _ _ _ (not-word 7 (omega arith)) (λ d fd.
        let us = new_tie w.ties (loader_of w.base d) k.loader t in
        wp-bind (Kept w os) _ _ (wp-post w true us _ lk.agreed (λ g.
        wp-known (Kept w os) _ _ x.1 (wp-known (Kept w os) _ _ y.1 (wp-known (Kept w os) _ _ (kind-of w os k.loader t x.0.top cv) (wp-bind (Kept w os) _ _ (wp-object w os k.loader c r y.0.top _ lk.agreed fr cf (λ o z th bl ve.
        let nb = nearest-below (super_of w.base) (super-falls w.base) (has_field w.base n t) r d fd in
        let fa = field_at w os z d n t nb.1 (below-trans bl nb.0) (hp o z th) in
        wp-there (Kept w os) _ _ _ fa.field.index (put us d g (λ h. tie_there w.ties (loader_of w.base d) k.loader t h) o z th q.more (ns ++ ms) e x.0.top y.0.more cv y.3 fa))))))))))
      where
        put : (us : List Tie) (d : ℕ) → Agrees (posted w us) → (t ≢ 1 → Tied (posted w us) (at (loader_of w.base d) t) (at k.loader t)) → (o : ℕ) (z : Object) → existing os o ≡ some z → (ts : List VerifierType) (rs : List Note) → flow ts tp.τ.locals rs ≡ some fl → (v : Value) (vs : List Value)
            → Conforms w os k.loader (type_of_name t) v → Each (Conforms w os k.loader) ts vs → (fa : FieldAt w os z d n t)
            → Kept w os (record { world = posted w us; objects = changed os o (record { class = z.class; values = set z.values fa.field.place v }); frames = past f i vs f.locals ∷ fs; result = none })
        put us d g ti o z th ts rs fe v vs cv ev fa =
            let u = posted w us in
            let y = later-posted w os us in
            let qs = changed os o (record { class = z.class; values = set z.values fa.field.place v }) in
            let hu = heap-posted w os us hp in
            let c' : Conforms u os (loader_of w.base d) (type_of_name t) v = carry u os k.loader (loader_of w.base d) t v (λ h. tied-turn u (ti h)) (later-conforms y k.loader (type_of_name t) v cv) in
            let ea = each_set (λ s v. Conforms u os (loader_of w.base s.owner) (type_of_name s.type) v) (slots w.base z.class) z.values (hu o z th).filled fa.field.place fa.field.slot v fa.field.is_slot (rw (fa.field.owner, fa.field.type) c') in
            let x = later-join y (later-changed u os o z (set z.values fa.field.place v) th) in
            moved u qs x (linked-posted w us lk g) (heap-changed u os o z (set z.values fa.field.place v) th hu ea) ts tp.τ.locals rs fe vs f.locals
            (later-ops x k.loader ts vs ev) (each_more (later-local x k.loader) tp.τ.locals f.locals tp.locals)

    ex-putf : (c n t : ℕ) → effect (Putfield c n t) tp.τ ≡ some fl → Wp (execute task w os f fs k i (Putfield c n t)) Q
    unfolding effect
    ex-putf c n t e =
        let a = bind-some _ _ (bind-some _ _ e).2 in
        let b = bind-some _ _ a.2 in
        let x = bind-some _ _ b.2 in
        let y = bind-some _ _ x.2 in
        do-putf c n t a.1 b.1 x.1 y.1 y.2

    ex-new : (c : ℕ) → effect (New c) tp.τ ≡ some fl → Wp (execute task w os f fs k i (New c)) Q
    unfolding execute effect Q new_object
    ex-new c e = wp-take (Kept w os) _ _ _ (not-wanted _) (λ x fx. wp-need (Kept w os) _ _ _ (not-word 18 (omega arith)) (λ _. wp-need (Kept w os) _ _ _ (not-word 10 (omega arith)) (λ _.
        let b : Object = record { class = x; values = map initial_value (slots w.base x) } in
        let r = lk.real (at k.loader c) x fx in
        let z = later-made w task b os in
        moved w (made task b os) z lk (heap-made w task b os hp (record { the_class = r.0; is_class = r.1; filled = zeros-conform w os (slots w.base x) })) (type_class c ∷ tp.τ.operands) tp.τ.locals [] (bind-some _ _ e).2 (object_value (unused os) ∷ f.operands) f.locals
        (record { object = b; there = made-there task b os; fits = fits-own fx (same refl) }, later-ops z k.loader tp.τ.operands f.operands tp.operands)
        (each_more (later-local z k.loader) tp.τ.locals f.locals tp.locals))))

    -- a frame is entered, and this one waits
    enter : (u : World) → Later w os u os → Linked u → Heap u os → (s : Signature) (a : Selected) (ma : MethodAt u.base s a) (o : ℕ) (z : Object) → existing os o ≡ some z → Below (super_of u.base) z.class a.class
        → (xs : List Value) → ConformAll u os (loader_of u.base a.class) (argument_types s) xs → (s.result ≢ 1 → Tied u (at (loader_of u.base a.class) s.result) (at k.loader s.result))
        → (ts : List VerifierType) (ns : List Note) → flow (type_of_name s.result ∷ ts) tp.τ.locals ns ≡ some fl → (vs : List Value) → Each (Conforms w os k.loader) ts vs
        → Kept w os (record { world = u; objects = os; frames = entry_frame a.class a.place o xs ∷ past f i vs f.locals ∷ fs; result = none })
    enter u y lu hu s a ma o z th bl xs cv tr ts ns e vs ev =
        let q = flow-is (type_of_name s.result ∷ ts) tp.τ.locals ns fl e in
        let at = later-lands y nx in
        let sp = each-cons (Flows u k.loader) (type_of_name s.result) ts at.τ.operands
        (subst (λ (x : Flow). Each (Flows u k.loader) x.types.operands at.τ.operands) (sym q) at.reaches.operands) in
        record {
          linked = lu;
          heap = hu;
          later = y;
          stack = (
            ma.the_class,
            ma.method,
            entered-top u os lu s a ma o z th bl xs cv,
            (
              k,
              m,
              record {
                τ = at.τ;
                top = sp.first;
                others = sp.rest;
                typed = record { is_class = y.grows.classes f.class k tp.typed.is_class; is_method = tp.typed.is_method; types = at.types };
                split = sp.is;
                takes = rw ma.is_signature sp.fits;
                operands = operands-flow u os k.loader ts sp.rest vs sp.others (later-ops y k.loader ts vs ev);
                locals = locals-flow u os k.loader fl.types.locals at.τ.locals f.locals at.reaches.locals
                    (rw (sym q) (each_more (later-local y k.loader) tp.τ.locals f.locals tp.locals));
              },
              rw (ma.is_signature, sym ma.loader) tr,
              later-under y k.loader m.signature.result fs un,
            ),
          );
        }

    do-call : (c : ℕ) (s : Signature) {p : PoppedAll VerifierType} {q : record { top : VerifierType; more : List VerifierType }} {ns ms : List Note} → pop_all (length (argument_types s)) tp.τ.operands ≡ some p → pop p.more ≡ some q → meet_class c q.top ≡ some ns → meet_all meets p.all (argument_types s) ≡ some ms
        → flow (type_of_name s.result ∷ q.more) tp.τ.locals (ns ++ ms) ≡ some fl → Wp (execute task w os f fs k i (Invokevirtual c s)) Q
    unfolding execute Q signature_ties
    do-call c s {p} {q} {ns} {ms} e₁ e₂ e₃ e₄ e =
        let x = all-popped (Conforms w os k.loader) (length (argument_types s)) tp.τ.operands f.operands p e₁ tp.operands in
        let y = each-pop (Conforms w os k.loader) p.more x.0.more q.top q.more e₂ x.3 in
        let nd = noted (type_of_name s.result ∷ q.more) tp.τ.locals (ns ++ ms) e in
        let cf : Conforms w os k.loader (type_class c) y.0.top = meet-class w os k.loader c q.top y.0.top ns e₃ (λ a h. nd a (Memᴰ.append_left ms h)) y.2 in
        let cv : ConformAll w os k.loader (argument_types s) x.0.all = meet-names w os k.loader p.all (argument_types s) x.0.all ms e₄ (λ a h. nd a (Memᴰ.append_right ns h)) x.2 in
        wp-take (Kept w os) _ _ _ (not-wanted _) (λ b fb. wp-take (Kept w os) _ _ _ (not-word 7 (omega arith)) (λ d fd.
        wp-bind (Kept w os) _ _ (wp-post w (ltb (suc (length fs)) 32) (signature_ties w.ties (loader_of w.base d.class) k.loader s) _ lk.agreed (λ g.
        wp-known (Kept w os) _ _ x.1 (wp-known (Kept w os) _ _ y.1 (wp-known (Kept w os) _ _ (kinds-of w os k.loader (argument_types s) x.0.all cv) (wp-bind (Kept w os) _ _ (wp-object w os k.loader c b y.0.top _ lk.agreed fb cf (λ o z th bl ve.
        let sd = selected-at w.base s b d fd in
        let nf = nearest-finds (super_of w.base) (super-falls w.base) (has_method w.base s) (below-trans bl sd.above) sd.has in
        let sa = nearest-selected w.base s z.class nf.0 nf.1 in
        wp-there (Kept w os) _ _ _ sa.1 (into d b _ g o z th bl sa.2 sd x.0.all cv q.more _ e y.0.more y.3))))))))))
      where
        -- d is found from the class named, a selected from the object's own
        into : (d : Selected) (b : ℕ) (a : Selected) → Agrees (posted w (signature_ties w.ties (loader_of w.base d.class) k.loader s)) → (o : ℕ) (z : Object) → existing os o ≡ some z → Below (super_of w.base) z.class b
            → SelectedAt w.base s z.class a → SelectedAt w.base s b d → (xs : List Value) → ConformAll w os k.loader (argument_types s) xs
            → (ts : List VerifierType) (rs : List Note) → flow (type_of_name s.result ∷ ts) tp.τ.locals rs ≡ some fl → (vs : List Value) → Each (Conforms w os k.loader) ts vs
            → Kept w os (record { world = posted w (signature_ties w.ties (loader_of w.base d.class) k.loader s); objects = os; frames = entry_frame a.class a.place o xs ∷ past f i vs f.locals ∷ fs; result = none })
        into d b a g o z th bl sa sd xs cv ts rs fe vs ev =
            let us = signature_ties w.ties (loader_of w.base d.class) k.loader s in
            let u = posted w us in
            let yy = later-posted w os us in
            let tied : (t : ℕ) → Memᴰ t (signature_types s) → t ≢ 1 → Tied u (at (loader_of w.base a.class) t) (at k.loader t)
            = λ t j h. chain-join (chain_more (ties-more w us) (override w (λ x. at (loader_of w.base x) t) (has_method w.base s) (λ x p y hx sx qx. lk.over s x p y t hx sx qx j h) bl sa.near sd.near))
            (ties-there w.ties (loader_of w.base d.class) k.loader (signature_types s) t j h) in
            enter u yy (linked-posted w us lk g) (heap-posted w os us hp) s a sa.there o z th sa.above xs
            (each-more-in (argument_types s) xs
            (λ t x j h. carry u os k.loader (loader_of w.base a.class) t x (λ z. tied-turn u (tied t (Memᴰ.append_left (s.result ∷ []) j) z)) (later-conforms yy k.loader (type_of_name t) x h)) cv)
            (tied s.result (Memᴰ.append_right (argument_types s) (Memᴰ.head refl))) ts rs fe vs ev

    ex-call : (c : ℕ) (s : Signature) → effect (Invokevirtual c s) tp.τ ≡ some fl → Wp (execute task w os f fs k i (Invokevirtual c s)) Q
    unfolding effect
    ex-call c s e =
        let a = bind-some _ _ (bind-some _ _ e).2 in
        let b = bind-some _ _ a.2 in
        let x = bind-some _ _ b.2 in
        let y = bind-some _ _ x.2 in
        do-call c s a.1 b.1 x.1 y.1 y.2

  module _ (i : Decoded) (fl : Flow) (nx : (p : ℕ) → Memᴰ p (successors i f.point) → Lands w k m p fl.types) (nt : Noted w k.loader fl.notes) where
    -- the next point, and a branch's target
    ahead : (j : Instruction) → i.instruction ≡ j → target j ≡ none → goes_on j ≡ true → Lands w k m (f.point + i.size) fl.types
    unfolding to_list
    ahead j h t g = nx (f.point + i.size) (rw (h, t, g) (Memᴰ.head refl))

    jumped : (c : Condition) (p : ℕ) → i.instruction ≡ Branch c p → Lands w k m p fl.types
    unfolding to_list target
    jumped c p h = nx p (rw h (Memᴰ.head refl))

    passed : (c : Condition) (p : ℕ) → i.instruction ≡ Branch c p → goes_on (Branch c p) ≡ true → Lands w k m (f.point + i.size) fl.types
    unfolding to_list target
    passed c p h g = nx (f.point + i.size) (rw (h, g) (Memᴰ.tail (Memᴰ.head refl)))

    picked : (b : Bool) (p q : ℕ) → Lands w k m p fl.types → Lands w k m q fl.types → Lands w k m (pick b p q) fl.types
    unfolding pick
    picked true p q x y = x
    picked false p q x y = y

    -- the frame stands where the branch goes
    branched : (p : ℕ) → Lands w k m p fl.types → (ts : List VerifierType) → flow ts tp.τ.locals [] ≡ some fl → (o : List Value) → Each (Conforms w os k.loader) ts o
        → Kept w os (record { world = w; objects = os; frames = record { class = f.class; method = f.method; point = p; operands = o; locals = f.locals } ∷ fs; result = none })
    branched p to ts e o a =
        let q = flow-is ts tp.τ.locals [] fl e in
        arrives w os (later_same w os) lk hp p fl.types to o f.locals (rw (sym q) a) (rw (sym q) tp.locals)

    ex-branch : (c : Condition) (p : ℕ) → i.instruction ≡ Branch c p → effect (Branch c p) tp.τ ≡ some fl → Wp (execute task w os f fs k i (Branch c p)) (Kept w os)
    unfolding execute effect jumps
    ex-branch Always p h e = wp-known (Kept w os) _ _ refl (unfold pick in branched p (jumped Always p h) tp.τ.operands e f.operands tp.operands)
    ex-branch IfZero p h e =
        let a = bind-some _ _ e in
        let b = bind-some _ _ a.2 in
        let x = each-pop (Conforms w os k.loader) tp.τ.operands f.operands a.0.top a.0.more a.1 tp.operands in
        let n = int_of w os k.loader a.0.top x.0.top b.1 x.2 in
        wp-bind (Kept w os) _ _ (wp-known _ _ _ x.1 (wp-known _ _ _ n.1
        (branched _ (picked (eqb n.0 0) p (f.point + i.size) (jumped IfZero p h) (passed IfZero p h (unfold goes_on in refl))) a.0.more b.2 x.0.more x.3)))
    ex-branch IfLess p h e =
        let a = bind-some _ _ e in
        let b = bind-some _ _ a.2 in
        let c = bind-some _ _ b.2 in
        let d = bind-some _ _ c.2 in
        let x = each-pop (Conforms w os k.loader) tp.τ.operands f.operands a.0.top a.0.more a.1 tp.operands in
        let y = each-pop (Conforms w os k.loader) a.0.more x.0.more b.0.top b.0.more b.1 x.3 in
        let upper = int_of w os k.loader a.0.top x.0.top c.1 x.2 in
        let lower = int_of w os k.loader b.0.top y.0.top d.1 y.2 in
        wp-bind (Kept w os) _ _ (wp-known _ _ _ x.1 (wp-known _ _ _ y.1 (wp-known _ _ _ upper.1 (wp-known _ _ _ lower.1
        (branched _ (picked (less (signed lower.0) (signed upper.0)) p (f.point + i.size) (jumped IfLess p h) (passed IfLess p h (unfold goes_on in refl))) b.0.more d.2 y.0.more y.3)))))

    -- any instruction that is no return
    each-ins : (j : Instruction) → i.instruction ≡ j → effect j tp.τ ≡ some fl → Wp (execute task w os f fs k i j) (Kept w os)
    unfolding target goes_on Q
    each-ins AconstNull h e = ex-anull i fl (ahead AconstNull h refl refl) nt e
    each-ins (Sipush n) h e = ex-ipush i fl (ahead (Sipush n) h refl refl) nt n e
    each-ins (Load kind n) h e = ex-load i fl (ahead (Load kind n) h refl refl) nt kind n e
    each-ins (Store kind n) h e = ex-store i fl (ahead (Store kind n) h refl refl) nt kind n e
    each-ins Pop h e = ex-pop i fl (ahead Pop h refl refl) nt e
    each-ins Dup h e = ex-dup i fl (ahead Dup h refl refl) nt e
    each-ins (Arithmetic o) h e = ex-arithmetic i fl (ahead (Arithmetic o) h refl refl) nt o e
    each-ins (Getfield c n t) h e = ex-getf i fl (ahead (Getfield c n t) h refl refl) nt c n t e
    each-ins (Putfield c n t) h e = ex-putf i fl (ahead (Putfield c n t) h refl refl) nt c n t e
    each-ins (Invokevirtual c s) h e = ex-call i fl (ahead (Invokevirtual c s) h refl refl) nt c s e
    each-ins (New c) h e = ex-new i fl (ahead (New c) h refl refl) nt c e
    each-ins (Branch c p) h e = ex-branch c p h e
    each-ins (Return kind) h e = absurd (none-ne-some fl (unfold effect in e))

  one : Wp (step task w os f fs) (Kept w os)
  unfolding step now
  one =
      let t = tp.typed in
      let ve = lk.verified f.class f.method k m t.is_class t.is_method in
      let kn = known k m ve.notes ve.passes f.point tp.τ t.types in
      wp-bind (Kept w os) _ _ (wp-there _ _ _ _ t.is_class (wp-there _ _ _ _ t.is_method (wp-there _ _ _ _ kn.reads (go ve kn))))
    where
      go : (ve : Verified w k m) (kn : Known k.version m.code m.maps m.signature.result (types_in k m) ve.notes f.point tp.τ) → Wp (execute task w os f fs k kn.at kn.at.instruction) (Kept w os)
      go ve kn = elim kn.way [
        | inl a ↦ each-ret task w os f fs k m lk hp tp un kn.at a.made (λ n x. ve.posted n (a.posted n x)) kn.at.instruction a.kind a.is a.does
        | inr a ↦ each-ins kn.at a.flows (λ p x. lands w k m ve p a.flows.types (a.next p x)) (λ n x. ve.posted n (a.posted n x)) kn.at.instruction refl a.does
      ]

-- Theorem 1 and 3 of the loading paper, for a step
pub step_kept : (task : ℕ) (w : World) (os : Objects) (f : Frame) (fs : List Frame) → Linked w → Heap w os → Stack w os (f ∷ fs) → Wp (step task w os f fs) (Kept w os)
step_kept task w os f fs lk hp (k, m, tp, un) = one task w os f fs k m lk hp tp un
