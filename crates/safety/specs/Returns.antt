-- A return keeps the invariant: its value goes to the frame below, or ends the task.
use Rattle.std.specs.Prelude.{◌≡◌, refl, List, [], ◌∷◌, ℕ}
use Rattle.std.proofs.Math.Option.{some}
use Rattle.definition.specs.Answers.{Result, ◌>>=◌}
use Rattle.definition.specs.Classes.{Class, Method}
use Rattle.definition.specs.Constraints.{World}
use Rattle.definition.specs.Instructions.{Decoded}
use Rattle.definition.specs.Machine.{Frame, Value, execute, give, under!, Objects}
use Rattle.definition.specs.Requests.{at}
use Rattle.definition.specs.Verifier.{Note, meet_int, returns, type_int, type_of_name}
use Rattle.definition.specs.declared.Kind.{Kind}
use Rattle.definition.specs.declared.Instruction.{Instruction}
use Rattle.definition.specs.declared.Instruction.TheVariants.{Return}
use Rattle.laws.specs.Options.{bind-some}
use Rattle.laws.specs.Results.{Wp, wp-known}
use Rattle.safety.specs.Places.{carry, meet-name, of-int}
use Rattle.safety.specs.Flows.{flows-value}
use Rattle.safety.specs.Valid.{Conforms, Heap, Linked, Noted, Top, Under}
use Rattle.safety.specs.Operands.{each-pop, int_of, of-kind, wp-room}
use Rattle.safety.specs.Later.{Kept, later_same}

-- a result is handed to the frame below, or ends the task
give_kept : (w : World) (os : Objects) (fs : List Frame) (l r : ℕ) (v : Value) → Linked w → Heap w os → Under w os l r fs → Conforms w os l (type_of_name r) v → Wp (give fs w os v) (Kept w os)
unfolding give
give_kept w os [] l r v lk hp un cv =
    let n = int_of w os l type_int v {ns = []} (unfold meet_int in refl) (rw (un, of-int) at cv) in
    wp-known (Kept w os) _ _ n.1 (record { linked = lk; heap = hp; stack = tt; later = later_same w os })
give_kept w os (g ∷ gs) l r v lk hp (k, m, wt, ti, un) cv = record {
  linked = lk;
  heap = hp;
  later = later_same w os;
  stack = (
    k,
    m,
    record {
      τ = wt.τ;
      typed = record { is_class = wt.typed.is_class; is_method = wt.typed.is_method; types = wt.typed.types };
      operands = rw wt.split (flows-value w os k.loader (type_of_name r) wt.top v wt.takes (carry w os l k.loader r v ti cv), wt.operands);
      locals = wt.locals;
    },
    un,
  );
}

wp-under : {B : Type 0} (Q : B → Type 0) (fs : List Frame) (f : Unit {0} → Result B) → Wp (f tt) Q → Wp (under! fs >>= f) Q
unfolding under! ◌>>=◌
wp-under Q [] f h = h
wp-under Q (g ∷ gs) f h = wp-room Q g.operands f h

module _ (task : ℕ) (w : World) (os : Objects) (f : Frame) (fs : List Frame) (k : Class) (m : Method)
    (lk : Linked w) (hp : Heap w os) (tp : Top w os f k m) (un : Under w os k.loader m.signature.result fs) where
  module _ (i : Decoded) (made : List Note) (nt : Noted w k.loader made) where
    ret : (kind : Kind) → returns kind m.signature.result tp.τ ≡ some made → Wp (execute task w os f fs k i (Return kind)) (Kept w os)
    unfolding execute returns
    ret kind e =
        let a = bind-some _ _ e in
        let b = bind-some _ _ a.2 in
        let q = each-pop (Conforms w os k.loader) tp.τ.operands f.operands b.0.top b.0.more b.1 tp.operands in
        let cv : Conforms w os k.loader (type_of_name m.signature.result) q.0.top = meet-name w os k.loader m.signature.result b.0.top q.0.top made b.2 nt q.2 in
        wp-under (Kept w os) fs _ (wp-known (Kept w os) _ _ q.1 (wp-known (Kept w os) _ _ (of-kind w os k.loader kind (type_of_name m.signature.result) q.0.top a.1 cv)
        (give_kept w os fs k.loader m.signature.result q.0.top lk hp un cv)))

    pub each-ret : (j : Instruction) (kind : Kind) → j ≡ Return kind → returns kind m.signature.result tp.τ ≡ some made → Wp (execute task w os f fs k i j) (Kept w os)
    each-ret j kind is e = rw is (ret kind e)
