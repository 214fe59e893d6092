-- Demand 3 of fields that share a name (paper 6): what an access by a declaring class sees is placed by that class's type under that class's loader (`field-placed`), so both fields of one name are covered;
-- and so on every store that comes from a boot (`fields-placed`).
use Rattle.std.specs.Prelude.{◌≡◌, List, ℕ}
use Rattle.std.proofs.Common.{sym, ◌∙◌, subst}
use Rattle.std.proofs.Math.Option.{some, some-injective}
use Rattle.definition.specs.declared.Reply.TheVariants.{Accepted}
use Rattle.definition.specs.Maybe.{need}
use Rattle.definition.specs.Superclasses.{below}
use Rattle.definition.specs.Classes.{Base, Slot, loader_of, slots, super_of}
use Rattle.definition.specs.Verifier.{type_of_name}
use Rattle.definition.specs.Machine.{Value, existing}
use Rattle.definition.specs.Tables.{Tables, world_of, view}
use Rattle.definition.specs.Calls.{boot, Call, perform_all}
use Rattle.definition.specs.Misplaced.{Placed, AllPlaced}
use Rattle.laws.specs.Agreement.{super-falls}
use Rattle.laws.specs.FieldPlaces.{place_of, place-slot}
use Rattle.laws.specs.Options.{bind-some, need-true, each_at}
use Rattle.laws.specs.Upward.{below_true}
use Rattle.unbroken.specs.HiddenFields.{field_in, field_of}
use Rattle.safety.specs.Safety.{safety}

pub field-placed : (t : Tables) → AllPlaced (view t) → (o d n u : ℕ) (v : Value) → field_of t o d n u ≡ some v
    → Placed (world_of (view t)) (view t).objects (loader_of (world_of (view t)).base d) (type_of_name u) v
unfolding field_in
field-placed t all o d n u v h =
    let B : Base = (world_of (view t)).base in
    let x = bind-some (existing (view t).objects o) _ h in
    let y = bind-some (need (below (super_of B) x.0.class d)) _ x.2 in
    let z = bind-some (place_of B d n u) _ y.2 in
    let s = place-slot B x.0.class d n u z.0 (below_true (super_of B) (super-falls B) x.0.class d (need-true _ y.1)) z.1 in
    let R : Slot → Value → Type 0 = λ r. Placed (world_of (view t)) (view t).objects (loader_of B r.owner) (type_of_name r.type) in
    let e = each_at R (slots B x.0.class) x.0.values (all.fields o x.0 x.1) z.0 s.slot s.is_slot in
    subst (λ (w : Value). Placed (world_of (view t)) (view t).objects (loader_of B d) (type_of_name u) w) (some-injective e.0 v (sym e.1 ∙ z.2)) (rw (s.owner, s.type) at e.2)

pub fields-placed : (t : Tables) → (boot t).answer ≡ Accepted → (cs : List Call)
    → (let s = (perform_all cs (boot t).tables).tables in
    (o d n u : ℕ) (v : Value) → field_of s o d n u ≡ some v → Placed (world_of (view s)) (view s).objects (loader_of (world_of (view s)).base d) (type_of_name u) v)
fields-placed t h cs = field-placed (perform_all cs (boot t).tables).tables (safety t h cs).words
