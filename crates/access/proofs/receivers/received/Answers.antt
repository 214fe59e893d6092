-- A receiver is right just if it is an object that exists, of the class that was found or below it.
use Rattle.std.proofs.Math.Path.{◌≡◌, sym}
use Rattle.std.proofs.Common.{◌∙◌}
use Rattle.std.proofs.Math.Bool.{true}
use Rattle.definition.specs.Classes.{super_of}
use Rattle.definition.specs.Superclasses.{below}
use Rattle.definition.specs.Tables.{object_at, objects_of}
use Rattle.frames.specs.Unused.{is_used}
use Rattle.resolution.specs.Quick.{base_of, tables_over}
use Rattle.access.specs.Members.{object-word, object-missing, object-above, object-right}
use Rattle.access.proofs.receivers.received.Goals as goal

pub returns-then-v-ne-KIND_OBJECT : goal.returns-then-v-ne-KIND_OBJECT
returns-then-v-ne-KIND_OBJECT c =
    let base = c.args.base.now in
    λ I S F. rw c.no_object.ensures (object-word (base_of base) (objects_of (base_of base) (tables_over base I S c.args.objects.now F)) c.args.e c.args.v.kind c.args.v.bits c.if-v-ne-KIND_OBJECT.true)

pub returns-then-not-is_used : goal.returns-then-not-is_used
returns-then-not-is_used c =
    let base = c.args.base.now in
    λ I S F. object-missing (base_of base) (tables_over base I S c.args.objects.now F) c.args.e c.args.v.kind c.args.v.bits c.if-v-ne-KIND_OBJECT.false (sym c.is_used.ensures ∙ c.if-not-is_used.true)

pub returns-then-not-is_below : goal.returns-then-not-is_below
unfolding object_at
returns-then-not-is_below c =
    let base = c.args.base.now in
    λ I S F. object-above (base_of base) (tables_over base I S c.args.objects.now F) c.args.e c.args.v.kind c.args.v.bits c.if-v-ne-KIND_OBJECT.false (sym c.is_used.ensures ∙ c.if-not-is_used.false) (rw (← c.object_class.ensures) (sym c.is_below.ensures ∙ c.if-not-is_below.true))

pub returns : goal.returns
unfolding object_at
returns c =
    let base = c.args.base.now in
    let objects = c.args.objects.now in
    let l : is_used base.counts.now c.args.v.bits ≡ true = sym c.is_used.ensures ∙ c.if-not-is_used.false in
    let h : below (super_of (base_of base)) (object_at (base_of base) objects c.args.v.bits).class c.args.e ≡ true = rw (← c.object_class.ensures) (sym c.is_below.ensures ∙ c.if-not-is_below.false) in
    λ I S F. (object-right (base_of base) (tables_over base I S objects F) c.args.e c.args.v.kind c.args.v.bits c.if-v-ne-KIND_OBJECT.false l h, l, h)
