-- What a call of one argument finds, as every call before version 3 is: exactly the methods of its name, of that one type as their whole list and of its result, whatever
-- the versions of their files.
use Rattle.std.specs.Prelude.{◌≡◌, true, ℕ, ◌<◌}
use Rattle.std.proofs.Common.{sym, ap, ◌∙◌, subst}
use Rattle.std.proofs.Math.Option.{some}
use mathlib.Core.List.{List, [], ◌∷◌, Memᴰ}
use Rattle.std.proofs.Math.ListN.{get_elem?}
use Rattle.std.proofs.lemmas.Bool.{lt-leb}
use Rattle.definition.specs.declared.Arguments.TheVariants.{OneArgument}
use Rattle.definition.specs.declared.Signature.{Signature}
use Rattle.definition.specs.declared.Instruction.TheVariants.{Invokevirtual}
use Rattle.definition.specs.Numbers.{version_three}
use Rattle.definition.specs.Lists.{index_of}
use Rattle.definition.specs.Superclasses.{Below}
use Rattle.definition.specs.Classes.{Base, Class, Method, Selected, argument_types, alike, super_of, methods_of, has_method, selected, types_of}
use Rattle.definition.specs.Instructions.{Decoded, decode}
use Rattle.laws.specs.Agreement.{super-falls}
use Rattle.laws.specs.Options.{holds_at}
use Rattle.laws.specs.Tests.{any-there, index-found}
use Rattle.laws.specs.Upward.{nearest-finds}
use Rattle.laws.specs.Members.{alike_is, same-signature, same-arguments, selected-at, nearest-selected}
use Rattle.laws.specs.Single.{Single, SingleIn, decode-single}

-- of name n and result r, the whole list is the one type a
pub record Ones (n a r : ℕ) (m : Method) : Type 0 where
  pub name : m.signature.name ≡ n
  pub list : argument_types m.signature ≡ a ∷ []
  pub result : m.signature.result ≡ r

-- what a call of signature s, of the one argument a, finds in a store: no version is asked
pub record FindsOnes (b : Base) (s : Signature) (a : ℕ) : Type 0 where
  -- the methods alike are exactly those
  pub only : (m : Method) → alike s m ≡ true → Ones s.name a s.result m
  pub each : (m : Method) → Ones s.name a s.result m → alike s m ≡ true
  -- of a list of methods, what is found is one
  pub placed : (ms : List Method) (j : ℕ) → index_of (alike s) ms ≡ some j → (m : Method) × (get_elem? ms j ≡ some m) × Ones s.name a s.result m
  -- what is selected from class c is one, in a class upward
  pub finds : (c : ℕ) (x : Selected) → selected b s c ≡ some x
      → (k : Class) × (m : Method) × Below (super_of b) c x.class × (get_elem? b.classes x.class ≡ some k) × (get_elem? k.methods x.place ≡ some m) × Ones s.name a s.result m
  -- and where class d upward of c declares one, one is selected, in d or nearer
  pub found : (c d : ℕ) (k : Class) (m : Method) → Below (super_of b) c d → get_elem? b.classes d ≡ some k → Memᴰ m k.methods → Ones s.name a s.result m
      → (x : Selected) × (selected b s c ≡ some x) × Below (super_of b) x.class d

one_only : (s : Signature) (a : ℕ) → s.arguments ≡ OneArgument a → (m : Method) → m.signature ≡ s → Ones s.name a s.result m
one_only s a h m e = record { name = ap (λ (z : Signature). z.name) e; list = ap (λ (z : Signature). argument_types z) e ∙ ap types_of h; result = ap (λ (z : Signature). z.result) e }

one_each : (s : Signature) (a : ℕ) → s.arguments ≡ OneArgument a → (m : Method) → Ones s.name a s.result m → alike s m ≡ true
unfolding alike
one_each s a h m o =
    let e = same-arguments m.signature.arguments s.arguments (o.list ∙ sym (ap types_of h)) in
    (same-signature m.signature s).1 (λ i. record { name = o.name i; arguments = e i; result = o.result i })

has_one : (b : Base) (s : Signature) (d : ℕ) (k : Class) (m : Method) → get_elem? b.classes d ≡ some k → Memᴰ m k.methods → alike s m ≡ true → has_method b s d ≡ true
unfolding has_method methods_of
has_one b s d k m e x h = rw (e, methods_of) (any-there (alike s) k.methods m x h)

pub finds-ones : (b : Base) (s : Signature) (a : ℕ) → s.arguments ≡ OneArgument a → FindsOnes b s a
finds-ones b s a h = record {
  only = λ m q. one_only s a h m (alike_is s m q);
  each = one_each s a h;
  placed = λ ms j q. let f = index-found (alike s) ms j q in (f.0, f.1, one_only s a h f.0 (alike_is s f.0 f.2));
  finds = λ c x q.
      let f = selected-at b s c x q in
      (f.there.the_class, f.there.method, f.above, f.there.is_class, f.there.is_method, one_only s a h f.there.method f.there.is_signature);
  found = λ c d k m u e x o.
      let n = nearest-finds (super_of b) (super-falls b) (has_method b s) u (has_one b s d k m e x (one_each s a h m o)) in
      let f = nearest-selected b s c n.0 n.1 in
      (record { class = n.0; place = f.0 }, f.1, n.2);
}

-- a call in code of a version below 3 finds exactly the methods of its one type
pub early-finds : (version : ℕ) (code : List ℕ) (p : ℕ) (d : Decoded) (c : ℕ) (s : Signature) → version < version_three → decode version code p ≡ some d → d.instruction ≡ Invokevirtual c s
    → (a : ℕ) × (s.arguments ≡ OneArgument a) × ((b : Base) → FindsOnes b s a)
early-finds version code p d c s v e q =
    let o : Single s = subst SingleIn q (holds_at (λ d. SingleIn d.instruction) (decode version code p) d (decode-single version code p (lt-leb version_three version v)) e) in
    (o.0, o.1, λ b. finds-ones b s o.0 o.1)
