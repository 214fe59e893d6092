-- File rules, by the file. A reading of a file comes to its methods one after another (`AtMethod`) and within a method to its maps (`AtMap`). Where a method's count of arguments is above 4 (version 3), a map has
-- more than 16 operands, or an operand type is 0, the whole file doesn't read: `count-bad`, `operands-bad`, `operand-bad`.
use Rattle.std.specs.Prelude.{◌≡◌, refl, true, List, ◌∷◌, ℕ, zero, suc, ◌+◌, ◌*◌, ◌<◌, drop, leb}
use Rattle.std.proofs.Common.{sym, ap, ◌∙◌, arith}
use Rattle.std.proofs.lemmas.Bool.{false≢true, lt-leb}
use Rattle.std.proofs.Math.Option.{Option, none, some, some-injective}
use Rattle.definition.specs.Numbers.{name_object, operand_limit, local_count, version_two, version_three, argument_limit, byte_range}
use Rattle.definition.specs.declared.Signature.{Signature}
use Rattle.definition.specs.Classes.{Field, Map, Method}
use Rattle.definition.specs.File.{Got, byte, short, name, count, fields_in, names_in, list_in, arguments_in, signature_in, map_in, maps_from, maps_in, methods_in, read_file}
use Rattle.definition.specs.Maybe.{◌>>=◌, need}
use Rattle.laws.specs.Options.{bind-some, bind-at, need-true}
use Rattle.laws.specs.Inline.{above-bad}

-- what follows a reading that fails fails
none-past : {A B : Type 0} (o : Option A) (f : A → Option B) → ((a : A) → o ≡ some a → f a ≡ none) → (o >>= f) ≡ none
unfolding ◌>>=◌
none-past none f h = refl
none-past (some a) f h = h a refl

none-on : {A B : Type 0} (o : Option A) (f : A → Option B) → o ≡ none → (o >>= f) ≡ none
unfolding ◌>>=◌
none-on o f e = rw e refl

-- the same where the reading is known
none-at : {A B : Type 0} (o : Option A) (f : A → Option B) (a : A) → o ≡ some a → f a ≡ none → (o >>= f) ≡ none
none-at o f a e h = bind-at o f a e ∙ h

-- some methods, or maps, read, and then none can be: none of them all can

methods-stop : (v i n left : ℕ) (bs : List ℕ) (g : Got (List Method)) → n ≡ i + suc left → methods_in v i bs ≡ some g → methods_in v (suc left) g.more ≡ none → methods_in v n bs ≡ none
unfolding methods_in
methods-stop v zero n left bs g q e h =
    let z : bs ≡ g.more = ap (λ (x : Got (List Method)). x.more) (some-injective _ g e) in
    let y : n ≡ suc left = omega (arith, q) in
    rw (y, z) h
methods-stop v (suc i) zero left bs g q e h = absurd (omega (arith, q))
methods-stop v (suc i) (suc n) left bs g q e h =
    let a = bind-some _ _ e in
    let b = bind-some _ _ a.2 in
    let c = bind-some _ _ b.2 in
    let d = bind-some _ _ c.2 in
    let f = bind-some _ _ d.2 in
    let z : f.0.more ≡ g.more = ap (λ (x : Got (List Method)). x.more) (some-injective _ g f.2) in
    none-at _ _ a.0 a.1 (none-at _ _ b.0 b.1 (none-at _ _ tt c.1 (none-at _ _ d.0 d.1
    (none-on _ _ (methods-stop v i n left d.0.more f.0 (omega (arith, q)) f.1 (rw z h))))))

maps-stop : (o i n left : ℕ) (bs : List ℕ) (g : Got (List Map)) → n ≡ i + suc left → maps_from o i bs ≡ some g → ((p : ℕ) → maps_from p (suc left) g.more ≡ none) → maps_from o n bs ≡ none
unfolding maps_from
maps-stop o zero n left bs g q e h =
    let z : bs ≡ g.more = ap (λ (x : Got (List Map)). x.more) (some-injective _ g e) in
    let y : n ≡ suc left = omega (arith, q) in
    rw (y, z) (h o)
maps-stop o (suc i) zero left bs g q e h = absurd (omega (arith, q))
maps-stop o (suc i) (suc n) left bs g q e h =
    let a = bind-some _ _ e in
    let b = bind-some _ _ a.2 in
    let z : b.0.more ≡ g.more = ap (λ (x : Got (List Map)). x.more) (some-injective _ g b.2) in
    none-at _ _ a.0 a.1 (none-on _ _ (maps-stop (suc a.0.value.offset) i n left a.0.more b.0 (omega (arith, q)) b.1 (λ p. rw z (h p))))

-- The bytes bs, up to their methods, are a file of version v, and as many methods read that the next one is read at `rest`, `left` being left behind it
pub record AtMethod (bs : List ℕ) (v left : ℕ) (rest : List ℕ) : Type 0 where
  pub version : Got ℕ
  pub size : Got ℕ
  pub own : Got ℕ
  pub super : Got ℕ
  pub field_count : Got ℕ
  pub fields : Got (List Field)
  pub method_count : Got ℕ
  pub before : ℕ
  pub methods : Got (List Method)
  pub is_version : byte bs ≡ some version
  pub named : version.value ≡ v
  pub is_size : short version.more ≡ some size
  pub is_own : name name_object size.more ≡ some own
  pub is_super : name name_object own.more ≡ some super
  pub is_field_count : count super.more ≡ some field_count
  pub is_fields : fields_in field_count.value field_count.more ≡ some fields
  pub is_method_count : count fields.more ≡ some method_count
  pub read : methods_in v before method_count.more ≡ some methods
  pub here : methods.more ≡ rest
  pub counted : method_count.value ≡ before + suc left

-- a method that can't be read makes a bad file
pub method-bad : (bs : List ℕ) (v left : ℕ) (rest : List ℕ) → AtMethod bs v left rest → methods_in v (suc left) rest ≡ none → read_file bs ≡ none
unfolding read_file
method-bad bs v left rest a h =
    let x : methods_in a.version.value a.method_count.value a.method_count.more ≡ none = rw a.named (methods-stop v a.before a.method_count.value left a.method_count.more a.methods a.counted a.read (rw a.here h)) in
    none-past _ _ (λ _ _. none-at _ _ a.version a.is_version (none-past _ _ (λ _ _. none-at _ _ a.size a.is_size (none-past _ _ (λ _ _.
    none-at _ _ a.own a.is_own (none-at _ _ a.super a.is_super (none-at _ _ a.field_count a.is_field_count (none-at _ _ a.fields a.is_fields
    (none-at _ _ a.method_count a.is_method_count (none-on _ _ x))))))))))

-- a name is two bytes
name-more : (k high low : ℕ) (rest : List ℕ) (x : Got ℕ) → name k (high ∷ low ∷ rest) ≡ some x → x.more ≡ rest
unfolding name short byte ◌>>=◌
name-more k high low rest x e = ap (λ (y : Got ℕ). y.more) (sym (some-injective _ x (bind-some (need (leb k (high * byte_range + low))) (λ _. some (record { value = high * byte_range + low; more = rest })) e).2))

no-list : (high low n : ℕ) (rest : List ℕ) → argument_limit < n → signature_in version_three (high ∷ low ∷ n ∷ rest) ≡ none
unfolding signature_in arguments_in
no-list high low n rest h = none-past (name 1 (high ∷ low ∷ n ∷ rest)) _ (λ x e. let z : list_in x.more ≡ none = rw (name-more 1 high low (n ∷ rest) x e) (above-bad n rest h) in none-on _ _ z)

-- 'a count byte (above 4 is a bad file)': behind the method's name, two bytes, in a file of version 3
pub count-bad : (bs : List ℕ) (left high low n : ℕ) (rest : List ℕ) → AtMethod bs version_three left (high ∷ low ∷ n ∷ rest) → argument_limit < n → read_file bs ≡ none
unfolding methods_in
count-bad bs left high low n rest a h = method-bad bs version_three left _ a (none-on _ _ (no-list high low n rest h))

-- The method at `rest` has as many maps that read that the next one is read at `more`, others being left behind it
pub record AtMap (v : ℕ) (rest more : List ℕ) : Type 0 where
  pub signature : Got Signature
  pub size : Got ℕ
  pub map_count : Got ℕ
  pub before : ℕ
  pub left : ℕ
  pub maps : Got (List Map)
  pub later : leb version_two v ≡ true
  pub is_signature : signature_in v rest ≡ some signature
  pub is_size : short signature.more ≡ some size
  pub is_map_count : byte (drop size.value size.more) ≡ some map_count
  pub read : maps_from 0 before map_count.more ≡ some maps
  pub here : maps.more ≡ more
  pub counted : map_count.value ≡ before + suc left

-- a map that can't be read makes a bad file, whatever its offset
pub map-bad : (bs : List ℕ) (v left : ℕ) (rest more : List ℕ) → AtMethod bs v left rest → AtMap v rest more → ((o : ℕ) → map_in o more ≡ none) → read_file bs ≡ none
unfolding methods_in maps_in maps_from
map-bad bs v left rest more a m h =
    let x : maps_from 0 m.map_count.value m.map_count.more ≡ none =
    maps-stop 0 m.before m.map_count.value m.left m.map_count.more m.maps m.counted m.read (λ p. rw m.here (none-on _ _ (h p))) in
    method-bad bs v left rest a (none-at _ _ m.signature m.is_signature (none-at _ _ m.size m.is_size (none-past _ _ (λ _ _. none-on _ _ (go v m.later x)))))
  where
    go : (v : ℕ) → leb version_two v ≡ true → maps_from 0 m.map_count.value m.map_count.more ≡ none → maps_in v (drop m.size.value m.size.more) ≡ none
    go v e x = rw (e, maps_in) (none-at _ _ m.map_count m.is_map_count x)

-- a map's bytes up to its operand count: its offset and eight local types
pub record MapTo (more : List ℕ) (d : ℕ) (rest : List ℕ) : Type 0 where
  pub offset : Got ℕ
  pub locals : Got (List ℕ)
  pub is_offset : short more ≡ some offset
  pub is_locals : names_in 0 local_count offset.more ≡ some locals
  pub here : locals.more ≡ d ∷ rest

operands-none : (o : ℕ) (more : List ℕ) (d : ℕ) (rest : List ℕ) → MapTo more d rest → (leb d operand_limit ≡ true → names_in 1 d rest ≡ none) → map_in o more ≡ none
unfolding map_in name byte
operands-none o more d rest m h = none-past _ _ (λ p e. rw (same p (bind-some _ _ e)) (none-at _ _ m.locals m.is_locals (none-at _ _ (record { value = d; more = rest }) (rw m.here refl) (none-past _ _ (λ _ t. none-on _ _ (h (need-true _ t)))))))
  where
    same : (p : Got ℕ) → (y : Got ℕ) × (short more ≡ some y) × ((need (leb o y.value) >>= λ _. some y) ≡ some p) → p ≡ m.offset
    same p y = let z = bind-some _ _ y.2 in some-injective p m.offset (sym z.2 ∙ (sym y.1 ∙ m.is_offset))

-- more than 16 operands in a map
pub operands-bad : (bs : List ℕ) (v left : ℕ) (rest more : List ℕ) (d : ℕ) (operands : List ℕ) → AtMethod bs v left rest → AtMap v rest more → MapTo more d operands → operand_limit < d → read_file bs ≡ none
operands-bad bs v left rest more d operands a m t h =
    map-bad bs v left rest more a m (λ o. operands-none o more d operands t (λ e. absurd (false≢true (sym (lt-leb d operand_limit h) ∙ e))))

no_zero : (i n left : ℕ) (bs more : List ℕ) (g : Got (List ℕ)) → n ≡ i + suc left → names_in 1 i bs ≡ some g → g.more ≡ 0 ∷ 0 ∷ more → names_in 1 n bs ≡ none
unfolding names_in
no_zero zero n left bs more g q e h =
    let z : bs ≡ 0 ∷ 0 ∷ more = ap (λ (x : Got (List ℕ)). x.more) (some-injective _ g e) ∙ h in
    let y : n ≡ suc left = omega (arith, q) in
    rw (y, z) (unfold name short byte need ◌>>=◌ in refl)
no_zero (suc i) zero left bs more g q e h = absurd (omega (arith, q))
no_zero (suc i) (suc n) left bs more g q e h =
    let a = bind-some _ _ e in
    let b = bind-some _ _ a.2 in
    let z : b.0.more ≡ g.more = ap (λ (x : Got (List ℕ)). x.more) (some-injective _ g b.2) in
    none-at _ _ a.0 a.1 (none-on _ _ (no_zero i n left a.0.more more b.0 (omega (arith, q)) b.1 (z ∙ h)))

-- an operand type 0, the one behind i others of the map
pub operand-bad : (bs : List ℕ) (v left : ℕ) (rest more : List ℕ) (i d k : ℕ) (operands behind : List ℕ) (g : Got (List ℕ)) → AtMethod bs v left rest → AtMap v rest more → MapTo more d operands → d ≡ i + suc k
    → names_in 1 i operands ≡ some g → g.more ≡ 0 ∷ 0 ∷ behind → read_file bs ≡ none
operand-bad bs v left rest more i d k operands behind g a m t q e h = map-bad bs v left rest more a m (λ o. operands-none o more d operands t (λ _. no_zero i d k operands behind g q e h))
