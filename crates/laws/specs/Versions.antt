-- 'Version 3 files, otherwise like version 2': every opcode byte but that of invokevirtual is read as in version 2, and so is what stands at it (`opcode-alike`, `decode-alike`); maps are (`maps-alike`); a method with
-- one argument is, but for the count byte before its type (`one_alike`, `signature-alike`).
use Rattle.std.specs.Prelude.{◌≡◌, refl, Bool, true, false, List, [], ◌∷◌, ◌≢◌, ℕ, suc, ◌+◌, ◌*◌, get_or, length, leb}
use Rattle.std.proofs.Common.{ap, ne_eqb}
use Rattle.std.proofs.Math.Option.{Option, none, some}
use Rattle.definition.specs.Numbers.{version_two, version_three, byte_range}
use Rattle.definition.specs.declared.Arguments.{Arguments}
use Rattle.definition.specs.declared.Signature.{Signature}
use Rattle.definition.specs.declared.Opcode.{Opcode}
use Rattle.definition.specs.declared.Arguments.TheVariants.{OneArgument}
use Rattle.definition.specs.Classes.{arguments_of, signature}
use Rattle.definition.specs.File.{Got, byte, short, name, names_in, one_in, list_in, arguments_in, signature_in, maps_in}
use Rattle.definition.specs.Instructions.{Decoded, pick, opcode_of, inline_length, sized_as, instruction_of, decode}
use Rattle.definition.specs.Maybe.{◌>>=◌, need}

pub opcode-alike : (b : ℕ) → b ≢ 0xB6 → opcode_of version_three b ≡ opcode_of version_two b
unfolding opcode_of
opcode-alike b h = rw (ne_eqb b 0xB6 h) (unfold pick in refl)

pub decode-alike : (code : List ℕ) (p : ℕ) → get_or code p 0 ≢ 0xB6 → decode version_three code p ≡ decode version_two code p
unfolding decode
decode-alike code p h = ap (λ (o : Opcode). read o) (opcode-alike (get_or code p 0) h)
  where
    read : Opcode → Option Decoded
    read o = let n = suc (inline_length code (p + 1) o) in elim (leb (p + n) (length code)) as (λ _. Option Decoded) [ true ↦ sized_as n (instruction_of code (p + 1) o) | false ↦ none ]

pub maps-alike : (bs : List ℕ) → maps_in version_three bs ≡ maps_in version_two bs
unfolding maps_in
maps-alike bs = refl

-- a list of one is the type behind a count of 1
pub one_alike : (bs : List ℕ) → arguments_in version_three (1 ∷ bs) ≡ arguments_in version_two bs
unfolding arguments_in list_in one_in byte need names_in arguments_of ◌>>=◌
one_alike bs = go (name 1 bs)
  where
    types : Option (Got ℕ) → Option (Got (List ℕ))
    types o = o >>= λ t. some (record { value = t.value ∷ []; more = t.more })

    listed : Option (Got ℕ) → Option (Got Arguments)
    listed o = types o >>= λ ts. arguments_of ts.value >>= λ a. some (record { value = a; more = ts.more })

    single : Option (Got ℕ) → Option (Got Arguments)
    single o = o >>= λ a. some (record { value = OneArgument a.value; more = a.more })

    go : (o : Option (Got ℕ)) → listed o ≡ single o
    go none = refl
    go (some t) = refl

-- and a method's name, list and result, behind two bytes of its name
pub signature-alike : (high low : ℕ) (bs : List ℕ) → signature_in version_three (high ∷ low ∷ 1 ∷ bs) ≡ signature_in version_two (high ∷ low ∷ bs)
unfolding signature_in name short byte need ◌>>=◌
signature-alike high low bs = go (leb 1 (high * byte_range + low))
  where
    named : List ℕ → Bool → Option (Got ℕ)
    named more t = need t >>= λ _. some (record { value = high * byte_range + low; more = more })

    rest : ℕ → Option (Got Arguments) → Option (Got Signature)
    rest n o = o >>= λ a. name 1 a.more >>= λ r. some (record { value = signature n a.value r.value; more = r.more })

    go : (t : Bool) → (named (1 ∷ bs) t >>= λ n. rest n.value (arguments_in version_three n.more)) ≡ (named bs t >>= λ n. rest n.value (arguments_in version_two n.more))
    go true = ap (rest (high * byte_range + low)) (one_alike bs)
    go false = refl
