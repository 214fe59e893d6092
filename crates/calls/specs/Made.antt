-- A call as code makes it is one of the definition's ten; a define's file, tried or not, is the bytes lent beside it.
use Rattle.std.specs.Prelude.{◌≡◌, refl, Bool, true, false, List, ℕ, min, ◌-◌, ◌≤◌, ◌<◌, length, take, replicate, ltb}
use Rattle.std.proofs.Common.{sym, ap, ◌∙◌, arith, length-take-le, le-ltb, ltb-true, ltb-false}
use Rattle.std.proofs.lemmas.List.{length-replicate}
use Rattle.definition.specs.Numbers.{list_limit}
use Rattle.definition.specs.Calls as calls
use Rattle.definition.specs.Calls.{call_boot, call_define, call_record, call_start, call_step, call_run, call_drop, call_sweep, call_try, call_take_back, load_define, load_record}
pub use Rattle.calls.specs.declared.Call.{Call}
pub use Rattle.calls.specs.declared.Call.TheVariants.{Boot, Define, Record, Start, Step, Run, Drop, Sweep, TryDefine, TryRecord, TakeBack}

unfoldable pub call_of : Call → List ℕ → calls.Call
call_of Boot bs = call_boot
call_of (Define l) bs = call_define l bs
call_of (Record l n c) bs = call_record l n c
call_of (Start k l n m v) bs = call_start k l n m v
call_of Step bs = call_step
call_of (Run n) bs = call_run n
call_of (Drop k) bs = call_drop k
call_of Sweep bs = call_sweep
call_of (TryDefine l n) bs = call_try (load_define l bs) n
call_of (TryRecord l m c n) bs = call_try (load_record l m c) n
call_of TakeBack bs = call_take_back

-- a list of m numbers serves a try as one of n does: both are too short, or neither is
abbrev pub Serves : ℕ → ℕ → Type 0
Serves m n = ltb m list_limit ≡ ltb n list_limit

pub serves-min : (n : ℕ) → (min n list_limit ≤ list_limit) × Serves (min n list_limit) n
serves-min n = (omega arith, step (ltb n list_limit) refl)
  where
    step : (t : Bool) → ltb n list_limit ≡ t → Serves (min n list_limit) n
    step true q = let e : min n list_limit ≡ n = omega (arith, ltb-true n list_limit q) in ap (λ (x : ℕ). ltb x list_limit) e
    step false q =
        let e : min n list_limit ≡ list_limit = omega (arith, ltb-false n list_limit q) in
        ap (λ (x : ℕ). ltb x list_limit) e ∙ sym (le-ltb n list_limit (ltb-false n list_limit q))

pub serves-low : (m n : ℕ) → m ≡ n → m < list_limit → (m ≤ list_limit) × Serves m n
serves-low m n e h = (omega arith, ap (λ (x : ℕ). ltb x list_limit) e)

pub serves-high : (m n : ℕ) → m ≡ n → list_limit ≤ m → (list_limit ≤ list_limit) × Serves list_limit n
serves-high m n e h = (omega arith, sym (le-ltb n list_limit (omega arith)))

-- the first m cells of a list of zeros
pub served : (m n : ℕ) → (m ≤ list_limit) × Serves m n → Serves (length (take (m - 0) (replicate {A = ℕ} list_limit 0))) n
served m n h = ap (λ (x : ℕ). ltb x list_limit) (length-take-le (m - 0) (replicate {A = ℕ} list_limit 0) (omega (arith, length-replicate {A = ℕ} list_limit 0, h.0)) ∙ first) ∙ h.1
  where
    first : m - 0 ≡ m
    first = omega arith
