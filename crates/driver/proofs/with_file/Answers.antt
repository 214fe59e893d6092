-- The call is read if its file ends within the bytes.
use mathlib.Core.Path.{◌≡◌, refl}
use mathlib.Core.Bool.{Bool, true, false}
use Prim.Native.Nat.{ℕ}
use mathlib.Core.List.{List}
use Rattle.std.specs.Bool.{then_some}
use Rattle.std.proofs.Math.Option.{some, none}
use Rattle.definition.specs.Instructions.{pick}
use Rattle.calls.specs.declared.Call.{Call}
use Rattle.calls.specs.Made.{call_of}
use Rattle.driver.specs.Laws.{call_made}
use Rattle.driver.proofs.with_file.Goals as goal

made : (t : Bool) (c : Call) (bs : List ℕ) → call_made (then_some t c) bs ≡ pick t (some (call_of c bs)) none
unfolding call_made pick
made true c bs = refl
made false c bs = refl

pub returns : goal.returns
returns c = λ bs. rw c.then_some.ensures (made _ c.args.call bs)
