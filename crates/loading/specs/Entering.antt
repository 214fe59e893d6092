-- record: what is decided of an entry, but for agreement.
use Rattle.std.specs.Prelude.{◌≡◌, List, ℕ, ◌<◌, ◌≤◌, get_or}
use Rattle.definition.specs.Requests.{at}
use Rattle.definition.specs.Constraints.{Tie, Subtype, World}
use Rattle.definition.specs.Answers.{refused, ok, number}
use Rattle.definition.specs.Loading.{with_entry, recorded}
use Rattle.resolution.specs.Quick.{quick_base}
use Rattle.entries.specs.World.{world}
use Rattle.loading.specs.Stages.{judged_world}
use Rattle.loading.specs.declared.loads.Newcomer.{Newcomer}
use Rattle.std.specs.Prelude.{Ok, Err, Some, None}
use Rattle.loading.specs.Stages.{Plan}

-- what the newcomer is: that entry, of a class that is there, without constraints of its own
pub record Entry (counts : List ℕ) (l n c : ℕ) (new : Newcomer) : Type 0 where
  pub loader : new.loader ≡ l
  pub name : new.name ≡ n
  pub class : new.class ≡ c
  pub above : new.above ≡ 0
  pub tied : new.tied ≡ get_or counts 3 0
  pub noted : new.noted ≡ get_or counts 4 0
  pub room : get_or counts 2 0 < 256

-- what is decided of it, whatever the constraints, once loader, name and class are known
unfoldable pub Recorded : Plan → List ℕ → ℕ → ℕ → ℕ → World → Type 0
Recorded (Err r) counts l n c w = (refused r ≡ recorded l n c w) × (number r ≡ 9 → ⊥)
Recorded (Ok None) counts l n c w = ok w ≡ recorded l n c w
Recorded (Ok (Some new)) counts l n c w = (judged_world (with_entry w (at l n) c) ≡ recorded l n c w) × Entry counts l n c new

abbrev pub Enters : Plan → List ℕ → List ℕ → List ℕ → List ℕ → ℕ → ℕ → ℕ → Type 0
Enters p counts classes kept cache l n c = (ts : List Tie) (ss : List Subtype) → l < 16 → 2 ≤ n → Recorded p counts l n c (world (quick_base counts classes kept cache) ts ss)
