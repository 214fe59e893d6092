-- Stores that come from a boot.
use Rattle.std.specs.Prelude.{◌≡◌}
use Rattle.definition.specs.Answers.{Accepted}
use Rattle.definition.specs.Tables.{Tables}
use Rattle.definition.specs.Calls.{boot, Call, perform}
use Rattle.definition.specs.First.Tables.{FirstTables}
use Rattle.definition.specs.First.Calls.{FirstComesFromBoot}
use Rattle.definition.specs.Changeover.{changeover}

-- A store that comes from a boot: one that an accepted boot leaves, one that a call on such a store leaves, or one that was filled from an old store that comes from the
-- first document's boot. So one that a list of calls leads to from an accepted boot, or from such a filled store (`led-from-boot`, `from-boot-led`, crate safety).
pub data ComesFromBoot : Tables → Type 0 where
  after_boot : (t : Tables) → (boot t).answer ≡ Accepted → ComesFromBoot (boot t).tables
  after_call : (c : Call) (t : Tables) → ComesFromBoot t → ComesFromBoot (perform c t).tables
  after_changeover : (u : FirstTables) (t : Tables) → FirstComesFromBoot u → (changeover u t).answer ≡ Accepted → ComesFromBoot (changeover u t).tables
