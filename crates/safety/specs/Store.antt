-- The store over classes, as the invariant speaks of it.
use Rattle.std.specs.Prelude.{List, [], ◌∷◌, ℕ}
use Rattle.definition.specs.Requests.{at}
use Rattle.definition.specs.Constraints.{World}
use Rattle.definition.specs.Machine.{Frame, Progress, Objects}
use Rattle.definition.specs.Answers.{Result, refused, ok}
use Rattle.definition.specs.Tables.{Rows, of_task, world_of}

pub record Store : Type 0 where
  pub world : World
  pub objects : Objects
  pub quote : List Frame
  pub report : List Frame

abbrev pub store_of : Rows → Store
store_of r = record { world = world_of r; objects = r.objects; quote = r.quote; report = r.report }

abbrev pub booted : Store
booted = record {
  world = record {
    base = record { classes = record { loader = 0; version = 0; name = 2; super = 0; fields = []; methods = [] } ∷ []; cache = record { request = at 0 2; class = 0 } ∷ [] };
    ties = [];
    subtypes = [];
  };
  objects = [];
  quote = [];
  report = [];
}

-- the store after an answer: unchanged if it is a refusal
abbrev pub in_world : Store → Result World → Store
in_world s (refused r) = s
in_world s (ok w) = record { world = w; objects = s.objects; quote = s.quote; report = s.report }

abbrev pub in_task : ℕ → Store → Result Progress → Store
in_task k s (refused r) = s
in_task k s (ok o) = record { world = o.world; objects = o.objects; quote = of_task k o.frames s.quote; report = of_task k s.report o.frames }
