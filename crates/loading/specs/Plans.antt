-- Loads on tables by what they add: what the code's plans mean, and what is answered and written by them.
use Rattle.std.specs.Prelude.{◌≡◌, Bool, true, false, ◌&&◌, List, [], ◌∷◌, ◌++◌, ℕ, zero, suc, ◌+◌, ◌≤◌, ◌<◌, length, get_or, set, take, drop, leb, ltb, eqb}
use Rattle.std.proofs.Math.Option.{some}
use Rattle.definition.specs.Numbers.{groups_cell}
use Rattle.definition.specs.Lists.{rows, write_rows, all}
use Rattle.definition.specs.Requests.{at}
use Rattle.definition.specs.Classes.{Base, find}
use Rattle.definition.specs.Constraints.{World, agrees}
use Rattle.definition.specs.File.{class_of}
use Rattle.definition.specs.Tables.{Tables, tables, put_three, entry, tie_at, subtype_at, world_of, view}
use Rattle.definition.specs.Broken.{tie_fits, numbered, broken}
use Rattle.definition.specs.declared.Refusal.TheVariants.{Word}
use Rattle.definition.specs.declared.Reply.{Reply}
use Rattle.definition.specs.declared.Reply.TheVariants.{Accepted, Defined, Denied}
use Rattle.definition.specs.Answers.{refused, number}
use Rattle.definition.specs.Calls.{done, wrap, Load, load_define, load_record, load_rows}
use Rattle.definition.specs.Reasons.{reason, tries, after_load, reason_after, try_load}
use Rattle.groups.specs.Numbered.{regrouped}
use Rattle.classfile.specs.Reading.{class_name, super_name, quick_file}
use Rattle.resolution.specs.Quick.{quick_base}
use Rattle.constraints.specs.Laws.{Beside}
use Rattle.entries.specs.World.{world, base_with, Searchable}
use Rattle.entries.specs.Entering.{Tried}
use Rattle.entries.specs.Offers.{offered}
use Rattle.loading.specs.declared.loads.Load as coded
use Rattle.loading.specs.declared.loads.Newcomer.{Newcomer}
use Rattle.std.specs.Prelude.{Ok, Err, Some, None}
use Rattle.loading.specs.Stages.{Plan, ClassPlan}
use Rattle.loading.specs.Posting.{tried_ties_length}
use Rattle.entries.specs.Remembering.{remembered_in}
use Rattle.loading.specs.Writing.{numbers_on, numbers_after, Grown}

-- The code's loads

unfoldable pub load_of : coded.Load → List ℕ → Load
load_of (coded.Load.Define l) bs = load_define l bs
load_of (coded.Load.Record l n c) bs = load_record l n c

-- the table of constraints that holds a load's own: a define's are posted to a copy
unfoldable pub held : coded.Load → List ℕ → List ℕ → List ℕ
held (coded.Load.Define l) stored copy = copy
held (coded.Load.Record l n c) stored copy = stored

-- which has room for them
unfoldable pub Lent : coded.Load → List ℕ → List ℕ → Type 0
Lent (coded.Load.Define l) u v = (length u ≡ tried_ties_length) × (length v ≡ 768)
Lent (coded.Load.Record l n c) u v = Unit {0}

-- a loader, the name of a class, a class: else 3
unfoldable pub known : coded.Load → List ℕ → Bool
known (coded.Load.Define l) counts = ltb l 16
known (coded.Load.Record l n c) counts = ltb l 16 && leb 2 n && ltb c (get_or counts 0 0)

-- a load's file; a record has none
unfoldable pub file_of : Load → List ℕ
file_of (load_define l bs) = bs
file_of (load_record l n c) = []

-- The store with a newcomer, whose class is in a file if it is new, and whose constraints stand in the tables u and v

unfoldable pub new_base : Newcomer → List ℕ → Base → Base
new_base n bs b = elim n.above as (λ _. Base) [
  | zero ↦ record { classes = b.classes; cache = b.cache ++ (entry n.loader n.name n.class ∷ []) }
  | suc p ↦ base_with b (class_of n.loader (quick_file bs))
]

abbrev pub new_world : Newcomer → List ℕ → Base → List ℕ → List ℕ → World
new_world n bs b u v = world (new_base n bs b) (rows (tie_at u) n.tied 0) (rows (subtype_at v) n.noted 0)

-- its numbers are within their limits, and there is room for it
pub record Sized (counts classes kept cache : List ℕ) (n : Newcomer) : Type 0 where
  pub base : Searchable counts classes kept cache
  pub room : get_or counts 2 0 < 256
  pub class : n.class ≤ 64
  pub grown : Grown counts n.tied n.noted

-- a new class is the next, bears the file's name, and its superclass is cached
unfoldable pub Placed : ℕ → Newcomer → List ℕ → List ℕ → Base → Type 0
Placed zero n bs counts b = Unit {0}
Placed (suc p) n bs counts b =
    (n.name ≡ class_name bs) × (n.class ≡ get_or counts 0 0) × (get_or counts 0 0 < 64) × (find b.cache (at n.loader (super_name bs)) ≡ some p)

pub record Fitting (counts classes kept cache bs : List ℕ) (n : Newcomer) : Type 0 where
  pub sized : Sized counts classes kept cache n
  pub placed : Placed n.above n bs counts (quick_base counts classes kept cache)

-- A newcomer on copies: as its entry is tried, and in a new class's cell its direct superclass

unfoldable pub above_in : ℕ → ℕ → List ℕ → List ℕ
above_in zero c supers = supers
above_in (suc p) c supers = set supers c (suc p)

pub record NewTried (counts classes kept cache : List ℕ) (n : Newcomer) (z t e counted trial supers : List ℕ) : Type 0 where
  pub filled : List ℕ
  pub tried : Tried counts classes kept cache n.loader n.name n.class z t e counted trial filled
  pub above : supers ≡ above_in n.above n.class filled

-- of copies that have room, and with the right groups beside its ties, a newcomer that fits is judged by agreement
abbrev pub Judged : List ℕ → List ℕ → List ℕ → List ℕ → List ℕ → List ℕ → List ℕ → Newcomer → List ℕ → List ℕ → List ℕ → Bool → Type 0
Judged counts classes kept cache u g v n z t e r = 8 ≤ length z → length t ≡ 768 → length e ≡ 64 → Beside u g n.tied → (bs : List ℕ) → Fitting counts classes kept cache bs n
    → r ≡ agrees (new_world n bs (quick_base counts classes kept cache) u v)

abbrev pub Agrees : List ℕ → List ℕ → List ℕ → List ℕ → List ℕ → List ℕ → List ℕ → Newcomer → Bool → Type 0
Agrees counts classes kept cache u g v n r = Beside u g n.tied → (bs : List ℕ) → Fitting counts classes kept cache bs n → r ≡ agrees (new_world n bs (quick_base counts classes kept cache) u v)

-- What an accepted load answers and writes

unfoldable pub new_reply : Newcomer → Reply
new_reply n = elim n.above as (λ _. Reply) [ zero ↦ Accepted | suc p ↦ Defined n.class ]

-- written over a table m of counts
unfoldable pub counts_over : Newcomer → ℕ → ℕ → List ℕ → List ℕ → List ℕ
counts_over n c d counts m = numbers_on counts n.tied n.noted (write_rows set (c ∷ d ∷ (get_or counts 2 0 + 1) ∷ n.tied ∷ n.noted ∷ []) 0 m)

-- over those where the load is remembered
unfoldable pub counts_with : Newcomer → ℕ → ℕ → List ℕ → List ℕ
counts_with n c d counts = counts_over n c d counts (remembered_in counts)

-- counts c with groups made anew of a table of ties, if any was posted behind those of the counts before
unfoldable pub grouped_with : Newcomer → List ℕ → List ℕ → List ℕ → List ℕ
grouped_with n counts ties c = elim (eqb n.tied (get_or counts 3 0)) as (λ _. List ℕ) [ true ↦ c | false ↦ regrouped c ties (get_or c 3 0) ]

-- the entry; of a define also the next class, its file behind the kept ones, the tables of constraints u and v, and groups
unfoldable pub written : Load → Newcomer → Tables → List ℕ → List ℕ → Tables
written (load_define l bs) n t u v =
    let c = t.counts in
    tables (grouped_with n c (write_rows set (take 768 u) 0 t.ties) (counts_with n (get_or c 0 0 + 1) (get_or c 1 0 + length bs) c)) (put_three t.classes (get_or c 0 0) n.loader (get_or c 1 0) (length bs))
    (write_rows set bs (get_or c 1 0) t.kept) (put_three t.cache (get_or c 2 0) n.loader n.name n.class) (write_rows set (take 768 u) 0 t.ties)
    (write_rows set v 0 t.subtypes) t.objects t.frames
written (load_record l m k) n t u v =
    let c = t.counts in
    tables (counts_with n (get_or c 0 0) (get_or c 1 0) c) t.classes t.kept (put_three t.cache (get_or c 2 0) n.loader n.name n.class) t.ties t.subtypes t.objects t.frames

-- What is admitted of a load with a list of that size, on tables t, with its constraints in u and v: a refusal other than a clash is the load's; so is what changes
-- nothing; and whether a newcomer clashes is up to agreement

-- where its groups are from: a define's ties lie between loaders, so they are made of these, or stand beside the stored ties if it posts none; a record's stand there, and
-- are right
unfoldable pub Groupable : Load → List ℕ → List ℕ → ℕ → Type 0
Groupable (load_define l bs) counts u n = (all tie_fits (rows (tie_at u) n 0) ≡ true) × (n ≡ get_or counts 3 0 → Beside u (drop groups_cell counts) n)
Groupable (load_record l m k) counts u n = Beside u (drop groups_cell counts) n

pub record Newly (c : Load) (t : Tables) (size : ℕ) (u v : List ℕ) (n : Newcomer) : Type 0 where
  pub sound : broken t ≡ false
  pub long : 512 ≤ size
  pub fits : Fitting t.counts t.classes t.kept t.cache (file_of c) n
  pub file : length (file_of c) ≤ 4096
  pub clash : agrees (new_world n (file_of c) (quick_base t.counts t.classes t.kept t.cache) u v) ≡ false → load_rows c (view t) ≡ refused (Word 9)
  pub fine : agrees (new_world n (file_of c) (quick_base t.counts t.classes t.kept t.cache) u v) ≡ true
      → done (new_reply n) (written c n t u v) ≡ wrap Denied (offered size c) t
  pub groups : Groupable c t.counts u n.tied
  pub turn : numbered (numbers_after t.counts n.tied n.noted) ≡ true
  pub listed : reason (new_world n (file_of c) (quick_base t.counts t.classes t.kept t.cache) u v) (numbers_after t.counts n.tied n.noted)
      ≡ reason_after (view t) (after_load c (world_of (view t)))

unfoldable pub Admitted : Plan → Load → Tables → ℕ → List ℕ → List ℕ → Type 0
Admitted (Err r) c t size u v = (done (Denied r) t ≡ wrap Denied (offered size c) t) × (number r ≡ 9 → ⊥)
Admitted (Ok None) c t size u v = done Accepted t ≡ wrap Denied (offered size c) t
Admitted (Ok (Some n)) c t size u v = Newly c t size u v n

-- of a class
abbrev pub added : ClassPlan → Plan
added (Err r) = Err r
added (Ok n) = Ok (Some n)

-- what is decided of it: carried out, it is the load that is offered

pub record Adding (c : Load) (t : Tables) (size : ℕ) (u v : List ℕ) (n : Newcomer) : Type 0 where
  pub newly : Newly c t size u v n
  pub whole : done (new_reply n) (written c n t u v) ≡ wrap Denied (offered size c) t

unfoldable pub Planned : Plan → Load → Tables → ℕ → List ℕ → List ℕ → Type 0
Planned (Err r) c t size u v = done (Denied r) t ≡ wrap Denied (offered size c) t
Planned (Ok None) c t size u v = done Accepted t ≡ wrap Denied (offered size c) t
Planned (Ok (Some n)) c t size u v = Adding c t size u v n

-- so it is of a load for which the plan p was admitted
abbrev pub Decides : Load → List ℕ → List ℕ → List ℕ → List ℕ → List ℕ → List ℕ → Plan → Plan → Type 0
Decides c counts classes kept cache u v p r = (size : ℕ) (ties subtypes objects frames : List ℕ)
    → Admitted p c (tables counts classes kept cache ties subtypes objects frames) size u v
    → Planned r c (tables counts classes kept cache ties subtypes objects frames) size u v

-- and what is answered with a list is the try

abbrev pub Explains : Load → List ℕ → List ℕ → List ℕ → List ℕ → List ℕ → List ℕ → Newcomer → List ℕ → Reply → ℕ → List ℕ → Type 0
Explains c counts classes kept cache u v n list a k out = (ties subtypes objects frames : List ℕ)
    → Newly c (tables counts classes kept cache ties subtypes objects frames) (length list) u v n
    → tries a k out ≡ try_load c list (tables counts classes kept cache ties subtypes objects frames)

abbrev pub Offers : Load → List ℕ → List ℕ → List ℕ → List ℕ → List ℕ → List ℕ → Plan → List ℕ → Reply → ℕ → List ℕ → Type 0
Offers c counts classes kept cache u v p list a k out = (ties subtypes objects frames : List ℕ)
    → Admitted p c (tables counts classes kept cache ties subtypes objects frames) (length list) u v
    → tries a k out ≡ try_load c list (tables counts classes kept cache ties subtypes objects frames)

-- where the groups g beside the ties u of a newcomer are right

unfoldable pub Grouping : Plan → List ℕ → List ℕ → Type 0
Grouping (Err r) u g = Unit {0}
Grouping (Ok None) u g = Unit {0}
Grouping (Ok (Some n)) u g = Beside u g n.tied

-- a plan that posts no tie
unfoldable pub PostsNone : Plan → List ℕ → Type 0
PostsNone (Err r) counts = Unit {0}
PostsNone (Ok None) counts = Unit {0}
PostsNone (Ok (Some n)) counts = n.tied ≡ get_or counts 3 0

-- as they are once made of ties that lie between loaders
unfoldable pub Made : Plan → List ℕ → List ℕ → Type 0
Made (Err r) u g = Unit {0}
Made (Ok None) u g = Unit {0}
Made (Ok (Some n)) u g = n.tied ≤ 256 → all tie_fits (rows (tie_at u) n.tied 0) ≡ true → Beside u g n.tied

unfoldable pub Ready : List ℕ → List ℕ → List ℕ → List ℕ → Plan → Type 0
Ready counts classes kept cache (Err r) = Unit {0}
Ready counts classes kept cache (Ok None) = Unit {0}
Ready counts classes kept cache (Ok (Some n)) = Sized counts classes kept cache n
