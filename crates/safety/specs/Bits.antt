-- With arguments of their widths, an int is 32 bits wherever it stands: demand 3 and the widths of cells in one statement.
use Rattle.std.specs.Prelude.{◌≡◌, refl, false, List, [], ◌∷◌, ◌++◌, map, ℕ, zero, suc, ◌+◌, ◌*◌, ◌<◌, ◌≤◌, get_or, replicate}
use Rattle.std.proofs.Math.Option.{Option, none, some}
use Rattle.std.proofs.Common.{arith}
use Rattle.definition.specs.declared.Reply.TheVariants.{Accepted}
use Rattle.definition.specs.Numbers.{object_limit, tie_limit, subtype_limit, trace_limit, level_cells, count_ties}
use Rattle.definition.specs.Lists.{rows, filled}
use Rattle.definition.specs.Requests.{Request, at}
use Rattle.definition.specs.Constraints.{Tie}
use Rattle.definition.specs.Groups.{group_of, cell_of, groups_of}
use Rattle.definition.specs.Tables.{Tables, ties_of}
use Rattle.definition.specs.Calls.{numbers_from, boot, Call, call_boot, perform, perform_all}
use Rattle.definition.specs.Changeover.{no_trace, ties_first, groups_first, carry, changeover}
use Rattle.definition.specs.First.Tables.{FirstTables}
use Rattle.definition.specs.First.Broken.{first_broken}
use Rattle.definition.specs.First.Calls.{FirstComesFromBoot}
use Rattle.definition.specs.Histories.{after_changeover}
use Rattle.definition.specs.Widths.{EachBelow, Widths, Fitting}
use Rattle.definition.specs.Safety.{Safe}
use Rattle.laws.specs.Groups.{group-lowest}
use Rattle.unbroken.specs.Steps.{all-nth}
use Rattle.layout.specs.Places.{rows_all}
use Rattle.layout.specs.Tests.{All}
use Rattle.widths.specs.Below.{below_both}
use Rattle.widths.specs.Widths.{widths-all}
use Rattle.first.specs.Changeover.{unbroken-within, changeover-filled}
use Rattle.safety.specs.Safety.{safety, safe-from-boot}

pub safe-in-width : (t : Tables) → Widths t → (boot t).answer ≡ Accepted → (cs : List Call) → All Fitting cs
    → Safe (perform_all cs (boot t).tables) × Widths (perform_all cs (boot t).tables).tables
unfolding perform perform_all
safe-in-width t w h cs f = (safety t h cs, widths-all (call_boot ∷ cs) t w (tt, f))

-- Carried stores. Old cells have their widths; owners are 1, numbers and groups below 512, the trace is zeros.

same-small : (w k x : ℕ) → x < w → EachBelow w (replicate k x)
same-small w zero x l = tt
same-small w (suc k) x l = (l, same-small w k x l)

numbers-small : (w k i : ℕ) → i + k ≤ w → EachBelow w (numbers_from i k)
unfolding rows
numbers-small w zero i l = tt
numbers-small w (suc k) i l = (omega (arith, l), numbers-small w k (suc i) (omega (arith, l)))

filled-small : (w k : ℕ) (xs : List ℕ) → 0 < w → EachBelow w xs → EachBelow w (filled k 0 xs)
unfolding filled
filled-small w zero xs l h = tt
filled-small w (suc k) [] l h = (l, filled-small w k [] l tt)
filled-small w (suc k) (x ∷ xs) l h = (h.0, filled-small w k xs l h.1)

-- a group's number is that of a tie
groups-small : (w n : ℕ) (ts : List Tie) → 0 < w → n ≤ w → EachBelow w (groups_of ts (numbers_from 0 n))
unfolding groups_of cell_of
groups-small w n ts z l = each ts
  where
    small : (o : Option ℕ) (a : Request) → group_of ts (numbers_from 0 n) a ≡ o → cell_of o < w
    small none a e = z
    small (some g) a e =
        let x = (group-lowest ts (numbers_from 0 n) a g e).row in
        let b : g < n = all-nth (λ i. i < n) (numbers_from 0 n) (rows_all (λ i. i < n) (λ i. i) n 0 (λ m _ k. omega (arith, k))) x.row g x.number in
        omega (arith, b, l)

    each : (us : List Tie) → EachBelow w (map (λ t. cell_of (group_of ts (numbers_from 0 n) (at t.one t.name))) us)
    each [] = tt
    each (u ∷ us) = (small (group_of ts (numbers_from 0 n) (at u.one u.name)) (at u.one u.name) refl, each us)

carried-widths : (u : FirstTables) → first_broken u ≡ false → Widths u → Widths (carry u)
carried-widths u h w =
    let n : ℕ = get_or u.counts count_ties 0 in
    let few : n ≤ 256 = (unbroken-within u h).few in
    let gs : List ℕ = groups_first u in
    let g : EachBelow 65536 gs = filled-small 65536 tie_limit (groups_of (ties_of u) (numbers_from 0 n)) (omega arith) (groups-small 65536 n (ties_of u) (omega arith) (omega (arith, few))) in
    let l : EachBelow 65536 (no_trace ++ gs) = below_both 65536 no_trace gs (same-small 65536 (1 + trace_limit * level_cells) 0 (omega arith)) g in
    let s : EachBelow 65536 (numbers_from n subtype_limit ++ (no_trace ++ gs)) = below_both 65536 (numbers_from n subtype_limit) (no_trace ++ gs) (numbers-small 65536 subtype_limit n (omega (arith, few))) l in
    let t : EachBelow 65536 (ties_first n gs) = below_both 65536 (numbers_from 0 tie_limit) (numbers_from n subtype_limit ++ (no_trace ++ gs)) (numbers-small 65536 tie_limit 0 (omega arith)) s in
    record {
      counts = below_both 65536 u.counts (replicate object_limit 1 ++ ties_first n gs) w.counts (below_both 65536 (replicate object_limit 1) (ties_first n gs) (same-small 65536 object_limit 1 (omega arith)) t);
      classes = w.classes;
      kept = w.kept;
      cache = w.cache;
      ties = w.ties;
      subtypes = w.subtypes;
      objects = w.objects;
      frames = w.frames;
    }

-- so too from a changeover of old tables that come from a boot and have their widths, whatever the new ones held
pub carried-in-width : (u : FirstTables) (t : Tables) → FirstComesFromBoot u → Widths u → (changeover u t).answer ≡ Accepted → (cs : List Call) → All Fitting cs
    → Safe (perform_all cs (changeover u t).tables) × Widths (perform_all cs (changeover u t).tables).tables
carried-in-width u t b w h cs f =
    let z = changeover-filled u t h in
    (safe-from-boot (changeover u t).tables (after_changeover u t b h) cs, widths-all cs (changeover u t).tables (rw z.left (carried-widths u z.sound w)) f)
