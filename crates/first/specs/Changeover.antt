-- The changeover: when it is accepted the new tables carry the old ones, and every call from there gets the answer that the old store would have given, before the first in
-- which what came later is involved.
use Rattle.std.specs.Prelude.{◌≡◌, Bool, ◌&&◌, ◌||◌, List, [], ◌∷◌, ◌++◌, map, ◌⊎◌, ℕ, zero, suc, ◌<◌, ◌≤◌, length, get_or, take, replicate}
use Rattle.std.proofs.Math.Path.{refl, ap}
use Rattle.std.proofs.Common.{sym, ◌∙◌, subst, inl, inr, arith, get_or-append-add, leb-true}
use Rattle.std.proofs.Math.Bool.{true, false, not}
use Rattle.std.proofs.lemmas.Bool.{false≢true, eqb-false, not-false}
use Rattle.std.proofs.Math.Option.{none, some, none-ne-some, some-injective}
use Rattle.std.proofs.lemmas.List.{length-replicate, get_or-replicate}
use Rattle.std.proofs.Math.ListN.{get_or-append}
use Rattle.std.proofs.Math.Seq.{take-append_seam}
use Rattle.definition.specs.declared.Reply.{Reply}
use Rattle.definition.specs.declared.Reply.TheVariants.{Accepted, Denied}
use Rattle.definition.specs.declared.Refusal.TheVariants.{Word}
use Rattle.definition.specs.Numbers.{word_broken, word_share, word_late, object_limit, owners_cell, tie_limit, subtype_limit, count_ties, count_subtypes, count_objects, loads_cell}
use Rattle.definition.specs.Lists.{any, stack}
use Rattle.definition.specs.Answers.{number_of, ends_in, details}
use Rattle.definition.specs.Groups.{groups_of}
use Rattle.definition.specs.Machine.{Object, owned, Objects, made_by}
use Rattle.definition.specs.Tables.{Tables, shaped, tie_at, subtype_at, kept_of, class_rows_of, RowNumbers, row_numbers, owner_at, view_base, objects_of, Rows, rows_of, view, view_over}
use Rattle.definition.specs.Broken.{broken, groups_in}
use Rattle.definition.specs.Calls.{numbers_from, row_define, row_record, row_start, row_drop, row_sweep, row_try, row_take_back, Call, call_boot, call_rows, call_step, call_run, call_take_back, turn, turn_of, Done, done, perform}
use Rattle.definition.specs.Changeover.{with_counts, ties_first, groups_first, carry, changeover, first_row_call_of, first_call_of, brings_later, involved, AnswersAsBefore}
use Rattle.definition.specs.First.Tables.{FirstTables, FirstRows, first_view_over, first_view}
use Rattle.definition.specs.First.Broken.{first_broken, first_within, first_whole}
use Rattle.definition.specs.First.Calls.{FirstReply, first_row_define, first_row_record, first_row_start, first_row_drop, FirstCall, first_call_boot, first_call_rows, first_call_step, first_call_run, first_perform}
use Rattle.layout.specs.Places.{rows-length}
use Rattle.layout.specs.Tests.{All, every_true}
use Rattle.unbroken.specs.Groups.{groups-right}
use Rattle.unbroken.specs.Share.{refused-share}
use Rattle.unbroken.specs.TakenBack.{taken-late}
use Rattle.unbroken.specs.Unbroken.{kept-unbroken}
use Rattle.first.specs.SameObjects.{SameObjects, no_objects, same_object}
use Rattle.first.specs.SameBases.{later_row}
use Rattle.first.specs.SameRows.{plain, SameRows}
use Rattle.first.specs.Carries.{Carries, EarlyTables, carrying, keeps_later, keeps-none, unbroken-keeps-none, eight-counts, tie-numbers, subtype-numbers, no-loads, none_made, same-broken, same_store}
use Rattle.first.specs.SameCalls.{Unhidden}
use Rattle.first.specs.KeepsNone.{keeps-early}
use Rattle.first.specs.Same.{today, CallBringsNone, Alike, Told, same-call}

any_none : {A : Type 0} (f : A → Bool) (xs : List A) → All (λ x. f x ≡ false) xs → any f xs ≡ false
unfolding any
any_none f [] h = refl
any_none f (x ∷ xs) h = rw (h.0, any) (any_none f xs h.1)

-- How the old store is judged: by today's 'broken' of the tables that would be filled, and by the versions of the files that it keeps

pub broken-judged : (u : FirstTables) → first_broken u ≡ (elim (broken (carry u)) as (λ _. Bool) [ true ↦ true | false ↦ keeps_later u ])
unfolding keeps_later
broken-judged u = go (keeps_later u) refl (first_broken u) refl
  where
    go : (k : Bool) → keeps_later u ≡ k → (b : Bool) → first_broken u ≡ b → b ≡ (elim (broken (carry u)) as (λ _. Bool) [ true ↦ true | false ↦ k ])
    go false e b f = rw (sym (same-broken u (carry u) (carrying u) (keeps-none u e)) ∙ f) (both b)
      where
        both : (b : Bool) → b ≡ (elim b as (λ _. Bool) [ true ↦ true | false ↦ false ])
        both true = refl
        both false = refl
    go true e true f = ever (broken (carry u))
      where
        ever : (b : Bool) → true ≡ (elim b as (λ _. Bool) [ true ↦ true | false ↦ true ])
        ever true = refl
        ever false = refl
    go true e false f = absurd (none_kept (unbroken-keeps-none u f) e)
      where
        none_kept : EarlyTables u → keeps_later u ≡ true → ⊥
        none_kept x e = absurd (false≢true (sym (any_none (later_row (kept_of u)) (class_rows_of u) x) ∙ e))

-- What the changeover answers and leaves

-- what it leaves where its test passes, and where it doesn't
abbrev leaves : FirstTables → Tables → Bool → Done Reply
leaves u t b = elim b as (λ _. Done Reply) [ true ↦ done Accepted (carry u) | false ↦ done (Denied (Word word_broken)) t ]

module _ (u : FirstTables) (t : Tables) where
  -- accepted: the new lengths are right, the old store isn't broken, and the new tables are filled, whatever they held
  pub record Filled : Type 0 where
    pub lengths : shaped t ≡ true
    pub sound : first_broken u ≡ false
    pub left : (changeover u t).tables ≡ carry u

  -- refused: a new table has a wrong length or the old store is broken, the answer is 1, and the new tables are as they were
  pub record Refused : Type 0 where
    pub why : (shaped t ≡ false) ⊎ (first_broken u ≡ true)
    pub answers : (changeover u t).answer ≡ Denied (Word word_broken)
    pub left : (changeover u t).tables ≡ t

  both : (a b : Bool) → (a && not b) ≡ true → (a ≡ true) × (b ≡ false)
  both true true h = absurd (false≢true h)
  both true false h = (refl, refl)
  both false b h = absurd (false≢true h)

  one : (a b : Bool) → (a && not b) ≡ false → (a ≡ false) ⊎ (b ≡ true)
  one true true h = inr refl
  one true false h = absurd (false≢true (sym h))
  one false b h = inl refl

  apart : Denied (Word word_broken) ≡ Accepted → ⊥
  apart h = let z : ◌≡◌ {A = ℕ} 0 1 = cc in omega arith

  pub changeover-filled : (changeover u t).answer ≡ Accepted → Filled
  unfolding changeover
  changeover-filled = go (shaped t && not (first_broken u)) refl
    where
      go : (b : Bool) → (shaped t && not (first_broken u)) ≡ b → (leaves u t b).answer ≡ Accepted → Filled
      go true e h = let r = both (shaped t) (first_broken u) e in record { lengths = r.0; sound = r.1; left = unfold changeover in ap (λ (b : Bool). (leaves u t b).tables) e }
      go false e h = absurd (apart h)

  -- the other way
  pub filled-changeover : shaped t ≡ true → first_broken u ≡ false → (changeover u t).answer ≡ Accepted
  unfolding changeover
  filled-changeover s b = λ i. (leaves u t (s i && not (b i))).answer

  pub changeover-refused : ((changeover u t).answer ≡ Accepted → ⊥) → Refused
  unfolding changeover
  changeover-refused = go (shaped t && not (first_broken u)) refl
    where
      go : (b : Bool) → (shaped t && not (first_broken u)) ≡ b → ((leaves u t b).answer ≡ Accepted → ⊥) → Refused
      go true e h = absurd (h refl)
      go false e h = record { why = one (shaped t) (first_broken u) e; answers = unfold changeover in ap (λ (b : Bool). (leaves u t b).answer) e; left = unfold changeover in ap (λ (b : Bool). (leaves u t b).tables) e }

  -- the other way: either is enough
  pub refused-changeover : (shaped t ≡ false) ⊎ (first_broken u ≡ true) → Refused
  refused-changeover w = changeover-refused (λ h. let f = changeover-filled h in elim w [ inl a ↦ false≢true (sym a ∙ f.lengths) | inr a ↦ false≢true (sym f.sound ∙ a) ])

-- every row is carried as it is, and what is filled isn't broken
pub carried-whole : (u : FirstTables) → first_broken u ≡ false → (broken (carry u) ≡ false) × SameRows (first_view u) (view (carry u))
carried-whole u h = let x = unbroken-keeps-none u h in ((carrying u).unbroken h, (same_store u (carry u) (carrying u).fronts x h).rows)

abbrev quotes : List ℕ
quotes = replicate object_limit 1

all-quotes : length quotes ≡ object_limit
all-quotes = length-replicate {A = ℕ} object_limit 1

-- an old store that isn't broken has eight counts, of ties, of subtype constraints and of objects at most 256
pub record Within (u : FirstTables) : Type 0 where
  pub eight : length u.counts ≡ owners_cell
  pub few : get_or u.counts count_ties 0 ≤ tie_limit
  pub less : get_or u.counts count_subtypes 0 ≤ subtype_limit
  pub room : get_or u.counts count_objects 0 ≤ object_limit

pub unbroken-within : (u : FirstTables) → first_broken u ≡ false → Within u
unfolding first_broken first_whole first_within
unbroken-within u h =
    let p = every_true _ (not-false _ h) in
    let w = every_true _ p.1.0 in
    record { eight = eight-counts u (carry u) (carrying u).fronts p.0; few = leb-true _ _ w.1.1.1.0; less = leb-true _ _ w.1.1.1.1.0; room = leb-true _ _ w.1.1.1.1.1.0 }

count-carried : (u : FirstTables) → first_broken u ≡ false → (j : ℕ) → j < owners_cell → get_or (carry u).counts j 0 ≡ get_or u.counts j 0
count-carried u h j l = get_or-append u.counts (quotes ++ ties_first (get_or u.counts count_ties 0) (groups_first u)) 0 j (omega (arith, (unbroken-within u h).eight))

-- carried ties are numbered first, then carried subtype constraints, each in old order
pub carried-numbers : (u : FirstTables) → first_broken u ≡ false
    → (view (carry u)).numbers ≡ row_numbers (numbers_from 0 (get_or u.counts count_ties 0)) (numbers_from (get_or u.counts count_ties 0) (get_or u.counts count_subtypes 0))
unfolding view view_over
carried-numbers u h =
    let w = unbroken-within u h in
    rw (
      count-carried u h count_ties (omega arith),
      count-carried u h count_subtypes (omega arith),
      tie-numbers u.counts quotes (get_or u.counts count_ties 0) (get_or u.counts count_subtypes 0) (groups_first u) w.eight all-quotes w.few w.less,
      subtype-numbers u.counts quotes (get_or u.counts count_ties 0) (get_or u.counts count_subtypes 0) (groups_first u) w.eight all-quotes w.few w.less,
    )

-- carried objects count as the quote's: no row is free, and every owner is task 0
pub carried-owners : (u : FirstTables) → first_broken u ≡ false → (o : ℕ) → o < object_limit → owner_at (carry u).counts o ≡ 1
unfolding owner_at
carried-owners u h o l =
    let w = unbroken-within u h in
    let g = ties_first (get_or u.counts count_ties 0) (groups_first u) in
    (rw w.eight at (get_or-append-add u.counts (quotes ++ g) o 0))
    ∙ (get_or-append quotes g 0 o (omega (arith, all-quotes)) ∙ get_or-replicate object_limit o 1 0 l)

-- so none is the report's, and no call on a carried store is told of its share
pub carried-fresh : (u : FirstTables) → first_broken u ≡ false → made_by 1 (view (carry u)).objects ≡ 0
unfolding view view_over objects_of
carried-fresh u h =
    none_made (view_base (carry u)) (carry u).counts u.objects (get_or (carry u).counts count_objects 0) 0
    (λ m _ l. carried-owners u h m (omega (arith, l, count-carried u h count_objects (omega arith), (unbroken-within u h).room)))

pub fresh-share : (u : FirstTables) → first_broken u ≡ false → (c : Call) → number_of (perform c (carry u)).answer ≡ word_share → ⊥
fresh-share u h c s = omega (arith, (refused-share c (carry u) s).1, carried-fresh u h)

-- the trace is empty: no load can be taken back yet
pub carried-trace : (u : FirstTables) → first_broken u ≡ false → (view (carry u)).trace ≡ []
unfolding view view_over stack
carried-trace u h =
    let w = unbroken-within u h in
    let n : ℕ = get_or u.counts count_ties 0 in
    let none : get_or (carry u).counts loads_cell 0 ≡ 0 = no-loads u.counts quotes n (get_or u.counts count_subtypes 0) (groups_first u) w.eight all-quotes w.few w.less in
    rw none refl

pub carried-late : (u : FirstTables) (t : Tables) → (changeover u t).answer ≡ Accepted → perform call_take_back (changeover u t).tables ≡ done (Denied (Word word_late)) (changeover u t).tables
carried-late u t h = let f = changeover-filled u t h in rw f.left (taken-late (carry u) (carried-whole u f.sound).0 (carried-trace u f.sound))

-- in one equation: every row as it was, every object the quote's, ties numbered first, no load that can be taken back
abbrev pub carried_rows : FirstRows → Rows
carried_rows r =
    rows_of r.classes r.kept r.cache r.ties r.subtypes (map (owned 0) r.objects) r.quote r.report
    (row_numbers (numbers_from 0 (length r.ties)) (numbers_from (length r.ties) (length r.subtypes))) []

all-quoted : (os : List Object) (qs : Objects) → SameObjects os qs → made_by 1 qs ≡ 0 → qs ≡ map (owned 0) os
unfolding made_by
all-quoted os qs no_objects e = refl
all-quoted os qs (same_object {k} {x} {os = os'} {qs = qs'} l h) e = go k l e (λ z. all-quoted os' qs' h z)
  where
    go : (k : ℕ) → k < 2 → made_by 1 (owned k x ∷ qs') ≡ 0 → (made_by 1 qs' ≡ 0 → qs' ≡ map (owned 0) os') → (owned k x ∷ qs') ≡ map (owned 0) (x ∷ os')
    go zero l e more = λ i. owned 0 x ∷ more e i
    go (suc zero) l e more = absurd (omega (arith, e))
    go (suc (suc k)) l e more = absurd (omega (arith, l))

pub carried-rows : (u : FirstTables) → first_broken u ≡ false → view (carry u) ≡ carried_rows (first_view u)
unfolding first_view first_view_over
carried-rows u h =
    let s = (carried-whole u h).1 in
    let o = all-quoted (first_view u).objects (view (carry u)).objects s.objects (carried-fresh u h) in
    let ties : length (first_view u).ties ≡ get_or u.counts count_ties 0 = rows-length (tie_at u.ties) (get_or u.counts count_ties 0) 0 in
    let subtypes : length (first_view u).subtypes ≡ get_or u.counts count_subtypes 0 = rows-length (subtype_at u.subtypes) (get_or u.counts count_subtypes 0) 0 in
    let n = carried-numbers u h ∙ (λ i. row_numbers (numbers_from 0 (sym ties i)) (numbers_from (sym ties i) (sym subtypes i))) in
    let f : plain (first_view u).objects (view (carry u)) ≡ first_view u = sym s.rest in
    λ i. rows_of (f i).classes (f i).kept (f i).cache (f i).ties (f i).subtypes (o i) (f i).quote (f i).report (n i) (carried-trace u h i)

-- the groups are those of the ties so numbered
pub carried-grouped : (u : FirstTables) → first_broken u ≡ false → groups_in (carry u) ≡ groups_of (view (carry u)).ties (numbers_from 0 (get_or u.counts count_ties 0))
carried-grouped u h = groups-right (carry u) (carried-whole u h).0 ∙ ap (λ (n : RowNumbers). groups_of (view (carry u)).ties n.ties) (carried-numbers u h)

-- Answers

today-of : (c : Call) (b : FirstCall) → first_call_of c ≡ some b → today b ≡ c
unfolding first_call_of first_row_call_of
today-of call_boot b e = ap today (sym (some-injective _ _ e))
today-of (call_rows (row_define l bs)) b e = ap today (sym (some-injective _ _ e))
today-of (call_rows (row_record l n c)) b e = ap today (sym (some-injective _ _ e))
today-of (call_rows (row_start k l n m v)) b e = ap today (sym (some-injective _ _ e))
today-of (call_rows (row_drop k)) b e = ap today (sym (some-injective _ _ e))
today-of (call_rows row_sweep) b e = absurd (none-ne-some b e)
today-of (call_rows (row_try c n)) b e = absurd (none-ne-some b e)
today-of (call_rows row_take_back) b e = absurd (none-ne-some b e)
today-of call_step b e = ap today (sym (some-injective _ _ e))
today-of (call_run n) b e = ap today (sym (some-injective _ _ e))

brings-none : (b : FirstCall) → brings_later b ≡ false → CallBringsNone b
unfolding brings_later
brings-none first_call_boot h = tt
brings-none (first_call_rows (first_row_define l bs)) h = h
brings-none (first_call_rows (first_row_record l n c)) h = tt
brings-none (first_call_rows (first_row_start k l n m v)) h = tt
brings-none (first_call_rows (first_row_drop k)) h = tt
brings-none first_call_step h = tt
brings-none (first_call_run n) h = tt

neither : (a b : Bool) → (a || b) ≡ false → (a ≡ false) × (b ≡ false)
neither true b h = absurd (false≢true (sym h))
neither false b h = (refl, h)

untold : (b : FirstCall) (y : Reply) → (number_of y ≡ word_share → ⊥) → (ends_in y ≡ word_share → ⊥) → Told b y → ⊥
untold first_call_boot y h k s = s
untold (first_call_rows c) y h k s = h s
untold first_call_step y h k s = h s
untold (first_call_run n) y h k s = k s

-- nothing of it is involved
record Plain (b : FirstCall) (x : FirstReply) (y : Reply) : Type 0 where
  brings : CallBringsNone b
  hides : Unhidden x
  shares : Told b y → ⊥

not-involved : (b : FirstCall) (x : FirstReply) (y : Reply) → involved b x y ≡ false → Plain b x y
unfolding involved
not-involved b x y h =
    let p = neither _ _ h in
    let q = neither _ _ p.1 in
    let r = neither _ _ q.1 in
    record { brings = brings-none b p.0; hides = eqb-false _ _ q.0; shares = untold b y (eqb-false _ _ r.0) (eqb-false _ _ r.1) }

same-plain : (u : FirstTables) (t : Tables) → Carries u t → EarlyTables u → (b : FirstCall) → Plain b (first_perform b u).answer (perform (today b) t).answer
    → Alike (first_perform b u) (perform (today b) t)
same-plain u t h x b p = elim (same-call u t h x b p.brings p.hides) [ inl a ↦ a | inr s ↦ absurd (p.shares s) ]

-- from any tables that carry old ones which keep no later file
pub answers-from : (cs : List Call) (u : FirstTables) (t : Tables) → Carries u t → EarlyTables u → AnswersAsBefore cs u t
answers-from [] u t h x = tt
answers-from (c ∷ cs) u t h x = λ b e. subst (λ (z : Call). involved b (first_perform b u).answer (perform z t).answer ≡ false
    → ((perform z t).answer ≡ (first_perform b u).answer) × AnswersAsBefore cs (first_perform b u).tables (perform z t).tables) (today-of c b e)
    (λ n. let a = same-plain u t h x b (not-involved b _ _ n) in (sym a.answer, answers-from cs (first_perform b u).tables (perform (today b) t).tables a.tables (keeps-early b u x)))

-- from a changeover that is accepted any list of calls gets the answers that the old store would have given, before the first call in which what came later is involved
pub answers-as-before : (u : FirstTables) (t : Tables) → (changeover u t).answer ≡ Accepted → (cs : List Call) → AnswersAsBefore cs u (changeover u t).tables
answers-as-before u t h cs =
    let f = changeover-filled u t h in
    rw f.left (answers-from cs u (carry u) (carrying u) (unbroken-keeps-none u f.sound))

-- The stores go on together too: before the first such call, what today's tables hold but for the cells behind the eight counts is what the old store would hold, cell for cell

abbrev pub front_of : Tables → FirstTables
front_of t = with_counts (take owners_cell t.counts) t

abbrev pub StoresAsBefore : List Call → FirstTables → Tables → Type 0
StoresAsBefore [] u t = front_of t ≡ u
StoresAsBefore (c ∷ cs) u t = (front_of t ≡ u) × ((b : FirstCall) → first_call_of c ≡ some b → involved b (first_perform b u).answer (perform c t).answer ≡ false
    → StoresAsBefore cs (first_perform b u).tables (perform c t).tables)

front_same : (u : FirstTables) (t : Tables) → Carries u t → EarlyTables u → broken t ≡ false → front_of t ≡ u
front_same u t h x b =
    let f = h.fronts in
    let e : length u.counts ≡ owners_cell = (same_store u t f x (same-broken u t h x ∙ b)).eight in
    let q : take owners_cell t.counts ≡ u.counts = ap (λ (z : List ℕ). take owners_cell z) f.counts ∙ (rw e at (take-append_seam u.counts f.behind)) in
    (λ i. with_counts (q i) t) ∙ sym f.rest

stores-from : (cs : List Call) (u : FirstTables) (t : Tables) → Carries u t → EarlyTables u → broken t ≡ false → StoresAsBefore cs u t
stores-from [] u t h x k = front_same u t h x k
stores-from (c ∷ cs) u t h x k = (
  front_same u t h x k,
  λ b e. subst (λ (z : Call). involved b (first_perform b u).answer (perform z t).answer ≡ false → StoresAsBefore cs (first_perform b u).tables (perform z t).tables) (today-of c b e)
      (λ n. let a = same-plain u t h x b (not-involved b _ _ n) in stores-from cs (first_perform b u).tables (perform (today b) t).tables a.tables (keeps-early b u x) (kept-unbroken (today b) t k)),
)

pub stores-as-before : (u : FirstTables) (t : Tables) → (changeover u t).answer ≡ Accepted → (cs : List Call) → StoresAsBefore cs u (changeover u t).tables
stores-as-before u t h cs =
    let f = changeover-filled u t h in
    rw f.left (stores-from cs u (carry u) (carrying u) (unbroken-keeps-none u f.sound) (carried-whole u f.sound).0)

-- So does the line that a host or a script gets, the number and the details: where a step wants a class they name the task whose turn it is

abbrev pub LinesAsBefore : List Call → FirstTables → Tables → Type 0
LinesAsBefore [] u t = Unit {0}
LinesAsBefore (c ∷ cs) u t = (b : FirstCall) → first_call_of c ≡ some b → involved b (first_perform b u).answer (perform c t).answer ≡ false
    → (details (turn (view t)) (perform c t).answer ≡ details (turn_of (first_view u).quote) (first_perform b u).answer)
    × LinesAsBefore cs (first_perform b u).tables (perform c t).tables

turn-same : (u : FirstTables) (t : Tables) → Carries u t → EarlyTables u → broken t ≡ false → turn (view t) ≡ turn_of (first_view u).quote
unfolding turn
turn-same u t h x k = ap (λ (r : FirstRows). turn_of r.quote) (sym (same_store u t h.fronts x (same-broken u t h x ∙ k)).rows.rest)

lines_from : (cs : List Call) (u : FirstTables) (t : Tables) → Carries u t → EarlyTables u → broken t ≡ false → LinesAsBefore cs u t
lines_from [] u t h x k = tt
lines_from (c ∷ cs) u t h x k = λ b e. subst (λ (z : Call). involved b (first_perform b u).answer (perform z t).answer ≡ false
    → (details (turn (view t)) (perform z t).answer ≡ details (turn_of (first_view u).quote) (first_perform b u).answer) × LinesAsBefore cs (first_perform b u).tables (perform z t).tables) (today-of c b e)
    (λ n. let a = same-plain u t h x b (not-involved b _ _ n) in
    (λ i. details (turn-same u t h x k i) (sym a.answer i), lines_from cs (first_perform b u).tables (perform (today b) t).tables a.tables (keeps-early b u x) (kept-unbroken (today b) t k)))

pub lines-as-before : (u : FirstTables) (t : Tables) → (changeover u t).answer ≡ Accepted → (cs : List Call) → LinesAsBefore cs u (changeover u t).tables
lines-as-before u t h cs =
    let f = changeover-filled u t h in
    rw f.left (lines_from cs u (carry u) (carrying u) (unbroken-keeps-none u f.sound) (carried-whole u f.sound).0)
