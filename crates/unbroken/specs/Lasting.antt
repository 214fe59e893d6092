-- What lasts: no call but a boot and a taking back changes a cache entry, a class's row or a kept byte (`loads-last`); no call but a boot and a sweep ends an object or gives it
-- another class (`objects-last`), and a sweep ends none that is reached (`reached-last`).
use Rattle.std.specs.Prelude.{◌≡◌, List, [], ◌∷◌, ◌++◌, ℕ}
use Rattle.std.proofs.Common.{sym, subst}
use Rattle.std.proofs.Math.Option.{some}
use Rattle.std.proofs.Math.ListN.{get_elem?}
use Rattle.definition.specs.Requests.{Request}
use Rattle.definition.specs.Classes.{find}
use Rattle.definition.specs.Machine.{Object, existing}
use Rattle.definition.specs.Sweeping.{Reached}
use Rattle.definition.specs.Tables.{Tables, Rows, ClassRow, view}
use Rattle.definition.specs.Calls.{turn, step_tables, RowCall, row_define, row_record, row_start, row_drop, row_sweep, row_try, row_take_back, Call, call_boot, call_rows, call_sweep, call_take_back, call_step, call_run, perform, perform_all}
use Rattle.laws.specs.Agreement.{find-more, nth-more}
use Rattle.laws.specs.Objects.{Numbered, numbered-same, numbered-join}
use Rattle.laws.specs.Runs.{run-keeps}
use Rattle.layout.specs.Tests.{All}
use Rattle.unbroken.specs.Parts.{Appends, Goes, LeftBy, call-leaves, step-leaves}

-- the later rows have every cache entry, class row and kept byte of the earlier
pub record Lasts (r s : Rows) : Type 0 where
  pub cache : (q : Request) (c : ℕ) → find r.cache q ≡ some c → find s.cache q ≡ some c
  pub classes : (c : ℕ) (k : ClassRow) → get_elem? r.classes c ≡ some k → get_elem? s.classes c ≡ some k
  pub kept : (i b : ℕ) → get_elem? r.kept i ≡ some b → get_elem? s.kept i ≡ some b

lasts-same : (r : Rows) → Lasts r r
lasts-same r = record { cache = λ q c h. h; classes = λ c k h. h; kept = λ i b h. h }

lasts-join : {r s t : Rows} → Lasts r s → Lasts s t → Lasts r t
lasts-join a b = record {
  cache = λ q c h. b.cache q c (a.cache q c h);
  classes = λ c k h. b.classes c k (a.classes c k h);
  kept = λ i x h. b.kept i x (a.kept i x h);
}

lasts-appends : (r s : Rows) → Appends r s → Lasts r s
lasts-appends r s a = record {
  cache = λ q c h. rw a.cache.is (find-more r.cache a.cache.new q c h);
  classes = λ c k h. rw a.classes.is (nth-more r.classes a.classes.new c k h);
  kept = λ i b h. rw a.kept.is (nth-more r.kept a.kept.new i b h);
}

lasts-goes : (k : ℕ) (r s : Rows) → Goes k r s → Lasts r s
lasts-goes k r s g = record { cache = λ q c h. rw g.cache h; classes = λ c k h. rw g.classes h; kept = λ i b h. rw g.kept h }

one-lasts : (t : Tables) → Lasts (view t) (view (step_tables t).tables)
one-lasts t = lasts-goes (turn (view t)) (view t) _ (step-leaves t)

-- the calls on rows that take a load back
abbrev pub UnloadsRows : RowCall → Type 0
UnloadsRows (row_define l bs) = ⊥
UnloadsRows (row_record l n c) = ⊥
UnloadsRows (row_start k l n m v) = ⊥
UnloadsRows (row_drop k) = ⊥
UnloadsRows row_sweep = ⊥
UnloadsRows (row_try c n) = ⊥
UnloadsRows row_take_back = Unit {0}

pub lasts-left : (c : RowCall) → (UnloadsRows c → ⊥) → (r s : Rows) → LeftBy c r s → Lasts r s
lasts-left (row_define l bs) i r s a = lasts-appends r s a
lasts-left (row_record l n c) i r s a = lasts-appends r s a
lasts-left (row_start k l n m v) i r s g = lasts-goes k r s g
lasts-left (row_drop k) i r s g = lasts-goes k r s g
lasts-left row_sweep i r s g = record { cache = λ q c h. rw g.cache h; classes = λ c k h. rw g.classes h; kept = λ i b h. rw g.kept h }
lasts-left (row_try c n) i r s e = subst (Lasts r) (sym e) (lasts-same r)
lasts-left row_take_back i r s a = absurd (i tt)

-- the calls on rows that may free an object
abbrev pub FreesRows : RowCall → Type 0
FreesRows (row_define l bs) = ⊥
FreesRows (row_record l n c) = ⊥
FreesRows (row_start k l n m v) = ⊥
FreesRows (row_drop k) = ⊥
FreesRows row_sweep = Unit {0}
FreesRows (row_try c n) = ⊥
FreesRows row_take_back = ⊥

numbered-left : (c : RowCall) → (FreesRows c → ⊥) → (r s : Rows) → LeftBy c r s → Numbered r.objects s.objects
numbered-left (row_define l bs) h r s a = rw a.objects (numbered-same r.objects)
numbered-left (row_record l n c) h r s a = rw a.objects (numbered-same r.objects)
numbered-left (row_start k l n m v) h r s g = g.objects
numbered-left (row_drop k) h r s g = g.objects
numbered-left row_sweep h r s g = absurd (h tt)
numbered-left (row_try c n) h r s e = rw e (numbered-same r.objects)
numbered-left row_take_back h r s a = rw (sym a.objects) (numbered-same r.objects)

abbrev pub IsBoot : Call → Type 0
IsBoot call_boot = Unit {0}
IsBoot (call_rows c) = ⊥
IsBoot call_step = ⊥
IsBoot (call_run n) = ⊥

-- the calls that may take a load back, and those that may free an object
abbrev pub Unloads : Call → Type 0
Unloads call_boot = Unit {0}
Unloads (call_rows c) = UnloadsRows c
Unloads call_step = ⊥
Unloads (call_run n) = ⊥

abbrev pub Frees : Call → Type 0
Frees call_boot = Unit {0}
Frees (call_rows c) = FreesRows c
Frees call_step = ⊥
Frees (call_run n) = ⊥

-- a taking back changes none of those that it leaves
pub taken-lasts : (t : Tables) → Lasts (view (perform call_take_back t).tables) (view t)
taken-lasts t = lasts-appends (view (perform call_take_back t).tables) (view t) (call-leaves row_take_back t)

-- the cache never changes an entry, and accepted files are kept
pub loads-last : (c : Call) → (Unloads c → ⊥) → (t : Tables) → Lasts (view t) (view (perform c t).tables)
loads-last call_boot h t = absurd (h tt)
loads-last (call_rows c) h t = lasts-left c h (view t) _ (call-leaves c t)
loads-last call_step h t = unfold perform in one-lasts t
loads-last (call_run n) h t = unfold perform in run-keeps (λ s. Lasts (view t) (view s)) (λ s l. lasts-join l (one-lasts s)) n t (lasts-same (view t))

pub loads-last-all : (cs : List Call) → All (λ c. Unloads c → ⊥) cs → (t : Tables) → Lasts (view t) (view (perform_all cs t).tables)
unfolding perform_all
loads-last-all [] h t = lasts-same (view t)
loads-last-all (c ∷ cs) h t = lasts-join (loads-last c h.0 t) (loads-last-all cs h.1 (perform c t).tables)

-- an object is neither freed nor given another class
pub objects-last : (c : Call) → (Frees c → ⊥) → (t : Tables) → Numbered (view t).objects (view (perform c t).tables).objects
objects-last call_boot h t = absurd (h tt)
objects-last (call_rows c) h t = numbered-left c h (view t) _ (call-leaves c t)
objects-last call_step h t = unfold perform in (step-leaves t).objects
objects-last (call_run n) h t = unfold perform in run-keeps (λ s. Numbered (view t).objects (view s).objects)
    (λ s l. numbered-join (view t).objects (view s).objects (view (step_tables s).tables).objects l (step-leaves s).objects) n t (numbered-same (view t).objects)

-- a sweep ends no object that a frame reaches: it stays as it is, number, class and every field
pub reached-last : (t : Tables) (o : ℕ) (x : Object) → existing (view t).objects o ≡ some x → Reached (view t).objects ((view t).quote ++ (view t).report) o
    → existing (view (perform call_sweep t).tables).objects o ≡ some x
reached-last t o x e h = (call-leaves row_sweep t).reached o x e h

pub objects-last-all : (cs : List Call) → All (λ c. Frees c → ⊥) cs → (t : Tables) → Numbered (view t).objects (view (perform_all cs t).tables).objects
unfolding perform_all
objects-last-all [] h t = numbered-same (view t).objects
objects-last-all (c ∷ cs) h t =
    let s : Tables = (perform c t).tables in
    numbered-join (view t).objects (view s).objects (view (perform_all cs s).tables).objects (objects-last c h.0 t) (objects-last-all cs h.1 s)
