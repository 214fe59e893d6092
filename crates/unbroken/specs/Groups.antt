-- Groups beside the ties (paper 11), on tables that aren't broken: the cells are those of the ties and their numbers, after every call; two requests that ties name
-- have one number in them exactly if a chain of ties joins them, and it is the lowest row of their group; so agreement on ties can be read from them. A tie that
-- is posted between two groups leaves the lower number in all rows of both, and a load that is taken back leaves the cells that were before it.
use Rattle.std.specs.Prelude.{◌≡◌, refl, true, false, ◌⊎◌, ℕ, zero, suc, ◌≤◌, ◌<◌, length}
use Rattle.std.proofs.Common.{sym, ap, ◌∙◌, subst, inl, inr, arith}
use Rattle.std.proofs.Math.Option.{Option, none, some, some-injective, none-ne-some}
use mathlib.Core.List.{List, [], ◌∷◌, ◌++◌, Memᴰ}
use Rattle.std.proofs.Math.ListN.{get_elem?}
use Rattle.definition.specs.Chains.{Chain, stay}
use Rattle.definition.specs.Requests.{Request}
use Rattle.definition.specs.Classes.{find}
use Rattle.definition.specs.Constraints.{Tie, tie_edges}
use Rattle.definition.specs.Groups.{lesser, group_of, groups_of}
use Rattle.definition.specs.Tables.{Tables, Rows, shaped, ties_of, view_over, view}
use Rattle.definition.specs.Broken.{groups_in, broken}
use Rattle.definition.specs.Calls.{Load, Call, call_rows, call_take_back, perform, perform_all}
use Rattle.laws.specs.Refusals.{load_call}
use Rattle.laws.specs.Groups.{one_of, two_of, Named, GroupNumber, group-lowest, chain-shares, shares-chain, named-grouped, unnamed-alone, unnamed-none, group_in, groups-read}
use Rattle.laws.specs.Joined.{Near, ends-joined, others_keep}
use Rattle.layout.specs.InTurn.{RisesFrom}
use Rattle.layout.specs.GroupedRows.{grouped-is}
use Rattle.layout.specs.Unbroken.{unbroken}
use Rattle.unbroken.specs.Numbers.{RowsNumbered, rows-numbered}
use Rattle.unbroken.specs.Unbroken.{kept-unbroken}
use Rattle.unbroken.specs.TakenBack.{takings, Open, loads_in, load-undone, loads-undone, all-unbroken}

-- Exactly these

pub groups-right : (t : Tables) → broken t ≡ false → groups_in t ≡ groups_of (view t).ties (view t).numbers.ties
unfolding view view_over
groups-right t h = grouped-is t (unbroken t h).groups

-- every call keeps them true
pub groups-kept : (c : Call) (t : Tables) → broken t ≡ false → (let u = (perform c t).tables in groups_in u ≡ groups_of (view u).ties (view u).numbers.ties)
groups-kept c t h = groups-right (perform c t).tables (kept-unbroken c t h)

pub groups-kept-all : (cs : List Call) (t : Tables) → broken t ≡ false → (let u = (perform_all cs t).tables in groups_in u ≡ groups_of (view u).ties (view u).numbers.ties)
groups-kept-all cs t h = groups-right (perform_all cs t).tables (all-unbroken cs t h)

-- the same ties with the same numbers have the same groups
pub same-groups : (t u : Tables) → broken t ≡ false → broken u ≡ false → (view u).ties ≡ (view t).ties → (view u).numbers ≡ (view t).numbers → groups_in u ≡ groups_in t
same-groups t u h g a b = groups-right u g ∙ ((λ i. groups_of (a i) (b i).ties) ∙ sym (groups-right t h))

-- What the cells say of a request: the number in the first row that names it

abbrev pub group_at : Tables → Request → Option ℕ
group_at t a = group_in (view t).ties (groups_in t) a

-- no number stands twice, and they rise

later-higher : (k : ℕ) (ns : List ℕ) → RisesFrom k ns → (i n : ℕ) → get_elem? ns i ≡ some n → k ≤ n
later-higher k [] h i n e = absurd (none-ne-some n e)
later-higher k (x ∷ ns) h zero n e = let z : x ≡ n = some-injective x n e in omega (arith, h.0, z)
later-higher k (x ∷ ns) h (suc i) n e = omega (arith, h.0, later-higher (suc x) ns h.1 i n e)

once-each : (k : ℕ) (ns : List ℕ) → RisesFrom k ns → (i j n : ℕ) → get_elem? ns i ≡ some n → get_elem? ns j ≡ some n → i ≡ j
once-each k [] h i j n e f = absurd (none-ne-some n e)
once-each k (x ∷ ns) h zero zero n e f = refl
once-each k (x ∷ ns) h zero (suc j) n e f = let z : x ≡ n = some-injective x n e in absurd (omega (arith, z, later-higher (suc x) ns h.1 j n f))
once-each k (x ∷ ns) h (suc i) zero n e f = let z : x ≡ n = some-injective x n f in absurd (omega (arith, z, later-higher (suc x) ns h.1 i n e))
once-each k (x ∷ ns) h (suc i) (suc j) n e f = ap suc (once-each (suc x) ns h.1 i j n e f)

last-highest : (k : ℕ) (ns : List ℕ) (m : ℕ) → RisesFrom k (ns ++ (m ∷ [])) → (i n : ℕ) → get_elem? ns i ≡ some n → n < m
last-highest k [] m h i n e = absurd (none-ne-some n e)
last-highest k (x ∷ ns) m h zero n e = let z : x ≡ n = some-injective x n e in omega (arith, z, at-end (suc x) ns h.1)
  where
    at-end : (k : ℕ) (ns : List ℕ) → RisesFrom k (ns ++ (m ∷ [])) → k ≤ m
    at-end k [] h = h.0
    at-end k (x ∷ ns) h = omega (arith, h.0, at-end (suc x) ns h.1)
last-highest k (x ∷ ns) m h (suc i) n e = last-highest (suc x) ns m h.1 i n e

module _ (t : Tables) (h : broken t ≡ false) where
  abbrev the_ties : List Tie
  the_ties = (view t).ties

  abbrev the_numbers : List ℕ
  the_numbers = (view t).numbers.ties

  pub as-long : length the_numbers ≡ length the_ties
  as-long = (rows-numbered t h).ties

  pub once : (i j n : ℕ) → get_elem? the_numbers i ≡ some n → get_elem? the_numbers j ≡ some n → i ≡ j
  once = once-each 0 the_numbers (rows-numbered t h).words.ties

  -- the cells give each request its group
  pub cells-group : (a : Request) → group_at t a ≡ group_of the_ties the_numbers a
  cells-group a = ap (λ (gs : List ℕ). group_in the_ties gs a) (groups-right t h) ∙ groups-read the_ties the_numbers a as-long

  -- a number for every request that a tie names, and for no other
  pub named-numbered : (a : Request) → Named the_ties a → (g : ℕ) × (group_at t a ≡ some g)
  named-numbered a m = let g = named-grouped the_ties the_numbers a as-long m in (g.0, cells-group a ∙ g.1)

  pub unnamed-unnumbered : (a : Request) → (Named the_ties a → ⊥) → group_at t a ≡ none
  unnamed-unnumbered a n = cells-group a ∙ unnamed-none the_ties the_numbers a n

  -- it is the lowest row among its group's ties
  pub groups-lowest : (a : Request) (g : ℕ) → group_at t a ≡ some g → GroupNumber the_ties the_numbers a g
  groups-lowest a g e = group-lowest the_ties the_numbers a g (sym (cells-group a) ∙ e)

  -- two requests share a number if and only if a chain of ties joins them

  shared-tied : (a b : Request) (g : ℕ) → group_at t a ≡ some g → group_at t b ≡ some g → Chain (tie_edges the_ties) a b
  shared-tied a b g e f = shares-chain the_ties the_numbers once a b g (sym (cells-group a) ∙ e) (sym (cells-group b) ∙ f)

  tied-shared : (a b : Request) → Chain (tie_edges the_ties) a b → group_at t a ≡ group_at t b
  tied-shared a b c = cells-group a ∙ (chain-shares the_ties the_numbers a b c ∙ sym (cells-group b))

  pub groups-tied : (a b : Request) → Named the_ties a → Named the_ties b
      → (group_at t a ≡ group_at t b → Chain (tie_edges the_ties) a b) × (Chain (tie_edges the_ties) a b → group_at t a ≡ group_at t b)
  groups-tied a b m n = let g = named-numbered a m in ((λ e. shared-tied a b g.0 g.1 (sym e ∙ g.1)), tied-shared a b)

  -- Agreement on ties is read from it: tied loaded requests mean one class exactly if loaded requests of one number do

  abbrev TiedAgree : Type 0
  TiedAgree = (a b : Request) (c d : ℕ) → find (view t).cache a ≡ some c → find (view t).cache b ≡ some d → Chain (tie_edges the_ties) a b → c ≡ d

  abbrev SharedAgree : Type 0
  SharedAgree = (a b : Request) (c d g : ℕ) → find (view t).cache a ≡ some c → find (view t).cache b ≡ some d → group_at t a ≡ some g → group_at t b ≡ some g → c ≡ d

  pub agreement-read : (TiedAgree → SharedAgree) × (SharedAgree → TiedAgree)
  agreement-read = ((λ f a b c d g p q x y. f a b c d p q (shared-tied a b g x y)), λ f a b c d p q k. by f a b c d p q k (group_at t a) refl)
    where
      by : SharedAgree → (a b : Request) (c d : ℕ) → find (view t).cache a ≡ some c → find (view t).cache b ≡ some d → Chain (tie_edges the_ties) a b → (o : Option ℕ) → group_at t a ≡ o → c ≡ d
      by f a b c d p q k (some g) e = f a b c d g p q e (sym (tied-shared a b k) ∙ e)
      by f a b c d p q k none e =
          let z : a ≡ b = unnamed-alone the_ties a b (λ m. let g = named-numbered a m in none-ne-some g.0 (sym e ∙ g.1)) k in
          some-injective c d (sym p ∙ (ap (find (view t).cache) z ∙ q))

-- Joining: tables u have one tie more than t

module _ (t u : Tables) (h : broken t ≡ false) (b : broken u ≡ false) (w : Tie) (k : ℕ) (ties : (view u).ties ≡ (view t).ties ++ (w ∷ [])) (numbers : (view u).numbers.ties ≡ (view t).numbers.ties ++ (k ∷ [])) where
  joined-cells : (a : Request) → group_at u a ≡ group_of ((view t).ties ++ (w ∷ [])) ((view t).numbers.ties ++ (k ∷ [])) a
  joined-cells a = cells-group u b a ∙ (λ i. group_of (ties i) (numbers i) a)

  -- of two groups that it joins the lower number is left, in all of both
  pub joined-lower : (i j : ℕ) → group_at t (one_of w) ≡ some i → group_at t (two_of w) ≡ some j
      → (a : Request) → (group_at t a ≡ some i) ⊎ (group_at t a ≡ some j) → group_at u a ≡ some (lesser i (some j))
  joined-lower i j e f a g =
      let x = groups-lowest t h (two_of w) j f in
      joined-cells a
      ∙ ends-joined (view t).ties (view t).numbers.ties w k (as-long t h) i j (sym (cells-group t h (one_of w)) ∙ e) (sym (cells-group t h (two_of w)) ∙ f)
      (last-highest 0 (view t).numbers.ties k (subst (RisesFrom 0) numbers (rows-numbered u b).words.ties) x.row.row j x.row.number) a (near g)
    where
      near : (group_at t a ≡ some i) ⊎ (group_at t a ≡ some j) → Near (view t).ties (view t).numbers.ties w k a
      near (inl g) = inl (shared-tied t h a (one_of w) i g e)
      near (inr g) = inr (shared-tied t h a (two_of w) j g f)

  -- and no other request's changes
  pub joined-others : (a : Request) → (group_at t a ≡ group_at t (one_of w) → ⊥) → (group_at t a ≡ group_at t (two_of w) → ⊥) → group_at u a ≡ group_at t a
  joined-others a m n =
      joined-cells a
      ∙ (others_keep (view t).ties (view t).numbers.ties w k (as-long t h) a (λ z. elim z as (λ _. ⊥) [ inl c ↦ m (tied-shared t h a (one_of w) c) | inr c ↦ n (tied-shared t h a (two_of w) c) ])
      ∙ sym (cells-group t h a))

-- Parting: a load that changed the store and is taken back leaves the cells that were before it, of groups too that it joined

pub parted : (c : Load) (t : Tables) → broken t ≡ false → (view (perform (call_rows (load_call c)) t).tables ≡ view t → ⊥)
    → groups_in (perform call_take_back (perform (call_rows (load_call c)) t).tables).tables ≡ groups_in t
parted c t h n =
    let u : Tables = (perform (call_rows (load_call c)) t).tables in
    let d = load-undone c t h n in
    same-groups t (perform call_take_back u).tables h (kept-unbroken call_take_back u (kept-unbroken (call_rows (load_call c)) t h)) (ap (λ (r : Rows). r.ties) d.1) (ap (λ (r : Rows). r.numbers) d.1)

-- the same of so many loads of the last 32, whatever calls that close nothing came between
pub all-parted : (cs : List Call) (t : Tables) → broken t ≡ false → Open cs t → loads_in cs t ≤ 32
    → groups_in (perform_all (takings (loads_in cs t)) (perform_all cs t).tables).tables ≡ groups_in t
all-parted cs t h o few =
    let u : Tables = (perform_all cs t).tables in
    let d = loads-undone cs t h o few in
    same-groups t (perform_all (takings (loads_in cs t)) u).tables h (all-unbroken (takings (loads_in cs t)) u (all-unbroken cs t h)) (ap (λ (r : Rows). r.ties) d.1) (ap (λ (r : Rows). r.numbers) d.1)
