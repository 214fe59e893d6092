-- The search: a group is marked once, and queued once if it is not below `stop`; the links that start at a group are visited one after the
-- other; and once each queued group's links were visited, the marks hold only what is led to and are closed up to groups below `stop`.
use mathlib.Core.Path.{◌≡◌, refl, sym, ap, ◌∙◌}
use mathlib.Core.List.{List, Memᴰ}
use mathlib.Core.Logic.{◌⊎◌, inl, inr}
use Prim.Native.Nat.{ℕ, suc, ◌+◌, ◌-◌, ◌<◌, ◌≤◌}
use native.Mathlib.Nat.{eq-or-lt_of_le}
use native.Mathlib.Omega.{arith}
use lib.ListN.{length, get_or, set, length-set}
use lib.Seq.{get_or-set_same, get_or-set_other}
use Rattle.definition.specs.Chains.{Edge, Chain, stay, hop}
use Rattle.definition.specs.Requests.{Request, at}
use Rattle.laws.specs.Chains.{chain-join}
use Rattle.constraints.specs.Joining.{Last}
use Rattle.constraints.specs.Search.{start_of, link_of, links_of, Led, Link, Marked, Stamped, Queued, Grown, Visited, Expanded, Searched}
use Rattle.constraints.specs.Looking.{Reached}
use Rattle.constraints.specs.Shared.{edge}
use Rattle.constraints.proofs.Rows.{Order, less, equal, more, order, in_rows, rows_in}
use Rattle.constraints.proofs.Edges.{edge_at}
use Rattle.constraints.proofs.Marking.{new-mark, set-mark, keep-mark, stamped-set, stamped-more, marked-le, marked-set}

-- Visiting a group

grown-on : {stamp : ℕ} {m q m' q' m'' q'' : List ℕ} {t t' t'' : ℕ} → Grown stamp m q t m' q' t' → Grown stamp m' q' t' m'' q'' t'' → Grown stamp m q t m'' q'' t''
grown-on a b = record {
  more = omega (arith, a.more, b.more);
  still = λ x m. b.still x (a.still x m);
  place = λ p h. b.place p (omega (arith, a.more)) ∙ a.place p h;
}

pub tail-low : {stop stamp : ℕ} {marks queue : List ℕ} {tail : ℕ} → Queued stop stamp marks queue tail → tail ≤ 1280
tail-low {stop} {stamp} {marks} s = omega (arith, marked-le stamp marks, s.few, s.stamped.long)

module _ (stop stamp x : ℕ) (marks queue : List ℕ) (tail : ℕ) (s : Queued stop stamp marks queue tail) where
  module _ (h : x < 1280) (n : Marked stamp marks x → ⊥) where
    long : x < length marks
    long = omega (arith, s.stamped.long)

    pub visit-low : x < stop → Visited stop stamp x marks queue tail (set marks x stamp) queue tail
    visit-low l = record {
      queued = record {
        stamped = stamped-set stamp x marks long s.stamped;
        queue_long = s.queue_long;
        few = omega (arith, marked-set stamp marks x long n, s.few);
        is_marked = λ p m. keep-mark stamp x marks long (get_or queue p 0) (s.is_marked p m);
        is_queued = λ y c m. one y c (set-mark stamp x marks long y m);
      };
      grown = record { more = omega arith; still = keep-mark stamp x marks long; place = λ p m. refl };
      it = new-mark stamp x marks long;
      only = set-mark stamp x marks long;
    }
      where
        one : (y : ℕ) → stop ≤ y → Marked stamp marks y ⊎ (y ≡ x) → (p : ℕ) × (p < tail) × (get_or queue p 0 ≡ y)
        one y c (inl m) = s.is_queued y c m
        one y c (inr e) = absurd (omega arith)

    pub room : tail < 1280
    room =
        omega (arith, marked-le stamp (set marks x stamp), marked-set stamp marks x long n, length-set marks x stamp, s.stamped.long, s.few)

    queue-at : (p : ℕ) → p < tail → get_or (set queue tail x) p 0 ≡ get_or queue p 0
    queue-at p l = get_or-set_other queue tail p x 0 (λ e. omega arith)

    queue-end : get_or (set queue tail x) tail 0 ≡ x
    queue-end = get_or-set_same queue tail x 0 (omega (arith, room, s.queue_long))

    pub visit-new : Visited stop stamp x marks queue tail (set marks x stamp) (set queue tail x) (tail + 1)
    visit-new = record {
      queued = record {
        stamped = stamped-set stamp x marks long s.stamped;
        queue_long = length-set queue tail x ∙ s.queue_long;
        few = omega (arith, marked-set stamp marks x long n, s.few);
        is_marked = λ p l. one p (eq-or-lt_of_le (below p l));
        is_queued = λ y c m. two y c (set-mark stamp x marks long y m);
      };
      grown = record { more = omega arith; still = keep-mark stamp x marks long; place = queue-at };
      it = new-mark stamp x marks long;
      only = set-mark stamp x marks long;
    }
      where
        below : (p : ℕ) → p < tail + 1 → p ≤ tail
        below p l = omega arith

        one : (p : ℕ) → (p ≡ tail) ⊎ (p < tail) → Marked stamp (set marks x stamp) (get_or (set queue tail x) p 0)
        one p (inl e) = rw (e, queue-end) (new-mark stamp x marks long)
        one p (inr l) = rw (queue-at p l) (keep-mark stamp x marks long (get_or queue p 0) (s.is_marked p l))

        two : (y : ℕ) → stop ≤ y → Marked stamp marks y ⊎ (y ≡ x) → (p : ℕ) × (p < tail + 1) × (get_or (set queue tail x) p 0 ≡ y)
        two y c (inl m) = let r = s.is_queued y c m in (r.0, omega (arith, r.1), queue-at r.0 r.1 ∙ r.2)
        two y c (inr e) = (tail, omega arith, queue-end ∙ sym e)

-- nothing is marked with a new stamp yet
module _ (stamp : ℕ) (marks queue : List ℕ) (new : 0 < stamp) (s : Stamped 1280 (stamp - 1) marks) (long : length queue ≡ 1280) where
  pub none-marked : (x : ℕ) → Marked stamp marks x → ⊥
  none-marked x m = omega (arith, s.most x)

-- Visiting the ends of a group's links, the last link first

-- the links from number f on were visited; f is 0, or one more than a link that starts at x
pub record Expanding (groups : List ℕ) (stop from to noted stamp x f : ℕ) (marks queue : List ℕ) (tail : ℕ) (marks' queue' : List ℕ) (tail' : ℕ)
    : Type 0 where
  pub high : f ≤ noted
  pub here : (e : ℕ) → f ≡ suc e → start_of groups from e ≡ x
  pub queued : Queued stop stamp marks' queue' tail'
  pub grown : Grown stamp marks queue tail marks' queue' tail'
  pub all : (y : ℕ) (l : Link groups from to noted x y) → f ≤ l.number → Marked stamp marks' y
  pub only : (y : ℕ) → Marked stamp marks' y → Marked stamp marks y ⊎ Link groups from to noted x y

module _ (groups : List ℕ) (stop from to noted stamp x : ℕ) where
  pub expanding-one : {f e g : ℕ} {m q m' q' m'' q'' : List ℕ} {t t' t'' : ℕ} → f ≡ suc e → Last (start_of groups from) (start_of groups from e) e g
      → Expanding groups stop from to noted stamp x f m q t m' q' t' → Visited stop stamp (start_of groups to e) m' q' t' m'' q'' t''
      → Expanding groups stop from to noted stamp x g m q t m'' q'' t''
  expanding-one {f} {e} {g} {m} {q} {m'} {q'} {m''} {q''} i last s v = record {
    high = omega (arith, last.high, s.high);
    here = λ d k. last.here d k ∙ start;
    queued = v.queued;
    grown = grown-on s.grown v.grown;
    all = λ y l h. later y l h (order l.number e);
    only = λ y k. new y (v.only y k);
  }
    where
      start : start_of groups from e ≡ x
      start = s.here e i

      later : (y : ℕ) (l : Link groups from to noted x y) → g ≤ l.number → Order l.number e → Marked stamp m'' y
      later y l h (less p) = absurd (last.none l.number h p (l.start ∙ sym start))
      later y l h (equal p) = rw (sym l.end, p) v.it
      later y l h (more p) = v.grown.still y (s.all y l (omega arith))

      new : (y : ℕ) → Marked stamp m' y ⊎ (y ≡ start_of groups to e) → Marked stamp m y ⊎ Link groups from to noted x y
      new y (inl k) = s.only y k
      new y (inr k) = inr (record { number = e; fits = omega (arith, s.high); start = start; end = sym k })

  pub expanding-all : {f : ℕ} {m q m' q' : List ℕ} {t t' : ℕ} → f ≤ 0 → Expanding groups stop from to noted stamp x f m q t m' q' t'
      → Expanded groups stop from to noted stamp x m q t m' q' t'
  expanding-all h s = record { queued = s.queued; grown = s.grown; all = λ y l. s.all y l (omega arith); only = s.only }

-- Links as edges

module _ (groups : List ℕ) (from to noted : ℕ) where
  link-edge : (x y : ℕ) → Link groups from to noted x y → Memᴰ (edge (at 0 x) (at 0 y)) (links_of groups from to noted)
  unfolding links_of link_of
  link-edge x y l =
      edge_at (ap (λ (z : ℕ). at 0 z) (sym l.start)) (ap (λ (z : ℕ). at 0 z) (sym l.end))
      (in_rows (link_of groups from to) noted 0 l.number (omega arith) (omega (arith, l.fits)))

  -- the links of the other way, turned
  turned-link : (d : Edge Request) → Memᴰ d (links_of groups to from noted) → Memᴰ (edge d.to d.from) (links_of groups from to noted)
  unfolding links_of link_of
  turned-link d m =
      let p = rows_in (link_of groups to from) noted 0 d m in
      edge_at (ap (λ (k : Edge Request). k.to) p.is) (ap (λ (k : Edge Request). k.from) p.is)
      (in_rows (link_of groups from to) noted 0 p.number (omega arith) (omega (arith, p.high)))

  chain_back : {x y : Request} → Chain (links_of groups to from noted) x y → Chain (links_of groups from to noted) y x
  chain_back (stay e) = stay (sym e)
  chain_back (hop c m) = chain-join (hop (stay refl) (turned-link _ m)) (chain_back c)

pub led-back : (groups : List ℕ) (from to noted : ℕ) {a b : ℕ} → Led groups to from noted a b → Led groups from to noted b a
led-back groups from to noted c = chain_back groups from to noted c

-- Searching from a: its links and those of the queue's first `done` groups were visited

pub record Searching (groups : List ℕ) (stop from to noted stamp a done : ℕ) (marks queue : List ℕ) (tail : ℕ) : Type 0 where
  pub high : done ≤ tail
  pub queued : Queued stop stamp marks queue tail
  pub sound : (y : ℕ) → Marked stamp marks y → Led groups from to noted a y
  pub first : (y : ℕ) → Link groups from to noted a y → Marked stamp marks y
  pub closed : (p : ℕ) → p < done → (y : ℕ) → Link groups from to noted (get_or queue p 0) y → Marked stamp marks y

module _ (groups : List ℕ) (stop from to noted stamp a : ℕ) where
  pub searching-start : {m q m' q' : List ℕ} {t t' : ℕ} → ((x : ℕ) → Marked stamp m x → ⊥) → Expanded groups stop from to noted stamp a m q t m' q' t'
      → Searching groups stop from to noted stamp a 0 m' q' t'
  searching-start {m} none v = record {
    high = omega arith;
    queued = v.queued;
    sound = λ y k. new y (v.only y k);
    first = v.all;
    closed = λ p h. absurd (omega arith);
  }
    where
      new : (y : ℕ) → Marked stamp m y ⊎ Link groups from to noted a y → Led groups from to noted a y
      new y (inl k) = absurd (none y k)
      new y (inr l) = hop (stay refl) (link-edge groups from to noted a y l)

  pub searching-one : {d : ℕ} {m q m' q' : List ℕ} {t t' : ℕ} → d < t → Searching groups stop from to noted stamp a d m q t
      → Expanded groups stop from to noted stamp (get_or q d 0) m q t m' q' t' → Searching groups stop from to noted stamp a (d + 1) m' q' t'
  searching-one {d} {m} {q} {m'} {q'} {t} {t'} h s v = record {
    high = omega (arith, v.grown.more);
    queued = v.queued;
    sound = λ y k. new y (v.only y k);
    first = λ y l. v.grown.still y (s.first y l);
    closed = λ p l y k. old p y (eq-or-lt_of_le (low p l)) (rw (v.grown.place p (omega arith)) at k);
  }
    where
      low : (p : ℕ) → p < d + 1 → p ≤ d
      low p l = omega arith

      new : (y : ℕ) → Marked stamp m y ⊎ Link groups from to noted (get_or q d 0) y → Led groups from to noted a y
      new y (inl k) = s.sound y k
      new y (inr l) = hop (s.sound (get_or q d 0) (s.queued.is_marked d h)) (link-edge groups from to noted (get_or q d 0) y l)

      old : (p y : ℕ) → (p ≡ d) ⊎ (p < d) → Link groups from to noted (get_or q p 0) y → Marked stamp m' y
      old p y (inl e) l = v.all y (rw e at l)
      old p y (inr k) l = v.grown.still y (s.closed p k y l)

  pub searched : {d : ℕ} {marks queue : List ℕ} {tail : ℕ} → tail ≤ d → Searching groups stop from to noted stamp a d marks queue tail
      → Searched groups stop from to noted stamp a marks
  searched h s = record {
    stamped = s.queued.stamped;
    sound = s.sound;
    first = s.first;
    closed = λ x y c m l. let r = s.queued.is_queued x c m in s.closed r.0 (omega (arith, r.1)) y (rw (sym r.2) at l);
  }

-- What is led to

module _ (groups : List ℕ) (from to noted : ℕ) where
  -- a link and its ends
  link-in : (x : ℕ) (z : Request) → Memᴰ (edge (at 0 x) z) (links_of groups from to noted) → (y : ℕ) × (z ≡ at 0 y) × Link groups from to noted x y
  unfolding links_of link_of
  link-in x z m =
      let p = rows_in (link_of groups from to) noted 0 (edge (at 0 x) z) m in (
        start_of groups to p.number,
        ap (λ (k : Edge Request). k.to) p.is,
        record {
          number = p.number;
          fits = omega (arith, p.high);
          start = sym (ap (λ (k : Edge Request). k.from.name) p.is);
          end = refl;
        },
      )

  -- what holds of a, and of a link's end if of its start, holds of all that a leads to
  pub led-holds : {a : ℕ} (P : ℕ → Type 0) → P a → ((x y : ℕ) → Link groups from to noted x y → P x → P y) → (b : ℕ) → Led groups from to noted a b → P b
  led-holds {a} P start on b c = let r = go c in let e : b ≡ r.0 = ap (λ (k : Request). k.name) r.1 in rw e r.2
    where
      go : {z : Request} → Chain (links_of groups from to noted) (at 0 a) z → (y : ℕ) × (z ≡ at 0 y) × P y
      go (stay e) = (a, sym e, start)
      go {z} (hop c m) =
          let r = go c in
          let l = link-in r.0 z (rw r.1 at m) in (l.0, l.1, on r.0 l.0 l.2 r.2)

  -- where no link starts, nothing else is led to
  pub led-still : {a b : ℕ} → ((y : ℕ) → Link groups from to noted a y → ⊥) → Led groups from to noted a b → b ≡ a
  led-still {a} {b} none c = led-holds (λ y. y ≡ a) refl (λ x y l e. absurd (none y (rw e at l))) b c

  -- a search that stops nowhere marks all that is led to
  pub reached : {stamp a : ℕ} {marks : List ℕ} → Searched groups 0 from to noted stamp a marks → Reached groups from to noted stamp a marks
  reached {stamp} {a} {marks} s = record { stamped = s.stamped; sound = s.sound; all = led-holds (λ y. (y ≡ a) ⊎ Marked stamp marks y) (inl refl) (λ x y l k. inr (on x y l k)) }
    where
      on : (x y : ℕ) → Link groups from to noted x y → (x ≡ a) ⊎ Marked stamp marks x → Marked stamp marks y
      on x y l (inl e) = s.first y (rw e at l)
      on x y l (inr k) = s.closed x y (omega arith) k l

  pub reached-none : {a : ℕ} {marks : List ℕ} → Stamped 1280 0 marks → ((e : ℕ) → e < noted → start_of groups from e ≡ a → ⊥) → Reached groups from to noted 1 a marks
  reached-none t none = record {
    stamped = stamped-more (omega arith) t;
    sound = λ y m. absurd (omega (arith, t.most y));
    all = λ y c. inl (led-still (λ z l. none l.number l.fits l.start) c);
  }
