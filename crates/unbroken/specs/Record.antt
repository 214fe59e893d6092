-- A record of what is there changes nothing.
use Rattle.std.specs.Prelude.{◌≡◌, refl, false, ℕ, ◌<◌, ◌≤◌}
use Rattle.std.proofs.Common.{sym, ap, ◌∙◌, lt-ltb, le-leb, eq-eqb}
use Rattle.std.proofs.Math.Option.{some}
use Rattle.definition.specs.declared.Reply.{Reply}
use Rattle.definition.specs.declared.Reply.TheVariants.{Accepted, Denied}
use Rattle.definition.specs.Requests.{at}
use Rattle.definition.specs.Answers.{Result, ok, ◌>>=◌, need, take?}
use Rattle.definition.specs.Classes.{find, Class}
use Rattle.definition.specs.Constraints.{World}
use Rattle.definition.specs.Loading.{recorded}
use Rattle.definition.specs.Tables.{Tables, Rows, world_of, view, put}
use Rattle.definition.specs.Calls.{Given, add_entry, record_rows, call_record, perform, Done, carried}
use Rattle.laws.specs.Results.{bind_ok, ok-inj}
use Rattle.laws.specs.Wrapped.{wrapped, wrap-carried}
use Rattle.layout.specs.Unbroken.{unbroken}
use Rattle.layout.specs.View.{put_view}
use Rattle.std.proofs.Math.ListN.{get_elem?}
use Rattle.unbroken.specs.Traces.{entry-there}
use Rattle.definition.specs.Broken.{broken}

-- what is accepted for a cached request leaves classes, cache and constraints as they were
there-same : (l n c d : ℕ) (w v : World) → find w.base.cache (at l n) ≡ some d → recorded l n c w ≡ ok v → v ≡ w
unfolding recorded
there-same l n c d w v h e =
    let a = bind_ok _ _ e in
    let b = bind_ok _ _ a.2 in
    let f = bind_ok _ _ b.2 in
    let g = bind_ok _ _ (rw h at f.2) in
    sym (ok-inj g.2)

pub record-there : (l n c d : ℕ) (t : Tables) → find (view t).cache (at l n) ≡ some d → (perform (call_record l n c) t).tables ≡ t
unfolding perform record_rows
record-there l n c d t h = wrapped Denied (record_rows l n c) t (λ _ z. z ≡ t) (λ _. refl) (λ _ _. refl) (λ b g e.
    let a = bind_ok _ _ e in
    let z : add_entry (view t) a.0 ≡ g.rows = ap (λ (x : Given Reply). x.rows) (ok-inj a.2) in
    ap (λ (r : Rows). put r t) (sym z ∙ (ap (add_entry (view t)) (there-same l n c d (world_of (view t)) a.0 h a.1) ∙ entry-there (view t))) ∙ put_view t (unbroken t b).groups)

-- and it is accepted, where the store isn't broken and the class is there by that name

there-ok : (l n c : ℕ) (k : Class) (w : World) → l < 16 → 2 ≤ n → get_elem? w.base.classes c ≡ some k → k.name ≡ n → find w.base.cache (at l n) ≡ some c → recorded l n c w ≡ ok w
unfolding recorded ◌>>=◌ need take?
there-ok l n c k w a b i e f = rw (lt-ltb l 16 a, le-leb 2 n b) (rw i (rw (eq-eqb k.name n e) (rw f (rw (eq-eqb c c refl) refl))))

pub record-accepted : (l n c : ℕ) (k : Class) (t : Tables) → broken t ≡ false → l < 16 → 2 ≤ n → get_elem? (world_of (view t)).base.classes c ≡ some k → k.name ≡ n
    → find (view t).cache (at l n) ≡ some c → (perform (call_record l n c) t).answer ≡ Accepted
unfolding perform record_rows carried ◌>>=◌
record-accepted l n c k t h a b i e f =
    ap (λ (d : Done Reply). d.answer) (wrap-carried Denied (record_rows l n c) t h)
    ∙ ap (λ (o : Result World). (carried Denied t (o >>= λ w. ok (record { answer = Accepted; rows = add_entry (view t) w }))).answer) (there-ok l n c k (world_of (view t)) a b i e f)
