-- boot and drop by what they decide: what is refused, and what is written.
use mathlib.Core.Path.{◌≡◌, refl}
use mathlib.Core.Bool.{true, false}
use mathlib.Core.List.{[], ◌∷◌}
use Prim.Native.Nat.{ℕ, ◌+◌, ◌<◌, ◌≤◌}
use lib.ListN.{set}
use borrow.Author.Tests.{lt-ltb, le-ltb}
use Rattle.definition.specs.declared.Refusal.TheVariants.{Word}
use Rattle.definition.specs.declared.Reply.TheVariants.{Accepted, Denied}
use Rattle.definition.specs.Numbers.{loads_cell}
use Rattle.definition.specs.Lists.{write_rows, write_stack}
use Rattle.definition.specs.Answers.{◌>>=◌, need}
use Rattle.definition.specs.Tables.{Tables, tables, shaped, put_three, put_class_row, put_entry, counts_of, view, view_base, put, with_frames, put_numbers, put_trace, put_groups}
use Rattle.definition.specs.Groups.{groups_of}
use Rattle.definition.specs.Broken.{broken}
use Rattle.definition.specs.Calls.{done, closed, boot, drop_rows, call_boot, call_drop, perform}
use Rattle.layout.specs.View.{drop-writes}
use Rattle.layout.specs.Unbroken.{unbroken}
use Rattle.entries.proofs.Calls.{wrap-broken, wrap-refused, wrap-given}

-- boot

pub boot-denied : (t : Tables) → shaped t ≡ false → done (Denied (Word 1)) t ≡ perform call_boot t
unfolding perform boot
boot-denied t h = rw (h, boot) refl

pub boot-done : (t : Tables) → shaped t ≡ true
    → done Accepted (tables (set (write_rows set (1 ∷ 0 ∷ 1 ∷ 0 ∷ 0 ∷ 0 ∷ 0 ∷ 0 ∷ []) 0 t.counts) loads_cell 0) (put_three t.classes 0 0 0 0) t.kept
    (put_three t.cache 0 0 2 0) t.ties t.subtypes t.objects t.frames)
    ≡ perform call_boot t
unfolding perform boot put put_numbers put_trace put_groups groups_of counts_of write_rows write_stack put_class_row put_entry
boot-done t h = rw (h, boot) refl

-- drop

module _ (t : Tables) (k : ℕ) where
  pub drop-broken : broken t ≡ true → done (Denied (Word 1)) t ≡ perform (call_drop k) t
  unfolding perform
  drop-broken h = wrap-broken Denied (drop_rows k) t h

  module _ (sound : broken t ≡ false) where
    pub drop-unknown : 2 ≤ k → done (Denied (Word 3)) t ≡ perform (call_drop k) t
    unfolding perform drop_rows need ◌>>=◌
    drop-unknown h = wrap-refused Denied (drop_rows k) t sound (Word 3) (rw (le-ltb k 2 h, need))

    pub drop-done : k < 2
        → done Accepted (tables (set (set t.counts (6 + k) 0) loads_cell 0) t.classes t.kept t.cache t.ties t.subtypes t.objects t.frames)
        ≡ perform (call_drop k) t
    unfolding perform drop_rows need ◌>>=◌ view
    drop-done h =
        wrap-given Denied (drop_rows k) t sound Accepted (closed (with_frames k [] (view t)))
        (tables (set (set t.counts (6 + k) 0) loads_cell 0) t.classes t.kept t.cache t.ties t.subtypes t.objects t.frames)
        (rw (lt-ltb k 2 h, need)) (drop-writes (view_base t) t k h (unbroken t sound).groups)
