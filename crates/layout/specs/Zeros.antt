-- In a program each table starts as zeros: a store of no rows, every row free, which isn't broken.
use Rattle.std.specs.Prelude.{◌≡◌, refl, true, false, ℕ}
use Rattle.std.proofs.Common.{sym, subst, arith}
use Rattle.std.proofs.lemmas.List.{length-replicate}
use Rattle.definition.specs.Numbers.{counts_length, classes_length, kept_length, cache_length, ties_length, subtypes_length, objects_length, frames_length}
use Rattle.definition.specs.Lists.{rows, stack, same_list}
use Rattle.definition.specs.Groups.{groups_of}
use Rattle.definition.specs.Machine.{made_by}
use Rattle.definition.specs.Tables.{no_rows, objects_of, frames_of, view_over, view, zeros}
use Rattle.definition.specs.Broken.{in_turn, numbered, grouped, broken}
use Rattle.layout.specs.Whole.{Whole}
use Rattle.layout.specs.Traced.{Traced}
use Rattle.layout.specs.ReadBack.{Lengths}
use Rattle.layout.specs.Unbroken.{false-broken}

pub zeros-view : view zeros ≡ no_rows
unfolding view view_over objects_of frames_of rows stack zeros
zeros-view = refl

zeros-lengths : Lengths zeros
unfolding zeros
zeros-lengths = record {
  counts = length-replicate {A = ℕ} counts_length 0;
  classes = length-replicate {A = ℕ} classes_length 0;
  kept = length-replicate {A = ℕ} kept_length 0;
  cache = length-replicate {A = ℕ} cache_length 0;
  ties = length-replicate {A = ℕ} ties_length 0;
  subtypes = length-replicate {A = ℕ} subtypes_length 0;
  objects = length-replicate {A = ℕ} objects_length 0;
  frames = length-replicate {A = ℕ} frames_length 0;
}

none-whole : Whole no_rows
unfolding numbered in_turn
none-whole = record {
  limits = record {
    classes = omega arith;
    kept = omega arith;
    cache = omega arith;
    ties = omega arith;
    subtypes = omega arith;
    objects = omega arith;
    quote = omega arith;
    report = omega arith;
    trace = omega arith;
  };
  classes = tt;
  cache = tt;
  ties = tt;
  subtypes = tt;
  objects = tt;
  quote = tt;
  report = tt;
  numbers = record { ties = refl; subtypes = refl; turn = refl };
  share = unfold made_by in omega arith;
}

zeros-grouped : grouped zeros ≡ true
unfolding grouped view view_over rows same_list groups_of zeros
zeros-grouped = refl

pub zeros-whole : broken zeros ≡ false
zeros-whole = false-broken zeros zeros-lengths (subst Whole (sym zeros-view) none-whole) (subst Traced (sym zeros-view) tt) zeros-grouped
