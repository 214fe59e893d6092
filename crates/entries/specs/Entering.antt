-- One more entry, on copies of the counts and of the cache.
use Rattle.std.specs.Prelude.{◌≡◌, ℕ, ◌+◌, ◌%◌, List, set, slice_index, slice_set}
use Rattle.definition.specs.Lists.{rows, write_rows}
use Rattle.definition.specs.Tables.{put_three}
use Rattle.resolution.specs.Quick.{quick_base}
use Rattle.resolution.specs.Lookups.{super_cell}

-- the tables n and t with the cells of the counts and of the cache written over theirs, one entry more, and its row
pub record Entered (counts cache : List ℕ) (loader name class : ℕ) (n t counted trial : List ℕ) : Type 0 where
  pub count : counted ≡ slice_set (write_rows set counts 0 n) 2 ((slice_index counts 2 + 1) % 65536)
  pub row : trial ≡ put_three (write_rows set cache 0 t) (slice_index counts 2) loader name class

-- and the table e with the direct superclasses, by them, written over its front
pub record Tried (counts classes kept cache : List ℕ) (loader name class : ℕ) (n t e counted trial supers : List ℕ) : Type 0 where
  pub entered : Entered counts cache loader name class n t counted trial
  pub above : supers ≡ write_rows set (rows (super_cell (quick_base counted classes kept trial)) 64 0) 0 e
