-- The laws of rows that code goes by: rows of three cells and single cells, values, objects, frames.
pub use Rattle.layout.specs.Rows.{RowLaws, Anything, cell-rows, cells-block, cells-sets, class-rows, entry-rows, rows-after-last, rows-after-more, rows_back, rows-copy, rows-first, rows_more, rows-parts, rows_snoc, subtype-rows, tie-rows}
pub use Rattle.layout.specs.Values.{put_value-cells}
pub use Rattle.layout.specs.ObjectRows.{object-field-past, used-few, with_field}
pub use Rattle.layout.specs.FrameRows.{frame_with, moved, with_value}
