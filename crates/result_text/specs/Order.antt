-- Rows in ascending order: the leftmost column first, and in it NULL, then numbers by value, then texts by their bytes.
use Rattle.std.specs.Prelude.{List, [], ◌∷◌, if◌then◌else◌}
use Rattle.std.specs.declared.cmp.Ordering.{Ordering}
use Rattle.std.specs.Ordering.{int_cmp, is_gt}
use Rattle.std.specs.Cmp.Lexicographic.{slice_cmp}
use Rattle.sql_values.specs.Order.{value_cmp}
use Rattle.sql_values.specs.Stored.{ValueRow}
use Rattle.result_text.specs.Rows.{WordRow}

-- how two rows compare
abbrev pub row_cmp : ValueRow → ValueRow → Ordering
row_cmp = slice_cmp value_cmp

-- how two rows of words compare as numbers
abbrev pub word_row_cmp : WordRow → WordRow → Ordering
word_row_cmp = slice_cmp int_cmp

-- the row at its place among rows that are in order
abbrev pub put_in_order : ValueRow → List ValueRow → List ValueRow
put_in_order row [] = row ∷ []
put_in_order row (first ∷ rest) = if is_gt (row_cmp row first) then first ∷ put_in_order row rest else row ∷ first ∷ rest

-- the rows in order, each as often as it stands there
abbrev pub in_order : List ValueRow → List ValueRow
in_order [] = []
in_order (row ∷ rows) = put_in_order row (in_order rows)
