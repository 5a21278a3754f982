-- Words of a batch, whose texts got other codes.
use Rattle.std.specs.Prelude.{ℤ, pos, negsuc, List, [], ◌∷◌, slice_get, unwrap_or}
use Rattle.sql_values.specs.declared.column.ColumnType.{ColumnType}
use Rattle.sql_values.specs.declared.column.ColumnType.TheVariants.{Integer, Varchar}
use Rattle.sql_values.specs.declared.column.ColumnDef.{ColumnDef}

-- the new code of an old one, where there is one
abbrev pub code_at : List ℤ → ℤ → ℤ
code_at codes (pos code) = unwrap_or (slice_get codes code) (pos code)
code_at codes (negsuc n) = negsuc n

-- only words of texts are codes
abbrev pub recoded : List ℤ → ColumnType → ℤ → ℤ
recoded codes Integer word = word
recoded codes (Varchar _) word = code_at codes word

-- each word of a row
abbrev pub recoded_row : List ℤ → List ColumnDef → List ℤ → List ℤ
recoded_row codes [] words = words
recoded_row codes (column ∷ columns) [] = []
recoded_row codes (column ∷ columns) (word ∷ words) =
    recoded codes column.kind word ∷ recoded_row codes columns words
