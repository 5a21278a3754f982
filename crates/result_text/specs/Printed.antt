-- The text that rows print: CSV of RFC 4180, as the csv crate writes it with its defaults.
use Rattle.std.specs.Prelude.{ℕ, List, [], ◌++◌, map, flat_map}
use Rattle.std.specs.Fmt.{signed_decimal}
use Rattle.csv.specs.Writing.{row_text, default_writer}
use Rattle.sql_values.specs.declared.value.Value.{Value}
use Rattle.sql_values.specs.declared.value.Value.TheVariants as value
use Rattle.sql_values.specs.Stored.{ValueRow}
use Rattle.sql_values.specs.declared.column.ColumnType.{ColumnType}
use Rattle.result_text.specs.Rows.{WordRow}
use Rattle.sql_values.specs.Stored.{values_of}
use Rattle.result_text.specs.Order.{in_order}

-- the field of a value: NULL is empty, a number is decimal, a text is its bytes
abbrev pub field_of : Value → List ℕ
field_of value.Null = []
field_of (value.Int number) = signed_decimal number
field_of (value.Text text) = text

-- the record of a row
abbrev pub record_of : ValueRow → List ℕ
record_of row = row_text default_writer (map field_of row)

-- the records of rows of words as they stand
abbrev pub records_of : List (List ℕ) → List ColumnType → List WordRow → List ℕ
records_of texts kinds rows = flat_map (λ row. record_of (values_of texts kinds row)) rows

-- the names of the columns as a record, and the records of the rows in order
abbrev pub table_text : List (List ℕ) → List ValueRow → List ℕ
table_text names rows = row_text default_writer names ++ flat_map record_of (in_order rows)

-- the same, of rows of words
abbrev pub words_text : List (List ℕ) → List ColumnType → (names : List (List ℕ)) → List WordRow → List ℕ
words_text texts kinds names rows = table_text names (map (values_of texts kinds) rows)

-- the names of the columns, and the records of rows of words as they stand
abbrev pub text_in_turn : List (List ℕ) → List ColumnType → (names : List (List ℕ)) → List WordRow → List ℕ
text_in_turn texts kinds names rows = row_text default_writer names ++ records_of texts kinds rows
