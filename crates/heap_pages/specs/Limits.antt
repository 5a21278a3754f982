-- The limits of a table, which are those of the whole product, and the size of a page.
use Rattle.std.specs.Prelude.{ℕ}
pub use Rattle.sql_values.specs.Limits.{max_rows, max_columns}

-- how many words stand on a page
abbrev pub page_words : ℕ
page_words = 1024
