-- What a block prints, and rows of the words of all its relations, as its projection asks for them.
use Rattle.std.specs.Prelude.{ℕ, List, map, slice_index_or}
use Rattle.sql_values.specs.Stored.{StoredTable, ValueRow}
use Rattle.sql_values.specs.Words.{null_word}
use Rattle.query_block.specs.Blocks.{BlockTree}
use Rattle.query_block.specs.Combined.{combination_of}
use Rattle.query_block.specs.Meaning.{meaning_of, projected}
use Rattle.result_text.specs.Printed.{table_text}
use Rattle.result_text.specs.Rows.{WordRow}

-- what a block prints over stored tables, its projected columns under these names
abbrev pub printed : List (List ℕ) → List StoredTable → BlockTree → List ℕ
printed names tables block = table_text names (meaning_of tables block)

-- the values that a block's projection asks for, of each row
abbrev pub printed_rows : List (List ℕ) → BlockTree → List WordRow → List ValueRow
printed_rows texts block rows = map (λ words. projected block.projection (combination_of texts block.relations words)) rows

-- the words of a row in these places
abbrev pub words_at : List ℕ → WordRow → WordRow
words_at places row = map (λ place. slice_index_or row place null_word) places
