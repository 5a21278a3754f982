use Rattle.std.proofs.Common.{◌∙◌, sym, ap, length}
use Rattle.std.proofs.lemmas.List.{length-map}
use Rattle.sql_values.specs.Stored.{row_of}
use Rattle.heap_pages.specs.Rows.{cut_rows}
use Rattle.heap_pages.proofs.CutRows.{length-cut_rows}
use Rattle.db_catalog.proofs.batch.Batch.rows.Goals as goal

pub returns : goal.returns
returns c =
    sym (length-map (cut_rows (length c.self.inside.columns.items) c.self.inside.rows c.self.inside.words.items) (row_of c.self.inside.texts c.self.inside.columns.items)
    ∙ length-cut_rows (length c.self.inside.columns.items) c.self.inside.rows c.self.inside.words.items)
    ∙ ap (λ b. length b.rows) c.self.view_is
