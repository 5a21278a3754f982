use Rattle.std.proofs.Common.{ap, get_or, set}
use Rattle.db_catalog.proofs.Tables.{IfOk-map}
use Rattle.db_catalog.proofs.database.index_column.Goals as goal

pub returns-clause-indexed : goal.returns-clause-indexed
returns-clause-indexed c =
    IfOk-map c.index_column.result (λ _ made. record {
      table = get_or c.args.tables.now c.args.number c.index-tables-number.result;
      there = ap (get_or c.args.tables.now c.args.number) c.index-tables-number.is;
      tables = ap (set c.args.tables.now c.args.number) made;
    }) c.index_column.ensures.indexed
