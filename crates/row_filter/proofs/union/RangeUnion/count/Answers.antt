use Rattle.std.proofs.Common.{map}
use Rattle.db_catalog.specs.Database.{table_at}
use Rattle.row_filter.proofs.Tests.{column-there}
use Rattle.row_filter.proofs.union.RangeUnion.count.Goals as goal

pub count_in_range-requires : goal.count_in_range-requires
count_in_range-requires c =
    let kinds = map (λ column. column.kind) (table_at c.args.db.now c.args.table).columns in
    column-there c.args.db.now c.args.table c.requires.0 c.in-Some.found (c.in-Some.ensures c.args.db.now.texts kinds c.requires.0 c.requires.1)

pub returns-in-Some : goal.returns-in-Some
returns-in-Some c = λ test is.
    let kinds = map (λ column. column.kind) (table_at c.args.db.now c.args.table).columns in
    c.count_in_range.ensures test (c.in-Some.ensures c.args.db.now.texts kinds test is)
