use Rattle.std.proofs.Common.{◌<◌, length, sym, subst}
use Rattle.std.specs.Prelude.{IfSome}
use Rattle.db_catalog.specs.Database.{table_at}
use Rattle.db_catalog.proofs.OfIndexes.{index_at-below, first_row-below}
use Rattle.db_catalog.proofs.Tables.{IfOk-map}
use Rattle.db_catalog.proofs.metered.Metered.next.Goals as goal

pub returns-clause-gives : goal.returns-clause-gives
returns-clause-gives c =
    let db = c.self-2.inside.database.now in
    let rows = length (table_at db c.args.table).rows in
    let below = first_row-below _ c.args.cursor.now rows (index_at-below db c.args.table c.args.column) in
    let moves = rw c.index.ensures.entries at c.next.ensures.moves in
    rw (← c.self-2.view_is) (record { moves = moves; there = IfOk-map c.next.result (λ _ is. subst (λ o. IfSome o (λ i. i < rows)) (sym is) below) moves.row })
