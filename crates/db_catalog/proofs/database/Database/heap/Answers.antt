use Rattle.std.proofs.Common.{subst}
use Rattle.db_catalog.specs.Kept.{IsHeapOf}
use Rattle.db_catalog.proofs.Tables.{heap_is_seen, is_kept}
use Rattle.db_catalog.proofs.database.Database.heap.Goals as goal

pub returns : goal.returns
returns c = subst (λ db. IsHeapOf db c.args.table c.index.result.now.heap) c.self.view_is
    (heap_is_seen _ _ c.self.inside.tables.items _ c.index.result.now c.self.invariant (is_kept _ _ _ _ c.self.view_is c.requires) c.index.ensures)
