use Rattle.std.proofs.Common.{sym, subst}
use Rattle.std.specs.List.Sorted.{IsPermutation}
use Rattle.btree_index.proofs.Runs.{built_order, built_same}
use Rattle.btree_index.proofs.index.Index.from_entries.Goals as goal

pub returns-clause-same : goal.returns-clause-same
returns-clause-same c =
    built_same c.of_one_run.result c.args.entries.items _ (subst (IsPermutation c.args.entries.items) (sym c.shrink_to_fit.ensures.items) c.in_ok-put_in_order.ensures.same) c.of_one_run.ensures

pub returns-clause-order : goal.returns-clause-order
returns-clause-order c = built_order c.of_one_run.result c.shrink_to_fit.new.self.items c.of_one_run.ensures
