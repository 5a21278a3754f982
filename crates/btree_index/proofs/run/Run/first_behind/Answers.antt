use Rattle.std.proofs.Common.{subst, sym, to_z, of_z, w64}
use Rattle.std.specs.Prelude.{ℤ}
use Rattle.std.specs.List.Sorted.{IsPartitionedBy}
use Rattle.btree_index.specs.Nodes.{is_entry_below}
use Rattle.btree_index.proofs.Ranges.{entries_rise}
use Rattle.btree_index.proofs.run.Run.first_behind.Goals as goal

pub first_near-requires-clause-rising : goal.first_near-requires-clause-rising
first_near-requires-clause-rising c =
    let word : ℤ = to_z w64 (of_z w64 c.args.word) in
    subst (λ xs. IsPartitionedBy (is_entry_below word) xs) (sym c.deref.ensures.value) (entries_rise c.self.inside.entries.items word c.self.invariant.in_order)
