use Rattle.std.proofs.Common.{◌≡◌, All, map, take}
use Rattle.query_block.specs.Conditions.{filter_tree}
use Rattle.query_block.specs.Parameters.{fixed_of}
use Rattle.row_filter.specs.InLists.{IsConditionRecheck}
use Rattle.table_stats.specs.Ready.{own_tree}
use Rattle.table_stats.proofs.filter.ReadyFilter.new.Given as goal

abbrev pub invariant-loop-condition : goal.invariant-loop-condition
invariant-loop-condition l = record {
  fixed : map own_tree l.conjuncts.items ≡ fixed_of (map filter_tree (take l.condition-index l.filter));
  rechecks : All (λ conjunct. IsConditionRecheck l.texts l.columns (own_tree conjunct) conjunct.recheck) l.conjuncts.items;
}
