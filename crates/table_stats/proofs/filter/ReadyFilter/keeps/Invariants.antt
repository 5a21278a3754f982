use Rattle.std.proofs.Common.{◌≡◌, drop, map}
use Rattle.query_block.specs.Meaning.{meets_filter}
use Rattle.sql_values.specs.Stored.{values_of}
use Rattle.table_stats.specs.Ready.{is_kept, own_tree}
use Rattle.table_stats.proofs.filter.ReadyFilter.keeps.Given as goal

-- the conjuncts that aren't tried yet decide
abbrev pub invariant-loop-conjunct : goal.invariant-loop-conjunct
invariant-loop-conjunct l =
    let row = values_of l.self.texts.now l.self.relation.now.columns l.row in
    is_kept l.self row ≡ meets_filter (map own_tree (drop l.conjunct-index l.conjunct-items)) row
