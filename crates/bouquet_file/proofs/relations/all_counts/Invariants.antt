use Rattle.std.proofs.Common.{◌≡◌, length}
use Rattle.serde_json.specs.View.{view}
use Rattle.bouquet_file.specs.Checks.{counts_at}
use Rattle.bouquet_file.proofs.Walks.{Walked}
use Rattle.bouquet_file.proofs.relations.all_counts.Given as goal

abbrev pub invariant-loop-place : goal.invariant-loop-place
invariant-loop-place l = record {
  walked : Walked view counts_at l.relations l.place l.counts.items;
  count : length l.counts.items ≡ l.place;
}
