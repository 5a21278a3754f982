use Rattle.std.proofs.Common.{◌≡◌, map, take}
use Rattle.serde_json.specs.View.{view}
use Rattle.bouquet_file.specs.Written.{relation_value}
use Rattle.bouquet_file.proofs.written.relation_values.Given as goal

abbrev pub invariant-loop-stats : goal.invariant-loop-stats
invariant-loop-stats l = map view l.values.items ≡ map relation_value (take l.stats-index l.relations)
