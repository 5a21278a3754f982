use Rattle.std.proofs.Common.{◌∙◌, ap, arith, get_or, length, length-append, map, sym}
use Rattle.std.proofs.lemmas.Grind.{common_steps}
use Rattle.std.proofs.lemmas.List.{map-append}
use Rattle.query_block.specs.Blocks.{relation_tree}
use Rattle.sql_bind.proofs.Collected.{trees-count, trees-push}
use Rattle.sql_bind.proofs.Relations.{no_filters, with_filters-push}
use Rattle.sql_bind.proofs.binding.relations_with.Goals as goal

pub loop-filter-init : goal.loop-filter-init
loop-filter-init c = (ap length c.in_ok-relations.ensures.items, ap (map relation_tree) c.in_ok-relations.ensures.items ∙ sym (no_filters c.args.scope.now))

pub loop-filter-preserved : goal.loop-filter-preserved
loop-filter-preserved c =
    grind (arith, common_steps, trees-count, length-append, map-append, with_filters-push, get_or, trees-push)
