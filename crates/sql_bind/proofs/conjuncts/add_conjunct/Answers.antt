use Rattle.std.proofs.Common.{◌∙◌, ap, refl}
use Rattle.sql_bind.specs.Conjuncts.{bound_tree, edge_in, is_filter_of}
use Rattle.sql_bind.proofs.Collected.{adds-filter, adds-edge, adds-neither}
use Rattle.sql_bind.proofs.conjuncts.add_conjunct.Goals as goal

pub returns-in-Nothing : goal.returns-in-Nothing
returns-in-Nothing c = adds-neither (bound_tree c.args.conjunct) c.args.parts.now
    (ap (λ reach. edge_in reach c.args.conjunct.equality) c.in-Nothing.is) (λ relation. ap (is_filter_of relation) c.in-Nothing.is)

pub returns-in-One : goal.returns-in-One
returns-in-One c =
    adds-filter (bound_tree c.args.conjunct) c.in-One.relation c.args.parts.now _ c.in-One.is refl c.in_ok-push_filter-in-One.ensures

pub returns-in-Some : goal.returns-in-Some
returns-in-Some c = adds-edge (bound_tree c.args.conjunct) c.in-Some.edge c.args.parts.now _ c.in-Several.is c.in-Some.is c.in_ok-push-in-Some.ensures.items refl

pub returns : goal.returns
returns c = adds-neither (bound_tree c.args.conjunct) c.args.parts.now
    (ap (λ reach. edge_in reach c.args.conjunct.equality) c.in-Several.is ∙ c.in-None.is) (λ relation. ap (is_filter_of relation) c.in-Several.is)
