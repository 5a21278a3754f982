use Rattle.std.proofs.Common.{◌≡◌, ◌∙◌, All, List, [], ◌∷◌, map, refl, ap, sym, subst}
use Rattle.std.proofs.lemmas.List.{take_all}
use Rattle.query_block.specs.declared.block.Relation.{Relation}
use Rattle.query_block.specs.Blocks.{RelationTree, relation_tree, IsRelation}
use Rattle.db_catalog.specs.Fits.{FitsTable}
use Rattle.cost_model.specs.declared.stats.RelationStats.{RelationStats}
use Rattle.cost_model.specs.Counts.{relation_stats_of}
use Rattle.query_block.proofs.Relations.{of_each}
use Rattle.table_stats.proofs.Relations.{one-pushed}
use Rattle.table_stats.proofs.stats.all_stats.Goals as goal

pub relation_stats-requires : goal.relation_stats-requires
relation_stats-requires c =
    let fits : RelationTree → Type 0 = FitsTable c.args.db.now in
    let lent = c.relations-relation-items.result.now in
    let of : (P : RelationTree → Type 0) → All P (map relation_tree c.args.block.now.relations) → P (relation_tree c.relation-item.result) = λ P all.
    of_each P lent c.loop-relation.relation-index c.relation-item.result c.loop-relation-test.true c.relation-item.is
    (subst (λ relations. All P (map relation_tree relations)) (sym c.relations-relation-items.ensures.relations) all) in
    let kinds = c.args.block.now.parameters in
    record {
      well_formed = record { kinds = kinds; is = of (IsRelation kinds) c.relations-relation-items.ensures.block.relations };
      fits = of fits c.requires;
    }

twice : (f : RelationTree → RelationStats) (relations : List Relation) → map (λ relation. f (relation_tree relation)) relations ≡ map f (map relation_tree relations)
twice f [] = refl
twice f (relation ∷ relations) = ap (λ more. f (relation_tree relation) ∷ more) (twice f relations)

pub returns : goal.returns
returns c =
    let f : RelationTree → RelationStats = relation_stats_of c.args.db.now.tables in
    let lent = c.relations-relation-items.result.now in
    let each : List Relation → List RelationStats = λ relations. map (λ relation. f (relation_tree relation)) relations in
    c.loop-relation.invariant
    ∙ ap each (take_all c.loop-relation.relation-index lent c.loop-relation-test.false)
    ∙ ap each c.relations-relation-items.ensures.relations
    ∙ twice f c.args.block.now.relations

pub loop-relation-preserved : goal.loop-relation-preserved
loop-relation-preserved c =
    let f : RelationTree → RelationStats = relation_stats_of c.args.db.now.tables in
    let each : Relation → RelationStats = λ relation. f (relation_tree relation) in
    let lent = c.relations-relation-items.result.now in
    let i = c.loop-relation.relation-index in
    let item = c.relation-item.result in
    one-pushed each lent i item c.loop-relation.stats.items c.push.new.self.items c.in_ok-relation_stats.field-0 c.loop-relation-test.true c.loop-relation.invariant
    c.in_ok-push.ensures.items (c.in_ok-relation_stats.ensures ∙ ap each c.relation-item.is)
