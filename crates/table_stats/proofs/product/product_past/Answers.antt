use Rattle.std.proofs.Common.{◌∙◌, ◌≤◌, max, All, List, map, length, ap, sym, subst, arith}
use Rattle.std.proofs.lemmas.List.{at_drop_all, take_all}
use Rattle.std.proofs.lemmas.List.Elements.{All-map, All-more}
use Rattle.sql_values.specs.Limits.{max_rows}
use Rattle.query_block.specs.declared.block.Relation.{Relation}
use Rattle.query_block.specs.Blocks.{RelationTree, relation_tree}
use Rattle.plan_tree.specs.Work.{table_rows}
use Rattle.db_catalog.specs.Fits.{FitsTable}
use Rattle.query_block.proofs.Relations.{of_each}
use Rattle.table_stats.specs.Product.{first_past, row_counts}
use Rattle.table_stats.proofs.Relations.{next-count, past-count}
use Rattle.table_stats.proofs.product.product_past.Goals as goal

pub rows-requires : goal.rows-requires
rows-requires c =
    let fits : RelationTree → Type 0 = FitsTable c.args.db.now in
    let lent = c.relations-relation-items.result.now in
    let all = subst (λ relations. All fits (map relation_tree relations)) (sym c.relations-relation-items.ensures.relations) c.requires in
    (of_each fits lent c.loop-relation.relation-index c.relation-item.result c.loop-relation-test.true c.relation-item.is all).there

pub loop-relation-preserved : goal.loop-relation-preserved
loop-relation-preserved c =
    let tables = c.args.db.now.tables in
    let lent = c.relations-relation-items.result.now in
    let i = c.loop-relation.relation-index in
    let item = c.relation-item.result in
    let few : Relation → Type 0 = λ relation. length (table_rows tables (relation_tree relation)) ≤ max_rows in
    let here : few item = omega (arith, c.rows.ensures.count, c.rows.ensures.few) in (
      c.loop-relation.invariant.0
          ∙ next-count tables lent i item c.loop-relation.product c.from-product.result c.loop-relation-test.true c.relation-item.is
          (c.from-product.ensures ∙ c.max.ensures ∙ ap (λ n. max n 1) c.rows.ensures.count) c.if-product-gt-MAX_PRODUCT.false,
      c.if-product-gt-MAX_PRODUCT.false,
      All-more few lent i item c.loop-relation-test.true c.loop-relation.invariant.2 (subst few c.relation-item.is here),
    )

pub returns-clause-few : goal.returns-clause-few
returns-clause-few c =
    let tables = c.args.db.now.tables in
    let few : RelationTree → Type 0 = λ relation. length (table_rows tables relation) ≤ max_rows in
    let each : Relation → Type 0 = λ relation. few (relation_tree relation) in
    let lent = c.relations-relation-items.result.now in
    let all = subst (All each) (take_all c.loop-relation.relation-index lent c.loop-relation-test.false ∙ c.relations-relation-items.ensures.relations) c.loop-relation.invariant.2 in
    λ _. All-map few relation_tree c.args.block.now.relations all

pub returns-then-product-gt-MAX_PRODUCT-clause-past : goal.returns-then-product-gt-MAX_PRODUCT-clause-past
returns-then-product-gt-MAX_PRODUCT-clause-past c =
    let tables = c.args.db.now.tables in
    let lent = c.relations-relation-items.result.now in
    let i = c.loop-relation.relation-index in
    let past = past-count tables lent i c.relation-item.result c.loop-relation.product c.from-product.result c.loop-relation-test.true c.relation-item.is
    (c.from-product.ensures ∙ c.max.ensures ∙ ap (λ n. max n 1) c.rows.ensures.count) c.if-product-gt-MAX_PRODUCT.true in
    sym (ap (λ (all : List Relation). first_past 1 (row_counts tables (map relation_tree all))) (sym c.relations-relation-items.ensures.relations) ∙ c.loop-relation.invariant.0 ∙ past)

pub returns-clause-past : goal.returns-clause-past
returns-clause-past c =
    let tables = c.args.db.now.tables in
    let none = at_drop_all (λ (some : List Relation). first_past c.loop-relation.product (row_counts tables (map relation_tree some))) c.relations-relation-items.result.now
    c.loop-relation.relation-index c.loop-relation-test.false in
    sym (ap (λ (all : List Relation). first_past 1 (row_counts tables (map relation_tree all))) (sym c.relations-relation-items.ensures.relations) ∙ c.loop-relation.invariant.0 ∙ none)
