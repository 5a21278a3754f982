use Rattle.std.proofs.Common.{◌≡◌, ◌∙◌, ◌+◌, ◌<◌, All, map, drop, length, ap, ap₂, sym, subst, arith}
use Rattle.std.specs.Option.{option_or}
use Rattle.std.proofs.Math.ListN.{length-map}
use Rattle.std.proofs.lemmas.Slice.Zip.{AllZip-long}
use Rattle.query_block.specs.Blocks.{RelationTree, relation_tree}
use Rattle.db_catalog.specs.Fits.{FitsTable}
use Rattle.cost_model.specs.Fits.{FitsRelation}
use Rattle.query_block.proofs.Relations.{of_each}
use Rattle.table_stats.proofs.Relations.{next-stale, handed-on}
use Rattle.cost_model.specs.Staleness.{RefusesFirst}
use Rattle.table_stats.specs.Fresh.{first_stale, stale_in}
use Rattle.table_stats.proofs.staleness.fresh.Goals as goal

pub bounds-kept-number : goal.bounds-kept-number
bounds-kept-number c =
    let relations = c.args.block.now.relations in
    omega (
      arith,
      c.loop-number-test.true,
      ap length c.relations-relation-items.ensures.relations,
      ap length c.as_slice-kept.ensures,
      AllZip-long FitsRelation (map relation_tree relations) c.args.stats.now.relations c.requires.stats.relations,
      length-map relations relation_tree,
    )

pub check_relation-requires : goal.check_relation-requires
check_relation-requires c =
    let fits : RelationTree → Type 0 = FitsTable c.args.db.now in
    let lent = c.relations-relation-items.result.now in
    let all = subst (λ relations. All fits (map relation_tree relations)) (sym c.relations-relation-items.ensures.relations) c.requires.fits in
    (of_each fits lent c.loop-number.number c.relation-item.result c.loop-number-test.true c.relation-item.is all).there

pub returns-in_err-check_relation : goal.returns-in_err-check_relation
returns-in_err-check_relation c =
    let database = c.args.db.now in
    let lent = c.relations-relation-items.result.now in
    let kept = c.as_slice-kept.result.now in
    let number = c.loop-number.number in
    let there : number < length kept = omega (
      arith,
      c.loop-number-test.true,
      ap length c.relations-relation-items.ensures.relations,
      ap length c.as_slice-kept.ensures,
      AllZip-long FitsRelation (map relation_tree c.args.block.now.relations) c.args.stats.now.relations c.requires.stats.relations,
      length-map c.args.block.now.relations relation_tree,
    ) in
    let found = stale_in database number (relation_tree c.relation-item.result) c.index-kept-number.result in
    let rest = first_stale database (number + 1) (map relation_tree (drop (number + 1) lent)) (drop (number + 1) kept) in
    let whole : first_stale database 0 (map relation_tree c.args.block.now.relations) c.args.stats.now.relations ≡ option_or found rest =
    sym (ap₂ (λ relations stats. first_stale database 0 (map relation_tree relations) stats) c.relations-relation-items.ensures.relations c.as_slice-kept.ensures)
    ∙ c.loop-number.invariant
    ∙ next-stale database lent kept number c.relation-item.result c.index-kept-number.result c.loop-number-test.true there c.relation-item.is c.index-kept-number.is in
    subst (λ due. RefusesFirst due c.from_residual.result) (sym whole)
    (handed-on found rest c.from_residual.result c.in_err-check_relation.field-0.0 c.from_residual.ensures.1 c.in_err-check_relation.ensures)

pub loop-number-preserved : goal.loop-number-preserved
loop-number-preserved c =
    let database = c.args.db.now in
    let lent = c.relations-relation-items.result.now in
    let kept = c.as_slice-kept.result.now in
    let number = c.loop-number.number in
    let there : number < length kept = omega (
      arith,
      c.loop-number-test.true,
      ap length c.relations-relation-items.ensures.relations,
      ap length c.as_slice-kept.ensures,
      AllZip-long FitsRelation (map relation_tree c.args.block.now.relations) c.args.stats.now.relations c.requires.stats.relations,
      length-map c.args.block.now.relations relation_tree,
    ) in
    let rest = first_stale database (number + 1) (map relation_tree (drop (number + 1) lent)) (drop (number + 1) kept) in
    let none = c.in_ok-check_relation.ensures.answered in
    c.loop-number.invariant
    ∙ next-stale database lent kept number c.relation-item.result c.index-kept-number.result c.loop-number-test.true there c.relation-item.is c.index-kept-number.is
    ∙ ap (λ due. option_or due rest) none
