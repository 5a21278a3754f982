use Rattle.std.proofs.Common.{◌≡◌, ◌<◌, ◌∙◌, ℕ, All, List, length, map, get_or, sym, ap, refl, subst, arith}
use Rattle.std.proofs.Math.ListN.{get_or-map}
use Rattle.std.proofs.lemmas.Bool.{false≢true, iff_false}
use Rattle.std.proofs.lemmas.List.{length-map, take_all}
use Rattle.std.proofs.lemmas.List.Elements.{All-more, All-same, All-map}
use Rattle.query_block.specs.declared.block.Relation.{Relation}
use Rattle.query_block.specs.Blocks.{RelationTree, relation_tree}
use Rattle.db_catalog.specs.Fits.{FitsTable}
use Rattle.db_catalog.proofs.database.Database.fits.Goals as goal

-- what holds of all trees holds of that of the relation at a place
at_tree : (P : RelationTree → Type 0) (relations : List Relation) (i : ℕ) (relation : Relation) → i < length relations
    → relation ≡ get_or relations i relation → All P (map relation_tree relations) → P (relation_tree relation)
at_tree P relations i relation here is all =
    subst P (get_or-map relation_tree relations i relation ∙ ap relation_tree (sym is))
    (all i (relation_tree relation) (omega (arith, here, length-map relations relation_tree)))

pub returns-then-not-fits_table : goal.returns-then-not-fits_table
returns-then-not-fits_table c = (
  λ never. absurd (false≢true never),
  λ fits. absurd (iff_false c.fits_table.ensures c.if-not-fits_table.true
      (at_tree (FitsTable c.args.self.now) _ c.loop-relation.relation-index c.relation-item.result c.loop-relation-test.true c.relation-item.is
      (rw c.relations-relation-items.ensures.relations fits))),
)

pub loop-relation-preserved : goal.loop-relation-preserved
loop-relation-preserved c =
    All-more (λ relation. FitsTable c.args.self.now (relation_tree relation)) _ c.loop-relation.relation-index c.relation-item.result
    c.loop-relation-test.true c.loop-relation.invariant
    (subst (λ relation. FitsTable c.args.self.now (relation_tree relation)) c.relation-item.is (c.fits_table.ensures.0 c.if-not-fits_table.false))

pub returns : goal.returns
returns c = (
  λ _. All-map (FitsTable c.args.self.now) relation_tree c.args.block.now.relations
      (All-same (λ relation. FitsTable c.args.self.now (relation_tree relation)) _ _
      (sym c.relations-relation-items.ensures.relations ∙ sym (take_all c.loop-relation.relation-index _ c.loop-relation-test.false)) c.loop-relation.invariant),
  λ _. refl,
)
