-- What is seen of an operator that runs a leaf of a plan.
use Rattle.std.specs.Prelude.{ℕ, Option, Some, None}
use Rattle.plan_tree.specs.Plans.{PlanTree, Scan, IndexScan}
use Rattle.row_filter.specs.declared.recheck.FilterRecheck.{FilterRecheck}
use Rattle.exec_scan.specs.declared.relation_place.RelationPlace.{RelationPlace}
use Rattle.exec_scan.specs.declared.way.Way.{Way}
use Rattle.exec_scan.specs.Reading.{column_of}

-- where its relation stands in the block, how far it is on its way to the relation's rows, and what these are asked by
pub record ScanState : Type 0 where
  pub place : RelationPlace
  pub way : Way
  pub recheck : FilterRecheck

-- the leaf that finds the rows of a relation by the index on a column, or in its table
abbrev pub leaf_by : (relation : ℕ) → Option ℕ → PlanTree
leaf_by relation None = Scan relation
leaf_by relation (Some column) = IndexScan relation column

-- the leaf that it runs
abbrev pub leaf_of : ScanState → PlanTree
leaf_of scan = leaf_by scan.place.relation (column_of scan.way)
