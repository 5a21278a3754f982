-- What the operator of a leaf has left of the rows of its relation, and what is always so of one.
use Rattle.std.specs.Prelude.{◌≡◌, ℕ, ℤ, ◌+◌, List, [], length, map}
use Rattle.std.specs.List.Sorted.{IsPermutation}
use Rattle.work_ledger.specs.Charges.{open_charge}
use Rattle.plan_tree.specs.Plans.{PlanTree, has_leaf}
use Rattle.plan_tree.specs.Enumerated.{IsSubPlan}
use Rattle.plan_tree.specs.Left.{Left}
use Rattle.plan_tree.specs.Work.{work_of}
use Rattle.query_block.specs.Blocks.{BlockTree, relation_at, width_of}
use Rattle.query_block.specs.Meaning.{rows_of}
use Rattle.db_catalog.specs.Database.{DatabaseState}
use Rattle.db_catalog.specs.Fits.{Fits}
use Rattle.exec_scan.specs.declared.way.Way.{Way}
use Rattle.exec_scan.specs.OnWay.{with_emits}
use Rattle.exec_scan.specs.Places.{AreOfRelation, KeepsOtherWords, placed_row}
use Rattle.exec_scan.specs.Reading.{IsRecheckOf, IsWayIn, kept_rows, read_due, table_of}
use Rattle.exec_scan.specs.State.{ScanState, leaf_of}

-- what finding the rows of a relation has left: of the rows ahead those come that meet its filter, each in its place, and
-- the work of reading is due
abbrev pub find_left : DatabaseState → BlockTree → (relation : ℕ) → Way → Left
find_left database block relation way =
    let own = relation_at block.relations relation in
    record {
      rest = map (placed_row block.relations relation) (kept_rows database own way);
      due = (read_due database own way).due;
    }

-- the rows still to come, and the work still to be paid: a unit for each of them besides
abbrev pub scan_left : DatabaseState → BlockTree → ScanState → Left
scan_left database block scan = with_emits (find_left database block scan.place.relation scan.way)

-- a leaf may be scanned: it is a plan of a block that fits the database and has no parameter
pub record MayScan (database : DatabaseState) (block : BlockTree) (leaf : PlanTree) : Type 0 where
  pub plan : IsSubPlan block leaf
  pub fits : Fits database block
  pub closed : block.parameters ≡ []

-- a scan of a relation of the block, which fits the database and has no parameter, over its tables; it may know words of
-- the rows that meet the filter
pub record IsScanOver (database : DatabaseState) (block : BlockTree) (scan : ScanState) : Type 0 where
  pub fits : Fits database block
  pub closed : block.parameters ≡ []
  pub numbers : AreOfRelation block scan.place.relation (table_of scan.way) scan.place.columns scan.place.offset
  pub reading : IsWayIn database (relation_at block.relations scan.place.relation) scan.way
  pub recheck : IsRecheckOf database (relation_at block.relations scan.place.relation) scan.recheck

-- the scan of a leaf, of which nothing is read yet: the rows of the leaf are left, and with the opening what is due is its work
pub record BeginsLeaf (database : DatabaseState) (block : BlockTree) (plan : PlanTree) (scan : ScanState) : Type 0 where
  pub operator : IsScanOver database block scan
  pub leaf : leaf_of scan ≡ plan
  pub rest : IsPermutation (scan_left database block scan).rest (rows_of database.tables block (has_leaf plan))
  pub due : open_charge + (scan_left database block scan).due ≡ work_of database.tables block plan

-- and its next row may be written into one of all relations
pub record MayScanInto (database : DatabaseState) (block : BlockTree) (op : ScanState) (out : List ℤ) : Type 0 where
  pub scan : IsScanOver database block op
  pub width : length out ≡ width_of block

-- it goes on as the scan of the same leaf, and of a row of all relations it has written the words of its own alone
pub record ScansOn (database : DatabaseState) (block : BlockTree) (old new : ScanState) (out out' : List ℤ) : Type 0 where
  pub operator : IsScanOver database block new
  pub leaf : leaf_of new ≡ leaf_of old
  pub written : KeepsOtherWords block old.place.relation out out'
