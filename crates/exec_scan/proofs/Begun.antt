-- What a way to the rows of a relation has left before anything is read, and so the scan of a leaf.
use Rattle.std.proofs.Common.{◌≡◌, ℕ, ◌+◌, ◌<◌, Option, Some, None, IfSome, length, refl, sym, ap, subst, ◌∙◌, arith}
use Rattle.std.specs.List.Sorted.{IsPermutation}
use Rattle.std.proofs.lemmas.List.Sorted.{IsPermutation-map, length_permutation}
use Rattle.work_ledger.specs.Charges.{open_charge}
use Rattle.query_block.specs.Blocks.{RelationTree, BlockTree, IsBlock, relation_at}
use Rattle.query_block.specs.Meaning.{meets_filter, rows_of}
use Rattle.plan_tree.specs.Plans.{Scan, has_leaf}
use Rattle.plan_tree.specs.Enumerated.{HasUsable, IsIndexed, IsSubPlan}
use Rattle.plan_tree.specs.Usable.{is_fixed_usable}
use Rattle.plan_tree.specs.Work.{height_in, work_of}
use Rattle.btree_index.specs.Height.{height_of}
use Rattle.db_catalog.specs.Database.{DatabaseState}
use Rattle.db_catalog.specs.Indexes.{index_height}
use Rattle.exec_scan.specs.declared.way.Way.{Way}
use Rattle.exec_scan.specs.declared.way.Way.TheVariants as way
use Rattle.exec_scan.specs.EntryReading.{EntryReaderState}
use Rattle.exec_scan.specs.Places.{placed_row}
use Rattle.exec_scan.specs.Reading.{HasAll, IsRelationIn, LeadsTo, column_of, is_wanted, read_due, work_by}
use Rattle.exec_scan.specs.Scanning.{find_left}
use Rattle.exec_scan.specs.OnWay.{with_emits}
use Rattle.exec_scan.specs.State.{leaf_by}
use Rattle.db_catalog.proofs.IndexEntries.{count-entries, count-read, found-rows, is-indexed}
use Rattle.exec_scan.proofs.LeafRows.{leaf_rows}
use Rattle.plan_tree.proofs.MetParts.{meets-part, meets-some}

-- an index that isn't descended yet: what meets the filter is wanted and has a value in the column
pub index-leads : (database : DatabaseState) (own : RelationTree) (column : ℕ) → IsRelationIn database own → IsIndexed own column × HasUsable own column
    → (reader : EntryReaderState) → reader ≡ record { table = own.table; column = column; cursor = None } → LeadsTo database own (Some column) (way.Index reader)
index-leads database own column relation (indexed, usable) reader new =
    let wanted = is_wanted own column in
    let levels : index_height database own.table column ≡ height_in database.tables own column = ap height_of (count-entries database own.table column) in
    subst (λ (reader : EntryReaderState). LeadsTo database own (Some column) (way.Index reader)) (sym new) (record {
      way = record {
        relation = relation;
        table = refl;
        reading = record { there = relation.fits.there; indexed = is-indexed own.indexes column _ relation.fits.indexes indexed; cursor = tt };
      };
      column = refl;
      all = record {
        rows = found-rows database own.table column wanted (meets_filter own.filter)
            (λ row is. (meets-part (is_fixed_usable own.columns column) own.filter row is, meets-some own.columns column own.filter row usable is));
        due = λ out. omega (arith, levels, count-read database own.table column wanted);
      };
    })

-- the rows of a leaf are those of its relation, by whatever they are found
pub same-leaf : (relation : ℕ) (column : Option ℕ) → has_leaf (leaf_by relation column) ≡ has_leaf (Scan relation)
same-leaf relation None = refl
same-leaf relation (Some column) = refl

-- the scan of a relation, which is kept by this number and seen so
module _ (database : DatabaseState) (block : BlockTree) (is : IsBlock block) (relation number : ℕ) (there : relation < length block.relations) (same : number ≡ relation)
    (own : RelationTree) (seen : own ≡ relation_at block.relations relation) (way : Way) (column : Option ℕ) (by : column_of way ≡ column) (all : HasAll database own way) where
  rows-given : IsPermutation (find_left database block number way).rest (rows_of database.tables block (has_leaf (Scan relation)))
  rows-given =
      subst (λ (n : ℕ). IsPermutation (find_left database block n way).rest (rows_of database.tables block (has_leaf (Scan relation)))) (sym same)
      (subst (IsPermutation (find_left database block relation way).rest) (sym (leaf_rows database.tables block relation there is.edges))
      (IsPermutation-map (placed_row block.relations relation) _ _ (subst (λ (r : RelationTree). HasAll database r way) seen all).rows))

  pub starts-rest : IsPermutation (with_emits (find_left database block number way)).rest (rows_of database.tables block (has_leaf (leaf_by relation column)))
  starts-rest = subst (λ set. IsPermutation (find_left database block number way).rest (rows_of database.tables block set)) (sym (same-leaf relation column)) rows-given

  work-is : (c : Option ℕ) → work_by database.tables (relation_at block.relations relation) c (length (rows_of database.tables block (has_leaf (Scan relation)))) ≡ work_of database.tables block (leaf_by relation c)
  work-is None = refl
  work-is (Some c) = refl

  pub starts-due : open_charge + (with_emits (find_left database block number way)).due ≡ work_of database.tables block (leaf_by relation column)
  starts-due =
      let out = length (rows_of database.tables block (has_leaf (Scan relation))) in
      let due : (read_due database (relation_at block.relations number) way).due ≡ (read_due database own way).due =
      ap (λ (r : RelationTree). (read_due database r way).due) (ap (relation_at block.relations) same ∙ sym seen) in
      omega (arith, due, all.due out, length_permutation _ _ rows-given)
      ∙ (λ i. work_by database.tables (seen i) (by i) out) ∙ work-is column

-- what a leaf of a plan of the block tells of its relation
pub scannable : (block : BlockTree) (relation : ℕ) (column : Option ℕ) → IsSubPlan block (leaf_by relation column)
    → (relation < length block.relations) × IfSome column (λ by. IsIndexed (relation_at block.relations relation) by × HasUsable (relation_at block.relations relation) by)
scannable block relation None is = (is, tt)
scannable block relation (Some column) is = (is.exists, (is.indexed, is.usable))
