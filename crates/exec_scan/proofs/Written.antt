-- A row written into its place among other words, and the row that a scan gives so.
use Rattle.std.proofs.Common.{◌≡◌, ℕ, ℤ, ◌+◌, ◌≤◌, true, List, [], ◌++◌, length, map, take, drop, refl, sym, ap, subst, ◌∙◌, arith, length-append, length-drop}
use Rattle.std.proofs.lemmas.List.{take_at, drop_at, drop-drop, length-take-le}
use Rattle.std.proofs.lemmas.List.Sums.{sum_by_more_le}
use Rattle.sql_values.specs.Stored.{ValueRow, values_of}
use Rattle.query_block.specs.Blocks.{RelationTree, BlockTree, relation_at, offset_of, width_of}
use Rattle.query_block.specs.Meaning.{RelationSet}
use Rattle.query_block.proofs.Words.{length-words}
use Rattle.db_catalog.specs.Database.{DatabaseState}
use Rattle.plan_tree.specs.Plans.{has_leaf}
use Rattle.plan_tree.specs.Left.{GivesFirst, IsPart}
use Rattle.exec_scan.specs.declared.way.Way.{Way}
use Rattle.exec_scan.specs.OnWay.{with_emits}
use Rattle.exec_scan.specs.Places.{AreOfRelation, KeepsOtherWords, placed_row}
use Rattle.exec_scan.specs.Reading.{IsFirstRow, column_of, kept_rows, table_of}
use Rattle.exec_scan.specs.Scanning.{IsScanOver, find_left, scan_left}
use Rattle.exec_scan.specs.State.{ScanState, leaf_of}
use Rattle.exec_scan.proofs.Begun.{same-leaf}
use Rattle.exec_scan.proofs.Parts.{is-part, size}

-- the relation's words lie inside a row
pub inside : (block : BlockTree) (relation table columns offset : ℕ) → AreOfRelation block relation table columns offset → offset + columns ≤ width_of block
inside block relation table columns offset is =
    omega (arith, is.offset_is, is.columns_are, sum_by_more_le size block.relations relation (record { table = 0; columns = []; filter = []; indexes = [] }) is.exists)

-- a row of a relation, written where a scan of it says
pub record WrittenOf (block : BlockTree) (relation : ℕ) (row old new : List ℤ) : Type 0 where
  pub others : KeepsOtherWords block relation old new
  pub stand : take (length (relation_at block.relations relation).columns) (drop (offset_of block relation) new) ≡ row
  pub long : length new ≡ width_of block

pub written_of : (block : BlockTree) (relation number table columns offset : ℕ) (row old new : List ℤ) → AreOfRelation block number table columns offset → number ≡ relation
    → length old ≡ width_of block → length row ≡ columns → new ≡ take offset old ++ (row ++ drop (offset + columns) old)
    → WrittenOf block relation row old new
written_of block relation number table columns offset row old new of same long wide is =
    let start = offset_of block relation in
    let size = length (relation_at block.relations relation).columns in
    let offset_is : offset ≡ start = of.offset_is ∙ ap (offset_of block) same in
    let columns_are : columns ≡ size = of.columns_are ∙ ap (λ n. length (relation_at block.relations n).columns) same in
    let front = take start old in
    let back = drop (start + size) old in
    let parts : new ≡ front ++ (row ++ back) = is ∙ (λ i. take (offset_is i) old ++ (row ++ drop (offset_is i + columns_are i) old)) in
    let within : start + size ≤ length old = omega (arith, inside block number table columns offset of, offset_is, columns_are, long) in
    let short : length front ≡ start = length-take-le start old (omega (arith, within)) in
    let rest : drop start new ≡ row ++ back = ap (drop start) parts ∙ drop_at front (row ++ back) start short in
    let size-new : length new ≡ width_of block = ap length parts ∙ simp (length-append, length-drop) (omega (arith, short, wide, columns_are, within, long)) in
    record {
      others = record {
        wide = size-new ∙ sym long;
        before = ap (take start) parts ∙ take_at front (row ++ back) start short;
        behind = sym (drop-drop size start new) ∙ ap (drop size) rest ∙ drop_at row back size (wide ∙ columns_are);
      };
      stand = ap (take size) rest ∙ take_at row back size (wide ∙ columns_are);
      long = size-new;
    }

-- the first of the rows that a scan keeps, written so: the scan is known by its parts
module _ (database : DatabaseState) (block : BlockTree) (scan known : ScanState) (is : scan ≡ known) (is_over : IsScanOver database block known) (new : Way) (words : List ℤ)
    (own : RelationTree) (seen : own ≡ relation_at block.relations scan.place.relation) (is_first : IsFirstRow database.texts own (kept_rows database own scan.way) (kept_rows database own new) words) where
  over : IsScanOver database block scan
  over = subst (IsScanOver database block) (sym is) is_over

  abbrev row : ValueRow
  row = values_of database.texts (relation_at block.relations scan.place.relation).columns words

  first : let relation = relation_at block.relations scan.place.relation in IsFirstRow database.texts relation (kept_rows database relation scan.way) (kept_rows database relation new) words
  first = subst (λ (r : RelationTree). IsFirstRow database.texts r (kept_rows database r scan.way) (kept_rows database r new) words) seen is_first

  pub wide : length words ≡ scan.place.columns
  wide = length-words database.texts (relation_at block.relations scan.place.relation).columns words first.are.allowed ∙ sym over.numbers.columns_are

  module _ (before after : List ℤ) (long : length before ≡ width_of block) where
    pub fits : scan.place.offset + scan.place.columns ≤ length before
    fits = omega (arith, inside block _ _ _ _ over.numbers, long)

    module _ (put : after ≡ take scan.place.offset before ++ (words ++ drop (scan.place.offset + scan.place.columns) before)) where
      done : WrittenOf block scan.place.relation words before after
      done = written_of block scan.place.relation scan.place.relation (table_of scan.way) scan.place.columns scan.place.offset words before after over.numbers refl long wide put

      pub others : KeepsOtherWords block known.place.relation before after
      others = subst (λ (s : ScanState). KeepsOtherWords block s.place.relation before after) is done.others

      pub gives : GivesFirst (scan_left database block known) (with_emits (find_left database block scan.place.relation new)) (IsPart database.texts block.relations (has_leaf (leaf_of known)) after) true
      gives =
          subst (λ (s : ScanState). GivesFirst (scan_left database block s) (with_emits (find_left database block scan.place.relation new)) (IsPart database.texts block.relations (has_leaf (leaf_of s)) after) true) is (
            placed_row block.relations scan.place.relation row,
            ap (map (placed_row block.relations scan.place.relation)) first.first,
            subst (λ (set : RelationSet). IsPart database.texts block.relations set after (placed_row block.relations scan.place.relation row)) (sym (same-leaf scan.place.relation (column_of scan.way)))
                (is-part database.texts scan.place.relation block.relations row words after over.numbers.exists done.long done.stand first.are.allowed refl),
          )
