use Rattle.std.proofs.Common.{◌≡◌, ◌<◌, ◌≤◌, ℕ, List, length, ap, false, arith}
use Rattle.sql_values.specs.declared.column.ColumnType.{ColumnType}
use Rattle.query_block.specs.declared.block.Relation.{Relation}
use Rattle.query_block.specs.Blocks.{relation_tree}
use Rattle.cost_model.specs.AtPoint.{has_open_usable}
use Rattle.cost_model.proofs.OnAxes.{next-told, all-columns}
use Rattle.cost_model.proofs.axes.open_columns_of.Goals as goal

column-small : (relation : Relation) (lent : List ColumnType) (column : ℕ) → length relation.columns ≤ 32 → lent ≡ relation.columns → column < length lent → column < 32
column-small relation lent column few same below = omega (arith, few, below, ap length same)

pub has_open_usable-requires : goal.has_open_usable-requires
has_open_usable-requires c = omega (arith, c.loop-column-test.true, ap length c.as_slice-column-end.ensures)

pub bounds-columns-column : goal.bounds-columns-column
bounds-columns-column c = column-small c.args.relation.now _ _ c.requires c.as_slice-column-end.ensures c.loop-column-test.true

pub overflow_cast-column : goal.overflow_cast-column
overflow_cast-column c =
    let small = column-small c.args.relation.now _ _ c.requires c.as_slice-column-end.ensures c.loop-column-test.true in
    record { fits = omega (arith, small) }

pub loop-column-preserved : goal.loop-column-preserved
loop-column-preserved c =
    next-told (λ column found. found ≡ has_open_usable (relation_tree c.args.relation.now) column) c.loop-column.columns c.loop-column.column 32 c.has_open_usable.result false
    (column-small c.args.relation.now _ _ c.requires c.as_slice-column-end.ensures c.loop-column-test.true) c.has_open_usable.ensures c.loop-column.invariant

pub returns : goal.returns
returns c =
    all-columns c.args.relation.now _ c.loop-column.columns c.loop-column.column c.as_slice-column-end.ensures c.loop-column-test.false c.loop-column.invariant.0
