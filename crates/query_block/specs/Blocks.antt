-- Blocks as plain data, and what is always so of a block.
use Rattle.std.specs.Prelude.{◌≡◌, ◌≢◌, ℕ, ◌+◌, ◌^◌, ◌<◌, ◌≤◌, Bool, true, false, nat_eq, List, [], All, length, map, slice_index_or, sum_by, take, Some, None, if◌then◌else◌}
use Rattle.std.specs.List.{IsDistinct, count_by, list_any}
use Rattle.std.specs.declared.option.Option.{Option}
use Rattle.sql_values.specs.declared.column.ColumnType.{ColumnType}
use Rattle.sql_values.specs.declared.column.ColumnType.TheVariants.{Integer, Varchar}
use Rattle.sql_values.specs.declared.value.Value.{Value}
use Rattle.sql_values.specs.declared.value.Value.TheVariants as value
use Rattle.sql_values.specs.Limits.{max_relations, max_columns, max_axes}
use Rattle.query_block.specs.declared.condition.Operand.{Operand}
use Rattle.query_block.specs.declared.condition.Operand.TheVariants.{Column, Literal, Parameter}
use Rattle.query_block.specs.declared.kind.Kind.{Kind}
use Rattle.query_block.specs.declared.kind.Kind.TheVariants as kind
use Rattle.query_block.specs.declared.block.Relation.{Relation}
use Rattle.query_block.specs.declared.edge.Edge.{Edge}
use Rattle.query_block.specs.declared.edge.ColumnAt.{ColumnAt}
use Rattle.query_block.specs.Shape.{BlockShape}
use Rattle.query_block.specs.Conditions.{FilterTree, FilterTrees, Compare, Between, OneOf, IsNull, Not, And, Or, NoMore, More, filter_tree}
use Rattle.query_block.specs.Parameters.{is_open, put_condition}
use Rattle.query_block.specs.Values.{FitValues}

-- a table by its number, what its columns hold, the conjuncts over it alone, its indexed columns
pub record RelationTree : Type 0 where
  pub table : ℕ
  pub columns : List ColumnType
  pub filter : List FilterTree
  pub indexes : List ℕ

-- relations in FROM order, edges and the projection in written order, and of what kind each parameter is
pub record BlockTree : Type 0 where
  pub relations : List RelationTree
  pub edges : List Edge
  pub projection : List ColumnAt
  pub parameters : List Kind

abbrev pub relation_tree : Relation → RelationTree
relation_tree relation = record {
  table = relation.table;
  columns = relation.columns;
  filter = map filter_tree relation.filter;
  indexes = relation.indexes;
}

abbrev pub block_tree : BlockShape → BlockTree
block_tree block = record {
  relations = map relation_tree block.relations;
  edges = block.edges;
  projection = block.projection;
  parameters = block.parameters;
}

-- the relation of this number, from 0
abbrev pub relation_at : List RelationTree → ℕ → RelationTree
relation_at relations number =
    slice_index_or relations number (record { table = 0; columns = []; filter = []; indexes = [] })

-- what the column of this number holds, from 0
abbrev pub kind_at : List ColumnType → ℕ → ColumnType
kind_at columns number = slice_index_or columns number Integer

-- whether a column holds texts; else it holds numbers
abbrev pub holds_texts : ColumnType → Bool
holds_texts Integer = false
holds_texts (Varchar _) = true

-- whether a literal is a text
abbrev pub is_text : Value → Bool
is_text (value.Text _) = true
is_text other = false

-- whether a parameter is a text
abbrev pub is_text_kind : Kind → Bool
is_text_kind kind.Integer = false
is_text_kind kind.Text = true

-- whether an operand is a text; the parameters are of these kinds
abbrev pub is_text_operand : List Kind → List ColumnType → Operand → Bool
is_text_operand kinds columns (Column column) = holds_texts (kind_at columns column)
is_text_operand kinds columns (Literal literal) = is_text literal
is_text_operand kinds columns (Parameter number) = is_text_kind (slice_index_or kinds number kind.Integer)

-- a column that exists, a literal that isn't NULL, or a parameter that exists: of no kinds, none does
abbrev pub IsOperand : List Kind → List ColumnType → Operand → Type 0
IsOperand kinds columns (Column column) = column < length columns
IsOperand kinds columns (Literal literal) = literal ≢ value.Null
IsOperand kinds columns (Parameter number) = number < length kinds

-- both are such operands, of one kind
abbrev pub AreOperands : List Kind → List ColumnType → Operand → Operand → Type 0
AreOperands kinds columns a b =
    IsOperand kinds columns a × IsOperand kinds columns b
    × (is_text_operand kinds columns a ≡ is_text_operand kinds columns b)

abbrev mutual
  -- a condition names columns and parameters that exist and no NULL, and compares operands of one kind
  pub FitsColumns : List Kind → List ColumnType → FilterTree → Type 0
  FitsColumns kinds columns (Compare op left right) = AreOperands kinds columns left right
  FitsColumns kinds columns (Between of low high) = AreOperands kinds columns of low × AreOperands kinds columns of high
  FitsColumns kinds columns (OneOf of operands) = IsOperand kinds columns of × All (AreOperands kinds columns of) operands
  FitsColumns kinds columns (IsNull column) = column < length columns
  FitsColumns kinds columns (Not inner) = FitsColumns kinds columns inner
  FitsColumns kinds columns (And parts) = FitColumns kinds columns parts
  FitsColumns kinds columns (Or parts) = FitColumns kinds columns parts

  pub FitColumns : List Kind → List ColumnType → FilterTrees → Type 0
  FitColumns kinds columns NoMore = Unit {0}
  FitColumns kinds columns (More part parts) = FitsColumns kinds columns part × FitColumns kinds columns parts

-- a relation has 1 to 32 columns, a filter that fits them, and different indexed columns among them
pub record IsRelation (kinds : List Kind) (relation : RelationTree) : Type 0 where
  pub some : 1 ≤ length relation.columns
  pub few : length relation.columns ≤ max_columns
  pub filter : All (FitsColumns kinds relation.columns) relation.filter
  pub indexes : All (λ column. column < length relation.columns) relation.indexes
  pub different : IsDistinct nat_eq relation.indexes

-- the relation and its column exist
abbrev pub IsPlace : List RelationTree → ColumnAt → Type 0
IsPlace relations place =
    (place.relation < length relations) × (place.column < length (relation_at relations place.relation).columns)

-- the kind of a column at a place
abbrev pub kind_of : List RelationTree → ColumnAt → ColumnType
kind_of relations place = kind_at (relation_at relations place.relation).columns place.column

-- both columns exist, the lower relation's on the left, and hold one kind
abbrev pub left_of : Edge → ColumnAt
left_of edge = record { relation = edge.left; column = edge.left_column }

abbrev pub right_of : Edge → ColumnAt
right_of edge = record { relation = edge.right; column = edge.right_column }

pub record IsEdge (relations : List RelationTree) (edge : Edge) : Type 0 where
  pub left : IsPlace relations (left_of edge)
  pub right : IsPlace relations (right_of edge)
  pub lower : edge.left < edge.right
  pub one_kind : holds_texts (kind_of relations (left_of edge)) ≡ holds_texts (kind_of relations (right_of edge))

-- whether a relation's filter has a parameter: its selectivity is then unknown
abbrev pub has_parameter : RelationTree → Bool
has_parameter relation = list_any is_open relation.filter

-- how many axes the grid of a block has: one for each edge, and one for each relation with a parameter
abbrev pub axes_of : BlockTree → ℕ
axes_of block = length block.edges + count_by has_parameter block.relations

-- the axis of an edge: they come in the order of the edges
abbrev pub axis_of_edge : (edge : ℕ) → ℕ
axis_of_edge edge = edge

-- the axis of a relation with a parameter: behind those of the edges, in FROM order
abbrev pub axis_of : BlockTree → (relation : ℕ) → Option ℕ
axis_of block number =
    if has_parameter (relation_at block.relations number)
    then Some (length block.edges + count_by has_parameter (take number block.relations)) else None

-- 1 to 6 relations, at most 6 axes, a projection of columns that exist, parameters with numbers of 32 bits
pub record IsBlock (block : BlockTree) : Type 0 where
  pub some : 1 ≤ length block.relations
  pub few : length block.relations ≤ max_relations
  pub relations : All (IsRelation block.parameters) block.relations
  pub axes : axes_of block ≤ max_axes
  pub edges : All (IsEdge block.relations) block.edges
  pub projection : All (IsPlace block.relations) block.projection
  pub parameters : length block.parameters < 2 ^ 32

-- how many words a row of all relations together has
abbrev pub width_of : BlockTree → ℕ
width_of block = sum_by (λ relation. length relation.columns) block.relations

-- where the words of a relation begin in such a row
abbrev pub offset_of : BlockTree → ℕ → ℕ
offset_of block number = sum_by (λ relation. length relation.columns) (take number block.relations)

-- a relation with the values in place of its parameters
abbrev pub put_relation : List Value → RelationTree → RelationTree
put_relation values relation = record {
  table = relation.table;
  columns = relation.columns;
  filter = map (put_condition values) relation.filter;
  indexes = relation.indexes;
}

-- a block with the values in place of its parameters, of which none is left
abbrev pub put_of : List Value → BlockTree → BlockTree
put_of values block = record {
  relations = map (put_relation values) block.relations;
  edges = block.edges;
  projection = block.projection;
  parameters = [];
}

-- a block with some values that fit in place of another's parameters
pub record IsPutOf (block put : BlockTree) : Type 0 where
  pub values : List Value
  pub fit : FitValues block.parameters values
  pub is : put ≡ put_of values block
