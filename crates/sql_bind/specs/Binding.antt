-- The block of a query, and what refuses it: the first check that fails, in this order.
use Rattle.std.specs.Prelude.{ℕ, ◌+◌, nat_lt, List, [], ◌∷◌, ◌++◌, filter, length, map, Option, Some, None, if◌then◌else◌, unwrap_or}
use Rattle.std.specs.List.{filter_map}
use Rattle.std.specs.Option.{option_or}
use Rattle.sql_values.specs.declared.limit.LimitName.{LimitName}
use Rattle.sql_values.specs.declared.limit.LimitName.TheVariants as limit
use Rattle.sql_values.specs.declared.column.ColumnDef.{ColumnDef}
use Rattle.sql_values.specs.Dictionary.{has_text}
use Rattle.sql_values.specs.Limits.{max_relations, max_projection, max_axes}
use Rattle.query_block.specs.declared.edge.ColumnAt.{ColumnAt}
use Rattle.query_block.specs.declared.edge.Edge.{Edge}
use Rattle.query_block.specs.declared.kind.Kind.{Kind}
use Rattle.query_block.specs.Conditions.{FilterTree}
use Rattle.query_block.specs.Blocks.{RelationTree, BlockTree, axes_of}
use Rattle.sql_parse.specs.declared.tree.ColRef.{ColRef}
use Rattle.sql_parse.specs.declared.tree.Item.{Item}
use Rattle.sql_parse.specs.Trees.{ConditionTree, QueryTree}
use Rattle.db_catalog.specs.Database.{DatabaseState, table_at, table_number}
use Rattle.sql_bind.specs.declared.fault.BindFault.{BindFault}
use Rattle.sql_bind.specs.declared.fault.BindFault.TheVariants.{UnknownTable, DuplicateAlias, Limit}
use Rattle.sql_bind.specs.Named.{NamedTable}
use Rattle.sql_bind.specs.Names.{place_of, written_column_fault, first_fault_among, first_fault_from}
use Rattle.sql_bind.specs.Predicates.{predicates, predicates_fault, parameters_of}
use Rattle.sql_bind.specs.Conjuncts.{Conjunct, conjuncts, conjunct_of, is_filter_of, edge_in, conjunct_fault}

-- a table of FROM, where the database has it
abbrev pub named_table : DatabaseState → Item → NamedTable
named_table database item =
    let number = unwrap_or (table_number database item.table) 0 in
    let table = table_at database number in
    record { alias = item.alias; number = number; columns = table.columns; indexed = table.indexed }

abbrev pub named_tables : DatabaseState → List Item → List NamedTable
named_tables database items = map (named_table database) items

-- a number past its limit
abbrev pub past_limit : LimitName → ℕ → ℕ → Option BindFault
past_limit name most value = if nat_lt most value then Some (Limit name value) else None

-- the database has the table
abbrev pub table_fault : Item → Option ℕ → Option BindFault
table_fault item None = Some (UnknownTable item.table)
table_fault item (Some number) = None

-- no table before has the alias
abbrev pub alias_fault : List (List ℕ) → Item → Option BindFault
alias_fault before item = if has_text before item.alias then Some (DuplicateAlias item.alias) else None

-- the tables of FROM from left to right, behind those of these aliases
abbrev pub from_fault : DatabaseState → List (List ℕ) → List Item → Option BindFault
from_fault database before [] = None
from_fault database before (item ∷ items) =
    option_or (table_fault item (table_number database item.table))
    (option_or (alias_fault before item) (from_fault database (before ++ item.alias ∷ []) items))

-- the columns that SELECT names: how many, then each from left to right
abbrev pub projection_fault : List NamedTable → Option (List ColRef) → Option BindFault
projection_fault tables None = None
projection_fault tables (Some columns) =
    option_or (past_limit limit.Projection max_projection (length columns)) (first_fault_among (written_column_fault tables) columns)

-- the conjuncts of WHERE; without WHERE there are none
abbrev pub conjuncts_in : List NamedTable → Option ConditionTree → List Conjunct
conjuncts_in tables None = []
conjuncts_in tables (Some condition) = map (conjunct_of tables) (conjuncts condition)

-- the condition of WHERE: its predicates, then its conjuncts, each numbered from 1
abbrev pub condition_fault : List NamedTable → Option ConditionTree → Option BindFault
condition_fault tables None = None
condition_fault tables (Some condition) =
    option_or (predicates_fault tables 1 (predicates condition))
    (first_fault_from conjunct_fault 1 (map (conjunct_of tables) (conjuncts condition)))

-- the edges among conjuncts, in written order
abbrev pub edges_of : List Conjunct → List Edge
edges_of conjuncts = filter_map (λ conjunct. edge_in conjunct.reach conjunct.equality) conjuncts

-- the filter of a relation: its conjuncts, in written order
abbrev pub filter_of : List Conjunct → (relation : ℕ) → List FilterTree
filter_of conjuncts relation =
    map (λ conjunct. conjunct.tree) (filter (λ conjunct. is_filter_of relation conjunct.reach) conjuncts)

-- every column of a relation, of which the first has this number
abbrev pub columns_from : (relation number : ℕ) → List ColumnDef → List ColumnAt
columns_from relation number [] = []
columns_from relation number (column ∷ columns) =
    record { relation = relation; column = number } ∷ columns_from relation (number + 1) columns

-- every column of tables, of which the first is this relation
abbrev pub every_column : (relation : ℕ) → List NamedTable → List ColumnAt
every_column relation [] = []
every_column relation (table ∷ tables) = columns_from relation 0 table.columns ++ every_column (relation + 1) tables

-- the columns that SELECT asks for: those named, or every column in order
abbrev pub projection_of : List NamedTable → Option (List ColRef) → List ColumnAt
projection_of tables None = every_column 0 tables
projection_of tables (Some columns) = filter_map (place_of tables) columns

-- a table of FROM with its filter
abbrev pub relation_with : NamedTable → List FilterTree → RelationTree
relation_with table filter = record {
  table = table.number;
  columns = map (λ column. column.kind) table.columns;
  filter = filter;
  indexes = table.indexed;
}

-- the relations of a block, of which the first is this one
abbrev pub relations_from : List Conjunct → (relation : ℕ) → List NamedTable → List RelationTree
relations_from conjuncts relation [] = []
relations_from conjuncts relation (table ∷ tables) =
    relation_with table (filter_of conjuncts relation) ∷ relations_from conjuncts (relation + 1) tables

-- the kinds of the parameters in WHERE, in written order
abbrev pub parameter_kinds : List NamedTable → Option ConditionTree → List Kind
parameter_kinds tables None = []
parameter_kinds tables (Some condition) = parameters_of tables (predicates condition)

-- the block of a query that nothing refuses
abbrev pub block_of : DatabaseState → QueryTree → BlockTree
block_of database query =
    let tables = named_tables database query.from in
    let conjuncts = conjuncts_in tables query.condition in
    record {
      relations = relations_from conjuncts 0 tables;
      edges = edges_of conjuncts;
      projection = projection_of tables query.columns;
      parameters = parameter_kinds tables query.condition;
    }

-- what refuses a query: how many tables FROM has, each of them, the columns that SELECT names, the condition of WHERE,
-- and how many axes its block would have
abbrev pub bind_fault : DatabaseState → QueryTree → Option BindFault
bind_fault database query =
    let tables = named_tables database query.from in
    option_or (past_limit limit.Relations max_relations (length query.from))
    (option_or (from_fault database [] query.from)
    (option_or (projection_fault tables query.columns)
    (option_or (condition_fault tables query.condition)
    (past_limit limit.Axes max_axes (axes_of (block_of database query))))))
