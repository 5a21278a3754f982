-- The parts of a query, put together, are its block, which fits the database.
use Rattle.std.proofs.Common.{◌≡◌, ◌∙◌, ℕ, ◌+◌, ◌<◌, List, [], ◌∷◌, ◌++◌, Option, None, All, length, replicate, refl, sym, ap, arith}
use Rattle.std.proofs.lemmas.Grind.{common_steps}
use Rattle.std.proofs.lemmas.List.{length-map, length-replicate}
use Rattle.std.proofs.lemmas.List.Elements.{All-nil, All-cons, All-contains_itself}
use Rattle.std.proofs.lemmas.List.Quantifiers.{position-Some}
use Rattle.std.specs.List.{count_by, list_any}
use Rattle.std.specs.Option.{option_or}
use Rattle.sql_values.specs.Stored.{StoredTable}
use Rattle.sql_values.specs.declared.limit.LimitName.TheVariants as limit
use Rattle.sql_values.specs.Limits.{max_relations, max_axes}
use Rattle.query_block.specs.declared.edge.Edge.{Edge}
use Rattle.query_block.specs.declared.kind.Kind.{Kind}
use Rattle.query_block.specs.declared.edge.ColumnAt.{ColumnAt}
use Rattle.query_block.specs.Conditions.{FilterTree}
use Rattle.query_block.specs.Parameters.{is_open}
use Rattle.query_block.specs.Blocks.{RelationTree, BlockTree}
use Rattle.sql_parse.specs.declared.tree.Item.{Item}
use Rattle.sql_parse.specs.Trees.{ConditionTree, QueryTree}
use Rattle.db_catalog.specs.Database.{DatabaseState, table_number}
use Rattle.db_catalog.specs.Fits.{FitsTable, Fits}
use Rattle.sql_bind.specs.declared.binding.WhereClause.{WhereClause}
use Rattle.sql_bind.specs.declared.conjuncts.WhereParts.{WhereParts}
use Rattle.sql_bind.specs.declared.fault.BindFault.{BindFault}
use Rattle.sql_bind.specs.Named.{NamedTable}
use Rattle.sql_bind.specs.Conjuncts.{Conjunct}
use Rattle.sql_bind.specs.Binding.{named_table, named_tables, table_fault, alias_fault, from_fault, relation_with, relations_from, filter_of, block_of, conjuncts_in, projection_of, past_limit, projection_fault, condition_fault, bind_fault}
use Rattle.sql_bind.specs.Collected.{HasParts, IsAsked, filter_trees, more_filters, with_filters, where_fault}
use Rattle.sql_bind.proofs.Faults.{neither}
use Rattle.sql_bind.proofs.Collected.{trees-count}
use Rattle.sql_bind.proofs.Relations.{relations-of_parts, open-count}

-- checks of which none refuses
pub none_of : (a b : Option BindFault) → a ≡ None → b ≡ None → option_or a b ≡ None
none_of a b first second = ap (λ o. option_or o b) first ∙ second

abbrev name_of : StoredTable → List ℕ
name_of table = table.name

-- a table that the database has is one of its tables
table-there : (database : DatabaseState) (item : Item) → table_fault item (table_number database item.table) ≡ None → (named_table database item).number < length database.tables
table-there database item none = grind (arith, common_steps, position-Some, length-map)

tables-fit : (database : DatabaseState) (conjuncts : List Conjunct) (relation : ℕ) (before : List (List ℕ)) (items : List Item) → from_fault database before items ≡ None
    → All (FitsTable database) (relations_from conjuncts relation (named_tables database items))
tables-fit database conjuncts relation before [] none = All-nil (FitsTable database)
tables-fit database conjuncts relation before (item ∷ items) none =
    let first = neither (table_fault item (table_number database item.table)) (option_or (alias_fault before item) (from_fault database (before ++ item.alias ∷ []) items)) none in
    let rest = neither (alias_fault before item) (from_fault database (before ++ item.alias ∷ []) items) first.1 in
    let table = named_table database item in
    All-cons (FitsTable database) (relation_with table (filter_of conjuncts relation)) (relations_from conjuncts (relation + 1) (named_tables database items))
    (record { there = table-there database item first.0; columns = refl; indexes = All-contains_itself table.indexed })
    (tables-fit database conjuncts (relation + 1) (before ++ item.alias ∷ []) items rest.1)

pub block-fits : (database : DatabaseState) (query : QueryTree) → from_fault database [] query.from ≡ None → Fits database (block_of database query)
block-fits database query none = tables-fit database (conjuncts_in (named_tables database query.from) query.condition) 0 [] query.from none

filters-count : (conjuncts : List Conjunct) (relation : ℕ) (filters : List (List FilterTree)) → length (more_filters conjuncts relation filters) ≡ length filters
filters-count conjuncts relation [] = refl
filters-count conjuncts relation (filter ∷ filters) = omega (arith, filters-count conjuncts (relation + 1) filters)

-- there is a filter for each table
pub one_filter_each : (relations : ℕ) (conjuncts : List Conjunct) (parts : WhereParts) → HasParts relations conjuncts parts → length parts.filters.items ≡ relations
one_filter_each relations conjuncts parts has =
    sym (trees-count parts.filters.items) ∙ ap length has.filters ∙ filters-count conjuncts 0 (replicate relations []) ∙ length-replicate relations []

same_block : (relations other : List RelationTree) (edges edges' : List Edge) (projection projection' : List ColumnAt) (parameters parameters' : List Kind)
    → relations ≡ other → edges ≡ edges' → projection ≡ projection' → parameters ≡ parameters'
    → (let block : BlockTree = record { relations = relations; edges = edges; projection = projection; parameters = parameters } in block)
    ≡ record { relations = other; edges = edges'; projection = projection'; parameters = parameters' }
same_block relations other edges edges' projection projection' parameters parameters' same_relations same_edges same_projection same_parameters =
    grind (arith, common_steps)

-- of a condition that isn't refused, the parts tell how many axes it asks for
pub axes-due : (tables : List NamedTable) (condition : Option ConditionTree) (parts : WhereParts) → condition_fault tables condition ≡ None
    → HasParts (length tables) (conjuncts_in tables condition) parts
    → where_fault tables condition ≡ past_limit limit.Axes max_axes (length parts.edges.items + count_by (list_any is_open) (filter_trees parts.filters.items))
axes-due tables condition parts none has = grind (arith, common_steps, open-count)

-- parts that no check refused, put together, are the block, and nothing refuses the query
pub whole : (database : DatabaseState) (query : QueryTree) (from : List Item) (tables : List NamedTable) (asked : WhereClause) (relations : List RelationTree) (projection : List ColumnAt)
    → from ≡ query.from → tables ≡ named_tables database from → IsAsked tables query.condition asked → relations ≡ with_filters tables (filter_trees asked.parts.filters.items)
    → projection ≡ projection_of tables query.columns → past_limit limit.Relations max_relations (length from) ≡ None
    → from_fault database [] from ≡ None → projection_fault tables query.columns ≡ None → where_fault tables query.condition ≡ None
    → ((let block : BlockTree = record { relations = relations; edges = asked.parts.edges.items; projection = projection; parameters = asked.parameters.items } in block) ≡ block_of database query) × (bind_fault database query ≡ None)
whole database query from tables asked relations projection items is has made named_are few from_none projection_none where_none =
    grind (arith, common_steps, same_block, relations-of_parts, none_of)
