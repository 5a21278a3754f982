-- What the conjuncts so far come to: a filter for each relation, and the edges.
use Rattle.std.specs.Prelude.{◌≡◌, ℕ, zero, suc, ◌+◌, List, [], ◌∷◌, ◌++◌, Option, length, map, replicate}
use Rattle.std.specs.List.{count_by}
use Rattle.std.specs.Option.{option_or}
use Rattle.sql_values.specs.Limits.{max_axes}
use Rattle.sql_values.specs.declared.limit.LimitName.TheVariants as limit
use Rattle.query_block.specs.declared.condition.Condition.{Condition}
use Rattle.query_block.specs.Conditions.{FilterTree, filter_tree}
use Rattle.std.specs.declared.alloc.Global.{Global}
use Rattle.std.specs.declared.vec.Vec.{Vec}
use Rattle.sql_parse.specs.Trees.{ConditionTree}
use Rattle.sql_bind.specs.declared.bound.Bound.{Bound}
use Rattle.sql_bind.specs.declared.binding.WhereClause.{WhereClause}
use Rattle.sql_bind.specs.declared.conjuncts.WhereParts.{WhereParts}
use Rattle.sql_bind.specs.declared.fault.BindFault.{BindFault}
use Rattle.sql_bind.specs.Named.{NamedTable}
use Rattle.sql_bind.specs.Conjuncts.{Conjunct, bound_tree, conjunct_of}
use Rattle.query_block.specs.Blocks.{RelationTree, has_parameter}
use Rattle.sql_bind.specs.Binding.{edges_of, filter_of, relation_with, relations_from, conjuncts_in, parameter_kinds, condition_fault, past_limit}

-- these conditions more are bound
abbrev pub AddsBound : List NamedTable → List ConditionTree → (old new : List Bound) → Type 0
AddsBound tables conditions old new = map bound_tree new ≡ map bound_tree old ++ map (conjunct_of tables) conditions

-- the trees of a filter for each relation
abbrev pub filter_trees : List (Vec Condition Global) → List (List FilterTree)
filter_trees filters = map (λ filter. map filter_tree filter.items) filters

-- the filters with those of more conjuncts behind, where the first is that of this relation
abbrev pub more_filters : List Conjunct → (relation : ℕ) → List (List FilterTree) → List (List FilterTree)
more_filters conjuncts relation [] = []
more_filters conjuncts relation (filter ∷ filters) =
    (filter ++ filter_of conjuncts relation) ∷ more_filters conjuncts (relation + 1) filters

-- a condition behind the filter of a relation, if there is such a relation
abbrev pub with_condition : ℕ → FilterTree → List (List FilterTree) → List (List FilterTree)
with_condition relation condition [] = []
with_condition zero condition (filter ∷ filters) = (filter ++ condition ∷ []) ∷ filters
with_condition (suc relation) condition (filter ∷ filters) = filter ∷ with_condition relation condition filters

-- the parts with those of more conjuncts behind
pub record AddsConjuncts (conjuncts : List Conjunct) (old new : WhereParts) : Type 0 where
  pub edges : new.edges.items ≡ old.edges.items ++ edges_of conjuncts
  pub filters : filter_trees new.filters.items ≡ more_filters conjuncts 0 (filter_trees old.filters.items)

-- the relations of tables with these filters
abbrev pub with_filters : List NamedTable → List (List FilterTree) → List RelationTree
with_filters [] filters = []
with_filters (table ∷ tables) [] = []
with_filters (table ∷ tables) (filter ∷ filters) = relation_with table filter ∷ with_filters tables filters

-- the parts of these conjuncts alone, over so many relations
pub record HasParts (relations : ℕ) (conjuncts : List Conjunct) (parts : WhereParts) : Type 0 where
  pub edges : parts.edges.items ≡ edges_of conjuncts
  pub filters : filter_trees parts.filters.items ≡ more_filters conjuncts 0 (replicate relations [])

-- the parts of the conjuncts of WHERE, and the kinds of its parameters
pub record IsAsked (tables : List NamedTable) (condition : Option ConditionTree) (asked : WhereClause) : Type 0 where
  pub parts : HasParts (length tables) (conjuncts_in tables condition) asked.parts
  pub parameters : asked.parameters.items ≡ parameter_kinds tables condition

-- the condition of WHERE, and then how many axes it asks for
abbrev pub where_fault : List NamedTable → Option ConditionTree → Option BindFault
where_fault tables condition =
    let conjuncts = conjuncts_in tables condition in
    let axes = length (edges_of conjuncts) + count_by has_parameter (relations_from conjuncts 0 tables) in
    option_or (condition_fault tables condition) (past_limit limit.Axes max_axes axes)
