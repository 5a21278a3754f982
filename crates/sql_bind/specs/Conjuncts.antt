-- The conjuncts of a condition: each is a filter of one relation, or an edge between two.
use Rattle.std.specs.Prelude.{◌==◌, ℕ, Bool, true, false, nat_lt, List, [], ◌∷◌, ◌++◌, Option, Some, None, if◌then◌else◌, map}
use Rattle.sql_values.specs.declared.op.Op.{Op}
use Rattle.sql_values.specs.declared.op.Op.TheVariants.{Eq}
use Rattle.query_block.specs.declared.edge.ColumnAt.{ColumnAt}
use Rattle.query_block.specs.declared.edge.Edge.{Edge}
use Rattle.query_block.specs.Conditions.{FilterTree, FilterTrees, filter_tree}
use Rattle.query_block.specs.Conditions as bound
use Rattle.sql_parse.specs.declared.tree.Cond.{Cond}
use Rattle.sql_parse.specs.declared.tree.Term.{Term}
use Rattle.sql_parse.specs.declared.tree.Term.TheVariants.{Column}
use Rattle.sql_parse.specs.Trees.{ConditionTree, ConditionTrees, Compare, Between, OneOf, IsNull, Not, And, Or, NoMore, More, condition_tree, operands}
use Rattle.sql_bind.specs.declared.fault.BindFault.{BindFault}
use Rattle.sql_bind.specs.declared.fault.BindFault.TheVariants.{PredicateForm}
use Rattle.sql_bind.specs.declared.reach.Reach.{Reach}
use Rattle.sql_bind.specs.declared.reach.Reach.TheVariants.{Nothing, One, Several}
use Rattle.sql_bind.specs.Named.{NamedTable}
use Rattle.sql_bind.specs.Located.{located}
use Rattle.sql_bind.specs.declared.bound.Bound.{Bound}

abbrev mutual
  -- the operands of the outermost ANDs, with groups of ANDs taken apart, in written order
  pub conjuncts : ConditionTree → List ConditionTree
  conjuncts (And parts) = conjuncts_of_all parts
  conjuncts other = other ∷ []

  pub conjuncts_of_all : ConditionTrees → List ConditionTree
  conjuncts_of_all NoMore = []
  conjuncts_of_all (More part parts) = conjuncts part ++ conjuncts_of_all parts

-- those of the operands of a chain of AND
abbrev pub all_conjuncts : List Cond → List ConditionTree
all_conjuncts parts = conjuncts_of_all (operands (map condition_tree parts))

-- the relations of two groups of columns together
abbrev pub joined_reach : Reach → Reach → Reach
joined_reach Nothing b = b
joined_reach (One r) Nothing = One r
joined_reach (One r) (One s) = if r == s then One r else Several
joined_reach a b = Several

-- of which relation an operand is, by its place: a column alone is of one
abbrev pub reach_at : Option ColumnAt → Reach
reach_at None = Nothing
reach_at (Some place) = One place.relation

abbrev pub reach_of_term : List NamedTable → Term → Reach
reach_of_term tables term = reach_at (located tables term).place

abbrev pub reach_of_terms : List NamedTable → List Term → Reach
reach_of_terms tables [] = Nothing
reach_of_terms tables (term ∷ terms) = joined_reach (reach_of_term tables term) (reach_of_terms tables terms)

abbrev mutual
  -- of which relations the columns of a condition are
  pub reach_of : List NamedTable → ConditionTree → Reach
  reach_of tables (Compare op left right) = joined_reach (reach_of_term tables left) (reach_of_term tables right)
  reach_of tables (Between negated of low high) =
      joined_reach (reach_of_term tables of) (joined_reach (reach_of_term tables low) (reach_of_term tables high))
  reach_of tables (OneOf negated of terms) = joined_reach (reach_of_term tables of) (reach_of_terms tables terms)
  reach_of tables (IsNull negated column) = reach_of_term tables (Column column)
  reach_of tables (Not inner) = reach_of tables inner
  reach_of tables (And parts) = reach_of_all tables parts
  reach_of tables (Or parts) = reach_of_all tables parts

  pub reach_of_all : List NamedTable → ConditionTrees → Reach
  reach_of_all tables NoMore = Nothing
  reach_of_all tables (More part parts) = joined_reach (reach_of tables part) (reach_of_all tables parts)

-- the edge between two columns: the lower relation stands on the left
abbrev pub edge_between : ColumnAt → ColumnAt → Edge
edge_between a b =
    if nat_lt a.relation b.relation
    then record { left = a.relation; left_column = a.column; right = b.relation; right_column = b.column }
    else record { left = b.relation; left_column = b.column; right = a.relation; right_column = a.column }

-- the edge that an equality of two columns is
abbrev pub equality_between : Op → Option ColumnAt → Option ColumnAt → Option Edge
equality_between Eq (Some a) (Some b) = Some (edge_between a b)
equality_between op a b = None

abbrev pub equality_of : List NamedTable → ConditionTree → Option Edge
equality_of tables (Compare op left right) = equality_between op (located tables left).place (located tables right).place
equality_of tables other = None

-- a predicate's own NOT
abbrev pub negated_if : Bool → FilterTree → FilterTree
negated_if true condition = bound.Not condition
negated_if false condition = condition

-- the test of a column; a name that isn't there passes none
abbrev pub is_null_at : Option ColumnAt → FilterTree
is_null_at None = bound.Or bound.NoMore
is_null_at (Some place) = bound.IsNull place.column

abbrev mutual
  -- a condition with its columns by number
  pub bound_condition : List NamedTable → ConditionTree → FilterTree
  bound_condition tables (Compare op left right) = bound.Compare op (located tables left).operand (located tables right).operand
  bound_condition tables (Between negated of low high) =
      negated_if negated (bound.Between (located tables of).operand (located tables low).operand (located tables high).operand)
  bound_condition tables (OneOf negated of terms) =
      negated_if negated (bound.OneOf (located tables of).operand (map (λ term. (located tables term).operand) terms))
  bound_condition tables (IsNull negated column) = negated_if negated (is_null_at (located tables (Column column)).place)
  bound_condition tables (Not inner) = bound.Not (bound_condition tables inner)
  bound_condition tables (And parts) = bound.And (bound_conditions tables parts)
  bound_condition tables (Or parts) = bound.Or (bound_conditions tables parts)

  pub bound_conditions : List NamedTable → ConditionTrees → FilterTrees
  bound_conditions tables NoMore = bound.NoMore
  bound_conditions tables (More part parts) = bound.More (bound_condition tables part) (bound_conditions tables parts)

-- a condition with its columns by number, of which relations they are, and the edge that it is, if it is an equality
pub record Conjunct : Type 0 where
  pub tree : FilterTree
  pub reach : Reach
  pub equality : Option Edge

abbrev pub conjunct_of : List NamedTable → ConditionTree → Conjunct
conjunct_of tables condition =
    record { tree = bound_condition tables condition; reach = reach_of tables condition; equality = equality_of tables condition }

-- the same of one that is bound
abbrev pub bound_tree : Bound → Conjunct
bound_tree b = record { tree = filter_tree b.condition; reach = b.reach; equality = b.equality }

-- whether it is a filter of this relation: all its columns are of that one
abbrev pub is_filter_of : ℕ → Reach → Bool
is_filter_of relation (One other) = other == relation
is_filter_of relation other = false

-- the edge that a conjunct over several relations is
abbrev pub edge_in : Reach → Option Edge → Option Edge
edge_in Several edge = edge
edge_in other edge = None

-- a conjunct, by its number: it is a filter or an edge
abbrev pub form_fault : ℕ → Reach → Option Edge → Option BindFault
form_fault number (One relation) edge = None
form_fault number Several (Some edge) = None
form_fault number reach edge = Some (PredicateForm number)

abbrev pub conjunct_fault : ℕ → Conjunct → Option BindFault
conjunct_fault number conjunct = form_fault number conjunct.reach conjunct.equality
