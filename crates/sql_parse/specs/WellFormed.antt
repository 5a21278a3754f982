-- What the layers above rely on in each statement that is read.
use Rattle.std.specs.Prelude.{◌<◌, ◌^◌, List, [], ◌∷◌, length, IfSome}
use Rattle.std.specs.List.{All}
use Rattle.std.specs.Str.{IsUtf8}
use Rattle.sql_values.specs.declared.value.Value.TheVariants as value
use Rattle.sql_parse.specs.declared.tree.Term.{Term}
use Rattle.sql_parse.specs.declared.tree.Term.TheVariants as term
use Rattle.sql_parse.specs.declared.statement.Statement.{Statement}
use Rattle.sql_parse.specs.Trees.{ConditionTree, ConditionTrees, Compare, Between, OneOf, IsNull, Not, And, Or, NoMore, More, QueryTree, StatementTree, CreateTable, Load, Select, Compile, SaveFile, OpenFile, statement_tree}
use Rattle.sql_parse.specs.Canonical.{canonical_query}
use Rattle.sql_parse.specs.Parameters.{parameters_of_condition, AreNumberedFrom}

-- an operand isn't NULL as a literal
abbrev pub IsNotNull : Term → Type 0
IsNotNull (term.Literal value.Null) = ⊥
IsNotNull other = Unit {0}

abbrev pub AreNotNull : List Term → Type 0
AreNotNull [] = Unit {0}
AreNotNull (term ∷ terms) = IsNotNull term × AreNotNull terms

-- a chain has an operand
abbrev pub HasOperand : ConditionTrees → Type 0
HasOperand NoMore = ⊥
HasOperand (More _ _) = Unit {0}

abbrev mutual
  -- no literal of the condition is NULL, and each chain has an operand
  pub IsWellFormedCondition : ConditionTree → Type 0
  IsWellFormedCondition (Compare op left right) = IsNotNull left × IsNotNull right
  IsWellFormedCondition (Between negated of low high) = IsNotNull of × IsNotNull low × IsNotNull high
  IsWellFormedCondition (OneOf negated of terms) = IsNotNull of × AreNotNull terms
  IsWellFormedCondition (IsNull negated column) = Unit {0}
  IsWellFormedCondition (Not inner) = IsWellFormedCondition inner
  IsWellFormedCondition (And parts) = HasOperand parts × AreWellFormedConditions parts
  IsWellFormedCondition (Or parts) = HasOperand parts × AreWellFormedConditions parts

  pub AreWellFormedConditions : ConditionTrees → Type 0
  AreWellFormedConditions NoMore = Unit {0}
  AreWellFormedConditions (More part parts) = IsWellFormedCondition part × AreWellFormedConditions parts

-- a query has a table and, where it names columns, a column; its condition is well-formed, and its parameters are
-- numbered from 0 in written order, in 32 bits
pub record IsWellFormedQuery (query : QueryTree) : Type 0 where
  pub tables : 0 < length query.from
  pub columns : IfSome query.columns (λ columns. 0 < length columns)
  pub condition : IfSome query.condition IsWellFormedCondition
  pub numbered : AreNumberedFrom 0 (parameters_of_condition query.condition)
  pub few_parameters : length (parameters_of_condition query.condition) < 2 ^ 32

-- a new table has a column; the name of a file is UTF-8, and so is the canonical text of a query
-- that is compiled or that a file is opened for
abbrev pub IsWellFormed : StatementTree → Type 0
IsWellFormed (CreateTable table) = 0 < length table.columns
IsWellFormed (Load load) = IsUtf8 load.file
IsWellFormed (Select query) = IsWellFormedQuery query
IsWellFormed (Compile name levels threshold query) = IsWellFormedQuery query × IsUtf8 (canonical_query query)
IsWellFormed (SaveFile save) = IsUtf8 save.file
IsWellFormed (OpenFile name file query) = IsUtf8 file × IsWellFormedQuery query × IsUtf8 (canonical_query query)
IsWellFormed other = Unit {0}

abbrev pub AreWellFormed : List Statement → Type 0
AreWellFormed statements = All (λ statement. IsWellFormed (statement_tree statement)) statements
