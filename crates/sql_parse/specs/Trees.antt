-- Statements and conditions as trees, without where they lie in memory.
use Rattle.std.specs.Prelude.{ℕ, Bool, List, [], ◌∷◌, Option, option_map}
use Rattle.sql_values.specs.declared.op.Op.{Op}
use Rattle.sql_parse.specs.declared.tree.Term.{Term}
use Rattle.sql_parse.specs.declared.tree.ColRef.{ColRef}
use Rattle.sql_parse.specs.declared.tree.Item.{Item}
use Rattle.sql_parse.specs.declared.tree.TableDef.{TableDef}
use Rattle.sql_parse.specs.declared.tree.IndexDef.{IndexDef}
use Rattle.sql_parse.specs.declared.tree.LoadDef.{LoadDef}
use Rattle.sql_parse.specs.declared.tree.FileDef.{FileDef}
use Rattle.sql_parse.specs.declared.tree.RunDef.{RunDef}
use Rattle.sql_parse.specs.declared.tree.TurnsDef.{TurnsDef}
use Rattle.sql_parse.specs.declared.tree.AuditDef.{AuditDef}
use Rattle.sql_parse.specs.declared.tree.Cond.{Cond}
use Rattle.sql_parse.specs.declared.tree.Cond.TheOpen.{Cond-F}
use Rattle.sql_parse.specs.declared.tree.Cond.TheOpen as layer
use Rattle.sql_parse.specs.declared.tree.Cond.TheFolds.{fold-Cond}
use Rattle.sql_parse.specs.declared.tree.Query.{Query}
use Rattle.sql_parse.specs.declared.statement.Statement.{Statement}
use Rattle.sql_parse.specs.declared.statement.Statement.TheVariants as code

mutual
  -- a condition
  pub data ConditionTree : Type 0 where
    Compare : Op → Term → Term → ConditionTree
    Between : (negated : Bool) → Term → Term → Term → ConditionTree
    OneOf : (negated : Bool) → Term → List Term → ConditionTree
    IsNull : (negated : Bool) → ColRef → ConditionTree
    Not : ConditionTree → ConditionTree
    And : ConditionTrees → ConditionTree
    Or : ConditionTrees → ConditionTree

  -- the operands of a chain
  pub data ConditionTrees : Type 0 where
    NoMore : ConditionTrees
    More : ConditionTree → ConditionTrees → ConditionTrees

-- a list of operands
abbrev pub operands : List ConditionTree → ConditionTrees
operands [] = NoMore
operands (tree ∷ trees) = More tree (operands trees)

-- a query
pub record QueryTree : Type 0 where
  pub columns : Option (List ColRef)
  pub from : List Item
  pub condition : Option ConditionTree

-- a statement
pub data StatementTree : Type 0 where
  CreateTable : TableDef → StatementTree
  CreateIndex : IndexDef → StatementTree
  Load : LoadDef → StatementTree
  Select : QueryTree → StatementTree
  Compile : (name : List ℕ) (levels threshold : Option ℕ) → QueryTree → StatementTree
  Run : RunDef → StatementTree
  Explain : (name : List ℕ) → StatementTree
  SaveFile : FileDef → StatementTree
  OpenFile : (name file : List ℕ) → QueryTree → StatementTree
  Audit : AuditDef → StatementTree
  Check : (name : List ℕ) → StatementTree
  Learn : RunDef → StatementTree
  Turns : TurnsDef → StatementTree

-- one node, with the trees of its operands in their places
abbrev pub condition_node : Cond-F ConditionTree → ConditionTree
condition_node (layer.Compare op left right) = Compare op left right
condition_node (layer.Between negated term low high) = Between negated term low high
condition_node (layer.OneOf negated term terms) = OneOf negated term terms
condition_node (layer.IsNull negated column) = IsNull negated column
condition_node (layer.Not inner) = Not inner.value
condition_node (layer.And parts) = And (operands parts.items)
condition_node (layer.Or parts) = Or (operands parts.items)

-- the tree of a condition
abbrev pub condition_tree : Cond → ConditionTree
condition_tree = fold-Cond ConditionTree condition_node

abbrev pub query_tree : Query → QueryTree
query_tree query =
    record { columns = query.columns; from = query.from; condition = option_map condition_tree query.condition }

-- the tree of a statement
abbrev pub statement_tree : Statement → StatementTree
statement_tree (code.CreateTable table) = CreateTable table
statement_tree (code.CreateIndex index) = CreateIndex index
statement_tree (code.Load load) = Load load
statement_tree (code.Select query) = Select (query_tree query)
statement_tree (code.Compile compile) =
    Compile compile.name compile.levels compile.threshold (query_tree compile.query)
statement_tree (code.Run run) = Run run
statement_tree (code.Explain name) = Explain name
statement_tree (code.SaveFile file) = SaveFile file
statement_tree (code.OpenFile opened) = OpenFile opened.name opened.file (query_tree opened.query)
statement_tree (code.Audit audit) = Audit audit
statement_tree (code.Check name) = Check name
statement_tree (code.Learn run) = Learn run
statement_tree (code.Turns turns) = Turns turns
