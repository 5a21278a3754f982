-- When a check refuses, what comes of a query, and what a look-up has found so far.
use Rattle.std.specs.Prelude.{◌≡◌, ◌≢◌, length, Option, Some, None, Result, Err, OnOk, IfOk, IfErr, IfSome, MatchResult}
use Rattle.sql_values.specs.Limits.{max_relations}
use Rattle.sql_values.specs.declared.limit.LimitName.TheVariants as limit
use Rattle.query_block.specs.Shape.{BlockShape}
use Rattle.query_block.specs.declared.edge.ColumnAt.{ColumnAt}
use Rattle.query_block.specs.Blocks.{block_tree}
use Rattle.sql_parse.specs.Trees.{QueryTree}
use Rattle.sql_parse.specs.Parameters.{parameters_of_condition}
use Rattle.db_catalog.specs.Database.{DatabaseState}
use Rattle.db_catalog.specs.Fits.{Fits}
use Rattle.sql_bind.specs.declared.fault.BindFault.{BindFault}
use Rattle.sql_bind.specs.declared.fault.BindFault.TheVariants.{NoMemory}
use Rattle.sql_bind.specs.declared.names.NamedColumns.{NamedColumns}
use Rattle.sql_bind.specs.declared.names.NamedColumns.TheVariants.{Nothing, One, Several}
use Rattle.sql_bind.specs.Binding.{block_of, bind_fault, past_limit}

-- a call is refused with the fault that is due, and otherwise it isn't; only memory may be wanting besides
pub record RefusesBlock {T : Type 0} (due : Option BindFault) (result : Result T BindFault) : Type 0 where
  pub answered : OnOk result (due ≡ None)
  pub refused : IfErr result (λ fault. fault ≢ NoMemory → due ≡ Some fault)

-- a call that takes no memory is refused with the fault that is due, and otherwise it isn't
abbrev pub RefusesAlways : {T : Type 0} → Option BindFault → Result T BindFault → Type 0
RefusesAlways due result = MatchResult result (λ _. due ≡ None) (λ fault. due ≡ Some fault)

-- a query's answer is its block, which fits the database, with a kind for each parameter of the query; it is refused with
-- the fault that is due, and where FROM has too many tables, even without memory
pub record Binds (database : DatabaseState) (query : QueryTree) (result : Result BlockShape BindFault) : Type 0 where
  pub block : IfOk result (λ block. block_tree block ≡ block_of database query)
  pub fits : IfOk result (λ block. Fits database (block_tree block))
  pub parameters : IfOk result (λ block. length (block_tree block).parameters ≡ length (parameters_of_condition query.condition))
  pub refuses : RefusesBlock (bind_fault database query) result
  pub counted : IfSome (past_limit limit.Relations max_relations (length query.from)) (λ fault. result ≡ Err fault)

-- a column more is found
abbrev pub added : NamedColumns → ColumnAt → NamedColumns
added Nothing place = One place
added other place = Several
