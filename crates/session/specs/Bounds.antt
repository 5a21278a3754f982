-- The answer of a query, and the bound on the work that it prints, of a run that learns too.
use Rattle.std.specs.Prelude.{⊤, ℕ, List, [], None, Option, Result, Vec, All, IfOk, IfSome, OnOk}
use Rattle.std.specs.declared.alloc.Global.{Global}
use Rattle.sql_values.specs.Limits.{default_threshold}
use Rattle.sql_values.specs.declared.value.Value.{Value}
use Rattle.query_block.specs.Blocks.{put_of}
use Rattle.sql_parse.specs.Trees.{StatementTree, Select, Run, Check, Learn, Turns}
use Rattle.sql_parse.specs.declared.tree.RunDef.{RunDef}
use Rattle.db_catalog.specs.Database.{DatabaseState}
use Rattle.bouquet_type.specs.Trees.{BouquetTree}
use Rattle.bouquet_type.specs.Compiled.{IsCompiled}
use Rattle.bouquet_type.specs.Sound.{IsSound}
use Rattle.bouquet_type.specs.Runs.{total_work}
use Rattle.bouquet_type.specs.Bounded.{IsWithinBound, MeetsBound}
use Rattle.bouquet_run.specs.Outcomes.{works_over}
use Rattle.learned_run.specs.Skips.{learned_end}
use Rattle.workspace.specs.Bouquets.{bouquet_due}
use Rattle.workspace.specs.Check.{VerdictHolds}
use Rattle.workspace.specs.Counted.{HasCountsOf}
use Rattle.workspace.specs.World.{World, bouquet_in}
use Rattle.workspace.specs.declared.stop.Stop.{Stop}
use Rattle.session.specs.Returns.{PaysAtMost, ReturnsDue}
use Rattle.session.specs.Statements.{statement_outcome}

-- its counts are those of the tables, and the work of its run over them with these values meets the bound, which holds of sound bouquets; it is
-- sound where it is compiled, though it were opened from a file
pub record RunsWithinBound (database : DatabaseState) (values : List Value) (bouquet : BouquetTree) : Type 0 where
  pub counts : HasCountsOf database.tables bouquet
  pub bound : let work = works_over database (put_of values bouquet.costing.block) in MeetsBound bouquet work (total_work bouquet work)
  pub sound : IsCompiled bouquet → IsSound bouquet

-- its counts are those of the tables, and where it is compiled the work of its run that learns with these values is within the bound
pub record LearnsWithinBound (database : DatabaseState) (values : List Value) (bouquet : BouquetTree) : Type 0 where
  pub counts : HasCountsOf database.tables bouquet
  pub bound : let work = works_over database (put_of values bouquet.costing.block) in IsCompiled bouquet → IsWithinBound bouquet work (learned_end bouquet work).total

-- the bouquet of a name is within its bound, with these values
abbrev pub IsUsedWithin : World → RunDef → Type 0
IsUsedWithin world run = IfSome (bouquet_in run.name world.bouquets) (RunsWithinBound world.database run.values)

-- so it is for each bouquet by which a query is answered, with the statement's values; that of a SELECT is sound. Of a bouquet that
-- is checked the verdict holds
abbrev pub IsAnsweredWithin : World → StatementTree → Type 0
IsAnsweredWithin world (Select query) =
    IfOk (bouquet_due world.database query None default_threshold) (λ bouquet. IsSound bouquet × RunsWithinBound world.database [] bouquet)
IsAnsweredWithin world (Run run) = IsUsedWithin world run
IsAnsweredWithin world (Check name) = IfSome (bouquet_in name world.bouquets) VerdictHolds
IsAnsweredWithin world (Turns turns) = All (IsUsedWithin world) turns.uses
IsAnsweredWithin world (Learn run) = IfSome (bouquet_in run.name world.bouquets) (LearnsWithinBound world.database run.values)
IsAnsweredWithin world other = ⊤

-- what a query's statement returned is due to it, an answer is within its bound, and no more was paid than may be
pub record Answers (max_work : ℕ) (world : World) (statement : StatementTree) (result : Result (Vec ℕ Global) Stop) (old new : ℕ) : Type 0 where
  pub due : (file : Option (List ℕ)) → ReturnsDue (statement_outcome max_work world statement file) result world old new
  pub bounded : OnOk result (IsAnsweredWithin world statement)
  pub pays : PaysAtMost max_work old new
