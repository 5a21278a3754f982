-- What a bouquet answers.
use Rattle.std.specs.Prelude.{ℕ, nat_le, Bool, true, List, if◌then◌else◌}
use Rattle.sql_values.specs.Steps.{Checked, pure, ◌>>=◌, ◌>>◌}
use Rattle.sql_values.specs.declared.value.Value.{Value}
use Rattle.query_block.specs.Blocks.{BlockTree, put_of}
use Rattle.query_block.specs.Values.{value_fault}
use Rattle.bouquet_type.specs.Trees.{BouquetTree}
use Rattle.bouquet_type.specs.Runs.{run_end}
use Rattle.bouquet_type.specs.declared.report.RunFault.{RunFault}
use Rattle.bouquet_type.specs.declared.report.RunFault.TheVariants as runs
use Rattle.bouquet_run.specs.Outcomes.{works_over}
use Rattle.workspace.specs.declared.refusal.Refusal.{Refusal}
use Rattle.workspace.specs.declared.refusal.Refusal.TheVariants as refusal
use Rattle.workspace.specs.declared.stop.Stop.{Stop}
use Rattle.workspace.specs.declared.stop.Stop.TheVariants as stop
use Rattle.workspace.specs.Present.{present_due}
use Rattle.workspace.specs.Outcome.{Outcome, Prints, Refuses, unless}
use Rattle.workspace.specs.World.{World}
use Rattle.session.specs.Printed.{answer_text}

-- the bouquet of this name, whose counts have to be those of the tables, and its block with these values, which have to fit, in place
-- of its parameters
abbrev pub used_due : World → (name : List ℕ) → List Value → Checked Refusal (BouquetTree × BlockTree)
used_due world name values = do
  bouquet ← present_due world name
  unless refusal.NotFitting (value_fault bouquet.costing.block.parameters values)
  pure (bouquet, put_of values bouquet.costing.block)

-- why a run stops that ends with this fault, by whether a book has its work
abbrev pub stop_of_run : (entered : Bool) → RunFault → Stop
stop_of_run entered (runs.WorkLimit spent) = stop.Refused (refusal.PastWork spent entered)
stop_of_run entered runs.NoMemory = stop.NoMemory

-- the answer on a block, by a run of a bouquet: the block's rows and how the run ends, for the work of the whole run; where that
-- is more than may be spent it is refused, when so much is spent
abbrev pub block_answer : (max_work : ℕ) → World → BouquetTree → BlockTree → Outcome
block_answer max_work world bouquet block =
    let end = run_end bouquet (works_over world.database block) in
    if nat_le end.total max_work then Prints (answer_text world.database block end) end.total world
    else Refuses (refusal.PastWork max_work true)
