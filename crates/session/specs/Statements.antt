-- What comes of each statement.
use Rattle.std.specs.Prelude.{ℕ, List, Option}
use Rattle.sql_parse.specs.Trees.{StatementTree, CreateTable, CreateIndex, Load, Select, Compile, Run, Explain, SaveFile, OpenFile, Audit, Check, Learn, Turns}
use Rattle.workspace.specs.Check.{check_outcome}
use Rattle.workspace.specs.Compile.{compile_outcome}
use Rattle.workspace.specs.CreateIndex.{create_index_outcome}
use Rattle.workspace.specs.CreateTable.{create_table_outcome}
use Rattle.workspace.specs.Explain.{explain_outcome}
use Rattle.workspace.specs.Load.{load_outcome}
use Rattle.workspace.specs.Outcome.{Outcome}
use Rattle.workspace.specs.Save.{save_outcome}
use Rattle.workspace.specs.Open.{open_outcome}
use Rattle.workspace.specs.World.{World}
use Rattle.session.specs.Audit.{audit_outcome}
use Rattle.session.specs.Learn.{learn_outcome}
use Rattle.session.specs.Run.{run_outcome}
use Rattle.session.specs.Select.{select_outcome}
use Rattle.session.specs.Turns.{turns_outcome}

-- what comes of a statement, with the file that the folder gives for it
abbrev pub statement_outcome : (max_work : ℕ) → World → StatementTree → (file : Option (List ℕ)) → Outcome
statement_outcome max_work world (CreateTable table) file = create_table_outcome world table
statement_outcome max_work world (CreateIndex index) file = create_index_outcome world index
statement_outcome max_work world (Load load) file = load_outcome world load file
statement_outcome max_work world (Select query) file = select_outcome max_work world query
statement_outcome max_work world (Compile name levels threshold query) file = compile_outcome world name levels threshold query
statement_outcome max_work world (Run run) file = run_outcome max_work world run
statement_outcome max_work world (Explain name) file = explain_outcome world name
statement_outcome max_work world (SaveFile save) file = save_outcome world save
statement_outcome max_work world (OpenFile name file_name query) file = open_outcome world name file_name query file
statement_outcome max_work world (Audit audit) file = audit_outcome max_work world audit
statement_outcome max_work world (Check name) file = check_outcome world name
statement_outcome max_work world (Learn run) file = learn_outcome max_work world run
statement_outcome max_work world (Turns turns) file = turns_outcome max_work world turns
