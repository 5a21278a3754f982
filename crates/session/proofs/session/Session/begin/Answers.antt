-- What a statement prints it prints as it begins.
use Rattle.sql_parse.specs.Trees.{Audit, Check, Compile, CreateIndex, CreateTable, Explain, Learn, Load, OpenFile, Run, SaveFile, Select, Turns, query_tree}
use Rattle.workspace.specs.States.{world_of}
use Rattle.session.proofs.Beginning.{begins_due, begins_free, begins_so}
use Rattle.session.proofs.session.Session.begin.Goals as goal

pub returns-in-CreateTable-clause-begins : goal.returns-in-CreateTable-clause-begins
returns-in-CreateTable-clause-begins c = rw (← c.self.view_is, c.in-CreateTable.is, c.prints.ensures) (begins_free c.args.max_work (world_of c.self.inside.workspace) (CreateTable c.in-CreateTable.table) (world_of c.create_table.new.self) c.create_table.result c.args.book.now (λ file. c.create_table.ensures.due))

pub returns-in-CreateIndex-clause-begins : goal.returns-in-CreateIndex-clause-begins
returns-in-CreateIndex-clause-begins c = rw (← c.self.view_is, c.in-CreateIndex.is, c.prints-in-CreateIndex.ensures) (begins_free c.args.max_work (world_of c.self.inside.workspace) (CreateIndex c.in-CreateIndex.index) (world_of c.create_index.new.self) c.create_index.result c.args.book.now (λ file. c.create_index.ensures.due))

pub returns-in-Select-clause-begins : goal.returns-in-Select-clause-begins
returns-in-Select-clause-begins c = rw (c.in-Select.is, c.prints-in-Select.ensures) (begins_due c.args.max_work (world_of c.args.self.now) (Select (query_tree c.in-Select.query)) (world_of c.args.self.now) c.select.result c.args.book.now c.select.new.book c.select.ensures.due)

pub returns-in-Compile-clause-begins : goal.returns-in-Compile-clause-begins
returns-in-Compile-clause-begins c =
    let compile = c.in-Compile.compile in
    rw (← c.self.view_is, c.in-Compile.is, c.prints-in-Compile.ensures) (begins_free c.args.max_work (world_of c.self.inside.workspace) (Compile compile.name compile.levels compile.threshold (query_tree compile.query)) (world_of c.compile.new.self) c.compile.result c.args.book.now (λ file. c.compile.ensures.due))

pub returns-in-Run-clause-begins : goal.returns-in-Run-clause-begins
returns-in-Run-clause-begins c = rw (c.in-Run.is, c.prints-in-Run.ensures) (begins_due c.args.max_work (world_of c.args.self.now) (Run c.in-Run.run') (world_of c.args.self.now) c.run.result c.args.book.now c.run.new.book c.run.ensures.due)

pub returns-in-Explain-clause-begins : goal.returns-in-Explain-clause-begins
returns-in-Explain-clause-begins c = rw (← c.self.view_is, c.in-Explain.is, c.prints-in-Explain.ensures) (begins_free c.args.max_work (world_of c.self.inside.workspace) (Explain c.in-Explain.name) (world_of c.self.inside.workspace) c.explain.result c.args.book.now (λ file. c.explain.ensures))

pub returns-in-Audit-clause-begins : goal.returns-in-Audit-clause-begins
returns-in-Audit-clause-begins c = rw (c.in-Audit.is, c.prints-in-Audit.ensures) (begins_free c.args.max_work (world_of c.args.self.now) (Audit c.in-Audit.audit) (world_of c.args.self.now) c.audit.result c.args.book.now (λ file. c.audit.ensures))

pub returns-in-Check-clause-begins : goal.returns-in-Check-clause-begins
returns-in-Check-clause-begins c = rw (← c.self.view_is, c.in-Check.is, c.prints-in-Check.ensures) (begins_free c.args.max_work (world_of c.self.inside.workspace) (Check c.in-Check.name) (world_of c.self.inside.workspace) c.check.result c.args.book.now (λ file. c.check.ensures.due))

pub returns-in-Learn-clause-begins : goal.returns-in-Learn-clause-begins
returns-in-Learn-clause-begins c = rw (c.in-Learn.is, c.prints-in-Learn.ensures) (begins_free c.args.max_work (world_of c.args.self.now) (Learn c.in-Learn.run') (world_of c.args.self.now) c.learn.result c.args.book.now (λ file. c.learn.ensures.due))

pub returns-in-Turns-clause-begins : goal.returns-in-Turns-clause-begins
returns-in-Turns-clause-begins c = rw (c.in-Turns.is, c.prints-in-Turns.ensures) (begins_free c.args.max_work (world_of c.args.self.now) (Turns c.in-Turns.turns) (world_of c.args.self.now) c.turns.result c.args.book.now (λ file. c.turns.ensures.due))

pub returns-in-Load-clause-begins : goal.returns-in-Load-clause-begins
returns-in-Load-clause-begins c = rw (← c.self.view_is, c.in-Load.is) (begins_so c.args.max_work (world_of c.self.inside.workspace) (Load c.in-Load.load) c.load.result c.args.book.now c.load.ensures)

pub returns-in-SaveFile-clause-begins : goal.returns-in-SaveFile-clause-begins
returns-in-SaveFile-clause-begins c = rw (← c.self.view_is, c.in-SaveFile.is) (begins_so c.args.max_work (world_of c.self.inside.workspace) (SaveFile c.in-SaveFile.save) c.save_file.result c.args.book.now c.save_file.ensures)

pub returns-in-OpenFile-clause-begins : goal.returns-in-OpenFile-clause-begins
returns-in-OpenFile-clause-begins c = rw (← c.self.view_is, c.in-OpenFile.is) (begins_so c.args.max_work (world_of c.self.inside.workspace) (OpenFile c.in-OpenFile.opened.name c.in-OpenFile.opened.file (query_tree c.in-OpenFile.opened.query)) c.open_file.result c.args.book.now c.open_file.ensures)
