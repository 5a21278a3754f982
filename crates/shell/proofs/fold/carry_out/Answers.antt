-- The statement is done, or its file is written, or it is finished with the file that it asks for.
use Rattle.std.proofs.Common.{refl}
use Rattle.sql_parse.specs.Trees.{statement_tree}
use Rattle.workspace.specs.States.{world_of}
use Rattle.shell.proofs.Carried.{carried_no_room, carried_prints, carried_saves, carried_stops, carried_unread, carried_unsaved, carried_with_file}
use Rattle.shell.proofs.fold.carry_out.Goals as goal

pub returns-in-Ok-Prints-clause-carries : goal.returns-in-Ok-Prints-clause-carries
returns-in-Ok-Prints-clause-carries g c =
    carried_prints c.args.outlets.now.max_work (statement_tree c.args.statement.now) (world_of c.args.session.now) (world_of c.begin.new.self) (g.F.Folder.state c.args.outlets.now.folder.now) c.args.outlets.now.book.now c.begin.new.book c.in-Ok-Prints.text
    (rw c.in-Ok-Prints.field-0-is at c.in-Ok-Prints.ensures.begins)

pub returns-in-Ok-clause-carries : goal.returns-in-Ok-clause-carries
returns-in-Ok-clause-carries g c =
    carried_saves c.args.outlets.now.max_work (statement_tree c.args.statement.now) (world_of c.args.session.now) (world_of c.begin.new.self) (g.F.Folder.state c.args.outlets.now.folder.now) c.args.outlets.now.book.now c.begin.new.book (g.F.Folder.state c.write.new.self) c.in-Ok-Saves.name c.in-Ok-Saves.bytes
    (rw c.in-Ok-Saves.field-0-is at c.in-Ok-Saves.ensures.begins) _ c.in-Ok.ensures.writes (λ is. cc is) c.new.result c.new.ensures.items (rw (c.file_name.ensures, c.deref.ensures.value) at c.in-Ok.ensures.written)

pub returns-in-Err-Failed-clause-carries : goal.returns-in-Err-Failed-clause-carries
returns-in-Err-Failed-clause-carries g c =
    let out = rw c.in-Err-Failed.field-0-is at c.in-Err-Failed.ensures in
    carried_unsaved c.args.outlets.now.max_work (statement_tree c.args.statement.now) (world_of c.args.session.now) (world_of c.begin.new.self) (g.F.Folder.state c.args.outlets.now.folder.now) c.args.outlets.now.book.now c.begin.new.book (g.F.Folder.state c.write.new.self) c.in-Ok-Saves.name c.in-Ok-Saves.bytes
    (rw c.in-Ok-Saves.field-0-is at c.in-Ok-Saves.ensures.begins) _ out.writes refl (rw c.file_name.ensures at (out.others refl))

pub returns-in-Err-NoMemory-clause-carries : goal.returns-in-Err-NoMemory-clause-carries
returns-in-Err-NoMemory-clause-carries g c =
    let out = rw c.in-Err-NoMemory.field-0-is at c.in-Err-NoMemory.ensures in
    carried_no_room c.args.outlets.now.max_work (statement_tree c.args.statement.now) (world_of c.args.session.now) (world_of c.begin.new.self) (g.F.Folder.state c.args.outlets.now.folder.now) c.args.outlets.now.book.now c.begin.new.book (g.F.Folder.state c.write.new.self) c.in-Ok-Saves.name c.in-Ok-Saves.bytes
    (rw c.in-Ok-Saves.field-0-is at c.in-Ok-Saves.ensures.begins) _ out.writes (λ is. cc is) (out.nothing refl)

pub returns-in-Ok-read_file-clause-carries : goal.returns-in-Ok-read_file-clause-carries
returns-in-Ok-read_file-clause-carries g c =
    carried_with_file c.args.outlets.now.max_work (statement_tree c.args.statement.now) (world_of c.args.session.now) (g.F.Folder.state c.args.outlets.now.folder.now) (g.F.Folder.state c.read_file.new.folder) c.args.outlets.now.book.now c.begin.new.book c.in-Ok-Asks.asked (world_of c.begin.new.self)
    (rw c.in-Ok-Asks.field-0-is at c.in-Ok-Asks.ensures.begins) c.in-Ok-read_file.given c.finish.result (world_of c.finish.new.self) c.in-Ok-read_file.ensures (c.finish.ensures.due c.in-Ok-read_file.ensures.file c.in-Ok-read_file.ensures.reads.0)

pub returns-in-Ok-Asks-clause-carries : goal.returns-in-Ok-Asks-clause-carries
returns-in-Ok-Asks-clause-carries g c =
    carried_unread c.args.outlets.now.max_work (statement_tree c.args.statement.now) (world_of c.args.session.now) (g.F.Folder.state c.args.outlets.now.folder.now) (g.F.Folder.state c.read_file.new.folder) c.args.outlets.now.book.now c.begin.new.book c.in-Ok-Asks.asked (world_of c.begin.new.self)
    (rw c.in-Ok-Asks.field-0-is at c.in-Ok-Asks.ensures.begins) c.in-Err-read_file.ended c.in-Err-read_file.ensures

pub returns-clause-carries : goal.returns-clause-carries
returns-clause-carries g c =
    carried_stops c.args.outlets.now.max_work (statement_tree c.args.statement.now) (world_of c.args.session.now) (world_of c.begin.new.self) (g.F.Folder.state c.args.outlets.now.folder.now) c.args.outlets.now.book.now c.begin.new.book c.in-Err.stop c.in-Err.ensures.begins
