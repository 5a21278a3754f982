-- What the read gave is the file, or the run ends.
use Rattle.std.specs.Prelude.{Ok, Err}
use Rattle.outside_io.specs.declared.fault.FileFault.TheVariants as fault
use Rattle.shell.proofs.Folders.{gives_file}
use Rattle.shell.proofs.fold.read_file.Goals as goal

pub returns-in-Ok : goal.returns-in-Ok
returns-in-Ok g c =
    let out = rw c.file_name.ensures at c.in-Ok.ensures in
    gives_file c.args.name.now (g.F.Folder.state c.args.folder.now) (g.F.Folder.state c.read.new.self) (Ok c.in-Ok.bytes) out.known out.within out.reads

pub returns-in-Err-Absent : goal.returns-in-Err-Absent
returns-in-Err-Absent g c =
    let out = rw (c.in-Err-Absent.field-0-is, c.file_name.ensures) at c.in-Err-Absent.ensures in
    gives_file c.args.name.now (g.F.Folder.state c.args.folder.now) (g.F.Folder.state c.read.new.self) (Err fault.Absent) out.known out.within out.reads

pub returns-in-Err-TooLong : goal.returns-in-Err-TooLong
returns-in-Err-TooLong g c =
    let out = rw (c.in-Err-TooLong.field-0-is, c.file_name.ensures) at c.in-Err-TooLong.ensures in
    gives_file c.args.name.now (g.F.Folder.state c.args.folder.now) (g.F.Folder.state c.read.new.self) (Err (fault.TooLong c.in-Err-TooLong.len)) out.known out.within out.reads

pub returns-in-Err-Failed : goal.returns-in-Err-Failed
returns-in-Err-Failed g c =
    let out = rw c.in-Err-Failed.field-0-is at c.in-Err-Failed.ensures in
    gives_file c.args.name.now (g.F.Folder.state c.args.folder.now) (g.F.Folder.state c.read.new.self) (Err fault.Failed) out.known out.within out.reads

pub returns-in-Err-NoMemory : goal.returns-in-Err-NoMemory
returns-in-Err-NoMemory g c =
    let out = rw c.in-Err-NoMemory.field-0-is at c.in-Err-NoMemory.ensures in
    gives_file c.args.name.now (g.F.Folder.state c.args.folder.now) (g.F.Folder.state c.read.new.self) (Err fault.NoMemory) out.known out.within out.reads
