-- What was read is carried out; before that nothing is put.
use Rattle.std.proofs.Common.{Err, inl, inr, refl, ap}
use Rattle.shell.specs.declared.status.Status.TheVariants as status
use Rattle.shell.proofs.Runs.{known_bounded, known_emptied, known_read, runs_nothing, runs_whole}
use Rattle.shell.proofs.run.run_source.Goals as goal

pub returns-in-Err-Failed-clause-runs : goal.returns-in-Err-Failed-clause-runs
returns-in-Err-Failed-clause-runs g c =
    runs_nothing c.args.outlets.now.max_work _ _ status.ReadFault (g.K.Sink.got c.args.outlets.now.sink.now) (g.K.Sink.got c.args.outlets.now.sink.now) c.args.outlets.now.book.now (g.S.Source.left c.args.source.now) (g.F.Folder.state c.args.outlets.now.folder.now) c.requires.unpaid
    (inl (refl, c.in-Err-Failed.ensures.faults.rose (ap Err c.in-Err-Failed.field-0-is)))

pub returns-in-Err-NoMemory-clause-runs : goal.returns-in-Err-NoMemory-clause-runs
returns-in-Err-NoMemory-clause-runs g c =
    runs_nothing c.args.outlets.now.max_work _ _ status.NoMemory (g.K.Sink.got c.args.outlets.now.sink.now) (g.K.Sink.got c.args.outlets.now.sink.now) c.args.outlets.now.book.now (g.S.Source.left c.args.source.now) (g.F.Folder.state c.args.outlets.now.folder.now) c.requires.unpaid (inr refl)

pub returns-clause-runs : goal.returns-clause-runs
returns-clause-runs g c =
    runs_whole c.args.outlets.now.max_work _ _ c.carry_out_script.result (g.K.Sink.got c.args.outlets.now.sink.now) (g.K.Sink.got c.carry_out_script.new.outlets.sink.now) c.carry_out_script.new.outlets.book.now (g.S.Source.left c.args.source.now) (g.F.Folder.state c.args.outlets.now.folder.now) (g.F.Folder.state c.carry_out_script.new.outlets.folder.now)
    c.in-Ok.script.items (known_read (g.S.Source.left c.args.source.now) (g.S.Source.left c.read_source.new.source) c.in-Ok.script.items c.in-Ok.ensures.whole) (rw c.deref.ensures.value at c.carry_out_script.ensures.runs)

pub returns-clause-emptied : goal.returns-clause-emptied
returns-clause-emptied g c = λ done.
    known_emptied (g.S.Source.left c.args.source.now) (g.S.Source.left c.read_source.new.source) c.in-Ok.script.items c.in-Ok.ensures.whole (rw c.deref.ensures.value at (c.carry_out_script.ensures.fits done))

pub returns-clause-bounded : goal.returns-clause-bounded
returns-clause-bounded g c =
    known_bounded (g.S.Source.left c.args.source.now) (g.S.Source.left c.read_source.new.source) c.in-Ok.script.items c.in-Ok.ensures.whole
