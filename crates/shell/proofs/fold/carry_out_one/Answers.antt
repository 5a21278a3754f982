-- What the statement returned was put: its text, or the line of its refusal, or nothing.
use Rattle.std.proofs.Common.{◌≡◌, ◌+◌, [], arith}
use Rattle.std.specs.Prelude.{Ok, Err}
use Rattle.std.proofs.KnownBytes.{Appends-nil}
use Rattle.sql_parse.specs.Trees.{statement_tree}
use Rattle.workspace.specs.States.{world_of}
use Rattle.workspace.specs.declared.stop.Stop.TheVariants as stop
use Rattle.shell.specs.Due.{IsCarriedOut}
use Rattle.shell.specs.declared.status.Status.TheVariants as status
use Rattle.shell.specs.Due.EndsAt.{breaks}
use Rattle.shell.specs.Serve.BreaksBefore.{no_memory}
use Rattle.shell.proofs.Carrying.{breaks_in}
use Rattle.shell.proofs.Folders.{quiet_none}
use Rattle.shell.proofs.Ends.{ends_refused, paid_more, returned_text, stopped_at}
use Rattle.shell.proofs.fold.carry_out_one.Goals as goal

pub returns-in-Ok-Ok-clause-carries : goal.returns-in-Ok-Ok-clause-carries
returns-in-Ok-Ok-clause-carries g c =
    let out = rw c.in-Ok-Ok.field-0-is at c.in-Ok-Ok.ensures in
    returned_text c.args.outlets.now.max_work _ (statement_tree c.args.statement.now) (g.F.Folder.state c.args.outlets.now.folder.now) (g.F.Folder.state c.carry_out.new.outlets.folder.now) (world_of c.args.session.now) (world_of c.carry_out.new.session) c.args.outlets.now.book.now c.carry_out.new.outlets.book.now
    (g.K.Sink.got c.args.outlets.now.sink.now) (g.K.Sink.got c.put_text.new.sink) c.in-Ok-Ok.text c.put_text.result out.carries out.pays.within out.bounded
    (rw (c.deref.ensures.value, out.sink) at c.put_text.ensures.whole) (rw (c.deref.ensures.value, out.sink) at c.put_text.ensures.part) (rw out.sink at c.put_text.ensures.nothing) (rw c.deref.ensures.value at c.put_text.ensures.some) c.put_text.ensures.kinds (rw out.sink at c.put_text.ensures.sink.rose)

pub returns-in-Ok-Err-Refused-clause-carries : goal.returns-in-Ok-Err-Refused-clause-carries
returns-in-Ok-Err-Refused-clause-carries g c =
    let out = c.in-Ok-Err-Refused.ensures in
    let before = g.F.Folder.state c.args.outlets.now.folder.now in
    let after = g.F.Folder.state c.carry_out.new.outlets.folder.now in
    let carried : IsCarriedOut c.args.outlets.now.max_work (statement_tree c.args.statement.now) before after (world_of c.args.session.now) (world_of c.carry_out.new.session) c.args.outlets.now.book.now c.carry_out.new.outlets.book.now (Ok (Err (stop.Refused c.in-Ok-Err-Refused.refusal))) =
    rw (c.in-Ok-Err-Refused.field-0-is, c.in-Ok-Err-Refused.field-0-0-is) at out.carries in
    let does = carried.does in
    stopped_at c.args.outlets.now.max_work _ (statement_tree c.args.statement.now) before after (world_of c.args.session.now) (world_of c.carry_out.new.session) c.args.outlets.now.book.now c.carry_out.new.outlets.book.now (g.K.Sink.got c.args.outlets.now.sink.now) (g.K.Sink.got c.put_refusal-refused.new.sink)
    _ c.put_refusal-refused.result carried
    (ends_refused c.args.outlets.now.max_work _ (statement_tree c.args.statement.now) carried.file before after (world_of c.args.session.now) (g.K.Sink.got c.args.outlets.now.sink.now) (g.K.Sink.got c.put_refusal-refused.new.sink) c.args.outlets.now.book.now c.carry_out.new.outlets.book.now
    c.in-Ok-Err-Refused.refusal c.put_refusal-refused.result does.0 does.1 out.pays.within carried.quiet does.2 c.put_refusal-refused.ensures.kinds (rw out.sink at c.put_refusal-refused.ensures.whole) (rw out.sink at c.put_refusal-refused.ensures.part) (rw out.sink at c.put_refusal-refused.ensures.nothing) (rw out.sink at c.put_refusal-refused.ensures.sink.rose) c.put_refusal-refused.ensures.some)

pub returns-in-Ok-Err-NoMemory-clause-carries : goal.returns-in-Ok-Err-NoMemory-clause-carries
returns-in-Ok-Err-NoMemory-clause-carries g c =
    let out = c.in-Ok-Err-NoMemory.ensures in
    let before = g.F.Folder.state c.args.outlets.now.folder.now in
    let after = g.F.Folder.state c.carry_out.new.outlets.folder.now in
    let got = g.K.Sink.got c.args.outlets.now.sink.now in
    let carried : IsCarriedOut c.args.outlets.now.max_work (statement_tree c.args.statement.now) before after (world_of c.args.session.now) (world_of c.carry_out.new.session) c.args.outlets.now.book.now c.carry_out.new.outlets.book.now (Ok (Err stop.NoMemory)) =
    rw (c.in-Ok-Err-NoMemory.field-0-is, c.in-Ok-Err-NoMemory.field-0-0-is) at out.carries in
    let more = paid_more c.args.outlets.now.book.now c.carry_out.new.outlets.book.now c.args.outlets.now.max_work out.pays.never_falls out.pays.within in
    stopped_at c.args.outlets.now.max_work _ (statement_tree c.args.statement.now) before after (world_of c.args.session.now) (world_of c.carry_out.new.session) c.args.outlets.now.book.now c.carry_out.new.outlets.book.now got (g.K.Sink.got c.carry_out.new.outlets.sink.now)
    _ status.NoMemory carried
    (breaks status.NoMemory [] more.0 (rw out.sink (Appends-nil got)) more.2 (no_memory more.0 more.1 carried.quiet carried.does))

pub returns-in-Err-clause-carries : goal.returns-in-Err-clause-carries
returns-in-Err-clause-carries g c =
    let out = c.in-Err.ensures in
    let before = g.F.Folder.state c.args.outlets.now.folder.now in
    let got = g.K.Sink.got c.args.outlets.now.sink.now in
    let unpaid : c.carry_out.new.outlets.book.now ≡ c.args.outlets.now.book.now + 0 = omega (arith, out.carries.does.0) in
    stopped_at c.args.outlets.now.max_work _ (statement_tree c.args.statement.now) before (g.F.Folder.state c.carry_out.new.outlets.folder.now) (world_of c.args.session.now) (world_of c.carry_out.new.session) c.args.outlets.now.book.now c.carry_out.new.outlets.book.now got (g.K.Sink.got c.carry_out.new.outlets.sink.now)
    _ c.in-Err.ended out.carries
    (breaks c.in-Err.ended [] 0 (rw out.sink (Appends-nil got)) unpaid (breaks_in (λ none. absurd none) (quiet_none before) out.carries.does.1))
