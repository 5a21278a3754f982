-- The statements were carried out, or the script is refused whole, or nothing was put.
use Rattle.std.proofs.Common.{inr, map, Some, refl}
use Rattle.sql_parse.specs.Trees.{statement_tree}
use Rattle.shell.specs.declared.status.Status.TheVariants as status
use Rattle.shell.proofs.Folders.{falls_none}
use Rattle.shell.proofs.Runs.{runs_nothing, runs_script, serves_refusal, serves_statements}
use Rattle.shell.proofs.run.carry_out_script.Goals as goal

pub returns-in-Ok-clause-runs : goal.returns-in-Ok-clause-runs
returns-in-Ok-clause-runs g c =
    let carried = rw c.deref.ensures.value at c.carry_out_all-ended.ensures.carries in
    let before = g.F.Folder.state c.args.outlets.now.folder.now in
    let after = g.F.Folder.state c.carry_out_all-ended.new.outlets.folder.now in
    let had = g.K.Sink.got c.args.outlets.now.sink.now in
    let got = g.K.Sink.got c.carry_out_all-ended.new.outlets.sink.now in
    runs_script c.args.outlets.now.max_work ⊥ _ c.carry_out_all-ended.result had got c.carry_out_all-ended.new.outlets.book.now c.args.script.now before after carried.falls
    (serves_statements c.args.outlets.now.max_work _ c.args.script.now (map statement_tree c.in-Ok.statements.items) before after c.carry_out_all-ended.result had got c.carry_out_all-ended.new.outlets.book.now c.in-Ok.ensures.read carried)

pub returns-in-Err-Refused-clause-runs : goal.returns-in-Err-Refused-clause-runs
returns-in-Err-Refused-clause-runs g c =
    let folder = g.F.Folder.state c.args.outlets.now.folder.now in
    let had = g.K.Sink.got c.args.outlets.now.sink.now in
    let got = g.K.Sink.got c.put_refusal-ended.new.sink in
    let why = c.in-Err-Refused.field-0-is in
    runs_script c.args.outlets.now.max_work ⊥ _ c.put_refusal-ended.result had got c.args.outlets.now.book.now c.args.script.now folder folder (falls_none folder)
    (serves_refusal c.args.outlets.now.max_work _ c.args.script.now c.in-Err-Refused.refusal folder c.put_refusal-ended.result had got c.args.outlets.now.book.now c.requires.unpaid
    (rw why at c.in-Err-Refused.ensures.refused) (rw why at c.put_refusal-ended.ensures.whole) (rw why at c.put_refusal-ended.ensures.part) c.put_refusal-ended.ensures.nothing c.put_refusal-ended.ensures.kinds c.put_refusal-ended.ensures.sink.rose)

pub returns-in-Err-NoMemory-clause-runs : goal.returns-in-Err-NoMemory-clause-runs
returns-in-Err-NoMemory-clause-runs g c =
    runs_nothing c.args.outlets.now.max_work ⊥ _ status.NoMemory (g.K.Sink.got c.args.outlets.now.sink.now) (g.K.Sink.got c.args.outlets.now.sink.now) c.args.outlets.now.book.now (Some c.args.script.now) (g.F.Folder.state c.args.outlets.now.folder.now) c.requires.unpaid (inr refl)
