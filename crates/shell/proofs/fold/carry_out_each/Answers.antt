-- Each statement's text stands after those before it.
use Rattle.std.proofs.Common.{◌+◌, ◌≤◌, ◌∙◌, map, refl, arith}
use Rattle.std.proofs.lemmas.List.{length-map}
use Rattle.sql_parse.specs.Trees.{statement_tree}
use Rattle.workspace.specs.States.{world_of}
use Rattle.shell.proofs.Carrying.{carried_none, carried_all}
use Rattle.shell.proofs.Folders.{rose_in}
use Rattle.shell.proofs.Ends.{ended_at, on_at}
use Rattle.shell.proofs.fold.carry_out_each.Goals as goal

pub loop-statement-init : goal.loop-statement-init
loop-statement-init g c = record {
  carried = rw (c.requires.new, c.requires.fresh.unpaid) (carried_none c.args.outlets.now.max_work (map statement_tree c.args.statements.now) (g.F.Folder.state c.args.outlets.now.folder.now) (g.K.Sink.got c.args.outlets.now.sink.now));
  spent = omega (arith, c.requires.fresh.unpaid);
  lent = record { most = refl; folder = refl; sink = refl; book = refl; never_falls = omega arith };
}

pub returns-in-Err-clause-carries : goal.returns-in-Err-clause-carries
returns-in-Err-clause-carries g c =
    ended_at c.args.outlets.now.max_work c.args.statements.now c.loop-statement.statement-index (g.F.Folder.state c.args.outlets.now.folder.now) (g.F.Folder.state c.loop-statement.outlets.folder.now) (g.F.Folder.state c.carry_out_one.new.outlets.folder.now)
    (world_of c.loop-statement.session) (world_of c.carry_out_one.new.session) c.statement-item.result (g.K.Sink.got c.args.outlets.now.sink.now) (g.K.Sink.got c.loop-statement.outlets.sink.now) (g.K.Sink.got c.carry_out_one.new.outlets.sink.now)
    c.loop-statement.outlets.book.now c.carry_out_one.new.outlets.book.now _ (omega arith) c.statement-item.is c.loop-statement.invariant.carried
    _ c.in-Err.ended (rose_in c.loop-statement.invariant.lent.never_falls (omega arith)) (rw c.loop-statement.invariant.lent.most at c.in-Err.ensures.carries)

pub loop-statement-preserved : goal.loop-statement-preserved
loop-statement-preserved g c =
    let kept = c.loop-statement.invariant.lent in
    let within : c.carry_out_one.new.outlets.book.now ≤ c.loop-statement.outlets.book.now + c.args.outlets.now.max_work = rw c.loop-statement.invariant.lent.most at c.in-Ok.ensures.within in
    record {
      carried =
          on_at c.args.outlets.now.max_work c.args.statements.now c.loop-statement.statement-index (g.F.Folder.state c.args.outlets.now.folder.now) (g.F.Folder.state c.loop-statement.outlets.folder.now) (g.F.Folder.state c.carry_out_one.new.outlets.folder.now)
          (world_of c.loop-statement.session) (world_of c.carry_out_one.new.session) c.statement-item.result (g.K.Sink.got c.args.outlets.now.sink.now) (g.K.Sink.got c.loop-statement.outlets.sink.now) (g.K.Sink.got c.carry_out_one.new.outlets.sink.now)
          c.loop-statement.outlets.book.now c.carry_out_one.new.outlets.book.now _ (omega arith) c.statement-item.is c.loop-statement.invariant.carried tt (rw c.loop-statement.invariant.lent.most at c.in-Ok.ensures.carries);
      spent = omega (arith, within, c.loop-statement.invariant.spent, c.requires.fresh.most);
      lent = record {
        most = c.in-Ok.ensures.lent.most ∙ kept.most;
        folder = c.in-Ok.ensures.lent.folder ∙ kept.folder;
        sink = c.in-Ok.ensures.lent.sink ∙ kept.sink;
        book = c.in-Ok.ensures.lent.book ∙ kept.book;
        never_falls = omega (arith, kept.never_falls, c.in-Ok.ensures.lent.never_falls);
      };
    }

pub returns-clause-carries : goal.returns-clause-carries
returns-clause-carries g c =
    carried_all c.args.outlets.now.max_work (map statement_tree c.args.statements.now) c.loop-statement.statement-index (g.F.Folder.state c.args.outlets.now.folder.now) (g.F.Folder.state c.loop-statement.outlets.folder.now) (world_of c.loop-statement.session)
    (g.K.Sink.got c.args.outlets.now.sink.now) (g.K.Sink.got c.loop-statement.outlets.sink.now) c.loop-statement.outlets.book.now c.loop-statement.invariant.carried _ (omega (arith, length-map c.args.statements.now statement_tree))
