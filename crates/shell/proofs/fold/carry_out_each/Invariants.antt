use Rattle.std.proofs.Common.{◌*◌, ◌≤◌, map}
use Rattle.command_line.specs.Limits.{max_work}
use Rattle.sql_parse.specs.Trees.{statement_tree}
use Rattle.workspace.specs.States.{world_of}
use Rattle.shell.specs.Due.{KeepsOutlets}
use Rattle.shell.proofs.Carrying.{IsCarried}
use Rattle.shell.proofs.fold.carry_out_each.Given as goal

abbrev pub invariant-loop-statement : goal.invariant-loop-statement
invariant-loop-statement g l = record {
  carried : IsCarried l.fn.outlets.max_work (map statement_tree l.statements) l.statement-index (g.F.Folder.state l.fn.outlets.folder.now) (g.F.Folder.state l.outlets.folder.now) (world_of l.session) (g.K.Sink.got l.fn.outlets.sink.now) (g.K.Sink.got l.outlets.sink.now) l.outlets.book.now;
  spent : l.outlets.book.now ≤ l.statement-index * max_work;
  lent : KeepsOutlets g.K.Sink.faults l.fn.outlets l.outlets;
}
