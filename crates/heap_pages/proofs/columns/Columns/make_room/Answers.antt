-- The columns that are begun keep the words.
use Rattle.std.proofs.Common.{sym, subst}
use Rattle.heap_pages.specs.Columns.{AreColumnsOf}
use Rattle.heap_pages.proofs.columns.Columns.make_room.Goals as goal

pub returns-clause-kept : goal.returns-clause-kept
returns-clause-kept c = λ rows are.
    c.make_room_in.ensures.kept rows (subst (AreColumnsOf c.args.growth.width c.args.growth.before rows) (sym c.self.view_is) (c.in_ok-begin.ensures.kept rows are))
