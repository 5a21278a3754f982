use Rattle.std.proofs.Common.{rules, arith, ap, refl, Some}
use Rattle.std.specs.Prelude.{pos}
use Rattle.btree_index.proofs.Ranges.{left_step}
use Rattle.btree_index.proofs.index.Index.next.Goals as goal

pub returns-in_err-pay-2-clause-pays : goal.returns-in_err-pay-2-clause-pays
returns-in_err-pay-2-clause-pays c =
    let cursor = c.args.cursor.now in
    rw (left_step c.args.self.now cursor.next cursor.end (pos 0, 0) (omega (arith, c.if-cursor.false)) c.requires.end) (search rules)

pub returns-clause-moves : goal.returns-clause-moves
returns-clause-moves c =
    let cursor = c.args.cursor.now in
    let left = left_step c.args.self.now cursor.next cursor.end (pos 0, 0) (omega (arith, c.if-cursor.false)) c.requires.end in
    record { row = rw left (ap Some (c.row_at-row.ensures (pos 0, 0))); left = rw left refl; unchanged = tt; placed = search rules }

pub returns-clause-pays : goal.returns-clause-pays
returns-clause-pays c =
    let cursor = c.args.cursor.now in
    rw (left_step c.args.self.now cursor.next cursor.end (pos 0, 0) (omega (arith, c.if-cursor.false)) c.requires.end) (search rules)
