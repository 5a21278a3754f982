use Rattle.std.proofs.Common.{◌≡◌, true, rules}
use Rattle.sql_values.specs.Stored.{values_of}
use Rattle.query_block.specs.Blocks.{relation_tree}
use Rattle.query_block.specs.Meaning.{meets_filter}
use Rattle.exec_scan.proofs.Relations.{first-kept}
use Rattle.exec_scan.proofs.way.find_wanted.Goals as goal

pub returns-then-meets-clause-row : goal.returns-then-meets-clause-row
returns-then-meets-clause-row c =
    let database = c.args.meter.now.database in
    let own = relation_tree c.args.relation.now in
    let words = c.in-Some.row.now in
    let first = rw (c.in-Some.is, c.loop-row.invariant.database) at c.in_ok-row.ensures.row in
    let meets : meets_filter own.filter (values_of database.texts own.columns words) ≡ true = search rules in
    rw c.loop-row.invariant.kept at (first-kept database.texts own _ _ words first (meets_filter own.filter) meets)

pub meets-requires-clause-words : goal.meets-requires-clause-words
meets-requires-clause-words c =
    let first = rw (c.in-Some.is, c.loop-row.invariant.database) at c.in_ok-row.ensures.row in
    rw (c.texts-texts.ensures, c.as_slice-in-Some.ensures) first.are
