use Rattle.std.proofs.Common.{rules, ◌<◌, ◌^◌}
use Rattle.exec_scan.proofs.MarkBits.{lowest}
use Rattle.exec_scan.proofs.marks.first_marked.Goals as goal

pub returns-clause-first : goal.returns-clause-first
returns-clause-first c = λ rows are.
    let few : c.args.marks < 2 ^ 64 = search rules in
    lowest rows c.args.marks are c.requires few
