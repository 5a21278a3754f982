use Rattle.std.proofs.Common.{rules}
use Rattle.demo_data.proofs.ByTens.{rest_ends_in_0, ten_more}
use Rattle.demo_data.proofs.files.file_of.Goals as goal

pub push_ten-requires-clause-first : goal.push_ten-requires-clause-first
push_ten-requires-clause-first c = rest_ends_in_0 c.loop-ten.ten c.args.first c.requires.first

pub push_ten-requires-clause-second : goal.push_ten-requires-clause-second
push_ten-requires-clause-second c = rest_ends_in_0 c.loop-ten.ten c.args.second c.requires.second

pub loop-ten-preserved : goal.loop-ten-preserved
loop-ten-preserved c =
    let more = ten_more c.args.header.now c.args.first c.args.second c.loop-ten.ten
    c.requires.some_first c.requires.first c.requires.some_second c.requires.second in
    search (rules, more)
