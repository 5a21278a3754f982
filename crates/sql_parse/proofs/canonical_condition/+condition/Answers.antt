use Rattle.std.proofs.Common.{arith}
use Rattle.std.proofs.lemmas.Grind.{common_steps}
use Rattle.sql_parse.specs.Reading.{separator_of}
use Rattle.sql_parse.specs.Printing.{is_group_in}
use Rattle.sql_parse.proofs.Written.{chain-first, chain-next, chain-last}
use Rattle.sql_parse.proofs.canonical_condition.+condition.Goals as goal

pub chain-loop-i-init : goal.chain-loop-i-init
chain-loop-i-init t c = chain-first (separator_of c.args.connective) (is_group_in c.args.connective) c.args.writer.now c.args.parts.now

pub chain-loop-i-preserved : goal.chain-loop-i-preserved
chain-loop-i-preserved t c = grind (arith, common_steps, chain-next)

pub chain-returns : goal.chain-returns
chain-returns t c = chain-last (separator_of c.args.connective) (is_group_in c.args.connective) c.args.writer.now c.loop-i.writer c.args.parts.now c.loop-i.i c.loop-i-test.false c.loop-i.invariant
