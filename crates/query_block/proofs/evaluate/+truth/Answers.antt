use Rattle.std.proofs.Common.{ap, arith}
use Rattle.std.proofs.lemmas.Grind.{common_steps}
use denote.Param.Weighed.{at_most}
use Rattle.query_block.proofs.condition.Condition.TheLaws.{the_size}
use Rattle.query_block.proofs.Chains.{part-fits}
use Rattle.query_block.proofs.evaluate.+truth.Goals as goal

pub truth_of_all-holds_of_column-requires : goal.truth_of_all-holds_of_column-requires
truth_of_all-holds_of_column-requires t c = grind (arith, common_steps, part-fits)

pub truth_of_all-truth_on-truth-requires : goal.truth_of_all-truth_on-truth-requires
truth_of_all-truth_on-truth-requires t c = (
  omega (arith, at_most the_size c.args.parts.now c.loop-part.part-index c.part-item.result c.loop-part-test.true, ap the_size c.part-item.is),
  record { row = c.requires.row; fits = part-fits c.args.row.now.columns.now c.args.parts.now c.loop-part.part-index c.part-item.result c.loop-part-test.true c.part-item.is c.requires.fits },
)

pub truth_of_any-holds_of_column-requires : goal.truth_of_any-holds_of_column-requires
truth_of_any-holds_of_column-requires t c = grind (arith, common_steps, part-fits)

pub truth_of_any-truth_on-truth-requires : goal.truth_of_any-truth_on-truth-requires
truth_of_any-truth_on-truth-requires t c = (
  omega (arith, at_most the_size c.args.parts.now c.loop-part.part-index c.part-item.result c.loop-part-test.true, ap the_size c.part-item.is),
  record { row = c.requires.row; fits = part-fits c.args.row.now.columns.now c.args.parts.now c.loop-part.part-index c.part-item.result c.loop-part-test.true c.part-item.is c.requires.fits },
)
