use Rattle.std.proofs.Common.{All, subst, sum_by, sym, arith}
use Rattle.std.proofs.lemmas.Grind.{common_steps}
use Rattle.query_block.proofs.Relations.{IsNarrow, narrow, words-map}
use Rattle.query_block.proofs.block.Block.width.Goals as goal

pub words_of-requires-clause-narrow : goal.words_of-requires-clause-narrow
words_of-requires-clause-narrow c =
    subst (All IsNarrow) (sym c.deref.ensures.value) (narrow _ _ c.self.invariant.relations)

pub returns-clause-width : goal.returns-clause-width
returns-clause-width c = grind (arith, common_steps, sum_by, words-map)
