use Rattle.std.proofs.Common.{All, subst, sym, sum_by, arith}
use Rattle.std.proofs.lemmas.Grind.{common_steps}
use Rattle.std.proofs.lemmas.List.Elements.{All-take}
use Rattle.query_block.proofs.Relations.{IsNarrow, narrow, words-first}
use Rattle.query_block.proofs.block.Block.offset.Goals as goal

pub words_of-requires-clause-narrow : goal.words_of-requires-clause-narrow
words_of-requires-clause-narrow c =
    All-take IsNarrow c.args.relation _ (subst (All IsNarrow) (sym c.deref.ensures.value) (narrow _ _ c.self.invariant.relations))

pub returns : goal.returns
returns c = grind (arith, common_steps, sum_by, words-first)
