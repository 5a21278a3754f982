use Rattle.table_stats.proofs.Fitting.{counts-fit}
use Rattle.table_stats.proofs.law.counts_fit_their_block.Goals as goal

pub returns : goal.returns
returns c = counts-fit
