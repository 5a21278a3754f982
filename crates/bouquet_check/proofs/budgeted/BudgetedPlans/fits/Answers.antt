use Rattle.std.proofs.Common.{arith}
use Rattle.std.proofs.lemmas.Grind.{common_steps}
use Rattle.bouquet_check.proofs.Fitting.{fits-read}
use Rattle.bouquet_check.proofs.budgeted.BudgetedPlans.fits.Goals as goal

pub returns-then-cost-self-clause-fits : goal.returns-then-cost-self-clause-fits
returns-then-cost-self-clause-fits c = grind (arith, common_steps, fits-read)
