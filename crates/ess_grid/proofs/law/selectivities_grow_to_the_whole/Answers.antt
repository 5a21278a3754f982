use Rattle.ess_grid.proofs.Selectivities.{selectivity_of-lt, selectivity_of-halvings}
use Rattle.ess_grid.proofs.law.selectivities_grow_to_the_whole.Goals as goal

pub returns-clause-grow : goal.returns-clause-grow
returns-clause-grow c = selectivity_of-lt

pub returns-clause-halved : goal.returns-clause-halved
returns-clause-halved c = selectivity_of-halvings
