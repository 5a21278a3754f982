use Rattle.std.proofs.Common.{subst}
use Rattle.db_catalog.specs.Database.{StandAsWords}
use Rattle.db_catalog.proofs.metered.Metered.seek.Goals as goal

pub returns-in_err-cursor-clause-rows : goal.returns-in_err-cursor-clause-rows
returns-in_err-cursor-clause-rows c = subst (λ meter. StandAsWords meter.database c.args.table) c.self.view_is c.index-index.ensures.rows

pub returns-clause-rows : goal.returns-clause-rows
returns-clause-rows c = subst (λ meter. StandAsWords meter.database c.args.table) c.self.view_is c.index-index.ensures.rows
