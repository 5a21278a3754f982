use Rattle.known_rows.proofs.Laws.{work-le}
use Rattle.known_rows.proofs.law.no_plan_works_less_than_the_least.Goals as goal

pub returns : goal.returns
returns c = work-le
