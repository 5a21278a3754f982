use Rattle.bouquet_type.proofs.NextAttempt.{foot-schedule}
use Rattle.bouquet_type.proofs.schedule.Schedule.new.Goals as goal

pub returns : goal.returns
returns g c = foot-schedule (g.L.Ladder.state c.args.ladder) c.requires
