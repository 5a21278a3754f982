use Rattle.bouquet_check.proofs.Shown.{verdict-shown}
use Rattle.bouquet_check.proofs.law.verdicts_are_evidence.Goals as goal

pub returns : goal.returns
returns c = verdict-shown
