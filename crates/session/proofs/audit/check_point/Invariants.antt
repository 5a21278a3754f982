use Rattle.std.proofs.Common.{◌≡◌, drop}
use Rattle.session.specs.Audit.{level_refusal}
use Rattle.session.proofs.audit.check_point.Given as goal

abbrev pub invariant-loop-level : goal.invariant-loop-level
invariant-loop-level l = level_refusal l.count (drop l.level-index l.levels) ≡ level_refusal l.count l.levels
