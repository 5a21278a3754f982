use Rattle.std.proofs.Common.{◌≡◌, ◌++◌, drop}
use Rattle.workspace.proofs.PointTexts.{others_text}
use Rattle.workspace.proofs.lines.push_point.Given as goal

abbrev pub invariant-loop-level : goal.invariant-loop-level
invariant-loop-level l = l.text.items ++ others_text (drop l.level-index l.others) ≡ l.initial.text.items ++ others_text l.others
