use Rattle.std.proofs.Common.{◌≡◌, ◌++◌, map, take}
use Rattle.std.specs.List.{flat_map}
use Rattle.turns.specs.Jobs.{job_tree}
use Rattle.session.specs.Printed.{job_text}
use Rattle.session.proofs.turn_lines.push_answers.Given as goal

abbrev pub invariant-loop-place : goal.invariant-loop-place
invariant-loop-place l = l.text.items ≡ l.initial.text.items ++ flat_map job_text (map job_tree (take l.place l.jobs))
