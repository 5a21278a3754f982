use Rattle.std.proofs.Common.{◌≡◌, ◌++◌, drop}
use Rattle.result_text.specs.Ties.{weave}
use Rattle.result_text.proofs.ties.weave.Given as goal

abbrev pub invariant-loop-place : goal.invariant-loop-place
invariant-loop-place l = l.woven.items ++ weave (drop l.place l.ties) (drop l.place l.rows) (drop l.next l.tied) ≡ weave l.ties l.rows l.tied
