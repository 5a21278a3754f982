use Rattle.std.proofs.Common.{ℕ, length, ◌-◌, ◌≤◌}
use Rattle.sql_lex.specs.Gap.{IsGap}
use Rattle.sql_lex.proofs.gap.gap_end.Given as goal

abbrev pub invariant-loop-end : goal.invariant-loop-end
invariant-loop-end l = record {
  in_text : l.end ≤ length l.text;
  gap : (stop : ℕ) → IsGap l.text l.end stop → IsGap l.text l.from stop;
}

abbrev pub decreases-loop-end : goal.decreases-loop-end
decreases-loop-end l = length l.text - l.end
