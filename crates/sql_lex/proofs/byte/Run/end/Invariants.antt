use Rattle.std.proofs.Common.{length, ◌-◌, ◌≡◌, ℕ, ◌<◌, ◌≤◌, true, get_or}
use Rattle.sql_lex.specs.Run.{belongs}
use Rattle.sql_lex.proofs.byte.Run.end.Given as goal

abbrev pub invariant-loop-end : goal.invariant-loop-end
invariant-loop-end l = record {
  in_order : l.start ≤ l.end;
  in_script : l.end ≤ length l.text;
  inside : (k : ℕ) → l.start ≤ k → k < l.end → belongs l.self (get_or l.text k 0) ≡ true;
}

abbrev pub decreases-loop-end : goal.decreases-loop-end
decreases-loop-end l = length l.text - l.end
