use Rattle.std.proofs.Common.{◌≡◌, false, length, drop, ◌-◌, ◌+◌, ◌<◌, ◌≤◌}
use Rattle.sql_lex.proofs.Texts.{after_text}
use Rattle.sql_lex.proofs.form.text_end.Given as goal

abbrev pub invariant-loop-at : goal.invariant-loop-at
invariant-loop-at l = record {
  in_order : l.start < l.at;
  in_text : l.at ≤ length l.text;
  rest : after_text false (drop (l.start + 1) l.text) ≡ after_text false (drop l.at l.text);
}

abbrev pub decreases-loop-at : goal.decreases-loop-at
decreases-loop-at l = length l.text - l.at
