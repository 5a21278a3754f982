use Rattle.std.proofs.Common.{sym, ◌∙◌, arith}
use Rattle.sql_lex.specs.Gap.IsGap.{nothing, white, comment}
use Rattle.sql_lex.proofs.gap.gap_end.Goals as goal

pub loop-end-preserved-then-is_white : goal.loop-end-preserved-then-is_white
loop-end-preserved-then-is_white c = record {
  in_text = omega arith;
  gap = λ stop rest. c.loop-end.invariant.gap stop (white _ _ (sym c.is_white.ensures ∙ c.if-is_white.true) rest);
}

pub loop-end-preserved : goal.loop-end-preserved
loop-end-preserved c = record {
  in_text = c.end-end.ensures.in_script;
  gap = λ stop rest. c.loop-end.invariant.gap stop
      (comment _ c.end-end.result _ (sym c.comment_begins.ensures ∙ c.if-comment_begins.true) c.end-end.ensures rest);
}

pub returns-after-loop-end-clause-gap : goal.returns-after-loop-end-clause-gap
returns-after-loop-end-clause-gap c = c.loop-end.invariant.gap c.loop-end.end (nothing _)

pub returns-else-comment_begins-clause-gap : goal.returns-else-comment_begins-clause-gap
returns-else-comment_begins-clause-gap c = c.loop-end.invariant.gap c.loop-end.end (nothing _)
