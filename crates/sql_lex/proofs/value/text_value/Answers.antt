use Rattle.std.proofs.Common.{arith}
use Rattle.std.proofs.lemmas.Grind.{common_steps}
use Rattle.std.proofs.lemmas.List.{drop_more}
use Rattle.sql_lex.proofs.Texts.{quoted-value}
use Rattle.sql_lex.proofs.value.text_value.Goals as goal
use Rattle.sql_lex.proofs.value.text_value.Goals.{then-is_second, else-is_second+in_ok-push}

pub loop-byte-preserved : goal.loop-byte-preserved
loop-byte-preserved c =
    let rest = drop_more c.between_quotes-inside.result.now c.loop-byte.byte-index 0 c.loop-byte-test.true in
    elim c.if-is_second.branch [
      | then-is_second w ↦ rw (w.value-is, w.is_second-is) (grind (arith, common_steps, rest, w.if-is_second.true, c.loop-byte.invariant))
      | else-is_second+in_ok-push w ↦ rw (w.value-is, w.is_second-is, w.in_ok-push.ensures.items)
          (grind (arith, common_steps, rest, w.if-is_second.false, c.loop-byte.invariant))
    ]

pub returns-clause-spelling : goal.returns-clause-spelling
returns-clause-spelling c = grind (arith, common_steps, common_steps, quoted-value)
