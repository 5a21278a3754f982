use Rattle.std.proofs.Common.{◌≡◌, ◌+◌, ◌<◌, false, length, get_or, drop, sym, ◌∙◌, ap, arith}
use Rattle.std.specs.Prelude.{Some, None}
use Rattle.std.proofs.lemmas.Bool.Decides.{nat_tests}
use Rattle.std.proofs.lemmas.Grind.{common_steps}
use Rattle.std.proofs.lemmas.List.{get_or_past, drop_more, drop_all}
use Rattle.sql_lex.proofs.Texts.{after_text, after_text-closed, SplitsAt-after}
use Rattle.sql_lex.proofs.Wholes.{IsWhole-text, open_text_stands, first-drop}
use Rattle.sql_lex.proofs.form.text_end.Goals as goal

pub loop-at-preserved : goal.loop-at-preserved
loop-at-preserved c =
    let text = c.args.text.now in
    let at = c.loop-at.at in
    let second : get_or text (at + 1) 0 ≡ 39 = sym c.byte_at.ensures ∙ c.if-byte_at-eq-QUOTE.true in
    let further : at + 1 < length text = grind (arith, get_or_past text (at + 1) 0) in
    record {
      in_order = omega arith;
      in_text = omega arith;
      rest = grind (arith, common_steps, drop_more text at 0 c.loop-at-test.true, drop_more text (at + 1) 0 further, c.loop-at.invariant.rest);
    }

pub returns-else-byte_at-eq-QUOTE-clause-whole : goal.returns-else-byte_at-eq-QUOTE-clause-whole
returns-else-byte_at-eq-QUOTE-clause-whole c =
    let text = c.args.text.now in
    let at = c.loop-at.at in
    let rest : after_text false (drop at text) ≡ Some (drop (at + 1) text) =
    grind (arith, nat_tests, drop_more text at 0 c.loop-at-test.true, after_text-closed (drop (at + 1) text), first-drop text (at + 1)) in
    IsWhole-text text c.args.start (at + 1) (omega arith) (omega arith) c.requires.quote
    (SplitsAt-after (drop (c.args.start + 1) text) (Some (drop (at + 1) text)) (c.loop-at.invariant.rest ∙ rest))

pub returns-clause-open : goal.returns-clause-open
returns-clause-open c =
    open_text_stands c.args.text.now c.args.start c.requires.in_text c.requires.quote
    (SplitsAt-after _ None (c.loop-at.invariant.rest ∙ ap (after_text false) (drop_all c.loop-at.at c.args.text.now c.loop-at-test.false)))
