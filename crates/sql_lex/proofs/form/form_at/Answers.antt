use Rattle.std.proofs.Common.{sym, ◌∙◌, arith}
use Rattle.std.proofs.lemmas.Bool.Decides.{nat_tests}
use Rattle.sql_lex.specs.Tokens.StandsAt.{strange_byte}
use Rattle.sql_lex.proofs.Wholes.{IsWhole-word, IsWhole-number}
use Rattle.sql_lex.proofs.form.form_at.Goals as goal

pub returns-then-is_ascii_alphabetic-clause-whole : goal.returns-then-is_ascii_alphabetic-clause-whole
returns-then-is_ascii_alphabetic-clause-whole c =
    IsWhole-word _ _ _ c.end.ensures c.requires.in_text (sym c.is_ascii_alphabetic.ensures.value ∙ c.if-is_ascii_alphabetic.true)

pub returns-then-is_ascii_digit-clause-whole : goal.returns-then-is_ascii_digit-clause-whole
returns-then-is_ascii_digit-clause-whole c =
    IsWhole-number _ _ _ c.end-then-is_ascii_digit.ensures c.requires.in_text (sym c.is_ascii_digit.ensures.value ∙ c.if-is_ascii_digit.true)

pub returns-else-is_sign-clause-none : goal.returns-else-is_sign-clause-none
returns-else-is_sign-clause-none c = strange_byte c.requires.in_text (grind (arith, nat_tests))
