use Rattle.std.proofs.Common.{sym, ◌∙◌, ap, get_or}
use Rattle.sql_lex.specs.Bytes.{is_second}
use Rattle.sql_lex.specs.declared.token.TokenKind.TheVariants.{Comparison}
use Rattle.sql_lex.proofs.Wholes.{IsWhole-byte}
use Rattle.sql_lex.proofs.form.comparison_end.Goals as goal

pub returns-else-is_second : goal.returns-else-is_second
returns-else-is_second c =
    IsWhole-byte c.args.text.now Comparison c.args.start c.requires.in_text c.requires.first
    (ap (is_second (get_or c.args.text.now c.args.start 0)) (sym c.byte_at.ensures) ∙ sym c.is_second.ensures ∙ c.if-is_second.false)
