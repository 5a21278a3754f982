use Rattle.std.proofs.Common.{sym, ap, ◌∙◌, bytes_eq}
use Rattle.bouquet_file.proofs.Numbers.{few-parsed, written-number, other-number, no-number}
use Rattle.bouquet_file.proofs.values.decimal_number.Goals as goal

pub returns-in-Err : goal.returns-in-Err
returns-in-Err c = sym (no-number c.args.text.now c.parse.result c.in-Err.field-0 c.parse.ensures.value.0 c.in-Err.is)

pub returns-then-eq : goal.returns-then-eq
returns-then-eq c =
    let text = c.args.text.now in
    let parses = c.parse.ensures.value.0 in
    sym (written-number text c.in-Ok.number (few-parsed text c.parse.result c.in-Ok.number parses c.in-Ok.is)
    (ap (λ written. bytes_eq written text) (sym c.format.ensures.text) ∙ sym c.eq.ensures ∙ c.if-eq.true))

pub returns-else-eq : goal.returns-else-eq
returns-else-eq c =
    let text = c.args.text.now in
    sym (other-number text c.parse.result c.in-Ok.number c.parse.ensures.value.0 c.in-Ok.is
    (ap (λ written. bytes_eq written text) (sym c.format.ensures.text) ∙ sym c.eq.ensures ∙ c.if-eq.false))
