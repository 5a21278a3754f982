use Rattle.std.proofs.Common.{SFits, w64, pos, negsuc, ◌-◌, ◌^◌, sym, ◌∙◌, rules}
use Rattle.std.proofs.lemmas.Int.{to_z-of_z}
use Rattle.sql_values.specs.declared.op.Op.TheVariants.{Eq}
use Rattle.sql_values.specs.declared.value.Value.TheVariants as value
use Rattle.sql_values.specs.Truth.{comparison}
use Rattle.query_block.specs.Blocks.{kind_at}
use Rattle.query_block.specs.Meaning.{is_true}
use Rattle.query_block.specs.Truth.{value_at}
use Rattle.row_filter.proofs.Equals.{code-narrows, equal-range, none-narrows}
use Rattle.row_filter.proofs.values.text_words.Goals as goal

pub returns-in-Some : goal.returns-in-Some
returns-in-Some c =
    let texts = c.args.texts.now in
    let kinds = c.args.columns.now in
    let column = c.args.column in
    let text = c.args.text.now in
    let code = c.in-Some.code in
    let own : SFits w64 code = search rules in
    let is = equal-range texts kinds column (value.Text text) code code c.requires.0 (code-narrows texts (kind_at kinds column) text code (sym c.code_of.ensures ∙ c.in-Some.is) c.requires.2) in
    c.without_null.ensures texts kinds (λ row. is_true (comparison Eq (value_at row column) (value.Text text)))
    (record { there = is.there; some = is.some; picks = λ row stored. simp to_z-of_z (is.picks row stored) })

pub returns-in-None : goal.returns-in-None
returns-in-None c =
    let texts = c.args.texts.now in
    let kinds = c.args.columns.now in
    let column = c.args.column in
    let text = c.args.text.now in
    c.without_null-in-None.ensures texts kinds (λ row. is_true (comparison Eq (value_at row column) (value.Text text)))
    (equal-range texts kinds column (value.Text text) (pos (2 ^ 63 - 1)) (negsuc (2 ^ 63 - 1)) c.requires.0
    (none-narrows texts (kind_at kinds column) text (sym c.code_of.ensures ∙ c.in-None.is) c.requires.2))
