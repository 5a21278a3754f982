use Rattle.std.proofs.Common.{SFits, w64, rules}
use Rattle.std.proofs.lemmas.Int.{to_z-of_z}
use Rattle.sql_values.specs.declared.op.Op.TheVariants.{Eq}
use Rattle.sql_values.specs.declared.value.Value.TheVariants as value
use Rattle.sql_values.specs.Truth.{comparison}
use Rattle.query_block.specs.Blocks.{kind_at}
use Rattle.query_block.specs.Meaning.{is_true}
use Rattle.query_block.specs.Truth.{value_at}
use Rattle.row_filter.proofs.Equals.{equal-range, number-narrows}
use Rattle.row_filter.proofs.values.number_words.Goals as goal

pub returns : goal.returns
returns c =
    let texts = c.args._texts.now in
    let kinds = c.args.columns.now in
    let column = c.args.column in
    let number = c.args.number in
    let own : SFits w64 number = search rules in
    let is = equal-range texts kinds column (value.Int number) number number c.requires.0 (number-narrows texts (kind_at kinds column) number (c.requires.1, c.requires.2)) in
    c.without_null.ensures texts kinds (λ row. is_true (comparison Eq (value_at row column) (value.Int number)))
    (record { there = is.there; some = is.some; picks = λ row stored. simp to_z-of_z (is.picks row stored) })
