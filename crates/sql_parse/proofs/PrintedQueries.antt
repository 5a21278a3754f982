-- A query that is written somehow is also written as it is printed.
use Rattle.std.proofs.Common.{◌∙◌, ◌∷◌, ◌++◌, Some, None, refl, ap}
use Rattle.sql_parse.specs.declared.mark.Mark.TheVariants as m
use Rattle.sql_parse.specs.Lexemes.{mark}
use Rattle.sql_parse.specs.Grammar.{IsItem, IsWhere, IsSelect}
use Rattle.sql_parse.specs.Canonical.{Fixed, listed, condition_parts, item_parts, selection_parts, where_parts, query_parts}
use Rattle.sql_parse.proofs.PrintedForms.{tokens_of, tokens-append, IsPrintedBy, separated-printed, item-printed, selection-printed}
use Rattle.sql_parse.proofs.PrintedConditions.{condition-printed}

where-printed : IsPrintedBy IsWhere where_parts
where-printed tokens None form = refl
where-printed tokens (Some tree) form = (tokens_of (condition_parts tree), refl, condition-printed form.0 tree form.2)

pub select-printed : IsPrintedBy IsSelect query_parts
select-printed tokens query form =
    let columns = selection_parts query.columns in
    let items = listed item_parts query.from in
    let condition = where_parts query.condition in (
      tokens_of columns,
      tokens_of items,
      tokens_of condition,
      ap (λ ts. mark m.Select ∷ ts) (tokens-append columns (Fixed m.From ∷ (items ++ condition))
          ∙ ap (λ ts. tokens_of columns ++ mark m.From ∷ ts) (tokens-append items condition)),
      selection-printed form.0 query.columns form.4,
      separated-printed IsItem item_parts item-printed form.1 query.from form.5,
      where-printed form.2 query.condition form.6,
    )
