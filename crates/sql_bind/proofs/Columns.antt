-- Every column of a relation, from one of them on.
use Rattle.std.proofs.Common.{◌≡◌, ◌∙◌, ℕ, ◌+◌, ◌<◌, List, [], ◌∷◌, ◌++◌, false, length, drop, append_assoc, ap, sym}
use Rattle.std.proofs.lemmas.List.{at_drop_more}
use Rattle.sql_values.specs.declared.column.ColumnDef.{ColumnDef}
use Rattle.sql_values.specs.declared.column.ColumnType.TheVariants.{Integer}
use Rattle.query_block.specs.declared.edge.ColumnAt.{ColumnAt}
use Rattle.sql_bind.specs.Binding.{columns_from}

pub columns-next : (relation number : ℕ) (places : List ColumnAt) (columns : List ColumnDef) → number < length columns
    → places ++ columns_from relation number (drop number columns)
    ≡ (places ++ record { relation = relation; column = number } ∷ []) ++ columns_from relation (number + 1) (drop (number + 1) columns)
columns-next relation number places columns below =
    let any : ColumnDef = record { name = []; kind = Integer; not_null = false } in
    let place : ColumnAt = record { relation = relation; column = number } in
    ap (λ more. places ++ more) (at_drop_more (columns_from relation number) columns number any below)
    ∙ sym (append_assoc places (place ∷ []) (columns_from relation (number + 1) (drop (number + 1) columns)))
