-- Queries that are read are written by the grammar.
use Rattle.std.proofs.Common.{inl, inr, [], ◌∷◌, ◌++◌, refl, ap, ◌∙◌}
use Rattle.sql_parse.specs.declared.mark.Mark.TheVariants as m
use Rattle.sql_parse.specs.Limits.{nesting_limit}
use Rattle.sql_parse.specs.Lexemes.{mark}
use Rattle.sql_parse.specs.Grammar.{IsNameToken, IsItem, IsSelection, IsWhere, IsSelect}
use Rattle.sql_parse.specs.Reading.{name_at, item_at, selection_at, where_at, select_at}
use Rattle.sql_parse.proofs.Read.{IsRead, Reads, then_read, either_found, also, then_after, either_after, name-reads, colref-reads, list-reads}
use Rattle.sql_parse.proofs.ReadConditions.{condition-reads}

item-reads : Reads IsItem item_at
unfolding item_at
item-reads = record {
  each = λ tokens.
      then_read name-reads tokens _ _ (λ table first.
      either_after m.As table.1 _ _ _
      (either_found (IsRead IsNameToken table.1) _ (name_at table.1) _ _ (name-reads.each table.1)
      (first.0, first.1, (first.2.1, first.2.1, inl (first.2.0, refl)))
      (λ alias second. (first.0 ++ second.0, also _ _ _ first.1 second.1, (first.2.1, second.2.1, inr (inl (rw (first.2.0, second.2.0) refl))))))
      (λ rest keyword. then_read name-reads rest _ _ (λ alias second. (
        first.0 ++ mark m.As ∷ second.0,
        also _ (mark m.As ∷ second.0) _ first.1 (keyword ∙ ap (λ all. mark m.As ∷ all) second.1),
        (first.2.1, second.2.1, inr (inr (rw (first.2.0, second.2.0) refl))),
      ))));
}

selection-reads : Reads IsSelection selection_at
unfolding selection_at
selection-reads = record {
  each = λ tokens.
      either_after m.Star tokens _ _ _
      (then_read (list-reads colref-reads m.Comma) tokens _ _ (λ columns form. form))
      (λ rest star. (mark m.Star ∷ [], star, refl));
}

where-reads : Reads IsWhere where_at
unfolding where_at
where-reads = record {
  each = λ tokens.
      either_after m.Where tokens _ _ _ ([], refl, refl)
      (λ rest first. then_read (condition-reads nesting_limit) rest _ _ (λ condition form.
      (mark m.Where ∷ form.0, first ∙ ap (λ all. mark m.Where ∷ all) form.1, (form.0, refl, form.2))));
}

pub select-reads : Reads IsSelect select_at
unfolding select_at
select-reads = record {
  each = λ tokens.
      then_after m.Select tokens _ _ (λ rest first.
      then_read selection-reads rest _ _ (λ columns a.
      then_after m.From columns.1 _ _ (λ later from.
      then_read (list-reads item-reads m.Comma) later _ _ (λ items b.
      then_read where-reads items.1 _ _ (λ condition c.
      let last = also b.0 c.0 condition.1 b.1 c.1 in
      let all = also a.0 (mark m.From ∷ (b.0 ++ c.0)) condition.1 a.1 (from ∙ ap (λ rest. mark m.From ∷ rest) last) in
      (mark m.Select ∷ (a.0 ++ mark m.From ∷ (b.0 ++ c.0)), first ∙ ap (λ rest. mark m.Select ∷ rest) all, (a.0, b.0, c.0, refl, a.2, b.2, c.2)))))));
}
