use Rattle.std.proofs.Common.{◌≡◌, ◌≤◌, ◌∙◌, List, [], vec_len, sym, ap, count_by, subst}
use Rattle.std.proofs.lemmas.Bool.{eqb-true}
use Rattle.std.proofs.lemmas.List.{nil_from_length}
use Rattle.sql_values.specs.Limits.{max_rows}
use Rattle.query_block.specs.Conditions.{FilterTree}
use Rattle.query_block.specs.Meaning.{meets_filter}
use Rattle.query_block.specs.Parameters.{fixed_of}
use Rattle.plan_tree.specs.Work.{table_rows}
use Rattle.table_stats.specs.Ready.{own}
use Rattle.table_stats.proofs.Fixed.{fixed-count, some-fixed}
use Rattle.table_stats.proofs.Told.{all-met, columns-there, of-index, told}
use Rattle.table_stats.proofs.stats.kept_rows.Goals as goal

pub returns-then-is_empty : goal.returns-then-is_empty
returns-then-is_empty c =
    let filter = c.args.filter.now in
    let rows = table_rows c.args.db.now.tables (own filter) in
    let none : fixed_of (own filter).filter ≡ [] =
    nil_from_length (fixed_of (own filter).filter) (fixed-count filter c.requires.ready ∙ eqb-true (vec_len filter.conjuncts) 0 (sym c.is_empty.ensures ∙ c.if-is_empty.true)) in
    c.rows-rows.ensures.count ∙ sym (all-met rows) ∙ ap (λ (fixed : List FilterTree). count_by (meets_filter fixed) rows) (sym none)

pub matches_of_all-requires-clause-there : goal.matches_of_all-requires-clause-there
matches_of_all-requires-clause-there c =
    columns-there c.args.db.now.tables (own c.args.filter.now) c.args.columns.now c.requires.columns c.requires.ready.relation.is.indexes

pub narrowest-requires-clause-there : goal.narrowest-requires-clause-there
narrowest-requires-clause-there c =
    columns-there c.args.db.now.tables (own c.args.filter.now) c.args.columns.now c.requires.columns c.requires.ready.relation.is.indexes

pub returns-in-Some : goal.returns-in-Some
returns-in-Some c =
    let filter = c.args.filter.now in
    told c.args.db.now.tables (own filter) c.args.columns.now c.requires.columns c.in-Some.matches
    (some-fixed filter c.requires.ready (sym c.is_empty.ensures ∙ c.if-is_empty.false)) c.in-Some.ensures

pub kept_within-requires-clause-over : goal.kept_within-requires-clause-over
kept_within-requires-clause-over c = record {
  ready = c.requires.ready;
  fits = c.requires.fits;
  texts = c.requires.texts;
  few = subst (λ n. n ≤ max_rows) c.rows-rows.ensures.count c.rows-rows.ensures.few;
}

pub kept_within-requires-clause-indexed : goal.kept_within-requires-clause-indexed
kept_within-requires-clause-indexed c =
    (of-index c.args.db.now.tables (own c.args.filter.now) c.args.columns.now c.requires.columns c.in-Some-narrowest.index c.in-Some-narrowest.ensures.0).indexed

pub kept_by_marks-requires : goal.kept_by_marks-requires
kept_by_marks-requires c = record {
  ready = c.requires.ready;
  fits = c.requires.fits;
  texts = c.requires.texts;
  few = subst (λ n. n ≤ max_rows) c.rows-rows.ensures.count c.rows-rows.ensures.few;
}
