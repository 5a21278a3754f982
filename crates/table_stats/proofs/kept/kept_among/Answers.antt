use Rattle.std.proofs.Common.{◌≡◌, ◌<◌, pos, [], get_or, length, map, take, sym, ap, ◌∙◌, rules}
use Rattle.std.specs.Prelude.{Bool, count_by}
use Rattle.std.proofs.lemmas.List.{get_or-map, length-map, take_all}
use Rattle.sql_values.specs.Stored.{ValueRow, values_of}
use Rattle.db_catalog.specs.Indexes.{row_of_entry}
use Rattle.db_catalog.proofs.OfRelations.{relation_values}
use Rattle.table_stats.specs.Ready.{is_kept, own}
use Rattle.table_stats.proofs.Counted.{one-more, step-fits, own-row}
use Rattle.table_stats.proofs.kept.kept_among.Goals as goal

pub plain_row-row-requires : goal.plain_row-row-requires
plain_row-row-requires c = c.requires.there c.loop-entry.entry-index (pos 0, 0) c.loop-entry-test.true

pub keeps-requires-clause-row : goal.keeps-requires-clause-row
keeps-requires-clause-row c = rw c.requires.over.texts (own-row c.args.db.now (own c.args.filter.now) c.requires.over.fits c.plain_row-row.result.now _ c.plain_row-row.ensures)

pub loop-entry-preserved : goal.loop-entry-preserved
loop-entry-preserved c =
    let database = c.args.db.now in
    let relation = own c.args.filter.now in
    let entries = c.args.entries.now in
    let row = row_of_entry database relation.table in
    let i = c.loop-entry.entry-index in
    let words = c.plain_row-row.result.now in
    let entry = get_or entries i (pos 0, 0) in
    let test : ValueRow → Bool = is_kept c.args.filter.now in
    let there : i < length (map row entries) = simp length-map c.loop-entry-test.true in
    let values : values_of c.args.filter.now.texts.now relation.columns words ≡ get_or (map row entries) i [] =
    ap (λ texts. values_of texts relation.columns words) c.requires.over.texts
    ∙ relation_values database relation c.requires.over.fits words (row entry) c.plain_row-row.ensures
    ∙ sym (get_or-map row entries i (pos 0, 0) [] c.loop-entry-test.true) in
    one-more test (map row entries) i [] c.keeps.result c.loop-entry.kept c.from-kept.result there c.loop-entry.invariant c.from-kept.ensures (c.keeps.ensures ∙ ap test values)

pub returns-clause-count : goal.returns-clause-count
returns-clause-count c =
    let row = row_of_entry c.args.db.now (own c.args.filter.now).table in
    let entries = c.args.entries.now in
    let all : take c.loop-entry.entry-index (map row entries) ≡ map row entries = take_all c.loop-entry.entry-index (map row entries) (simp length-map c.loop-entry-test.false) in
    c.loop-entry.invariant ∙ ap (count_by (is_kept c.args.filter.now)) all

pub overflow_add-kept : goal.overflow_add-kept
overflow_add-kept c =
    let entries = c.args.entries.now in
    step-fits (is_kept c.args.filter.now) (map (row_of_entry c.args.db.now (own c.args.filter.now).table) entries) c.loop-entry.entry-index (length entries) c.keeps.result c.loop-entry.kept
    c.from-kept.result c.loop-entry.invariant c.from-kept.ensures c.loop-entry-test.true (search rules)
