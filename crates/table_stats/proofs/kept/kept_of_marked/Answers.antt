use Rattle.std.proofs.Common.{◌≡◌, ◌+◌, ◌/◌, ◌^◌, ◌<◌, ◌≤◌, ◌∙◌, ℕ, List, [], count_by, drop, get_or, length, take, sym, ap, arith}
use Rattle.std.proofs.lemmas.List.{get_or-drop, get_or-take, length-drop, length-take}
use Rattle.sql_values.specs.Stored.{ValueRow, values_of}
use Rattle.heap_pages.specs.Spans.{rows_of_span}
use Rattle.heap_pages.specs.declared.spans.RowSpan.{RowSpan}
use Rattle.db_catalog.specs.Database.{DatabaseState, row_at, table_at}
use Rattle.db_catalog.proofs.OfRelations.{relation_values}
use Rattle.row_filter.specs.RowFilters.{IsSpanIn}
use Rattle.table_stats.specs.Ready.{is_kept, own}
use Rattle.table_stats.proofs.Counted.{one-more, own-row}
use Rattle.table_stats.proofs.Marked.{before, behind, ended, there}
use Rattle.table_stats.proofs.kept.kept_of_marked.Goals as goal

-- the rows of a span are as many as it says, and each is a row of the table
module _ (database : DatabaseState) (table : ℕ) (span : RowSpan) (is : IsSpanIn database table span) where
  abbrev rows : List ValueRow
  rows = rows_of_span span (table_at database table).rows

  long : length rows ≡ span.count
  long = omega (arith, length-take span.count (drop span.first (table_at database table).rows), length-drop span.first (table_at database table).rows, is.there)

  own-place : (i : ℕ) → i < span.count → row_at (table_at database table) (span.first + i) ≡ get_or rows i []
  own-place i below =
      let all = (table_at database table).rows in
      sym (get_or-take span.count (drop span.first all) i [] below ∙ get_or-drop span.first all i [])

pub plain_row-row-requires : goal.plain_row-row-requires
plain_row-row-requires c =
    let table = (own c.args.filter.now).table in
    let marks = c.requires.marks in
    let count = long c.args.db.now table c.args.span c.requires.span in
    let inside = there marks.test (is_kept c.args.filter.now) marks.none_missed (rows c.args.db.now table c.args.span c.requires.span) (omega (arith, count, c.requires.span.few)) c.args.marks c.loop-left.left
    c.loop-left.behind marks.are c.loop-left.invariant.left c.loop-left-test.true in
    omega (arith, inside, count, c.from.ensures, c.requires.span.there)

pub keeps-requires-clause-row : goal.keeps-requires-clause-row
keeps-requires-clause-row c =
    rw c.requires.over.texts (own-row c.args.db.now (own c.args.filter.now) c.requires.over.fits c.plain_row-row.result.now _ c.plain_row-row.ensures)

pub loop-left-smaller : goal.loop-left-smaller
loop-left-smaller c =
    let table = (own c.args.filter.now).table in
    let marks = c.requires.marks in
    let count = long c.args.db.now table c.args.span c.requires.span in
    let inside = there marks.test (is_kept c.args.filter.now) marks.none_missed (rows c.args.db.now table c.args.span c.requires.span) (omega (arith, count, c.requires.span.few)) c.args.marks c.loop-left.left
    c.loop-left.behind marks.are c.loop-left.invariant.left c.loop-left-test.true in
    omega (arith, inside, count, c.from.ensures)

pub loop-left-preserved : goal.loop-left-preserved
loop-left-preserved c =
    let database = c.args.db.now in
    let filter = c.args.filter.now in
    let table = (own filter).table in
    let marks = c.requires.marks in
    let those = rows database table c.args.span c.requires.span in
    let count = long database table c.args.span c.requires.span in
    let few : length those ≤ 64 = omega (arith, count, c.requires.span.few) in
    let i = c.loop-left.behind in
    let left = c.loop-left.left in
    let place = i + c.from.result in
    let zeros = c.from.ensures in
    let inside : place < length those =
    omega (arith, zeros, there marks.test (is_kept filter) marks.none_missed those few c.args.marks left i marks.are c.loop-left.invariant.left c.loop-left-test.true) in
    let next = behind marks.test (is_kept filter) marks.none_missed those few c.args.marks left i marks.are c.loop-left.invariant.left c.loop-left-test.true in
    let passed = before marks.test (is_kept filter) marks.none_missed those few c.args.marks left i marks.are c.loop-left.invariant.left c.loop-left-test.true [] in
    let words = c.plain_row-row.result.now in
    let values : values_of filter.texts.now (own filter).columns words ≡ get_or those place [] =
    ap (λ texts. values_of texts (own filter).columns words) c.requires.over.texts
    ∙ relation_values database (own filter) c.requires.over.fits words _ c.plain_row-row.ensures
    ∙ own-place database table c.args.span c.requires.span place (omega (arith, inside, count)) in
    record {
      left = next ∙ ap (λ n. c.args.marks / 2 ^ (i + n + 1)) (sym zeros);
      within = omega (arith, inside, count);
      kept = one-more (is_kept filter) those place [] c.keeps.result c.loop-left.kept c.from-kept.result inside
          (c.loop-left.invariant.kept ∙ sym passed ∙ ap (λ n. count_by (is_kept filter) (take (i + n) those)) (sym zeros))
          c.from-kept.ensures (c.keeps.ensures ∙ ap (is_kept filter) values);
    }

pub returns : goal.returns
returns c =
    let table = (own c.args.filter.now).table in
    let marks = c.requires.marks in
    let those = rows c.args.db.now table c.args.span c.requires.span in
    let count = long c.args.db.now table c.args.span c.requires.span in
    c.loop-left.invariant.kept
    ∙ ended marks.test (is_kept c.args.filter.now) marks.none_missed those (omega (arith, count, c.requires.span.few)) c.args.marks c.loop-left.left c.loop-left.behind marks.are c.loop-left.invariant.left []
    c.loop-left-test.false
