use Rattle.std.proofs.Common.{◌≡◌, ◌&&◌, ◌||◌, Bool, ℕ, ℤ, pos, not, FitsSigned, sym, subst, ap, ◌∙◌, rules, w64}
use Rattle.std.proofs.lemmas.Int.{to_z-of_z}
use Rattle.std.specs.Prelude.{int_le, slice_index_or}
use Rattle.sql_values.specs.Stored.{ValueRow, values_of}
use Rattle.sql_values.specs.Words.{word_of}
use Rattle.query_block.specs.Truth.{value_at}
use Rattle.narrow_columns.specs.Marks.{is_among}
use Rattle.db_catalog.specs.ColumnRanges.{IsWordsOf}
use Rattle.row_filter.proofs.Covers.{first-true, second-true}
use Rattle.row_filter.proofs.Words.{either-alone, either-or-all, neighbours, some-words, within-hull, word-of-value}
use Rattle.row_filter.proofs.join.joined.Goals as goal

pub returns : goal.returns
returns c = λ texts kinds one other first second.
    let a = c.args.a in
    let b = c.args.b in
    let all = c.hull.result in
    let a_from : FitsSigned w64 a.from = search rules in
    let b_from : FitsSigned w64 b.from = search rules in
    let a_to : FitsSigned w64 a.to = search rules in
    let b_to : FitsSigned w64 b.to = search rules in
    let a_follows = simp to_z-of_z at c.follows.ensures in
    let b_follows = simp to_z-of_z at c.follows-2.ensures in
    let exact = c.follows.result && c.follows-2.result in
    let there : IsWordsOf texts kinds other (record { column = a.column; from = b.from; to = b.to }) =
    subst (λ (column : ℕ). IsWordsOf texts kinds other (record { column = column; from = b.from; to = b.to })) (sym c.requires) second in
    let passed : ValueRow → Bool = λ row. (one row || other row) || (not exact && is_among all.from all.to (word_of texts (value_at row a.column))) in
    let told : IsWordsOf texts kinds passed (record { column = a.column; from = all.from; to = all.to }) =
    record {
      there = first.there;
      tells = λ words stored fits.
          let word = slice_index_or words a.column (pos 0) in
          let row = values_of texts kinds words in
          let each : (is_among a.from a.to word || is_among b.from b.to word) ≡ (one row || other row) = λ k. first.tells words stored fits k || there.tells words stored fits k in
          either-or-all (is_among all.from all.to word) (one row || other row) exact
          (λ met. c.hull.ensures.words word ∙ within-hull (int_le a.from word) (int_le word a.to) (int_le b.from word) (int_le word b.to) (each ∙ met))
          (λ met.
          c.hull.ensures.words word
          ∙ neighbours a.from a.to b.from b.to word (some-words c.is_empty-2.result (int_le a.from a.to) c.is_empty-2.ensures c.if-is_empty-2.false)
          (some-words c.is_empty.result (int_le b.from b.to) c.is_empty.ensures c.if-is_empty.false)
          (sym a_follows ∙ first-true c.follows.result c.follows-2.result met)
          (sym b_follows ∙ second-true c.follows.result c.follows-2.result met)
          ∙ each)
          ∙ ap (λ (w : ℤ). (one row || other row) || (not exact && is_among all.from all.to w)) (word-of-value texts kinds words a.column stored first.there);
    } in
    record {
      passed = passed;
      told = subst (λ (column : ℕ). IsWordsOf texts kinds passed (record { column = column; from = all.from; to = all.to })) (sym c.hull.ensures.column) told;
      covers = record {
        none_missed = λ row met. ap (λ b. b || (not exact && is_among all.from all.to (word_of texts (value_at row a.column)))) met;
        exact = λ is row. either-alone (is_among all.from all.to (word_of texts (value_at row a.column))) (one row || other row) exact is;
      };
    }
