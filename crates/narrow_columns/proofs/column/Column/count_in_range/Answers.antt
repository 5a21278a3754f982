use Rattle.std.specs.List.{count_by}
use Rattle.std.proofs.Common.{◌≡◌, ℕ, ◌∙◌, sym, ap, w64}
use Rattle.std.proofs.lemmas.Int.{to_z-of_z}
use Rattle.narrow_columns.specs.Codes.{word_of_code, is_code_among}
use Rattle.narrow_columns.specs.Kept.{ColumnState, codes_in}
use Rattle.narrow_columns.specs.Marks.{is_among}
use Rattle.narrow_columns.proofs.WordsOfCodes.{count_by-words}
use Rattle.narrow_columns.proofs.column.Column.count_in_range.Goals as goal

pub returns : goal.returns
returns c =
    let base = c.self.inside.base in
    let codes = codes_in c.self.inside.codes in
    let range = c.code_range.result in
    let from = to_z-of_z w64 c.args.from c.ranges.from in
    let to = to_z-of_z w64 c.args.to c.ranges.to in
    let test = is_among c.args.from c.args.to in
    let same : (code : ℕ) → test (word_of_code base code) ≡ is_code_among range.least range.greatest code = λ code. (λ i. is_among (sym from i) (sym to i) (word_of_code base code)) ∙ c.code_range.ensures code in
    c.count.ensures
    ∙ sym (count_by-words (word_of_code base) test (is_code_among range.least range.greatest) same codes)
    ∙ ap (λ (column : ColumnState). count_by test column.words) c.self.view_is
