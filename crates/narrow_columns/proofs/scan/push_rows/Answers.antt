use Rattle.std.proofs.Common.{[], ◌∷◌, ◌+◌, ◌++◌, ◌∙◌, length, map, sym, ap, arith}
use Rattle.std.proofs.lemmas.List.{map-append, length-append, append_assoc}
use Rattle.narrow_columns.specs.Codes.{IsWithin, word_of_code, word_of_rank}
use Rattle.narrow_columns.specs.Rows.{words_of_column, row_word}
use Rattle.narrow_columns.proofs.ColumnsOfRows.{All-words_of_column, words_of_column-more}
use Rattle.narrow_columns.proofs.scan.push_rows.Goals as goal

pub push-requires-clause-fits : goal.push-requires-clause-fits
push-requires-clause-fits g c =
    let base = c.args.base in
    let at = c.args.at in
    let top = g.C.CodeList.top in
    let taken = All-words_of_column (IsWithin (word_of_rank (base + 1)) (word_of_rank (base + top))) at.width at.place at.count c.args.rows.now c.requires.taken c.loop-row.row c.loop-row-test.true in
    (c.code_in.ensures top taken).0

pub loop-row-preserved : goal.loop-row-preserved
loop-row-preserved g c =
    let base = c.args.base in
    let at = c.args.at in
    let top = g.C.CodeList.top in
    let row = c.loop-row.row in
    let rows = c.args.rows.now in
    let taken = All-words_of_column (IsWithin (word_of_rank (base + 1)) (word_of_rank (base + top))) at.width at.place at.count rows c.requires.taken row c.loop-row-test.true in
    let f = word_of_code base in
    let word = row_word at row rows in
    let before = map f (g.C.CodeList.codes c.args.codes.now) in
    let codes = g.C.CodeList.codes c.loop-row.codes in
    let this = (c.code_in.ensures top taken).1 in
    record {
      words = ap (map f) c.push.ensures.codes
          ∙ map-append f codes (c.code_in.result ∷ [])
          ∙ (λ i. c.loop-row.invariant.words i ++ (this i ∷ []))
          ∙ append_assoc before (words_of_column at.width at.place row rows) (word ∷ [])
          ∙ ap (λ l. before ++ l) (sym (words_of_column-more at.width at.place row rows));
      len = omega (arith, ap length c.push.ensures.codes, length-append codes (c.code_in.result ∷ []), c.loop-row.invariant.len);
      held = c.push.ensures.held ∙ c.loop-row.invariant.held;
    }
