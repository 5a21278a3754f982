use Rattle.std.proofs.Common.{◌≡◌, ◌+◌, ◌-◌, ◌≤◌, ◌∙◌, sym, subst, rules, FitsSigned, w64}
use Rattle.std.proofs.lemmas.Int.{to_z-of_z}
use Rattle.narrow_columns.specs.Codes.{IsWithin, word_of_code, word_of_rank}
use Rattle.narrow_columns.specs.Rows.{row_word}
use Rattle.narrow_columns.proofs.RanksOfCodes.{code-of-rank}
use Rattle.narrow_columns.proofs.scan.code_in.Goals as goal

pub returns : goal.returns
returns c top within =
    let base = c.args.base in
    let rank = c.rank_of.result in
    let word = row_word c.args.at c.args.row c.args.rows.now in
    let fits : FitsSigned w64 word = search rules in
    let same : word_of_rank rank ≡ word = c.rank_of.ensures ∙ to_z-of_z w64 word fits in
    let facts = code-of-rank base top rank (subst (IsWithin (word_of_rank (base + 1)) (word_of_rank (base + top))) (sym same) within) in
    let code : rank - base ≡ c.saturating_sub.result = sym c.saturating_sub.ensures in
    (subst (λ k. k ≤ top) code facts.0, subst (λ k. word_of_code base k ≡ word) code (facts.1 ∙ same))
