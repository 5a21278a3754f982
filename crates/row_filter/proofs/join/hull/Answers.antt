use Rattle.std.proofs.Common.{◌&&◌, FitsSigned, rules, w64}
use Rattle.std.proofs.lemmas.Int.{to_z-of_z}
use Rattle.row_filter.proofs.join.hull.Goals as goal

pub returns-clause-words : goal.returns-clause-words
returns-clause-words c = λ word.
    let a_from : FitsSigned w64 c.args.a.from = search rules in
    let b_from : FitsSigned w64 c.args.b.from = search rules in
    let a_to : FitsSigned w64 c.args.a.to = search rules in
    let b_to : FitsSigned w64 c.args.b.to = search rules in
    let from : FitsSigned w64 c.lesser.result = search rules in
    let to : FitsSigned w64 c.greater.result = search rules in
    let from_is = simp to_z-of_z at (c.lesser.ensures.above word) in
    let to_is = simp to_z-of_z at (c.greater.ensures.below word) in
    simp to_z-of_z (λ k. from_is k && to_is k)
