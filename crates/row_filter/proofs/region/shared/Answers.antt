use Rattle.std.proofs.Common.{◌&&◌, ℕ, pos, FitsSigned, int_le, subst, sym, ◌∙◌, rules, w64}
use Rattle.std.specs.Prelude.{slice_index_or}
use Rattle.std.proofs.lemmas.Int.{to_z-of_z}
use Rattle.db_catalog.specs.ColumnRanges.{IsWordsOf}
use Rattle.row_filter.proofs.Words.{both-bounds}
use Rattle.row_filter.proofs.region.shared.Goals as goal

pub returns : goal.returns
returns c = λ texts kinds one other first second.
    let a = c.args.a in
    let b = c.args.b in
    let a_from : FitsSigned w64 a.from = search rules in
    let b_from : FitsSigned w64 b.from = search rules in
    let a_to : FitsSigned w64 a.to = search rules in
    let b_to : FitsSigned w64 b.to = search rules in
    let from : FitsSigned w64 c.greater.result = search rules in
    let to : FitsSigned w64 c.lesser.result = search rules in
    let there : IsWordsOf texts kinds other (record { column = a.column; from = b.from; to = b.to }) =
    subst (λ (column : ℕ). IsWordsOf texts kinds other (record { column = column; from = b.from; to = b.to })) (sym c.requires) second in
    record {
      there = first.there;
      tells = λ words stored fits.
          let word = slice_index_or words a.column (pos 0) in
          let from_is = simp to_z-of_z at (c.greater.ensures.above word) in
          let to_is = simp to_z-of_z at (c.lesser.ensures.below word) in
          simp to_z-of_z (
          (λ k. from_is k && to_is k)
          ∙ both-bounds (int_le a.from word) (int_le b.from word) (int_le word a.to) (int_le word b.to)
          ∙ (λ k. first.tells words stored fits k && there.tells words stored fits k)
          );
    }
