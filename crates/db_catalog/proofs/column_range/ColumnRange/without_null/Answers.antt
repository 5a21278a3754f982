-- NULL's word is less than the least of them.
use Rattle.std.proofs.Common.{◌≡◌, ◌&&◌, Bool, true, false, not, FitsSigned, ap, pos, refl, ◌∙◌, rules, w64}
use Rattle.std.specs.Prelude.{int_le, slice_index_or}
use Rattle.std.specs.Ordering.{int_eq}
use Rattle.std.proofs.lemmas.Int.{to_z-of_z}
use Rattle.sql_values.specs.Words.{null_word}
use Rattle.db_catalog.proofs.ColumnRanges.{has-word}
use Rattle.db_catalog.proofs.column_range.ColumnRange.without_null.Goals as goal

both-first : (a b c : Bool) → ((a && b) && c) ≡ (a && (b && c))
both-first true b c = refl
both-first false b c = refl

pub returns : goal.returns
returns c = λ texts kinds test is.
    let found = c.args.self in
    let from : FitsSigned w64 found.from = search rules in
    let to : FitsSigned w64 found.to = search rules in
    let least : FitsSigned w64 c.least.result = search rules in
    record {
      there = is.there;
      tells = λ words stored fits.
          let word = slice_index_or words found.column (pos 0) in
          let test_is = simp to_z-of_z at (c.least.ensures word fits) in
          simp to_z-of_z (
          ap (λ b. b && int_le word found.to) test_is
          ∙ both-first (not (int_eq word null_word)) (int_le found.from word) (int_le word found.to)
          ∙ has-word texts kinds test found is words stored (pos 0) fits
          );
    }
