use Rattle.std.proofs.Common.{◌≡◌, Bool, get_or, length, take, sym, subst, ◌∙◌, arith}
use Rattle.std.proofs.lemmas.List.{get_or-take, length-take}
use Rattle.sql_values.specs.Stored.{ValueRow}
use Rattle.db_catalog.specs.ColumnRanges.{IsWordsOf}
use Rattle.row_filter.specs.declared.region.Region.TheVariants.{Every}
use Rattle.row_filter.specs.Regions.{IsRegionOf}
use Rattle.row_filter.proofs.Tests.{any, one-test, zip-at, zip-length}
use Rattle.row_filter.proofs.union.RangeUnion.single.Goals as goal

pub returns-in-Range : goal.returns-in-Range
returns-in-Range c = λ texts kinds test is.
    let union = c.args.self.now in
    let own = take union.count union.regions in
    let long : length own ≡ 1 = omega (arith, length-take union.count union.regions, is.room, c.if-self-ne1.false) in
    let first = get_or is.tests 0 any in
    let single : length is.tests ≡ 1 = zip-length (IsRegionOf texts kinds) is.tests own is.told ∙ long in
    let here : IsRegionOf texts kinds first (get_or own 0 Every) = zip-at (IsRegionOf texts kinds) is.tests own 0 any Every is.told (omega (arith, long)) in
    let at : get_or own 0 Every ≡ get_or union.regions 0 Every = get_or-take union.count union.regions 0 Every (omega (arith, c.if-self-ne1.false)) in
    let same : (row : ValueRow) → first row ≡ test row = λ row. sym (one-test is.tests any row single) ∙ is.any row in
    subst (λ (t : ValueRow → Bool). IsWordsOf texts kinds t c.in-Range.found) (λ k row. same row k) (subst (IsRegionOf texts kinds first) (at ∙ c.in-Range.is) here)
