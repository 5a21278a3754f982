use Rattle.std.proofs.Common.{IfSome, Option, subst}
use Rattle.db_catalog.specs.ColumnRanges.{IsWordsOf}
use Rattle.db_catalog.specs.declared.column_range.ColumnRange.{ColumnRange}
use Rattle.row_filter.proofs.Covers.{both-cover, both_of}
use Rattle.row_filter.proofs.known_region.KnownRegion.narrowed.Goals as goal

pub returns-in-Some-narrowed : goal.returns-in-Some-narrowed
returns-in-Some-narrowed c = λ texts kinds test other is words.
    let found = subst (λ (known : Option ColumnRange). IfSome known (IsWordsOf texts kinds other)) c.in-Some.is words in
    record {
      passed = both_of is.passed other;
      told = c.in-Some-narrowed.ensures texts kinds is.passed other is.told found;
      covers = both-cover c.args.self.exact test other is.passed is.covers;
    }
