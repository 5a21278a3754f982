-- Unions that together tell a filter: one more, or one narrowed.
use Rattle.std.proofs.Common.{ℕ, ◌<◌, ◌&&◌, Bool, List, [], ◌∷◌, ◌++◌, length, get_or, set, ap, ◌∙◌, arith}
use Rattle.sql_values.specs.declared.column.ColumnType.{ColumnType}
use Rattle.sql_values.specs.Stored.{ValueRow}
use Rattle.row_filter.specs.declared.filter.Narrowed.{Narrowed}
use Rattle.row_filter.specs.declared.union.RangeUnion.{RangeUnion}
use Rattle.row_filter.specs.Unions.{IsUnionOf}
use Rattle.row_filter.specs.RowFilters.{FilterRanges, IsNarrower, TellAll}
use Rattle.row_filter.proofs.Covers.{both_of}
use Rattle.row_filter.proofs.Tests.{all-more, all-narrowed, any, zip-at, zip-length, zip-push, zip-set}

module _ (texts : List (List ℕ)) (kinds : List ColumnType) (test other : ValueRow → Bool) (union : RangeUnion) (more : IsUnionOf texts kinds other union) where
  pub more-told : (unions : List RangeUnion) → TellAll texts kinds test unions → TellAll texts kinds (both_of test other) (unions ++ union ∷ [])
  more-told unions is = record {
    tests = is.tests ++ other ∷ [];
    told = zip-push (IsUnionOf texts kinds) is.tests unions other union is.told more;
    all = λ row. all-more is.tests other row ∙ ap (λ b. b && other row) (is.all row);
  }

  pub narrower-told : (filter : FilterRanges) (narrowed : Narrowed) → IsNarrower union filter narrowed → TellAll texts kinds test filter.unions
      → TellAll texts kinds (both_of test other) (set filter.unions narrowed.place narrowed.union)
  narrower-told filter narrowed narrower is =
      let one = get_or is.tests narrowed.place any in
      let here = zip-at (IsUnionOf texts kinds) is.tests filter.unions narrowed.place any union is.told narrower.there in
      let below : narrowed.place < length is.tests = omega (arith, zip-length (IsUnionOf texts kinds) is.tests filter.unions is.told, narrower.there) in
      record {
        tests = set is.tests narrowed.place (both_of one other);
        told = zip-set (IsUnionOf texts kinds) is.tests filter.unions narrowed.place (both_of one other) narrowed.union is.told (narrower.tells texts kinds one other here more);
        all = λ row. all-narrowed is.tests narrowed.place any other row below ∙ ap (λ b. b && other row) (is.all row);
      }
