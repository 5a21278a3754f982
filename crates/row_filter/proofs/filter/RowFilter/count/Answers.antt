use Rattle.std.proofs.Common.{◌≡◌, Bool, length, take, get_or, count_by, sym, subst, ◌∙◌, arith}
use Rattle.std.specs.Prelude.{IfSome}
use Rattle.sql_values.specs.Stored.{ValueRow}
use Rattle.query_block.specs.Meaning.{meets_filter}
use Rattle.query_block.specs.Parameters.{fixed_of}
use Rattle.db_catalog.specs.Database.{table_at}
use Rattle.row_filter.specs.Unions.{IsUnionIn}
use Rattle.row_filter.proofs.Marked.{seen, union-at}
use Rattle.row_filter.proofs.Tests.{any, one-of-all, zip-length}
use Rattle.row_filter.proofs.filter.RowFilter.count.Goals as goal

pub count-requires : goal.count-requires
count-requires c =
    let is = c.requires.1 in (
      get_or is.tests 0 any,
      union-at c.args.db.now c.args.table is.tests c.as_slice-unions.result.now 0 (seen c.args.db.now c.args.table is.tests _ c.args.self.now ((λ k. record { unions = c.as_slice-unions.ensures.value k; exact = c.self.inside.exact }) ∙ c.self.view_is) is.told)
          (omega (arith, c.if-unions-ne1.false)),
    )

pub returns : goal.returns
returns c = λ conditions is.
    let rows = (table_at c.args.db.now c.args.table).rows in
    let unions = c.as_slice-unions.result.now in
    let told = seen c.args.db.now c.args.table is.tests _ c.args.self.now ((λ k. record { unions = c.as_slice-unions.ensures.value k; exact = c.self.inside.exact }) ∙ c.self.view_is) is.told in
    let single : length is.tests ≡ 1 = zip-length (IsUnionIn c.args.db.now c.args.table) is.tests unions told ∙ c.if-unions-ne1.false in
    let exact = (λ k. (sym c.self.view_is k).exact) ∙ c.if-not-self.false in
    let same : (row : ValueRow) → get_or is.tests 0 any row ≡ meets_filter (fixed_of conditions) row = λ row. sym (one-of-all is.tests any row single) ∙ is.exact exact row in
    let counted = c.count.ensures (get_or is.tests 0 any) (union-at c.args.db.now c.args.table is.tests unions 0 told (omega (arith, c.if-unions-ne1.false))) in
    subst (λ (test : ValueRow → Bool). IfSome c.count.result (λ count. count ≡ count_by test rows)) (λ k row. same row k) counted
