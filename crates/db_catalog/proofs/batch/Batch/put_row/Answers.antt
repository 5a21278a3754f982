use Rattle.std.proofs.Common.{◌∙◌, sym, ap, subst, length, slice_get, arith}
use Rattle.std.specs.Prelude.{IsSomeAnd}
use Rattle.std.proofs.lemmas.List.{length-take-le}
use Rattle.std.proofs.lemmas.Slice.Zip.{AllZip-long}
use Rattle.sql_values.specs.Stored.{IsValueOf}
use Rattle.db_catalog.specs.Batch.{FitsNext}
use Rattle.db_catalog.proofs.Cut.{fits_at}
use Rattle.db_catalog.proofs.batch.Batch.put_row.Goals as goal

pub put-requires : goal.put-requires
put-requires c =
    let here : IsSomeAnd (slice_get c.args.self.now.columns c.loop-value.value-index) (λ column. IsValueOf column c.value-item.result) =
    subst (λ v. IsSomeAnd (slice_get c.args.self.now.columns c.loop-value.value-index) (λ column. IsValueOf column v)) (sym c.value-item.is) (fits_at _ _ _ c.value-item.result c.requires.fits c.loop-value-test.true) in
    subst (λ b. FitsNext b c.value-item.result) (sym c.loop-value.invariant)
    (subst (λ n. IsSomeAnd (slice_get c.args.self.now.columns n) (λ column. IsValueOf column c.value-item.result)) (sym (length-take-le c.loop-value.value-index c.args.row.now (omega arith))) here)

pub end_row-requires : goal.end_row-requires
end_row-requires c =
    ap (λ b. length b.row) c.loop-value.invariant ∙ length-take-le c.loop-value.value-index c.args.row.now c.loop-value.auto.value-index-end
    ∙ omega (arith, AllZip-long IsValueOf _ _ c.requires.fits) ∙ sym (ap (λ b. length b.columns) c.loop-value.invariant)
