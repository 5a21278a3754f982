use Rattle.std.proofs.Common.{Global, Vec, sym}
use Rattle.serde_json.specs.View.{view}
use Rattle.bouquet_file.specs.Checks.{counts_at}
use Rattle.bouquet_file.specs.declared.relations.KeptCounts.{KeptCounts}
use Rattle.bouquet_file.proofs.Walks.{walk-ends, walk-fails, handed-on}
use Rattle.bouquet_file.proofs.relations.all_counts.Goals as goal

pub returns-clause-counts : goal.returns-clause-counts
returns-clause-counts c = walk-ends view counts_at c.args.relations.now c.loop-place.place _ c.loop-place-test.false c.loop-place.invariant.walked

pub returns-in_err-counts_at-clause-counts : goal.returns-in_err-counts_at-clause-counts
returns-in_err-counts_at-clause-counts c =
    handed-on (λ (counts : KeptCounts). counts) (λ (counts : Vec KeptCounts Global). counts.items) _ _ c.in_err-counts_at.field-0.0 c.from_residual.result c.from_residual.ensures.1
    (walk-fails view counts_at c.args.relations.now c.loop-place.place c.index-relations-place.result _ c.in_err-counts_at.field-0.0
    c.loop-place-test.true c.index-relations-place.is c.loop-place.invariant.walked)
    (λ other. sym c.in_err-counts_at.ensures)
