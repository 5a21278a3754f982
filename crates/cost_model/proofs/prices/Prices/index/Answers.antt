use Rattle.std.proofs.Common.{◌∙◌, ap, sym, subst}
use Rattle.cost_model.specs.Costs.{index_on}
use Rattle.cost_model.specs.Few.{IsFewIndex}
use Rattle.cost_model.proofs.Bounds.{index-on-few}
use Rattle.cost_model.proofs.prices.Prices.index.Goals as goal

pub returns-clause-few : goal.returns-clause-few
returns-clause-few c =
    let column = c.args.column in
    subst IsFewIndex (sym (c.index_on.ensures ∙ ap (λ all. index_on all column) c.as_slice.ensures))
    (index-on-few _ column c.relation.ensures.few.columns)
