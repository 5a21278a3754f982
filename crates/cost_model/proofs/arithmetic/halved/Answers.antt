use Rattle.std.proofs.Common.{◌+◌, ◌-◌, ◌/◌, ◌^◌, ap, ◌∙◌, arith}
use Rattle.cost_model.proofs.Rounding.{divisor-fits, halved-up}
use Rattle.cost_model.proofs.arithmetic.halved.Goals as goal

pub overflow_add-result : goal.overflow_add-result
overflow_add-result c =
    let fits = divisor-fits c.args.halvings c.min-times.result c.min-times.ensures in
    record { fits = omega (arith, c.requires, fits.0, fits.1) }

pub returns : goal.returns
returns c =
    let times = c.min-times.result in
    record {
      halved =
          ap (λ by. (c.args.rows + (by - 1)) / 2 ^ times) (divisor-fits c.args.halvings times c.min-times.ensures).0
          ∙ halved-up c.args.rows c.args.halvings times c.requires c.min-times.ensures;
    }
