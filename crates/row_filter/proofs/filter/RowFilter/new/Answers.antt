use Rattle.row_filter.proofs.Fixed.{fixed-at}
use Rattle.row_filter.proofs.filter.RowFilter.new.Goals as goal

pub take_in-requires-clause-fits : goal.take_in-requires-clause-fits
take_in-requires-clause-fits c = λ fixed.
    fixed-at c.args.columns.now c.args.conditions.now c.loop-condition.condition-index c.condition-item.result c.loop-condition-test.true c.condition-item.is fixed c.requires.fit
