use Rattle.std.proofs.Common.{false}
use Rattle.row_filter.proofs.parts.known_union.Goals as goal

pub returns : goal.returns
returns c = c.add_condition.ensures (λ row. false) c.if-not-add_condition.false (c.new-union.ensures c.args.texts.now c.args.columns.now)
