use Rattle.std.proofs.Common.{rules}
use Rattle.plan_space.proofs.RowsKept.{no-row}
use Rattle.plan_space.proofs.kept_rows.KeptRows.with_places.Goals as goal

pub returns : goal.returns
returns c = no-row _ c.args.places c.in_ok-vec.field-0.items (c.in_ok-vec.ensures.items_if_clones_equal (λ x same. search rules))
