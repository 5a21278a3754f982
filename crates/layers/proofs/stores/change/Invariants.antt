use Rattle.std.proofs.Common.{◌≡◌, length}
use Rattle.layers.proofs.stores.change.Given as goal

abbrev pub invariant-loop : goal.invariant-loop
invariant-loop l = length l.row ≡ l.stack.width
