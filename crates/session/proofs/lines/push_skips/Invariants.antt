use Rattle.std.proofs.Common.{◌≡◌, ◌++◌, take}
use Rattle.std.specs.List.{flat_map}
use Rattle.bouquet_type.specs.Trees.{bouquet_tree}
use Rattle.session.specs.Printed.{skip_line}
use Rattle.session.proofs.lines.push_skips.Given as goal

abbrev pub invariant-loop-skip : goal.invariant-loop-skip
invariant-loop-skip l = l.text.items ≡ l.initial.text.items ++ flat_map (skip_line (bouquet_tree l.bouquet)) (take l.skip-index l.skips)
