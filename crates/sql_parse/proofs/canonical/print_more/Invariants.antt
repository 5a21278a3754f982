use Rattle.std.proofs.Common.{◌≡◌, ◌∷◌, drop, flat_map}
use Rattle.sql_parse.specs.Canonical.{Fixed}
use Rattle.sql_parse.specs.declared.mark.Mark.TheVariants.{Comma}
use Rattle.sql_parse.specs.Printing.{put_all}
use Rattle.sql_parse.proofs.canonical.print_more.Given as goal

abbrev pub invariant-loop-item : goal.invariant-loop-item
invariant-loop-item g l =
    put_all l.writer (flat_map (λ item. Fixed Comma ∷ g.T.Printed.parts item) (drop l.item-index l.items))
    ≡ put_all l.fn.writer (flat_map (λ item. Fixed Comma ∷ g.T.Printed.parts item) l.items)
