-- The entries before this one are written.
use Rattle.std.proofs.Common.{◌≡◌, ◌+◌, ◌++◌}
use Rattle.std.specs.List.{flat_map, range_with_len}
use Rattle.demo_data.specs.Demo.{entry_line}
use Rattle.demo_data.proofs.entries.push_ten.Given as goal

abbrev pub invariant-loop-d : goal.invariant-loop-d
invariant-loop-d l =
    l.text.items
    ≡ l.initial.text.items ++ flat_map (λ d. entry_line (l.first + d) (l.second + d)) (range_with_len 0 l.d)
