-- The tens before this one are written.
use Rattle.std.proofs.Common.{◌≡◌, ◌*◌, ◌%◌}
use Rattle.demo_data.specs.Demo.{entry_line, file_of_entries}
use Rattle.demo_data.proofs.files.file_of.Given as goal

abbrev pub invariant-loop-ten : goal.invariant-loop-ten
invariant-loop-ten l =
    l.text.items ≡ file_of_entries l.header (10 * l.ten) (λ i. entry_line (i % l.first) (i % l.second))
