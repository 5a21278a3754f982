use Rattle.std.proofs.Common.{pos}
use Rattle.std.specs.Prelude.{slice_index_or, int_le}
use Rattle.btree_index.specs.Nodes.{is_entry_below, IsCounted}
use Rattle.btree_index.proofs.run.stretch_among_few.Given as goal

-- so many entries so far are below the range, and so many up to its end
abbrev pub invariant-loop-place : goal.invariant-loop-place
invariant-loop-place l =
    IsCounted (λ i. is_entry_below l.from (slice_index_or l.entries i (pos 0, 0))) l.begin l.place
    × IsCounted (λ i. int_le (slice_index_or l.entries i (pos 0, 0)).0 l.to) l.end l.place
