use Rattle.std.proofs.Common.{◌<◌, IfSome}
use Rattle.row_filter.proofs.union.RangeUnion.nearest.Given as goal

-- there is a range at the nearest place so far
abbrev pub invariant-loop-place : goal.invariant-loop-place
invariant-loop-place l = IfSome l.nearest (λ place. place < l.self.count) × IfSome l.nearest (λ place. place < 16)
