use Rattle.std.proofs.Common.{map, take}
use Rattle.query_block.specs.Conditions.{And, chain, filter_tree}
use Rattle.query_block.specs.Meaning.{is_true}
use Rattle.query_block.specs.Truth.{truth_of}
use Rattle.row_filter.specs.Regions.{IsKnownRegion}
use Rattle.row_filter.proofs.parts.shared_region.Given as goal

-- the region that the parts before share is known
abbrev pub invariant-loop-part : goal.invariant-loop-part
invariant-loop-part l = IsKnownRegion l.texts l.columns (λ row. is_true (truth_of (And (chain (map filter_tree (take l.part-index l.parts)))) row)) l.known
