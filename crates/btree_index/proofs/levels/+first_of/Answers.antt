use Rattle.std.proofs.Common.{◌≡◌, rules, arith, subst, sym, to_z, of_z, w64}
use Rattle.std.specs.List.Sorted.{IsPartitionPoint, IsPartitionedBy}
use Rattle.std.specs.Prelude.{true, false}
use Rattle.btree_index.specs.Nodes.{is_below, IsAround}
use Rattle.btree_index.proofs.Nodes.{around_node, levels_above, rising_above}
use Rattle.btree_index.proofs.levels.+first_of.Goals as goal

pub first_of-node-requires : goal.first_of-node-requires
first_of-node-requires t c =
    let kept : to_z w64 (of_z w64 c.args.word) ≡ c.args.word = search rules in
    let level = c.split_at.result.0.now in
    let above = levels_above c.args.more c.args.words.now c.args.above.now level c.split_at.result.1.now c.div_ceil.result c.if-more-eq0.false c.requires.levels c.div_ceil.ensures c.split_at.ensures.front c.split_at.ensures.back in (
      omega (arith, c.if-more-eq0.false),
      (
        above.1,
        subst (λ w. IsPartitionedBy (is_below w) level) (sym kept)
            (rising_above (is_below c.args.word) c.args.words.now level above.0 c.requires.rising),
      ),
    )

pub first_in_node-requires-2-clause-around : goal.first_in_node-requires-2-clause-around
first_in_node-requires-2-clause-around t c =
    let kept : to_z w64 (of_z w64 c.args.word) ≡ c.args.word = search rules in
    let level = c.split_at.result.0.now in
    let above = levels_above c.args.more c.args.words.now c.args.above.now level c.split_at.result.1.now c.div_ceil.result c.if-more-eq0.false c.requires.levels c.div_ceil.ensures c.split_at.ensures.front c.split_at.ensures.back in
    let node = c.first_of-node.result in
    let point = subst (λ w. IsPartitionPoint (λ x. is_below w x ≡ true) (λ x. is_below w x ≡ false) level node) kept c.first_of-node.ensures.first in
    subst (λ w. IsAround (is_below w) c.args.words.now node) (sym kept)
    (around_node (is_below c.args.word) c.args.words.now level node above.0 c.requires.rising point c.first_of-node.ensures.within)
