use Rattle.std.proofs.Common.{pos, map, subst, sym, to_z, of_z, w64, arith}
use Rattle.std.proofs.lemmas.Grind.{common_steps}
use Rattle.std.specs.Prelude.{ℤ}
use Rattle.std.specs.List.Sorted.{IsPartitionedBy}
use Rattle.btree_index.specs.Nodes.{entry_word, is_below, is_entry_below}
use Rattle.btree_index.proofs.Nodes.{around_mapped, around_node, level_above_leaves, rising_above, rising_mapped}
use Rattle.btree_index.proofs.Ranges.{entries_rise}
use Rattle.btree_index.proofs.run.Run.first_from.Goals as goal

pub first_in_node-requires-clause-rising : goal.first_in_node-requires-clause-rising
first_in_node-requires-clause-rising c =
    let word : ℤ = to_z w64 (of_z w64 c.args.word) in
    subst (λ xs. IsPartitionedBy (is_entry_below word) xs) (sym c.as_slice-entries.ensures.value) (entries_rise c.self.inside.entries.items word c.self.invariant.in_order)

pub first_of-leaf-requires-clause-levels : goal.first_of-leaf-requires-clause-levels
first_of-leaf-requires-clause-levels c = grind (arith, common_steps, level_above_leaves)

pub first_of-leaf-requires-clause-rising : goal.first_of-leaf-requires-clause-rising
first_of-leaf-requires-clause-rising c =
    let word : ℤ = to_z w64 (of_z w64 c.args.word) in
    let entries = c.as_slice-entries.result.now in
    let rise = subst (λ xs. IsPartitionedBy (is_entry_below word) xs) (sym c.as_slice-entries.ensures.value) (entries_rise c.self.inside.entries.items word c.self.invariant.in_order) in
    rising_above (is_below word) (map entry_word entries) c.split_at.result.0.now
    (level_above_leaves c.self.inside.entries.items entries c.self.inside.inner.items c.deref.result.now
    c.split_at.result.0.now c.split_at.result.1.now c.self.inside.height c.div_ceil.result c.self.invariant c.as_slice-entries.ensures.value
    c.deref.ensures.value c.if-self-eq1.false c.div_ceil.ensures c.split_at.ensures.front c.split_at.ensures.back).0
    (rising_mapped entry_word (is_below word) entries (pos 0, 0) rise)

pub first_in_node-requires-2-clause-rising : goal.first_in_node-requires-2-clause-rising
first_in_node-requires-2-clause-rising c =
    let word : ℤ = to_z w64 (of_z w64 c.args.word) in
    subst (λ xs. IsPartitionedBy (is_entry_below word) xs) (sym c.as_slice-entries.ensures.value) (entries_rise c.self.inside.entries.items word c.self.invariant.in_order)

pub first_in_node-requires-2-clause-around : goal.first_in_node-requires-2-clause-around
first_in_node-requires-2-clause-around c =
    let word : ℤ = to_z w64 (of_z w64 c.args.word) in
    let entries = c.as_slice-entries.result.now in
    let rise = subst (λ xs. IsPartitionedBy (is_entry_below word) xs) (sym c.as_slice-entries.ensures.value) (entries_rise c.self.inside.entries.items word c.self.invariant.in_order) in
    around_mapped entry_word (is_below word) entries c.first_of-leaf.result (pos 0)
    (around_node (is_below word) (map entry_word entries) c.split_at.result.0.now c.first_of-leaf.result
    (level_above_leaves c.self.inside.entries.items entries c.self.inside.inner.items c.deref.result.now
    c.split_at.result.0.now c.split_at.result.1.now c.self.inside.height c.div_ceil.result c.self.invariant c.as_slice-entries.ensures.value
    c.deref.ensures.value c.if-self-eq1.false c.div_ceil.ensures c.split_at.ensures.front c.split_at.ensures.back).0
    (rising_mapped entry_word (is_below word) entries (pos 0, 0) rise) c.first_of-leaf.ensures.first c.first_of-leaf.ensures.within)
