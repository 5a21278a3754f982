use Rattle.std.proofs.Common.{◌≡◌, ◌+◌, ◌-◌, ◌^◌, ◌<◌, ◌≤◌, ◌∙◌, sym, ap, arith}
use Rattle.std.specs.Int.{div_ceil}
use Rattle.btree_index.specs.Height.{height_of}
use Rattle.btree_index.specs.Nodes.{nodes_up_to}
use Rattle.btree_index.proofs.Height.{ceil_least, entries_some, height_some, level_size, nodes_counted, nodes_more}
use Rattle.btree_index.proofs.index.nodes_for.Goals as goal

pub loop-level-preserved : goal.loop-level-preserved
loop-level-preserved c =
    let n = c.args.entries in
    let level = c.loop-level._level in
    let kept = c.loop-level.invariant in
    let more : 2 ≤ height_of n = omega (arith, c.height_for-height.ensures.height, c.loop-level-test.true) in
    let some : 0 < n = entries_some n more in
    let next : level + 1 - 1 ≡ level = omega arith in
    let size : c.div_ceil-level_nodes.result ≡ div_ceil n (64 ^ level) = c.div_ceil-level_nodes.ensures ∙ level_size n level c.loop-level.level_nodes (omega arith) kept.size in
    let low : c.div_ceil-level_nodes.result ≤ 2 ^ 58 = omega (arith, c.div_ceil-level_nodes.ensures, ceil_least c.loop-level.level_nodes 64 (2 ^ 58) (omega arith) (omega (arith, kept.few))) in
    record {
      size = size ∙ ap (λ k. div_ceil n (64 ^ k)) (sym next);
      few = omega (arith, low);
      nodes = (λ i. kept.nodes i + size i) ∙ sym (nodes_more n level (omega arith) some) ∙ ap (nodes_up_to n) (sym next);
      bound = omega (arith, low, kept.bound);
    }

pub overflow_add-result : goal.overflow_add-result
overflow_add-result c = record { fits = omega (arith, c.loop-level.invariant.bound, c.height_for-height.ensures.few, c.height_for-height.ensures.height, height_some c.args.entries, c.loop-level-test.false, c.loop-level.auto) }

pub returns : goal.returns
returns c =
    let kept = c.loop-level.invariant in
    let last : c.loop-level._level ≡ c.height_for-height.result =
    omega (arith, c.height_for-height.ensures.height, height_some c.args.entries, c.loop-level-test.false) in
    nodes_counted c.args.entries c.height_for-height.result c.loop-level.below_root c.height_for-height.ensures.height
    (kept.nodes ∙ ap (λ k. nodes_up_to c.args.entries (k - 1)) last)
