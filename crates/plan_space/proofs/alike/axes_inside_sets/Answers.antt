use Rattle.std.proofs.Common.{◌<◌, ◌≢◌, List, [], length, get_or, get_or-set_other, get_or-set_same, below_more, subst, ◌∙◌, arith}
use Rattle.std.specs.Prelude.{Bool, slice_set}
use Rattle.std.proofs.Math.ListN.{length-set}
use Rattle.query_block.specs.Blocks.{block_tree}
use Rattle.plan_space.specs.Alike.{AreInside}
use Rattle.plan_space.proofs.alike.axes_inside_sets.Goals as goal

pub loop-set-preserved : goal.loop-set-preserved
loop-set-preserved c =
    let block = block_tree c.args.costing.now.block in
    let sets : List (List Bool) = c.loop-set.sets in
    let set = c.loop-set.set in
    let inside : List Bool = c.axes_inside.result in
    let there : set < length sets = omega (arith, c.loop-set-test.true, c.loop-set.invariant.1) in
    let here : AreInside block set inside = subst (λ one. AreInside block one inside) c.new.ensures c.axes_inside.ensures in (
      below_more (λ one. AreInside block one (get_or (slice_set sets set inside) one [])) set
          (λ one less. let other : one ≢ set = omega arith in rw get_or-set_other (c.loop-set.invariant.0 one less))
          (rw get_or-set_same here),
      length-set sets set inside ∙ c.loop-set.invariant.1,
    )
