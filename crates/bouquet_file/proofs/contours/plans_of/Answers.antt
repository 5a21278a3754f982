use Rattle.std.proofs.Common.{ℕ, List, [], Bor, get_or, map, rules}
use Rattle.std.proofs.lemmas.List.{get_or_default}
use Rattle.query_block.specs.Blocks.{block_tree}
use Rattle.plan_tree.specs.Plans.{plan_tree}
use Rattle.bouquet_file.specs.Checks.{plan_here}
use Rattle.bouquet_file.proofs.Walks.{walk-ends, walk-fails, walk-pushes, handed-on}
use Rattle.bouquet_file.proofs.contours.plans_of.Goals as goal

abbrev seen : Bor (List ℕ) → List ℕ
seen text = text.now

-- what is read past the end, which no text is
abbrev nothing : Bor (List ℕ)
nothing = record { ref_ptr = (0, 0); now = [] }

pub returns-clause-plans : goal.returns-clause-plans
returns-clause-plans c =
    walk-ends seen (plan_here (block_tree c.args.block.now) c.args.contour) c.args.texts.now c.loop-place.place _ c.loop-place-test.false c.loop-place.invariant.walked

pub returns-in_err-plan_here-clause-plans : goal.returns-in_err-plan_here-clause-plans
returns-in_err-plan_here-clause-plans c =
    let texts = c.args.texts.now in
    let text = get_or texts c.loop-place.place nothing in
    handed-on plan_tree (λ plans. map plan_tree plans.items) _ _ c.in_err-plan_here.field-0.0 c.from_residual.result c.from_residual.ensures.1
    (walk-fails seen (plan_here (block_tree c.args.block.now) c.args.contour) texts c.loop-place.place text _ c.in_err-plan_here.field-0.0
    c.loop-place-test.true (get_or_default texts c.loop-place.place nothing text c.loop-place-test.true) c.loop-place.invariant.walked)
    c.in_err-plan_here.ensures.plan

pub loop-place-preserved : goal.loop-place-preserved
loop-place-preserved c =
    let texts = c.args.texts.now in
    let text = get_or texts c.loop-place.place nothing in record {
      walked =
          walk-pushes seen (plan_here (block_tree c.args.block.now) c.args.contour) plan_tree texts c.loop-place.place text c.loop-place.plans.items c.push.new.self.items
          c.in_ok-plan_here.field-0 c.loop-place-test.true (get_or_default texts c.loop-place.place nothing text c.loop-place-test.true) c.in_ok-plan_here.ensures.plan
          c.in_ok-push.ensures.items c.loop-place.invariant.walked;
      count = search rules;
      are_plans = search rules;
    }
