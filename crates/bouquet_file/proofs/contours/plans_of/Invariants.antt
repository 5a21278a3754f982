use Rattle.std.proofs.Common.{◌≡◌, All, length, map}
use Rattle.query_block.specs.Blocks.{block_tree}
use Rattle.plan_tree.specs.Plans.{plan_tree}
use Rattle.plan_tree.specs.Enumerated.{IsPlan}
use Rattle.bouquet_file.specs.Checks.{plan_here}
use Rattle.bouquet_file.proofs.Walks.{Walked}
use Rattle.bouquet_file.proofs.contours.plans_of.Given as goal

abbrev pub invariant-loop-place : goal.invariant-loop-place
invariant-loop-place l = record {
  walked : Walked (λ text. text.now) (plan_here (block_tree l.block) l.contour) l.texts l.place (map plan_tree l.plans.items);
  count : length l.plans.items ≡ l.place;
  are_plans : All (λ p. IsPlan (block_tree l.block) (plan_tree p)) l.plans.items;
}
