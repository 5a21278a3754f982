-- The numbers of plans, as far as 128 bits reach.
use Rattle.std.proofs.Common.{◌≡◌, ℕ, zero, suc, ◌+◌, ◌-◌, ◌*◌, ◌^◌, List, [], ◌∷◌, ◌++◌, length, map, refl, ap, ◌∙◌, arith}
use Rattle.std.proofs.lemmas.Grind.{common_steps}
use Rattle.std.specs.Prelude.{min, slice_index}
use Rattle.std.proofs.lemmas.List.{length-append, length-map, map_push}
use Rattle.query_block.specs.Blocks.{BlockTree}
use Rattle.plan_tree.specs.Plans.{PlanTree}
use Rattle.plan_tree.specs.AllPlans.{pairs_by, plans_at, plans_over, plans_below, plans_of}
use Rattle.plan_tree.specs.Work.{capped}
use Rattle.plan_tree.proofs.Capped.{product-capped}
use Rattle.plan_tree.proofs.Listed.{below-more, length-below}

-- how many plans these are, as far as 128 bits reach
abbrev pub plan_count : List PlanTree → ℕ
plan_count plans = capped (length plans)

length-pairs : (join : PlanTree → PlanTree → PlanTree) (lefts rights : List PlanTree)
    → length (pairs_by join lefts rights) ≡ length lefts * length rights
length-pairs join [] rights = omega arith
length-pairs join (left ∷ lefts) rights =
    let both = length-append (map (join left) rights) (pairs_by join lefts rights) in
    omega (arith, both, length-map rights (join left), length-pairs join lefts rights)

count-at : (lists : List (List PlanTree)) (set : ℕ) → slice_index (map plan_count lists) set ≡ plan_count (plans_at lists set)
count-at [] set = omega arith
count-at (list ∷ lists) zero = refl
count-at (list ∷ lists) (suc set) = count-at lists set

-- the plans of two sides, each with each
pub count-pairs : (join : PlanTree → PlanTree → PlanTree) (counts : List ℕ) (lists : List (List PlanTree)) (left right count : ℕ)
    → counts ≡ map plan_count lists → count ≡ min (slice_index counts left * slice_index counts right) (2 ^ 128 - 1)
    → count ≡ plan_count (pairs_by join (plans_at lists left) (plans_at lists right))
count-pairs join counts lists left right count same is =
    grind (arith, common_steps, count-at, product-capped, length-pairs)

-- the count of the last set is that of all plans
pub count-whole : (block : BlockTree) (counts : List ℕ) (set end count : ℕ) → counts ≡ map plan_count (plans_below block set)
    → set ≡ end → end ≡ 2 ^ length block.relations → count ≡ slice_index counts (end - 1) → count ≡ plan_count (plans_of block)
count-whole block counts set end count so at all is = grind (arith, common_steps, count-at)

-- one more set
pub counts-more : (block : BlockTree) (counts next : List ℕ) (set count : ℕ) → counts ≡ map plan_count (plans_below block set)
    → next ≡ counts ++ count ∷ [] → count ≡ plan_count (plans_over block (plans_below block set) set)
    → next ≡ map plan_count (plans_below block (set + 1))
counts-more block counts next set count so is of = grind (arith, common_steps, map_push, below-more)

pub length-counts : (block : BlockTree) (counts : List ℕ) (set : ℕ) → counts ≡ map plan_count (plans_below block set)
    → length counts ≡ set
length-counts block counts set so = ap length so ∙ length-map (plans_below block set) plan_count ∙ length-below block set
