-- Every plan works and costs something, and every block has a plan.
use Rattle.std.proofs.Common.{◌≡◌, inl, inr, ℕ, ◌≤◌, List, [], ◌∷◌, length, map, refl, subst, sym, arith}
use Rattle.std.specs.Prelude.{All}
use Rattle.std.proofs.lemmas.List.Elements.{All-nil, All-cons, All-head}
use Rattle.sql_values.specs.declared.value.Value.{Value}
use Rattle.sql_values.specs.Stored.{StoredTable}
use Rattle.query_block.specs.Blocks.{BlockTree, IsBlock, IsPutOf, block_tree, put_of}
use Rattle.plan_tree.specs.Plans.{PlanTree, Scan, IndexScan, Nest, Hash, Merge, IndexLoop, plan_tree}
use Rattle.plan_tree.specs.declared.plan.Plan.{Plan}
use Rattle.plan_tree.specs.Enumerated.{IsPlan}
use Rattle.plan_tree.specs.AllPlans.{plans_of}
use Rattle.plan_tree.specs.Work.{work_of}
use Rattle.query_block.proofs.PutIn.{put-block}
use Rattle.plan_tree.proofs.PutPlans.{put-plan}
use Rattle.plan_tree.proofs.Members.{IsIn}
use Rattle.plan_tree.proofs.Enumerated.{in-plans, of-plans}
use Rattle.cost_model.specs.Costing.{CostingTree}
use Rattle.cost_model.specs.Costs.{cost_of}
use Rattle.bouquet_type.specs.declared.contour.Contour.{Contour}
use Rattle.bouquet_type.specs.Shapes.{BouquetShape}
use Rattle.bouquet_type.specs.Trees.{IsBouquet, IsContour}

pub work_some : (tables : List StoredTable) (block : BlockTree) (p : PlanTree) → 1 ≤ work_of tables block p
work_some tables block (Scan relation) = omega arith
work_some tables block (IndexScan relation column) = omega arith
work_some tables block (Nest left right) = omega (arith, work_some tables block left)
work_some tables block (Hash edge left right) = omega (arith, work_some tables block left)
work_some tables block (Merge edge left right) = omega (arith, work_some tables block left)
work_some tables block (IndexLoop edge left relation) = omega (arith, work_some tables block left)

pub cost_some : (costing : CostingTree) (p : PlanTree) (point : List ℕ) → 1 ≤ cost_of costing p point
cost_some costing (Scan relation) point = omega arith
cost_some costing (IndexScan relation column) point = omega arith
cost_some costing (Nest left right) point = omega (arith, cost_some costing left point)
cost_some costing (Hash edge left right) point = omega (arith, cost_some costing left point)
cost_some costing (Merge edge left right) point = omega (arith, cost_some costing left point)
cost_some costing (IndexLoop edge left relation) point = omega (arith, cost_some costing left point)

-- a list with an item has a length
has-length : (p : PlanTree) (plans : List PlanTree) → IsIn p plans → 1 ≤ length plans
has-length p [] is = absurd is
has-length p (q ∷ plans) is = omega arith

planned : (block : BlockTree) (values : List Value) (plans : List Plan) → 1 ≤ length plans → All (λ p. IsPlan block (plan_tree p)) plans
    → 1 ≤ length (plans_of (put_of values block))
planned block values [] some are = absurd (omega (arith, some))
planned block values (p ∷ plans) some are =
    let plan = (put-plan values block (plan_tree p)).1 (All-head (λ q. IsPlan block (plan_tree q)) p plans are) in
    has-length (plan_tree p) (plans_of (put_of values block)) (in-plans (put_of values block) (plan_tree p) plan)

on-contours : (block : BlockTree) (values : List Value) (contours : List Contour) → 1 ≤ length contours → All (IsContour block) contours
    → 1 ≤ length (plans_of (put_of values block))
on-contours block values [] some are = absurd (omega (arith, some))
on-contours block values (contour ∷ contours) some are =
    let here = All-head (IsContour block) contour contours are in
    planned block values contour.plans.items here.some here.plans

-- a bouquet's plans are plans of its block, whatever values are put in
pub plans_some : (bouquet : BouquetShape) (block : BlockTree) → IsBouquet bouquet → IsPutOf (block_tree bouquet.block) block
    → 1 ≤ length (plans_of block)
plans_some bouquet block is put =
    subst (λ put. 1 ≤ length (plans_of put)) (sym put.is) (on-contours (block_tree bouquet.block) put.values bouquet.contours is.some is.contours)

-- all plans of a block are its plans
each-listed : (block : BlockTree) (plans : List Plan) → ((p : PlanTree) → IsIn p (map plan_tree plans) → IsPlan block p)
    → All (λ p. IsPlan block (plan_tree p)) plans
each-listed block [] each = All-nil (λ p. IsPlan block (plan_tree p))
each-listed block (p ∷ plans) each =
    All-cons (λ q. IsPlan block (plan_tree q)) p plans (each (plan_tree p) (inl refl)) (each-listed block plans (λ q is. each q (inr is)))

pub each_listed : (block : BlockTree) (plans : List Plan) → map plan_tree plans ≡ plans_of block → All (λ p. IsPlan block (plan_tree p)) plans
each_listed block plans same = each-listed block plans (λ p is. of-plans block p (subst (IsIn p) same is))

-- a block with values that fit is a block, and has the plans of the one that they are put into
pub put-is-block : (block put : BlockTree) → IsBlock block → IsPutOf block put → IsBlock put
put-is-block block put is put_is = subst IsBlock (sym put_is.is) (put-block put_is.values block is put_is.fit)

pub plan-before : (block put : BlockTree) (p : PlanTree) → IsPutOf block put → IsPlan put p → IsPlan block p
plan-before block put p put_is plan = (put-plan put_is.values block p).0 (subst (λ b. IsPlan b p) put_is.is plan)
