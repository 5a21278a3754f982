use Rattle.std.proofs.Common.{sym, subst, ◌∙◌, arith}
use Rattle.plan_tree.specs.Plans.{plan_tree}
use Rattle.plan_tree.specs.Roots.{Stands}
use Rattle.plan_tree.proofs.Outermost.{stands, covers-below}
use Rattle.cost_model.specs.Prices.{own_at, block_at}
use Rattle.cost_model.proofs.Sets.{fits-set}
use Rattle.cost_model.proofs.plan_cost.root_cost.Goals as goal

pub root-requires : goal.root-requires
root-requires c = fits-set (block_at c.args.prices.now) (plan_tree c.args.p.now) c.block-block.ensures.costing.block.few c.requires

pub covers-requires : goal.covers-requires
covers-requires c = fits-set (block_at c.args.prices.now) (plan_tree c.args.p.now) c.block-block.ensures.costing.block.few c.requires

pub own-requires-clause-stands : goal.own-requires-clause-stands
own-requires-clause-stands c =
    let block = block_at c.args.prices.now in
    subst (λ node. Stands block node c.covers.result) (sym c.root.ensures)
    (subst (Stands block _) (sym c.covers.ensures) (stands block (plan_tree c.args.p.now) c.requires))

pub own-requires-clause-set : goal.own-requires-clause-set
own-requires-clause-set c = omega (arith, c.covers.ensures, covers-below (block_at c.args.prices.now) (plan_tree c.args.p.now) c.requires)

pub returns-clause-own : goal.returns-clause-own
returns-clause-own c = c.own.ensures.own ∙ (λ i. own_at c.args.prices.now (c.root.ensures i) (c.covers.ensures i))
