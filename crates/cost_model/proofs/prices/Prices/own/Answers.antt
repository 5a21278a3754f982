use Rattle.std.proofs.Common.{◌∙◌, sym, ap, subst}
use Rattle.plan_tree.specs.declared.roots.Root.TheVariants.{Nest, Hash, Merge, IndexLoop}
use Rattle.plan_tree.specs.Roots.{Stands}
use Rattle.cost_model.specs.Prices.{IsPrice, block_at}
use Rattle.cost_model.proofs.Sets.{of-block}
use Rattle.cost_model.proofs.prices.Prices.own.Goals as goal

pub scan-requires-clause-relation : goal.scan-requires-clause-relation
scan-requires-clause-relation c =
    let stands = subst (λ node. Stands (block_at c.args.self.now) node c.args.set) c.in-Scan.is c.requires.stands in
    of-block c.args.self.now.costing.block _ stands.0

pub index_scan-requires-clause-relation : goal.index_scan-requires-clause-relation
index_scan-requires-clause-relation c =
    let stands = subst (λ node. Stands (block_at c.args.self.now) node c.args.set) c.in-IndexScan.is c.requires.stands in
    of-block c.args.self.now.costing.block _ stands.0.exists

pub index_loop-requires-clause-relation : goal.index_loop-requires-clause-relation
index_loop-requires-clause-relation c =
    let stands = subst (λ node. Stands (block_at c.args.self.now) node c.args.set) c.in-IndexLoop.is c.requires.stands in
    of-block c.args.self.now.costing.block _ stands.2.exists

pub returns-in-Scan : goal.returns-in-Scan
returns-in-Scan c = subst (λ node. IsPrice c.args.self.now node c.args.set c.scan.result) (sym c.in-Scan.is) c.scan.ensures

pub returns-in-IndexScan : goal.returns-in-IndexScan
returns-in-IndexScan c = subst (λ node. IsPrice c.args.self.now node c.args.set c.index_scan.result) (sym c.in-IndexScan.is) c.index_scan.ensures

pub returns-in-Nest : goal.returns-in-Nest
returns-in-Nest c =
    subst (λ node. IsPrice c.args.self.now node c.args.set c.nest.result) (ap Nest c.new.ensures ∙ sym c.in-Nest.is) c.nest.ensures

pub returns-in-Hash : goal.returns-in-Hash
returns-in-Hash c =
    subst (λ node. IsPrice c.args.self.now node c.args.set c.hash.result) (ap (Hash c.in-Hash.edge) c.new-left.ensures ∙ sym c.in-Hash.is) c.hash.ensures

pub returns-in-Merge : goal.returns-in-Merge
returns-in-Merge c =
    subst (λ node. IsPrice c.args.self.now node c.args.set c.merge.result) (ap (Merge c.in-Merge.edge) c.new-left-in-Merge.ensures ∙ sym c.in-Merge.is) c.merge.ensures

pub returns-in-IndexLoop : goal.returns-in-IndexLoop
returns-in-IndexLoop c =
    subst (λ node. IsPrice c.args.self.now node c.args.set c.index_loop.result)
    (ap (λ left. IndexLoop c.in-IndexLoop.edge left c.in-IndexLoop.relation) c.new-in-IndexLoop.ensures ∙ sym c.in-IndexLoop.is) c.index_loop.ensures
