use Rattle.std.proofs.Common.{◌≡◌, ◌+◌, ◌≤◌, ◌∙◌, length, take, get_or, subst, arith}
use Rattle.std.proofs.lemmas.List.{take_more, take_all}
use Rattle.plan_tree.specs.declared.roots.Root.TheVariants as root
use Rattle.plan_space.specs.Steps.{Considers}
use Rattle.plan_space.proofs.Considered.{IsScanBy, and-then, next-column, read-all}
use Rattle.plan_space.proofs.steps.Search.readings.Goals as goal

pub loop-i-preserved : goal.loop-i-preserved
loop-i-preserved c =
    let i = c.loop-i.i in
    let indexes = c.indexes-indexes.result.now in
    let relation = c.args.relation in
    let column = get_or indexes i 0 in
    let more = take_more indexes i 0 (omega (arith, c.loop-i-test.true)) in
    and-then c.args.self.now (IsScanBy relation (take i indexes)) (λ node. node ≡ root.IndexScan relation column) (IsScanBy relation (take (i + 1) indexes))
    c.offered-scan.result c.loop-i.found c.by_column-found.result c.loop-i.invariant c.by_column-found.ensures
    (λ node group stands. next-column c.args.self.now relation column (take i indexes) (take (i + 1) indexes) more node group)

pub returns-clause-found : goal.returns-clause-found
returns-clause-found c = c.loop-i.invariant.kept c.offered-scan.ensures.found

pub returns-clause-all : goal.returns-clause-all
returns-clause-all c =
    let sought = c.args.self.now in
    let relation = c.args.relation in
    let indexes = c.indexes-indexes.result.now in
    let all : length indexes ≤ c.loop-i.i = omega (arith, c.loop-i-test.false) in
    read-all sought relation c.offered-scan.result c.loop-i.found c.requires.1 c.offered-scan.ensures.found c.offered-scan.ensures.root
    (subst (λ columns. Considers sought (IsScanBy relation columns) c.offered-scan.result c.loop-i.found) (take_all c.loop-i.i indexes all ∙ c.indexes-indexes.ensures) c.loop-i.invariant)
