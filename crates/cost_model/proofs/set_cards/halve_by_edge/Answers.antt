use Rattle.std.proofs.Common.{◌≡◌, ◌≤◌, cond, get_or, ap, sym, ◌∙◌, arith}
use Rattle.ess_grid.specs.Levels.{selectivity_bits}
use Rattle.query_block.specs.Meaning.{is_inside}
use Rattle.plan_tree.specs.Enumerated.{edge_at}
use Rattle.plan_tree.specs.Sets.{set_of}
use Rattle.cost_model.specs.Pricing.{Pricing}
use Rattle.cost_model.proofs.SetCards.{halved-next, add-halved}
use Rattle.cost_model.proofs.set_cards.halve_by_edge.Goals as goal
use Rattle.cost_model.proofs.set_cards.halve_by_edge.Goals.{then-inside, else-inside}

pub loop-set-preserved : goal.loop-set-preserved
loop-set-preserved c =
    let costing = c.args.costing.now in
    let at : Pricing = record { costing = costing; point = c.args.q.now } in
    let edge = c.args.edge in
    let set = c.loop-set.set in
    let before = get_or c.loop-set.halvings set 0 in
    let all = c.halvings-more.result in
    let edges : c.edges.result.now ≡ costing.block.edges = c.edges.ensures.edges ∙ ap (λ block. block.edges) c.block.ensures.block in
    let inside : c.has_both-inside.result ≡ is_inside (set_of set) (edge_at costing.block.edges edge) =
    c.has_both-inside.ensures ∙ (λ i. is_inside (set_of (c.new.ensures i)) (edge_at (edges i) edge)) in
    let more : c.if-inside.halvings ≡ cond c.has_both-inside.result all 0 =
    elim c.if-inside.branch [
      | then-inside w ↦ w.halvings-is ∙ ap (λ b. cond b all 0) (sym w.if-inside.true)
      | else-inside w ↦ w.halvings-is ∙ ap (λ b. cond b all 0) (sym w.if-inside.false)
    ] in
    let few : c.if-inside.halvings ≤ selectivity_bits =
    elim c.if-inside.branch [
      | then-inside w ↦ omega (arith, w.halvings-is, c.halvings-more.ensures.few)
      | else-inside w ↦ omega (arith, w.halvings-is)
    ] in
    let next = halved-next at set edge before c.if-inside.halvings c.requires.edge (c.loop-set.invariant.1 set (omega arith) c.loop-set-test.true) few
    (more ∙ (λ i. cond (inside i) (c.halvings-more.ensures.halvings i) 0)) in
    add-halved at c.loop-set.halvings set edge _ c.loop-set.invariant.2 c.loop-set-test.true
    c.loop-set.invariant.0 c.loop-set.invariant.1 next
