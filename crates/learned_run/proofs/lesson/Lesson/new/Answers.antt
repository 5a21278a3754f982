use Rattle.std.proofs.Common.{◌≡◌, ◌∙◌, ℕ, [], List, ap, sym, subst}
use Rattle.std.specs.Prelude.{Some, false}
use Rattle.ess_grid.specs.Points.{IsGrid, bottom_of}
use Rattle.cost_model.specs.Costing.{costing_tree}
use Rattle.learned_run.specs.Raising.{IsLearned}
use Rattle.learned_run.proofs.RuledOut.{nothing-learned}
use Rattle.learned_run.proofs.lesson.Lesson.new.Goals as goal

pub returns : goal.returns
returns c =
    let costing = costing_tree c.args.costing.now in
    let same : c.even.result ≡ bottom_of costing.grid = c.even.ensures.levels ∙ ap bottom_of c.grid-grid.ensures in
    subst (λ (point : List ℕ). IsLearned costing [] false (Some point)) (sym same) (nothing-learned costing (subst IsGrid c.grid-grid.ensures c.levels.ensures.grid))
