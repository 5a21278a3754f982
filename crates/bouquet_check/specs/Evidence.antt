-- What each verdict shows.
use Rattle.std.specs.Prelude.{◌≢◌, ℕ, ◌-◌, ◌*◌, ◌<◌, ◌≤◌, All, [], length, slice_index_or}
use Rattle.ess_grid.specs.Points.{IsPoint, bottom_of, top_of}
use Rattle.cost_model.specs.Costs.{cost_of}
use Rattle.cost_model.specs.Optimal.{optimal_cost}
use Rattle.bouquet_type.specs.Trees.{BouquetTree, ContourTree}
use Rattle.bouquet_type.specs.Budgets.{budget_of}
use Rattle.bouquet_type.specs.Sound.{IsSound, first_cost, last_cost}
use Rattle.bouquet_check.specs.Verdicts.{VerdictTree, First, Step, Last, Uncovered, Sound}

-- the contour of this number, from 1
abbrev pub numbered_contour : BouquetTree → (number : ℕ) → ContourTree
numbered_contour bouquet number = slice_index_or bouquet.contours (number - 1) (record { cost = 0; plans = [] })

-- the bouquet is as the verdict says: a contour doesn't cost twice what the one before does, or at a point of the grid the
-- optimal cost is within a contour's, and each of the contour's plans costs more than its budget
abbrev pub IsEvidence : BouquetTree → VerdictTree → Type 0
IsEvidence bouquet First = optimal_cost bouquet.costing (bottom_of bouquet.costing.grid) < first_cost bouquet.contours
IsEvidence bouquet (Step number) =
    (2 ≤ number) × (number ≤ length bouquet.contours)
    × ((numbered_contour bouquet number).cost ≢ 2 * (numbered_contour bouquet (number - 1)).cost)
IsEvidence bouquet Last = last_cost bouquet.contours < optimal_cost bouquet.costing (top_of bouquet.costing.grid)
IsEvidence bouquet (Uncovered number point) =
    let contour = numbered_contour bouquet number in
    (1 ≤ number) × (number ≤ length bouquet.contours) × IsPoint bouquet.costing.grid point
    × (optimal_cost bouquet.costing point ≤ contour.cost)
    × All (λ p. budget_of bouquet.threshold contour.cost < cost_of bouquet.costing p point) contour.plans
IsEvidence bouquet Sound = IsSound bouquet
