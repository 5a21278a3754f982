-- Points with the same level on each axis; and the corners of a grid: the top, but for the level on one axis.
use Rattle.std.proofs.Common.{◌≡◌, ◌∙◌, inl, inr, ℕ, ◌-◌, ◌<◌, ◌≤◌, List, length, replicate, set, take, ap, ap₂, sym, arith, length-set}
use Rattle.std.specs.Prelude.{slice_index, ◌≢◌}
use Rattle.std.proofs.lemmas.Bool.{cases_lt}
use Rattle.std.proofs.Math.Seq.{take-set-lt}
use Rattle.std.proofs.lemmas.List.{length-replicate, get_or-replicate, get_or-set_same, get_or-set_other, set-get_or, take-replicate}
use Rattle.std.proofs.lemmas.List.Elements.{All-set, All-replicate}
use Rattle.ess_grid.specs.Points.{GridShape, IsGrid, IsPoint, top_of}
use Rattle.ess_grid.specs.Order.{PointBelow}
use Rattle.ess_grid.proofs.PointOrder.{PointBelow-from_levels}
use Rattle.ess_grid.proofs.GridPoints.{IsPoint-top}
use Rattle.learned_run.specs.Raising.{corner_of}

-- a point with the same level everywhere
pub even-point : (grid : GridShape) (level : ℕ) → level < grid.levels → IsPoint grid (replicate grid.axes level)
even-point grid level within = record { axes = length-replicate grid.axes level; levels = All-replicate (λ one. one < grid.levels) grid.axes level within }

-- as it is made
pub even-made : (made : List ℕ) (grid : GridShape) (axes level : ℕ) → axes ≡ grid.axes → IsGrid grid → made ≡ take axes (replicate 6 level) → made ≡ replicate grid.axes level
even-made made grid axes level same is_grid is =
    is ∙ take-replicate axes 6 level (omega (arith, same, is_grid.few_axes)) ∙ ap (λ n. replicate n level) same

-- a corner, as it is made
pub corner-made : (made : List ℕ) (grid : GridShape) (axes levels axis level : ℕ) → axes ≡ grid.axes → levels ≡ grid.levels → IsGrid grid → axis < grid.axes
    → made ≡ take axes (set (replicate 6 (levels - 1)) axis level) → made ≡ corner_of grid axis level
corner-made made grid axes levels axis level same_axes same_levels is_grid there is =
    is
    ∙ take-set-lt axes (replicate 6 (levels - 1)) axis level (omega (arith, same_axes, there))
    ∙ ap (λ all. set all axis level) (take-replicate axes 6 (levels - 1) (omega (arith, same_axes, is_grid.few_axes)))
    ∙ ap₂ (λ n m. set (replicate n (m - 1)) axis level) same_axes same_levels

corner-long : (grid : GridShape) (axis level : ℕ) → length (corner_of grid axis level) ≡ grid.axes
corner-long grid axis level = length-set (top_of grid) axis level ∙ length-replicate grid.axes (grid.levels - 1)

pub corner-level : (grid : GridShape) (axis level : ℕ) → axis < grid.axes → slice_index (corner_of grid axis level) axis ≡ level
corner-level grid axis level there =
    get_or-set_same (top_of grid) axis level 0 (omega (arith, there, length-replicate grid.axes (grid.levels - 1)))

corner-other : (grid : GridShape) (axis level other : ℕ) → other < grid.axes → other ≢ axis → slice_index (corner_of grid axis level) other ≡ grid.levels - 1
corner-other grid axis level other there differs =
    get_or-set_other (top_of grid) axis other level 0 differs ∙ get_or-replicate grid.axes other (grid.levels - 1) 0 there

pub corner-point : (grid : GridShape) (axis level : ℕ) → IsGrid grid → level < grid.levels → IsPoint grid (corner_of grid axis level)
corner-point grid axis level is_grid within =
    record { axes = corner-long grid axis level; levels = All-set (λ one. one < grid.levels) (top_of grid) axis level within (IsPoint-top grid is_grid).levels }

-- with the highest level it is the top
pub corner-top : (grid : GridShape) (axis : ℕ) → axis < grid.axes → corner_of grid axis (grid.levels - 1) ≡ top_of grid
corner-top grid axis there =
    let top = top_of grid in
    ap (set top axis) (sym (get_or-replicate grid.axes axis (grid.levels - 1) 0 there)) ∙ set-get_or top axis 0

-- a point lies at or below the corner of each level that is no lower than its own
pub below-corner : (grid : GridShape) (point : List ℕ) (axis level : ℕ) → IsPoint grid point → slice_index point axis ≤ level → PointBelow point (corner_of grid axis level)
below-corner grid point axis level is_point risen =
    PointBelow-from_levels point (corner_of grid axis level) (is_point.axes ∙ sym (corner-long grid axis level)) (
    λ other there.
    let within : other < grid.axes = omega (arith, there, is_point.axes) in
    let low : slice_index point other < grid.levels = is_point.levels other 0 there in
    elim (cases_lt other axis) [
      | inl less ↦
          let same = corner-other grid axis level other within (λ is. omega (arith, less, is)) in
          omega (arith, same, low)
      | inr most ↦
          elim (cases_lt axis other) [
            | inl more ↦
                let same = corner-other grid axis level other within (λ is. omega (arith, more, is)) in
                omega (arith, same, low)
            | inr least ↦
                let is : axis ≡ other = omega (arith, most, least) in
                let here = corner-level grid axis level (omega (arith, is, within)) in
                omega (arith, risen, here, ap (slice_index point) is, ap (slice_index (corner_of grid axis level)) is)
          ]
    ]
    )
