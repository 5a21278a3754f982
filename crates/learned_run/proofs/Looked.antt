-- Rows of a frontier that are looked at one after another, and worked out.
use Rattle.std.proofs.Common.{◌≡◌, ◌∙◌, ℕ, ◌+◌, ◌<◌, List, [], ◌∷◌, get_or, length, map, set, take, refl, ap, ap₂, sym, arith}
use Rattle.std.specs.Prelude.{All, Bool, None, true, false, ◌&&◌, ◌||◌}
use Rattle.std.specs.List.{list_any}
use Rattle.std.proofs.lemmas.List.{length-map, get_or-map}
use Rattle.std.proofs.lemmas.List.Elements.{All-nil, All-cons, All-head, All-tail}
use Rattle.std.proofs.lemmas.List.Folds.{list_any_more, list_any_at}
use Rattle.std.proofs.Math.Seq.{map-set_same}
use Rattle.ess_grid.specs.Points.{IsPoint}
use Rattle.cost_model.specs.Costing.{CostingTree, costing_tree}
use Rattle.plan_space.specs.SurfacePoints.{IsSurfacePoint, surface_points}
use Rattle.plan_space.specs.declared.surface.SurfacePoint.{SurfacePoint}
use Rattle.learned_run.specs.declared.rows.FrontierRow.{FrontierRow}
use Rattle.learned_run.specs.Skips.{is_at_or_below}
use Rattle.learned_run.specs.Covering.{IsTriedRow, TriedShape, bare_row, covers_point}

abbrev pub row_points : List FrontierRow → List (List ℕ)
row_points rows = map (λ (row : FrontierRow). row.point) rows

-- the row of a point of a frontier, as it is found with its cost
abbrev pub row_at : SurfacePoint → FrontierRow
row_at at = record { point = at.point; cost = at.cost; covers = None }

pub found-bare : (costing : CostingTree) (points : List SurfacePoint) → All (IsSurfacePoint costing) points → map row_at points ≡ map (bare_row costing) (surface_points points)
found-bare costing [] are = refl
found-bare costing (at ∷ more) are =
    ap₂ (λ (cost : ℕ) (rows : List FrontierRow). let row : FrontierRow = record { point = at.point; cost = cost; covers = None } in row ∷ rows)
    (All-head (IsSurfacePoint costing) at more are).cost (found-bare costing more (All-tail (IsSurfacePoint costing) at more are))

-- rows of which nothing is worked out are rows for any plans, of their points
pub bare-points : (costing : CostingTree) (points : List (List ℕ)) → row_points (map (bare_row costing) points) ≡ points
bare-points costing [] = refl
bare-points costing (point ∷ more) = ap (λ points. point ∷ points) (bare-points costing more)

pub bare-each : (tried : TriedShape) (points : List (List ℕ)) → All (IsPoint tried.costing.grid) points → All (IsTriedRow tried) (map (bare_row (costing_tree tried.costing)) points)
bare-each tried [] are = All-nil (IsTriedRow tried)
bare-each tried (point ∷ more) are =
    let costing = costing_tree tried.costing in
    All-cons (IsTriedRow tried) (bare_row costing point) (map (bare_row costing) more)
    (record { point = All-head (IsPoint tried.costing.grid) point more are; cost = refl; covers = tt })
    (bare-each tried more (All-tail (IsPoint tried.costing.grid) point more are))

-- a row is worked out in its place
pub points-stay : (first rows : List FrontierRow) (at : ℕ) (row worked : FrontierRow) → row ≡ get_or rows at row → worked.point ≡ row.point → row_points rows ≡ row_points first
    → row_points (set rows at worked) ≡ row_points first
points-stay first rows at row worked is same before =
    map-set_same (λ (row : FrontierRow). row.point) rows at worked row (same ∙ ap (λ (row : FrontierRow). row.point) is) ∙ before

module _ (first now : TriedShape) (kept : now ≡ first) (place : ℕ) (point : List ℕ) (all rows : List FrontierRow) (at : ℕ) (row : FrontierRow) (there : at < length all)
    (is : row ≡ get_or rows at row) (same : row_points rows ≡ row_points all) (told : Bool) (tells : told ≡ is_at_or_below point row.point && covers_point now place row.point) where
  abbrev test : List ℕ → Bool
  test other = is_at_or_below point other && covers_point first place other

  inside : at < length rows
  inside = omega (arith, there, length-map rows (λ (row : FrontierRow). row.point), length-map all (λ (row : FrontierRow). row.point), ap length same)

  here : get_or (row_points all) at row.point ≡ row.point
  here =
      ap (λ points. get_or points at row.point) (sym same) ∙ get_or-map (λ (row : FrontierRow). row.point) rows at row row.point inside
      ∙ ap (λ (row : FrontierRow). row.point) (sym is)

  long : at < length (row_points all)
  long = omega (arith, there, length-map all (λ (row : FrontierRow). row.point))

  passes : test row.point ≡ told
  passes = sym (tells ∙ ap (λ (tried : TriedShape). is_at_or_below point row.point && covers_point tried place row.point) kept)

  -- one that covers settles it; one that doesn't leaves it to those behind it
  pub one-covers : told ≡ true → true ≡ list_any test (row_points all)
  one-covers is_covered = sym (list_any_at test (row_points all) at row.point long (ap test here ∙ passes ∙ is_covered))

  pub none-covers : told ≡ false → list_any test (take at (row_points all)) ≡ false → list_any test (take (at + 1) (row_points all)) ≡ false
  none-covers is_bare before =
      list_any_more test (row_points all) at row.point long
      ∙ ap₂ (λ (some : Bool) (one : Bool). some || one) before (ap test here ∙ passes ∙ is_bare)
