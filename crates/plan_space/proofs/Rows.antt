-- The rows that are kept of a grid's points.
use Rattle.std.proofs.Common.{◌≡◌, ◌∙◌, ◌≢◌, ℕ, ◌<◌, Bool, true, false, List, Option, None, Some, length, nat_eq, get_or-set_other, get_or-set_same, refl, sym, subst, arith}
use Rattle.std.specs.Prelude.{slice_set}
use Rattle.std.proofs.lemmas.Option.{same_Some}
use Rattle.ess_grid.specs.Points.{point_at}
use Rattle.cost_model.specs.Costing.{CostingShape}
use Rattle.plan_space.specs.declared.entry.Entry.{Entry}
use Rattle.plan_space.specs.Places.{HoldsAt}
use Rattle.plan_space.specs.KeptRows.{kept_row_at}
use Rattle.plan_space.specs.Alike.{LeastAt, AreLeastRows}

-- one more is kept
pub add-row : (costing : CostingShape) (rows : List (Option (List Entry))) (row : List Entry) (place : ℕ) → place < length rows → AreLeastRows costing rows
    → HoldsAt costing.grid place (LeastAt costing row) → AreLeastRows costing (slice_set rows place (Some row))
add-row costing rows row place within least here other point found kept there = by (nat_eq other place) refl
  where
    by : (t : Bool) → nat_eq other place ≡ t → LeastAt costing found point
    by true e =
        let same : other ≡ place = grind arith in
        let read : kept_row_at (slice_set rows place (Some row)) place ≡ Some found = subst (λ n. kept_row_at (slice_set rows place (Some row)) n ≡ Some found) same kept in
        let last : row ≡ found = same_Some row found (sym (get_or-set_same rows place (Some row) None within) ∙ read) in
        subst (λ one. LeastAt costing one point) last (here point (subst (λ n. point_at costing.grid n ≡ Some point) same there))
    by false e =
        let ne : other ≢ place = grind arith in
        least other point found (sym (get_or-set_other rows place other (Some row) None ne) ∙ kept) there
