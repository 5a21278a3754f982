-- The place of the point that keeps the levels of some axes and has the lowest level on the others.
use Rattle.std.proofs.Common.{◌≡◌, ℕ, zero, suc, ◌+◌, ◌-◌, ◌*◌, ◌<◌, ◌≤◌, Bool, true, false, cond, inl, inr, List, [], ◌∷◌, length, drop, get_or, Option, Some, None, refl, sym, ap, subst, ◌∙◌, arith}
use Rattle.std.specs.Prelude.{All, IfSome, IsTrue, slice_index_or}
use Rattle.std.proofs.lemmas.Bool.{true≢false, cases_lt}
use Rattle.std.proofs.Math.Seq.{drop-length}
use Rattle.std.proofs.lemmas.List.Elements.{All-nil, All-cons, All-head, All-tail}
use Rattle.sql_values.specs.Limits.{max_points}
use Rattle.ess_grid.specs.Points.{GridShape, IsGrid, IsPoint, point_at}
use Rattle.ess_grid.proofs.PointsAmong.{place_at, place_at-drop}
use Rattle.ess_grid.proofs.GridPoints.{slice_get-place_at, place_at-drop-fits}
use Rattle.query_block.specs.Blocks.{RelationTree, BlockTree, relation_at, has_parameter, axes_of, axis_of}
use Rattle.cost_model.proofs.OnAxes.{axis-below}
use Rattle.cost_model.specs.Costing.{costing_tree, IsCosting}
use Rattle.cost_model.specs.Pricing.{Pricing}
use Rattle.cost_model.specs.Prices.{block_at}
use Rattle.plan_space.specs.Alike.{IsAlikePlace, AreInside}

-- only a relation of the block has an axis
none-beyond : (relations : List RelationTree) (relation : ℕ) → length relations ≤ relation → has_parameter (relation_at relations relation) ≡ false
none-beyond [] relation beyond = refl
none-beyond (one ∷ more) zero beyond = absurd (omega (arith, beyond))
none-beyond (one ∷ more) (suc relation) beyond = none-beyond more relation (omega (arith, beyond))

no-axis-where : (b : Bool) (axis one : ℕ) → b ≡ false → cond b (Some axis) None ≡ Some one → ⊥
no-axis-where true axis one out is = true≢false out
no-axis-where false axis one out is = cc

axis-exists : (block : BlockTree) (relation axis : ℕ) → axis_of block relation ≡ Some axis → relation < length block.relations
axis-exists block relation axis is =
    elim (cases_lt relation (length block.relations)) [
      | inl there ↦ there
      | inr beyond ↦ absurd (no-axis-where (has_parameter (relation_at block.relations relation)) _ axis (none-beyond block.relations relation beyond) is)
    ]

-- the levels from the axis of this number on
abbrev pub kept_levels : (inside : List Bool) → (number : ℕ) → List ℕ → List ℕ
kept_levels inside number [] = []
kept_levels inside number (level ∷ levels) = cond (slice_index_or inside number false) level 0 ∷ kept_levels inside (number + 1) levels

pub length-kept_levels : (inside : List Bool) (number : ℕ) (levels : List ℕ) → length (kept_levels inside number levels) ≡ length levels
length-kept_levels inside number [] = refl
length-kept_levels inside number (level ∷ levels) = omega (arith, length-kept_levels inside (number + 1) levels)

level-below : (b : Bool) (level top : ℕ) → level < top → cond b level 0 < top
level-below true level top below = below
level-below false level top below = omega (arith, below)

All-kept_levels : (inside : List Bool) (number top : ℕ) (levels : List ℕ) → All (λ level. level < top) levels → All (λ level. level < top) (kept_levels inside number levels)
All-kept_levels inside number top [] all = All-nil (λ level. level < top)
All-kept_levels inside number top (level ∷ levels) all =
    All-cons (λ level. level < top) _ _ (level-below (slice_index_or inside number false) level top (All-head (λ level. level < top) level levels all))
    (All-kept_levels inside (number + 1) top levels (All-tail (λ level. level < top) level levels all))

pub get_or-kept_levels : (inside : List Bool) (number : ℕ) (levels : List ℕ) (axis : ℕ) → axis < length levels
    → get_or (kept_levels inside number levels) axis 0 ≡ cond (slice_index_or inside (number + axis) false) (get_or levels axis 0) 0
get_or-kept_levels inside number [] axis below = absurd (omega (arith, below))
get_or-kept_levels inside number (level ∷ levels) zero below =
    let here : number ≡ number + 0 = omega arith in
    ap (λ n. cond (slice_index_or inside n false) level 0) here
get_or-kept_levels inside number (level ∷ levels) (suc axis) below =
    let next : number + 1 + axis ≡ number + suc axis = omega arith in
    get_or-kept_levels inside (number + 1) levels axis (omega (arith, below))
    ∙ ap (λ n. cond (slice_index_or inside n false) (get_or levels axis 0) 0) next

pub is-point : (grid : GridShape) (inside : List Bool) (point : List ℕ) → IsPoint grid point → IsPoint grid (kept_levels inside 0 point)
is-point grid inside point is = record {
  axes = length-kept_levels inside 0 point ∙ is.axes;
  levels = All-kept_levels inside 0 grid.levels point is.levels;
}

-- the level of a marked axis is kept
stays : (inside : List Bool) (point : List ℕ) (axis : ℕ) → axis < length point → IsTrue (slice_index_or inside axis false) → get_or (kept_levels inside 0 point) axis 0 ≡ get_or point axis 0
stays inside point axis there marked =
    let here : 0 + axis ≡ axis = omega arith in
    get_or-kept_levels inside 0 point axis there
    ∙ ap (λ n. cond (slice_index_or inside n false) (get_or point axis 0) 0) here
    ∙ ap (λ b. cond b (get_or point axis 0) 0) marked

-- the axis of a relation is one of the grid's
axis-there : (axes : ℕ) (found : Option ℕ) (axis : ℕ) → IfSome found (λ one. one < axes) → found ≡ Some axis → axis < axes
axis-there axes found axis below is = subst (λ one. IfSome one (λ n. n < axes)) is below

-- where these are the axes inside a set, it is alike for the set
pub alike-place : (at : Pricing) (set : ℕ) (inside : List Bool) (place : ℕ) → IsCosting (costing_tree at.costing) → IsPoint at.costing.grid at.point → AreInside (block_at at) set inside
    → place ≡ place_at at.costing.grid.levels (kept_levels inside 0 at.point) → IsAlikePlace at set place
alike-place at set inside place is point axes there = record {
  other = kept_levels inside 0 at.point;
  there = subst (λ n. point_at at.costing.grid n ≡ Some (kept_levels inside 0 at.point)) (sym there)
      (slice_get-place_at at.costing.grid (kept_levels inside 0 at.point) is.grid (is-point at.costing.grid inside at.point point));
  alike = record {
    edges = λ edge below within. stays inside at.point edge (omega (arith, below, point.axes, is.axes)) (axes.edges edge below within);
    relations = λ relation axis member found.
        let exists = axis-exists (block_at at) relation axis found in
        let below = axis-there (axes_of (block_at at)) (axis_of (block_at at) relation) axis (axis-below (block_at at) relation exists) found in
        stays inside at.point axis (omega (arith, below, point.axes, is.axes)) (axes.relations relation exists axis member found);
  };
}

-- one axis more, from the last one down
pub next-place : (grid : GridShape) (inside : List Bool) (point lent : List ℕ) (count axis place level : ℕ) → IsGrid grid → IsPoint grid point → count ≡ grid.levels → lent ≡ point
    → 0 < axis → axis ≤ length lent → place ≡ place_at grid.levels (drop axis (kept_levels inside 0 point))
    → level ≡ cond (slice_index_or inside (axis - 1) false) (get_or lent (axis - 1) 0) 0
    → (place * count + level ≡ place_at grid.levels (drop (axis - 1) (kept_levels inside 0 point))) × (place * count + level ≤ max_points)
next-place grid inside point lent count axis place level is is_point count-is lent-is some long place-is level-is =
    let kept = kept_levels inside 0 point in
    let all : axis ≤ length kept = omega (arith, length-kept_levels inside 0 point, ap length lent-is, long) in
    let before : axis - 1 < length point = omega (arith, ap length lent-is, long, some) in
    let number : axis - 1 ≡ 0 + (axis - 1) = omega arith in
    let one-more : axis - 1 + 1 ≡ axis = omega (arith, some) in
    let same : level ≡ get_or kept (axis - 1) 0 =
    level-is ∙ ap (λ levels. cond (slice_index_or inside (axis - 1) false) (get_or levels (axis - 1) 0) 0) lent-is
    ∙ ap (λ n. cond (slice_index_or inside n false) (get_or point (axis - 1) 0) 0) number ∙ sym (get_or-kept_levels inside 0 point (axis - 1) before) in
    let step = place_at-drop grid.levels kept (axis - 1) (omega (arith, all, some)) in
    let stepped : place_at grid.levels (drop (axis - 1) kept) ≡ place_at grid.levels (drop axis kept) * grid.levels + get_or kept (axis - 1) 0 = rw one-more at step in
    let now : place * count + level ≡ place_at grid.levels (drop axis kept) * grid.levels + get_or kept (axis - 1) 0 = λ i. place-is i * count-is i + same i in
    (now ∙ sym stepped, omega (arith, now, place_at-drop-fits grid kept axis is (is-point grid inside point is_point) some all))

pub no-axis : (grid : GridShape) (inside : List Bool) (point lent : List ℕ) → lent ≡ point → 0 ≡ place_at grid.levels (drop (length lent) (kept_levels inside 0 point))
no-axis grid inside point lent lent-is =
    let long : length lent ≡ length (kept_levels inside 0 point) = ap length lent-is ∙ sym (length-kept_levels inside 0 point) in
    sym (ap (place_at grid.levels) (ap (λ n. drop n (kept_levels inside 0 point)) long ∙ drop-length (kept_levels inside 0 point)))
