-- Cards: rounded once, grown with selectivity, and never more than there are rows.
use Rattle.std.proofs.Common.{◌≡◌, ℕ, ◌+◌, ◌*◌, ◌^◌, ◌≤◌, cond, List, [], ◌∷◌, ap, sym, subst, ◌∙◌, le_refl, arith}
use Rattle.std.specs.Prelude.{Bool, true, false, slice_index}
use Rattle.std.specs.Int.{div_ceil}
use Rattle.std.proofs.Math.Path.{fun_ext}
use Rattle.std.proofs.lemmas.Nat.{pow-add, pow_pos}
use Rattle.ess_grid.specs.Levels.{halvings_of, selectivity_of}
use Rattle.ess_grid.specs.Points.{GridShape}
use Rattle.ess_grid.specs.Order.{PointBelow}
use Rattle.ess_grid.proofs.PointOrder.{level-below}
use Rattle.ess_grid.proofs.Selectivities.{selectivity_of-halvings, selectivity_of-some, selectivity_of-le}
use Rattle.query_block.specs.declared.edge.Edge.{Edge}
use Rattle.query_block.specs.Meaning.{RelationSet, is_inside}
use Rattle.cost_model.specs.Costing.{CostingTree}
use Rattle.cost_model.specs.AtPoint.{scaled, stats_at}
use Rattle.cost_model.specs.Cards.{selectivity_at, kept_product, scaled_by_edges, card_of}
use Rattle.cost_model.specs.Rounding.{halvings_inside}
use Rattle.cost_model.proofs.Rounding.{IsCeiling, ceiling, ceiling-one, twice, halved, scaled-few, scaled-le}
use Rattle.cost_model.proofs.AtPoint.{selectivity-le, kept-le}

-- halved so often, and then perhaps so often more
halved-if : (b : Bool) (n h levels level : ℕ)
    → cond b (scaled (div_ceil n (2 ^ h)) (selectivity_of levels level)) (div_ceil n (2 ^ h)) ≡ div_ceil n (2 ^ (h + cond b (halvings_of levels level) 0))
halved-if true n h levels level =
    let k = halvings_of levels level in
    let once = div_ceil n (2 ^ h) in
    halved once (selectivity_of levels level) k (selectivity_of-halvings levels level) (selectivity_of-some levels level)
    ∙ ceiling-one n (2 ^ h * 2 ^ k) _ _
    (twice n (2 ^ h) (2 ^ k) once _ (ceiling n (2 ^ h) (pow_pos h)) (ceiling once (2 ^ k) (pow_pos k)))
    (subst (λ by. IsCeiling n by (div_ceil n by)) (pow-add 2 h k) (ceiling n (2 ^ (h + k)) (pow_pos (h + k))))
    ∙ ap (λ by. div_ceil n by) (sym (pow-add 2 h k))
halved-if false n h levels level = ap (λ k. div_ceil n (2 ^ k)) (omega arith)

edges-once : (grid : GridShape) (point : List ℕ) (set : RelationSet) (number : ℕ) (edges : List Edge) (n h : ℕ)
    → scaled_by_edges grid point set number edges (div_ceil n (2 ^ h)) ≡ div_ceil n (2 ^ (h + halvings_inside grid point set number edges))
edges-once grid point set number [] n h = ap (λ k. div_ceil n (2 ^ k)) (omega arith)
edges-once grid point set number (edge ∷ edges) n h =
    let more = cond (is_inside set edge) (halvings_of grid.levels (slice_index point number)) 0 in
    ap (scaled_by_edges grid point set (number + 1) edges) (halved-if (is_inside set edge) n h grid.levels (slice_index point number))
    ∙ edges-once grid point set (number + 1) edges n (h + more)
    ∙ ap (λ k. div_ceil n (2 ^ k)) (omega arith)

-- a number is itself, rounded up
whole : (n : ℕ) → n ≡ div_ceil n (2 ^ 0)
whole n = ceiling-one n 1 n (div_ceil n 1) (omega arith, omega arith) (ceiling n 1 (omega arith))

pub card-once : (costing : CostingTree) (set : RelationSet) (point : List ℕ)
    → card_of costing set point ≡ div_ceil (kept_product set 0 (stats_at costing point).relations) (2 ^ halvings_inside costing.grid point set 0 costing.block.edges)
unfolding card_of
card-once costing set point =
    let kept = kept_product set 0 (stats_at costing point).relations in
    let edges = costing.block.edges in
    ap (scaled_by_edges costing.grid point set 0 edges) (whole kept)
    ∙ edges-once costing.grid point set 0 edges kept 0
    ∙ ap (λ k. div_ceil kept (2 ^ k)) (omega arith)

-- a card depends on which relations are in the set
pub card-of-set : (costing : CostingTree) (set other : RelationSet) (point : List ℕ) → ((relation : ℕ) → set relation ≡ other relation)
    → card_of costing set point ≡ card_of costing other point
card-of-set costing set other point same = ap (λ one. card_of costing one point) (fun_ext same)

scaled-if-le : (b : Bool) (rows more selectivity greater : ℕ) → rows ≤ more → selectivity ≤ greater → cond b (scaled rows selectivity) rows ≤ cond b (scaled more greater) more
scaled-if-le true rows more selectivity greater le part = scaled-le rows more selectivity greater le part
scaled-if-le false rows more selectivity greater le part = le

edges-le : (grid : GridShape) (point other : List ℕ) (set : RelationSet) (number : ℕ) (edges : List Edge) (rows more : ℕ) → PointBelow point other → rows ≤ more
    → scaled_by_edges grid point set number edges rows ≤ scaled_by_edges grid other set number edges more
edges-le grid point other set number [] rows more below le = le
edges-le grid point other set number (edge ∷ edges) rows more below le =
    edges-le grid point other set (number + 1) edges _ _ below
    (scaled-if-le (is_inside set edge) rows more _ _ le (selectivity-le grid.levels _ _ (level-below point other below number)))

-- cards grow with selectivity
pub card-le : (costing : CostingTree) (set : RelationSet) (point other : List ℕ) → PointBelow point other → card_of costing set point ≤ card_of costing set other
unfolding card_of
card-le costing set point other below = edges-le costing.grid point other set 0 costing.block.edges _ _ below (kept-le costing point other below set)

-- so do the candidates of an edge
pub candidates-le : (grid : GridShape) (point other : List ℕ) (edge pairs more : ℕ) → PointBelow point other → pairs ≤ more
    → scaled pairs (selectivity_at grid point edge) ≤ scaled more (selectivity_at grid other edge)
candidates-le grid point other edge pairs more below le =
    scaled-le pairs more _ _ le (selectivity-le grid.levels _ _ (level-below point other below edge))

scaled-if-few : (b : Bool) (rows levels level : ℕ) → cond b (scaled rows (selectivity_of levels level)) rows ≤ rows
scaled-if-few true rows levels level = scaled-few rows (selectivity_of levels level) (selectivity_of-le levels level)
scaled-if-few false rows levels level = le_refl rows

pub edges-few : (grid : GridShape) (point : List ℕ) (set : RelationSet) (number : ℕ) (edges : List Edge) (rows : ℕ)
    → scaled_by_edges grid point set number edges rows ≤ rows
edges-few grid point set number [] rows = le_refl rows
edges-few grid point set number (edge ∷ edges) rows =
    let rest = edges-few grid point set (number + 1) edges (cond (is_inside set edge) (scaled rows (selectivity_at grid point number)) rows) in
    omega (arith, rest, scaled-if-few (is_inside set edge) rows grid.levels (slice_index point number))

-- a set gives no more rows than its relations' filters keep together
pub card-few : (costing : CostingTree) (set : RelationSet) (point : List ℕ) → card_of costing set point ≤ kept_product set 0 (stats_at costing point).relations
unfolding card_of
card-few costing set point = edges-few costing.grid point set 0 costing.block.edges _

pub candidates-few : (grid : GridShape) (point : List ℕ) (edge pairs : ℕ) → scaled pairs (selectivity_at grid point edge) ≤ pairs
candidates-few grid point edge pairs = scaled-few pairs _ (selectivity_of-le grid.levels (slice_index point edge))
