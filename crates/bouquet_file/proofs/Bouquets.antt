-- Each bouquet can be written, and what is opened is one.
use Rattle.std.proofs.Common.{◌≡◌, Some, Result, Ok, Err, IfOk, Vec, Global, ℕ, ◌^◌, ◌<◌, ◌≤◌, List, [], ◌∷◌, length, All, nat_eq, ap, subst, arith}
use Rattle.std.proofs.Math.ListN.{length-map}
use Rattle.std.specs.List.{AllZip}
use Rattle.std.specs.Str.{IsUtf8}
use Rattle.std.proofs.lemmas.Str.{is_utf8-from_IsUtf8}
use Rattle.std.proofs.lemmas.Bool.Decides.{nat_tests}
use Rattle.std.proofs.lemmas.List.Elements.{All-nil, All-cons, All-head, All-tail, All-map, All-weaker, All-contains}
use Rattle.std.proofs.lemmas.Slice.Zip.{AllZip-long}
use Rattle.std.proofs.lemmas.Map.Steps.{length-le_from_distinct_below}
use Rattle.sql_values.specs.Limits.{max_points, max_parameters}
use Rattle.ess_grid.specs.Points.{GridShape, IsGrid}
use Rattle.serde_json.specs.Read.{read}
use Rattle.query_block.specs.Shape.{BlockShape}
use Rattle.query_block.specs.declared.kind.Kind.{Kind}
use Rattle.query_block.specs.Blocks.{RelationTree, BlockTree, IsRelation, IsBlock, axes_of, block_tree}
use Rattle.plan_tree.specs.Plans.{plan_tree}
use Rattle.plan_tree.specs.Enumerated.{IsPlan}
use Rattle.plan_tree.proofs.Members.{contained-in, of-any}
use Rattle.cost_model.specs.declared.stats.RelationStats.{RelationStats}
use Rattle.cost_model.specs.declared.stats.Stats.{Stats}
use Rattle.cost_model.specs.Fits.{FitsRelation, FitsBlock}
use Rattle.cost_model.specs.Costing.{IsCosting, costing_tree}
use Rattle.bouquet_type.specs.declared.contour.Contour.{Contour}
use Rattle.bouquet_type.specs.Shapes.{BouquetShape}
use Rattle.bouquet_type.specs.Trees.{IsContour, IsBouquet, contour_tree, bouquet_tree}
use Rattle.bouquet_file.specs.Written.{file_value}
use Rattle.bouquet_file.specs.Opened.{file_of, json_value}
use Rattle.bouquet_file.proofs.Again.{AreFew, IsContourTree, IsWritable, file_again}

-- a relation has at most 32 indexes
few-indexes : (kinds : List Kind) (relation : RelationTree) → IsRelation kinds relation → length relation.indexes ≤ 32
few-indexes kinds relation is =
    let below : length relation.indexes ≤ length relation.columns = length-le_from_distinct_below relation.indexes (length relation.columns) is.different (λ column there.
    let found = of-any (nat_eq column) relation.indexes there in
    let less : found.0 < length relation.columns = All-contains (λ other. other < length relation.columns) relation.indexes found.0 is.indexes (contained-in found.0 relation.indexes found.1) in
    let same : column ≡ found.0 = grind (arith, nat_tests, found.2) in
    omega (arith, less, same)) in
    omega (arith, below, is.few)

are-few : (kinds : List Kind) (relation : RelationTree) (stats : RelationStats) → IsRelation kinds relation → FitsRelation relation stats → AreFew stats
are-few kinds relation stats is fits = record {
  rows = fits.rows;
  kept = omega (arith, fits.rows, fits.kept);
  indexes = omega (arith, few-indexes kinds relation is, ap length fits.indexes, length-map stats.columns (λ index. index.column));
}

all-few : (kinds : List Kind) (relations : List RelationTree) (stats : List RelationStats) → All (IsRelation kinds) relations → AllZip FitsRelation relations stats → All AreFew stats
all-few kinds [] [] all fits = All-nil AreFew
all-few kinds [] (one ∷ stats) all fits = absurd fits
all-few kinds (relation ∷ relations) [] all fits = absurd fits
all-few kinds (relation ∷ relations) (one ∷ stats) all fits =
    All-cons AreFew one stats (are-few kinds relation one (All-head (IsRelation kinds) relation relations all) fits.0)
    (all-few kinds relations stats (All-tail (IsRelation kinds) relation relations all) fits.1)

of-contour : (block : BlockTree) (contour : Contour) → IsContour block contour → IsContourTree block (contour_tree contour)
of-contour block contour is = record {
  cost = is.cost;
  some = omega (arith, is.some, length-map contour.plans.items plan_tree);
  few = omega (arith, is.few, length-map contour.plans.items plan_tree);
  plans = All-map (IsPlan block) plan_tree contour.plans.items is.plans;
}

pub writable : (bouquet : BouquetShape) → IsBouquet bouquet → length bouquet.block.parameters ≤ max_parameters → IsWritable (bouquet_tree bouquet)
writable bouquet is few =
    let tree = bouquet_tree bouquet in
    let block = tree.costing.block in record {
      block = is.costing.block;
      axes = is.costing.axes;
      low_levels = is.costing.grid.some_levels;
      high_levels = is.costing.grid.few_levels;
      points = subst (λ axes. tree.costing.grid.levels ^ axes ≤ max_points) is.costing.axes is.costing.grid.few_points;
      threshold = is.threshold;
      parameters = few;
      relations = AllZip-long FitsRelation block.relations bouquet.stats.relations is.costing.stats.relations;
      counts = all-few block.parameters block.relations bouquet.stats.relations is.costing.block.relations is.costing.stats.relations;
      some = omega (arith, is.some, length-map bouquet.contours contour_tree);
      few = omega (arith, is.few, length-map bouquet.contours contour_tree);
      contours = All-map (IsContourTree block) contour_tree bouquet.contours
          (All-weaker (IsContour block) (λ contour. IsContourTree block (contour_tree contour)) (of-contour block) bouquet.contours is.contours);
    }

-- bytes that are read as its value are opened as the bouquet
pub opened : (bouquet : BouquetShape) (query bytes : List ℕ) → IsBouquet bouquet → length bouquet.block.parameters ≤ max_parameters → IsUtf8 bytes → read bytes ≡ Some (file_value (bouquet_tree bouquet) query)
    → file_of (json_value bytes) query (block_tree bouquet.block) bouquet.stats ≡ Ok (bouquet_tree bouquet)
opened bouquet query bytes is few utf8 reads =
    rw (is_utf8-from_IsUtf8 bytes utf8, reads) (file_again (bouquet_tree bouquet) query (writable bouquet is few))

pub opened-if : {E : Type 0} (bouquet : BouquetShape) (query : List ℕ) (r : Result (Vec ℕ Global) E) → IsBouquet bouquet → length bouquet.block.parameters ≤ max_parameters → IfOk r (λ bytes. IsUtf8 bytes.items)
    → IfOk r (λ bytes. read bytes.items ≡ Some (file_value (bouquet_tree bouquet) query))
    → IfOk r (λ bytes. file_of (json_value bytes.items) query (block_tree bouquet.block) bouquet.stats ≡ Ok (bouquet_tree bouquet))
opened-if bouquet query (Ok bytes) is few utf8 reads = opened bouquet query bytes.items is few utf8 reads
opened-if bouquet query (Err why) is few utf8 reads = tt
