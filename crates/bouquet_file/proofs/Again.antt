-- What is written is read again as it was: no float, not deep, each part fits.
use Rattle.std.proofs.Common.{◌≡◌, ℕ, zero, suc, ◌+◌, ◌^◌, ◌≤◌, true, false, List, [], ◌∷◌, map, length, All, Some, None, Ok, bytes_eq, nat_eq, refl, arith}
use Rattle.std.proofs.lemmas.Bool.{le-leb}
use Rattle.std.proofs.lemmas.Bool.Decides.{nat_tests}
use Rattle.std.proofs.lemmas.Slice.Eq.{bytes_eq-Decides}
use Rattle.std.proofs.lemmas.List.{length-map, map-id}
use Rattle.std.proofs.lemmas.List.Elements.{All-head, All-tail}
use Rattle.sql_values.specs.Limits.{max_rows, max_columns, max_points, min_levels, max_levels, max_threshold, max_parameters}
use Rattle.serde_json.specs.Data.{Data, array, depth, items_depth}
use Rattle.serde_json.specs.View.{items_of}
use Rattle.serde_json.specs.Written.{has_float, items_have_float}
use Rattle.query_block.specs.Blocks.{BlockTree, IsBlock, axes_of}
use Rattle.plan_tree.specs.Plans.{PlanTree}
use Rattle.plan_tree.specs.Enumerated.{IsPlan}
use Rattle.plan_tree.specs.Text.{plan_text_of}
use Rattle.cost_model.specs.declared.stats.RelationStats.{RelationStats}
use Rattle.bouquet_type.specs.Trees.{BouquetTree, ContourTree}
use Rattle.bouquet_file.specs.declared.relations.KeptCounts.{KeptCounts}
use Rattle.bouquet_file.specs.declared.fault.OpenFault.{OpenFault}
use Rattle.sql_values.specs.Steps.{Checked, each}
use Rattle.bouquet_file.specs.Values.{within, list_within}
use Rattle.bouquet_file.specs.Written.{plan_value, contour_value, relation_value, file_with, file_value}
use Rattle.bouquet_file.specs.Checks.{FileContour, head_of, levels_within, counts_at, plan_fits, contour_fits, changed_counts, plan_here, contour_at}
use Rattle.bouquet_file.specs.Parts.{counts_in, contours_in, parts_of}
use Rattle.bouquet_file.specs.Opened.{file_of}
use Rattle.bouquet_file.proofs.Lists.{listed_items}
use Rattle.bouquet_file.proofs.Numbers.{number-again}
use Rattle.bouquet_file.proofs.Plans.{found-by-text, plan-has_text}

-- ---- lists that are written

module _ {A : Type 0} (write : A → Data) where
  pub no-floats : ((x : A) → has_float (write x) ≡ false) → (xs : List A) → items_have_float (items_of (map write xs)) ≡ false
  no-floats none [] = refl
  no-floats none (x ∷ xs) = rw (none x) (no-floats none xs)

  pub shallow : (most : ℕ) → ((x : A) → depth (write x) ≤ most) → (xs : List A) → items_depth (items_of (map write xs)) ≤ most
  shallow most low [] = omega arith
  shallow most low (x ∷ xs) = omega (arith, low x, shallow most low xs)

  list-written : (least most : ℕ) (xs : List A) → least ≤ length xs → length xs ≤ most → list_within least most (Some (array (items_of (map write xs)))) ≡ Some (map write xs)
  list-written least most xs low high = rw (listed_items (map write xs), length-map xs write, le-leb least (length xs) low, le-leb (length xs) most high) refl

each-written : {A B X : Type 0} (write : A → X) (read : ℕ → X → Checked OpenFault B) (see : A → B) (P : A → Type 0) → ((n : ℕ) (x : A) → P x → read n (write x) ≡ Ok (see x)) → (n : ℕ) (xs : List A)
    → All P xs → each read n (map write xs) ≡ Ok (map see xs)
each-written write read see P again n [] all = refl
each-written write read see P again n (x ∷ xs) all =
    rw (again n x (All-head P x xs all), each-written write read see P again (n + 1) xs (All-tail P x xs all)) refl

same-text : (text : List ℕ) → bytes_eq text text ≡ true
same-text text = (bytes_eq-Decides text text).1 refl

in-range : (least most n : ℕ) → least ≤ n → n ≤ most → within least most (Some n) ≡ Some n
in-range least most n low high = rw (le-leb least n low, le-leb n most high) refl

some-number : (more : ℕ) → nat_eq (suc more) 0 ≡ false
some-number more = grind (arith, nat_tests)

-- ---- counts

abbrev pub kept_of : RelationStats → KeptCounts
kept_of stats = record { rows = stats.rows; kept = stats.kept; indexes = length stats.columns }

pub record AreFew (stats : RelationStats) : Type 0 where
  pub rows : stats.rows ≤ max_rows
  pub kept : stats.kept ≤ max_rows
  pub indexes : length stats.columns ≤ max_columns

counts-again : (n : ℕ) (stats : RelationStats) → AreFew stats → counts_at n (relation_value stats) ≡ Ok (kept_of stats)
counts-again n stats few =
    rw (in-range 0 max_rows stats.rows (omega arith) few.rows, in-range 0 max_rows stats.kept (omega arith) few.kept, in-range 0 max_columns (length stats.columns) (omega arith) few.indexes) refl

same-number : (n : ℕ) → nat_eq n n ≡ true
same-number n = grind (arith, nat_tests)

unchanged : (n : ℕ) (stats : List RelationStats) → changed_counts n (map kept_of stats) stats ≡ None
unchanged n [] = refl
unchanged n (one ∷ stats) = rw (same-number one.rows, same-number one.kept, same-number (length one.columns)) (unchanged (n + 1) stats)

-- ---- contours

-- what stands in a contour that is written
abbrev pub parts_written : ContourTree → FileContour
parts_written contour = record { cost = contour.cost; texts = map plan_text_of contour.plans }

pub record IsContourTree (block : BlockTree) (contour : ContourTree) : Type 0 where
  pub cost : contour.cost ≤ 2 ^ 114
  pub some : 1 ≤ length contour.plans
  pub few : length contour.plans ≤ max_points
  pub plans : All (IsPlan block) contour.plans

contour-fits : (block : BlockTree) (n : ℕ) (contour : ContourTree) → IsContourTree block contour → contour_fits n (contour_value contour) ≡ Ok (parts_written contour)
contour-fits block n contour is =
    rw (
      number-again contour.cost (omega (arith, is.cost)),
      list-written plan_value 1 max_points contour.plans is.some is.few,
      each-written plan_value (plan_fits n) plan_text_of (IsPlan block) (λ number p plan. refl) 1 contour.plans is.plans,
    ) refl

plan-again : (block : BlockTree) → IsBlock block → (contour n : ℕ) (p : PlanTree) → IsPlan block p → plan_here block contour n (plan_text_of p) ≡ Ok p
plan-again block is contour n p plan = rw (found-by-text block p (plan_text_of p) is plan (plan-has_text block p is plan)) refl

contour-again : (block : BlockTree) → IsBlock block → (n : ℕ) (contour : ContourTree) → IsContourTree block contour → contour_at block n (parts_written contour) ≡ Ok contour
contour-again block is_block n contour is =
    rw (
      le-leb contour.cost (2 ^ 114) is.cost,
      each-written plan_text_of (plan_here block n) (λ p. p) (IsPlan block) (plan-again block is_block n) 1 contour.plans is.plans,
      map-id contour.plans,
    ) refl

-- ---- a file

-- what holds of a bouquet whose file is read again
pub record IsWritable (bouquet : BouquetTree) : Type 0 where
  pub block : IsBlock bouquet.costing.block
  pub axes : bouquet.costing.grid.axes ≡ axes_of bouquet.costing.block
  pub low_levels : min_levels ≤ bouquet.costing.grid.levels
  pub high_levels : bouquet.costing.grid.levels ≤ max_levels
  pub points : bouquet.costing.grid.levels ^ axes_of bouquet.costing.block ≤ max_points
  pub threshold : bouquet.threshold ≤ max_threshold
  pub parameters : length bouquet.costing.block.parameters ≤ max_parameters
  pub relations : length bouquet.costing.stats.relations ≡ length bouquet.costing.block.relations
  pub counts : All AreFew bouquet.costing.stats.relations
  pub some : 1 ≤ length bouquet.contours
  pub few : length bouquet.contours ≤ 128
  pub contours : All (IsContourTree bouquet.costing.block) bouquet.contours

levels-again : (axes levels : ℕ) → min_levels ≤ levels → levels ≤ max_levels → levels ^ axes ≤ max_points → levels_within axes (within min_levels max_levels (Some levels)) ≡ Some levels
levels-again axes levels low high few = rw (in-range min_levels max_levels levels low high, le-leb (levels ^ axes) max_points few) refl

-- what is read of its lists and numbers
record IsRead (bouquet : BouquetTree) : Type 0 where
  levels : levels_within (axes_of bouquet.costing.block) (within min_levels max_levels (Some bouquet.costing.grid.levels)) ≡ Some bouquet.costing.grid.levels
  threshold : within 0 max_threshold (Some bouquet.threshold) ≡ Some bouquet.threshold
  relations : list_within (length bouquet.costing.block.relations) (length bouquet.costing.block.relations) (Some (array (items_of (map relation_value bouquet.costing.stats.relations)))) ≡ Some (map relation_value bouquet.costing.stats.relations)
  counts : each counts_at 1 (map relation_value bouquet.costing.stats.relations) ≡ Ok (map kept_of bouquet.costing.stats.relations)
  contours : list_within 1 128 (Some (array (items_of (map contour_value bouquet.contours)))) ≡ Some (map contour_value bouquet.contours)
  parts : each contour_fits 1 (map contour_value bouquet.contours) ≡ Ok (map parts_written bouquet.contours)

is-read : (bouquet : BouquetTree) → IsWritable bouquet → IsRead bouquet
is-read bouquet is =
    let block = bouquet.costing.block in
    let stats = bouquet.costing.stats.relations in record {
      levels = levels-again (axes_of block) bouquet.costing.grid.levels is.low_levels is.high_levels is.points;
      threshold = in-range 0 max_threshold bouquet.threshold (omega arith) is.threshold;
      relations = list-written relation_value (length block.relations) (length block.relations) stats (omega (arith, is.relations)) (omega (arith, is.relations));
      counts = each-written relation_value counts_at kept_of AreFew counts-again 1 stats is.counts;
      contours = list-written contour_value 1 128 bouquet.contours is.some is.few;
      parts = each-written contour_value contour_fits parts_written (IsContourTree block) (contour-fits block) 1 bouquet.contours is.contours;
    }

-- the value of a file of a bouquet that keeps so many parameters
abbrev file_keeping : BouquetTree → (query : List ℕ) → (parameters : ℕ) → Data
file_keeping bouquet query parameters = file_with query parameters bouquet.costing.grid.levels bouquet.threshold
    (items_of (map contour_value bouquet.contours)) (items_of (map relation_value bouquet.costing.stats.relations))

parts-again : (bouquet : BouquetTree) (query : List ℕ) (parameters : ℕ) → parameters ≤ max_parameters → IsRead bouquet → parts_of (file_keeping bouquet query parameters) bouquet.costing.block
    ≡ Ok (record {
      query = query;
      levels = bouquet.costing.grid.levels;
      threshold = bouquet.threshold;
      counts = map kept_of bouquet.costing.stats.relations;
      contours = map parts_written bouquet.contours;
      parameters = parameters;
    })
unfolding parts_of head_of counts_in contours_in
parts-again bouquet query zero few is = rw (is.levels, is.threshold, is.relations, is.counts, is.contours, is.parts) refl
parts-again bouquet query (suc more) few is =
    rw (some-number more, is.levels, is.threshold, is.relations, is.counts, is.contours, is.parts, in-range 1 max_parameters (suc more) (omega arith) few) refl

pub file_again : (bouquet : BouquetTree) (query : List ℕ) → IsWritable bouquet → file_of (Some (file_value bouquet query)) query bouquet.costing.block bouquet.costing.stats ≡ Ok bouquet
file_again bouquet query is =
    rw (
      parts-again bouquet query (length bouquet.costing.block.parameters) is.parameters (is-read bouquet is),
      same-text query,
      same-number (length bouquet.costing.block.parameters),
      unchanged 0 bouquet.costing.stats.relations,
      each-written parts_written (contour_at bouquet.costing.block) (λ contour. contour) (IsContourTree bouquet.costing.block) (contour-again bouquet.costing.block is.block) 1 bouquet.contours is.contours,
      map-id bouquet.contours,
      is.axes,
    ) refl

-- ---- its text

contour-float : (contour : ContourTree) → has_float (contour_value contour) ≡ false
contour-float contour = rw (no-floats plan_value (λ p. refl) contour.plans) refl

keeping-float : (bouquet : BouquetTree) (query : List ℕ) (parameters : ℕ) → has_float (file_keeping bouquet query parameters) ≡ false
keeping-float bouquet query zero = rw (no-floats contour_value contour-float bouquet.contours, no-floats relation_value (λ stats. refl) bouquet.costing.stats.relations) refl
keeping-float bouquet query (suc more) = rw (some-number more, no-floats contour_value contour-float bouquet.contours, no-floats relation_value (λ stats. refl) bouquet.costing.stats.relations) refl

pub file_float : (bouquet : BouquetTree) (query : List ℕ) → has_float (file_value bouquet query) ≡ false
file_float bouquet query = keeping-float bouquet query (length bouquet.costing.block.parameters)

contour-shallow : (contour : ContourTree) → depth (contour_value contour) ≤ 2
contour-shallow contour = omega (arith, shallow plan_value 0 (λ p. omega arith) contour.plans)

keeping-shallow : (bouquet : BouquetTree) (query : List ℕ) (parameters : ℕ) → depth (file_keeping bouquet query parameters) ≤ 127
keeping-shallow bouquet query zero =
    omega (arith, shallow contour_value 2 contour-shallow bouquet.contours, shallow relation_value 1 (λ stats. omega arith) bouquet.costing.stats.relations)
keeping-shallow bouquet query (suc more) =
    rw (some-number more) (omega (arith, shallow contour_value 2 contour-shallow bouquet.contours, shallow relation_value 1 (λ stats. omega arith) bouquet.costing.stats.relations))

pub file_shallow : (bouquet : BouquetTree) (query : List ℕ) → depth (file_value bouquet query) ≤ 127
file_shallow bouquet query = keeping-shallow bouquet query (length bouquet.costing.block.parameters)
