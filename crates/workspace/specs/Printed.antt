-- The texts that statements print.
use Rattle.std.specs.Prelude.{ℕ, ◌+◌, ◌^◌, List, [], ◌∷◌, ◌++◌, map, length, slice_index_or, codes, decimal}
use Rattle.query_block.specs.declared.edge.ColumnAt.{ColumnAt}
use Rattle.query_block.specs.Blocks.{RelationTree, BlockTree, relation_at}
use Rattle.plan_tree.specs.Plans.{PlanTree}
use Rattle.plan_tree.specs.Text.{plan_text_of}
use Rattle.db_catalog.specs.Database.{DatabaseState, table_at}
use Rattle.bouquet_type.specs.Trees.{BouquetTree, ContourTree}
use Rattle.bouquet_type.specs.Budgets.{budget_of, most_plans}
use Rattle.bouquet_check.specs.Verdicts.{VerdictTree, First, Step, Last, Uncovered, Sound}

-- the name of a column of a block: that in its table, without an alias
abbrev pub column_name : DatabaseState → List RelationTree → ColumnAt → List ℕ
column_name database relations at =
    slice_index_or (map (λ column. column.name) (table_at database (relation_at relations at.relation).table).columns) at.column []

-- the names of the columns that a block asks for
abbrev pub header_of : DatabaseState → BlockTree → List (List ℕ)
header_of database block = map (column_name database block.relations) block.projection

-- the levels of a point, a comma before each but the first; a dash where there is no axis
abbrev pub point_text : List ℕ → List ℕ
point_text [] = codes "-"
point_text (level ∷ []) = decimal level
point_text (level ∷ other ∷ more) = decimal level ++ (codes "," ++ point_text (other ∷ more))

-- what a load prints
abbrev pub load_line : ℕ → List ℕ
load_line rows = codes "-- load rows=" ++ (decimal rows ++ codes "\n")

-- the size of a bouquet behind a label: how many points its grid has, how many contours it has, and the most plans of one
abbrev pub size_line : (label : List ℕ) → BouquetTree → List ℕ
size_line label bouquet =
    let grid = bouquet.costing.grid in
    label ++ (decimal (grid.levels ^ grid.axes) ++ (codes " contours=" ++ (decimal (length bouquet.contours)
    ++ (codes " r=" ++ (decimal (most_plans bouquet.contours) ++ codes "\n")))))

-- the texts of plans, a space before each but the first
abbrev pub plan_texts : List PlanTree → List ℕ
plan_texts [] = []
plan_texts (p ∷ []) = plan_text_of p
plan_texts (p ∷ other ∷ more) = plan_text_of p ++ (codes " " ++ plan_texts (other ∷ more))

-- the line of a contour of this number: its cost, its budget, its plans in the order in which they are tried
abbrev pub contour_line : (number budget : ℕ) → ContourTree → List ℕ
contour_line number budget contour =
    codes "-- contour=" ++ (decimal number ++ (codes " cost=" ++ (decimal contour.cost ++ (codes " budget="
    ++ (decimal budget ++ (codes " plans=" ++ (plan_texts contour.plans ++ codes "\n")))))))

-- the lines of contours of which the first has this number
abbrev pub contour_lines : (threshold number : ℕ) → List ContourTree → List ℕ
contour_lines threshold number [] = []
contour_lines threshold number (contour ∷ more) =
    contour_line number (budget_of threshold contour.cost) contour ++ contour_lines threshold (number + 1) more

-- the contours of a bouquet
abbrev pub explain_text : BouquetTree → List ℕ
explain_text bouquet = contour_lines bouquet.threshold 1 bouquet.contours

-- whether a bouquet is sound, and if not, what it breaks first
abbrev pub verdict_text : VerdictTree → List ℕ
verdict_text First = codes "no first"
verdict_text (Step contour) = codes "no step " ++ decimal contour
verdict_text Last = codes "no last"
verdict_text (Uncovered contour point) = codes "no point=" ++ (point_text point ++ (codes " contour=" ++ decimal contour))
verdict_text Sound = codes "yes"

-- what a check prints
abbrev pub check_line : VerdictTree → List ℕ
check_line verdict = codes "-- check sound=" ++ (verdict_text verdict ++ codes "\n")
