-- What is written for a bouquet.
use Rattle.std.specs.Prelude.{ℕ, List, length, map, nat_eq, codes, decimal, if◌then◌else◌}
use Rattle.serde_json.specs.Data.{Data, number, unsigned, string, array, object, Items, no_members, member}
use Rattle.serde_json.specs.View.{items_of}
use Rattle.serde_json.specs.Written.{compact_text}
use Rattle.plan_tree.specs.Plans.{PlanTree}
use Rattle.plan_tree.specs.Text.{plan_text_of}
use Rattle.cost_model.specs.declared.stats.RelationStats.{RelationStats}
use Rattle.bouquet_type.specs.Trees.{BouquetTree, ContourTree}

-- a whole number
abbrev pub number_value : ℕ → Data
number_value n = number (unsigned n)

abbrev pub plan_value : PlanTree → Data
plan_value p = string (plan_text_of p)

-- a contour: its cost as a text, for it may be past what readers of numbers take, and the texts of its plans
abbrev pub contour_value : ContourTree → Data
contour_value contour = object
    (member (codes "cost") (string (decimal contour.cost))
    (member (codes "plans") (array (items_of (map plan_value contour.plans)))
    no_members))

-- what was counted of a relation
abbrev pub relation_value : RelationStats → Data
relation_value stats = object
    (member (codes "indexes") (number_value (length stats.columns))
    (member (codes "kept") (number_value stats.kept)
    (member (codes "rows") (number_value stats.rows)
    no_members)))

-- a file of a query with so many parameters: without any it is of version 1, else of version 2, which says how many
abbrev pub file_with : (query : List ℕ) → (parameters levels threshold : ℕ) → (contours relations : Items) → Data
file_with query parameters levels threshold contours relations =
    if nat_eq parameters 0 then object
    (member (codes "bouquet") (number_value 1)
    (member (codes "contours") (array contours)
    (member (codes "levels") (number_value levels)
    (member (codes "query") (string query)
    (member (codes "relations") (array relations)
    (member (codes "threshold") (number_value threshold)
    no_members)))))) else object
    (member (codes "bouquet") (number_value 2)
    (member (codes "contours") (array contours)
    (member (codes "levels") (number_value levels)
    (member (codes "parameters") (number_value parameters)
    (member (codes "query") (string query)
    (member (codes "relations") (array relations)
    (member (codes "threshold") (number_value threshold)
    no_members)))))))

-- a bouquet with the canonical text of its query
abbrev pub file_value : BouquetTree → (query : List ℕ) → Data
file_value bouquet query = file_with query (length bouquet.costing.block.parameters) bouquet.costing.grid.levels bouquet.threshold
    (items_of (map contour_value bouquet.contours)) (items_of (map relation_value bouquet.costing.stats.relations))

-- its bytes: compact JSON
abbrev pub file_text : BouquetTree → (query : List ℕ) → List ℕ
file_text bouquet query = compact_text (file_value bouquet query)
