-- The checks of a file's parts, each of which names the first fault.
use Rattle.std.specs.Prelude.{ℕ, ◌+◌, ◌^◌, ⊤, nat_eq, nat_le, List, [], ◌∷◌, length, Option, Some, None, codes, if◌then◌else◌, option_and_then, bytes_eq, Err}
use Rattle.std.specs.List.{find}
use Rattle.std.specs.Option.{option_or}
use Rattle.sql_values.specs.Limits.{max_rows, max_columns, max_points, min_levels, max_levels, max_contour_cost, max_parameters}
use Rattle.serde_json.specs.Data.{Data, Members}
use Rattle.serde_json.specs.Find.{get_member, as_object, as_str}
use Rattle.query_block.specs.Blocks.{BlockTree}
use Rattle.plan_tree.specs.Plans.{PlanTree}
use Rattle.plan_tree.specs.AllPlans.{plans_of}
use Rattle.plan_tree.specs.Text.{plan_text_of}
use Rattle.cost_model.specs.declared.stats.RelationStats.{RelationStats}
use Rattle.cost_model.specs.declared.stale.CountName.TheVariants.{Rows, Kept, Indexes}
use Rattle.cost_model.specs.declared.stale.Stale.{Stale}
use Rattle.cost_model.specs.Staleness.{changed}
use Rattle.bouquet_type.specs.Trees.{ContourTree}
use Rattle.bouquet_file.specs.declared.fault.FieldPath.TheVariants as path
use Rattle.bouquet_file.specs.declared.fault.OpenFault.{OpenFault}
use Rattle.bouquet_file.specs.declared.fault.OpenFault.TheVariants as fault
use Rattle.bouquet_file.specs.declared.relations.KeptCounts.{KeptCounts}
use Rattle.bouquet_file.specs.declared.values.ObjectKind.TheVariants.{File, Relation, Contour}
use Rattle.bouquet_file.specs.declared.values.Version.{Version}
use Rattle.bouquet_file.specs.declared.values.Version.TheVariants.{One, Two}
use Rattle.sql_values.specs.Steps.{Checked, pure, ◌>>=◌, ◌>>◌, need, check, each}
use Rattle.bouquet_file.specs.Values.{unsigned, within, string_of, list_within, has_only, object_of, decimal_number}

-- the version of this number
abbrev pub version_of : ℕ → Option Version
version_of number = if nat_eq number 1 then Some One else if nat_eq number 2 then Some Two else None

-- the version and the members of a file
unfoldable pub head_of : Data → Checked OpenFault (Version × Members)
head_of value = do
  members ← need (fault.Field path.Bouquet) (as_object value)
  number ← need (fault.Field path.Bouquet) (unsigned (get_member (codes "bouquet") members))
  version ← need (fault.Version number) (version_of number)
  check (fault.Field path.Keys) (has_only (File version) members)
  pure (version, members)

-- levels of each of so many axes, where a grid can have them
abbrev pub levels_within : (axes : ℕ) → Option ℕ → Option ℕ
levels_within axes None = None
levels_within axes (Some levels) = if nat_le (levels ^ axes) max_points then Some levels else None

abbrev pub levels_in : (axes : ℕ) → Members → Option ℕ
levels_in axes members = levels_within axes (within min_levels max_levels (unsigned (get_member (codes "levels") members)))

-- what a file says was counted of a relation
abbrev pub counts_at : (number : ℕ) → Data → Checked OpenFault KeptCounts
counts_at number value = do
  members ← need (fault.Field (path.Relation number)) (object_of Relation value)
  rows ← need (fault.Field (path.Count number Rows)) (within 0 max_rows (unsigned (get_member (codes "rows") members)))
  kept ← need (fault.Field (path.Count number Kept)) (within 0 max_rows (unsigned (get_member (codes "kept") members)))
  indexes ← need (fault.Field (path.Count number Indexes)) (within 0 max_columns (unsigned (get_member (codes "indexes") members)))
  pure (record { rows = rows; kept = kept; indexes = indexes })

-- the cost of a contour
abbrev pub cost_in : Members → Option ℕ
cost_in members = option_and_then decimal_number (string_of (get_member (codes "cost") members))

-- a plan is a text
abbrev pub plan_fits : (contour number : ℕ) → Data → Checked OpenFault (List ℕ)
plan_fits contour number value = need (fault.Field (path.Plan contour number)) (as_str value)

-- what stands in a contour: its cost, and the texts of its plans
pub record FileContour : Type 0 where
  pub cost : ℕ
  pub texts : List (List ℕ)

abbrev pub contour_fits : (number : ℕ) → Data → Checked OpenFault FileContour
contour_fits number value = do
  members ← need (fault.Field (path.Contour number)) (object_of Contour value)
  cost ← need (fault.Field (path.Cost number)) (cost_in members)
  plans ← need (fault.Field (path.Plans number)) (list_within 1 max_points (get_member (codes "plans") members))
  texts ← each (plan_fits number) 1 plans
  pure (record { cost = cost; texts = texts })

-- the number of parameters that a file keeps, of which one of version 1 has none
abbrev pub kept_parameters : Version → Members → Checked OpenFault ℕ
kept_parameters One _ = pure 0
kept_parameters Two members = need (fault.Field path.Parameters) (within 1 max_parameters (unsigned (get_member (codes "parameters") members)))

-- the first count of a relation that isn't that of its table
abbrev pub changed_in : (number : ℕ) → KeptCounts → RelationStats → Option Stale
changed_in number counts present =
    option_or (changed number Rows counts.rows present.rows)
    (option_or (changed number Kept counts.kept present.kept)
    (changed number Indexes counts.indexes (length present.columns)))

-- the same of relations, the first of which has this number, from 0
abbrev pub changed_counts : (number : ℕ) → List KeptCounts → List RelationStats → Option Stale
changed_counts number [] stats = None
changed_counts number (counts ∷ more) [] = None
changed_counts number (counts ∷ more) (present ∷ others) =
    option_or (changed_in number counts present) (changed_counts (number + 1) more others)

abbrev pub unless_changed : Option Stale → Checked OpenFault ⊤
unless_changed None = pure tt
unless_changed (Some stale) = Err (fault.Stale stale)

-- the plan of the block that has this text
abbrev pub plan_with_text : BlockTree → (text : List ℕ) → Option PlanTree
plan_with_text block text = find (λ p. bytes_eq (plan_text_of p) text) (plans_of block)

abbrev pub plan_here : BlockTree → (contour number : ℕ) → (text : List ℕ) → Checked OpenFault PlanTree
plan_here block contour number text = need (fault.NotAPlan contour number) (plan_with_text block text)

-- a contour that fits: its cost is one that a bouquet may have, and its texts are those of plans of the block
abbrev pub contour_at : BlockTree → (number : ℕ) → FileContour → Checked OpenFault ContourTree
contour_at block number parts = do
  check (fault.BudgetLimit number) (nat_le parts.cost max_contour_cost)
  plans ← each (plan_here block number) 1 parts.texts
  pure (record { cost = parts.cost; plans = plans })
