-- The parts of a file, each of which fits.
use Rattle.std.specs.Prelude.{ℕ, ◌≤◌, List, length, map, codes}
use Rattle.sql_values.specs.Limits.{max_points, max_threshold, max_contours}
use Rattle.serde_json.specs.Data.{Data, Members}
use Rattle.serde_json.specs.Find.{get_member}
use Rattle.query_block.specs.Blocks.{BlockTree, axes_of}
use Rattle.bouquet_file.specs.declared.fault.FieldPath.TheVariants as path
use Rattle.bouquet_file.specs.declared.fault.OpenFault.{OpenFault}
use Rattle.bouquet_file.specs.declared.fault.OpenFault.TheVariants as fault
use Rattle.bouquet_file.specs.declared.relations.KeptCounts.{KeptCounts}
use Rattle.bouquet_file.specs.declared.parts.CheckedFile.{CheckedFile}
use Rattle.bouquet_file.specs.declared.contours.ContourParts.{ContourParts}
use Rattle.sql_values.specs.Steps.{Checked, pure, ◌>>=◌, need, each}
use Rattle.bouquet_file.specs.Values.{unsigned, within, string_of, list_within}
use Rattle.bouquet_file.specs.Checks.{FileContour, head_of, levels_in, counts_at, contour_fits, kept_parameters}

-- what stands in a file
pub record FileParts : Type 0 where
  pub query : List ℕ
  pub levels : ℕ
  pub threshold : ℕ
  pub counts : List KeptCounts
  pub contours : List FileContour
  pub parameters : ℕ

-- what is seen of them
abbrev pub contour_seen : ContourParts → FileContour
contour_seen contour = record { cost = contour.cost; texts = map (λ text. text.now) contour.texts.items }

-- it has as many texts as a contour may have plans
abbrev pub HasTexts : ContourParts → Type 0
HasTexts contour = (1 ≤ length contour.texts.items) × (length contour.texts.items ≤ max_points)

abbrev pub parts_seen : CheckedFile → FileParts
parts_seen parts = record {
  query = parts.query.now;
  levels = parts.grid.levels;
  threshold = parts.threshold;
  counts = parts.counts.items;
  contours = map contour_seen parts.contours.items;
  parameters = parts.parameters;
}

-- what is in the lists of relations, as many as the query has, and of contours
unfoldable pub counts_in : (count : ℕ) → Members → Checked OpenFault (List KeptCounts)
counts_in count members = do
  relations ← need (fault.Field path.Relations) (list_within count count (get_member (codes "relations") members))
  each counts_at 1 relations

unfoldable pub contours_in : Members → Checked OpenFault (List FileContour)
contours_in members = do
  contours ← need (fault.Field path.Contours) (list_within 1 max_contours (get_member (codes "contours") members))
  each contour_fits 1 contours

-- the parts of a value, for a query with this block: the first of them that isn't there or doesn't fit is told
unfoldable pub parts_of : Data → BlockTree → Checked OpenFault FileParts
parts_of value block = do
  (version, members) ← head_of value
  text ← need (fault.Field path.Query) (string_of (get_member (codes "query") members))
  levels ← need (fault.Field path.Levels) (levels_in (axes_of block) members)
  threshold ← need (fault.Field path.Threshold) (within 0 max_threshold (unsigned (get_member (codes "threshold") members)))
  counts ← counts_in (length block.relations) members
  contours ← contours_in members
  parameters ← kept_parameters version members
  pure (record { query = text; levels = levels; threshold = threshold; counts = counts; contours = contours; parameters = parameters })
