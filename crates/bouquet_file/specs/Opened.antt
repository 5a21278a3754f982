-- The bouquet of a file, or the first fault.
use Rattle.std.specs.Prelude.{ℕ, List, length, nat_eq, Option, None, bytes_eq, if◌then◌else◌}
use Rattle.std.specs.Str.{is_utf8}
use Rattle.serde_json.specs.Data.{Data}
use Rattle.serde_json.specs.Read.{read}
use Rattle.query_block.specs.Blocks.{BlockTree, axes_of}
use Rattle.cost_model.specs.declared.stats.Stats.{Stats}
use Rattle.bouquet_type.specs.Trees.{BouquetTree, ContourTree}
use Rattle.bouquet_file.specs.declared.fault.OpenFault.{OpenFault}
use Rattle.bouquet_file.specs.declared.fault.OpenFault.TheVariants as fault
use Rattle.sql_values.specs.Steps.{Checked, pure, ◌>>=◌, ◌>>◌, need, check, each}
use Rattle.bouquet_file.specs.Checks.{changed_counts, unless_changed, contour_at}
use Rattle.bouquet_file.specs.Parts.{FileParts, parts_of}

-- the value for which the bytes of a file stand, where they are JSON
abbrev pub json_value : List ℕ → Option Data
json_value bytes = if is_utf8 bytes then read bytes else None

-- the contours of a file with these parts, for this query, whose block and counts these are: it is of this query, it keeps as
-- many parameters as the block has, its counts are those of the tables, and its contours have costs and plans that a
-- bouquet may have
abbrev pub current_contours : FileParts → (query : List ℕ) → BlockTree → Stats → Checked OpenFault (List ContourTree)
current_contours parts query block stats = do
  check fault.OtherQuery (bytes_eq parts.query query)
  check (fault.Parameters parts.parameters (length block.parameters)) (nat_eq parts.parameters (length block.parameters))
  unless_changed (changed_counts 0 parts.counts stats.relations)
  each (contour_at block) 1 parts.contours

-- the bouquet of a value: there is a value, and its parts fit, first of all; then come its contours
abbrev pub file_of : Option Data → (query : List ℕ) → BlockTree → Stats → Checked OpenFault BouquetTree
file_of value query block stats = do
  file ← need fault.NotJson value
  parts ← parts_of file block
  found ← current_contours parts query block stats
  pure (record {
    costing = record { block = block; stats = stats; grid = record { axes = axes_of block; levels = parts.levels } };
    threshold = parts.threshold;
    contours = found;
  })

-- of the bytes of a file
abbrev pub opened : (bytes query : List ℕ) → BlockTree → Stats → Checked OpenFault BouquetTree
opened bytes query block stats = file_of (json_value bytes) query block stats
