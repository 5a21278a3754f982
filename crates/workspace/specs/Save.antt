-- What comes of SAVE.
use Rattle.sql_parse.specs.declared.tree.FileDef.{FileDef}
use Rattle.bouquet_file.specs.Written.{file_text}
use Rattle.workspace.specs.Outcome.{Outcome, Saves, outcome_of}
use Rattle.workspace.specs.declared.refusal.Refusal.TheVariants as refusal
use Rattle.sql_values.specs.Steps.{pure, need, ◌>>=◌}
use Rattle.workspace.specs.World.{World, named_in}

-- the file of the bouquet of this name, stale or not, with the text of its query
abbrev pub save_outcome : World → FileDef → Outcome
save_outcome world save = outcome_of do
  named ← need (refusal.NoBouquet save.name) (named_in save.name world.bouquets)
  pure (Saves save.file (file_text named.bouquet named.query))
