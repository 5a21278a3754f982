-- What is due to OPEN, by what its calls say of the name, the query, the counts and the file.
use Rattle.std.proofs.Common.{◌≡◌, ◌∙◌, ℕ, List, Option, Some, None, refl, sym, ap}
use Rattle.std.specs.Prelude.{Ok, Err}
use Rattle.sql_values.specs.Steps.{Checked, pure, ◌>>=◌}
use Rattle.query_block.specs.Blocks.{BlockTree}
use Rattle.sql_parse.specs.Canonical.{canonical_query}
use Rattle.sql_parse.specs.Trees.{QueryTree}
use Rattle.cost_model.specs.Counts.{stats_of}
use Rattle.cost_model.specs.declared.stats.Stats.{Stats}
use Rattle.workspace.specs.Bouquets.{block_due, product_refusal}
use Rattle.workspace.specs.Given.{at_file}
use Rattle.workspace.specs.Open.{block_to_open, open_outcome, open_with}
use Rattle.workspace.specs.Outcome.{Outcome, Refuses, outcome_of}
use Rattle.workspace.specs.Stop.{StopsAt, StopsWhere}
use Rattle.workspace.specs.World.{World, NamedBouquet, named_in}
use Rattle.workspace.specs.declared.refusal.Refusal.{Refusal}
use Rattle.workspace.specs.declared.refusal.Refusal.TheVariants as refusal
use Rattle.workspace.specs.declared.stop.Stop.{Stop}
use Rattle.workspace.proofs.Stopping.{stops_so}

module _ (world : World) (name file_name : List ℕ) (query : QueryTree) (file : Option (List ℕ)) where
  -- the block for which a file is asked decides
  abbrev opens : Checked Refusal BlockTree → Outcome
  opens found = outcome_of do
    block ← found
    pure (at_file file_name (open_with world name (canonical_query query) block (stats_of world.database.tables block)) file)

  pub stops_open : (why : Stop) → StopsWhere (λ found. block_to_open world name query ≡ Err found) why → StopsAt (open_outcome world name file_name query file) why
  stops_open why stops = stops_so (λ found. block_to_open world name query ≡ Err found) (λ found. open_outcome world name file_name query file ≡ Refuses found) (λ found is. ap opens is) why stops

  -- a bouquet has the name
  pub open_taken : (named : NamedBouquet) → named_in name world.bouquets ≡ Some named → open_outcome world name file_name query file ≡ Refuses (refusal.NameTaken name)
  open_taken named is = rw is refl

  module _ (free : named_in name world.bouquets ≡ None) where
    -- the query has no block
    pub unbound : (found : Refusal) → block_due world.database query ≡ Err found → block_to_open world name query ≡ Err found
    unbound found is = rw (free, is) refl

    module _ (block : BlockTree) (bound : block_due world.database query ≡ Ok block) where
      -- the combinations of its tables' rows decide
      pub product_refused : (found : Refusal) → product_refusal world.database block ≡ Some found → block_to_open world name query ≡ Err found
      product_refused found is = rw (free, bound, is) refl

      pub block_opens : product_refusal world.database block ≡ None → block_to_open world name query ≡ Ok block
      block_opens small = rw (free, bound, small) refl

      -- the file decides: that of this name, for the query of this text and with these counts
      pub open_with_file : product_refusal world.database block ≡ None → (asked kept text : List ℕ) (stats : Stats) → asked ≡ file_name → kept ≡ name → text ≡ canonical_query query → stats ≡ stats_of world.database.tables block
          → open_outcome world name file_name query file ≡ at_file asked (open_with world kept text block stats) file
      open_with_file small asked kept text stats same_file same_name same_text same_stats =
          ap opens (block_opens small) ∙ (λ i. at_file (sym same_file i) (open_with world (sym same_name i) (sym same_text i) block (sym same_stats i)) file)
