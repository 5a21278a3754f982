-- What always holds of a session holds once there is more in it.
use Rattle.std.proofs.Common.{◌≡◌, ℕ, ◌≤◌, [], ◌∷◌, ◌++◌, List, length, subst, sym}
use Rattle.std.specs.Prelude.{All, Result, Ok, Err, IsOkAnd}
use Rattle.std.specs.Str.{IsUtf8}
use Rattle.std.proofs.lemmas.List.Elements.{All-weaker, All-push}
use Rattle.query_block.specs.Blocks.{BlockTree, block_tree}
use Rattle.db_catalog.specs.Database.{DatabaseState, with_rows}
use Rattle.db_catalog.specs.Fits.{Fits}
use Rattle.db_catalog.proofs.Growth.{fits_with_rows}
use Rattle.csv_load.specs.declared.fault.LoadFault.{LoadFault}
use Rattle.csv_load.specs.Load.{Appends}
use Rattle.sql_values.specs.Stored.{ValueRow}
use Rattle.bouquet_type.specs.Trees.{bouquet_tree}
use Rattle.sql_values.specs.Limits.{max_parameters}
use Rattle.workspace.specs.Counted.{HasCountsOf, IsCountedBefore}
use Rattle.workspace.specs.States.{NamedShape, IsWorkspace}
use Rattle.workspace.proofs.Counting.{Grows, counted_before, counted_now, grows_with_rows}

-- in a database that all blocks fit that fit the one before, and whose tables have the rows of that one, and maybe more
pub is_grown : (old new grown : DatabaseState) (bouquets : List NamedShape) → new ≡ grown → ((block : BlockTree) → Fits old block → Fits grown block) → Grows old grown
    → IsWorkspace (record { database = old; bouquets = bouquets }) → IsWorkspace (record { database = new; bouquets = bouquets })
is_grown old new grown bouquets is fits grows session = record {
  fit = subst (λ (database : DatabaseState). All (λ kept. Fits database (block_tree kept.bouquet.block)) bouquets) (sym is)
      (All-weaker (λ (kept : NamedShape). Fits old (block_tree kept.bouquet.block)) (λ (kept : NamedShape). Fits grown (block_tree kept.bouquet.block)) (λ kept. fits (block_tree kept.bouquet.block)) bouquets session.fit);
  texts = session.texts;
  parameters = session.parameters;
  counted = subst (λ (database : DatabaseState). All (λ kept. IsCountedBefore database (bouquet_tree kept.bouquet)) bouquets) (sym is)
      (All-weaker (λ (kept : NamedShape). IsCountedBefore old (bouquet_tree kept.bouquet)) (λ (kept : NamedShape). IsCountedBefore grown (bouquet_tree kept.bouquet)) (λ kept. counted_before old grown (bouquet_tree kept.bouquet) grows) bouquets session.counted);
}

-- with a bouquet more, whose block fits and has few parameters, which has the counts of the tables, and the text of whose query is UTF-8
pub is_with_bouquet : (database : DatabaseState) (old new : List NamedShape) (kept : NamedShape) → new ≡ old ++ kept ∷ [] → Fits database (block_tree kept.bouquet.block)
    → HasCountsOf database.tables (bouquet_tree kept.bouquet) → IsUtf8 kept.query → length kept.bouquet.block.parameters ≤ max_parameters
    → IsWorkspace (record { database = database; bouquets = old }) → IsWorkspace (record { database = database; bouquets = new })
is_with_bouquet database old new kept is fits counts text few session =
    subst (λ (bouquets : List NamedShape). IsWorkspace (record { database = database; bouquets = bouquets })) (sym is) (record {
      fit = All-push (λ (one : NamedShape). Fits database (block_tree one.bouquet.block)) old kept session.fit fits;
      counted = All-push (λ (one : NamedShape). IsCountedBefore database (bouquet_tree one.bouquet)) old kept session.counted (counted_now database (bouquet_tree kept.bouquet) counts);
      texts = All-push (λ (one : NamedShape). IsUtf8 one.query) old kept session.texts text;
      parameters = All-push (λ (one : NamedShape). length one.bouquet.block.parameters ≤ max_parameters) old kept session.parameters few;
    })

-- with the rows of a file more
pub is_loaded : (old new : DatabaseState) (table count : ℕ) (bouquets : List NamedShape) (due : Result (List ValueRow) LoadFault) → IsOkAnd due (Appends table old new count)
    → IsWorkspace (record { database = old; bouquets = bouquets }) → IsWorkspace (record { database = new; bouquets = bouquets })
is_loaded old new table count bouquets (Ok rows) loaded session = is_grown old new (with_rows old table rows) bouquets loaded.appended (fits_with_rows old table rows) (grows_with_rows old table rows) session
is_loaded old new table count bouquets (Err fault) loaded session = absurd loaded
