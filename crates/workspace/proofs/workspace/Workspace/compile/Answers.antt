-- The query has no block, or no bouquet, or its bouquet is kept.
use Rattle.std.proofs.Common.{◌≡◌, ◌∙◌, ℕ, List, None, false, refl, sym, ap}
use Rattle.std.specs.Prelude.{Ok, Err, codes, is_some}
use Rattle.std.proofs.lemmas.Result.{err_from_is_err_and}
use Rattle.sql_values.specs.Steps.{◌>>=◌}
use Rattle.sql_parse.specs.Trees.{query_tree}
use Rattle.query_block.specs.Blocks.{block_tree}
use Rattle.bouquet_type.specs.Trees.{bouquet_tree}
use Rattle.workspace.specs.Bouquets.{block_due, bouquet_due, compiled_due, kept_as}
use Rattle.workspace.specs.States.{world_of}
use Rattle.workspace.specs.World.{World, named_in}
use Rattle.workspace.proofs.Stopping.{stops_so}
use Rattle.workspace.proofs.Compiling.{kept, stops, unrefused}
use Rattle.workspace.proofs.workspace.Workspace.compile.Goals as goal

pub returns-in_err-block-clause-due : goal.returns-in_err-block-clause-due
returns-in_err-block-clause-due c =
    let world : World = world_of (record { database = c.self.inside.database; bouquets = c.self.inside.bouquets }) in
    let compile = c.args.compile.now in
    let query = query_tree compile.query in
    let gone : is_some c.get.result ≡ false = sym c.is_some.ensures ∙ c.if-is_some.false in
    let free : named_in compile.name world.bouquets ≡ None = rw (← c.bytes.ensures) (c.get.ensures.none gone) in
    let due = unrefused world compile.name compile.levels compile.threshold c.in_ok-threshold.threshold query free c.in_ok-check_levels.ensures.refuses.answered c.in_ok-threshold.ensures.refuses.answered c.in_ok-threshold.ensures.threshold in
    let bouquet = bouquet_due world.database query compile.levels c.in_ok-threshold.threshold in
    let none = stops_so (λ found. block_due world.database query ≡ Err found) (λ found. bouquet ≡ Err found) (λ found is. rw is refl) c.in_err-block.field-0.0 c.in_err-block.ensures.due in
    let stop = err_from_is_err_and c.from_residual-in_err-block.result c.from_residual-in_err-block.ensures.1 in
    rw (← c.self.view_is, stop.1, stop.2, due) (stops world compile.name query bouquet _ none)

pub returns-in_err-bouquet-clause-due : goal.returns-in_err-bouquet-clause-due
returns-in_err-bouquet-clause-due c =
    let world : World = world_of (record { database = c.self.inside.database; bouquets = c.self.inside.bouquets }) in
    let compile = c.args.compile.now in
    let query = query_tree compile.query in
    let gone : is_some c.get.result ≡ false = sym c.is_some.ensures ∙ c.if-is_some.false in
    let free : named_in compile.name world.bouquets ≡ None = rw (← c.bytes.ensures) (c.get.ensures.none gone) in
    let due = unrefused world compile.name compile.levels compile.threshold c.in_ok-threshold.threshold query free c.in_ok-check_levels.ensures.refuses.answered c.in_ok-threshold.ensures.refuses.answered c.in_ok-threshold.ensures.threshold in
    let block = block_tree c.in_ok-block.block in
    let bound : block_due world.database query ≡ Ok block = c.in_ok-block.ensures.due in
    let compiled = compiled_due world.database compile.levels c.in_ok-threshold.threshold in
    let stop = err_from_is_err_and c.from_residual-in_err-bouquet.result c.from_residual-in_err-bouquet.ensures.1 in
    rw (← c.self.view_is, stop.1, stop.2, due ∙ ap (λ found. kept world compile.name query (found >>= compiled)) bound)
    (stops world compile.name query (compiled block) _ c.in_err-bouquet.ensures.due)

pub returns-clause-due : goal.returns-clause-due
returns-clause-due c =
    let world : World = world_of (record { database = c.self.inside.database; bouquets = c.self.inside.bouquets }) in
    let compile = c.args.compile.now in
    let query = query_tree compile.query in
    let gone : is_some c.get.result ≡ false = sym c.is_some.ensures ∙ c.if-is_some.false in
    let free : named_in compile.name world.bouquets ≡ None = rw (← c.bytes.ensures) (c.get.ensures.none gone) in
    let due = unrefused world compile.name compile.levels compile.threshold c.in_ok-threshold.threshold query free c.in_ok-check_levels.ensures.refuses.answered c.in_ok-threshold.ensures.refuses.answered c.in_ok-threshold.ensures.threshold in
    let block = block_tree c.in_ok-block.block in
    let bound : block_due world.database query ≡ Ok block = c.in_ok-block.ensures.due in
    let compiled = compiled_due world.database compile.levels c.in_ok-threshold.threshold in
    let tree = bouquet_tree c.in_ok-bouquet.bouquet in
    rw (
      ← c.self.view_is,
      due ∙ ap (kept world compile.name query) (ap (λ found. found >>= compiled) bound ∙ c.in_ok-bouquet.ensures.due)
          ∙ ap (λ (text : List ℕ). kept_as (codes "-- compile points=") world compile.name text tree) (sym c.in_ok-query.ensures),
    )
    (rw (← c.self.view_is) at c.keep.ensures.kept)
