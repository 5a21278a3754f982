-- The name is taken, or the query has no block or no counts, or the file is asked for.
use Rattle.std.proofs.Common.{◌≡◌, ◌∙◌, Option, Some, None, true, false, refl, sym, ap}
use Rattle.std.specs.Prelude.{Ok, Err, IfSome, is_some}
use Rattle.std.proofs.lemmas.Result.{err_from_is_err_and}
use Rattle.query_block.specs.Blocks.{block_tree}
use Rattle.sql_parse.specs.Canonical.{canonical_query}
use Rattle.sql_parse.specs.Trees.{query_tree}
use Rattle.workspace.specs.Bouquets.{block_due, product_refusal}
use Rattle.workspace.specs.Open.{block_to_open}
use Rattle.workspace.specs.States.{world_of}
use Rattle.workspace.specs.World.{World, NamedBouquet, named_in}
use Rattle.workspace.proofs.Stopping.{stops_so}
use Rattle.workspace.proofs.Opening.{open_taken, stops_open, block_opens, open_with_file, product_refused, unbound}
use Rattle.workspace.proofs.Sizes.{counts_stop, past_product, small_product}
use Rattle.workspace.proofs.workspace.Workspace.open_file.Goals as goal

some_named : {A : Type 0} (found : Option A) (look : Option NamedBouquet) (name : A → NamedBouquet) → is_some found ≡ true → IfSome found (λ kept. look ≡ Some (name kept)) → (named : NamedBouquet) × (look ≡ Some named)
some_named None look name some named = cc some
some_named (Some kept) look name some named = (name kept, named)

pub returns-then-is_some : goal.returns-then-is_some
returns-then-is_some c = λ file.
    let world : World = world_of c.args.self.now in
    let opened = c.args.opened.now in
    let query = query_tree opened.query in
    let there : is_some c.get.result ≡ true = sym c.is_some.ensures ∙ c.if-is_some.true in
    let named = some_named c.get.result _ _ there c.get.ensures.named in
    let taken : named_in opened.name world.bouquets ≡ Some named.0 = rw (← c.self.view_is, ← c.bytes.ensures) named.1 in
    rw (open_taken world opened.name opened.file query file named.0 taken) c.taken.ensures

pub returns-in_err-block : goal.returns-in_err-block
returns-in_err-block c =
    let world : World = world_of (record { database = c.self.inside.database; bouquets = c.self.inside.bouquets }) in
    let opened = c.args.opened.now in
    let query = query_tree opened.query in
    let gone : is_some c.get.result ≡ false = sym c.is_some.ensures ∙ c.if-is_some.false in
    let free : named_in opened.name world.bouquets ≡ None = rw (← c.bytes.ensures) (c.get.ensures.none gone) in
    let stop = err_from_is_err_and c.from_residual.result c.from_residual.ensures.1 in
    let refused = stops_so (λ found. block_due world.database query ≡ Err found) (λ found. block_to_open world opened.name query ≡ Err found)
    (unbound world opened.name opened.file query None free) c.in_err-block.field-0.0 c.in_err-block.ensures.due in
    rw (← c.self.view_is, stop.1, stop.2) (λ file. stops_open world opened.name opened.file query file _ refused)

pub returns-in_err-stats : goal.returns-in_err-stats
returns-in_err-stats c =
    let world : World = world_of (record { database = c.self.inside.database; bouquets = c.self.inside.bouquets }) in
    let opened = c.args.opened.now in
    let query = query_tree opened.query in
    let gone : is_some c.get.result ≡ false = sym c.is_some.ensures ∙ c.if-is_some.false in
    let free : named_in opened.name world.bouquets ≡ None = rw (← c.bytes.ensures) (c.get.ensures.none gone) in
    let block = block_tree c.in_ok-block.block in
    let bound : block_due world.database query ≡ Ok block = c.in_ok-block.ensures.due in
    let stop = err_from_is_err_and c.from_residual-in_err-stats.result c.from_residual-in_err-stats.ensures.1 in
    let refused = counts_stop (λ found. block_to_open world opened.name query ≡ Err found) c.in_err-stats.field-0.0
    (λ value is. product_refused world opened.name opened.file query None free block bound _ (past_product world.database block value ((c.in_err-stats.ensures.product_limit value).0 (ap Err is)))) in
    rw (← c.self.view_is, stop.1, stop.2) (λ file. stops_open world opened.name opened.file query file _ refused)

pub returns : goal.returns
returns c =
    let world : World = world_of (record { database = c.self.inside.database; bouquets = c.self.inside.bouquets }) in
    let opened = c.args.opened.now in
    let query = query_tree opened.query in
    let gone : is_some c.get.result ≡ false = sym c.is_some.ensures ∙ c.if-is_some.false in
    let free : named_in opened.name world.bouquets ≡ None = rw (← c.bytes.ensures) (c.get.ensures.none gone) in
    let block = block_tree c.in_ok-block.block in
    let bound : block_due world.database query ≡ Ok block = c.in_ok-block.ensures.due in
    let small : product_refusal world.database block ≡ None = small_product world.database block (λ value is. cc ((c.in_ok-stats.ensures.product_limit value).1 is)) in
    let name : c.in_ok-clone.field-0 ≡ opened.name = c.in_ok-clone.ensures.cases in
    let file_name : c.in_ok-clone-2.field-0 ≡ opened.file = c.in_ok-clone-2.ensures.cases in
    let text : c.in_ok-print_query.field-0.items ≡ canonical_query query = c.in_ok-print_query.ensures in
    rw (← c.self.view_is) (record {
      asks = rw (block_opens world opened.name opened.file query None free block bound small) refl;
      name = ap Some (sym file_name);
      text = rw file_name c.requires.text;
      pending = record {
        free = rw name free;
        text = rw text c.requires.canonical;
        fits = c.in_ok-block.ensures.fits;
        counts = c.in_ok-stats.ensures.counts;
        few = c.in_ok-stats.ensures.fits;
        parameters = c.in_ok-block.ensures.parameters;
      };
      due = λ file. open_with_file world opened.name opened.file query file free block bound small _ _ _ _ file_name name text c.in_ok-stats.ensures.counts;
    })
