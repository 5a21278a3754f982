-- The rows, then the lines of skips, then the line below them.
use Rattle.std.proofs.Common.{◌≡◌, ◌∙◌, ◌++◌, append_assoc}
use Rattle.std.specs.List.{flat_map}
use Rattle.query_block.specs.Blocks.{block_tree}
use Rattle.bouquet_type.specs.Trees.{bouquet_tree}
use Rattle.bouquet_type.specs.Reports.{told_end}
use Rattle.result_text.specs.Combined.{printed}
use Rattle.workspace.specs.Printed.{header_of}
use Rattle.session.specs.Printed.{report_line, skip_line}
use Rattle.session.proofs.learn.print_learned.Goals as goal

pub returns : goal.returns
returns c =
    let database = c.args.database.now in
    let block = block_tree c.args.used.now.block in
    let learned = c.args.learned.now in
    let rows = printed (header_of database block) database.tables block in
    let skips = flat_map (skip_line (bouquet_tree c.args.used.now.bouquet.now)) learned.skips.items in
    let skipped : c.push_skips.new.text.items ≡ rows ++ skips =
    c.in_ok-push_skips.ensures
    ∙ (λ i. (rw c.block.ensures at c.in_ok-text.ensures) i ++ flat_map (skip_line (bouquet_tree c.args.used.now.bouquet.now)) (c.as_slice.ensures.value i)) in
    c.in_ok-push_report.ensures
    ∙ (λ i. skipped i ++ report_line (c.requires.count i) (told_end learned.report))
    ∙ append_assoc rows skips (report_line _ (told_end learned.report))
