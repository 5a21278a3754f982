use Rattle.std.proofs.Common.{◌≡◌, Some, length, map, codes, ap, sym, ◌∙◌}
use Rattle.std.proofs.lemmas.List.{length-map}
use Rattle.sql_values.specs.Limits.{max_threshold}
use Rattle.serde_json.specs.Find.{get_member}
use Rattle.serde_json.specs.View.{view, members_view}
use Rattle.query_block.specs.Blocks.{block_tree, relation_tree}
use Rattle.bouquet_file.specs.Values.{unsigned, within}
use Rattle.bouquet_file.specs.Checks.{levels_in}
use Rattle.bouquet_file.specs.Parts.{counts_in, contour_seen}
use Rattle.bouquet_file.proofs.Found.{is_some, is_seen, parts_there}
use Rattle.bouquet_file.proofs.parts.parts_of.Goals as goal

pub returns-clause-parts : goal.returns-clause-parts
returns-clause-parts c =
    let block = block_tree c.args.block.now in
    let members = members_view c.in_ok-version.members.now.entries in
    let query = is_seen (λ text. text.now) _ _ c.in_ok-query.query _ c.in_ok-query.ensures c.text_at.ensures
    ∙ ap Some (sym c.as_bytes.ensures.value) in
    let levels = is_seen (λ grid. grid.levels) _ _ c.in_ok-grid.grid _ c.in_ok-grid.ensures
    (c.grid_in.ensures.levels ∙ ap (λ n. levels_in n members) c.axes.ensures.axes) in
    let threshold : within 0 max_threshold (unsigned (get_member (codes "threshold") members)) ≡ Some c.in_ok-threshold.threshold =
    rw c.from.ensures at (sym c.number_at.ensures.value ∙ is_some _ _ c.in_ok-threshold.threshold c.in_ok-threshold.ensures) in
    let many : length block.relations ≡ length c.relations.result.now =
    length-map c.args.block.now.relations relation_tree ∙ sym (ap length c.relations.ensures.relations) in
    let counts = ap (λ n. counts_in n members) many ∙ c.in_ok-counts.ensures.counts in
    parts_there (view c.args.file.now) block c.in_ok-version.version members (record {
      query = c.as_bytes.result.now;
      levels = c.in_ok-grid.grid.levels;
      threshold = c.in_ok-threshold.threshold;
      counts = c.in_ok-counts.counts.items;
      contours = map contour_seen c.in_ok-contours.contours.items;
      parameters = c.in_ok-parameters.parameters;
    }) c.in_ok-version.ensures query levels threshold counts c.in_ok-contours.ensures.contours (sym c.in_ok-parameters.ensures)
