-- The line of one skip more.
use Rattle.std.proofs.Common.{◌≡◌, ◌∙◌, ◌+◌, ◌<◌, ◌++◌, ℕ, List, [], ◌∷◌, length, take, ap, sym}
use Rattle.std.specs.List.{flat_map}
use Rattle.std.proofs.lemmas.List.{flat_map_more, take_more}
use Rattle.bouquet_type.specs.Trees.{bouquet_tree}
use Rattle.learned_run.specs.declared.learned.Skip.{Skip}
use Rattle.session.specs.Printed.{skip_line}
use Rattle.session.proofs.lines.push_skips.Goals as goal

pub loop-skip-preserved : goal.loop-skip-preserved
loop-skip-preserved c =
    let line : Skip → List ℕ = skip_line (bouquet_tree c.args.bouquet.now) in
    let skips = c.args.skips.now in
    let place : ℕ = c.loop-skip.skip-index in
    let start = c.args.text.now.items in
    let skip : Skip = c.skip-item.result in
    let there : place < length skips = c.loop-skip-test.true in
    let more : take (place + 1) skips ≡ take place skips ++ skip ∷ [] =
    take_more skips place skip there ∙ ap (λ one. take place skips ++ one ∷ []) (sym c.skip-item.is) in
    c.in_ok-push_skip.ensures
    ∙ ap (λ l. l ++ line skip) c.loop-skip.invariant
    ∙ flat_map_more line start (take place skips) skip
    ∙ ap (λ found. start ++ flat_map line found) (sym more)
