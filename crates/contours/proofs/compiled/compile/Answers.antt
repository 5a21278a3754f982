use Rattle.std.proofs.Common.{◌≡◌, ◌∙◌, ap, arith, rules, subst, sym}
use Rattle.std.proofs.lemmas.List.{length-map}
use Rattle.cost_model.specs.Costing.{CostingShape, costing_tree}
use Rattle.bouquet_type.specs.Shapes.{BouquetShape}
use Rattle.bouquet_type.specs.Trees.{IsOutline, bouquet_tree, contour_tree}
use Rattle.bouquet_type.specs.Compiled.{IsCompiled}
use Rattle.bouquet_type.specs.Sound.{IsSound}
use Rattle.contours.specs.Contours.{AreContours, bouquet_of}
use Rattle.contours.proofs.compiled.compile.Goals as goal

pub new-bouquet-requires : goal.new-bouquet-requires
new-bouquet-requires c =
    let contours = c.in_ok-made.made.contours.items in
    let are = subst (λ (one : CostingShape). AreContours (costing_tree one) c.args.threshold contours) c.new.ensures c.in_ok-made.ensures.contours in
    record {
      costing = search rules;
      threshold = c.requires.threshold;
      some = omega (arith, are.compiled.some, length-map contours contour_tree);
      few = are.few;
      contours = are.each;
    }

pub with_outline-requires : goal.with_outline-requires
with_outline-requires c =
    let made = c.in_ok-made.made in
    let outline = subst (λ (one : CostingShape). IsOutline (bouquet_of (costing_tree one) c.args.threshold made.contours.items) made.outline) c.new.ensures c.in_ok-made.ensures.outline in
    subst (λ (b : BouquetShape). IsOutline (bouquet_tree b) made.outline) (sym c.new-bouquet.ensures) outline

pub returns : goal.returns
returns c =
    let made = c.with_outline.ensures ∙ c.new-bouquet.ensures in
    let contours = c.in_ok-made.made.contours.items in
    let costing : CostingShape = record { block = c.args.block; stats = c.args.stats; grid = c.args.grid } in
    let are = subst (λ (one : CostingShape). AreContours (costing_tree one) c.args.threshold contours) c.new.ensures c.in_ok-made.ensures.contours in
    let tree : bouquet_tree c.with_outline.result ≡ bouquet_of (costing_tree costing) c.args.threshold contours = ap bouquet_tree made in
    record {
      block = ap (λ (b : BouquetShape). b.block) made;
      stats = ap (λ (b : BouquetShape). b.stats) made;
      grid = ap (λ (b : BouquetShape). b.grid) made;
      threshold = ap (λ (b : BouquetShape). b.threshold) made;
      whole = tree ∙ are.whole;
      compiled = subst IsCompiled (sym tree) are.compiled;
      sound = subst IsSound (sym tree) are.sound;
    }
