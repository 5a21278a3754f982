use Rattle.std.proofs.Common.{IsSome, ◌∙◌, ap, sym, subst}
use Rattle.plan_space.proofs.Counts.{scannable}
use Rattle.plan_space.proofs.leaves.is_scannable.Goals as goal

pub returns : goal.returns
returns c =
    let both = scannable c.args.prices.now.costing c.args.relation c.args.column c.block-block.ensures.costing c.requires.relation c.requires.column in
    let same = ap (λ index. index.matches) c.index.ensures.stats in (
      λ on. both.0 (subst IsSome same (sym c.is_some.ensures ∙ on)),
      λ scan. c.is_some.ensures ∙ subst IsSome (sym same) (both.1 scan),
    )
