use Rattle.std.proofs.Common.{◌^◌, ◌<◌, sym, subst, ◌∙◌, ap, arith}
use Rattle.plan_tree.specs.Roots.{IsSplit}
use Rattle.plan_space.specs.Search.{SearchShape, IsFound}
use Rattle.plan_space.specs.Steps.{Considers, ReadsRelation}
use Rattle.plan_space.proofs.Filled.{highest-split, least-alone, least-split}
use Rattle.plan_space.proofs.steps.Search.entry_of.Goals as goal
use Rattle.plan_space.proofs.steps.Search.entry_of.Goals.{then-number-side, else-number-side}

pub offered-start-requires-clause-stands : goal.offered-start-requires-clause-stands
offered-start-requires-clause-stands c =
    let sought = c.args.self.now in
    let set = c.number.ensures ∙ ap (λ (one : SearchShape). one.set) c.self.view_is in
    let side = c.number-side.ensures ∙ c.one-alone.ensures in
    subst (λ left. IsSplit left sought.set) (sym side)
    (highest-split c.args.relation sought.set c.requires.least (λ is. c.if-number-side.false (set ∙ is ∙ sym side)) c.requires.highest)

pub nest-requires : goal.nest-requires
nest-requires c =
    let sought = c.args.self.now in
    let same = ap (λ (one : SearchShape). one.set) c.self.view_is in
    let side = c.number-side.ensures ∙ c.one-alone.ensures in
    let split = highest-split c.args.relation sought.set c.requires.least (λ is. c.if-number-side.false (c.number.ensures ∙ same ∙ is ∙ sym side)) c.requires.highest in
    record {
      split = subst (IsSplit c.one-alone.result) (sym same) (subst (λ left. IsSplit left sought.set) (sym c.one-alone.ensures) split);
      of_block = c.self.invariant.below;
    }

pub returns : goal.returns
returns c =
    let sought = c.args.self.now in
    elim c.if-number-side.branch [
      | then-number-side w ↦
          least-alone sought c.if-number-side.start c.joins.result (subst (IsFound sought) (sym w.start-is) w.readings-start.ensures.found)
          (subst (λ e. Considers sought ReadsRelation e e) (sym w.start-is) w.readings-start.ensures.all) c.joins.ensures
      | else-number-side w ↦
          let set = c.number.ensures ∙ ap (λ (one : SearchShape). one.set) c.self.view_is in
          let side = c.number-side.ensures ∙ c.one-alone.ensures in
          let more : 2 ^ c.args.relation < sought.set = omega (arith, side, set, c.requires.least, w.if-number-side.false) in
          least-split sought c.args.relation c.if-number-side.start c.joins.result more c.requires.highest (subst (IsFound sought) (sym w.start-is) w.offered-start.ensures.found) c.joins.ensures
    ]
