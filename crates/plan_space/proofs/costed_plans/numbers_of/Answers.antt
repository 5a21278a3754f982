use Rattle.std.proofs.Common.{ℕ, List, ◌≡◌, ◌∙◌, ◌+◌, ◌++◌, [], ◌∷◌, ap, map, subst, sym, take}
use Rattle.std.proofs.lemmas.List.{map_more}
use Rattle.plan_tree.specs.declared.plan.Plan.{Plan}
use Rattle.plan_tree.specs.Plans.{plan_tree}
use Rattle.plan_space.specs.CostedPlans.{AreNumbersOf}
use Rattle.plan_space.proofs.Added.{numbered-more}
use Rattle.plan_space.proofs.costed_plans.numbers_of.Goals as goal

pub loop-p-preserved : goal.loop-p-preserved
loop-p-preserved c =
    let plans = c.args.plans.now in
    let place = c.loop-p.p-index in
    let p = c.p-item.result in
    let trees = map plan_tree (take place plans) in
    let after = c.number.new.self in
    let numbers = c.loop-p.numbers.items in
    let number = c.in_ok-number.field-0 in
    let kept = c.in_ok-number.ensures.kept in
    let more : trees ++ plan_tree p ∷ [] ≡ map plan_tree (take (place + 1) plans) =
    ap (λ (one : Plan). trees ++ plan_tree one ∷ []) c.p-item.is ∙ sym (map_more plan_tree plans place p c.loop-p-test.true) in
    record {
      block = kept.block ∙ c.loop-p.invariant.block;
      numbers = subst (AreNumbersOf after (map plan_tree (take (place + 1) plans))) (sym {A = List ℕ} c.in_ok-push.ensures.items)
          (subst (λ all. AreNumbersOf after all (numbers ++ number ∷ [])) more
          (numbered-more c.loop-p.parts after trees numbers number (plan_tree p) kept c.in_ok-number.ensures.there c.loop-p.invariant.numbers));
    }
