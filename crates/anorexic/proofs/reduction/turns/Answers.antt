use Rattle.std.proofs.Common.{ℕ, ◌≡◌, ◌-◌, ◌+◌, ◌<◌, ◌++◌, [], ◌∷◌, ◌*◌, ◌≤◌, All, length, map, arith, ap, subst, sym, ◌∙◌}
use Rattle.std.specs.Prelude.{false, not, filter, slice_index_or}
use Rattle.std.specs.List.{range_with_len}
use Rattle.std.specs.Ordering.{is_gt}
use Rattle.std.proofs.lemmas.Bool.{eqb-true, eqb-false}
use Rattle.std.proofs.lemmas.List.{append-nil, length-replicate, nil_from_length}
use Rattle.std.proofs.lemmas.List.Elements.{All-nil, All-push, All-filter}
use Rattle.std.proofs.lemmas.Result.{IfOk-from_err}
use Rattle.plan_tree.specs.Plans.{plan_tree}
use Rattle.cost_model.specs.Greedy.{greedy_turns}
use Rattle.plan_space.specs.FrontierPlans.{nth_point}
use Rattle.anorexic.specs.Turns.{AreCoverCounts, is_marked, plan_at, turn_order}
use Rattle.anorexic.proofs.Table.{row-within}
use Rattle.anorexic.proofs.Steps.{all-points, lent-back, places-within, takes-more}
use Rattle.anorexic.proofs.Turns.{none-left, no-turns}
use Rattle.anorexic.proofs.reduction.turns.Goals as goal

pub count_points-requires : goal.count_points-requires
count_points-requires c = record {
  rows = λ k d below.
      let counts = c.as_mut_slice.result.now in
      let places = c.as_slice.result.now in
      let wide : length counts ≡ length c.args.candidates.now =
      ap length (c.as_mut_slice.ensures.value ∙ c.in_ok-counts.ensures.items_if_clones_equal (λ x same. same)) ∙ length-replicate _ 0 in
      let within = subst (All (λ place. place < c.args.points)) (sym (c.as_slice.ensures.value ∙ c.in_ok-uncovered.ensures)) (places-within c.args.points) k d below in
      subst (λ width. slice_index_or places k d * width + width ≤ length c.args.table.now) (sym wide)
      (omega (arith, row-within (slice_index_or places k d) c.args.points (length c.args.candidates.now) within, c.requires.table));
}

pub loop-turn-init : goal.loop-turn-init
loop-turn-init c =
    let count = c.args.points in
    let plans = c.args.candidates.now in
    let table = c.args.table.now in
    let counts = c.in_ok-counts.counts in
    let counted = c.count_points.new.counts in
    let none = c.new-taken.ensures.items in
    let all = c.in_ok-uncovered.ensures in
    let zeros : length counts.items ≡ length plans = ap length (c.in_ok-counts.ensures.items_if_clones_equal (λ x same. same)) ∙ length-replicate _ 0 in
    let long : length counted ≡ length counts.items = c.count_points.ensures.long ∙ ap length c.as_mut_slice.ensures.value in
    let back = lent-back counts.len counted counts.items (counts.ok.0 ∙ sym long) in (
      subst (All (λ number. number < length plans)) (sym none) (All-nil (λ number. number < length plans)),
      subst (All (λ place. place < count)) (sym all) (places-within count),
      ap length back ∙ long ∙ zeros,
      subst (AreCoverCounts table c.in_ok-uncovered.uncovered.items) (sym back) (subst (λ places. AreCoverCounts table places counted) c.as_slice.ensures.value c.count_points.ensures.counted),
      λ costing threshold points long _.
          let whole : count - 0 ≡ count = omega arith in
          let places = ap (map (nth_point points)) (all ∙ ap (range_with_len 0) (sym long)) ∙ all-points points in
          λ i. map (plan_at plans) (none i) ++ greedy_turns costing threshold (map plan_tree plans) (whole i) (places i),
    )

pub returns-then-is_empty : goal.returns-then-is_empty
returns-then-is_empty c =
    let count = c.args.points in
    let plans = c.args.candidates.now in
    let taken = map (plan_at plans) c.loop-turn.taken.items in
    let uncovered = c.loop-turn.uncovered in
    let turns = count - c.loop-turn._turn in
    let none = nil_from_length uncovered.items (omega (arith, eqb-true _ _ (sym c.is_empty.ensures ∙ c.if-is_empty.true))) in
    record {
      within = c.loop-turn.invariant.0;
      greedy = λ costing threshold points long is.
          sym (append-nil taken)
          ∙ ap (λ rest. taken ++ rest) (sym (none-left costing threshold (map plan_tree plans) turns))
          ∙ ap (λ places. taken ++ greedy_turns costing threshold (map plan_tree plans) turns (map (nth_point points) places)) (sym none)
          ∙ c.loop-turn.invariant.4 costing threshold points long is;
    }

pub first_candidate-candidate-requires-clause-some : goal.first_candidate-candidate-requires-clause-some
first_candidate-candidate-requires-clause-some c =
    let some = eqb-false _ _ (sym c.is_empty.ensures ∙ c.if-is_empty.false) in
    let there = c.loop-turn.invariant.1 0 0 (omega (arith, some)) in
    c.requires.some (omega (arith, there))

pub close-requires-clause-rows : goal.close-requires-clause-rows
close-requires-clause-rows c = λ k d below.
    omega (arith, row-within (slice_index_or c.loop-turn.uncovered.items k d) c.args.points (length c.args.candidates.now) (c.loop-turn.invariant.1 k d below), c.requires.table)

pub returns-in_err-push : goal.returns-in_err-push
returns-in_err-push c = IfOk-from_err c.from_residual-in_err-push.result _ c.from_residual-in_err-push.ensures.0

pub loop-turn-preserved : goal.loop-turn-preserved
loop-turn-preserved c =
    let count = c.args.points in
    let plans = c.args.candidates.now in
    let table = c.args.table.now in
    let candidate = c.first_candidate-candidate.result in
    let taken = c.loop-turn.taken.items in
    let uncovered = c.loop-turn.uncovered.items in
    let turn = c.loop-turn._turn in
    let counts = c.loop-turn.counts in
    let counted = c.close.new.counts in
    let few = c.first_candidate-candidate.ensures.candidate in
    let more : c.push.new.self.items ≡ taken ++ candidate ∷ [] = c.in_ok-push.ensures.items in
    let left : c.close.new.uncovered.items ≡ filter (λ place. not (is_marked table (length plans) candidate place)) uncovered = c.close.ensures.uncovered in
    let some = eqb-false _ _ (sym c.is_empty.ensures ∙ c.if-is_empty.false) in
    let first = λ (other : ℕ) (less : other < length plans).
    subst (λ places. is_gt (turn_order plans table places candidate other) ≡ false) c.as_slice-in-loop-turn.ensures.value (c.first_candidate-candidate.ensures.first other less) in
    let next = takes-more count plans table taken uncovered candidate turn c.loop-turn-test.true c.loop-turn.invariant.1 (omega (arith, some)) few first c.loop-turn.invariant.4 in
    let back = lent-back counts.len counted counts.items (counts.ok.0 ∙ c.loop-turn.invariant.2 ∙ sym c.close.ensures.long) in (
      subst (All (λ number. number < length plans)) (sym more) (All-push (λ number. number < length plans) taken candidate c.loop-turn.invariant.0 few),
      subst (All (λ place. place < count)) (sym left)
          (All-filter (λ place. not (is_marked table (length plans) candidate place)) (λ place. place < count) uncovered c.loop-turn.invariant.1),
      ap length back ∙ c.close.ensures.long,
      subst (AreCoverCounts table c.close.new.uncovered.items) (sym back) c.close.ensures.counts,
      λ costing threshold points long is.
          (λ i. map (plan_at plans) (more i) ++ greedy_turns costing threshold (map plan_tree plans) (count - (turn + 1)) (map (nth_point points) (left i)))
          ∙ next costing threshold points long is,
    )

pub returns : goal.returns
returns c =
    let count = c.args.points in
    let plans = c.args.candidates.now in
    let trees = map plan_tree plans in
    let taken = map (plan_at plans) c.loop-turn.taken.items in
    let none : count - c.loop-turn._turn ≡ 0 = omega arith in
    record {
      within = c.loop-turn.invariant.0;
      greedy = λ costing threshold points long is.
          let left_open = map (nth_point points) c.loop-turn.uncovered.items in
          sym (append-nil taken)
          ∙ ap (λ rest. taken ++ rest) (sym (no-turns costing threshold trees left_open))
          ∙ ap (λ n. taken ++ greedy_turns costing threshold trees n left_open) (sym none)
          ∙ c.loop-turn.invariant.4 costing threshold points long is;
    }
