use Rattle.std.proofs.Common.{◌≡◌, ◌+◌, ◌-◌, ◌*◌, ◌/◌, ◌<◌, ◌≤◌, ℤ, get_or, subst, arith, rules, to_z, of_z, w64}
use Rattle.std.proofs.lemmas.Grind.{common_steps}
use Rattle.std.proofs.Math.Nat.{div-mul-le_self, lt-div-mul-add, mul-le-mul_right}
use Rattle.std.specs.List.Sorted.{IsPartitionPoint}
use Rattle.std.specs.Prelude.{Bool, true, false}
use Rattle.btree_index.specs.Nodes.{is_below, IsCounted}
use Rattle.btree_index.proofs.Nodes.{IsSearched, point_between}
use Rattle.btree_index.proofs.node.first_between.Goals as goal

pub overflow_mul-line : goal.overflow_mul-line
overflow_mul-line g c = grind (arith, common_steps, mul-le-mul_right, div-mul-le_self)

pub overflow_add-begin-2 : goal.overflow_add-begin-2
overflow_add-begin-2 g c = grind (arith, common_steps, mul-le-mul_right, div-mul-le_self)

pub returns-clause-first : goal.returns-clause-first
returns-clause-first g c =
    let begin = c.args.begin in
    let end = c.args.end in
    let wide = c.args.line_items in
    let line = c.count_below-line in
    let lines = c.saturating_sub.result / wide in
    let size = c.min-size in
    let from = c.min-from in
    let items = c.args.items.now in
    let less = div-mul-le_self c.saturating_sub.result wide in
    let more : c.saturating_sub.result < c.saturating_sub.result / wide * wide + wide = lt-div-mul-add c.requires.line in
    let low : lines * wide ≤ end - begin = omega arith in
    let high : end - begin ≤ lines * wide + wide = omega arith in
    let kept : to_z w64 (of_z w64 c.args.word) ≡ c.args.word = search rules in
    let test : ℤ → _ → Bool = λ word item. is_below word (g.T.Worded.word_of item) in
    let point : (d : _) → IsPartitionPoint (λ x. test c.args.word x ≡ true) (λ x. test c.args.word x ≡ false) items (from.result + c.count_below.result) = λ d.
    let searched : IsSearched (test c.args.word) items d begin end wide lines line.result size.result from.result c.count_below.result = record {
      rising = c.requires.rising;
      up = c.requires.there;
      there = c.requires.ends;
      none_before = c.requires.before;
      none_behind = c.requires.behind;
      some = c.requires.line;
      low = low;
      high = high;
      so = subst (λ w. IsCounted (λ i. test w (get_or items (begin + (wide - 1) + i * wide) d)) line.result lines) kept (line.ensures.counted d);
      s = size.ensures;
      f = from.ensures;
      last = subst (λ w. IsCounted (λ i. test w (get_or items (from.result + i * 1) d)) c.count_below.result size.result) kept (c.count_below.ensures.counted d);
    } in
    point_between searched in
    (λ k d l m. (point d).0 k d l m, λ k d l m. (point d).1 k d l m)
