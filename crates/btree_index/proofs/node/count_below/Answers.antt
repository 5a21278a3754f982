use Rattle.std.proofs.Common.{◌≡◌, ℕ, ◌+◌, ◌*◌, ◌<◌, ℤ, get_or, length, Bool, true, false, subst, sym, arith, rules, to_z, of_z, w64}
use Rattle.std.proofs.Math.Nat.{mul-le-mul_right}
use Rattle.std.specs.List.Sorted.{IsPartitionedBy}
use Rattle.btree_index.specs.Nodes.{is_below, IsCounted}
use Rattle.btree_index.proofs.Nodes.{at_default, counted_pass, counted_fail}
use Rattle.btree_index.proofs.node.count_below.Goals as goal
use Rattle.btree_index.proofs.node.count_below.Goals.{then-word, else-word}

pub loop-i-preserved : goal.loop-i-preserved
loop-i-preserved g c =
    let at = c.loop-i.i in
    let kept : to_z w64 (of_z w64 c.args.word) ≡ c.args.word = search rules in
    let word : ℤ = to_z w64 (of_z w64 c.args.word) in
    let test : _ → Bool = λ item. is_below word (g.T.Worded.word_of item) in
    let items = c.args.items.now in
    let place = c.args.first + at * c.args.step in
    let rising : IsPartitionedBy test items = subst (λ z. IsPartitionedBy (λ item. is_below z (g.T.Worded.word_of item)) items) (sym kept) c.requires.rising in
    let passes : _ → ℕ → Bool = λ d i. test (get_or items (c.args.first + i * c.args.step) d) in
    let there : place < length items = c.requires.there at c.loop-i-test.true in
    let read : c.index-items-first.result ≡ get_or items place c.index-items-first.result = c.index-items-first.is in
    elim c.if-word.branch [
      | then-word w ↦
          let seen : test c.index-items-first.result ≡ true = search rules in
          let here = subst (λ x. test x ≡ true) read seen in (
            omega (arith, c.loop-i.invariant.0, w.below-is),
            λ d. subst (λ n. IsCounted (passes d) n (at + 1)) (sym w.below-is)
                (counted_pass (passes d) c.loop-i.below at (λ i l.
                rising (c.args.first + i * c.args.step) place d (omega (arith, mul-le-mul_right c.args.step l)) there
                (at_default test items place d c.index-items-first.result true there here)) (c.loop-i.invariant.1 d)),
          )
      | else-word w ↦
          let seen : test c.index-items-first.result ≡ false = search rules in
          let here = subst (λ x. test x ≡ false) read seen in (
            omega (arith, c.loop-i.invariant.0, w.below-is),
            λ d. subst (λ n. IsCounted (passes d) n (at + 1)) (sym w.below-is)
                (counted_fail (passes d) c.loop-i.below at (at_default test items place d c.index-items-first.result false there here) (c.loop-i.invariant.1 d)),
          )
    ]

pub returns-clause-counted : goal.returns-clause-counted
returns-clause-counted g c =
    let kept : to_z w64 (of_z w64 c.args.word) ≡ c.args.word = search rules in
    let all : c.loop-i.i ≡ c.args.count = omega (arith, c.loop-i-test.false, c.loop-i.auto.i-end) in
    let passes : ℤ → _ → ℕ → Bool = λ word d i. is_below word (g.T.Worded.word_of (get_or c.args.items.now (c.args.first + i * c.args.step) d)) in
    λ d. subst (λ n. IsCounted (passes c.args.word d) c.loop-i.below n) all
    (subst (λ w. IsCounted (passes w d) c.loop-i.below c.loop-i.i) kept (c.loop-i.invariant.1 d))
