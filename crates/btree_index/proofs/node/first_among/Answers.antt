use Rattle.std.proofs.Common.{◌≡◌, ◌+◌, ◌*◌, ◌≤◌, length, pos, get_or, subst, arith, rules, to_z, of_z, w64}
use Rattle.btree_index.specs.Nodes.{is_entry_below, IsCounted}
use Rattle.btree_index.proofs.Nodes.{point_nearby}
use Rattle.btree_index.proofs.node.first_among.Goals as goal
use Rattle.btree_index.proofs.node.first_among.Goals.{else-place-from-via-else-place-from, else-place-from-via-then-place-from+else-from-size}

pub returns-clause-first : goal.returns-clause-first
returns-clause-first c =
    let entries = c.args.entries.now in
    let size = c.min-size.result in
    let from = c.min-from.result in
    let below = c.count_below.result in
    let kept : to_z w64 (of_z w64 c.args.word) ≡ c.args.word = search rules in
    let last : from + below ≡ from + size → length entries ≤ from + below = elim c.else-place-from.branch [
      | else-place-from-via-else-place-from w ↦ λ e. absurd (w.if-place-from.false e)
      | else-place-from-via-then-place-from+else-from-size w ↦ λ e. omega arith
    ] in
    point_nearby (is_entry_below c.args.word) entries (pos 0, 0) from size below c.requires.rising (omega arith) (λ k d l m. c.requires.before k d l (omega arith))
    (subst (λ w. IsCounted (λ i. is_entry_below w (get_or entries (from + i * 1) (pos 0, 0))) below size) kept (c.count_below.ensures.counted (pos 0, 0))) last
