use Rattle.std.proofs.Common.{◌≡◌, ◌++◌, List, ap, sym, subst, ◌∙◌, rules}
use Rattle.std.specs.List.Sorted.{IsPermutation}
use Rattle.btree_index.specs.Entries.{IndexEntry, IsInOrder, ordered}
use Rattle.btree_index.proofs.EntryOrder.{ordered_in_order}
use Rattle.btree_index.proofs.Runs.{built_order, built_same, merged_all, merged_few}
use Rattle.btree_index.proofs.index.Index.merged.Goals as goal

pub returns-then-are_few-clause-same : goal.returns-then-are_few-clause-same
returns-then-are_few-clause-same c =
    let older = c.self.inside.older.value in
    let newer = c.self.inside.newer in
    let more = c.args.more.now in
    let few = c.in_ok-of_sorted.field-0 in
    let whole : c.in_ok-older.older.value ≡ older = search rules in
    let joined : c.extend_from_slice.new.self.items ≡ newer ++ more = search rules in
    let moved : IsPermutation (newer ++ more) few =
    subst (λ xs. IsPermutation xs few) joined (subst (IsPermutation c.extend_from_slice.new.self.items) (sym c.in_ok-of_sorted.ensures) c.in_ok-sort.ensures.permutation) in
    subst (λ (xs : List IndexEntry). IsPermutation (xs ++ more) c.of_runs.result) c.self.view_is
    (subst (IsPermutation (ordered (older ++ newer) ++ more)) (sym (c.of_runs.ensures ∙ ap (λ xs. ordered (xs ++ few)) whole)) (merged_few older newer more few moved))

pub returns-then-are_few-clause-order : goal.returns-then-are_few-clause-order
returns-then-are_few-clause-order c = subst IsInOrder (sym c.of_runs.ensures) (ordered_in_order (c.in_ok-older.older.value ++ c.in_ok-of_sorted.field-0))

pub returns-clause-same : goal.returns-clause-same
returns-clause-same c =
    let older = c.self.inside.older.value in
    let newer = c.self.inside.newer in
    let more = c.args.more.now in
    let joined : c.extend_from_slice-3.new.self.items ≡ (older ++ newer) ++ more = search rules in
    let moved : IsPermutation ((older ++ newer) ++ more) c.sort-2.new.self.items =
    subst (λ xs. IsPermutation xs c.sort-2.new.self.items) joined c.in_ok-sort-2.ensures.permutation in
    built_same c.of_one_run.result (c.args.self.now ++ more) _
    (subst (λ (xs : List IndexEntry). IsPermutation (xs ++ more) c.sort-2.new.self.items) c.self.view_is (merged_all older newer more _ moved)) c.of_one_run.ensures

pub returns-clause-order : goal.returns-clause-order
returns-clause-order c = built_order c.of_one_run.result c.sort-2.new.self.items c.of_one_run.ensures
